-- A process followed back along its links: `go_back`. What it finds is where the process restarts.
use mathlib.Core.Path.{◌≡◌, subst}
use mathlib.Core.List.{List}
use Prim.Native.Nat.{ℕ, ◌-◌, ◌<◌, ◌≤◌}
use native.Mathlib.Omega.{arith}
use lib.ListN.{get_or}
use Rattle.words.proofs.Cases.{by_eq, by_lt}
use Rattle.columns.specs.Inner.Full.{at_w, epoch_w}
use Rattle.positions.specs.Inner.Positions.{Newest, Linked, Walked}

-- between two steps: the events after e are undone, and f is the first of them
pub record Walking (t : List ℕ) (cut z number e f : ℕ) : Type 0 where
  pub within : e ≤ cut
  pub own : 0 < e → at_w t e ≡ z
  pub undone : (y : ℕ) → e < y → y ≤ cut → at_w t y ≡ z → number ≤ epoch_w t y
  pub first_own : 0 < f → (e < f) × (f ≤ cut) × (at_w t f ≡ z)
  pub first : (y : ℕ) → e < y → y ≤ cut → at_w t y ≡ z → (0 < f) × (f ≤ y)

pub walk_begins : (t : List ℕ) (cut z number e : ℕ) → Newest t z cut e → Walking t cut z number e 0
walk_begins t cut z number e N = record {
  within = N.within;
  own = N.own;
  undone = λ y a b i. absurd (N.others y a b i);
  first_own = λ p. absurd (let q : ⊥ = omega arith in q);
  first = λ y a b i. absurd (N.others y a b i);
}

pub walk_goes_on : (t : List ℕ) (cut z number e f : ℕ) (earlier latest : List ℕ) → Linked t cut earlier latest → 0 < e → number ≤ epoch_w t e
    → Walking t cut z number e f → Walking t cut z number (get_or earlier e 0) e
walk_goes_on t cut z number e f earlier latest L p u W =
    let N : Newest t z (e - 1) (get_or earlier e 0) = subst (λ (y : ℕ). Newest t y (e - 1) (get_or earlier e 0)) (W.own p) (L.before e p W.within) in
    record {
      within = omega (arith, N.within, W.within);
      own = N.own;
      undone = λ y a b i. by_lt e y (λ h. W.undone y h b i)
          (λ h. by_eq y e (λ j. rw j u) (λ n. absurd (N.others y a (omega arith) i)));
      first_own = λ q. (omega (arith, N.within), W.within, W.own p);
      first = λ y a b i. by_lt e y (λ h. (p, omega arith))
          (λ h. by_eq y e (λ j. (p, omega arith)) (λ n. absurd (N.others y a (omega arith) i)));
    }

pub walk_ends : (t : List ℕ) (cut z number e f : ℕ) → Walking t cut z number e f → (0 < e → epoch_w t e < number) → Walked t cut z number e f
walk_ends t cut z number e f W d = record {
  within = W.within;
  own = W.own;
  done = d;
  undone = W.undone;
  first_own = W.first_own;
  first = W.first;
}
