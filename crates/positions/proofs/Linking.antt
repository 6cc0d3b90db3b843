-- Events linked one after another: `link`.
use mathlib.Core.Path.{◌≡◌, sym, ◌∙◌, ap}
use mathlib.Core.List.{List}
use Prim.Native.Nat.{ℕ, ◌+◌, ◌-◌, ◌≤◌, ◌<◌}
use native.Mathlib.Omega.{arith}
use lib.ListN.{length, get_or, set, length-set}
use lib.Seq.{get_or-set_same, get_or-set_other}
use Rattle.words.proofs.Cases.{by_eq}
use Rattle.columns.specs.Inner.Full.{at_w}
use Rattle.positions.specs.Inner.Positions.{Linked}

pub linked_none : (t earlier latest : List ℕ) → length earlier ≡ 2049 → length latest ≡ 64 → ((z : ℕ) → get_or latest z 0 ≡ 0) → Linked t 0 earlier latest
linked_none t earlier latest a b h = record {
  long = a;
  wide = b;
  before = λ e u v. absurd (let y : ⊥ = omega arith in y);
  last = λ z l. record {
    within = omega (arith, h z);
    own = λ u. absurd (let y : ⊥ = omega (arith, h z) in y);
    others = λ y u v i. omega arith;
  };
}

pub linked_next : (t earlier latest : List ℕ) (x z : ℕ) → x < 2048 → z ≡ at_w t (x + 1) → Linked t x earlier latest
    → Linked t (x + 1) (set earlier (x + 1) (get_or latest z 0)) (set latest z (x + 1))
linked_next t earlier latest x z few ez L = record {
  long = simp length-set L.long;
  wide = simp length-set L.wide;
  before = λ e u v. by_eq e (x + 1)
      (λ i. let n = L.last z (omega arith) in
      rw (i, get_or-set_same earlier (x + 1) (get_or latest z 0) 0 (omega (arith, L.long))) (record {
        within = omega (arith, n.within);
        own = λ p. n.own p ∙ ez;
        others = λ y p q j. n.others y p (omega arith) (j ∙ sym ez);
      }))
      (λ i. rw (get_or-set_other earlier (x + 1) e (get_or latest z 0) 0 i) (L.before e u (omega arith)));
  last = λ y l. by_eq y z
      (λ i. rw (i, get_or-set_same latest z (x + 1) 0 (omega (arith, L.wide))) (record {
        within = omega arith;
        own = λ p. sym ez;
        others = λ w p q j. omega arith;
      }))
      (λ i. let n = L.last y l in
      rw (get_or-set_other latest z y (x + 1) 0 i) (record {
        within = omega (arith, n.within);
        own = n.own;
        others = λ w p q j. by_eq w (x + 1) (λ k. i (sym j ∙ ap (λ (v : ℕ). at_w t v) k ∙ sym ez)) (λ k. n.others w p (omega arith) j);
      }));
}

-- a turn of the loop, at event e
pub linked_turn : (t earlier latest : List ℕ) (e z : ℕ) → 0 < e → e ≤ 2048 → z ≡ at_w t e → Linked t (e - 1) earlier latest
    → Linked t (e + 1 - 1) (set earlier e (get_or latest z 0)) (set latest z e)
linked_turn t earlier latest e z p few ez L =
    let a : e - 1 + 1 ≡ e = omega (arith, p) in
    let b : e + 1 - 1 ≡ e = omega arith in
    rw b (rw a at (linked_next t earlier latest (e - 1) z (omega (arith, p, few)) (ez ∙ ap (λ (k : ℕ). at_w t k) (sym a)) L))
