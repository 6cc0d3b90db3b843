-- A loop that writes one place after another: the first i places are by a rule, the later ones as they were.
use Prim.Native.Nat.{ℕ, ◌+◌, ◌<◌, ◌≤◌}
use mathlib.Core.Path.{◌≡◌, refl, ◌∙◌}
use mathlib.Core.List.{List}
use native.Mathlib.Omega.{arith}
use lib.ListN.{length, get_or, set, length-set}
use lib.Seq.{get_or-set_same, get_or-set_other}
use Rattle.words.proofs.Cases.{by_eq}

pub record Written (f : ℕ → ℕ) (before : List ℕ) (i : ℕ) (l : List ℕ) : Type 0 where
  pub long : length l ≡ length before
  pub first : (k : ℕ) → k < i → get_or l k 0 ≡ f k
  pub rest : (k : ℕ) → i ≤ k → get_or l k 0 ≡ get_or before k 0

pub none_written : (f : ℕ → ℕ) (before : List ℕ) → Written f before 0 before
none_written f before = record {
  long = refl;
  first = λ k h. absurd (let z : ⊥ = omega arith in z);
  rest = λ k h. refl;
}

pub one_written : (f : ℕ → ℕ) (before : List ℕ) (i : ℕ) (l : List ℕ) (v : ℕ) → i < length l → v ≡ f i → Written f before i l → Written f before (i + 1) (set l i v)
one_written f before i l v h e W = record {
  long = simp length-set W.long;
  first = λ k q. by_eq k i
      (λ x. rw x (get_or-set_same l i v 0 h ∙ e))
      (λ n. get_or-set_other l i k v 0 n ∙ W.first k (omega arith));
  rest = λ k q. get_or-set_other l i k v 0 (λ x. omega arith) ∙ W.rest k (omega arith);
}
