-- One law for each way out of a function and each way round a loop, over the values that the code has there.
use mathlib.Core.Path.{◌≡◌}
use mathlib.Core.List.{List}
use Prim.Native.Nat.{ℕ, ◌+◌, ◌≤◌, ◌<◌}
use native.Mathlib.Omega.{arith}
use lib.ListN.{length, get_or, set}
use lib.Seq.{get_or-set_same, get_or-set_other}
use Rattle.words.proofs.Cases.{by_eq}

-- one word more is 0
pub zero_more : (a : List ℕ) (from i : ℕ) → i < length a → ((k : ℕ) → from ≤ k → k < i → get_or a k 0 ≡ 0) → (k : ℕ) → from ≤ k → k < i + 1 → get_or (set a i 0) k 0 ≡ 0
zero_more a from i h z k p q = by_eq k i
    (λ e. rw (e, get_or-set_same a i 0 0 h))
    (λ n. rw (get_or-set_other a i k 0 0 n) (z k p (omega (arith, n))))
