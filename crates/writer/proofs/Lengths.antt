-- How many bytes a number takes, and a key with its number.
use Prim.Native.Nat.{ℕ, zero, suc, ◌+◌, ◌/◌, ◌%◌, ◌<◌, ◌≤◌}
use mathlib.Core.List.{List, [], ◌∷◌, ◌++◌}
use native.Mathlib.Omega.{arith}
use lib.ListN.{length, length-append}
use borrow.Author.Tests.{lt-ltb, le-ltb}
use Rattle.text.specs.Number.{last_digits, decimal}
use Rattle.text.proofs.Numbers.{last_small, last_more}
use Rattle.words.proofs.Cases.{by_lt}

digits_few : (n v : ℕ) → length (last_digits n v) ≤ n
unfolding last_digits
digits_few zero v = omega arith
digits_few (suc n) v =
    by_lt v 10
    (λ h. rw (lt-ltb v 10 h) (omega arith))
    (λ h. rw (le-ltb v 10 h) (omega (arith, length-append (last_digits n (v / 10)) ((48 + v % 10) ∷ []), digits_few n (v / 10))))

-- every number
pub number_few : (v : ℕ) → length (decimal v) ≤ 20
number_few = digits_few 20

-- a key and a number before the rest of a line
pub pair_few : (k rest : List ℕ) (v n : ℕ) → length rest ≤ n → length (k ++ decimal v ++ rest) ≤ length k + 20 + n
pair_few k rest v n h =
    omega (arith, length-append (k ++ decimal v) rest, length-append k (decimal v), number_few v)

-- a number below 100
pub small_few : (v : ℕ) → v < 100 → length (decimal v) ≤ 2
small_few v h =
    by_lt v 10
    (λ l. rw (last_small 19 v l) (omega arith))
    (λ g. rw (last_more 19 v g, last_small 18 (v / 10) (omega arith)) (omega arith))
