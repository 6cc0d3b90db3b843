-- Laws of rows: one for each way the search for a byte goes, over the values that the code has.
use Prim.Native.Nat.{ℕ, ◌+◌, ◌<◌, ◌≤◌}
use mathlib.Core.Path.{◌≡◌, sym}
use mathlib.Core.List.{List}
use native.Mathlib.Omega.{arith}
use native.Mathlib.Numerals.{add-one}
use lib.ListN.{length, get_or, drop, drop_of_length-le}
use lib.Seq.{drop-cons, length-take-le}
use borrow.Author.Tests.{eq-eqb, ne_eqb, lt-ltb, le-ltb}
use Rattle.checks.specs.Inner.Rows.{before, row_place, Place, field_place}

module _ (b from : ℕ) (xs : List ℕ) where
  pub place_past : length xs < from → Place b from xs (length xs)
  unfolding row_place
  place_past h = record { is = rw (lt-ltb (length xs) from h); within = (omega arith, sym (length-take-le (length xs) xs (omega arith))); onward = omega arith }

  -- the search stands at place i, and has the rest to find
  pub place_from : (i : ℕ) → from ≤ i → i ≤ length xs → i ≡ from + before b (drop from xs) → Place b from xs i
  unfolding row_place
  place_from i h k e = record { is = rw (le-ltb (length xs) from (let q : from ≤ length xs = omega arith in q)) e; within = (k, sym (length-take-le i xs k)); onward = omega arith }

module _ (b i : ℕ) (xs : List ℕ) where
  pub before_none : length xs ≤ i → i + before b (drop i xs) ≡ i
  unfolding before
  before_none h = rw (drop_of_length-le xs {i = i} h) (omega arith)

  pub before_here : i < length xs → get_or xs i 0 ≡ b → i + before b (drop i xs) ≡ i
  unfolding before
  before_here h e = rw (drop-cons xs i 0 h, eq-eqb (get_or xs i 0) b e) (omega arith)

  pub before_next : i < length xs → (get_or xs i 0 ≡ b → ⊥) → i + before b (drop i xs) ≡ i + 1 + before b (drop (i + 1) xs)
  unfolding before
  before_next h n = rw (drop-cons xs i 0 h, ne_eqb (get_or xs i 0) b n, add-one i) (omega arith)

pub field_next : (row : List ℕ) (k at r : ℕ) → at ≡ field_place row k → r ≡ row_place 32 at row → r + 1 ≡ field_place row (k + 1)
unfolding field_place
field_next row k at r e f = rw (add-one k, ← e, ← f)
