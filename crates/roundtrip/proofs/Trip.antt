-- Both ways out of `comes_back`.
use Prim.Native.Nat.{ℕ}
use mathlib.Core.Path.{◌≡◌}
use mathlib.Core.Bool.{Bool, false}
use mathlib.Core.List.{List}
use lib.ListN.{length}
use borrow.Author.Tests.{eq-eqb, ne_eqb}
use Rattle.text.specs.Key.{key_at}
use Rattle.rendering.specs.Write.{write_answer, write_buffer}
use Rattle.roundtrip.specs.Trip.{comes_back}

module _ (a text out : List ℕ) (n : ℕ) (e : n ≡ (write_answer a (length out)).length) where
  pub other_length : (n ≡ length text → ⊥) → false ≡ comes_back a text out
  unfolding comes_back
  other_length h = rw (← e, ne_eqb n (length text) h)

  pub same_length_is : (after : List ℕ) (r : Bool) → n ≡ length text → after ≡ write_buffer a out → r ≡ key_at after 0 text → r ≡ comes_back a text out
  unfolding comes_back
  same_length_is after r h b k = rw (← e, eq-eqb n (length text) h, ← b, k)
