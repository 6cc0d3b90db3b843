-- The zeros at the end of a number, by whether it is even.
use Prim.Native.Nat.{ℕ, suc, ◌/◌, ◌%◌}
use mathlib.Core.Path.{◌≡◌}
use lib.Count.{count_trailing_zeros}

module _ (k m : ℕ) where
  pub even_zeros : m % 2 ≡ 0 → count_trailing_zeros (suc k) m ≡ suc (count_trailing_zeros k (m / 2))
  unfolding count_trailing_zeros
  even_zeros h = rw h

  pub odd_zeros : m % 2 ≡ 1 → count_trailing_zeros (suc k) m ≡ 0
  unfolding count_trailing_zeros
  odd_zeros h = rw h
