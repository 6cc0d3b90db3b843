-- Halves tell the number, and the number its halves.
use Prim.Native.Nat.{ℕ, zero, suc, ◌<◌, ◌≤◌}
use mathlib.Core.Path.{◌≡◌, refl}
use native.Mathlib.Omega.{arith}
use Rattle.words.specs.Halves.{half, from_halves}

-- what holds of each half holds of both
pub each_half : (P : ℕ → Type 0) → P 0 → P 1 → (b : ℕ) → b < 2 → P b
each_half P low high zero l = low
each_half P low high (suc zero) l = high
each_half P low high (suc (suc b)) l = absurd (let z : ⊥ = omega arith in z)

pub half_lt : (b v : ℕ) → half b v < 4294967296
unfolding half
half_lt zero v = omega arith
half_lt (suc b) v = omega arith

pub half_none : (b : ℕ) → half b 0 ≡ 0
unfolding half
half_none zero = refl
half_none (suc b) = refl

pub halves_back : (v : ℕ) → v ≤ 18446744073709551615 → from_halves (half 0 v) (half 1 v) ≡ v
unfolding half
halves_back v h = omega arith

-- two words are the halves of their number
module _ (low high : ℕ) (l : low < 4294967296) (h : high < 4294967296) where
  pub half_low : half 0 (from_halves low high) ≡ low
  unfolding half
  half_low = omega arith

  pub half_high : half 1 (from_halves low high) ≡ high
  unfolding half
  half_high = omega arith
