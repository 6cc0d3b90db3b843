-- Answers of the definitions, taken apart.
use Prim.Native.Nat.{ℕ, zero, suc}
use mathlib.Core.Path.{◌≡◌, refl}
use native.Mathlib.Omega.{arith}
use Rattle.report.specs.Report.{Answer, refused, given, unless}

pub not_given : {A : Type 0} (n k : ℕ) (x : A) → refused n k ≡ given x → ⊥
not_given n k x h = let z : ◌≡◌ {A = ℕ} 0 1 = cc in omega arith

pub unless_given : {A : Type 0} (n : ℕ) (y : Answer A) (x : A) → unless n y ≡ given x → (n ≡ 0) × (y ≡ given x)
unless_given zero y x h = (refl, h)
unless_given (suc n) y x h = absurd (not_given (suc n) 0 x h)

pub unless_some : {A : Type 0} (n : ℕ) (a : Answer A) → (n ≡ 0 → ⊥) → unless n a ≡ refused n 0
unless_some zero a h = absurd (h refl)
unless_some (suc n) a h = refl
