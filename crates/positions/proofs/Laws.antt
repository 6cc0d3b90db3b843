-- One law for each way out of a function, over the values that the code has there.
use mathlib.Core.Path.{◌≡◌}
use mathlib.Core.Bool.{true, ◌||◌, cond}
use mathlib.Core.List.{List}
use Prim.Native.Nat.{ℕ, ◌+◌, ◌<◌, ◌≤◌}
use native.Mathlib.Omega.{arith}
use lib.Dec.{eqb, ltb}
use borrow.Author.Tests.{ne_eqb, lt-ltb, le-ltb}
use Rattle.words.proofs.Cases.{by_lt}
use Rattle.columns.specs.Inner.Columns.{phase_base}
use Rattle.positions.specs.Inner.Positions.{after_w, restart_phase}

-- ---- `restart_phase`

pub phase_kept : (t : List ℕ) (n e p : ℕ) → p ≡ after_w t phase_base e → (eqb n 32 || eqb n 1) ≡ true → p ≡ restart_phase t n e
phase_kept t n e p h b = rw b (omega (arith, h))

pub phase_raised : (t : List ℕ) (n e p : ℕ) → p ≡ after_w t phase_base e → (n ≡ 32 → ⊥) → (n ≡ 1 → ⊥) → p + 1 ≡ restart_phase t n e
phase_raised t n e p h a b = rw (ne_eqb n 32 a, ne_eqb n 1 b) (omega (arith, h))

-- ---- `epochs_at`, `restart_phases`: each place of the first processes by a rule, 0 past the last

pub first_or_zero : (count z v w : ℕ) → (z < count → v ≡ w) → (count ≤ z → v ≡ 0) → v ≡ cond (ltb z count) w 0
first_or_zero count z v w h k = by_lt z count (λ l. rw (lt-ltb z count l) (h l)) (λ l. rw (le-ltb z count l) (k l))
