-- What goes on record of a message that is taken, and that every other word is as it was.
use mathlib.Core.Path.{◌≡◌, ◌∙◌}
use mathlib.Core.Logic.{◌≢◌}
use mathlib.Core.List.{List}
use Prim.Native.Nat.{ℕ, zero, suc, ◌+◌, ◌≤◌, ◌<◌}
use native.Mathlib.Omega.{arith}
use lib.ListN.{length, length-set, get_or, set}
use lib.Seq.{get_or-set_same, get_or-set_other}
use Rattle.columns.specs.Inner.Full.{value_w, number_w}
use Rattle.machine.specs.Taken.{taken_base, record_end}
use Rattle.machine.specs.Inner.Words.{noted_w}

module _ (t a : List ℕ) (e m : ℕ) where
  -- with the number, and with the low half too
  a₁ : List ℕ
  a₁ = set a e (number_w t m)

  a₂ : List ℕ
  a₂ = set a₁ (taken_base 0 + e) (value_w 0 t m)

  pub length_noted : length (noted_w t a e m) ≡ length a
  unfolding noted_w
  length_noted = simp length-set

  pub noted_other : (k : ℕ) → k ≢ e → ((b : ℕ) → b < 2 → k ≢ taken_base b + e) → get_or (noted_w t a e m) k 0 ≡ get_or a k 0
  unfolding noted_w a₁ a₂
  noted_other k n v =
      get_or-set_other a₂ (taken_base 1 + e) k (value_w 1 t m) 0 (v 1 (omega arith))
      ∙ get_or-set_other a₁ (taken_base 0 + e) k (value_w 0 t m) 0 (v 0 (omega arith))
      ∙ get_or-set_other a e k (number_w t m) 0 n

  -- in an area that has the words of the record
  module _ (room : record_end ≤ length a) (few : e < 2049) where
    l₁ : length a₁ ≡ length a
    unfolding a₁
    l₁ = length-set a e (number_w t m)

    l₂ : length a₂ ≡ length a
    unfolding a₂
    l₂ = length-set a₁ (taken_base 0 + e) (value_w 0 t m) ∙ l₁

    pub noted_number : get_or (noted_w t a e m) e 0 ≡ number_w t m
    unfolding noted_w a₁ a₂
    noted_number =
        get_or-set_other a₂ (taken_base 1 + e) e (value_w 1 t m) 0 (λ q. omega arith)
        ∙ get_or-set_other a₁ (taken_base 0 + e) e (value_w 0 t m) 0 (λ q. omega arith)
        ∙ get_or-set_same a e (number_w t m) 0 (omega arith)

    pub noted_value : (b : ℕ) → b < 2 → get_or (noted_w t a e m) (taken_base b + e) 0 ≡ value_w b t m
    unfolding noted_w a₁ a₂
    noted_value zero h =
        get_or-set_other a₂ (taken_base 1 + e) (taken_base 0 + e) (value_w 1 t m) 0 (λ q. omega arith)
        ∙ get_or-set_same a₁ (taken_base 0 + e) (value_w 0 t m) 0 (omega (arith, l₁))
    noted_value (suc zero) h = get_or-set_same a₂ (taken_base 1 + e) (value_w 1 t m) 0 (omega (arith, l₂))
    noted_value (suc (suc b)) h = absurd (let z : ⊥ = omega arith in z)
