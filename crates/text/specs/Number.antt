-- Decimal numbers: "plain decimal without leading zeros (0 itself is "0")" (the requirements; MANUAL 2.2).
use Rattle.std.specs.Prelude.{ℕ, suc, zero, ◌+◌, ◌-◌, ◌*◌, ◌/◌, ◌%◌, List, [], ◌∷◌, ◌++◌, Bool, true, false, ◌&&◌, cond, get_or, drop, ltb, leb, eqb, Option, Some, None}
use Rattle.text.specs.declared.Numeral.{Numeral}

unfoldable pub is_digit : ℕ → Bool
is_digit b = leb 48 b && leb b 57

-- v with the digit b at its end, if that is at most the bound
unfoldable pub pushed : ℕ → ℕ → ℕ → Option ℕ
pushed v b bound = cond (leb (v * 10 + (b - 48)) bound) (Some (v * 10 + (b - 48))) None

-- a number was read, and where it ends
abbrev pub read_to : ℕ → ℕ → Option Numeral
read_to v p = Some (record { value = v; end = p })

-- one byte: no digit, a digit whose number fits, a digit too many
abbrev pub digit_step : Bool → Option ℕ → Option Numeral → (ℕ → Option Numeral) → Option Numeral
digit_step false p stop next = stop
digit_step true (Some w) stop next = next w
digit_step true None stop next = None

-- the digits at the front of the bytes, whose first stands at a place, carry a value v on
unfoldable pub digits_from : ℕ → ℕ → ℕ → List ℕ → Option Numeral
digits_from bound v at [] = read_to v at
digits_from bound v at (b ∷ bs) = digit_step (is_digit b) (pushed v b bound) (read_to v at) (λ w. digits_from bound w (at + 1) bs)

-- by cases: the first byte is a digit, it is 0, the second is a digit
abbrev pub number_step : Bool → Bool → Bool → ℕ → Option Numeral → Option Numeral
number_step false z d at n = None
number_step true false d at n = n
number_step true true true at n = None
number_step true true false at n = read_to 0 (at + 1)

-- the number at a place of a text
unfoldable pub number_at : List ℕ → ℕ → ℕ → Option Numeral
number_at text at bound =
    number_step (is_digit (get_or text at 256)) (eqb (get_or text at 256) 48) (is_digit (get_or text (at + 1) 256)) at (digits_from bound 0 at (drop at text))

-- the last `room` digits of a number in decimal, without leading zeros
unfoldable pub last_digits : ℕ → ℕ → List ℕ
last_digits zero v = []
last_digits (suc room) v = cond (ltb v 10) ((48 + v) ∷ []) (last_digits room (v / 10) ++ (48 + v % 10) ∷ [])

-- a number in decimal: 20 digits hold every number of 64 bits
abbrev pub decimal : ℕ → List ℕ
decimal v = last_digits 20 v
