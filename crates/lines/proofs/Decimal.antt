-- Decimals: a number that is read stands there as its decimal, and a decimal before no digit is read as its number.
-- From the definitions of crate text.
use Prim.Native.Nat.{ℕ, suc, zero, ◌+◌, ◌-◌, ◌*◌, ◌/◌, ◌%◌, ◌^◌, ◌<◌, ◌≤◌, zero-le}
use mathlib.Core.Path.{◌≡◌, refl, ap, ap₂, subst₂, ◌∙◌}
use mathlib.Core.List.{List, [], ◌∷◌, ◌++◌, append_assoc}
use mathlib.Core.Bool.{true, false}
use native.Mathlib.Omega.{arith}
use native.Mathlib.Nat.{add-zero}
use lib.Dec.{eqb}
use lib.ListN.{length, length-append, drop, get_or}
use lib.Seq.{get_or-drop}
use borrow.Author.Tests.{le-leb, eq-eqb, ne_eqb}
use Rattle.words.proofs.Cases.{by_bool, by_lt, by_eq}
use Rattle.std.specs.Prelude.{Option, Some, None}
use Rattle.text.specs.declared.Numeral.{Numeral}
use Rattle.text.specs.Number.{read_to, is_digit, pushed, digit_step, digits_from, number_step, number_at, last_digits, decimal}
use Rattle.text.proofs.Numbers.{digit_low, digit_high, pushed_fits, pushed_over, last_small, last_more, last_push}

pub last_none : (v : ℕ) → last_digits 0 v ≡ []
unfolding last_digits
last_none v = refl

-- ---- from reading to text

-- a number read from the bytes x at a place: its decimal stands there, and it is at most the bound
abbrev pub Reads : ℕ → ℕ → List ℕ → Option Numeral → Type 0
Reads bound at x (Some n) = (rest : List ℕ) × (x ≡ decimal n.value ++ rest) × (n.end ≡ at + length (decimal n.value)) × (n.value ≤ bound)
Reads bound at x None = Unit

-- a digit c after the bytes `before`, whose value is v: with it the value is w
digit_reads : (bound v c w at p : ℕ) (before x : List ℕ) (stop : Option Numeral) → w ≡ v * 10 + (c - 48) → p ≡ at + length before + 1
    → (w ≤ bound → (decimal w ≡ before ++ c ∷ []) × Reads bound at (decimal w ++ x) (digits_from bound w (at + length (decimal w)) x))
    → Reads bound at (before ++ c ∷ x) (digit_step true (pushed v c bound) stop (λ u. digits_from bound u p x))
digit_reads bound v c w at p before x stop ew ep more =
    by_lt bound w
    (λ over. rw (pushed_over v c bound (omega arith)) tt)
    (λ fits.
    let (text, reads) = more fits in
    let same : decimal w ++ x ≡ before ++ c ∷ x = ap (λ (y : List ℕ). y ++ x) text ∙ append_assoc before (c ∷ []) x in
    let place : at + length (decimal w) ≡ p = rw (text, length-append) (omega arith) in
    rw (pushed_fits v c bound (omega arith), ← ew) (subst₂ (λ (y : List ℕ) (q : ℕ). Reads bound at y (digits_from bound w q x)) same place reads))

-- the bytes before are the decimal of the value so far, if that is not 0
digits_reads : (bound v at : ℕ) (x : List ℕ) → bound < 10 ^ 20 → 0 < v → v ≤ bound → Reads bound at (decimal v ++ x) (digits_from bound v (at + length (decimal v)) x)
unfolding digits_from
digits_reads bound v at [] r z h = ([], refl, refl, h)
digits_reads bound v at (c ∷ x) r z h =
    by_bool (is_digit c)
    (λ d.
    let low : 48 ≤ c = digit_low c d in
    let high : c ≤ 57 = digit_high c d in
    let e : 48 + (c - 48) ≡ c = omega arith in
    let w = v * 10 + (c - 48) in
    rw d (digit_reads bound v c w at _ (decimal v) x _ refl refl (λ l.
    (last_push 18 v (c - 48) z (omega arith) (omega arith) ∙ ap (λ (b : ℕ). decimal v ++ b ∷ []) e, digits_reads bound w at x r (omega arith) l))))
    (λ n. rw n (c ∷ x, refl, refl, h))

-- `number_at` over the bytes x that stand at the place
abbrev pub number_of : ℕ → ℕ → List ℕ → Option Numeral
number_of bound at x = number_step (is_digit (get_or x 0 256)) (eqb (get_or x 0 256) 48) (is_digit (get_or x 1 256)) at (digits_from bound 0 at x)

pub number_drop : (text : List ℕ) (at bound : ℕ) → number_at text at bound ≡ number_of bound at (drop at text)
unfolding number_at
number_drop text at bound = rw (get_or-drop at text 0 256, get_or-drop at text 1 256, add-zero at)

no_byte : is_digit 256 ≡ false
unfolding is_digit
no_byte = refl

pub number_reads : (bound at : ℕ) (x : List ℕ) → bound < 10 ^ 20 → Reads bound at x (number_of bound at x)
unfolding digits_from
number_reads bound at [] r = rw no_byte tt
number_reads bound at (c ∷ x) r =
    by_bool (is_digit c)
    (λ d.
    let low : 48 ≤ c = digit_low c d in
    let high : c ≤ 57 = digit_high c d in
    by_eq c 48
    (λ e.
    let zero_text : decimal 0 ≡ 48 ∷ [] = last_small 19 0 (omega arith) in
    by_bool (is_digit (get_or x 0 256))
    (λ more. rw (d, eq-eqb c 48 e, more) tt)
    (λ n. rw (d, eq-eqb c 48 e, n) (x, rw (zero_text, e), rw zero_text, zero-le)))
    (λ ne.
    let e : 48 + (c - 48) ≡ c = omega arith in
    rw (d, ne_eqb c 48 ne) (digit_reads bound 0 c (c - 48) at _ [] x _ (omega arith) (omega arith) (λ l.
    (last_small 19 (c - 48) (omega arith) ∙ ap (λ (b : ℕ). b ∷ []) e, digits_reads bound (c - 48) at x r (omega arith) l)))))
    (λ n. rw n tt)

-- ---- from text to reading

digit_of : (b : ℕ) → 48 ≤ b → b ≤ 57 → is_digit b ≡ true
unfolding is_digit
digit_of b l h = rw (le-leb 48 b l, le-leb b 57 h)

-- a digit carries the value on
digit_carried : (bound v d at : ℕ) (rest : List ℕ) → d < 10 → v * 10 + d ≤ bound → digits_from bound v at ((48 + d) ∷ rest) ≡ digits_from bound (v * 10 + d) (at + 1) rest
unfolding digits_from
digit_carried bound v d at rest h l =
    let e : v * 10 + (48 + d - 48) ≡ v * 10 + d = omega arith in
    rw (digit_of (48 + d) (omega arith) (omega arith), pushed_fits v (48 + d) bound (omega arith), e)

-- the digits of a number are read as it, and reading goes on behind them
decimal_carried : (room bound v at : ℕ) (rest : List ℕ) → v < 10 ^ room → v ≤ bound
    → digits_from bound 0 at (last_digits room v ++ rest) ≡ digits_from bound v (at + length (last_digits room v)) rest
decimal_carried zero bound v at rest h l = rw last_none (ap₂ (λ (x k : ℕ). digits_from bound x k rest) (omega arith) (omega arith))
decimal_carried (suc r) bound v at rest h l =
    by_lt v 10
    (λ q.
    let e : 0 * 10 + v ≡ v = omega arith in
    rw (last_small r v q) (digit_carried bound 0 v at rest q (omega arith) ∙ ap (λ (x : ℕ). digits_from bound x (at + 1) rest) e))
    (λ q.
    let front = last_digits r (v / 10) in
    let e : v / 10 * 10 + v % 10 ≡ v = omega arith in
    let place : at + length front + 1 ≡ at + length (front ++ (48 + v % 10) ∷ []) = rw length-append (omega arith) in
    rw (last_more r v q, append_assoc)
    (decimal_carried r bound (v / 10) at ((48 + v % 10) ∷ rest) (omega arith) (omega arith)
    ∙ digit_carried bound (v / 10) (v % 10) (at + length front) rest (omega arith) (omega arith)
    ∙ ap₂ (λ (x k : ℕ). digits_from bound x k rest) e place))

-- the first digit of a number other than 0 is not 0
leading : (room v : ℕ) (rest : List ℕ) → 0 < v → v < 10 ^ room → (48 < get_or (last_digits room v ++ rest) 0 256) × (get_or (last_digits room v ++ rest) 0 256 ≤ 57)
leading zero v rest z h = absurd (let w : ⊥ = omega arith in w)
leading (suc r) v rest z h =
    by_lt v 10
    (λ l. rw (last_small r v l) (omega arith))
    (λ g. rw (last_more r v g, append_assoc) (leading r (v / 10) ((48 + v % 10) ∷ rest) (omega arith) (omega arith)))

digits_stop : (bound v at : ℕ) (rest : List ℕ) → is_digit (get_or rest 0 256) ≡ false → digits_from bound v at rest ≡ read_to v at
unfolding digits_from
digits_stop bound v at [] h = refl
digits_stop bound v at (c ∷ rest) h = rw h

pub decimal_read : (bound at v : ℕ) (rest : List ℕ) → bound < 10 ^ 20 → v ≤ bound → is_digit (get_or rest 0 256) ≡ false
    → number_of bound at (decimal v ++ rest) ≡ read_to v (at + length (decimal v))
decimal_read bound at v rest r h n =
    by_eq v 0
    (λ e. rw (e, last_small 19 0 (omega arith), digit_of 48 (omega arith) (omega arith), n))
    (λ ne.
    let first = get_or (decimal v ++ rest) 0 256 in
    let lead = leading 20 v rest (omega arith) (omega arith) in
    rw (digit_of first (omega arith) lead.1, ne_eqb first 48 (λ e. omega arith))
    (decimal_carried 20 bound v at rest (omega arith) h ∙ digits_stop bound v (at + length (decimal v)) rest n))
