-- Laws of the number definitions: one for each way a turn of the loop goes, over the values that the code has; that a
-- digit which is read lies within the text; the last digit of a number and those before it.
use Prim.Native.Nat.{ℕ, suc, zero, ◌+◌, ◌-◌, ◌*◌, ◌/◌, ◌%◌, ◌^◌, ◌<◌, ◌≤◌}
use mathlib.Core.Path.{◌≡◌, sym, ap, ◌∙◌}
use mathlib.Core.List.{List, [], ◌∷◌, ◌++◌}
use mathlib.Core.Bool.{Bool, true, false, not}
use native.Mathlib.Omega.{arith}
use native.Mathlib.Numerals.{add-one}
use lib.Dec.{leb}
use lib.ListN.{length, get_or, drop, drop_of_length-le, get_or-eq_default}
use lib.Seq.{drop-cons}
use borrow.Author.Tests.{not-true, not-false, leb-true, le-leb, lt-leb, lt-ltb, le-ltb, eq-eqb, ne_eqb}
use Rattle.words.proofs.Cases.{by_lt, and_left, and_right}
use Rattle.std.specs.Prelude.{Option, Some, None}
use Rattle.text.specs.Number.{read_to, is_digit, pushed, digits_from, number_at, last_digits}

pub digit_low : (b : ℕ) → is_digit b ≡ true → 48 ≤ b
unfolding is_digit
digit_low b h = leb-true 48 b (and_left (leb 48 b) (leb b 57) h)

pub digit_high : (b : ℕ) → is_digit b ≡ true → b ≤ 57
unfolding is_digit
digit_high b h = leb-true b 57 (and_right (leb 48 b) (leb b 57) h)

-- the same over the test that the code has
module _ (b : ℕ) (d : Bool) (e : d ≡ is_digit b) (n : not d ≡ false) where
  pub digit_so : is_digit b ≡ true
  digit_so = sym e ∙ not-false d n

  pub digit_bounds : (48 ≤ b) × (b ≤ 57)
  digit_bounds = (digit_low b digit_so, digit_high b digit_so)

pub pushed_fits : (v b bound : ℕ) → v * 10 + (b - 48) ≤ bound → pushed v b bound ≡ Some (v * 10 + (b - 48))
unfolding pushed
pushed_fits v b bound h = rw (le-leb (v * 10 + (b - 48)) bound h)

pub pushed_over : (v b bound : ℕ) → bound < v * 10 + (b - 48) → pushed v b bound ≡ None
unfolding pushed
pushed_over v b bound h = rw (lt-leb (v * 10 + (b - 48)) bound h)

-- a turn of the digits' loop, over the values that the code has: the byte b, its test d
module _ (bound v at : ℕ) (text : List ℕ) where
  pub digits_end : length text ≤ at → digits_from bound v at (drop at text) ≡ read_to v at
  unfolding digits_from
  digits_end h = rw (drop_of_length-le text {i = at} h)

  module _ (z b : ℕ) (d : Bool) (h : at < length text) (eb : b ≡ get_or text at z) (ed : d ≡ is_digit b) where
    pub digits_stop : not d ≡ true → digits_from bound v at (drop at text) ≡ read_to v at
    unfolding digits_from
    digits_stop n = rw (drop-cons text at z h, ← eb, ← ed, not-true d n)

    pub digits_over : not d ≡ false → (p : Option ℕ) → p ≡ pushed v b bound → p ≡ None → digits_from bound v at (drop at text) ≡ None
    unfolding digits_from
    digits_over n p q e = rw (drop-cons text at z h, ← eb, ← ed, not-false d n, ← q, e)

    pub digits_next : not d ≡ false → (p : Option ℕ) → p ≡ pushed v b bound → (w : ℕ) → p ≡ Some w
        → digits_from bound v at (drop at text) ≡ digits_from bound w (at + 1) (drop (at + 1) text)
    unfolding digits_from
    digits_next n p q w e = rw (drop-cons text at z h, ← eb, ← ed, not-false d n, ← q, e, add-one at)

-- each way out of `number`, over the values that the code has
module _ (text : List ℕ) (at bound b : ℕ) (d : Bool) (eb : b ≡ get_or text at 256) (ed : d ≡ is_digit b) where
  pub number_1 : not d ≡ true → None ≡ number_at text at bound
  unfolding number_at
  number_1 n = rw (← eb, ← ed, not-true d n)

  number_digits : not d ≡ false → (b ≡ 48 → ⊥) → digits_from bound 0 at (drop at text) ≡ number_at text at bound
  unfolding number_at
  number_digits n z = rw (← eb, ← ed, not-false d n, ne_eqb b 48 z)

  -- the first digit is too large by itself
  pub number_2 : not d ≡ false → (b ≡ 48 → ⊥) → at < length text → (p : Option ℕ) → p ≡ pushed 0 b bound → p ≡ None → None ≡ number_at text at bound
  number_2 n z h p q e = sym (digits_over bound 0 at text 256 b d h eb ed n p q e) ∙ number_digits n z

  -- the others carry its value on
  pub number_3 : not d ≡ false → (b ≡ 48 → ⊥) → at < length text → (p : Option ℕ) → p ≡ pushed 0 b bound → (w : ℕ) → p ≡ Some w
      → digits_from bound w (at + 1) (drop (at + 1) text) ≡ number_at text at bound
  number_3 n z h p q w e = sym (digits_next bound 0 at text 256 b d h eb ed n p q w e) ∙ number_digits n z

module _ (text : List ℕ) (at bound b : ℕ) (d : Bool) (f : ℕ) (e : Bool) (eb : b ≡ get_or text at 256) (ed : d ≡ is_digit b) (n : not d ≡ false) (z : b ≡ 48)
    (ef : f ≡ get_or text (at + 1) 256) (ee : e ≡ is_digit f) where
  pub number_4 : e ≡ true → None ≡ number_at text at bound
  unfolding number_at
  number_4 t = rw (← eb, ← ed, not-false d n, eq-eqb b 48 z, ← ef, ← ee, t)

  pub number_5 : e ≡ false → read_to 0 (at + 1) ≡ number_at text at bound
  unfolding number_at
  number_5 t = rw (← eb, ← ed, not-false d n, eq-eqb b 48 z, ← ef, ← ee, t)

digit_within : (text : List ℕ) (at : ℕ) → is_digit (get_or text at 256) ≡ true → at < length text
digit_within text at h =
    by_lt at (length text) (λ q. q)
    (λ g. absurd (let z : ⊥ = omega (arith, digit_high (get_or text at 256) h, get_or-eq_default text 256 {n = at} g) in z))

-- the same over the values that the code has
pub digit_here : (text : List ℕ) (at b : ℕ) (d : Bool) → b ≡ get_or text at 256 → d ≡ is_digit b → not d ≡ false → at < length text
digit_here text at b d eb ed n = digit_within text at (sym (ed ∙ ap is_digit eb) ∙ not-false d n)

-- the last digit of a number, and those before it
pub last_small : (r v : ℕ) → v < 10 → last_digits (suc r) v ≡ (48 + v) ∷ []
unfolding last_digits
last_small r v h = rw (lt-ltb v 10 h)

pub last_more : (r v : ℕ) → 10 ≤ v → last_digits (suc r) v ≡ last_digits r (v / 10) ++ (48 + v % 10) ∷ []
unfolding last_digits
last_more r v h = rw (le-ltb v 10 h)

-- room that a number does not need changes nothing
pub room_more : (r v : ℕ) → v < 10 ^ suc r → last_digits (suc (suc r)) v ≡ last_digits (suc r) v
room_more zero v h = last_small 1 v h ∙ sym (last_small 0 v h)
room_more (suc r) v h =
    by_lt v 10
    (λ l. last_small (suc (suc r)) v l ∙ sym (last_small (suc r) v l))
    (λ g. last_more (suc (suc r)) v g ∙ ap (λ (x : List ℕ). x ++ (48 + v % 10) ∷ []) (room_more r (v / 10) (omega arith)) ∙ sym (last_more (suc r) v g))

-- a digit behind a number other than 0
pub last_push : (r v d : ℕ) → 0 < v → d < 10 → v * 10 + d < 10 ^ suc (suc r) → last_digits (suc (suc r)) (v * 10 + d) ≡ last_digits (suc (suc r)) v ++ (48 + d) ∷ []
last_push r v d z h l =
    let e : (v * 10 + d) / 10 ≡ v = omega arith in
    let f : (v * 10 + d) % 10 ≡ d = omega arith in
    last_more (suc r) (v * 10 + d) (omega arith) ∙ rw (e, f, room_more r v (omega arith))
