-- The set of the processes that go back: its bits, and its size.
use Prim.Native.Nat.{ℕ, suc, zero, ◌+◌, ◌-◌, ◌*◌, ◌/◌, ◌%◌, ◌^◌, min, ◌<◌, ◌≤◌}
use mathlib.Core.Path.{◌≡◌, refl, sym, ap, ap₂, ◌∙◌}
use mathlib.Core.List.{List, [], ◌∷◌}
use mathlib.Core.Bool.{Bool, true, false, ◌&&◌, not, cond}
use mir.Val.{bool_byte}
use native.Mathlib.Omega.{arith}
use native.Mathlib.Nat.{pow-suc, lt_of_lt_of_le, zero-div}
use native.Mathlib.Numerals.{one-add}
use lib.Dec.{eqb, ltb}
use lib.ListN.{length, get_or, take, drop, length-take, length-drop, get_or-eq_default}
use lib.Seq.{drop-cons, get_or-take, take_all, length-take-le}
use lib.Pow.{pow_mono, shr-shr}
use lib.Count.{ones, ones_step}
use borrow.Author.Tests.{eq-eqb, ne_eqb, lt-ltb, le-ltb}
use Rattle.words.proofs.Cases.{by_bool, by_lt, get_d_any}
use Rattle.theory.specs.Lists.{keep}
use Rattle.theory.specs.Line.{in_set, stays_in}
use Rattle.recovery_line.specs.declared.Line.{Line}
use Rattle.recovery_line.specs.Given.{line_in, numbers_of, back_bit, back_of, back_ones}

bit_lt : (b : Bool) → cond b 0 1 < 2
bit_lt true = omega arith
bit_lt false = omega arith

said : (b : Bool) → bool_byte (not b) ≡ cond b 0 1
said true = refl
said false = refl

odd : (f m : ℕ) → f < 2 → (f + 2 * m) % 2 ≡ f
odd f m h = omega arith

half : (f m : ℕ) → f < 2 → (f + 2 * m) / 2 ≡ m
half f m h = omega arith

-- the ones of the set are as many as the processes not at 32
pub back_ones_lem : (l : List ℕ) → ones (back_of l) ≡ length (back_ones l)
unfolding back_of back_ones keep ones
back_ones_lem [] = refl
back_ones_lem (e ∷ l) =
    ones_step (back_bit e + 2 * back_of l)
    ∙ ap₂ (λ (x y : ℕ). x + ones y) (odd (back_bit e) (back_of l) (bit_lt (eqb e 32))) (half (back_bit e) (back_of l) (bit_lt (eqb e 32)))
    ∙ ap (λ (x : ℕ). back_bit e + x) (back_ones_lem l)
    ∙ by_bool (eqb e 32) (λ h. rw h (omega arith)) (λ h. rw h (omega arith))

back_lt : (l : List ℕ) → back_of l < 2 ^ length l
unfolding back_of
back_lt [] = omega arith
back_lt (e ∷ l) = omega (arith, back_lt l, bit_lt (eqb e 32), pow-suc 2 (length l))

-- a turn of the loop, over the first `count` numbers
module _ (all : List ℕ) (count i set : ℕ) (p : 0 < i) (h : i ≤ count) (few : count ≤ length all) (e : set ≡ back_of (drop i (take count all))) where
  abbrev line : List ℕ
  line = take count all

  long : length line ≡ count
  long = length-take-le count all few

  pub back_fits : count ≤ 64 → set < 2 ^ 63
  back_fits q = rw e (lt_of_lt_of_le (back_lt (drop i line)) (pow_mono (let z : length (drop i line) ≤ 63 = rw (length-drop, long) (omega arith) in z)))

  turn : back_bit (get_or all (i - 1) 0) + 2 * set ≡ back_of (drop (i - 1) line)
  unfolding back_of
  turn =
      ap₂ (λ (x m : ℕ). back_bit x + 2 * m) (sym (get_or-take count all (i - 1) 0 (omega arith))) (e ∙ ap (λ (k : ℕ). back_of (drop k line)) (let s : i ≡ suc (i - 1) = omega arith in s))
      ∙ sym (ap back_of (drop-cons line (i - 1) 0 (omega (arith, long))))

  -- what is added is 1 for a process that goes back
  module _ (r : ℕ) (er : r ≡ bool_byte (not (eqb (get_or all (i - 1) 0) 32))) where
    bit : r ≡ back_bit (get_or all (i - 1) 0)
    bit = er ∙ said (eqb (get_or all (i - 1) 0) 32)

    pub bit_few : r ≤ 1
    bit_few = omega (arith, bit, bit_lt (eqb (get_or all (i - 1) 0) 32))

    pub back_next : 2 * set + r ≡ back_of (drop (i - 1) line)
    back_next = omega (arith, bit, turn)

-- bit z says of process z that it goes back
back_bit_lem : (l : List ℕ) (z : ℕ) → back_of l / 2 ^ z % 2 ≡ back_bit (get_or l z 32)
unfolding back_of
back_bit_lem [] z = ap (λ (x : ℕ). x % 2) (zero-div (2 ^ z))
back_bit_lem (e ∷ l) zero = omega (arith, bit_lt (eqb e 32))
back_bit_lem (e ∷ l) (suc z) =
    ap (λ (k : ℕ). (back_bit e + 2 * back_of l) / 2 ^ k % 2) (sym (one-add z))
    ∙ ap (λ (x : ℕ). x % 2) (sym (shr-shr (back_bit e + 2 * back_of l) 1 z))
    ∙ ap (λ (x : ℕ). x / 2 ^ z % 2) (half (back_bit e) (back_of l) (bit_lt (eqb e 32)))
    ∙ back_bit_lem l z

named : (b : Bool) → eqb (cond b 0 1) 1 ≡ not b
named true = refl
named false = refl

-- how many numbers a line has: its count, of 64 places at most
abbrev pub places_of : Line → ℕ
places_of l = min l.count 64

module _ (l : Line) (len : length l.epochs ≡ 64) where
  numbers_length : length (numbers_of l) ≡ places_of l
  numbers_length = length-take l.count l.epochs ∙ ap (min l.count) len

  pub numbers_in_places : take (places_of l) l.epochs ≡ numbers_of l
  numbers_in_places = by_lt l.count 64
      (λ h. let e : places_of l ≡ l.count = omega arith in ap (λ (n : ℕ). take n l.epochs) e)
      (λ h. take_all (places_of l) l.epochs (omega arith) ∙ sym (take_all l.count l.epochs (omega arith)))

  pub back_bits : (r : ℕ) → r ≡ back_of (numbers_of l) → (z : ℕ) → in_set r z ≡ (ltb z (places_of l) && not (stays_in (line_in l) z))
  back_bits r e z =
      ap (λ (s : ℕ). in_set s z) e ∙ ap (λ (x : ℕ). eqb x 1) (back_bit_lem (numbers_of l) z) ∙ named (eqb (get_or (numbers_of l) z 32) 32)
      ∙ by_lt z (places_of l)
      (λ h. let s : ltb z (places_of l) ≡ true = lt-ltb z (places_of l) h in
      let c : ltb z l.count ≡ true = lt-ltb z l.count (omega arith) in
      let i : get_or (numbers_of l) z 32 ≡ get_or l.epochs z 0 = get_or-take l.count l.epochs z 32 (omega arith) ∙ get_d_any l.epochs z 32 0 (omega arith) in
      rw (s, c, i))
      (λ h. let s : ltb z (places_of l) ≡ false = le-ltb z (places_of l) h in
      let i : get_or (numbers_of l) z 32 ≡ 32 = get_or-eq_default (numbers_of l) 32 {n = z} (omega (arith, numbers_length)) in
      rw (s, i))
