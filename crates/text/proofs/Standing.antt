-- Laws of what stands between two places of a text: a byte, digits that make a number, a key, and each after another.
use Prim.Native.Nat.{ℕ, suc, zero, ◌+◌, ◌-◌, ◌*◌, ◌/◌, ◌^◌, ◌<◌, ◌≤◌}
use mathlib.Core.Path.{◌≡◌, refl, sym, ap, ap₂, subst, subst₂, ◌∙◌}
use mathlib.Core.List.{List, [], ◌∷◌, ◌++◌, append_assoc}
use mathlib.Core.Bool.{Bool, true}
use native.Mathlib.Omega.{arith}
use lib.ListN.{length, get_or, drop, length-append}
use lib.Seq.{drop-cons, drop-drop, drop-append_seam}
use Rattle.words.proofs.Cases.{by_lt}
use Rattle.text.specs.Number.{is_digit, pushed, last_digits, decimal}
use Rattle.std.specs.Prelude.{Option, Some, None, nat_eq, take}
use Rattle.std.specs.List as list
use Rattle.text.specs.declared.Numeral.{Numeral}
use Rattle.text.specs.Inner.Standing.{Stands, NumberStands, Written}
use Rattle.text.proofs.Numbers.{digit_low, digit_high, pushed_fits, pushed_over, last_small, last_more, room_more, last_push}
use Rattle.text.proofs.Keys.{key_split, key_rest}

-- a number has at most as many digits as there is room for
last_length : (room v : ℕ) → length (last_digits room v) ≤ room
unfolding last_digits
last_length zero v = omega arith
last_length (suc r) v =
    by_lt v 10
    (λ l. rw (last_small r v l) (omega arith))
    (λ g. rw (last_more r v g, length-append) (omega (arith, last_length r (v / 10))))

-- a value with one more digit, where it fits: its decimal stands there up to q
abbrev Fitted : List ℕ → ℕ → ℕ → ℕ → Option ℕ → Type 0
Fitted text at bound q (Some w) = Stands text at (decimal w) q × (w ≤ bound)
Fitted text at bound q None = Unit

module _ (text : List ℕ) where
  pub byte_stands : (at b : ℕ) → at < length text → get_or text at 0 ≡ b → Stands text at (b ∷ []) (at + 1)
  byte_stands at b h g =
      let e : suc at ≡ at + 1 = omega arith in
      record { bytes = drop-cons text at 0 h ∙ ap₂ (λ (c i : ℕ). c ∷ drop i text) g e; size = omega arith }

  -- one after the other
  pub stands_then : {at p q : ℕ} {x y : List ℕ} → Stands text at x p → Stands text p y q → Stands text at (x ++ y) q
  stands_then {at} {p} {q} {x} {y} s u =
      record {
        bytes = s.bytes ∙ ap (λ (z : List ℕ). x ++ z) u.bytes ∙ sym (append_assoc x y (drop q text));
        size = omega (arith, s.size, u.size, length-append x y);
      }

  -- a digit, and one more behind a number other than 0
  pub digit_stands : (at : ℕ) → at < length text → is_digit (get_or text at 0) ≡ true → Stands text at (decimal (get_or text at 0 - 48)) (at + 1)
  digit_stands at h d =
      let b = get_or text at 0 in
      let e : 48 + (b - 48) ≡ b = omega (arith, digit_low b d) in
      rw (last_small 19 (b - 48) (omega (arith, digit_high b d)), e) (byte_stands at b h refl)

  pub push_stands : (at v p : ℕ) → Stands text at (decimal v) p → 0 < v → p < length text → is_digit (get_or text p 0) ≡ true → v < 10 ^ 19
      → Stands text at (decimal (v * 10 + get_or text p 0 - 48)) (p + 1)
  push_stands at v p s z h d l =
      let b = get_or text p 0 in
      let e : 48 + (b - 48) ≡ b = omega (arith, digit_low b d) in
      let w : v * 10 + b - 48 ≡ v * 10 + (b - 48) = omega (arith, digit_low b d) in
      rw (w, last_push 18 v (b - 48) z (omega (arith, digit_high b d)) (omega (arith, digit_high b d)), e) (stands_then s (byte_stands p b h refl))

  -- the same where the digit may be too many, over the answer that the code has
  pub fitted : (at v p bound : ℕ) → Stands text at (decimal v) p → 0 < v → p < length text → is_digit (get_or text p 0) ≡ true → v < 10 ^ 19
      → (n : Option ℕ) (w : ℕ) → n ≡ pushed v (get_or text p 0) bound → n ≡ Some w → Stands text at (decimal w) (p + 1) × (w ≤ bound)
  fitted at v p bound s z h d l n w q e =
      let b = get_or text p 0 in
      let x : v * 10 + b - 48 ≡ v * 10 + (b - 48) = omega (arith, digit_low b d) in
      let more : Stands text at (decimal (v * 10 + (b - 48))) (p + 1) =
      subst (λ (y : ℕ). Stands text at (decimal y) (p + 1)) x (push_stands at v p s z h d l) in
      let fits : Fitted text at bound (p + 1) (pushed v b bound) =
      by_lt bound (v * 10 + (b - 48)) (λ o. rw (pushed_over v b bound o) tt) (λ g. rw (pushed_fits v b bound g) (more, g)) in
      subst (Fitted text at bound (p + 1)) (sym q ∙ e) fits

  -- a number that was found, over the answer that the code has
  pub found : (at most room : ℕ) (begins : Bool) (r : Option Numeral) (n : Numeral) → Written text at most room begins r → r ≡ Some n → NumberStands text at most room n.value n.end
  found at most room begins r n w e = subst (Written text at most room begins) e w

  -- the end of a number below 10 ^ 19 is near
  pub decimal_near : (at v p : ℕ) → v ≤ 9999999999999999999 → Stands text at (decimal v) p → p ≤ at + 19
  decimal_near at v p h s = omega (arith, s.size, ap length (room_more 18 v (omega arith)), last_length 19 v)

  -- two digits, as `short` puts them together
  pub two_digits : (at : ℕ) → at + 1 < length text → is_digit (get_or text at 0) ≡ true → is_digit (get_or text (at + 1) 0) ≡ true → (get_or text at 0 ≡ 48 → ⊥)
      → NumberStands text at 99 2 (10 * get_or text at 0 + get_or text (at + 1) 0 - 528) (at + 2)
  two_digits at h d e n =
      let a = get_or text at 0 in
      let b = get_or text (at + 1) 0 in
      let low = digit_low a d in
      let next = digit_low b e in
      let high = digit_high b e in
      let w : (a - 48) * 10 + b - 48 ≡ 10 * a + b - 528 = omega arith in
      let p : at + 1 + 1 ≡ at + 2 = omega arith in
      let s = push_stands at (a - 48) (at + 1) (digit_stands at (omega arith) d) (omega arith) h e (omega (arith, digit_high a d)) in
      (subst₂ (λ (v q : ℕ). Stands text at (decimal v) q) w p s, omega (arith, digit_high a d), omega arith)

  -- a key that the library finds there, over the answer that the code has
  pub key_stands : (at : ℕ) (key : List ℕ) (b : Bool) → b ≡ list.starts_with nat_eq (take (length text - at) (drop at text)) key → b ≡ true
      → Stands text at key (at + length key)
  key_stands at key b e t =
      let (rest, split) = key_split (drop at text) key (sym (key_rest text at key) ∙ sym e ∙ t) in
      let behind : drop (at + length key) text ≡ rest = sym (drop-drop (length key) at text) ∙ ap (drop (length key)) split ∙ drop-append_seam key rest in
      record { bytes = split ∙ ap (λ (z : List ℕ). key ++ z) (sym behind); size = refl }
