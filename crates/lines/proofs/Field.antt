-- Fields of a line: what a key and a number that are read say of the bytes, and that rendered fields are read. From the
-- laws of decimals.
use Prim.Native.Nat.{ℕ, ◌+◌, ◌^◌, ◌≤◌}
use mathlib.Core.Path.{◌≡◌, refl, sym, ap, ◌∙◌}
use mathlib.Core.List.{List, [], ◌∷◌, ◌++◌}
use mathlib.Core.Bool.{true, false}
use native.Mathlib.Omega.{arith}
use lib.Dec.{eqb, ltb}
use lib.ListN.{length, length-append, drop, drop_of_length-le, get_or}
use lib.Seq.{drop-drop, drop-append_seam}
use borrow.Author.Tests.{ltb-true, eq-eqb, ne_eqb}
use Rattle.words.proofs.Cases.{by_bool, by_eq}
use Rattle.std.specs.Prelude.{Option, Some, None}
use Rattle.text.specs.declared.Numeral.{Numeral}
use Rattle.text.specs.Number.{is_digit, decimal}
use Rattle.text.specs.Key.{starts_with, field_at}
use Rattle.text.proofs.Keys.{key_split}
use Rattle.lines.specs.declared.Line.{Line}
use Rattle.lines.specs.declared.Line.TheVariants.{Malformed}
use Rattle.lines.specs.Line.{then_line, when_end}
use Rattle.lines.proofs.Decimal.{Reads, number_of, number_drop, number_reads, decimal_read}

pub split_key : (key rest : List ℕ) → starts_with (key ++ rest) key ≡ true
unfolding starts_with
split_key [] rest = refl
split_key (k ∷ key) rest = rw (eq-eqb k k refl) (split_key key rest)

-- the bytes x are what a line has from a place to its end
pub record Behind (l : List ℕ) (at : ℕ) (x : List ℕ) : Type 0 where
  pub bytes : drop at l ≡ x
  pub size : at + length x ≡ length l

pub behind_start : (l : List ℕ) → Behind l 0 l
behind_start l = record { bytes = refl; size = omega arith }

behind_more : {l : List ℕ} {at : ℕ} (x rest : List ℕ) → Behind l at (x ++ rest) → Behind l (at + length x) rest
behind_more {l} {at} x rest s =
    record {
      bytes = sym (drop-drop (length x) at l) ∙ ap (drop (length x)) s.bytes ∙ drop-append_seam x rest;
      size = omega (arith, s.size, length-append x rest);
    }

-- Fields whose numbers have a bound of 20 digits or fewer; at a numeral for a bound that test is `refl`.
module _ (bound : ℕ) (room : ltb bound (10 ^ 20) ≡ true) (l : List ℕ) where
  field_number : (at : ℕ) (key y : List ℕ) → Behind l at (key ++ y) → field_at l at key bound ≡ number_of bound (at + length key) y
  unfolding field_at
  field_number at key y s =
      rw (s.bytes, split_key key y) (number_drop l (at + length key) bound ∙ ap (number_of bound (at + length key)) (behind_more key y s).bytes)

  no_field : (at : ℕ) (key x : List ℕ) → Behind l at x → starts_with x key ≡ false → field_at l at key bound ≡ None
  unfolding field_at
  no_field at key x s f = rw (s.bytes, f)

  read_number : (P : Line → Type 0) (at : ℕ) (y : List ℕ) (next : ℕ → ℕ → Line) → Behind l at y → P Malformed
      → ((v p : ℕ) (rest : List ℕ) → y ≡ decimal v ++ rest → Behind l p rest → v ≤ bound → P (next v p))
      → (n : Option Numeral) → Reads bound at y n → P (then_line n next)
  read_number P at y next s wrong good (Some n) r = good n.value n.end r.0 r.1 (rw r.2 (behind_more (decimal n.value) r.0 (rw r.1 at s))) r.3
  read_number P at y next s wrong good None r = wrong

  -- to show P of what is read from here on: for a malformed line, and for what follows a field that stands here
  pub read_field : (P : Line → Type 0) (at : ℕ) (key x : List ℕ) (next : ℕ → ℕ → Line) → Behind l at x → P Malformed
      → ((v p : ℕ) (rest : List ℕ) → x ≡ key ++ (decimal v ++ rest) → Behind l p rest → v ≤ bound → P (next v p))
      → P (then_line (field_at l at key bound) next)
  read_field P at key x next s wrong good =
      by_bool (starts_with x key)
      (λ t.
      let (y, e) = key_split x key t in
      let k : Behind l at (key ++ y) = rw e at s in
      let here = at + length key in
      rw (field_number at key y k)
      (read_number P here y next (behind_more key y k) wrong (λ v p rest q. good v p rest (e ∙ ap (λ (z : List ℕ). key ++ z) q))
      (number_of bound here y) (number_reads bound here y (ltb-true bound (10 ^ 20) room))))
      (λ f. rw (no_field at key x s f) wrong)

  -- a field that stands here, with no digit behind it, is read
  pub rendered_field : (at : ℕ) (key : List ℕ) (v : ℕ) (rest : List ℕ) (next : ℕ → ℕ → Line) (line : Line) → Behind l at (key ++ (decimal v ++ rest)) → v ≤ bound
      → is_digit (get_or rest 0 256) ≡ false → ((p : ℕ) → Behind l p rest → next v p ≡ line) → then_line (field_at l at key bound) next ≡ line
  rendered_field at key v rest next line s h n good =
      rw (field_number at key (decimal v ++ rest) s, decimal_read bound (at + length key) v rest (ltb-true bound (10 ^ 20) room) h n)
      (good (at + length key + length (decimal v)) (behind_more (decimal v) rest (behind_more key (decimal v ++ rest) s)))

-- the end of a line, both ways
pub read_end : (P : Line → Type 0) (l : List ℕ) (p : ℕ) (rest : List ℕ) (line : Line) → Behind l p rest → P Malformed → (rest ≡ [] → P line)
    → P (when_end (eqb p (length l)) line)
read_end P l p rest line s wrong good =
    by_eq p (length l)
    (λ e. rw (eq-eqb p (length l) e) (good (sym s.bytes ∙ drop_of_length-le l {i = p} (omega arith))))
    (λ n. rw (ne_eqb p (length l) n) wrong)

pub rendered_end : (l : List ℕ) (p : ℕ) (line : Line) → Behind l p [] → when_end (eqb p (length l)) line ≡ line
rendered_end l p line s = rw (eq-eqb p (length l) (omega arith))
