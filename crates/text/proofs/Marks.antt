-- Laws of the joint test for LF: what it computes are marks in the places of the bytes that are LF, its lowest mark is
-- that of the first of them, and there is no mark exactly if there is no LF.
use Prim.Native.Nat.{ℕ, suc, zero, ◌+◌, ◌-◌, ◌*◌, ◌/◌, ◌%◌, ◌^◌, ◌<◌, ◌≤◌}
use mathlib.Core.Path.{◌≡◌, refl, sym, ◌∙◌}
use mathlib.Core.List.{List}
use mathlib.Core.Bool.{cond}
use native.Mathlib.Omega.{arith}
use native.Mathlib.Nat.{pow-zero, pow-suc, zero-add, suc-add, one-mul, mul_comm, mul_assoc}
use lib.Dec.{eqb}
use lib.ListN.{length, get_or, drop}
use lib.Seq.{get_or-drop}
use lib.Bits.{bit_and, bit_or, bit_xor, and_block, or_block, xor_block, and_le_r, or_lt, xor_lt}
use lib.Count.{count_trailing_zeros, trailing_of_zero}
use borrow.Author.Tests.{eq-eqb, ne_eqb}
use Rattle.words.specs.Area.{words_from}
use Rattle.words.proofs.Area.{words_agree}
use Rattle.words.proofs.Cases.{by_eq}
use Rattle.words.proofs.Zeros.{even_zeros, odd_zeros}
use Rattle.std.specs.Prelude.{Some}
use Rattle.text.specs.Inner.Line.{line_end}
use Rattle.text.specs.Inner.Blocks.{packed, byte_of, AnyLf, FirstLf, marks}
use Rattle.text.proofs.Lines.{lf_here, lf_past}
use Rattle.text.proofs.Blocks.{Bytes, bytes_from, byte_first, byte_next, byte_packed}

-- ---- What is computed

-- the byte that the code looks for (which it should is in `marks`), and the same byte in each of k places
abbrev lf : ℕ
lf = 10

abbrev repeated : ℕ → ℕ → ℕ
repeated b zero = 0
repeated b (suc k) = repeated b k * 256 + b

-- as `lf_marks` has them, of k bytes
abbrev differs : ℕ → ℕ → ℕ
differs k w = bit_xor w (repeated lf k)

abbrev carried : ℕ → ℕ → ℕ
carried k w = bit_and (differs k w) (repeated 127 k) + repeated 127 k

-- the highest bit of each byte that is not LF, and the low seven of each
abbrev unmarked : ℕ → ℕ → ℕ
unmarked k w = bit_or (bit_or (carried k w) (differs k w)) (repeated 127 k)

-- the lowest byte and those above it apart: no sum leaves its byte
module _ (k a r : ℕ) (h : r < 256) where
  low_differs : bit_xor r lf < 256
  low_differs = xor_lt 8 r lf h (omega arith)

  low_carried : bit_and (bit_xor r lf) 127 + 127 < 256
  low_carried = omega (arith, and_le_r (bit_xor r lf) 127)

  unmarked_next : unmarked (suc k) (a * 256 + r) ≡ unmarked k a * 256 + unmarked 1 r
  unmarked_next =
      let x = differs k a in
      let y = bit_xor r lf in
      let l = repeated 127 k in
      let apart : bit_and x l * 256 + bit_and y 127 + (l * 256 + 127) ≡ carried k a * 256 + (bit_and y 127 + 127) = omega arith in
      let u = bit_or (bit_and y 127 + 127) y in
      rw (
        xor_block 8 a (repeated lf k) r lf h (omega arith),
        and_block 8 x l y 127 low_differs (omega arith),
        apart,
        or_block 8 (carried k a) x (bit_and y 127 + 127) y low_carried low_differs,
        or_block 8 (bit_or (carried k a) x) l u 127 (or_lt 8 (bit_and y 127 + 127) y low_carried low_differs) (omega arith),
      )

-- one byte, by trying all 256
module _ (r : ℕ) (h : r < 256) where
  byte_lt : unmarked 1 r < 256
  unfolding words_from
  byte_lt = let e : unmarked 1 r / 256 ≡ 0 = words_agree (λ i. unmarked 1 i / 256) (λ i. 0) 256 r refl h in omega arith

  byte_mark : 255 - unmarked 1 r ≡ cond (eqb r 10) 128 0
  unfolding words_from
  byte_mark = words_agree (λ i. 255 - unmarked 1 i) (λ i. cond (eqb i 10) 128 0) 256 r refl h

-- k bytes
record Marked (k w : ℕ) : Type 0 where
  lt : unmarked k w < 256 ^ k
  left : 256 ^ k - 1 - unmarked k w ≡ marks k w

marked : (k w : ℕ) → w < 256 ^ k → Marked k w
unfolding marks
marked zero w h =
    let e : w ≡ 0 = omega (arith, pow-zero 256) in
    rw e (record { lt = omega arith; left = refl })
marked (suc k) w h =
    let a = w / 256 in
    let r = w % 256 in
    let up = pow-suc 256 k in
    let m = marked k a (omega (arith, up)) in
    let lr : r < 256 = omega arith in
    let e : a * 256 + r ≡ w = omega arith in
    let n = unmarked_next k a r lr in
    let s = rw e at n in
    record {
      lt = omega (arith, s, up, m.lt, byte_lt r lr);
      left = omega (arith, s, up, m.lt, m.left, byte_lt r lr, byte_mark r lr);
    }

-- eight bytes, as `lf_marks` computes them
pub joint : (w : ℕ) → w < 2 ^ 64 → 2 ^ 64 - 1 - unmarked 8 w ≡ marks 8 w
joint w h = (marked 8 w h).left

-- ---- What the marks tell

-- one byte, and those behind it
module _ (k w : ℕ) where
  marks_yes : w % 256 ≡ 10 → marks (suc k) w ≡ 128 + 256 * marks k (w / 256)
  unfolding marks
  marks_yes e = rw (eq-eqb (w % 256) 10 e)

  marks_no : (w % 256 ≡ 10 → ⊥) → marks (suc k) w ≡ 256 * marks k (w / 256)
  unfolding marks
  marks_no n = rw (ne_eqb (w % 256) 10 n) (omega arith)

-- i zeros more at the end of a number
zeros_past : (i k n : ℕ) → count_trailing_zeros (i + k) (2 ^ i * n) ≡ i + count_trailing_zeros k n
zeros_past zero k n = rw (one-mul n, zero-add k, zero-add (count_trailing_zeros k n))
zeros_past (suc i) k n =
    let m = 2 ^ i * n in
    let e : 2 ^ suc i * n ≡ 2 * m = rw (pow-suc 2 i, mul_comm (2 ^ i) 2, mul_assoc 2 (2 ^ i) n) in
    let h : 2 * m / 2 ≡ m = omega arith in
    rw (e, suc-add i k, even_zeros (i + k) (2 * m) (omega arith), h, zeros_past i k n) (omega arith)

-- the zeros below the lowest mark
module _ (k w : ℕ) where
  zeros_yes : w % 256 ≡ 10 → count_trailing_zeros (8 * suc k) (marks (suc k) w) ≡ 7
  zeros_yes e =
      let n = marks k (w / 256) in
      let m : marks (suc k) w ≡ 128 * (1 + 2 * n) = omega (arith, marks_yes k w e) in
      let j : 8 * suc k ≡ 7 + suc (8 * k) = omega arith in
      rw (m, j, zeros_past 7 (suc (8 * k)) (1 + 2 * n), odd_zeros (8 * k) (1 + 2 * n) (omega arith))

  zeros_no : (w % 256 ≡ 10 → ⊥) → count_trailing_zeros (8 * suc k) (marks (suc k) w) ≡ 8 + count_trailing_zeros (8 * k) (marks k (w / 256))
  zeros_no d =
      let j : 8 * suc k ≡ 8 + 8 * k = omega arith in
      rw (marks_no k w d, j, zeros_past 8 (8 * k) (marks k (w / 256)))

-- where the first byte is not LF, what there is lies behind it
module _ (k w : ℕ) (d : w % 256 ≡ 10 → ⊥) where
  any_later : AnyLf (suc k) w → AnyLf k (w / 256)
  any_later (zero, l, e) = absurd (d (sym (byte_first w) ∙ e))
  any_later (suc i, l, e) = (i, omega arith, sym (byte_next w i) ∙ e)

  first_later : (i : ℕ) → FirstLf k (w / 256) i → FirstLf (suc k) w (suc i)
  first_later i f =
      record {
        within = omega (arith, f.within);
        here = byte_next w i ∙ f.here;
        before = before;
      }
    where
      before : (j : ℕ) → j < suc i → byte_of w j ≡ 10 → ⊥
      before zero l e = d (sym (byte_first w) ∙ e)
      before (suc j) l e = f.before j (omega arith) (sym (byte_next w j) ∙ e)

-- the lowest mark is that of the first LF
pub first_mark : (k w : ℕ) → AnyLf k w → FirstLf k w (count_trailing_zeros (8 * k) (marks k w) / 8)
first_mark zero w a = absurd (let z : ⊥ = omega (arith, a.1) in z)
first_mark (suc k) w a =
    by_eq (w % 256) 10
    (λ e.
    rw (zeros_yes k w e)
    (record {
      within = omega arith;
      here = byte_first w ∙ e;
      before = λ j l. absurd (let z : ⊥ = omega arith in z);
    }))
    (λ d.
    let zeros = count_trailing_zeros (8 * k) (marks k (w / 256)) in
    let q : (8 + zeros) / 8 ≡ suc (zeros / 8) = omega arith in
    rw (zeros_no k w d, q) (first_later k w d (zeros / 8) (first_mark k (w / 256) (any_later k w d a))))

-- there is a mark exactly if there is an LF
pub any_mark : (k w : ℕ) → (marks k w ≡ 0 → ⊥) → AnyLf k w
unfolding marks
any_mark zero w n = absurd (n refl)
any_mark (suc k) w n =
    by_eq (w % 256) 10
    (λ e. (0, omega arith, byte_first w ∙ e))
    (λ d.
    let rest = any_mark k (w / 256) (λ z. n (omega (arith, marks_no k w d, z))) in
    (suc rest.0, omega (arith, rest.1), byte_next w rest.0 ∙ rest.2))

pub no_mark : (k w : ℕ) → marks k w ≡ 0 → AnyLf k w → ⊥
no_mark k w e a =
    let all : count_trailing_zeros (8 * k) (marks k w) / 8 ≡ k = rw (e, trailing_of_zero (8 * k)) (omega arith) in
    let z : ⊥ = omega (arith, all, (first_mark k w a).within) in
    z

-- ---- In a text

-- eight bytes of a text, as a number
module _ (text : List ℕ) (at w : ℕ) (h : at + 8 ≤ length text) (p : Bytes text) (e : w ≡ packed 8 (drop at text)) where
  byte_there : (i : ℕ) → i < 8 → byte_of w i ≡ get_or text (at + i) 0
  byte_there i l = rw e (byte_packed 8 (drop at text) i l (bytes_from at text p) ∙ get_or-drop at text i 0)

  pub none_of_eight : (AnyLf 8 w → ⊥) → line_end text at ≡ line_end text (at + 8)
  none_of_eight n = lf_past text at 8 h (λ i l q. n (i, l, byte_there i l ∙ q))

  pub first_of_eight : (i : ℕ) → FirstLf 8 w i → line_end text at ≡ Some (at + i)
  first_of_eight i f =
      let l = f.within in
      lf_past text at i (omega arith) (λ j g q. f.before j g (byte_there j (omega arith) ∙ q))
      ∙ lf_here text (at + i) (omega arith) (sym (byte_there i l) ∙ f.here)
