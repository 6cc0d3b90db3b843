-- Laws of numbers that stand for several bytes: which bytes they are, and keys compared by fours.
use Prim.Native.Nat.{ℕ, suc, zero, ◌+◌, ◌*◌, ◌/◌, ◌%◌, ◌^◌, ◌<◌, ◌≤◌}
use mathlib.Core.Path.{◌≡◌, refl, sym, ◌∙◌, ap}
use mathlib.Core.List.{List, [], ◌∷◌}
use mathlib.Core.Bool.{false}
use native.Mathlib.Omega.{arith}
use native.Mathlib.Nat.{pow-zero, pow-suc, div-one, zero-div, mul_comm, div-div-eq-div-mul}
use lib.ListN.{length, get_or, drop, length-drop}
use lib.Seq.{drop-cons, drop-drop, get_or-drop}
use borrow.Author.Tests.{eq-eqb, ne_eqb}
use Rattle.words.proofs.Cases.{by_eq}
use Rattle.text.specs.Key.{starts_with}
use Rattle.text.specs.Inner.Blocks.{packed, byte_of}

-- the words of a list are bytes
abbrev pub Bytes : List ℕ → Type 0
Bytes l = (i : ℕ) → get_or l i 0 < 256

-- the number of four bytes, by their places
module _ (text : List ℕ) (at : ℕ) where
  from_here : at < length text → drop at text ≡ get_or text at 0 ∷ drop (at + 1) text
  from_here h = let e : suc at ≡ at + 1 = omega arith in drop-cons text at 0 h ∙ ap (λ (i : ℕ). get_or text at 0 ∷ drop i text) e

  from_past : (k : ℕ) → at + k < length text → drop (at + k) text ≡ get_or text (at + k) 0 ∷ drop (at + (k + 1)) text
  from_past k h =
      let e : suc (at + k) ≡ at + (k + 1) = omega arith in drop-cons text (at + k) 0 h ∙ ap (λ (i : ℕ). get_or text (at + k) 0 ∷ drop i text) e

  pub four_packed : at + 4 ≤ length text
      → get_or text at 0 + 256 * get_or text (at + 1) 0 + 65536 * get_or text (at + 2) 0 + 16777216 * get_or text (at + 3) 0 ≡ packed 4 (drop at text)
  unfolding packed
  four_packed h = rw (from_here (omega arith), from_past 1 (omega arith), from_past 2 (omega arith), from_past 3 (omega arith)) (omega arith)

-- eight bytes are four and four
pub two_fours : (l : List ℕ) → packed 4 l + 4294967296 * packed 4 (drop 4 l) ≡ packed 8 l
unfolding packed
two_fours [] = refl
two_fours (a ∷ []) = omega arith
two_fours (a ∷ b ∷ []) = omega arith
two_fours (a ∷ b ∷ c ∷ []) = omega arith
two_fours (a ∷ b ∷ c ∷ d ∷ l) = omega arith

-- a number's first byte, and those behind it
module _ (w : ℕ) where
  pub byte_first : byte_of w 0 ≡ w % 256
  unfolding byte_of
  byte_first = rw (pow-zero 256, div-one w)

  pub byte_next : (i : ℕ) → byte_of w (suc i) ≡ byte_of (w / 256) i
  unfolding byte_of
  byte_next i = rw (pow-suc 256 i, mul_comm (256 ^ i) 256, div-div-eq-div-mul w 256 (256 ^ i))

zero_byte : (i : ℕ) → byte_of 0 i ≡ 0
unfolding byte_of
zero_byte i = rw (zero-div (256 ^ i))

-- the bytes of the number are those of the list
pub byte_packed : (k : ℕ) (l : List ℕ) (i : ℕ) → i < k → Bytes l → byte_of (packed k l) i ≡ get_or l i 0
unfolding packed
byte_packed zero l i h p = absurd (let z : ⊥ = omega arith in z)
byte_packed (suc k) [] i h p = zero_byte i
byte_packed (suc k) (b ∷ l) zero h p = byte_first (b + 256 * packed k l) ∙ omega (arith, p 0)
byte_packed (suc k) (b ∷ l) (suc i) h p =
    let e : (b + 256 * packed k l) / 256 ≡ packed k l = omega (arith, p 0) in
    byte_next (b + 256 * packed k l) i ∙ rw e (byte_packed k l i (omega arith) (λ j. p (suc j)))

-- lists that begin with the same number of k bytes agree there, and others do not
pub starts_packed : (k : ℕ) (l m : List ℕ) → k ≤ length l → k ≤ length m → Bytes l → Bytes m
    → packed k l ≡ packed k m → starts_with l m ≡ starts_with (drop k l) (drop k m)
unfolding packed starts_with
starts_packed zero l m h g p q e = refl
starts_packed (suc k) [] m h g p q e = absurd (let z : ⊥ = omega arith in z)
starts_packed (suc k) (b ∷ l) [] h g p q e = absurd (let z : ⊥ = omega arith in z)
starts_packed (suc k) (b ∷ l) (c ∷ m) h g p q e =
    let same : b ≡ c = omega (arith, p 0, q 0, e) in
    rw (eq-eqb b c same) (starts_packed k l m (omega arith) (omega arith) (λ i. p (suc i)) (λ i. q (suc i)) (omega (arith, p 0, q 0, e)))

pub starts_unpacked : (k : ℕ) (l m : List ℕ) → k ≤ length l → k ≤ length m
    → (packed k l ≡ packed k m → ⊥) → starts_with l m ≡ false
unfolding packed starts_with
starts_unpacked zero l m h g n = absurd (n refl)
starts_unpacked (suc k) [] m h g n = absurd (let z : ⊥ = omega arith in z)
starts_unpacked (suc k) (b ∷ l) [] h g n = absurd (let z : ⊥ = omega arith in z)
starts_unpacked (suc k) (b ∷ l) (c ∷ m) h g n =
    by_eq b c
    (λ e. rw (eq-eqb b c e) (starts_unpacked k l m (omega arith) (omega arith) (λ s. n (rw (e, s)))))
    (λ d. rw (ne_eqb b c d))

pub bytes_from : (n : ℕ) (l : List ℕ) → Bytes l → Bytes (drop n l)
bytes_from n l b i = rw (get_or-drop n l i 0) (b (n + i))

-- a turn of the key's loop by fours, where the key has room in the text
module _ (text : List ℕ) (at i : ℕ) (key : List ℕ) (h : i + 4 ≤ length key) (g : at + length key ≤ length text) where
  pub key_four_next : Bytes text → Bytes key → (a b : ℕ) → a ≡ packed 4 (drop (at + i) text) → b ≡ packed 4 (drop i key) → a ≡ b
      → starts_with (drop (at + i) text) (drop i key) ≡ starts_with (drop (at + (i + 4)) text) (drop (i + 4) key)
  key_four_next p q a b ea eb e =
      let next : at + i + 4 ≡ at + (i + 4) = omega arith in
      starts_packed 4 (drop (at + i) text) (drop i key)
      (omega (arith, length-drop (at + i) text))
      (omega (arith, length-drop i key))
      (bytes_from (at + i) text p)
      (bytes_from i key q)
      (sym ea ∙ e ∙ eb)
      ∙ rw (drop-drop 4 (at + i) text, drop-drop 4 i key, next)

  pub key_four_differs : (a b : ℕ) → a ≡ packed 4 (drop (at + i) text) → b ≡ packed 4 (drop i key) → (a ≡ b → ⊥)
      → starts_with (drop (at + i) text) (drop i key) ≡ false
  key_four_differs a b ea eb n =
      starts_unpacked 4 (drop (at + i) text) (drop i key)
      (omega (arith, length-drop (at + i) text))
      (omega (arith, length-drop i key))
      (λ e. n (ea ∙ e ∙ sym eb))
