-- An event's first key, which is compared as two numbers of several bytes: bytes that make the same number are the same.
use Prim.Native.Nat.{ℕ, suc, zero, ◌+◌, ◌≤◌}
use mathlib.Core.Path.{◌≡◌, refl, sym, ap, subst₂, ◌∙◌}
use mathlib.Core.List.{List, [], ◌∷◌, ◌++◌}
use mathlib.Core.Bool.{Bool, true, ◌&&◌}
use native.Mathlib.Omega.{arith}
use lib.Dec.{ltb}
use lib.ListN.{length, drop, length-drop, drop_of_length-le}
use lib.Seq.{drop-drop, drop-append_seam}
use borrow.Author.Tests.{ltb-true}
use Rattle.words.proofs.Cases.{and_left, and_right}
use Rattle.text.specs.Bytes.{bytes_of}
use Rattle.text.specs.Key.{starts_with}
use Rattle.text.specs.Inner.Blocks.{packed}
use Rattle.text.specs.Inner.Standing.{Stands}
use Rattle.text.proofs.Keys.{key_split}
use Rattle.text.proofs.Blocks.{Bytes, bytes_from, starts_packed}
use Rattle.text.proofs.Standing.{stands_then}

-- seen by computation of a key: its words are bytes
unfoldable pub all_bytes : List ℕ → Bool
all_bytes [] = true
all_bytes (b ∷ l) = ltb b 256 && all_bytes l

bytes_all : (l : List ℕ) → all_bytes l ≡ true → Bytes l
unfolding all_bytes
bytes_all [] h i = omega arith
bytes_all (b ∷ l) h zero = ltb-true b 256 (and_left (ltb b 256) (all_bytes l) h)
bytes_all (b ∷ l) h (suc i) = bytes_all l (and_right (ltb b 256) (all_bytes l) h) i

module _ (text : List ℕ) where
  -- a key of n bytes that were compared as one number w
  packed_stands : (n at : ℕ) (key : List ℕ) (w : ℕ) → length key ≡ n → all_bytes key ≡ true → Bytes text → at + n ≤ length text
      → w ≡ packed n (drop at text) → w ≡ packed n key → Stands text at key (at + n)
  unfolding starts_with
  packed_stands n at key w k a t h e f =
      let none : drop n key ≡ [] = drop_of_length-le key {i = n} (omega arith) in
      let there : starts_with (drop at text) key ≡ true =
      starts_packed n (drop at text) key (omega (arith, length-drop at text)) (omega arith) (bytes_from at text t) (bytes_all key a) (sym e ∙ f) ∙ rw none in
      let (rest, split) = key_split (drop at text) key there in
      let seam : drop n (key ++ rest) ≡ rest = ap (λ (j : ℕ). drop j (key ++ rest)) (sym k) ∙ drop-append_seam key rest in
      let behind : drop (at + n) text ≡ rest = sym (drop-drop n at text) ∙ ap (drop n) split ∙ seam in
      record { bytes = split ∙ ap (λ (z : List ℕ). key ++ z) (sym behind); size = omega arith }

  -- without the first byte
  stands_rest : {at q b : ℕ} {x : List ℕ} → Stands text at (b ∷ x) q → Stands text (at + 1) x q
  stands_rest {at} {q} {b} {x} s =
      record { bytes = sym (drop-drop 1 at text) ∙ ap (drop 1) s.bytes; size = omega (arith, s.size) }

  -- the two numbers have the blank in common
  pub begun : (at : ℕ) (key : List ℕ) (a k : ℕ) → length key ≡ 8 → all_bytes key ≡ true → Bytes text → at + 48 ≤ length text
      → a ≡ packed 4 (drop (at + 7) text) → a ≡ packed 4 (bytes_of " at=") → k ≡ packed 8 (drop at text) → k ≡ packed 8 key
      → Stands text at (key ++ bytes_of "at=") (at + 11)
  unfolding all_bytes
  begun at key a k n b t h ea fa ek fk =
      let four = stands_rest (packed_stands 4 (at + 7) (bytes_of " at=") a refl refl t (omega arith) ea fa) in
      stands_then text (packed_stands 8 at key k n b t (omega arith) ek fk)
      (subst₂ (λ (p q : ℕ). Stands text p (bytes_of "at=") q) (omega arith) (omega arith) four)
