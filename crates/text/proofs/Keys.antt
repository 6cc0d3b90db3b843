-- Laws of keys: as the library compares them; that a key which is found lies within the text; a key with its number.
use Prim.Native.Nat.{ℕ, suc, ◌+◌, ◌-◌, ◌<◌, ◌≤◌, zero-le, suc-le-suc}
use mathlib.Core.Path.{◌≡◌, refl, sym, ap₂, ◌∙◌}
use mathlib.Core.List.{List, [], ◌∷◌, ◌++◌}
use mathlib.Core.Bool.{Bool, true, false}
use native.Mathlib.Omega.{arith}
use lib.Dec.{eqb}
use lib.ListN.{length, take, drop, drop_of_length-le, length-drop}
use lib.Seq.{take_all}
use borrow.Author.Tests.{eqb-true, eq-eqb, ne_eqb}
use Rattle.words.proofs.Cases.{by_eq, and_left, and_right, clash}
use Rattle.std.specs.Prelude.{None, nat_eq}
use Rattle.std.specs.List as list
use Rattle.text.specs.Number.{number_at}
use Rattle.text.specs.Key.{key_at, starts_with, field_at}

-- as the library says it
pub key_starts : (x key : List ℕ) → list.starts_with nat_eq x key ≡ starts_with x key
unfolding starts_with
key_starts x [] = refl
key_starts [] (k ∷ key) = refl
key_starts (b ∷ x) (k ∷ key) =
    by_eq b k
    (λ e. rw (eq-eqb b k e, eq-eqb k b (sym e)) (key_starts x key))
    (λ n. rw (ne_eqb b k n, ne_eqb k b (λ e. n (sym e))))

-- the same of what follows a place
pub key_rest : (text : List ℕ) (at : ℕ) (key : List ℕ) → list.starts_with nat_eq (take (length text - at) (drop at text)) key ≡ key_at text at key
key_rest text at key = rw (take_all (length text - at) (drop at text) (omega (arith, length-drop at text))) (key_starts (drop at text) key)

-- past the end of the text only the empty key stands
pub key_past : (text : List ℕ) (at : ℕ) (key : List ℕ) → length text < at → eqb (length key) 0 ≡ starts_with (drop at text) key
unfolding starts_with
key_past text at [] h = refl
key_past text at (k ∷ key) h = rw (drop_of_length-le text {i = at} (omega arith), ne_eqb (suc (length key)) 0 (λ e. omega arith))

pub starts_within : (text key : List ℕ) → starts_with text key ≡ true → length key ≤ length text
unfolding starts_with
starts_within text [] e = zero-le
starts_within [] (k ∷ key) e = absurd (let s : ◌≡◌ {A = ℕ} 0 1 = cc in let z : ⊥ = omega arith in z)
starts_within (t ∷ text) (k ∷ key) e = suc-le-suc (starts_within text key (and_right (eqb t k) _ e))

-- what begins with a key is the key and a rest
pub key_split : (x key : List ℕ) → starts_with x key ≡ true → (rest : List ℕ) × (x ≡ key ++ rest)
unfolding starts_with
key_split x [] e = (x, refl)
key_split [] (k ∷ key) e = clash e refl
key_split (b ∷ x) (k ∷ key) e =
    let more = key_split x key (and_right (eqb b k) (starts_with x key) e) in
    let same : b ≡ k = eqb-true b k (and_left (eqb b k) (starts_with x key) e) in
    (more.0, ap₂ ◌∷◌ same more.1)

-- over the test b that the code has: a key that was found lies within the text
pub key_within : (text : List ℕ) (at : ℕ) (key : List ℕ) (b : Bool) → b ≡ key_at text at key → b ≡ true → 0 < length key → at + length key ≤ length text
key_within text at key b e t h = omega (arith, starts_within (drop at text) key (sym e ∙ t), length-drop at text)

-- a key at a place and then a number
module _ (text : List ℕ) (at : ℕ) (key : List ℕ) (bound : ℕ) (b : Bool) (e : b ≡ key_at text at key) where
  pub field_1 : b ≡ true → number_at text (at + length key) bound ≡ field_at text at key bound
  unfolding field_at
  field_1 t = rw (← e, t)

  pub field_2 : b ≡ false → None ≡ field_at text at key bound
  unfolding field_at
  field_2 t = rw (← e, t)
