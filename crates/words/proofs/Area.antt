-- Laws of `words_from` and `ruled`: an area is what its places say; and of a clear area.
use Prim.Native.Nat.{ℕ, suc, zero, ◌+◌, ◌<◌}
use mathlib.Core.Path.{◌≡◌, refl, sym, ap, ◌∙◌}
use mathlib.Core.List.{List}
use native.Mathlib.Omega.{arith}
use lib.ListN.{length, get_or, replicate, length-replicate, get_or-replicate, get_or-eq_default}
use lib.Seq.{ext_get_or}
use Rattle.words.specs.Area.{words_from}
use Rattle.words.proofs.Cases.{by_lt}

pub length_words : (f : ℕ → ℕ) (i n : ℕ) → length (words_from f i n) ≡ n
unfolding words_from
length_words f i zero = refl
length_words f i (suc n) = ap suc (length_words f (suc i) n)

pub get_d_words : (f : ℕ → ℕ) (i n k : ℕ) → k < n → get_or (words_from f i n) k 0 ≡ f (i + k)
unfolding words_from
get_d_words f i zero k h = absurd (let z : ⊥ = omega arith in z)
get_d_words f i (suc n) zero h = ap f (omega arith)
get_d_words f i (suc n) (suc k) h = get_d_words f (suc i) n k (omega arith) ∙ ap f (omega arith)

pub words_at_lem : (f : ℕ → ℕ) (n k : ℕ) → k < n → get_or (words_from f 0 n) k 0 ≡ f k
words_at_lem f n k h = get_d_words f 0 n k h ∙ ap f (omega arith)

-- rules that give the same n words agree on each number below n; so what all of them have can be computed
pub words_agree : (f g : ℕ → ℕ) (n k : ℕ) → words_from f 0 n ≡ words_from g 0 n → k < n → f k ≡ g k
words_agree f g n k e h = sym (words_at_lem f n k h) ∙ ap (λ (l : List ℕ). get_or l k 0) e ∙ words_at_lem g n k h

-- a list is the words by a rule, if its places are
pub words_ext : (f : ℕ → ℕ) (n : ℕ) (x : List ℕ) → length x ≡ n → ((k : ℕ) → k < n → get_or x k 0 ≡ f k) → x ≡ words_from f 0 n
words_ext f n x e h =
    ext_get_or 0 x (words_from f 0 n) (e ∙ sym (length_words f 0 n))
    (λ i l. h i (omega arith) ∙ sym (words_at_lem f n i (omega arith)))

-- a word of a clear list, and past its end
pub zero_word : (n k : ℕ) → ◌≡◌ {A = ℕ} (get_or (replicate n 0) k 0) 0
zero_word n k =
    by_lt k n
    (λ h. get_or-replicate {A = ℕ} n k 0 0 h)
    (λ h. get_or-eq_default {A = ℕ} (replicate n 0) 0 {n = k} (rw (length-replicate {A = ℕ} n 0) h))
