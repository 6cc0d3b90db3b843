-- The rows of a list in the run area: where each message of a run stands.
use Prim.Native.Nat.{ℕ, zero, suc, ◌+◌, ◌<◌, ◌≤◌}
use mathlib.Core.Path.{◌≡◌, refl, sym, ap, ◌∙◌}
use mathlib.Core.List.{List, [], ◌∷◌, ◌++◌, map, append-nil}
use native.Mathlib.Omega.{arith}
use lib.ListN.{length, get_or}
use borrow.Author.Tests.{ne_eqb}
use Rattle.theory.specs.Line.{Run}
use Rattle.theory.specs.Answers.{Listed, orphans, kept_ones, lost_ones}
use Rattle.listing.specs.Listing.{Row, row_of, row_word, rows_of, list_word}
use Rattle.listing.proofs.Laying.{row_words, row_numbers, row_phases}

-- no message: what stands past the end of a list
abbrev pub blank : Listed
blank = record { from = 0; to = 0; number = 0; phase = 0 }

front_row : (f : Row → ℕ) (class : ℕ) (ms : List Listed) (rest : List Row) (i : ℕ) → i < length ms
    → get_or (map f (map (row_of class) ms ++ rest)) i 0 ≡ f (row_of class (get_or ms i blank))
front_row f class [] rest i h = absurd (let y : ⊥ = omega arith in y)
front_row f class (m ∷ ms) rest zero h = refl
front_row f class (m ∷ ms) rest (suc i) h = front_row f class ms rest i (omega arith)

later_row : (f : Row → ℕ) (class : ℕ) (ms : List Listed) (rest : List Row) (i : ℕ) → get_or (map f (map (row_of class) ms ++ rest)) (length ms + i) 0 ≡ get_or (map f rest) i 0
later_row f class [] rest i = ap (λ (j : ℕ). get_or (map f rest) j 0) (let q : 0 + i ≡ i = omega arith in q)
later_row f class (m ∷ ms) rest i =
    ap (λ (j : ℕ). get_or (map f (map (row_of class) (m ∷ ms) ++ rest)) j 0) (let q : suc (length ms) + i ≡ suc (length ms + i) = omega arith in q) ∙ later_row f class ms rest i

-- the words of message i of a list `ms`, in a run area where it stands after `before` others
pub record At (run : List ℕ) (before class : ℕ) (ms : List Listed) : Type 0 where
  pub word : (i : ℕ) → i < length ms → get_or run (17 + (before + i)) 0 ≡ (row_of class (get_or ms i blank)).word
  pub number : (i : ℕ) → i < length ms → get_or run (2066 + (before + i)) 0 ≡ (get_or ms i blank).number
  pub phase : (i : ℕ) → i < length ms → get_or run (4115 + (before + i)) 0 ≡ (get_or ms i blank).phase

-- ---- In a run area that lists the messages of a run

module _ (R : Run) (run : List ℕ) (words : (k : ℕ) → k < 16384 → get_or run k 0 ≡ list_word R k)
    (room : length (orphans R) + (length (kept_ones R) + length (lost_ones R)) ≤ 2048) where
  row_at : (k : ℕ) → 17 ≤ k → k < 16384 → get_or run k 0 ≡ row_word (rows_of R) k
  unfolding list_word
  row_at k a b = words k b ∙ rw (ne_eqb k 0 (λ e. omega arith), ne_eqb k 1 (λ e. omega arith), ne_eqb k 2 (λ e. omega arith))

  word_in : (j : ℕ) → j < 2048 → get_or run (17 + j) 0 ≡ get_or (map (λ r. r.word) (rows_of R)) j 0
  word_in j h = row_at (17 + j) (omega arith) (omega arith) ∙ row_words (rows_of R) (17 + j) j refl (omega arith)

  number_in : (j : ℕ) → j < 2048 → get_or run (2066 + j) 0 ≡ get_or (map (λ r. r.number) (rows_of R)) j 0
  number_in j h = row_at (2066 + j) (omega arith) (omega arith) ∙ row_numbers (rows_of R) (2066 + j) j refl (omega arith)

  phase_in : (j : ℕ) → j < 2048 → get_or run (4115 + j) 0 ≡ get_or (map (λ r. r.phase) (rows_of R)) j 0
  phase_in j h = row_at (4115 + j) (omega arith) (omega arith) ∙ row_phases (rows_of R) (4115 + j) j refl

  -- rows of the list, from a place in it on
  rows_at : (before class : ℕ) (ms : List Listed) → before + length ms ≤ 2048
      → ((f : Row → ℕ) (i : ℕ) → i < length ms → get_or (map f (rows_of R)) (before + i) 0 ≡ f (row_of class (get_or ms i blank))) → At run before class ms
  rows_at before class ms n row =
      record {
        word = λ i h. word_in (before + i) (omega arith) ∙ row (λ r. r.word) i h;
        number = λ i h. number_in (before + i) (omega arith) ∙ row (λ r. r.number) i h;
        phase = λ i h. phase_in (before + i) (omega arith) ∙ row (λ r. r.phase) i h;
      }

  abbrev rest₁ : List Row
  rest₁ = map (row_of 2) (kept_ones R) ++ map (row_of 3) (lost_ones R)

  orphan_row : (f : Row → ℕ) (i : ℕ) → i < length (orphans R) → get_or (map f (rows_of R)) (0 + i) 0 ≡ f (row_of 1 (get_or (orphans R) i blank))
  unfolding rows_of
  orphan_row f i h = ap (λ (j : ℕ). get_or (map f (map (row_of 1) (orphans R) ++ rest₁)) j 0) (let q : 0 + i ≡ i = omega arith in q) ∙ front_row f 1 (orphans R) rest₁ i h

  kept_row : (f : Row → ℕ) (i : ℕ) → i < length (kept_ones R) → get_or (map f (rows_of R)) (length (orphans R) + i) 0 ≡ f (row_of 2 (get_or (kept_ones R) i blank))
  unfolding rows_of
  kept_row f i h = later_row f 1 (orphans R) rest₁ i ∙ front_row f 2 (kept_ones R) (map (row_of 3) (lost_ones R)) i h

  lost_row : (f : Row → ℕ) (i : ℕ) → i < length (lost_ones R)
      → get_or (map f (rows_of R)) (length (orphans R) + length (kept_ones R) + i) 0 ≡ f (row_of 3 (get_or (lost_ones R) i blank))
  unfolding rows_of
  lost_row f i h =
      ap (λ (j : ℕ). get_or (map f (rows_of R)) j 0) (let q : length (orphans R) + length (kept_ones R) + i ≡ length (orphans R) + (length (kept_ones R) + i) = omega arith in q)
      ∙ later_row f 1 (orphans R) _ (length (kept_ones R) + i) ∙ later_row f 2 (kept_ones R) (map (row_of 3) (lost_ones R)) i
      ∙ ap (λ (x : List Row). get_or (map f x) i 0) (sym (append-nil (map (row_of 3) (lost_ones R)))) ∙ front_row f 3 (lost_ones R) [] i h

  pub orphans_at : At run 0 1 (orphans R)
  orphans_at = rows_at 0 1 (orphans R) (omega (arith, room)) orphan_row

  pub kept_at : At run (length (orphans R)) 2 (kept_ones R)
  kept_at = rows_at (length (orphans R)) 2 (kept_ones R) (omega (arith, room)) kept_row

  pub lost_at : At run (length (orphans R) + length (kept_ones R)) 3 (lost_ones R)
  lost_at = rows_at (length (orphans R) + length (kept_ones R)) 3 (lost_ones R) (omega (arith, room)) lost_row
