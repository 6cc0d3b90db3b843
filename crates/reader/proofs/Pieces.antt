-- The text cut into pieces: joined again they are the text, and a line without LF is one piece. From the definition of
-- `pieces`.
use Prim.Native.Nat.{ℕ}
use mathlib.Core.Path.{◌≡◌, refl, sym, ap, ap₂, ◌∙◌}
use mathlib.Core.List.{List, [], ◌∷◌, ◌++◌}
use mathlib.Core.Bool.{Bool, true, ◌&&◌, not}
use lib.Dec.{eqb}
use borrow.Author.Tests.{eqb-true, not-true}
use Rattle.words.proofs.Cases.{by_bool, and_left, and_right}
use Rattle.reader.specs.Verdict.{grow, pieces}
use Rattle.lines.proofs.Plain.{plain}

-- pieces with an LF between each two
unfoldable pub joined : List (List ℕ) → List ℕ
joined [] = []
joined (l ∷ []) = l
joined (l ∷ (m ∷ ms)) = l ++ 10 ∷ joined (m ∷ ms)

-- a text has a first piece
pub first_piece : (text : List ℕ) → (l : List ℕ) × (ls : List (List ℕ)) × (pieces text ≡ l ∷ ls)
unfolding pieces
first_piece [] = ([], [], refl)
first_piece (b ∷ bs) =
    let (l, ls, e) = first_piece bs in
    by_bool (eqb b 10) (λ t. ([], pieces bs, rw t)) (λ f. (b ∷ l, ls, rw (f, e)))

pub joined_grow : (b : ℕ) (l : List ℕ) (ls : List (List ℕ)) → joined ((b ∷ l) ∷ ls) ≡ b ∷ joined (l ∷ ls)
unfolding joined
joined_grow b l [] = refl
joined_grow b l (m ∷ ms) = refl

pub joined_pieces : (text : List ℕ) → joined (pieces text) ≡ text
unfolding joined pieces
joined_pieces [] = refl
joined_pieces (b ∷ bs) =
    let (l, ls, e) = first_piece bs in
    let same : joined (l ∷ ls) ≡ bs = ap joined (sym e) ∙ joined_pieces bs in
    by_bool (eqb b 10)
    (λ t. rw (t, e) (ap₂ ◌∷◌ (sym (eqb-true b 10 t)) same))
    (λ f. rw (f, e) (joined_grow b l ls ∙ ap (λ (x : List ℕ). b ∷ x) same))

pub line_piece : (l rest : List ℕ) → plain l ≡ true → pieces (l ++ 10 ∷ rest) ≡ l ∷ pieces rest
unfolding pieces plain
line_piece [] rest h = refl
line_piece (b ∷ l) rest h =
    rw (not-true (eqb b 10) (and_left (not (eqb b 10)) (plain l) h)) (ap (grow b) (line_piece l rest (and_right (not (eqb b 10)) (plain l) h)))

-- a line without LF is one piece
pub plain_piece : (l : List ℕ) → plain l ≡ true → pieces l ≡ l ∷ []
unfolding pieces plain
plain_piece [] h = refl
plain_piece (b ∷ l) h =
    rw (not-true (eqb b 10) (and_left (not (eqb b 10)) (plain l) h)) (ap (grow b) (plain_piece l (and_right (not (eqb b 10)) (plain l) h)))

-- no piece of a text has an LF
unfoldable pub plains : List (List ℕ) → Bool
plains [] = true
plains (l ∷ ls) = plain l && plains ls

pub plains_pieces : (text : List ℕ) → plains (pieces text) ≡ true
unfolding pieces plain plains
plains_pieces [] = refl
plains_pieces (b ∷ bs) =
    let (l, ls, e) = first_piece bs in
    let h : plains (l ∷ ls) ≡ true = rw e at (plains_pieces bs) in
    by_bool (eqb b 10)
    (λ t. rw t (plains_pieces bs))
    (λ f. rw (f, e) (rw f h))
