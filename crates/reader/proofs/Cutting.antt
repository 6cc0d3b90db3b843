-- Laws of `pieces`: the search for LF cuts the text where the definition does.
use Prim.Native.Nat.{ℕ, suc, ◌+◌, ◌-◌, ◌<◌, ◌≤◌}
use mathlib.Core.Path.{◌≡◌, refl, ◌∙◌}
use mathlib.Core.List.{List, [], ◌∷◌}
use native.Mathlib.Omega.{arith}
use lib.Dec.{eqb}
use lib.ListN.{length, take, drop, length-drop}
use lib.Seq.{drop-drop}
use Rattle.words.proofs.Cases.{by_bool}
use Rattle.std.specs.Prelude.{Some, None}
use Rattle.text.specs.Inner.Line.{lf_from}
use Rattle.lines.specs.declared.Line.{Line}
use Rattle.lines.specs.Line.{line_said}
use Rattle.lines.specs.Inner.Placing.{next_line}
use Rattle.lines.proofs.Placing.{said_at, missing_at}
use Rattle.reader.specs.Verdict.{pieces}

-- the bytes up to the first LF are the first piece
pub cut_at : (at : ℕ) (bs : List ℕ) (i : ℕ) → lf_from at bs ≡ Some i
    → (d : ℕ) × (i ≡ at + d) × (d < length bs) × (pieces bs ≡ take d bs ∷ pieces (drop (d + 1) bs))
unfolding lf_from pieces
cut_at at [] i e = absurd (let z : ◌≡◌ {A = ℕ} 0 1 = cc in let w : ⊥ = omega arith in w)
cut_at at (b ∷ bs) i e =
    by_bool (eqb b 10)
    (λ t. let q : Some at ≡ Some i = rw t at e in let r : at ≡ i = cc in (0, omega arith, omega arith, rw t))
    (λ t. let q : lf_from (at + 1) bs ≡ Some i = rw t at e in
    let p = cut_at (at + 1) bs i q in
    let s : suc p.0 + 1 ≡ suc (p.0 + 1) = omega arith in
    (suc p.0, omega (arith, p.1), omega (arith, p.2), rw (t, p.3, s)))

-- with no LF there is one piece
pub cut_none : (at : ℕ) (bs : List ℕ) → lf_from at bs ≡ None → pieces bs ≡ bs ∷ []
unfolding lf_from pieces
cut_none at [] e = refl
cut_none at (b ∷ bs) e =
    by_bool (eqb b 10)
    (λ t. let q : Some at ≡ None = rw t at e in absurd (let z : ◌≡◌ {A = ℕ} 0 1 = cc in let w : ⊥ = omega arith in w))
    (λ t. let q : lf_from (at + 1) bs ≡ None = rw t at e in rw (t, cut_none (at + 1) bs q))

-- the same of the line at a place of a text: it is a piece, and the next place is where the others begin
pub line_cut : (text : List ℕ) (at : ℕ) (l : Line) (next : ℕ) → next_line text at ≡ Some (l, next)
    → (at < next) × (next ≤ length text) × (piece : List ℕ) × (pieces (drop at text) ≡ piece ∷ pieces (drop next text)) × (l ≡ line_said piece)
line_cut text at l next e =
    let (i, lf, after, said) = said_at text at l next e in
    let p = cut_at at (drop at text) i lf in
    let d : i - at ≡ p.0 = omega (arith, p.1) in
    let n : at + (p.0 + 1) ≡ next = omega (arith, p.1, after) in (
      omega (arith, p.1, after),
      omega (arith, p.1, p.2, after, length-drop at text),
      take (i - at) (drop at text),
      p.3 ∙ rw (d, drop-drop (p.0 + 1) at text, n),
      said,
    )

pub line_none : (text : List ℕ) (at : ℕ) → next_line text at ≡ None → pieces (drop at text) ≡ drop at text ∷ []
line_none text at e = cut_none at (drop at text) (missing_at text at e)

-- and from the start
pub first_cut : (text : List ℕ) (i : ℕ) → lf_from 0 text ≡ Some i → (i < length text) × (pieces text ≡ take i text ∷ pieces (drop (i + 1) text))
first_cut text i e =
    let p = cut_at 0 text i e in
    let d : p.0 ≡ i = omega (arith, p.1) in
    (omega (arith, p.2), p.3 ∙ rw d)
