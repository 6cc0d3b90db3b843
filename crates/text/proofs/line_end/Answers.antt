use mathlib.Core.Path.{sym, ◌∙◌}
use native.Mathlib.Omega.{arith}
use Rattle.words.proofs.Cases.{clash}
use Rattle.text.proofs.Marks.{none_of_eight, first_of_eight}
use Rattle.text.proofs.Lines.{lf_none, lf_found, lf_nowhere}
use Rattle.text.proofs.line_end.Goals as goal

pub returns-then-has_lf : goal.returns-then-has_lf
returns-then-has_lf c =
    let first = c.first_lf.ensures (c.has_lf.ensures.0 c.if-has_lf.true) in
    sym
    (first_of_eight _ c.loop-at.at _
    (omega (arith, c.saturating_sub-eights.ensures))
    (λ i. omega (arith, c.type_inv.text i))
    c.eight-w.ensures
    _
    first)
    ∙ c.loop-at.invariant

pub loop-at-preserved : goal.loop-at-preserved
loop-at-preserved c =
    sym
    (none_of_eight _ c.loop-at.at _
    (omega (arith, c.saturating_sub-eights.ensures))
    (λ i. omega (arith, c.type_inv.text i))
    c.eight-w.ensures
    (λ a. clash (c.has_lf.ensures.1 a) c.if-has_lf.false))
    ∙ c.loop-at.invariant

pub returns-then-at-text : goal.returns-then-at-text
returns-then-at-text c = sym (lf_none _ c.loop-at.at (omega arith)) ∙ c.loop-at.invariant

pub returns-in_err-found : goal.returns-in_err-found
returns-in_err-found c = c.from_residual.ensures ∙ sym (lf_nowhere _ c.loop-at.at _ c.lf_singly.ensures.first c.in_err-found.was) ∙ c.loop-at.invariant

pub returns : goal.returns
returns c = sym (lf_found _ c.loop-at.at _ _ c.lf_singly.ensures.first c.in_ok-found.was) ∙ c.loop-at.invariant
