-- `reader::process_count` meets its contract, one law for each way out.
use mathlib.Core.Path.{sym, ◌∙◌}
use lib.Seq.{length-take-le}
use native.Mathlib.Omega.{arith}
use Rattle.reader.proofs.Cutting.{first_cut}
use Rattle.reader.proofs.Turns.{at_line, scan_missing, scan_other, scan_low, scan_high, scan_next}
use Rattle.reader.proofs.process_count.Goals as goal

pub returns-in_default : goal.returns-in_default
returns-in_default c =
    at_line _ _ _ _ c.at.ensures (scan_missing _ (sym c.line_end.ensures ∙ c.in_default.is))

pub slice_bounds-first_line-end : goal.slice_bounds-first_line-end
slice_bounds-first_line-end c =
    let q = first_cut _ _ (sym c.line_end.ensures ∙ c.in-Some.is) in sym (length-take-le _ _ (omega (arith, q.0)))

pub returns-in_default-first : goal.returns-in_default-first
returns-in_default-first c =
    at_line _ _ _ _ c.at-in_default-first.ensures (scan_other _ _ (sym c.line_end.ensures ∙ c.in-Some.is) _ c.first_line-first.ensures c.in_default-first.not-Procs)

pub returns-then-n-lt2 : goal.returns-then-n-lt2
returns-then-n-lt2 c =
    at_line _ _ _ _ c.at-then-n-lt2.ensures (scan_low _ _ (sym c.line_end.ensures ∙ c.in-Some.is) _ c.first_line-first.ensures _ c.in-Procs.is c.if-n-lt2.true)

pub returns-then-n : goal.returns-then-n
returns-then-n c =
    at_line _ _ _ _ c.at-then-n.ensures (scan_high _ _ (sym c.line_end.ensures ∙ c.in-Some.is) _ c.first_line-first.ensures _ c.in-Procs.is c.if-n-lt2.false c.if-n.true)

pub overflow_add-result : goal.overflow_add-result
overflow_add-result c =
    let q = first_cut _ _ (sym c.line_end.ensures ∙ c.in-Some.is) in omega (arith, c.well_formed, q.0)

pub returns : goal.returns
returns c =
    let q = first_cut _ _ (sym c.line_end.ensures ∙ c.in-Some.is) in
    (c.if-n.false, (omega (arith, q.0), scan_next _ _ (sym c.line_end.ensures ∙ c.in-Some.is) _ c.first_line-first.ensures _ c.in-Procs.is c.if-n-lt2.false c.if-n.false))
