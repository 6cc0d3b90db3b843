-- `lines::searched_line` meets its contract: the end that was found lies within the text.
use mathlib.Core.Path.{sym, ◌∙◌}
use native.Mathlib.Omega.{arith}
use Rattle.lines.proofs.Placing.{end_within}
use Rattle.lines.proofs.searched_line.Goals as goal

pub slice_bounds-read_line-count : goal.slice_bounds-read_line-count
slice_bounds-read_line-count c = (end_within _ _ _ (sym c.line_end.ensures ∙ c.in_ok-end.was)).0

pub slice_bounds-read_line-start : goal.slice_bounds-read_line-start
slice_bounds-read_line-start c = omega (arith, (end_within _ _ _ (sym c.line_end.ensures ∙ c.in_ok-end.was)).0)

pub slice_bounds-read_line-end : goal.slice_bounds-read_line-end
slice_bounds-read_line-end c = omega (arith, (end_within _ _ _ (sym c.line_end.ensures ∙ c.in_ok-end.was)).1)

pub overflow_add-result : goal.overflow_add-result
overflow_add-result c = omega (arith, c.well_formed, (end_within _ _ _ (sym c.line_end.ensures ∙ c.in_ok-end.was)).1)
