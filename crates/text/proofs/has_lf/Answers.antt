-- `text::has_lf` meets its contract: there is a mark exactly if there is an LF.
use mathlib.Core.Path.{sym, ◌∙◌}
use lib.Dec.{eqb}
use borrow.Author.Tests.{not-true, eqb-false, ne_eqb}
use Rattle.text.proofs.Marks.{any_mark, no_mark}
use Rattle.text.proofs.has_lf.Goals as goal

pub returns : goal.returns
returns c = (
  λ t. any_mark 8 _ (λ z. eqb-false c.lf_marks.result 0 (not-true (eqb c.lf_marks.result 0) t) (c.lf_marks.ensures ∙ z)),
  λ a. rw (ne_eqb c.lf_marks.result 0 (λ z. no_mark 8 _ (sym c.lf_marks.ensures ∙ z) a)),
)
