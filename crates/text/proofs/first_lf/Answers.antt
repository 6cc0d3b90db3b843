-- `text::first_lf` meets its contract: the lowest mark is that of the first LF.
use Rattle.text.proofs.Marks.{first_mark}
use Rattle.text.proofs.first_lf.Goals as goal

pub returns : goal.returns
returns c =
    λ a. rw c.lf_marks.ensures (first_mark 8 _ a)
