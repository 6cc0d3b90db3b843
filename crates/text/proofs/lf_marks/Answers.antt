-- `text::lf_marks` meets its contract: the sum has room, and the rest is `joint`.
use native.Mathlib.Omega.{arith}
use Rattle.text.proofs.Marks.{joint}
use Rattle.text.proofs.lf_marks.Goals as goal

pub returns : goal.returns
returns c =
    joint c.args.w (omega (arith, c.well_formed))
