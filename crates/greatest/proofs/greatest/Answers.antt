-- `greatest::greatest` meets its contract: the first line, lowered until nothing is lost, is the theory's line; epochs
-- and phases are those of the newest events before and after that.
use mathlib.Core.Path.{◌∙◌}
use Rattle.words.proofs.Area.{zero_word}
use Rattle.columns.proofs.Full.{procs_most}
use Rattle.recovery_line.proofs.Table.{sized}
use Rattle.positions.proofs.Finishing.{uncounted}
use Rattle.positions.proofs.Newest.{phases_few}
use Rattle.lowering.proofs.Worklist.{looking_begins, ranged}
use Rattle.greatest.proofs.Done.{Done, line_done, means_done, epochs_done, phases_done}
use native.Mathlib.Omega.{arith}
use Rattle.std.proofs.Common.{rules}
use Rattle.greatest.proofs.greatest.Goals as goal

pub processes-count-requires : goal.processes-count-requires
processes-count-requires c =
    (c.requires.2.2.marked.tabled.columns.whole, procs_most c.requires.2.0 _ c.requires.2.2.marked.tabled)

pub link-requires : goal.link-requires
link-requires c =
    let S = sized c.requires.2.0 _ c.requires.2.2.marked.tabled _ c.requires.2.2.cut_in in record { sized = S; long = search rules; wide = search rules; none = λ z. zero_word 64 z }

pub epochs_at-requires : goal.epochs_at-requires
epochs_at-requires c =
    let S = sized c.requires.2.0 _ c.requires.2.2.marked.tabled _ c.requires.2.2.cut_in in ranged _ _ _ _ (looking_begins _ _ _ _ _ c.requires.0 c.link.ensures) S

pub finished_at-requires : goal.finished_at-requires
finished_at-requires c =
    (c.requires.2.0, uncounted c.requires.2.0 _ _ c.requires.2.2.marked.tabled c.requires.2.2.cut_in)

pub lower-requires : goal.lower-requires
lower-requires c =
    let S = sized c.requires.2.0 _ c.requires.2.2.marked.tabled _ c.requires.2.2.cut_in in (search rules, c.first_line.ensures.long, (c.args.cut, S, c.link.ensures))

pub restart_phases-requires : goal.restart_phases-requires
restart_phases-requires c =
    let S = sized c.requires.2.0 _ c.requires.2.2.marked.tabled _ c.requires.2.2.cut_in in let B = c.lower.ensures.left c.args.cut S c.link.ensures in (record { whole = S.whole; long = c.requires.1; wide = search rules; few = λ z l. omega (arith, B.within z l, S.cut_few) }, search rules, phases_few c.requires.2.0 _ c.requires.2.2.marked.tabled _ c.requires.2.2.cut_in _ c.processes-count.ensures.0 _ _ B)

pub returns : goal.returns
returns c =
    let S = sized c.requires.2.0 _ c.requires.2.2.marked.tabled _ c.requires.2.2.cut_in in
    let D : Done c.args.full.now c.args.cut c.args.set c.processes-count.result _ _ _ _ _ _ _ _ = record {
      counted = c.processes-count.ensures.0;
      linked = c.link.ensures;
      epochs_long = c.epochs_at.auto.epochs ∙ c.requires.0;
      epochs = c.epochs_at.ensures;
      first_long = c.first_line.ensures.long;
      finished = c.finished_at.ensures;
      first = c.first_line.ensures.below;
      others = λ z l. c.first_line.ensures.others z l ∙ zero_word 64 z;
      lowered = c.lower.ensures.line c.args.cut S c.link.ensures;
      before = c.lower.ensures.left c.args.cut S c.link.ensures;
      phases_long = c.restart_phases.auto.phases ∙ c.requires.1;
      phases = c.restart_phases.ensures;
    } in
    record {
      line = λ t u m h. line_done t u m h D;
      means = λ t u m h. means_done t u m h D;
      epochs = λ t u m h. epochs_done t u m h D;
      phases = λ t u m h. phases_done t u m h D;
    }
