-- `reader::judge_line` meets its contract, case by case.
use Rattle.reader.specs.Verdict.{judge}
use Rattle.reader.proofs.judge_line.Goals as goal

pub returns-in-Procs : goal.returns-in-Procs
unfolding judge
returns-in-Procs c =
    λ t h. rw c.in-Procs.is

pub returns-in-Send : goal.returns-in-Send
unfolding judge
returns-in-Send c =
    λ t h. rw c.in-Send.is (c.judge_event.ensures t h)

pub returns-in-Recv : goal.returns-in-Recv
unfolding judge
returns-in-Recv c =
    λ t h. rw c.in-Recv.is (c.judge_event-in-Recv.ensures t h)

pub returns-in-Save : goal.returns-in-Save
unfolding judge
returns-in-Save c =
    λ t h. rw c.in-Save.is (c.judge_event-in-Save.ensures t h)

pub returns-in-Done : goal.returns-in-Done
unfolding judge
returns-in-Done c =
    λ t h. rw c.in-Done.is (c.judge_event-in-Done.ensures t h)

pub returns-in-Failure : goal.returns-in-Failure
unfolding judge
returns-in-Failure c =
    λ t h. rw c.in-Failure.is

pub returns-in-Malformed : goal.returns-in-Malformed
unfolding judge
returns-in-Malformed c =
    λ t h. rw c.in-Malformed.is
