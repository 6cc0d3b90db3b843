-- `positions::finished_at` meets its contract: before event e the earlier ones are counted.
use Rattle.std.proofs.Common.{◌≡◌, ◌-◌, ◌+◌, ◌≤◌, length}
use Rattle.positions.specs.Inner.Positions.{FinishedEpochs}
use Rattle.positions.proofs.finished_at.Given as goal

abbrev pub invariant-loop-e : goal.invariant-loop-e
invariant-loop-e l = record {
  to : l.e ≤ l.cut + 1;
  wide : length l.finished ≡ 64;
  counted : FinishedEpochs l.full (l.e - 1) l.finished;
}
