-- `capi::line_from` meets its contract: after z turns the first z numbers are there.
use Rattle.std.proofs.Common.{◌≡◌, ℕ, ◌<◌, length, get_or}
use Rattle.capi.proofs.line_from.Given as goal

abbrev pub invariant-loop-z : goal.invariant-loop-z
invariant-loop-z l = (length l.epoch-items ≡ 64) × ((k : ℕ) → k < l.z → get_or l.epoch-items k 0 ≡ get_or l.numbers k 0)
