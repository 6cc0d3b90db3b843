-- `positions::at_newest` meets its contract: the words before z are what is read, or 0 past the last process.
use Rattle.std.proofs.Common.{◌≡◌, ◌<◌, ◌≤◌, ℕ, get_or}
use Rattle.positions.proofs.at_newest.Given as goal

abbrev pub invariant-loop-z : goal.invariant-loop-z
invariant-loop-z g l = record {
  first : (k : ℕ) → k < l.z → k < l.count → goal.F-post g l.read k (get_or l.latest k 0) (get_or l.out k 0);
  others : (k : ℕ) → k < l.z → l.count ≤ k → get_or l.out k 0 ≡ 0;
}
