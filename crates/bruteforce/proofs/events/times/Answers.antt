use Rattle.std.specs.Int.{from_bool}
use Rattle.std.proofs.Common.{◌≡◌, ◌≤◌, ℕ, Bool, refl, arith}
use Rattle.bruteforce.specs.Counts.{times_of}
use Rattle.bruteforce.proofs.Counts.{from_most, times_next}
use Rattle.bruteforce.proofs.events.times.Goals as goal

pub loop-i-init : goal.loop-i-init
unfolding times_of
loop-i-init c = (omega arith, refl)

overflow_add : (r : ℕ) (b : Bool) → r ≡ from_bool b → r ≤ 1
overflow_add r b e = rw e (from_most b)

pub overflow_add-n : goal.overflow_add-n
overflow_add-n c = omega (arith, overflow_add c.from-n.result _ c.from-n.ensures)

pub loop-i-preserved : goal.loop-i-preserved
loop-i-preserved c = (
  omega (arith, overflow_add c.from-n.result _ c.from-n.ensures),
  times_next _ _ _ _ _ c.loop-i.invariant.1 c.from-n.ensures,
)
