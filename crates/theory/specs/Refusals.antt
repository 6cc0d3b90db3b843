-- The numbers 8 to 11 (MANUAL 6.2): what is wrong with a failure, a line, an order, or 0. The first that is wrong
-- decides, in that order. Quotations are from the requirements.
use Rattle.std.specs.Prelude.{Bool, ◌&&◌, ◌||◌, not, cond, ℕ, ◌^◌, leb, ltb, eqb}
use Rattle.trace.specs.Trace.{Trace}
use Rattle.theory.specs.Lists.{all_below}
use Rattle.theory.specs.Events.{size}
use Rattle.theory.specs.Line.{in_set, may, usable_at}
use Rattle.theory.specs.Order.{Outcome, carried_out, refused}

-- "8: K is beyond the last event." With `rest`, what is looked for next.
abbrev pub step_or : Trace → ℕ → ℕ → ℕ
step_or t step rest = cond (ltb (size t) step) 8 rest

-- "9: the set is empty or names a zone N or more." Bit z of the set names process z, so that a set which names none but
-- processes below N is below 2 to the N.
abbrev pub set_or : Trace → ℕ → ℕ → ℕ
set_or t set rest = cond (eqb set 0 || leb (2 ^ t.procs) set) 9 rest

unfoldable pub failure_fault : Trace → ℕ → ℕ → ℕ
failure_fault t step set = step_or t step (set_or t set 0)

-- does a line hold for each process what it may
unfoldable pub permits : Trace → (ℕ → ℕ → Bool) → (ℕ → Bool) → (ℕ → ℕ) → Bool
permits t usable failed line = all_below t.procs (λ z. may usable failed z (line z))

-- "10: the line hasn't N numbers, or one isn't permitted." The line comes with the count of its numbers; places past it
-- aren't read.
abbrev pub numbers_fault : Trace → ℕ → ℕ → ℕ → (ℕ → ℕ) → ℕ
numbers_fault t step set count line = cond (not (eqb count t.procs && permits t (usable_at t step) (in_set set) line)) 10 0

unfoldable pub line_fault : Trace → ℕ → ℕ → ℕ → (ℕ → ℕ) → ℕ
line_fault t step set count line = step_or t step (set_or t set (numbers_fault t step set count line))

-- "11: a choice isn't allowed where it comes."
abbrev pub order_fault : Outcome → ℕ
order_fault (carried_out s) = 0
order_fault (refused i) = 11
