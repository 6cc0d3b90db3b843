-- A recovery line as a struct: the numbers that it gives to processes, and who goes back. Quotations: the requirements.
use Rattle.std.specs.Prelude.{ℕ, ◌+◌, ◌*◌, not, cond, List, [], ◌∷◌, get_or, take, ltb, eqb}
use Rattle.words.specs.Area.{words_from}
use Rattle.trace.specs.Trace.{Trace}
use Rattle.theory.specs.Lists.{keep}
use Rattle.theory.specs.Epochs.{phase_at, rule_of}
use Rattle.theory.specs.Line.{restart_in}
use Rattle.recovery_line.specs.declared.Line.{Line}

-- what a rule says of each process of the trace, and 0 past the last
abbrev pub each : Trace → (ℕ → ℕ) → ℕ → ℕ
each t f z = cond (ltb z t.procs) (f z) 0

-- "A restart line holds one number for each zone": the numbers of a line. Places past its count aren't read.
abbrev pub line_in : Line → ℕ → ℕ
line_in l z = cond (ltb z l.count) (get_or l.epochs z 0) 0

-- the line of a trace with these numbers; places past them are 0
abbrev pub line_to : Trace → (ℕ → ℕ) → Line
line_to t f = record { epochs = words_from (each t f) 0 64; count = t.procs }

-- "phase is at the restart, or at the cut for 32"
abbrev pub restart_phase_in : Trace → ℕ → (ℕ → ℕ) → ℕ → ℕ
restart_phase_in t cut line z = phase_at t (rule_of t) z (restart_in t cut line z)

-- ---- "The zones that go back form a set of the same kind, and back is its size."

-- a line's numbers as a list
abbrev pub numbers_of : Line → List ℕ
numbers_of l = take l.count l.epochs

abbrev pub back_bit : ℕ → ℕ
back_bit e = cond (eqb e 32) 0 1

-- the set of those not at 32, as a number whose bit z says that process z goes back
unfoldable pub back_of : List ℕ → ℕ
back_of [] = 0
back_of (e ∷ l) = back_bit e + 2 * back_of l

-- those not at 32
unfoldable pub back_ones : List ℕ → List ℕ
back_ones l = keep (λ e. not (eqb e 32)) l
