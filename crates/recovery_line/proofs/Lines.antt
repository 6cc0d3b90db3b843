-- A line's numbers, read from its struct, and its places past them.
use mathlib.Core.Path.{◌≡◌, ◌∙◌}
use mathlib.Core.Bool.{false}
use Prim.Native.Nat.{ℕ, ◌<◌, ◌≤◌}
use native.Mathlib.Omega.{arith}
use lib.ListN.{get_or}
use lib.Dec.{ltb}
use borrow.Author.Tests.{lt-ltb, le-ltb}
use Rattle.words.proofs.Area.{words_at_lem}
use Rattle.trace.specs.Trace.{Trace}
use Rattle.recovery_line.specs.declared.Line.{Line}
use Rattle.recovery_line.specs.Given.{each, line_in, line_to}

-- the numbers of a line that has one for each process
pub line_at : (l : Line) (n : ℕ) → l.count ≡ n → (z : ℕ) → z < n → line_in l z ≡ get_or l.epochs z 0
line_at l n e z h = rw (lt-ltb z l.count (omega arith))

-- "Places of a line past its N numbers are 0 when the engine gives it"
pub line_past : (t : Trace) (f : ℕ → ℕ) (z : ℕ) → t.procs ≤ z → z < 64 → get_or (line_to t f).epochs z 0 ≡ 0
line_past t f z h l = words_at_lem (each t f) 64 z l ∙ (let s : ltb z t.procs ≡ false = le-ltb z t.procs h in rw s)
