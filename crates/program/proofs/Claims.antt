-- What the definition of the program's answer says: more than 65,536 bytes are "1 at place 0, before anything else"; of
-- fewer the program prints the library's report.
use Prim.Native.Nat.{ℕ, ◌<◌, ◌≤◌}
use mathlib.Core.Path.{◌≡◌}
use mathlib.Core.List.{List}
use mathlib.Core.Bool.{cond}
use lib.ListN.{length}
use borrow.Author.Tests.{lt-ltb, le-ltb}
use Rattle.printing.specs.Lines.{refusal_line}
use Rattle.report.specs.Report.{is_refusal, recovery, printed_of, reported}
use Rattle.program.specs.Program.{text_most, answer_to, printed, status_of}

pub too_long_printed : (input : List ℕ) → text_most < length input → (printed input ≡ refusal_line 1 0) × (status_of input ≡ 1)
unfolding printed answer_to status_of printed_of
too_long_printed input h = let long = lt-ltb 65536 (length input) h in (rw long, rw long)

pub reported_printed : (input : List ℕ) → length input ≤ text_most
    → (printed input ≡ reported input) × (status_of input ≡ cond (is_refusal (recovery input)) 1 0)
unfolding printed answer_to status_of reported
reported_printed input h = let short = le-ltb 65536 (length input) h in (rw short, rw short)
