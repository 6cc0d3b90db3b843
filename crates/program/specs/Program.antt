-- What the program prints for its whole input, and how it ends. Quotations are from the requirements (MANUAL 8.1).
use Rattle.std.specs.Prelude.{ℕ, ◌≤◌, ◌≡◌, List, cond, length, take, ltb}
use Rattle.report.specs.Report.{Answer, refused, given, is_refusal, Failure, failure_of, Recovery, recovery, printed_of, EndsExactly}

-- "The program takes at most 65,536 bytes; more is 1 at place 0, before anything else."
abbrev pub text_most : ℕ
text_most = 65536

unfoldable pub answer_to : List ℕ → Answer Recovery
answer_to input = cond (ltb text_most (length input)) (refused 1 0) (recovery input)

unfoldable pub printed : List ℕ → List ℕ
printed input = printed_of (answer_to input)

-- 0 where the input is recovered, 1 where it is refused
unfoldable pub status_of : List ℕ → ℕ
status_of input = cond (is_refusal (answer_to input)) 1 0

-- the first `count` bytes of a buffer are the first of an input: as many as the buffer has, or all of it
abbrev pub ReadFrom : List ℕ → List ℕ → ℕ → Type 0
ReadFrom input buffer count = take count buffer ≡ take (length buffer) input

-- `StepsPrinted`, of what the program prints
abbrev pub StepsShown : List ℕ → Type 0
StepsShown input = (f : Failure) → length input ≤ text_most → failure_of input ≡ given f → EndsExactly f (printed input)
