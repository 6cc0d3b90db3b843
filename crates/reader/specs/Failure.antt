-- The program's text has one more line, the last: `fail=K set=M`. Quotations are from the requirements (MANUAL 2.5).
use Rattle.std.specs.Prelude.{ℕ, ◌+◌, List, [], ◌∷◌, length, ltb, cond, Result, Ok, Err}
use Rattle.words.specs.Area.{area_words, ruled}
use Rattle.trace.specs.Trace.{Trace}
use Rattle.refusal.specs.declared.Refused.{Refused}
use Rattle.refusal.specs.Refusals.{number_of_refusal}
use Rattle.reader.specs.declared.Failure.{Failure}
use Rattle.reader.specs.Verdict.{Scan, scan, Verdict, accepted}
use Rattle.reader.specs.Answer.{verdict_word}

-- the answer of reading a text that ends with a failure line: also that line's step and set
pub record FailureAnswer : Type 0 where
  pub number : ℕ
  pub place : ℕ
  pub step : ℕ
  pub set : ℕ

-- the same of what `read_failure` gives; "In a refused answer every other number is 0."
abbrev pub failure_answered : Result Failure Refused → FailureAnswer
failure_answered (Ok f) = record { number = 0; place = 0; step = f.step; set = f.set }
failure_answered (Err r) = record { number = number_of_refusal r.refusal; place = r.place; step = 0; set = 0 }

-- a refusal's number and place, or the trace and the failure line's numbers
pub data Failing : Type 0 where
  refused : ℕ → ℕ → Failing
  failing : Trace → ℕ → ℕ → Failing

-- What follows the failure line, line k: nothing, or a line that is not due there.
abbrev pub last_line : List (List ℕ) → ℕ → Failing → Failing
last_line [] k f = f
last_line ([] ∷ []) k f = f
last_line ((b ∷ l) ∷ ls) k f = refused 1 (k + 1)
last_line ([] ∷ (l ∷ ls)) k f = refused 1 (k + 1)

-- "or is missing (its place is the line it would be)"
abbrev pub failing_of : Scan → Failing
failing_of (Scan.refused n k) = refused n k
failing_of (Scan.ended t k) = refused 1 k
failing_of (Scan.stopped t step set k rest) = last_line rest k (failing t step set)

unfoldable pub last_failure : List ℕ → Failing
last_failure text = failing_of (scan text)

-- as a verdict on the trace, by which the table area goes
abbrev pub trace_of : Failing → Verdict
trace_of (refused n k) = Verdict.refused n k
trace_of (failing t step set) = accepted t

-- "In a refused answer every other number is 0."
abbrev pub failure_answer_of : Failing → FailureAnswer
failure_answer_of (refused n k) = record { number = n; place = k; step = 0; set = 0 }
failure_answer_of (failing t step set) = record { number = 0; place = 0; step = step; set = set }

unfoldable pub failure_answer : List ℕ → List ℕ → FailureAnswer
failure_answer text a = cond (ltb (length a) area_words) (record { number = 12; place = 0; step = 0; set = 0 }) (failure_answer_of (last_failure text))

unfoldable pub failure_area : List ℕ → List ℕ → List ℕ
failure_area text a = cond (ltb (length a) area_words) a (ruled (verdict_word (trace_of (last_failure text))) area_words a)
