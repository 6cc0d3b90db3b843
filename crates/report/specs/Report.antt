-- The report on a text that ends with a failure line (MANUAL 8.2; quotations are from the requirements): the
-- engine's line with all that is said of it, or a refusal's number and place.
use Rattle.std.specs.Prelude.{◌≡◌, List, [], ◌∷◌, ◌++◌, Bool, true, false, ℕ, zero, suc, ◌≤◌, length, get_or}
use Prim.Native.String.{String}
use Rattle.trace.specs.Trace.{Trace}
use Rattle.reader.specs.Failure.{Failing, last_failure}
use Rattle.theory.specs.Line.{Run, run_at}
use Rattle.theory.specs.Order.{steps, most_steps, lowest_order}
use Rattle.theory.specs.Answers.{Listed, gather, orphans, kept_ones, exact_steps}
use Rattle.theory.specs.Refusals.{failure_fault}
use Rattle.recovery_line.specs.Given.{line_in}
use Rattle.restart.specs.Restart.{RestartAnswer, engine_line_of, restart_of}
use Rattle.text.specs.Number.{decimal}
use Rattle.text.specs.Bytes.{bytes_of}
use Rattle.printing.specs.Lines.{process_line, message_line, total_line, refusal_line, key_orphan, key_kept}

-- an answer, or a refusal: its number and its place
pub data Answer (A : Type 0) : Type 0 where
  refused : ℕ → ℕ → Answer A
  given : A → Answer A

abbrev pub is_refusal : {A : Type 0} → Answer A → Bool
is_refusal (refused n k) = true
is_refusal (given a) = false

-- refused with a number that is not 0, and place 0
abbrev pub unless : {A : Type 0} → ℕ → Answer A → Answer A
unless zero a = a
unless (suc n) a = refused (suc n) 0

-- ---- The failure of a text: the trace, and the numbers of the line that must be its last

pub record Failure : Type 0 where
  pub trace : Trace
  pub step : ℕ
  pub failed : ℕ

abbrev pub failure_in : Failing → Answer Failure
failure_in (Failing.refused n k) = refused n k
failure_in (Failing.failing t step set) = given (record { trace = t; step = step; failed = set })

-- where the text is fit, 8 and 9
abbrev pub checked : Answer Failure → Answer Failure
checked (refused n k) = refused n k
checked (given f) = unless (failure_fault f.trace f.step f.failed) (given f)

unfoldable pub failure_of : List ℕ → Answer Failure
failure_of text = checked (failure_in (last_failure text))

-- what follows an answer; a refusal stays as it is
abbrev pub then : {A B : Type 0} → Answer A → (A → Answer B) → Answer B
then (refused n k) f = refused n k
then (given a) f = f a

-- ---- The engine's line: the restart, and the run from it

-- the recorded run with a failure and the engine's line
abbrev pub engine_run : Failure → Run
engine_run f = run_at f.trace f.step (line_in (engine_line_of f.trace f.step f.failed))

-- the restart: the line, of each process its epoch at the cut and its phase at the restart, "or at the cut for 32", the
-- set of processes that go back, "and back is its size"; and of the run from it the messages and the steps
pub record Recovery : Type 0 where
  pub restarted : RestartAnswer
  pub orphans : List Listed
  pub kept : List Listed
  pub steps : ℕ

-- "Steps are those of the order that always picks the lowest allowed choice."
unfoldable pub recovery_of : Failure → Recovery
recovery_of f =
    let R = engine_run f in
    record {
      restarted = restart_of f.trace f.step f.failed;
      orphans = orphans R;
      kept = kept_ones R;
      steps = steps (lowest_order R);
    }

unfoldable pub recovery : List ℕ → Answer Recovery
recovery text = then (failure_of text) (λ f. given (recovery_of f))

-- ---- What is printed

-- the line of a process
abbrev pub process_line_of : RestartAnswer → ℕ → List ℕ
process_line_of r z = process_line z (get_or r.epochs z 0) (get_or r.line.epochs z 0) (get_or r.phases z 0)

unfoldable pub message_lines : String → List Listed → List ℕ
message_lines key [] = []
message_lines key (m ∷ ms) = message_line key m.from m.to m.number m.phase ++ message_lines key ms

-- "A refusal prints only `refused=N place=P`."
unfoldable pub printed_of : Answer Recovery → List ℕ
printed_of (refused n k) = refusal_line n k
printed_of (given r) =
    gather (process_line_of r.restarted) r.restarted.line.count
    ++ message_lines key_orphan r.orphans
    ++ message_lines key_kept r.kept
    ++ total_line r.restarted.back (length r.orphans) (length r.kept) r.steps

-- the report, of a text of any length: "This limit is the program's own; the library has none."
unfoldable pub reported : List ℕ → List ℕ
reported text = printed_of (recovery text)

-- MANUAL 5.8, of what is printed: the engine's line loses no message and the lowest order is complete, so that
-- `steps=` in the last line is exact; and at most twice the number of events
abbrev pub EndsExactly : Failure → List ℕ → Type 0
EndsExactly f bytes =
    let n = exact_steps (engine_run f) in
    ((front : List ℕ) × (bytes ≡ front ++ (bytes_of " steps=" ++ decimal n ++ 10 ∷ []))) × (n ≤ most_steps f.trace)

abbrev pub StepsPrinted : List ℕ → Type 0
StepsPrinted text = (f : Failure) → failure_of text ≡ given f → EndsExactly f (reported text)

-- a buffer of so many bytes holds every report
abbrev pub report_bytes : ℕ
report_bytes = 262144
