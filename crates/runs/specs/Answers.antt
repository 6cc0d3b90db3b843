-- A recovery by its numbers, and more answers to a text that ends with a failure line: the messages that another line
-- loses, what an order does, the delivery record that it leaves, and how many steps the formula of MANUAL 5.8 gives.
-- Quotations: the requirements.
use Rattle.std.specs.Prelude.{List, Bool, ℕ, length, leb}
use Rattle.words.specs.Area.{words_from}
use Rattle.trace.specs.Trace.{Trace}
use Rattle.theory.specs.Events.{size}
use Rattle.theory.specs.Epochs.{Rule}
use Rattle.theory.specs.Line.{Run, run_at}
use Rattle.theory.specs.Order.{Outcome, carried_out, run, steps, complete}
use Rattle.theory.specs.Answers.{line_of, Listed, lost_ones, exact_steps}
use Rattle.theory.specs.Record.{delivered}
use Rattle.theory.specs.Inner.Tests.{same_record}
use Rattle.theory.specs.Refusals.{line_fault, order_fault}
use Rattle.recovery_line.specs.declared.Line.{Line}
use Rattle.recovery_line.specs.Given.{line_in}
use Rattle.orders.specs.Record.{record_at}
use Rattle.report.specs.Report.{Answer, refused, given, unless, then, Failure, Recovery, failure_of}

-- ---- A number for each process, as the calls take and give them: "Places of a line past its N numbers are 0"

abbrev pub padded : List ℕ → List ℕ
padded l = words_from (line_of l) 0 64

abbrev pub line_from : List ℕ → Line
line_from l = record { epochs = padded l; count = length l }

-- the numbers of a recovery: the line, epochs and phases, who goes back as a set, how many, the messages, the steps
pub record Numbers : Type 0 where
  pub epochs : List ℕ
  pub line : List ℕ
  pub phases : List ℕ
  pub going : ℕ
  pub back : ℕ
  pub orphans : List Listed
  pub kept : List Listed
  pub steps : ℕ

abbrev pub recovery_in : Numbers → Recovery
recovery_in n =
    record {
      restarted = record {
        number = 0;
        place = 0;
        line = line_from n.line;
        going = n.going;
        back = n.back;
        epochs = padded n.epochs;
        phases = padded n.phases;
      };
      orphans = n.orphans;
      kept = n.kept;
      steps = n.steps;
    }

-- ---- Another line: the messages that it loses

-- the recorded run with a failure and a line
abbrev pub run_with : Failure → List ℕ → Run
run_with f l = run_at f.trace f.step (line_in (line_from l))

-- what is wrong with a line, where the failure is fit: 10, or 0
abbrev pub fault : Failure → List ℕ → ℕ
fault f l = line_fault f.trace f.step f.failed (length l) (line_in (line_from l))

unfoldable pub losses : List ℕ → List ℕ → Answer (List Listed)
losses text l = then (failure_of text) (λ f. unless (fault f l) (given (lost_ones (run_with f l))))

-- ---- An order from a line: whether it is complete, whether the record that it leaves equals that of the run without
-- failure, its steps

pub record Replayed : Type 0 where
  pub complete : Bool
  pub equal : Bool
  pub steps : ℕ

abbrev pub replay_of : Run → List ℕ → Outcome → Answer Replayed
replay_of R order (carried_out s) = given (record { complete = complete R s; equal = same_record R s; steps = steps order })
replay_of R order (Outcome.refused i) = refused (order_fault (Outcome.refused i)) i

unfoldable pub replay : List ℕ → List ℕ → List ℕ → Answer Replayed
replay text l order = then (failure_of text) (λ f. unless (fault f l) (replay_of (run_with f l) order (run (run_with f l) order)))

-- ---- The delivery record that an order leaves

-- "one list for each channel: number and value of each message its receiver received there, in that order"
abbrev pub delivered_of : Run → ℕ → ℕ → Outcome → Answer (List (ℕ × ℕ))
delivered_of R p q (carried_out s) = given (delivered R s p q)
delivered_of R p q (Outcome.refused i) = refused (order_fault (Outcome.refused i)) i

unfoldable pub channel_record : List ℕ → List ℕ → List ℕ → ℕ → ℕ → Answer (List (ℕ × ℕ))
channel_record text l order p q =
    then (failure_of text) (λ f. unless (fault f l) (delivered_of (run_with f l) p q (run (run_with f l) order)))

-- as the run area has it (docs/LAYOUT.md): of each event the number of the message that it took, and the low and the
-- high half of its value; 0, 0 and 0 where it took none
pub record TakenWords : Type 0 where
  pub numbers : List ℕ
  pub lows : List ℕ
  pub highs : List ℕ

abbrev pub taken_words_in : Trace → (ℕ → ℕ) → TakenWords
taken_words_in t word = record { numbers = words_from word 1 (size t); lows = words_from word 2050 (size t); highs = words_from word 4099 (size t) }

abbrev pub taken_words_of : Run → Outcome → Answer TakenWords
taken_words_of R (carried_out s) = given (taken_words_in R.trace (record_at R s))
taken_words_of R (Outcome.refused i) = refused (order_fault (Outcome.refused i)) i

unfoldable pub taken_words : List ℕ → List ℕ → List ℕ → Answer TakenWords
taken_words text l order = then (failure_of text) (λ f. unless (fault f l) (taken_words_of (run_with f l) (run (run_with f l) order)))

-- ---- How many steps every complete order from a line has, if it loses no message (MANUAL 5.8)

unfoldable pub exact_steps_of : List ℕ → List ℕ → Answer ℕ
exact_steps_of text l = then (failure_of text) (λ f. unless (fault f l) (given (exact_steps (run_with f l))))

-- ---- "Misreadings": "Logging at equal epochs"

abbrev pub at_equal : Rule
at_equal p q k a b = leb a b
