-- The lines of the report from the words that the code has. No public contract cites these.
use Rattle.std.specs.Prelude.{◌≡◌, Bool, List, ◌++◌, ℕ, ◌+◌, ◌<◌, ◌≤◌, length, get_or}
use Rattle.std.proofs.Math.Seq.{slice}
use Rattle.theory.specs.Answers.{gather}
use Rattle.columns.specs.Inner.Full.{event_w, number_w, phase_w}
use Rattle.restart.specs.Restart.{RestartAnswer}
use Rattle.writer.specs.Buffer.{room, written}
use Rattle.writer.specs.Inner.Puts.{Puts}
use Rattle.text.specs.Bytes.{bytes_of}
use Rattle.printing.specs.Lines.{total_line, key_orphan, key_kept}
use Rattle.printing.specs.Inner.Rows.{words_row}
use Rattle.report.specs.Report.{given, is_refusal, Failure, recovery_of, recovery, process_line_of, printed_of, reported, EndsExactly, StepsPrinted, report_bytes}

-- the first n of some events are there, and have their words in the full table
abbrev pub Sends : List ℕ → ℕ → Type 0
Sends events n = (n ≤ length events) × ((i : ℕ) → i < n → get_or events i 0 ≤ 2048)

-- the line of the message that event e sends; the lines of those that some events send
abbrev pub event_row : List ℕ → List ℕ → ℕ → List ℕ
event_row key full e = words_row key (event_w full e) (number_w full e) (phase_w full e)

unfoldable pub event_rows : List ℕ → List ℕ → List ℕ → List ℕ
event_rows key full events = gather (λ i. event_row key full (get_or events i 0)) (length events)

-- the whole report of a recovery
unfoldable pub recovery_rows : RestartAnswer → List ℕ → List ℕ → ℕ → ℕ → ℕ → List ℕ
recovery_rows r full events orphans kept steps =
    gather (process_line_of r) r.line.count ++ event_rows (bytes_of key_orphan) full (slice 0 orphans events)
    ++ event_rows (bytes_of key_kept) full (slice orphans (orphans + kept) events) ++ total_line r.back orphans kept steps

-- a buffer has the report of a failure that is not refused; it is not too long, and its steps are exact
pub record Recounts (f : Failure) (before after : List ℕ) (n : ℕ) : Type 0 where
  pub puts : Puts (printed_of (given (recovery_of f))) before 0 after n
  pub few : length (printed_of (given (recovery_of f))) ≤ report_bytes
  pub ends : EndsExactly f (printed_of (given (recovery_of f)))

-- what `report` promises of a text, by what it answers and what it leaves in the buffer
abbrev pub ReportOf : List ℕ → Bool → ℕ → List ℕ → List ℕ → Type 0
ReportOf text refuses n before after =
    (refuses ≡ is_refusal (recovery text))
    × ((n ≡ length (room (reported text) before))
    × ((after ≡ written (reported text) before) × (StepsPrinted text × (length (reported text) ≤ report_bytes))))
