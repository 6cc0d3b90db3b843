-- What the reader's loop holds between two lines: the words it has stored, and how its outcome stands for a `Scan`; and
-- what it makes of the first line. No public contract cites these.
use Rattle.std.specs.Prelude.{ℕ, ◌+◌, ◌<◌, ◌≤◌, ◌≡◌, Bool, true, List, [], length, get_or, set, drop, replicate, Result, Ok, Err}
use Rattle.words.specs.Area.{area_words}
use Rattle.trace.specs.declared.Event.{Event}
use Rattle.trace.specs.Trace.{Trace, started}
use Rattle.trace.specs.Inner.Tally.{Tally}
use Rattle.trace.specs.Table.{word_of, value_word, event_base, value_base, table_word}
use Rattle.lines.specs.declared.Line.{Line}
use Rattle.lines.specs.declared.Line.TheVariants.{Procs, Send, Recv, Save, Done, Failure, Malformed}
use Rattle.refusal.specs.declared.Refusal.{Refusal}
use Rattle.refusal.specs.declared.Refused.{Refused}
use Rattle.refusal.specs.Refusals.{number_of_refusal}
use Rattle.reader.specs.Verdict.{Judged, Fit, Fails, Unfit, Scan, refused, ended, stopped, pieces, lines_from, scan}
use Rattle.reader.specs.declared.Judged as code_judged
use Rattle.reader.specs.declared.Scanned as code_scanned

-- what judging a line gives, as the definition has it
abbrev pub judged : Result code_judged.Judged Refusal → Judged
judged (Ok (code_judged.TheVariants.Event e)) = Fit e
judged (Ok (code_judged.TheVariants.Failure f)) = Fails f.step f.set
judged (Err r) = Unfit (number_of_refusal r)

-- a table of 16,384 words, which are zero where it is said to be clear
pub record Lent (table : List ℕ) (clear : Bool) : Type 0 where
  pub size : length table ≡ area_words
  pub zero : clear ≡ true → table ≡ replicate (length table) 0

-- a process count, or none
unfoldable pub count_only : Line → Line
count_only (Procs n) = Procs n
count_only (Send a b v) = Malformed
count_only (Recv a b) = Malformed
count_only (Save a) = Malformed
count_only (Done a) = Malformed
count_only (Failure k m) = Malformed
count_only Malformed = Malformed

-- the table area's first words are those of a trace
pub record Holds (table : List ℕ) (t : Trace) : Type 0 where
  pub size : length table ≡ area_words
  pub words : (k : ℕ) → k < area_words → get_or table k 0 ≡ table_word t k

-- what the code has of a trace when it judges the next line: its process count, its counters and its event count
pub record Tallied (counts : List ℕ) (procs n : ℕ) (t : Trace) : Type 0 where
  pub procs_is : procs ≡ t.procs
  pub tally : Tally counts t.events
  pub size_is : n ≡ length t.events

-- what reading the events begins with: the place after the first line, and a table and counters without an event
pub record Opened (text : List ℕ) (from procs : ℕ) (table counts : List ℕ) : Type 0 where
  pub procs_most : procs ≤ 64
  pub within : from ≤ length text
  pub holds : Holds table (started procs)
  pub tally : Tally counts []

-- the table after event n + 1 is stored
abbrev pub appended : List ℕ → ℕ → Event → List ℕ
appended table n e =
    set (set (set (set table 1 (n + 1)) (event_base + (n + 1)) (word_of e)) (value_base 0 + (n + 1)) (value_word 0 e)) (value_base 1 + (n + 1)) (value_word 1 e)

-- what the first line comes to: its refusal, or the process count and the place where the lines after it begin
abbrev pub FirstRead : List ℕ → Result (ℕ × ℕ) Refused → Type 0
FirstRead text (Ok r) = (r.0 ≤ 64) × ((r.1 ≤ length text) × (lines_from (started r.0) 2 (pieces (drop r.1 text)) ≡ scan text))
FirstRead text (Err r) = scan text ≡ refused (number_of_refusal r.refusal) r.place

-- where the lines end: a refusal's number and line; the line after the last; or a failure line, its step, its set, its
-- own line and the place after it
pub data Scanned : Type 0 where
  Unread : ℕ → ℕ → Scanned
  Ended : ℕ → Scanned
  Stopped : ℕ → ℕ → ℕ → ℕ → Scanned

abbrev pub scanned : Result code_scanned.Scanned Refused → Scanned
scanned (Ok (code_scanned.TheVariants.Ended k)) = Ended k
scanned (Ok (code_scanned.TheVariants.Failure f k next)) = Stopped f.step f.set k next
scanned (Err r) = Unread (number_of_refusal r.refusal) r.place

-- the loop stopped at a failure line: its outcome with the place after that line, what follows there, and the table;
-- the line is one of the first 2,050
pub record StoppedAt (text : List ℕ) (t : Trace) (step set k : ℕ) (rest : List (List ℕ)) (r : Scanned) (table : List ℕ) : Type 0 where
  pub next : ℕ
  pub outcome : r ≡ Stopped step set k next
  pub follows : rest ≡ pieces (drop next text)
  pub holds : Holds table t
  pub few : k ≤ 2050

-- the loop's outcome and table are those of a scan
unfoldable pub ScanOutcome : List ℕ → Scan → Scanned → List ℕ → Type 0
ScanOutcome text (refused n k) r table = (r ≡ Unread n k) × (length table ≡ area_words)
ScanOutcome text (ended t k) r table = (r ≡ Ended k) × Holds table t
ScanOutcome text (stopped t step set k rest) r table = StoppedAt text t step set k rest r table
