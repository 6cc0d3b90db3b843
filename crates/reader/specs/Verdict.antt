-- The reader's verdict on a text: line by line from the top, the first faulty line decides (MANUAL 2.6 and 6.3;
-- quotations are from the requirements): "for text line by line 1, 7, 2, 3, 4, 5, 6"; "15 when a `done` finds no
-- unfinished save, after 6".
use Rattle.std.specs.Prelude.{ℕ, ◌+◌, List, [], ◌∷◌, cond, length, leb, ltb, eqb}
use Rattle.trace.specs.declared.Event.{Event}
use Rattle.trace.specs.declared.Event.TheVariants.{Send, Recv, Save, Done}
use Rattle.trace.specs.Trace.{Trace, started, extended}
use Rattle.trace.specs.Fit.{event_fault}
use Rattle.lines.specs.declared.Line.{Line}
use Rattle.lines.specs.Line.{line_said}
use Rattle.lines.specs.declared.Line as line

-- a byte before the first piece
abbrev pub grow : ℕ → List (List ℕ) → List (List ℕ)
grow b [] = (b ∷ []) ∷ []
grow b (l ∷ ls) = (b ∷ l) ∷ ls

-- The text cut at each LF: the bytes of each line, and last those that follow the last LF, which are none where every
-- line ends with LF.
unfoldable pub pieces : List ℕ → List (List ℕ)
pieces [] = [] ∷ []
pieces (b ∷ bs) = cond (eqb b 10) ([] ∷ pieces bs) (grow b (pieces bs))

-- what is wrong with an event as the next of a trace, or 0: a 2,049th is 7, before its processes are looked at; then 3,
-- 4, 5, 6, 15
unfoldable pub fault_here : Trace → Event → ℕ
fault_here t e = cond (leb 2048 (length t.events)) 7 (event_fault t.procs t.events e)

-- a line where an event or a failure is due: a fit event, a failure line's numbers, or the number of what is wrong
pub data Judged : Type 0 where
  Fit : Event → Judged
  Fails : ℕ → ℕ → Judged
  Unfit : ℕ → Judged

unfoldable pub judge_event : Trace → Event → Judged
judge_event t e = cond (eqb (fault_here t e) 0) (Fit e) (Unfit (fault_here t e))

-- a line after the first: an event, a failure line, or none that is due there
unfoldable pub judge : Trace → Line → Judged
judge t (line.TheVariants.Procs n) = Unfit 1
judge t (line.TheVariants.Send at to val) = judge_event t (Send at to val)
judge t (line.TheVariants.Recv at from) = judge_event t (Recv at from)
judge t (line.TheVariants.Save at) = judge_event t (Save at)
judge t (line.TheVariants.Done at) = judge_event t (Done at)
judge t (line.TheVariants.Failure step set) = Fails step set
judge t line.TheVariants.Malformed = Unfit 1

-- What reading the lines gives: a refusal's number and place; the trace, and the line after its last; or the trace
-- before a failure line, that line's numbers and place, and what follows it.
pub data Scan : Type 0 where
  refused : ℕ → ℕ → Scan
  ended : Trace → ℕ → Scan
  stopped : Trace → ℕ → ℕ → ℕ → List (List ℕ) → Scan

abbrev pub after_line : Judged → Trace → ℕ → List (List ℕ) → (Event → Scan) → Scan
after_line (Fit e) t k rest next = next e
after_line (Fails step set) t k rest next = stopped t step set k rest
after_line (Unfit n) t k rest next = refused n k

-- what follows the last LF: nothing, or a line that lacks its LF
abbrev pub at_end : List ℕ → Trace → ℕ → Scan
at_end [] t k = ended t k
at_end (b ∷ bs) t k = refused 1 k

-- the lines from line k on, after the trace t
unfoldable pub lines_from : Trace → ℕ → List (List ℕ) → Scan
lines_from t k [] = refused 1 k
lines_from t k (l ∷ []) = at_end l t k
lines_from t k (l ∷ (m ∷ ms)) = after_line (judge t (line_said l)) t k (m ∷ ms) (λ e. lines_from (extended t e) (k + 1) (m ∷ ms))

-- line 1: the process count, 2 to 64
abbrev pub first_line : Line → (ℕ → Scan) → Scan
first_line (line.TheVariants.Procs n) next = cond (ltb n 2) (refused 2 1) (cond (ltb 64 n) (refused 2 1) (next n))
first_line (line.TheVariants.Send at to val) next = refused 1 1
first_line (line.TheVariants.Recv at from) next = refused 1 1
first_line (line.TheVariants.Save at) next = refused 1 1
first_line (line.TheVariants.Done at) next = refused 1 1
first_line (line.TheVariants.Failure step set) next = refused 1 1
first_line line.TheVariants.Malformed next = refused 1 1

unfoldable pub scan_pieces : List (List ℕ) → Scan
scan_pieces [] = refused 1 1
scan_pieces (l ∷ []) = refused 1 1
scan_pieces (l ∷ (m ∷ ms)) = first_line (line_said l) (λ n. lines_from (started n) 2 (m ∷ ms))

unfoldable pub scan : List ℕ → Scan
scan text = scan_pieces (pieces text)

-- the library's verdict: a failure line is not due in its text
pub data Verdict : Type 0 where
  refused : ℕ → ℕ → Verdict
  accepted : Trace → Verdict

abbrev pub verdict_of : Scan → Verdict
verdict_of (Scan.refused n k) = refused n k
verdict_of (Scan.ended t k) = accepted t
verdict_of (Scan.stopped t step set k rest) = refused 1 k

unfoldable pub verdict : List ℕ → Verdict
verdict text = verdict_of (scan text)
