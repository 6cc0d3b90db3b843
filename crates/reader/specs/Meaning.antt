-- What an answer to reading means, over texts and traces: what is accepted, and which line a refusal is for. The
-- contracts of `read` and `read_failure` promise it, beside the answer itself (Answer, Failure). Quotations are from
-- the requirements (MANUAL 2 and 6).
use Rattle.std.specs.Prelude.{ℕ, ◌+◌, ◌<◌, ◌≤◌, ◌≡◌, ◌↔◌, ◌⊎◌, List, [], ◌∷◌, ◌++◌, true, length}
use Rattle.words.specs.Area.{area_words}
use Rattle.text.specs.Number.{decimal}
use Rattle.trace.specs.declared.Event.{Event}
use Rattle.trace.specs.Trace.{Trace}
use Rattle.trace.specs.Fit.{well_formed}
use Rattle.lines.specs.Line.{k_procs, most, most_set}
use Rattle.lines.specs.Render.{render_event, render_failure, KeysHold}
use Rattle.reader.specs.Render.{render}
use Rattle.reader.specs.Verdict.{pieces, fault_here}
use Rattle.reader.specs.Answer.{ReadAnswer, read_answer}
use Rattle.reader.specs.Failure.{FailureAnswer, failure_answer}

-- ---- What is accepted

-- the text of a well-formed trace, byte for byte
pub record TraceText (text : List ℕ) (t : Trace) : Type 0 where
  pub fit : well_formed t ≡ true
  pub bytes : text ≡ render t

-- the same with a failure line after it, whose numbers are no more than the largest that their keys can hold
pub record FailureText (text : List ℕ) (t : Trace) (step set : ℕ) : Type 0 where
  pub fit : well_formed t ≡ true
  pub step_most : step ≤ most
  pub set_most : set ≤ most_set
  pub bytes : text ≡ render t ++ render_failure step set

-- "An answer has the number (0 if accepted)"; demand 1: "Nothing unfit is accepted, nothing fit is refused": 0 exactly
-- if the area has 16,384 words and the text is that of a well-formed trace
abbrev pub ReadAccepts : List ℕ → ℕ → ℕ → Type 0
ReadAccepts text size number = (number ≡ 0) ↔ ((area_words ≤ size) × ((t : Trace) × TraceText text t))

abbrev pub FailureAccepts : List ℕ → ℕ → ℕ → Type 0
FailureAccepts text size number =
    (number ≡ 0) ↔ ((area_words ≤ size) × ((t : Trace) × (step : ℕ) × (set : ℕ) × FailureText text t step set))

-- "The program wants one more line, the last, `fail=K set=M`": an accepted answer has that line's numbers
abbrev pub FailureTold : List ℕ → FailureAnswer → Type 0
FailureTold text r = r.number ≡ 0 → (t : Trace) × FailureText text t r.step r.set

-- ---- Which line a refusal is for

-- What is wrong with line 1, without its LF: "2: zone count out of range", or 1 where it says no zone count.
pub record CountFault (line : List ℕ) (n : ℕ) : Type 0 where
  pub range : (m : ℕ) → m ≤ most → line ≡ k_procs ++ decimal m → (n ≡ 2) × ((m < 2) ⊎ (64 < m))
  pub form : ((m : ℕ) → m ≤ most → line ≡ k_procs ++ decimal m → ⊥) → n ≡ 1

-- What is wrong with a line after the events of a trace: 7, 3, 4, 5, 6 or 15 of the event that it says, or 1 where it
-- says none ("the line isn't a form due at that place", "or a number exceeds the largest its key can hold").
pub record EventFault (before : Trace) (line : List ℕ) (n : ℕ) : Type 0 where
  pub rule : (e : Event) → KeysHold e → line ≡ render_event e → (n ≡ fault_here before e) × (3 ≤ n)
  pub form : ((e : Event) → KeysHold e → line ≡ render_event e → ⊥) → n ≡ 1

-- 1: the line that begins here "lacks its LF, or is missing"; the text has no LF from here on
pub record Unended (bytes : List ℕ) (n : ℕ) : Type 0 where
  pub plain : pieces bytes ≡ bytes ∷ []
  pub number : n ≡ 1

-- The line that begins here ends with LF and is at fault by itself: every text that has the same bytes up to that LF
-- has the same answer, whatever follows.
pub record FaultyLine (Fault : List ℕ → ℕ → Type 0) (Same : List ℕ → Type 0) (bytes : List ℕ) (n : ℕ) : Type 0 where
  pub line : List ℕ
  pub rest : List ℕ
  pub here : bytes ≡ line ++ 10 ∷ rest
  pub plain : pieces line ≡ line ∷ []
  pub fault : Fault line n
  pub same : (more : List ℕ) → Same (line ++ 10 ∷ more)

abbrev pub AtFault : (List ℕ → ℕ → Type 0) → (List ℕ → Type 0) → List ℕ → ℕ → Type 0
AtFault Fault Same bytes n = Unended bytes n ⊎ FaultyLine Fault Same bytes n

-- line 1 is at fault; "Empty text is 1 at line 1"
pub record FirstFault (Same : List ℕ → Type 0) (text : List ℕ) (n k : ℕ) : Type 0 where
  pub place : k ≡ 1
  pub fault : AtFault CountFault Same text n

-- Line k is at fault, a later one: the lines before it are those of a well-formed trace with k - 2 events, so that none
-- of them is at fault.
pub record LaterFault (Same : List ℕ → Type 0) (text : List ℕ) (n k : ℕ) : Type 0 where
  pub before : Trace
  pub after : List ℕ
  pub fit : well_formed before ≡ true
  pub place : length before.events + 2 ≡ k
  pub bytes : text ≡ render before ++ after
  pub fault : AtFault (EventFault before) (λ (x : List ℕ). Same (render before ++ x)) after n

-- Line k follows a failure line, which is to be the last: the lines before it are those of a well-formed trace with
-- k - 3 events and a failure line.
pub record PastFailure (Same : List ℕ → Type 0) (text : List ℕ) (n k : ℕ) : Type 0 where
  pub front : List ℕ
  pub before : Trace
  pub step : ℕ
  pub failed : ℕ
  pub fit : FailureText front before step failed
  pub place : length before.events + 3 ≡ k
  pub after : List ℕ
  pub bytes : text ≡ front ++ after
  pub some : after ≡ [] → ⊥
  pub number : n ≡ 1
  pub same : (more : List ℕ) → (more ≡ [] → ⊥) → Same (front ++ more)

-- a text has this answer, whatever area of 16,384 words or more it is read into
abbrev pub ReadAs : ReadAnswer → List ℕ → Type 0
ReadAs r text = (a : List ℕ) → area_words ≤ length a → read_answer text a ≡ r

abbrev pub FailureReadAs : FailureAnswer → List ℕ → Type 0
FailureReadAs r text = (a : List ℕ) → area_words ≤ length a → failure_answer text a ≡ r

-- "Who writes the trace": 1 to 7, and 15 ("when a `done` finds no unfinished save")
abbrev pub TextNumber : ℕ → Type 0
TextNumber n = ((1 ≤ n) × (n ≤ 7)) ⊎ (n ≡ 15)

-- what the number n and the place k of an answer are
pub record Numbered (size n k : ℕ) : Type 0 where
  -- "12: a table or run area is under 16,384 words", the first in the order
  pub short : (n ≡ 12) ↔ (size < area_words)
  -- any other is for who writes the trace
  pub numbers : (n ≡ 0 → ⊥) → (n ≡ 12 → ⊥) → TextNumber n
  -- "a place: the text line from 1, .. else 0"
  pub nowhere : (n ≡ 0) ⊎ (n ≡ 12) → k ≡ 0

-- "The first faulty line decides the refusal and its place."
pub record ReadRefuses (text : List ℕ) (size : ℕ) (r : ReadAnswer) : Type 0 where
  pub numbered : Numbered size r.number r.place
  pub first : (r.number ≡ 0 → ⊥) → area_words ≤ size
      → FirstFault (ReadAs r) text r.number r.place ⊎ LaterFault (ReadAs r) text r.number r.place

pub record FailureRefuses (text : List ℕ) (size : ℕ) (r : FailureAnswer) : Type 0 where
  pub numbered : Numbered size r.number r.place
  pub first : (r.number ≡ 0 → ⊥) → area_words ≤ size
      → FirstFault (FailureReadAs r) text r.number r.place
      ⊎ (LaterFault (FailureReadAs r) text r.number r.place ⊎ PastFailure (FailureReadAs r) text r.number r.place)
  -- "In a refused answer every other number is 0."
  pub nothing : (r.number ≡ 0 → ⊥) → (r.step ≡ 0) × (r.set ≡ 0)
