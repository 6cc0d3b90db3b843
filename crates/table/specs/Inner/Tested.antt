-- What the code tests, one word after another. No contract of a function that users call cites these.
use Rattle.std.specs.Prelude.{ℕ, zero, suc, ◌+◌, ◌-◌, ◌<◌, ◌≤◌, List, [], ◌∷◌, ◌++◌, Bool, true, ◌&&◌, length, get_or, leb, eqb, cond, Option, Some, None}
use Rattle.words.specs.Area.{area_words}
use Rattle.words.specs.Halves.{half}
use Rattle.trace.specs.declared.Event.{Event}
use Rattle.trace.specs.Fit.{event_fault}
use Rattle.trace.specs.Trace.{value_of}
use Rattle.trace.specs.Table.{word_of, event_base, value_base}
use Rattle.trace.specs.Inner.Tally.{Tally, fault_by}
use Rattle.table.specs.Held.{event_of, held_event}

-- counters to which one event more can be counted: those of fewer than 2,048 events, in a run of at most 64 processes
pub record Room (procs : ℕ) (counts : List ℕ) : Type 0 where
  pub procs_most : procs ≤ 64
  pub events : List Event
  pub events_few : length events < 2048
  pub tally : Tally counts events

-- n words from place i on are 0
unfoldable pub zeros_from : List ℕ → ℕ → ℕ → Bool
zeros_from a i zero = true
zeros_from a i (suc n) = eqb (get_or a i 0) 0 && zeros_from a (suc i) n

-- the event of which a word and a value are those, if there is one
unfoldable pub read_event : ℕ → ℕ → Option Event
read_event w v = cond (eqb (word_of (event_of w v)) w && eqb (value_of (event_of w v)) v) (Some (event_of w v)) None

-- a word and a value are those of the event that they say, and the event is fit by a test
unfoldable pub word_fits : (Event → Bool) → ℕ → ℕ → Bool
word_fits fit w v = eqb (word_of (event_of w v)) w && (eqb (value_of (event_of w v)) v && fit (event_of w v))

-- fit by the counters
abbrev pub fit_by : ℕ → List ℕ → Event → Bool
fit_by procs counts e = eqb (fault_by procs counts e) 0

-- two words are the halves of a value
unfoldable pub halves_are : ℕ → ℕ → ℕ → Bool
halves_are v low high = eqb (half 0 v) low && eqb (half 1 v) high

-- n events from event number i on, after the events `before`, are each fit and have the words read
unfoldable pub fit_from : ℕ → List Event → List ℕ → ℕ → ℕ → Bool
fit_from procs before a i zero = true
fit_from procs before a i (suc n) =
    eqb (word_of (held_event a i)) (get_or a (event_base + i) 0)
    && (halves_are (value_of (held_event a i)) (get_or a (value_base 0 + i) 0) (get_or a (value_base 1 + i) 0)
    && (eqb (event_fault procs before (held_event a i)) 0
    && fit_from procs (before ++ held_event a i ∷ []) a (suc i) n))

-- the places of an area that are no event's are 0, where word 1 says n events
unfoldable pub zeros_tested : List ℕ → ℕ → Bool
zeros_tested a n =
    leb n 2048
    && (zeros_from a 2 (event_base + 1 - 2)
    && (zeros_from a (event_base + 1 + n) (value_base 0 + 1 - (event_base + 1 + n))
    && (zeros_from a (value_base 0 + 1 + n) (value_base 1 + 1 - (value_base 0 + 1 + n))
    && zeros_from a (value_base 1 + 1 + n) (area_words - (value_base 1 + 1 + n)))))

-- an area is as one with a trace, but for its events
unfoldable pub framed : List ℕ → Bool
framed a = leb area_words (length a) && (leb 2 (get_or a 0 0) && (leb (get_or a 0 0) 64 && zeros_tested a (get_or a 1 0)))

unfoldable pub tested : List ℕ → Bool
tested a = framed a && fit_from (get_or a 0 0) [] a 1 (get_or a 1 0)
