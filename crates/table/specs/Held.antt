-- The trace that a table area holds (MANUAL 7.1; of 13 the requirements say: "the first 16,384 words of the table area
-- aren't what reading some accepted trace leaves there"). proofs/Claims states that this is what `holds_trace` refuses.
use Rattle.std.specs.Prelude.{ℕ, zero, suc, ◌+◌, List, [], ◌∷◌, Bool, true, ◌&&◌, cond, length, get_or, leb, eqb}
use Rattle.words.specs.Area.{area_words}
use Rattle.words.specs.Halves.{from_halves}
use Rattle.trace.specs.declared.Event.{Event}
use Rattle.trace.specs.declared.Event.TheVariants.{Send, Recv, Save, Done}
use Rattle.trace.specs.Trace.{Trace}
use Rattle.trace.specs.Fit.{well_formed}
use Rattle.trace.specs.Table.{top_in, process_in, peer_in, event_base, value_base, table_word}

-- The event that a word and a value say: above the peer the word has 1 for a send, 2 for a receive, 3 for a save; every
-- other word is read as a done's, which has 0. A word that is no event's is told by its not being the word of the event
-- read from it.
unfoldable pub event_of : ℕ → ℕ → Event
event_of w v =
    cond (eqb (top_in w) 1) (Send (process_in w) (peer_in w) v)
    (cond (eqb (top_in w) 2) (Recv (process_in w) (peer_in w))
    (cond (eqb (top_in w) 3) (Save (process_in w))
    (Done (process_in w))))

-- event number i of an area, and its value, the one whose halves stand there
abbrev pub held_value : List ℕ → ℕ → ℕ
held_value a i = from_halves (get_or a (value_base 0 + i) 0) (get_or a (value_base 1 + i) 0)

abbrev pub held_event : List ℕ → ℕ → Event
held_event a i = event_of (get_or a (event_base + i) 0) (held_value a i)

-- n events of an area, from event number i on
unfoldable pub held_events : List ℕ → ℕ → ℕ → List Event
held_events a i zero = []
held_events a i (suc n) = held_event a i ∷ held_events a (suc i) n

-- the trace that an area's words say
unfoldable pub held : List ℕ → Trace
held a = record { procs = get_or a 0 0; events = held_events a 1 (get_or a 1 0) }

-- the first n words of an area are by a rule
unfoldable pub words_are : (ℕ → ℕ) → ℕ → List ℕ → Bool
words_are f zero a = true
words_are f (suc n) a = words_are f n a && eqb (get_or a n 0) (f n)

-- an area holds a trace: it has 16,384 words, the trace that they say is well formed, and each is the word of this
-- trace
unfoldable pub holds_trace : List ℕ → Bool
holds_trace a = leb area_words (length a) && (well_formed (held a) && words_are (table_word (held a)) area_words a)
