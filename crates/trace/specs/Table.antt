-- The words of the table area that hold a trace (docs/LAYOUT.md).
use Rattle.std.specs.Prelude.{ℕ, ◌+◌, ◌-◌, ◌*◌, ◌/◌, ◌%◌, map, cond, length, get_or, leb, eqb}
use Rattle.words.specs.Halves.{half}
use Rattle.trace.specs.declared.Event.{Event}
use Rattle.trace.specs.declared.Event.TheVariants.{Send, Recv, Save, Done}
use Rattle.trace.specs.Trace.{Trace, value_of}

-- An event's word: its process, its peer and its kind (1 send, 2 receive, 3 save, 0 done). Processes of a well-formed
-- trace are below 64, so that `% 64` changes nothing there; with it every event has a word below 16,384.
abbrev pub word_of : Event → ℕ
word_of (Send at to val) = at % 64 + 64 * (to % 64) + 4096
word_of (Recv at from) = at % 64 + 64 * (from % 64) + 8192
word_of (Save at) = at % 64 + 12288
word_of (Done at) = at % 64

-- The same read back: the process at which it happens; the other process, the receiver of a send or the sender of a
-- receive; and all that stands above them. Of an event's word that is its kind. Check 13, to which any word can come,
-- asks for all of it: a word with a bit above the kind is no event's.
abbrev pub process_in : ℕ → ℕ
process_in w = w % 64

abbrev pub peer_in : ℕ → ℕ
peer_in w = w / 64 % 64

abbrev pub top_in : ℕ → ℕ
top_in w = w / 4096

-- the kind of an event's word, two bits (1 a send, 2 a receive, 3 a checkpoint, 0 the end of one), where the area is
-- known to hold a trace
abbrev pub kind_in : ℕ → ℕ
kind_in w = top_in w % 4

-- an event's value as two words, its halves (a value of a well-formed trace has 64 bits)
abbrev pub value_word : ℕ → Event → ℕ
value_word b e = half b (value_of e)

-- the words before event 1: the word of event e is `event_base + e`, half b of its value `value_base b + e`
abbrev pub event_base : ℕ
event_base = 16

abbrev pub value_base : ℕ → ℕ
value_base b = 2065 + 2049 * b

-- Word k of the table area: 0 the process count, 1 the event count, then the events' words, then the low halves of
-- their values, then the high ones; all others 0.
unfoldable pub table_word : Trace → ℕ → ℕ
table_word t k =
    cond (eqb k 0) t.procs
    (cond (eqb k 1) (length t.events)
    (cond (leb k event_base) 0
    (cond (leb k (value_base 0)) (get_or (map word_of t.events) (k - (event_base + 1)) 0)
    (cond (leb k (value_base 1)) (get_or (map (value_word 0) t.events) (k - (value_base 0 + 1)) 0)
    (get_or (map (value_word 1) t.events) (k - (value_base 1 + 1)) 0)))))
