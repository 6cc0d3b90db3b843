-- Events and their words: 16 for the kind, 4 for the process, 1 for the peer.
use Rattle.std.specs.Prelude.{ℕ, ◌+◌, ◌*◌, ◌/◌, ◌%◌, ◌<◌, ◌==◌, Option, Some, None, if◌then◌else◌}
use Rattle.bruteforce.specs.declared.events.Event.{Event}
use Rattle.bruteforce.specs.declared.events.Event.TheVariants.{Save, Send, Receive, Done}

abbrev pub small_word_of : Event → ℕ
small_word_of (Save at) = at % 4 * 4
small_word_of (Send at to) = 16 + at % 4 * 4 + to % 4
small_word_of (Receive at from) = 32 + at % 4 * 4 + from % 4
small_word_of (Done at) = 48 + at % 4 * 4

-- the event of a word; none where its kind is above 3
abbrev pub small_event_of : ℕ → Option Event
small_event_of w =
    if w / 16 == 0 then Some (Save (w / 4 % 4)) else
    if w / 16 == 1 then Some (Send (w / 4 % 4) (w % 4)) else
    if w / 16 == 2 then Some (Receive (w / 4 % 4) (w % 4)) else
    if w / 16 == 3 then Some (Done (w / 4 % 4)) else None

-- its processes are three of four: no process has place 3 of a line
abbrev pub SmallEvent : Event → Type 0
SmallEvent (Save at) = at < 4
SmallEvent (Send at to) = (at < 4) × (to < 4)
SmallEvent (Receive at from) = (at < 4) × (from < 4)
SmallEvent (Done at) = at < 4
