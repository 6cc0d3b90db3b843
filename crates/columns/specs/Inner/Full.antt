-- The words of the full table of a trace, by name: this is the one place where they are read. Columns says what they
-- mean.
use Rattle.std.specs.Prelude.{ℕ, ◌+◌, cond, List, eqb, get_or}
use Rattle.trace.specs.Table.{event_base, value_base, kind_in, process_in, peer_in}
use Rattle.theory.specs.Events.{Kind, send, recv, other}
use Rattle.columns.specs.Inner.Columns.{number_base, epoch_base, phase_base, match_base, logged_base}

-- how many processes, how many events
abbrev pub procs_w : List ℕ → ℕ
procs_w t = get_or t 0 0

abbrev pub events_w : List ℕ → ℕ
events_w t = get_or t 1 0

-- of event e: its word, its kind (1 send, 2 receive, 3 checkpoint), its process, its peer, half b of its value
abbrev pub event_w : List ℕ → ℕ → ℕ
event_w t e = get_or t (event_base + e) 0

abbrev pub kind_w : List ℕ → ℕ → ℕ
kind_w t e = kind_in (event_w t e)

abbrev pub at_w : List ℕ → ℕ → ℕ
at_w t e = process_in (event_w t e)

abbrev pub peer_w : List ℕ → ℕ → ℕ
peer_w t e = peer_in (event_w t e)

abbrev pub value_w : ℕ → List ℕ → ℕ → ℕ
value_w b t e = get_or t (value_base b + e) 0

-- of a send: the number of its message; of any event: its epoch and its phase, the event that it is matched with
abbrev pub number_w : List ℕ → ℕ → ℕ
number_w t e = get_or t (number_base + e) 0

abbrev pub epoch_w : List ℕ → ℕ → ℕ
epoch_w t e = get_or t (epoch_base + e) 0

abbrev pub phase_w : List ℕ → ℕ → ℕ
phase_w t e = get_or t (phase_base + e) 0

abbrev pub match_w : List ℕ → ℕ → ℕ
match_w t e = get_or t (match_base + e) 0

-- of a receive: 1 if the message that it takes is logged
abbrev pub logged_w : List ℕ → ℕ → ℕ
logged_w t e = get_or t (logged_base + e) 0

-- what a replay sees of an event, by its kind and its peer
unfoldable pub kind_by : ℕ → ℕ → Kind
kind_by k p = cond (eqb k 1) (send p) (cond (eqb k 2) (recv p) other)
