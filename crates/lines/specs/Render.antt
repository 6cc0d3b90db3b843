-- The text of an event and of a failure: the one line that is read as it.
use Rattle.std.specs.Prelude.{ℕ, ◌≤◌, List, [], ◌∷◌, ◌++◌}
use Rattle.text.specs.Number.{decimal}
use Rattle.trace.specs.declared.Event.{Event}
use Rattle.trace.specs.declared.Event.TheVariants.{Send, Recv, Save, Done}
use Rattle.lines.specs.Line.{k_send, k_to, k_val, k_recv, k_from, k_save, k_done, k_fail, k_set, most, most_value}

-- the line of an event, without its LF
unfoldable pub render_event : Event → List ℕ
render_event (Send at to val) = k_send ++ decimal at ++ k_to ++ decimal to ++ k_val ++ decimal val
render_event (Recv at from) = k_recv ++ decimal at ++ k_from ++ decimal from
render_event (Save at) = k_save ++ decimal at
render_event (Done at) = k_done ++ decimal at

-- the last line of the program's text, ended by LF
unfoldable pub render_failure : ℕ → ℕ → List ℕ
render_failure step set = k_fail ++ decimal step ++ k_set ++ decimal set ++ 10 ∷ []

-- no number of an event is more than "the largest its key can hold"
abbrev pub KeysHold : Event → Type 0
KeysHold (Send at to val) = (at ≤ most) × (to ≤ most) × (val ≤ most_value)
KeysHold (Recv at from) = (at ≤ most) × (from ≤ most)
KeysHold (Save at) = at ≤ most
KeysHold (Done at) = at ≤ most
