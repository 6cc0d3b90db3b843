-- The text of a trace: the one text that is read as it.
use Rattle.std.specs.Prelude.{ℕ, List, [], ◌∷◌, ◌++◌}
use Rattle.text.specs.Number.{decimal}
use Rattle.trace.specs.declared.Event.{Event}
use Rattle.trace.specs.Trace.{Trace}
use Rattle.lines.specs.Line.{k_procs}
use Rattle.lines.specs.Render.{render_event}

-- each event's line, ended by LF
unfoldable pub render_events : List Event → List ℕ
render_events [] = []
render_events (e ∷ es) = render_event e ++ 10 ∷ render_events es

unfoldable pub render : Trace → List ℕ
render t = k_procs ++ decimal t.procs ++ 10 ∷ render_events t.events
