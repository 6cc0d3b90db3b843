-- The kinds of events, as an event's word has them (docs/LAYOUT.md).
use Rattle.std.specs.Prelude.{ℕ}
use Rattle.trace.specs.declared.kinds.Kind.{Kind}
use Rattle.trace.specs.declared.kinds.Kind.TheVariants.{Done, Send, Receive, Save}

-- the two bits of a kind: 1 a send, 2 a receive, 3 a checkpoint, 0 the end of one
abbrev pub number_of_kind : Kind → ℕ
number_of_kind Done = 0
number_of_kind Send = 1
number_of_kind Receive = 2
number_of_kind Save = 3
