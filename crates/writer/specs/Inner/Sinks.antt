-- What a `Sink` takes.
use Rattle.std.specs.Prelude.{◌≡◌, List}
use Rattle.writer.specs.declared.Sink.{Sink}
use Rattle.writer.specs.Inner.Puts.{Puts}

-- these items are put into a sink's buffer, from its place on; the buffer is the one that was lent
pub record Takes {A : Type 0} (xs : List A) (old new : Sink A) : Type 0 where
  pub puts : Puts xs old.out.now old.next new.out.now new.next
  pub same : new.out.ghost_name ≡ old.out.ghost_name
