-- What the theorems about orders speak of.
use Rattle.std.specs.Prelude.{◌≡◌, ℕ}
use Rattle.std.proofs.Math.Option.{some}
use Rattle.theory.specs.Line.{Run}
use Rattle.theory.specs.Replay.{State}
use Rattle.theory.specs.Order.{choose}

module _ (R : Run) where
  abbrev pub Allowed : State → ℕ → Type 0
  Allowed s c = (t : State) × (choose R s c ≡ some t)
