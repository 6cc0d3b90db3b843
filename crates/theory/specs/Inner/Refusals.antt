-- What holds where nothing is wrong: the premises of the claims.
use Rattle.std.specs.Prelude.{◌≡◌, true, ℕ, ◌≤◌, ◌<◌}
use Rattle.trace.specs.Trace.{Trace}
use Rattle.theory.specs.Events.{size}
use Rattle.theory.specs.Epochs.{rule_of}
use Rattle.theory.specs.Line.{in_set, Permitted, usable_at}

pub record FitFailure (t : Trace) (step set : ℕ) : Type 0 where
  pub step_most : step ≤ size t
  pub set_some : (z : ℕ) × (in_set set z ≡ true)
  pub set_within : (z : ℕ) → in_set set z ≡ true → z < t.procs

pub record FitLine (t : Trace) (step set count : ℕ) (line : ℕ → ℕ) : Type 0 where
  pub failure : FitFailure t step set
  pub count_is : count ≡ t.procs
  pub permitted : Permitted t (rule_of t) step (usable_at t step) (in_set set) line
