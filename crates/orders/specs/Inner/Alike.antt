-- Traces that receive alike, whatever they send.
use Rattle.std.specs.Prelude.{ℕ, ◌≡◌}
use Rattle.trace.specs.Trace.{Trace}
use Rattle.theory.specs.Events.{size, recvs}

-- they have as many events, and on each channel the same ones receive
pub record Alike (t u : Trace) : Type 0 where
  pub size_same : size t ≡ size u
  pub receives_same : (p q e : ℕ) → recvs t p q e ≡ recvs u p q e
