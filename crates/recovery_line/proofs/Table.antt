-- The words of a full table that are read for a line are in their ranges.
use Prim.Native.Nat.{ℕ, ◌≤◌}
use mathlib.Core.List.{List}
use native.Mathlib.Omega.{arith}
use Rattle.trace.specs.Trace.{Trace}
use Rattle.theory.specs.Events.{size}
use Rattle.columns.specs.Inner.Columns.{Tabled}
use Rattle.columns.specs.Inner.Full.{at_w, peer_w}
use Rattle.columns.proofs.Full.{few, procs_most, kind_receive, recv_match}
use Rattle.recovery_line.specs.Inner.Words.{Sized}

pub sized : (t : Trace) (full : List ℕ) → Tabled t full → (cut : ℕ) → cut ≤ size t → Sized full cut
sized t full G cut l = record {
  whole = G.columns.whole;
  procs_few = procs_most t full G;
  cut_few = omega (arith, few t full G);
  matched = λ e a b k.
      let r = kind_receive t full G e a (omega arith) k in
      let m = recv_match t full G (peer_w full e) (at_w full e) e r a (omega arith) in
      omega (arith, m.1, few t full G);
}
