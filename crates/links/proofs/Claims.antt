-- What the pass over the events leaves. Read this first.
use mathlib.Core.Path.{◌≡◌}
use mathlib.Core.List.{List}
use Prim.Native.Nat.{ℕ, ◌≤◌}
use lib.ListN.{length, get_or}
use Rattle.theory.specs.Events.{size}
use Rattle.theory.specs.Line.{Run}
use Rattle.columns.specs.Inner.Given.{Given}
use Rattle.columns.proofs.Full.{few}
use Rattle.machine.specs.Inner.Related.{Started}
use Rattle.links.specs.Inner.Linking.{linked_l, linked_a, begin_a}
use Rattle.links.proofs.Passes.{linked_cols, linked_rel}
use Rattle.links.proofs.Columns.{tested}

-- The pass over the events sets the links of the run and its first state, whichever messages the run has logged. The
-- words of processes that the run does not have may hold anything in the gates.
module _ (R : Run) (cut : ℕ) (full gates : List ℕ) (G : Given R cut full gates) where
  pub started : (links area : List ℕ) → 8197 ≤ length links → length area ≡ 16384 → ((k : ℕ) → get_or links k 0 ≡ 0) → ((k : ℕ) → get_or area k 0 ≡ 0)
      → Started R full (linked_l full gates cut (size R.trace) (size R.trace) links area) gates (begin_a full (linked_a full gates cut (size R.trace) (size R.trace) area))
  started links area hl ha zl za =
      let most = few R.trace full G.tells.tabled in
      let Q = tested R cut full gates G in
      record {
        laws = G.tells.laws;
        cols = linked_cols R full gates cut most Q links area hl ha zl za G.tells G.gated;
        rel = linked_rel R full gates cut most Q links area hl ha zl za G.tells G.gated;
      }
