-- `table::zeros` meets its contract: the words together are 0 exactly if each is.
use mathlib.Core.Path.{ap, ◌∙◌}
use native.Mathlib.Omega.{arith}
use Prim.Native.Nat.{ℕ}
use lib.Dec.{eqb}
use Rattle.table.proofs.Turns.{zeros_fold}
use Rattle.table.proofs.zeros.Goals as goal

pub returns : goal.returns
returns c =
    ap (λ (n : ℕ). eqb n 0) c.together.ensures ∙ zeros_fold 0 c.args.area.now c.args.from _ (omega arith)
