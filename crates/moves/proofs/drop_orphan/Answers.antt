-- `moves::drop_orphan` meets its contract: the stores themselves, the least phase by the tree of the area after the
-- first.
use mathlib.Core.Path.{sym, ◌∙◌}
use Prim.Native.Nat.{◌+◌, ◌*◌}
use Rattle.machine.specs.Inner.Words.{Small}
use Rattle.machine.proofs.Tree.{treed_next}
use Rattle.moves.proofs.Steps.{treed_low, dropped}
use native.Mathlib.Omega.{arith}
use Rattle.moves.proofs.drop_orphan.Goals as goal

pub set_orphan-requires : goal.set_orphan-requires
unfolding Small
set_orphan-requires c =
    (omega (arith, c.requires.0, c.requires.2.aimed.procs_few), omega (arith, c.from-2.ensures, c.requires.2.small (4 * c.args.e + 2)), c.requires.2.ranged.full_long, c.requires.3.tree)

pub returns : goal.returns
returns c =
    let T = treed_next _ c.args.area.now _ _ c.args.z _ (omega (arith, c.requires.0, c.requires.2.aimed.procs_few)) c.requires.0 (omega (arith, c.requires.0, c.requires.2.aimed.procs_few, c.requires.2.ranged.pointed.area_long)) c.requires.3 (rw (c.from-2.ensures ∙ sym c.from.ensures) at c.set_orphan.ensures) in
    record {
      words = dropped _ _ _ _ _ _ _ c.requires.2.aimed.procs_few c.from.ensures T;
      leaves = treed_low _ c.args.links.now _ _ T _;
    }
