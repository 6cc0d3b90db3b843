-- `sets::first` meets its contract.
use mathlib.Core.Path.{refl}
use Rattle.sets.proofs.Sets.{first_of}
use Rattle.sets.specs.Inner.Sets.{first_in}
use Rattle.std.proofs.Common.{rules}
use Rattle.sets.proofs.first.Goals as goal

pub returns : goal.returns
unfolding first_in
returns c =
    record {
      number = refl;
      members = first_of c.args.set (search rules);
    }
