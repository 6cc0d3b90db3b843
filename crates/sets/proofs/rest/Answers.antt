-- `sets::rest` meets its contract.
use mathlib.Core.Path.{◌≡◌, refl, ap, ◌∙◌}
use Prim.Native.Nat.{ℕ}
use Rattle.theory.specs.Line.{in_set}
use Rattle.sets.proofs.Sets.{rest_members}
use Rattle.sets.specs.Inner.Sets.{rest_of}
use Rattle.std.proofs.Common.{rules}
use Rattle.sets.proofs.rest.Goals as goal

pub returns-then-set-eq0 : goal.returns-then-set-eq0
unfolding rest_of
returns-then-set-eq0 c =
    let e : 0 ≡ rest_of c.args.set = rw c.if-set-eq0.true refl in
    record {
      number = e;
      members = λ y. ap (λ (m : ℕ). in_set m y) e ∙ rest_members c.args.set (search rules) y;
    }

pub returns : goal.returns
unfolding rest_of
returns c =
    record {
      number = refl;
      members = rest_members c.args.set (search rules);
    }
