-- `recovery_line::back_set` meets its contract: the set of a line's numbers, and what its bits say.
use mathlib.Core.Path.{◌≡◌, ap, ◌∙◌}
use Prim.Native.Nat.{ℕ}
use lib.ListN.{length, take}
use Rattle.recovery_line.specs.Given.{back_of}
use Rattle.recovery_line.proofs.Sets.{numbers_in_places, back_bits}
use Rattle.std.proofs.Common.{rules}
use Rattle.recovery_line.proofs.back_set.Goals as goal

pub returns : goal.returns
returns c =
    let q : length c.args.line.epochs ≡ 64 = search rules in
    let e = c.set_of.ensures ∙ ap (λ (n : ℕ). back_of (take n c.args.line.epochs)) c.min.ensures ∙ ap back_of (numbers_in_places c.args.line q) in
    record {
      set = e;
      bits = back_bits c.args.line q _ e;
    }
