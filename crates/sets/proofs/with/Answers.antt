-- `sets::with` meets its contract.
use mathlib.Core.Path.{◌∙◌, ap}
use Prim.Native.Nat.{ℕ, ◌%◌, ◌^◌}
use native.Mathlib.Omega.{arith}
use native.Mathlib.Nat.{one-mul}
use lib.Bits.{bit_or}
use lib.Pow.{shl_exact}
use Rattle.theory.specs.Line.{in_set}
use Rattle.sets.proofs.Sets.{with_members}
use Rattle.sets.specs.Inner.Sets.{with_in}
use Rattle.sets.proofs.with.Goals as goal

pub returns : goal.returns
unfolding with_in
returns c =
    let k = c.args.z % 64 in
    let e = ap (bit_or c.args.set) (shl_exact 1 k 64 (omega arith) (omega arith) ∙ one-mul (2 ^ k)) in
    record {
      number = e;
      members = λ y. ap (λ (m : ℕ). in_set m y) e ∙ with_members c.args.set c.args.z y;
    }
