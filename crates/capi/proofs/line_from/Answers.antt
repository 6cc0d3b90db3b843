use mathlib.Core.Path.{ap}
use mathlib.Core.List.{List}
use Prim.Native.Nat.{ℕ}
use lib.ListN.{length, get_or}
use Rattle.words.proofs.Area.{words_ext}
use native.Mathlib.Omega.{arith}
use Rattle.capi.proofs.line_from.Goals as goal

pub returns : goal.returns
returns c =
    ap (λ (x : List ℕ). record { epochs = x; count = length c.args.numbers.now }) (words_ext (λ z. get_or c.args.numbers.now z 0) 64 c.loop-z.epoch-items c.loop-z.invariant.0 (λ k h. c.loop-z.invariant.1 k (omega arith)))
