-- `text::eight` meets its contract: two fours are its halves.
use native.Mathlib.Omega.{arith}
use lib.ListN.{drop}
use lib.Seq.{drop-drop}
use Rattle.text.proofs.Blocks.{two_fours}
use Rattle.text.proofs.eight.Goals as goal

pub returns : goal.returns
returns c =
    let halves = two_fours (drop c.args.at c.args.text.now) in
    omega (arith, c.from_halves.ensures.number, c.four.ensures, c.four-2.ensures, rw (drop-drop 4 c.args.at c.args.text.now) at halves)
