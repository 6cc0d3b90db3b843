-- `protocol::begin` meets its contract: 192 ones, then the other words as they were.
use Rattle.std.proofs.Common.{arith, ◌≡◌, ◌<◌, ◌∙◌, length, refl}
use lib.Seq.{length-take-le}
use Rattle.protocol.proofs.Parts.{part_first, part_others}
use Rattle.protocol.proofs.begin.Goals as goal

pub returns : goal.returns
returns c =
    let q : length c.fill.new.self ≡ 192 = c.fill.ensures.len ∙ length-take-le 192 c.args.work.now c.requires in
    record {
      first = λ k h. part_first 192 c.fill.new.self c.args.work.now q k h ∙ c.fill.ensures.clones k 0 (omega (arith, length-take-le 192 c.args.work.now c.requires, h)) refl;
      others = λ k h. part_others 192 c.fill.new.self c.args.work.now q k h;
    }
