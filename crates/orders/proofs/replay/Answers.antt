-- `orders::replay` meets its contract: the words that it begins with stand for every run that is given.
use mathlib.Core.Path.{refl, ◌∙◌}
use Rattle.links.proofs.Beginning.{zeros, linkable}
use Rattle.orders.proofs.Begun.{started, begun}
use Rattle.orders.proofs.replay.Goals as goal

pub begin-requires : goal.begin-requires
begin-requires c =
    linkable c.requires.1.0 _ _ _ c.requires.1.1 _ _ refl (zeros c.args.area.now _ c.requires.0 c.zero.ensures)

pub replay_in-requires : goal.replay_in-requires
replay_in-requires c =
    begun _ _ _ _ _ _ _ refl (zeros c.args.area.now _ c.requires.0 c.zero.ensures) c.begin.ensures.links c.begin.ensures.words c.requires.1.0 c.requires.1.1 (c.begin.auto.area ∙ c.zero.auto.area ∙ c.requires.0)

pub returns : goal.returns
returns c =
    let begun = started _ _ _ _ _ _ _ refl (zeros c.args.area.now _ c.requires.0 c.zero.ensures) c.begin.ensures.links c.begin.ensures.words in
    record {
      answer = λ R H. c.replay_in.ensures.answer R (begun R H);
      words = λ R H. c.replay_in.ensures.words R (begun R H);
    }
