-- `search::lowest` meets its contract: the words that it begins with stand for every run that is given, and twice its
-- events bound the order.
use mathlib.Core.Path.{refl, ◌∙◌}
use Rattle.links.proofs.Beginning.{zeros, linkable, listed_in, twice}
use Rattle.orders.proofs.Begun.{started}
use Rattle.search.proofs.lowest.Goals as goal

pub begin_listed-requires : goal.begin_listed-requires
begin_listed-requires c =
    (linkable c.requires.1.0 _ _ _ c.requires.1.1 _ _ refl (zeros c.args.area.now _ c.requires.0 c.zero.ensures), refl)

pub lowest_in-requires : goal.lowest_in-requires
lowest_in-requires c =
    let z = zeros c.args.area.now _ c.requires.0 c.zero.ensures in record { area_long = c.begin_listed.auto.area ∙ c.zero.auto.area ∙ c.requires.0; run = c.requires.1.0; started = started _ _ _ _ _ _ _ refl z c.begin_listed.ensures.links c.begin_listed.ensures.words c.requires.1.0 c.requires.1.1; listed = listed_in c.requires.1.0 _ _ _ c.requires.1.1 _ _ refl z _ _ c.begin_listed.ensures.links c.begin_listed.ensures.heads }

pub returns : goal.returns
returns c =
    let begun = started _ _ _ _ _ _ _ refl (zeros c.args.area.now _ c.requires.0 c.zero.ensures) c.begin_listed.ensures.links c.begin_listed.ensures.words in
    record {
      answer = λ R H. c.lowest_in.ensures.answer R (begun R H) (twice R _ _ _ H _ refl);
      words = λ R H. c.lowest_in.ensures.words R (begun R H) (twice R _ _ _ H _ refl);
    }
