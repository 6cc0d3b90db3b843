-- `search::lowest_in` meets its contract: the steps are those of the lowest order, which is complete.
use mathlib.Core.Path.{refl, ◌∙◌}
use Rattle.orders.proofs.Ordering.{first_asked}
use Rattle.search.proofs.Lowering.{lowered_answer, lowered_words}
use Rattle.search.proofs.Looking.{begins}
use Rattle.search.proofs.lowest_in.Goals as goal

pub build_tree-requires : goal.build_tree-requires
build_tree-requires c =
    ((first_asked _ _ _ _ (begins _ _ _ _ _ c.requires)).0, (first_asked _ _ _ _ (begins _ _ _ _ _ c.requires)).1, refl)

pub returns : goal.returns
returns c =
    record {
      answer = λ R S all. lowered_answer R _ _ _ _ S _ all _ _ _ (c.carry_lowest-steps.ensures R S) c.finish.ensures.answer;
      words = λ R S all. lowered_words R _ _ _ _ S _ all _ _ _ (c.carry_lowest-steps.ensures R S) (c.finish.auto.area ∙ c.carry_lowest-steps.auto.area ∙ c.requires.area_long) c.finish.ensures.kept c.finish.ensures.zeros;
    }
