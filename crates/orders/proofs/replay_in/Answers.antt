-- `orders::replay_in` meets its contract: refused, or carried out and finished.
use mathlib.Core.Path.{refl, ◌∙◌, ap}
use Rattle.std.specs.Prelude.{Ok}
use Rattle.orders.specs.declared.Replayed.{Replayed}
use Rattle.orders.specs.Answer.{answered}
use Rattle.orders.proofs.Ordering.{first_asked, stop_answer, stop_words, went_asked, went_answer, went_words}
use Rattle.orders.proofs.replay_in.Goals as goal

pub build_tree-requires : goal.build_tree-requires
build_tree-requires c =
    ((first_asked _ _ _ _ c.requires).0, (first_asked _ _ _ _ c.requires).1, refl)

pub complete-complete-requires : goal.complete-complete-requires
complete-complete-requires c =
    went_asked _ _ _ _ c.requires _ c.carry_out.auto.area _ _ _ (c.in-Ok.ensures c.requires.run c.requires.started)

pub returns-in-Ok : goal.returns-in-Ok
returns-in-Ok c =
    record {
      answer = λ R S. ap (λ (r : Replayed). answered (Ok r)) c.finish.ensures.answer ∙ went_answer R _ _ _ _ S _ _ _ _ _ (c.in-Ok.ensures R S) c.complete-complete.ensures;
      words = λ R S. went_words R _ _ _ _ S _ _ _ _ _ (c.in-Ok.ensures R S) (c.finish.auto.area ∙ c.carry_out.auto.area ∙ c.requires.area_long) c.finish.ensures.kept c.finish.ensures.zeros;
    }

pub returns-in-Err : goal.returns-in-Err
returns-in-Err c =
    record {
      answer = λ R S. stop_answer R _ _ _ _ S _ _ _ _ (c.in-Err.ensures R S);
      words = λ R S. stop_words R _ _ _ _ S _ _ _ _ _ (c.in-Err.ensures R S) (c.carry_out.auto.area ∙ c.requires.area_long) c.zero.ensures;
    }
