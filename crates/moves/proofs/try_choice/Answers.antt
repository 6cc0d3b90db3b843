-- `moves::try_choice` meets its contract: a case for each kind of choice.
use mathlib.Core.Path.{refl, sym, ◌∙◌}
use mathlib.Core.Bool.{true, false}
use Rattle.words.proofs.Cases.{clash}
use Rattle.machine.proofs.Steps.{allowed_process, allowed_hand, allowed_none}
use Rattle.moves.proofs.Steps.{apply_process, apply_hand, choice_told, choice_refused, choice_done, treed_put}
use Rattle.moves.proofs.try_choice.Goals as goal

pub returns-then-c-lt-HANDS : goal.returns-then-c-lt-HANDS
returns-then-c-lt-HANDS c =
    record {
      allowed = allowed_process _ _ _ _ c.if-c-lt-HANDS.true _ (c.is_some.ensures ∙ choice_told _ _ _ _ _ _ c.try_process.result c.try_process.ensures.refused c.try_process.ensures.done);
      refused = λ y. choice_refused _ _ _ _ _ c.try_process.result c.try_process.ensures.refused (sym c.is_some.ensures ∙ y);
      done = λ y. apply_process _ _ _ _ _ c.if-c-lt-HANDS.true (choice_done _ _ _ c.try_process.result c.try_process.ensures.done (sym c.is_some.ensures ∙ y));
      leaves = c.try_process.ensures.leaves;
    }

pub returns-then-hand_ok : goal.returns-then-hand_ok
returns-then-hand_ok c =
    record {
      allowed = allowed_hand _ _ _ _ c.if-c-lt-HANDS.false c.if-c-lt-CHOICES.true _ (sym c.if-hand_ok.true ∙ c.hand_ok.ensures);
      refused = λ y. clash {b = true} refl y;
      done = λ y. apply_hand _ _ _ _ _ c.if-c-lt-HANDS.false c.put_in.ensures;
      leaves = treed_put _ _ _ _ c.requires.treed _ _ c.put_in.ensures;
    }

pub returns-else-hand_ok : goal.returns-else-hand_ok
returns-else-hand_ok c =
    record {
      allowed = allowed_hand _ _ _ _ c.if-c-lt-HANDS.false c.if-c-lt-CHOICES.true _ (sym c.if-hand_ok.false ∙ c.hand_ok.ensures);
      refused = λ y. (refl, refl);
      done = λ y. clash {b = false} y refl;
      leaves = c.requires.treed;
    }

pub returns-else-c-lt-CHOICES : goal.returns-else-c-lt-CHOICES
returns-else-c-lt-CHOICES c =
    record {
      allowed = allowed_none _ _ _ _ c.if-c-lt-CHOICES.false;
      refused = λ y. (refl, refl);
      done = λ y. clash {b = false} y refl;
      leaves = c.requires.treed;
    }
