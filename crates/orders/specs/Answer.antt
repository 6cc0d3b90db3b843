-- What a replay answers and leaves, by what the theory's machine does with the order.
use Rattle.std.specs.Prelude.{ℕ, Bool, false, List, replicate, Result, Ok, Err}
use Rattle.words.specs.Area.{area_words, words_from}
use Rattle.theory.specs.Line.{Run}
use Rattle.theory.specs.Order.{Outcome, carried_out, refused, complete}
use Rattle.theory.specs.Refusals.{order_fault}
use Rattle.orders.specs.Record.{record_at}
use Rattle.orders.specs.declared.NotAllowed.{NotAllowed}
use Rattle.orders.specs.declared.Replayed.{Replayed}

-- the answer to an order in four numbers, refused or not
pub record Answered : Type 0 where
  pub number : ℕ
  pub place : ℕ
  pub steps : ℕ
  pub complete : Bool

-- of what the code answers: 0 and no place, or 11 and the place of the first choice that is not allowed; "In a refused
-- answer every other number is 0"
abbrev pub answered : Result Replayed NotAllowed → Answered
answered (Ok r) = record { number = 0; place = 0; steps = r.steps; complete = r.complete }
answered (Err e) = record { number = 11; place = e.place; steps = 0; complete = false }

module _ (R : Run) where
  -- 0, how many choices were carried out, and whether none is left; or 11 and the place of the first choice that is not
  -- allowed, from 1
  unfoldable pub answer_of : Outcome → ℕ → Answered
  answer_of (carried_out s) n = record { number = 0; place = 0; steps = n; complete = complete R s }
  answer_of (refused i) n = record { number = order_fault (refused i); place = i; steps = 0; complete = false }

  -- the run area: the delivery record, or zeros
  unfoldable pub words_of : Outcome → List ℕ
  words_of (carried_out s) = words_from (record_at R s) 0 area_words
  words_of (refused i) = replicate area_words 0
