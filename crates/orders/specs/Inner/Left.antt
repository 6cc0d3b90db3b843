-- What carrying out an order leaves. No public contract cites this.
use Rattle.std.specs.Prelude.{ℕ, suc, ◌≡◌, ◌≤◌, List, drop, Result, Ok, Err}
use Rattle.theory.specs.Line.{Run}
use Rattle.theory.specs.Order.{Outcome, carried_out, refused, carry}
use Rattle.theory.specs.Inner.Flow.{Inv}
use Rattle.machine.specs.Inner.Related.{Rel}
use Rattle.theory.specs.Replay.{State}
use Rattle.orders.specs.declared.NotAllowed.{NotAllowed}

-- an order of n choices carried out: all of them, and the area stands for the state that they come to; or those before
-- the one that is refused, whose place in the order is the answer
unfoldable pub Left : Run → List ℕ → ℕ → Outcome → Result ℕ NotAllowed → Type 0
Left R a n (carried_out s) (Ok r) = (r ≡ n) × Rel R a s × Inv R s
Left R a n (carried_out s) (Err e) = ⊥
Left R a n (refused i) (Ok r) = ⊥
Left R a n (refused i) (Err e) = (e.place ≡ i) × (1 ≤ e.place) × (e.place ≤ n)

module _ (R : Run) where
  -- what is still to do of an order, i of its choices done: from the state that the area stands for it comes to w
  pub record Live (a : List ℕ) (i : ℕ) (ns : List ℕ) (w : Outcome) : Type 0 where
    pub state : State
    pub rel : Rel R a state
    pub inv : Inv R state
    pub rest : carry R state (suc i) (drop i ns) ≡ w
