-- Demand 3: "Take any accepted trace, any step for the failure, any set of zones it takes together, any line that puts
-- each failed zone at a save it has made, and any order of choices from there, each allowed where it comes, that ends
-- only when no choice is allowed. The delivery record the replay leaves equals that of the run without failure exactly
-- when the line loses no message. Equal is the same numbers and values in the same order on every channel. .. an order
-- with one not allowed is refused and has no record."
-- Of what `replay` answers and leaves (`replay_answer`, `replay_area`), for every table area, run area, failure, line
-- and order; of `lowest` with its own order. What is accepted is Demand1's `replay_accepts`.
use Prim.Native.Nat.{ℕ, ◌≤◌}
use mathlib.Core.Path.{◌≡◌, sym, ◌∙◌}
use mathlib.Core.Logic.{◌↔◌, ◌≢◌}
use mathlib.Core.Bool.{true}
use mathlib.Core.List.{List, [], ◌∷◌}
use lib.ListN.{length, take, replicate}
use Rattle.words.specs.Area.{area_words, words_from}
use Rattle.table.specs.Held.{held, holds_trace}
use Rattle.theory.specs.Line.{Run, lost, orphan, orphan_phase, LossFree}
use Rattle.theory.specs.Replay.{State, ready}
use Rattle.theory.specs.Record.{delivered, faultless}
use Rattle.theory.specs.Order.{carried_out, run}
use Rattle.theory.specs.Inner.Orders.{Allowed}
use Rattle.theory.specs.Inner.Record.{sent_again}
use Rattle.theory.proofs.Answers.{ready_iff}
use Rattle.theory.proofs.Loss.{inv}
use Rattle.theory.proofs.Orders.{run_reaches, order_progress, order_done, order_differs}
use Rattle.recovery_line.specs.declared.Line.{Line}
use Rattle.orders.specs.Record.{faultless_at, list_in}
use Rattle.orders.specs.Inner.Alike.{Alike}
use Rattle.orders.proofs.Told.{faultless_told, alike_self}
use Rattle.protocol.proofs.Passes.{held_few, held_64}
use Rattle.preparing.specs.Faults.{run_of}
use Rattle.recovery.specs.Answers.{replay_answer, replay_area, Equal, SameLists}
use Rattle.demands.proofs.Replays.{promised, Carried, accepted, carried_laws, two_told, two_recorded}
use Rattle.demands.proofs.Fits.{eleven_area}

module _ (a area : List ℕ) (step set : ℕ) (l : Line) (order : List ℕ) where
  abbrev R : Run
  R = run_of a step l

  abbrev after : List ℕ
  after = replay_area a area step set l order

  -- "Equal is the same numbers and values in the same order on every channel.": the lists read from the run area after
  -- a complete order are those of the run without failure exactly if the line loses no message
  pub demand_3_lists : SameLists a step l (replay_answer a area step set l order) after
  demand_3_lists = (promised a area step set l order).same_lists

  -- the same by the words of the area (the contracts of `replay` and `lowest` have both clauses)
  pub demand_3_words : Equal a step l (replay_answer a area step set l order) after
  demand_3_words = (promised a area step set l order).equal

  -- "In the run without failure these are its receives in the whole trace, those after the cut too.": so `Equal`'s
  -- words are words of these lists
  pub faultless_lists : holds_trace a ≡ true → (p q : ℕ) → list_in (held a) (words_from (faultless_at (held a)) 0 area_words) p q ≡ faultless R p q
  faultless_lists h = faultless_told R (held_few a h) (held_64 a h)

  -- "an order with one not allowed is refused and has no record": the area is zeros
  pub no_record : (replay_answer a area step set l order).number ≡ 11 → take area_words after ≡ replicate area_words 0
  no_record = eleven_area a area step set l order

  module _ (ok : (replay_answer a area step set l order).number ≡ 0) where
    -- "An accepted replay leaves in the run area the record of the order it carried out, complete or not, from a line
    -- with loss or without."
    pub leaves_its_record : (s : State) × Carried a area step set l order s
    leaves_its_record = accepted a area step set l order ok

    abbrev s : State
    s = leaves_its_record.0

    abbrev C : Carried a area step set l order s
    C = leaves_its_record.1

    -- "Phase r is ready when every orphan of phase r or less has been sent again." (Which choices are allowed: Gates.)
    pub ready_when : (r : ℕ) → (ready R s r ≡ true) ↔ ((p q k : ℕ) → orphan R p q k ≡ true → orphan_phase R p q k ≤ r → sent_again R s p q k ≡ true)
    ready_when =
        let L = carried_laws a area step set l order s C in
        ready_iff R L s (inv R L s (length order) (run_reaches R order s C.carries)).cursors

    -- "From a line without loss, an order carried out so far always has an allowed choice until each zone has done all
    -- its events"
    pub goes_on : LossFree R → (z e : ℕ) (es : List ℕ) → s.todo z ≡ e ∷ es → (c : ℕ) × Allowed R s c
    goes_on = order_progress R (carried_laws a area step set l order s C) order s C.carries

    -- "so a complete one does them all"
    pub does_every_event : (replay_answer a area step set l order).complete ≡ true → LossFree R → (z : ℕ) → s.todo z ≡ []
    does_every_event c f = order_done R (carried_laws a area step set l order s C) order s C.carries f (C.complete_is.0 c)

    -- from a line that loses a message the list of its channel differs, whether the order is complete or not
    pub lost_differs : (p q k : ℕ) → lost R p q k ≡ true → list_in (held a) after p q ≢ faultless R p q
    lost_differs p q k h e = order_differs R (carried_laws a area step set l order s C) order s C.carries p q k h (sym (C.lists p q) ∙ e)

-- "Two records are equal when they have the same list for every channel.": two accepted calls with one table area,
-- whatever their run areas, failures, lines and orders, leave the same words exactly if they leave the same lists
pub records_told : (a area other : List ℕ) (step other_step set other_set : ℕ) (l m : Line) (order other_order : List ℕ)
    → (replay_answer a area step set l order).number ≡ 0 → (replay_answer a other other_step other_set m other_order).number ≡ 0
    → let one = replay_area a area step set l order in let two = replay_area a other other_step other_set m other_order in
    (take area_words one ≡ take area_words two) ↔ ((p q : ℕ) → list_in (held a) one p q ≡ list_in (held a) two p q)
records_told a = two_told a a (alike_self (held a))

-- "Records and equality of records use the wide value" (MANUAL 5.7): of two table areas whose traces receive alike, two
-- accepted calls leave the same words exactly if the delivery records of the states that their orders come to are the
-- same, numbers and values (`entry`: the `val` of each send, whole). Where a message that both records have has another
-- value, if only in its high half, the words differ; a record without the high half would leave the same.
pub values_told : (a b : List ℕ) → Alike (held a) (held b) → (area other : List ℕ) (step other_step set other_set : ℕ) (l m : Line) (order other_order : List ℕ)
    → (replay_answer a area step set l order).number ≡ 0 → (replay_answer b other other_step other_set m other_order).number ≡ 0
    → (s u : State) → run (run_of a step l) order ≡ carried_out s → run (run_of b other_step m) other_order ≡ carried_out u
    → let one = replay_area a area step set l order in let two = replay_area b other other_step other_set m other_order in
    (take area_words one ≡ take area_words two) ↔ ((p q : ℕ) → delivered (run_of a step l) s p q ≡ delivered (run_of b other_step m) u p q)
values_told = two_recorded
