-- Each way out of `recover`: the answers, and what takes the place of the table, by the definitions.
use Prim.Native.Nat.{ℕ, ◌+◌}
use mathlib.Core.Path.{◌≡◌, refl, sym, ◌∙◌}
use mathlib.Core.Bool.{true}
use mathlib.Core.List.{List, [], ◌++◌}
use lib.ListN.{length, drop}
use borrow.Author.Tests.{lt-ltb, le-ltb}
use Rattle.words.specs.Area.{area_words}
use Rattle.words.proofs.Cases.{by_lt}
use Rattle.table.specs.Held.{held}
use Rattle.theory.specs.Line.{Run, LossFree}
use Rattle.theory.specs.Order.{run, lowest_order}
use Rattle.theory.specs.Answers.{kept_ones, exact_steps}
use Rattle.theory.specs.Inner.Laws.{Laws}
use Rattle.theory.proofs.Orders.{complete_iff}
use Rattle.theory.proofs.Lowest.{lowest_order_lem}
use Rattle.orders.specs.Answer.{answer_of}
use Rattle.steps.specs.Inner.Steps.{listed_events}
use Rattle.steps.proofs.Counting.{lowest_steps}
use Rattle.recovery_line.specs.declared.Line.{Line}
use Rattle.refusal.specs.declared.Refusal.{Refusal}
use Rattle.refusal.specs.Refusals.{number_of_refusal}
use Rattle.refusal.specs.Inner.Checks.{at_no_place}
use Rattle.refusal.proofs.Refusals.{no_number_0}
use Rattle.std.specs.Prelude.{Err}
use Rattle.preparing.specs.Faults.{run_of, failure_fault_of}
use Rattle.recovery.specs.Answers.{replay_answer}
use Rattle.preparing.specs.Inner.Prepared.{failure_fault_in, Tabulated}
use Rattle.recovery.specs.Inner.Recovering.{Recovering}
use Rattle.recovery.specs.Recover.{RecoverAnswer, recover_answered, Recovers}
use Rattle.preparing.proofs.Preparing.{step_within, failure_first}
use Rattle.recovery.proofs.Replaying.{L, refuses, steps_counted, completed}
use Rattle.messages.proofs.Listing.{refuses_messages, lists}
use Rattle.restart.proofs.Restarting.{Ready, refuses_restart, answers_restart}
use Rattle.recovery.proofs.Taking.{not_refused}

-- The lowest order from a line that loses no message, not carried out: it is complete, and it has as many steps as
-- there are listed events and kept messages.
pub lowest_counted : (R : Run) → Laws R → LossFree R → (listed kept : ℕ) → listed ≡ listed_events R → kept ≡ length (kept_ones R)
    → record { number = 0; place = 0; steps = listed + kept; complete = true } ≡ answer_of R (run R (lowest_order R)) (length (lowest_order R))
unfolding answer_of
lowest_counted R L f listed kept l k =
    let (s, c, d) = lowest_order_lem R L in
    rw (c, (complete_iff R s).1 d, lowest_steps R L f listed kept l k)

module _ (a : List ℕ) (step set : ℕ) where
  -- a table is too short as a table exactly if it is as a run area
  own_room : failure_fault_of a step set ≡ failure_fault_in a (length a) step set
  unfolding failure_fault_of
  own_room = by_lt (length a) 16384 (λ h. rw (lt-ltb (length a) 16384 h)) (λ h. rw (le-ltb (length a) 16384 h))

  -- a refusal changes nothing
  pub refuses_recovery : (e : Refusal) → number_of_refusal e ≡ failure_fault_of a step set → Recovers a step set (recover_answered (Err (at_no_place e))) a
  refuses_recovery e f =
      let l : Line = (recover_answered (Err (at_no_place e))).restarted.line in
      let g = failure_first a (length a) step set l (number_of_refusal e) (f ∙ own_room) (no_number_0 e) in
      let y = refuses_messages a a step set l (number_of_refusal e) _ g (no_number_0 e) refl in
      record {
        restart = (refuses_restart a step set (number_of_refusal e) _ f (no_number_0 e) refl).0;
        replay = (refuses a a step set l (lowest_order (run_of a step l)) (number_of_refusal e) g (no_number_0 e)).answer;
        messages = y.0;
        words = y.1.0;
        means = λ h. absurd (no_number_0 e h);
        lists = λ h. absurd (no_number_0 e h);
      }

  pub recovers : (room : ℕ) (full : List ℕ) (r : RecoverAnswer) (w : List ℕ) → 0 ≡ failure_fault_of a step set → Tabulated a room step set full
      → Recovering (held a) step set r w → Recovers a step set r (w ++ drop area_words a)
  unfolding replay_answer
  recovers room full r w f F D =
      let l : Line = r.restarted.line in
      let G : Ready a step set r.restarted = record { holds = F.opened.holds; fit = F.fit; answer = D.restarted; means = D.restarts } in
      let ok = not_refused a step set r.restarted G (length a) F.opened.long in
      let m = lists a a step set l (L a a step set l [] F.opened.holds (step_within a room step set full F)) r.counted w (sym ok) D.counted D.words D.few in
      let R : Run = run_of a step l in
      let cl = step_within a room step set full F in
      let c = completed a a step set l (lowest_order R) F.opened.holds cl r.replayed D.replayed in
      let (e, b) = steps_counted a a step set l (lowest_order R) F.opened.holds cl (run R (lowest_order R)) refl in
      let exact : r.replayed.steps ≡ exact_steps R = (rw (← D.replayed) at e) (c ok).0 (c ok).1 D.restarts.greatest.loss_free in
      record {
        restart = (answers_restart a step set r.restarted f D.restarted D.restarts).0;
        replay = D.replayed ∙ rw ok;
        messages = m.0;
        words = m.1.0;
        means = λ _. record { restarts = D.restarts; taken = ok; completed = c; exact = exact; at_most = rw D.replayed b; few = D.few };
        lists = m.1.1.1;
      }
