-- Each way out of `replay` and `lowest`: answer and run area by the definitions, demand 3 for a complete order, and how
-- many steps it has.
use Prim.Native.Nat.{ℕ, ◌≤◌}
use mathlib.Core.Path.{◌≡◌, refl, sym, ap, ◌∙◌}
use mathlib.Core.Bool.{true}
use mathlib.Core.List.{List, ◌++◌}
use native.Mathlib.Omega.{arith}
use lib.ListN.{length, get_or, take, drop}
use lib.Seq.{take_at, get_or-take}
use borrow.Author.Tests.{ne_eqb}
use Rattle.words.specs.Area.{area_words, words_from}
use Rattle.words.proofs.Area.{length_words, words_at_lem}
use Rattle.table.specs.Held.{held, holds_trace}
use Rattle.theory.specs.Events.{size}
use Rattle.theory.specs.Epochs.{rule_of}
use Rattle.theory.specs.Inner.Laws.{Laws}
use Rattle.theory.specs.Line.{Run}
use Rattle.theory.specs.Replay.{State}
use Rattle.theory.specs.Record.{delivered}
use Rattle.theory.specs.Order.{Outcome, carried_out, refused, run, lowest_order}
use Rattle.theory.proofs.Epochs.{laws}
use Rattle.theory.proofs.Loss.{inv}
use Rattle.theory.proofs.Orders.{run_reaches, complete_iff, order_iff, order_bound}
use Rattle.theory.proofs.Exact.{steps_within, exact_steps_lem}
use Rattle.theory.proofs.Lowest.{lowest_order_lem}
use Rattle.protocol.proofs.Passes.{held_valid, held_few, held_64}
use Rattle.recovery_line.specs.declared.Line.{Line}
use Rattle.recovery_line.specs.Given.{line_in}
use Rattle.orders.specs.Record.{record_at, list_in}
use Rattle.orders.proofs.Records.{complete_record}
use Rattle.orders.proofs.Told.{told}
use Rattle.orders.specs.Answer.{Answered, answer_of, words_of}
use Rattle.preparing.specs.Faults.{run_of, line_fault_of}
use Rattle.recovery.specs.Answers.{refusal, replay_answer, replay_area, Equal, Recorded, SameLists, CarriesOut, StepsExact, StepsAtMost, Completed, Replays}

module _ (a area : List ℕ) (step set : ℕ) (l : Line) (order : List ℕ) where
  -- a refusal changes nothing
  pub refuses : (n : ℕ) → n ≡ line_fault_of a (length area) step set l → (n ≡ 0 → ⊥) → Replays a area step set l order (refusal n) area
  unfolding replay_answer replay_area
  refuses n f z =
      record {
        answer = rw (← f, ne_eqb n 0 z);
        words = rw (← f, ne_eqb n 0 z);
        equal = λ h c. absurd (z h);
        exact = λ h c k. absurd (z h);
        at_most = (omega arith, omega arith);
        carried = λ h. absurd (z h);
        recorded = λ h. absurd (z h);
        same_lists = λ h c. absurd (z h);
      }

  pub not_completed : (n : ℕ) (r : Answered) → n ≡ line_fault_of a (length area) step set l → (n ≡ 0 → ⊥) → Completed a (length area) step set l r
  not_completed n r f z h = absurd (z (f ∙ h))

  module _ (holds : holds_trace a ≡ true) (cl : step ≤ size (held a)) where
    abbrev R : Run
    R = run_of a step l

    pub L : Laws R
    L = laws (held a) (rule_of (held a)) (held_valid a holds) step (line_in l) cl

    -- the words of the record, in the area
    front : (s : State) (w : List ℕ) → w ≡ words_from (record_at R s) 0 area_words → take area_words (w ++ drop area_words area) ≡ words_from (record_at R s) 0 area_words
    front s w q = take_at w (drop 16384 area) 16384 (ap length q ∙ length_words (record_at R s) 0 16384) ∙ q

    equal : (o : Outcome) → run R order ≡ o → (w : List ℕ) → w ≡ words_of R o → Equal a step l (answer_of R o (length order)) (w ++ drop area_words area)
    unfolding answer_of words_of
    equal (carried_out s) e w q n c =
        let d = complete_record R L (held_few a holds) order s e c in
        rw (front s w q) d
    equal (refused i) e w q n c = absurd (let y : ⊥ = omega arith in y)

    -- the lists of the record, from the area
    lists_told : (s : State) → run R order ≡ carried_out s → (w : List ℕ) → w ≡ words_from (record_at R s) 0 area_words
        → (p q : ℕ) → list_in (held a) (w ++ drop area_words area) p q ≡ delivered R s p q
    lists_told s e w q =
        told R (held_few a holds) (held_64 a holds) L s (inv R L s (length order) (run_reaches R order s e)) (w ++ drop 16384 area)
        (λ k h. sym (get_or-take 16384 (w ++ drop 16384 area) k 0 (omega arith)) ∙ ap (λ (x : List ℕ). get_or x k 0) (front s w q) ∙ words_at_lem (record_at R s) 16384 k (omega arith))

    recorded : (o : Outcome) → run R order ≡ o → (w : List ℕ) → w ≡ words_of R o → Recorded a step l order (answer_of R o (length order)).number (w ++ drop area_words area)
    unfolding answer_of words_of
    recorded (carried_out s) e w q n = (s, e, lists_told s e w q)
    recorded (refused i) e w q n = absurd (let y : ⊥ = omega arith in y)

    same_lists : (o : Outcome) → run R order ≡ o → (w : List ℕ) → w ≡ words_of R o → SameLists a step l (answer_of R o (length order)) (w ++ drop area_words area)
    unfolding answer_of words_of
    same_lists (carried_out s) e w q n c =
        let d = order_iff R L order s e ((complete_iff R s).0 c) in
        let t = lists_told s e w q in
        (λ h. d.0 (λ p q. sym (t p q) ∙ h p q), λ f p q. t p q ∙ d.1 f p q)
    same_lists (refused i) e w q n c = absurd (let y : ⊥ = omega arith in y)

    -- exactly so many steps where the order is complete and the line loses nothing, and always at most so many
    pub steps_counted : (o : Outcome) → run R order ≡ o → let r = answer_of R o (length order) in StepsExact a step l r × StepsAtMost a step l r
    unfolding answer_of
    steps_counted (carried_out s) e =
        (λ n c f. exact_steps_lem R L order s e f ((complete_iff R s).0 c), (order_bound R L order s e, steps_within R L order s e))
    steps_counted (refused i) e = (λ n c f. absurd (let y : ⊥ = omega arith in y), (omega arith, omega arith))

    carries_out : (o : Outcome) → run R order ≡ o → CarriesOut a step l order (answer_of R o (length order))
    unfolding answer_of
    carries_out (carried_out s) e n = (s, e, refl, complete_iff R s)
    carries_out (refused i) e n = absurd (let y : ⊥ = omega arith in y)

    -- the lowest order is carried out, and no choice is left
    pub completed : (r : Answered) → r ≡ answer_of R (run R (lowest_order R)) (length (lowest_order R)) → Completed a (length area) step set l r
    unfolding answer_of
    completed r e h =
        let (s, c, d) = lowest_order_lem R L in
        rw (e, c) (refl, (complete_iff R s).1 d, refl)

    pub carried : (r : Answered) (w : List ℕ) → 0 ≡ line_fault_of a (length area) step set l → r ≡ answer_of R (run R order) (length order)
        → w ≡ words_of R (run R order) → Replays a area step set l order r (w ++ drop area_words area)
    unfolding replay_answer replay_area
    carried r w f e q =
        let steps = steps_counted (run R order) refl in
        rw e (record {
          answer = rw (← f);
          words = ap (λ (x : List ℕ). x ++ drop 16384 area) q ∙ rw (← f);
          equal = equal (run R order) refl w q;
          exact = steps.0;
          at_most = steps.1;
          carried = carries_out (run R order) refl;
          recorded = recorded (run R order) refl w q;
          same_lists = same_lists (run R order) refl w q;
        })
