-- What is accepted and what a refusal leaves, for Demand1.
use Prim.Native.Nat.{ℕ, suc, ◌<◌}
use mathlib.Core.Path.{◌≡◌, refl, sym, ap, subst, ◌∙◌}
use mathlib.Core.Logic.{◌↔◌}
use mathlib.Core.List.{List}
use mathlib.Core.Option.{none, none-ne-some}
use lib.ListN.{length, get_or, take, drop, replicate}
use lib.Seq.{drop_at}
use borrow.Author.Tests.{ne_eqb}
use Rattle.words.specs.Area.{area_words, words_from}
use Rattle.words.proofs.Area.{length_words}
use Rattle.words.proofs.Cases.{by_eq}
use Rattle.table.specs.Held.{held}
use Rattle.theory.specs.Epochs.{rule_of}
use Rattle.theory.specs.Line.{Run}
use Rattle.theory.specs.Replay.{State}
use Rattle.theory.specs.Order.{Outcome, carried_out, refused, choose, run, lowest_order}
use Rattle.theory.specs.Inner.Orders.{Allowed}
use Rattle.theory.specs.Inner.Laws.{Laws}
use Rattle.theory.specs.Inner.Refusals.{FitLine}
use Rattle.theory.proofs.Epochs.{laws}
use Rattle.theory.proofs.Orders.{run_refused, run_each}
use Rattle.theory.proofs.Lowest.{lowest_order_lem}
use Rattle.protocol.proofs.Passes.{held_valid}
use Rattle.recovery_line.specs.declared.Line.{Line}
use Rattle.recovery_line.specs.Given.{line_in}
use Rattle.listing.specs.Listing.{list_word}
use Rattle.orders.specs.Answer.{Answered}
use Rattle.preparing.specs.Faults.{run_of, failure_fault_of, line_fault_of}
use Rattle.restart.specs.Restart.{restart_refusal, restart_answer}
use Rattle.messages.specs.Messages.{messages_refusal, messages_answer, messages_area}
use Rattle.recovery.specs.Answers.{replay_answer, replay_area}
use Rattle.demands.proofs.Numbers.{left_iff, Areas, restart_number, messages_number, line_accepts}
use Rattle.demands.proofs.Replays.{Ends, done, stopped, unfit, ends, zero_done, eleven_stopped, answer_stopped, front_stopped, area_unfit}

restart_unfit : (a : List ℕ) (step set : ℕ) → (failure_fault_of a step set ≡ 0 → ⊥) → restart_answer a step set ≡ restart_refusal (failure_fault_of a step set)
unfolding restart_answer
restart_unfit a step set z = rw (ne_eqb (failure_fault_of a step set) 0 z)

pub restart_refused_by : (a : List ℕ) (step set : ℕ) → ((restart_answer a step set).number ≡ 0 → ⊥) → restart_answer a step set ≡ restart_refusal (restart_answer a step set).number
restart_refused_by a step set n = restart_unfit a step set (λ z. n (restart_number a step set ∙ z)) ∙ ap restart_refusal (sym (restart_number a step set))

module _ (a area : List ℕ) (step set : ℕ) (l : Line) where
  abbrev fault : ℕ
  fault = line_fault_of a (length area) step set l

  unfit_line : ((messages_answer a area step set l).number ≡ 0 → ⊥) → fault ≡ 0 → ⊥
  unfit_line n z = n (messages_number a area step set l ∙ z)

  refusal_is : ((messages_answer a area step set l).number ≡ 0 → ⊥) → messages_answer a area step set l ≡ messages_refusal fault
  unfolding messages_answer
  refusal_is n = rw (ne_eqb fault 0 (unfit_line n))

  pub messages_refused_by : ((messages_answer a area step set l).number ≡ 0 → ⊥) → messages_answer a area step set l ≡ messages_refusal (messages_answer a area step set l).number
  messages_refused_by n = refusal_is n ∙ ap messages_refusal (sym (messages_number a area step set l))

  pub messages_kept : ((messages_answer a area step set l).number ≡ 0 → ⊥) → messages_area a area step set l ≡ area
  unfolding messages_area
  messages_kept n = rw (ne_eqb fault 0 (unfit_line n))

  pub messages_past : drop area_words (messages_area a area step set l) ≡ drop area_words area
  unfolding messages_area
  messages_past = by_eq fault 0
      (λ z. let g = list_word (run_of a step l) in rw z (drop_at (words_from g 0 16384) (drop 16384 area) 16384 (length_words g 0 16384)))
      (λ z. rw (ne_eqb fault 0 z))

  abbrev Fit : Type 0
  Fit = Areas a (length area) × FitLine (held a) step set l.count (line_in l)

  module _ (order : List ℕ) where
    abbrev R : Run
    R = run_of a step l

    abbrev answer : Answered
    answer = replay_answer a area step set l order

    fit_iff : (fault ≡ 0) ↔ Fit
    fit_iff = line_accepts a (length area) step set l

    pub replay_fit : (answer.number ≡ 0)
        ↔ (Areas a (length area)
        × (FitLine (held a) step set l.count (line_in l)
        × ((m : ℕ) → m < length order → (s : State) × (run R (take m order) ≡ carried_out s) × Allowed R s (get_or order m 0))))
    replay_fit =
        let z = zero_done a area step set l order in
        let e = run_each R order in (
          λ h. let x = z.0 h in let f = fit_iff.0 x.0 in (f.0, (f.1, e.0 x.1)),
          λ x. z.1 (fit_iff.1 (x.0, x.1.0), e.1 x.1.1),
        )

    pub eleven_place : answer.number ≡ 11
        → (m : ℕ) × (s : State) × (answer.place ≡ suc m) × (m < length order) × (run R (take m order) ≡ carried_out s) × (choose R s (get_or order m 0) ≡ none)
    eleven_place h =
        let (z, x) = (eleven_stopped a area step set l order).0 h in
        let r = run_refused R order x.0 x.1 in
        (r.0, r.1, ap (λ (y : Answered). y.place) (answer_stopped a area step set l order x.0 z x.1) ∙ r.2, r.3, r.4, r.5)

    pub replay_eleven : (answer.number ≡ 11)
        ↔ (Areas a (length area)
        × (FitLine (held a) step set l.count (line_in l)
        × ((m : ℕ) × (s : State) × (m < length order) × (run R (take m order) ≡ carried_out s) × (choose R s (get_or order m 0) ≡ none))))
    replay_eleven = (
      λ h. let f = fit_iff.0 ((eleven_stopped a area step set l order).0 h).0 in
          let r = eleven_place h in
          (f.0, (f.1, (r.0, r.1, r.3, r.4, r.5))),
      λ (p, (q, (m, s, k, e, c))). (eleven_stopped a area step set l order).1 (fit_iff.1 (p, q), go m s k e c (run R order) refl),
    )
      where
        go : (m : ℕ) (s : State) → m < length order → run R (take m order) ≡ carried_out s → choose R s (get_or order m 0) ≡ none → (o : Outcome) → run R order ≡ o
            → (i : ℕ) × (run R order ≡ refused i)
        go m s k e c (refused i) q = (i, q)
        go m s k e c (carried_out t) q =
            let g = (run_each R order).0 (t, q) m k in
            let same : g.0 ≡ s = cc in
            let no : choose R g.0 (get_or order m 0) ≡ none = subst (λ (u : State). choose R u (get_or order m 0) ≡ none) (sym same) c in
            absurd (none-ne-some g.2.0 (sym no ∙ g.2.1))

    pub eleven_area : answer.number ≡ 11 → take area_words (replay_area a area step set l order) ≡ replicate area_words 0
    eleven_area h = let (z, x) = (eleven_stopped a area step set l order).0 h in front_stopped a area step set l order x.0 z x.1

    pub replay_kept : (answer.number ≡ 0 → ⊥) → (answer.number ≡ 11 → ⊥) → replay_area a area step set l order ≡ area
    replay_kept n0 n11 = go (ends a area step set l order)
      where
        go : Ends a area step set l order → replay_area a area step set l order ≡ area
        go (done s z e) = absurd (n0 ((zero_done a area step set l order).1 (z, (s, e))))
        go (stopped i z e) = absurd (n11 ((eleven_stopped a area step set l order).1 (z, (i, e))))
        go (unfit z) = area_unfit a area step set l order z

  pub lowest_fit : ((replay_answer a area step set l (lowest_order (run_of a step l))).number ≡ 0)
      ↔ (Areas a (length area) × FitLine (held a) step set l.count (line_in l))
  lowest_fit =
      let order = lowest_order (run_of a step l) in
      let z = zero_done a area step set l order in
      let f = line_accepts a (length area) step set l in (
        λ h. f.0 (z.0 h).0,
        λ x.
            let L : Laws (run_of a step l) = laws (held a) (rule_of (held a)) (held_valid a ((left_iff a).1 x.0.0)) step (line_in l) x.1.failure.step_most in
            let (s, c, d) = lowest_order_lem (run_of a step l) L in
            z.1 (f.1 x, (s, c)),
      )
