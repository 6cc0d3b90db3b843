-- The exact number of steps (MANUAL 5.8): the work at the start is the listed events and the kept messages, no order
-- does more than it, and a complete order from a line without loss leaves none of it. From Orders and Steps.
use mathlib.Core.Path.{◌≡◌, refl, sym, ◌∙◌}
use mathlib.Core.Bool.{true}
use mathlib.Core.List.{List, [], ◌∷◌}
use mathlib.Core.Option.{some, none-ne-some}
use Prim.Native.Nat.{ℕ, ◌≤◌}
use native.Mathlib.Omega.{arith}
use lib.ListN.{length, length-map}
use Rattle.theory.specs.Lists.{sum, iv, keep, no_one}
use Rattle.theory.specs.Events.{size, sent}
use Rattle.theory.specs.Line.{Run, kept, LossFree}
use Rattle.theory.specs.Replay.{State, hand, kept_on, start, ready, step, hand_step, handing}
use Rattle.theory.specs.Order.{carried_out, run, steps, Complete}
use Rattle.theory.specs.Answers.{messages, kept_ones, exact_steps}
use Rattle.theory.specs.Inner.Laws.{Laws}
use Rattle.theory.proofs.Base.{sum_cong, sum_zero, all_true}
use Rattle.theory.proofs.Loss.{inv}
use Rattle.theory.proofs.Steps.{work}
use Rattle.theory.proofs.Orders.{run_reaches, stuck, order_done, order_work}
use Rattle.theory.proofs.Answers.{gather_length}

module _ (R : Run) where
  kept_count : length (kept_ones R) ≡ sum R.trace.procs (λ p. sum R.trace.procs (λ q. length (kept_on R p q)))
  unfolding messages kept_on
  kept_count =
      let N = R.trace.procs in
      gather_length _ N
      ∙ sum_cong N _ _ (λ p h. gather_length _ N ∙ sum_cong N _ _ (λ q k. length-map (keep (kept R p q) (iv 0 (sent R.trace p q (size R.trace)))) _))

  start_work : work R (start R) ≡ exact_steps R
  unfolding work exact_steps
  start_work = omega (arith, kept_count)

  module _ (L : Laws R) (order : List ℕ) (s : State) (h : run R order ≡ carried_out s) where
    pub steps_within : steps order ≤ exact_steps R
    steps_within = omega (arith, order_work R L order s h, start_work)

  module _ (L : Laws R) (order : List ℕ) (s : State) (h : run R order ≡ carried_out s) (f : LossFree R) (c : Complete R s) where
    done : (z : ℕ) → s.todo z ≡ []
    done = order_done R L order s h f c

    -- no orphan is left to be sent again, so that every phase is ready
    all_ready : (r : ℕ) → ready R s r ≡ true
    unfolding ready no_one
    all_ready r = all_true R.trace.procs _ (λ z l. rw (done z))

    -- so that a kept message that is left could be handed over
    none_left : (p q : ℕ) → s.left p q ≡ []
    none_left p q = go (s.left p q) refl
      where
        allowed : (m : ℕ) (ms : List ℕ) → s.left p q ≡ m ∷ ms → step R s (hand p q) ≡ some (handing R s p q m ms)
        allowed m ms e = unfold step in unfold hand_step in rw (e, all_ready (R.carries p q m))

        go : (ms : List ℕ) → s.left p q ≡ ms → s.left p q ≡ []
        go [] e = e
        go (m ∷ ms) e =
            absurd (none-ne-some (handing R s p q m ms) (sym (stuck R L s (inv R L s (length order) (run_reaches R order s h)) c (hand p q)) ∙ allowed m ms e))

    no_work : work R s ≡ 0
    unfolding work
    no_work =
        let N = R.trace.procs in
        omega (
          arith,
          sum_zero N (λ z. length (s.todo z)) (λ z l. rw (done z)),
          sum_zero N (λ p. sum N (λ q. length (s.left p q))) (λ p l. sum_zero N (λ q. length (s.left p q)) (λ q k. rw (none_left p q))),
        )

    pub exact_steps_lem : steps order ≡ exact_steps R
    exact_steps_lem = omega (arith, order_work R L order s h, no_work, start_work)
