-- What a replay answers and leaves, by its definitions: the promises of its contract, and what the order comes to.
use Prim.Native.Nat.{ℕ, suc, ◌<◌}
use mathlib.Core.Path.{◌≡◌, refl, sym, ap, subst, ◌∙◌}
use mathlib.Core.Logic.{◌↔◌}
use mathlib.Core.Bool.{true, false}
use mathlib.Core.List.{List, ◌++◌}
use mathlib.Core.Option.{some}
use native.Mathlib.Omega.{arith}
use lib.ListN.{length, get_or, take, drop, replicate, length-replicate}
use lib.Seq.{take_at, drop_at}
use borrow.Author.Tests.{ne_eqb}
use Rattle.words.specs.Area.{area_words, words_from}
use Rattle.words.proofs.Area.{length_words}
use Rattle.words.proofs.Cases.{by_eq}
use Rattle.table.specs.Held.{held}
use Rattle.theory.specs.Line.{Run}
use Rattle.theory.specs.Replay.{State}
use Rattle.theory.specs.Record.{delivered}
use Rattle.theory.specs.Order.{Outcome, carried_out, refused, choose, run, steps, Complete, complete}
use Rattle.theory.specs.Epochs.{rule_of}
use Rattle.theory.specs.Inner.Laws.{Laws}
use Rattle.theory.specs.Inner.Refusals.{FitLine}
use Rattle.theory.proofs.Epochs.{laws}
use Rattle.theory.proofs.Orders.{run_steps, complete_iff}
use Rattle.protocol.proofs.Passes.{held_valid, held_few, held_64}
use Rattle.recovery_line.specs.declared.Line.{Line}
use Rattle.recovery_line.specs.Given.{line_in}
use Rattle.orders.specs.Record.{record_at, list_in}
use Rattle.orders.specs.Answer.{Answered, answer_of, words_of}
use Rattle.orders.specs.Inner.Alike.{Alike}
use Rattle.orders.proofs.Told.{record_told}
use Rattle.preparing.specs.Faults.{run_of, line_fault_of}
use Rattle.recovery.specs.Answers.{refusal, replay_answer, replay_area, Replays}
use Rattle.recovery.proofs.Replaying.{refuses, carried}
use Rattle.demands.proofs.Numbers.{left_iff, Areas, LineNumbers, line_not_11, line_accepts, line_numbers}

module _ (a area : List ℕ) (step set : ℕ) (l : Line) (order : List ℕ) where
  abbrev R : Run
  R = run_of a step l

  abbrev fault : ℕ
  fault = line_fault_of a (length area) step set l

  abbrev answer : Answered
  answer = replay_answer a area step set l order

  abbrev after : List ℕ
  after = replay_area a area step set l order

  -- nothing is wrong with areas, failure and line
  answer_fit : fault ≡ 0 → answer ≡ answer_of R (run R order) (length order)
  unfolding replay_answer
  answer_fit z = rw z

  area_fit : fault ≡ 0 → after ≡ words_of R (run R order) ++ drop area_words area
  unfolding replay_area
  area_fit z = rw z

  -- something is
  answer_unfit : (fault ≡ 0 → ⊥) → answer ≡ refusal fault
  unfolding replay_answer
  answer_unfit z = rw (ne_eqb fault 0 z)

  pub area_unfit : (fault ≡ 0 → ⊥) → after ≡ area
  unfolding replay_area
  area_unfit z = rw (ne_eqb fault 0 z)

  -- what the contract of `replay` promises, of the definitions and for every input
  pub promised : Replays a area step set l order answer after
  promised = by_eq fault 0
      (λ z.
      let F = (line_accepts a (length area) step set l).0 z in
      subst (Replays a area step set l order answer) (sym (area_fit z))
      (carried a area step set l order ((left_iff a).1 F.0.0) F.1.failure.step_most answer (words_of R (run R order)) (sym z) (answer_fit z) refl))
      (λ z. rw (answer_unfit z, area_unfit z) (refuses a area step set l order fault refl z))

  -- ---- The number

  -- what the order comes to, where nothing else is wrong
  pub data Ends : Type 0 where
    done : (s : State) → fault ≡ 0 → run R order ≡ carried_out s → Ends
    stopped : (i : ℕ) → fault ≡ 0 → run R order ≡ refused i → Ends
    unfit : (fault ≡ 0 → ⊥) → Ends

  pub ends : Ends
  ends = by_eq fault 0 (λ z. go z (run R order) refl) unfit
    where
      go : fault ≡ 0 → (o : Outcome) → run R order ≡ o → Ends
      go z (carried_out s) e = done s z e
      go z (refused i) e = stopped i z e

  -- the answer in each case
  answer_done : (s : State) → fault ≡ 0 → run R order ≡ carried_out s → answer.number ≡ 0
  unfolding answer_of
  answer_done s z e = ap (λ (r : Answered). r.number) (answer_fit z) ∙ rw e

  pub answer_stopped : (i : ℕ) → fault ≡ 0 → run R order ≡ refused i → answer ≡ record { number = 11; place = i; steps = 0; complete = false }
  unfolding answer_of
  answer_stopped i z e = answer_fit z ∙ rw e

  pub area_stopped : (i : ℕ) → fault ≡ 0 → run R order ≡ refused i → after ≡ replicate area_words 0 ++ drop area_words area
  unfolding words_of
  area_stopped i z e = area_fit z ∙ rw e

  pub area_done : (s : State) → fault ≡ 0 → run R order ≡ carried_out s → after ≡ words_from (record_at R s) 0 area_words ++ drop area_words area
  unfolding words_of
  area_done s z e = area_fit z ∙ rw e

  number_stopped : (i : ℕ) → fault ≡ 0 → run R order ≡ refused i → answer.number ≡ 11
  number_stopped i z e = ap (λ (r : Answered). r.number) (answer_stopped i z e)

  number_unfit : (fault ≡ 0 → ⊥) → answer.number ≡ fault
  number_unfit z = ap (λ (r : Answered). r.number) (answer_unfit z)

  -- 0: accepted
  pub zero_done : (answer.number ≡ 0) ↔ ((fault ≡ 0) × ((s : State) × (run R order ≡ carried_out s)))
  zero_done = (λ h. go ends h, λ x. answer_done x.1.0 x.0 x.1.1)
    where
      go : Ends → answer.number ≡ 0 → (fault ≡ 0) × ((s : State) × (run R order ≡ carried_out s))
      go (done s z e) h = (z, (s, e))
      go (stopped i z e) h = absurd (let y : ⊥ = omega (arith, number_stopped i z e) in y)
      go (unfit z) h = absurd (z (sym (number_unfit z) ∙ h))

  -- 11: stopped
  pub eleven_stopped : (answer.number ≡ 11) ↔ ((fault ≡ 0) × ((i : ℕ) × (run R order ≡ refused i)))
  eleven_stopped = (λ h. go ends h, λ x. number_stopped x.1.0 x.0 x.1.1)
    where
      go : Ends → answer.number ≡ 11 → (fault ≡ 0) × ((i : ℕ) × (run R order ≡ refused i))
      go (done s z e) h = absurd (let y : ⊥ = omega (arith, answer_done s z e) in y)
      go (stopped i z e) h = (z, (i, e))
      go (unfit z) h = absurd (line_not_11 a (length area) step set l (sym (number_unfit z) ∙ h))

  -- any other number is that of areas, failure or line
  pub other_unfit : (n : ℕ) → (n ≡ 0 → ⊥) → (n ≡ 11 → ⊥) → (answer.number ≡ n) ↔ (fault ≡ n)
  other_unfit n n0 n11 = (λ h. go ends h, λ h. number_unfit (λ z. n0 (sym h ∙ z)) ∙ h)
    where
      go : Ends → answer.number ≡ n → fault ≡ n
      go (done s z e) h = absurd (n0 (sym h ∙ answer_done s z e))
      go (stopped i z e) h = absurd (n11 (sym h ∙ number_stopped i z e))
      go (unfit z) h = sym (number_unfit z) ∙ h

  pub replay_numbers_lem : LineNumbers a (length area) step set l answer.number
  replay_numbers_lem =
      let N = line_numbers a (length area) step set l in
      record {
        twelve = then (other_unfit 12 (λ e. omega arith) (λ e. omega arith)) N.twelve;
        thirteen = then (other_unfit 13 (λ e. omega arith) (λ e. omega arith)) N.thirteen;
        eight = then (other_unfit 8 (λ e. omega arith) (λ e. omega arith)) N.eight;
        nine = then (other_unfit 9 (λ e. omega arith) (λ e. omega arith)) N.nine;
        ten = then (other_unfit 10 (λ e. omega arith) (λ e. omega arith)) N.ten;
      }
    where
      then : {A B C : Type 0} → A ↔ B → B ↔ C → A ↔ C
      then f g = (λ x. g.0 (f.0 x), λ y. f.1 (g.1 y))

  -- a refused answer: every other number is 0
  pub refused_answer : (answer.number ≡ 0 → ⊥) → answer ≡ record { number = answer.number; place = answer.place; steps = 0; complete = false }
  refused_answer n = go ends
    where
      go : Ends → answer ≡ record { number = answer.number; place = answer.place; steps = 0; complete = false }
      go (done s z e) = absurd (n (answer_done s z e))
      go (stopped i z e) = let q = answer_stopped i z e in q ∙ rw (ap (λ (r : Answered). r.number) q, ap (λ (r : Answered). r.place) q)
      go (unfit z) = let q = answer_unfit z in q ∙ rw (ap (λ (r : Answered). r.number) q, ap (λ (r : Answered). r.place) q)

  -- a place is told with 11 only
  pub refused_nowhere : (answer.number ≡ 0 → ⊥) → (answer.number ≡ 11 → ⊥) → answer.place ≡ 0
  refused_nowhere n m = go ends
    where
      go : Ends → answer.place ≡ 0
      go (done s z e) = absurd (n (answer_done s z e))
      go (stopped i z e) = absurd (m (ap (λ (r : Answered). r.number) (answer_stopped i z e)))
      go (unfit z) = ap (λ (r : Answered). r.place) (answer_unfit z)

  -- the area past its first 16,384 words
  pub past_kept : drop area_words after ≡ drop area_words area
  past_kept = go ends
    where
      go : Ends → drop area_words after ≡ drop area_words area
      go (done s z e) = rw (area_done s z e) (drop_at (words_from (record_at R s) 0 16384) (drop 16384 area) 16384 (length_words (record_at R s) 0 16384))
      go (stopped i z e) = rw (area_stopped i z e) (drop_at (replicate {A = ℕ} 16384 0) (drop 16384 area) 16384 (length-replicate {A = ℕ} 16384 0))
      go (unfit z) = ap (drop 16384) (area_unfit z)

  pub front_done : (s : State) → fault ≡ 0 → run R order ≡ carried_out s → take area_words after ≡ words_from (record_at R s) 0 area_words
  front_done s z e = rw (area_done s z e) (take_at (words_from (record_at R s) 0 16384) (drop 16384 area) 16384 (length_words (record_at R s) 0 16384))

  pub front_stopped : (i : ℕ) → fault ≡ 0 → run R order ≡ refused i → take area_words after ≡ replicate area_words 0
  front_stopped i z e = rw (area_stopped i z e) (take_at (replicate {A = ℕ} 16384 0) (drop 16384 area) 16384 (length-replicate {A = ℕ} 16384 0))

  -- ---- An order that is carried out

  -- it comes to the state s: the answer, and the record in the run area, by words and by lists
  pub record Carried (s : State) : Type 0 where
    pub areas : Areas a (length area)
    pub fit : FitLine (held a) step set l.count (line_in l)
    pub carries : run R order ≡ carried_out s
    pub steps_are : answer.steps ≡ steps order
    pub complete_is : (answer.complete ≡ true) ↔ Complete R s
    pub words : take area_words after ≡ words_from (record_at R s) 0 area_words
    pub lists : (p q : ℕ) → list_in (held a) after p q ≡ delivered R s p q

  steps_done : (s : State) → fault ≡ 0 → run R order ≡ carried_out s → answer.steps ≡ steps order
  unfolding answer_of
  steps_done s z e = ap (λ (r : Answered). r.steps) (answer_fit z) ∙ rw e

  complete_done : (s : State) → fault ≡ 0 → run R order ≡ carried_out s → answer.complete ≡ complete R s
  unfolding answer_of
  complete_done s z e = ap (λ (r : Answered). r.complete) (answer_fit z) ∙ rw e

  lists_done : (s : State) → answer.number ≡ 0 → run R order ≡ carried_out s → (p q : ℕ) → list_in (held a) after p q ≡ delivered R s p q
  lists_done s h e p q =
      let (u, f, g) = promised.recorded h in
      let same : u ≡ s = cc in
      subst (λ (x : State). list_in (held a) after p q ≡ delivered R x p q) same (g p q)

  pub carried_at : (s : State) → answer.number ≡ 0 → run R order ≡ carried_out s → Carried s
  carried_at s h e =
      let z = (zero_done.0 h).0 in
      let F = (line_accepts a (length area) step set l).0 z in
      record {
        areas = F.0;
        fit = F.1;
        carries = e;
        steps_are = steps_done s z e;
        complete_is = rw (complete_done s z e) (complete_iff R s);
        words = front_done s z e;
        lists = lists_done s h e;
      }

  pub accepted : answer.number ≡ 0 → (s : State) × Carried s
  accepted h = let (s, e) = (zero_done.0 h).1 in (s, carried_at s h e)

  pub step_of_each : answer.number ≡ 0 → (m : ℕ) → m < length order
      → (u v : State) × (run R (take m order) ≡ carried_out u) × (choose R u (get_or order m 0) ≡ some v) × (run R (take (suc m) order) ≡ carried_out v)
  step_of_each h = let (s, e) = (zero_done.0 h).1 in run_steps R order s e

  -- the laws of its run
  pub carried_laws : (s : State) → Carried s → Laws R
  carried_laws s C = laws (held a) (rule_of (held a)) (held_valid a ((left_iff a).1 C.areas.0)) step (line_in l) C.fit.failure.step_most

-- ---- Two calls with one table area, or with two whose traces receive alike

module _ (a b : List ℕ) (alike : Alike (held a) (held b)) (area other : List ℕ) (step other_step set other_set : ℕ) (l m : Line) (order other_order : List ℕ)
    (ok : (replay_answer a area step set l order).number ≡ 0) (other_ok : (replay_answer b other other_step other_set m other_order).number ≡ 0) where
  abbrev one : List ℕ
  one = replay_area a area step set l order

  abbrev two : List ℕ
  two = replay_area b other other_step other_set m other_order

  pub two_told : (take area_words one ≡ take area_words two) ↔ ((p q : ℕ) → list_in (held a) one p q ≡ list_in (held b) two p q)
  two_told =
      let (s, C) = accepted a area step set l order ok in
      let (u, D) = accepted b other other_step other_set m other_order other_ok in
      let h = (left_iff a).1 C.areas.0 in
      let k = (left_iff b).1 D.areas.0 in
      let T = record_told (held a) (held b) alike (held_valid a h) (held_valid b k) (held_few a h) (held_64 a h) (held_64 b k) step other_step
      C.fit.failure.step_most D.fit.failure.step_most (line_in l) (line_in m) order other_order s u C.carries D.carries in (
        λ e p q. C.lists p q ∙ T.0 (sym C.words ∙ e ∙ D.words) p q ∙ sym (D.lists p q),
        λ e. C.words ∙ T.1 (λ p q. sym (C.lists p q) ∙ e p q ∙ D.lists p q) ∙ sym D.words,
      )

  -- the same of the delivery records of the states that the two orders come to
  pub two_recorded : (s u : State) → run (run_of a step l) order ≡ carried_out s → run (run_of b other_step m) other_order ≡ carried_out u
      → (take area_words one ≡ take area_words two) ↔ ((p q : ℕ) → delivered (run_of a step l) s p q ≡ delivered (run_of b other_step m) u p q)
  two_recorded s u e f =
      let C = lists_done a area step set l order s ok e in
      let D = lists_done b other other_step other_set m other_order u other_ok f in (
        λ w p q. sym (C p q) ∙ two_told.0 w p q ∙ D p q,
        λ d. two_told.1 (λ p q. C p q ∙ d p q ∙ sym (D p q)),
      )
