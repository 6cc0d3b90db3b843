-- What a function leaves in the slice of its answer, from the numbers that it put there.
use Prim.Native.Nat.{ℕ, ◌≤◌}
use native.Mathlib.Omega.{arith}
use mathlib.Core.Path.{◌≡◌, refl, sym, ap, subst, ◌∙◌}
use mathlib.Core.Logic.{◌↔◌}
use mathlib.Core.Bool.{Bool, true, false, cond}
use mathlib.Core.List.{List, [], ◌∷◌, ◌++◌, append_assoc}
use lib.Dec.{eqb}
use lib.ListN.{length, take, drop, length-append, length-drop, length-replicate}
use lib.Seq.{take_all, take_at, drop_at, drop-drop, length-take-le}
use borrow.Author.Tests.{ne_eqb}
use Rattle.words.proofs.Area.{length_words}
use Rattle.words.proofs.Cases.{by_bool, by_eq, by_lt, clash}
use Rattle.table.specs.Held.{held}
use Rattle.recovery_line.specs.declared.Line.{Line}
use Rattle.orders.specs.Answer.{Answered}
use Rattle.theory.specs.Order.{lowest_order}
use Rattle.preparing.specs.Faults.{run_of, failure_fault_of, line_fault_of}
use Rattle.recovery.specs.Answers.{refusal, replay_answer, Equal, Recorded, SameLists, CarriesOut, StepsExact, StepsAtMost, Completed}
use Rattle.std.specs.Prelude.{Result, Ok, Err, IfOk}
use Rattle.trace.specs.Trace.{Trace}
use Rattle.theory.specs.Line.{Run}
use Rattle.refusal.specs.declared.Refused.{Refused}
use Rattle.refusal.proofs.Refusals.{no_number_0}
use Rattle.restart.specs.declared.Restarted.{Restarted}
use Rattle.restart.specs.Restart.{RestartAnswer, engine_line_of, restart_of, restart_answer, restart_found, restart_answered, Restarts}
use Rattle.messages.specs.declared.Counted.{Counted}
use Rattle.messages.specs.Messages.{MessagesAnswer, messages_answered}
use Rattle.messages.specs.Meaning.{Lists}
use Rattle.writer.specs.declared.Sink.{Sink}
use Rattle.writer.specs.Inner.Puts.{Puts}
use Rattle.writer.specs.Inner.Sinks.{Takes}
use Rattle.writer.specs.Buffer.{room, written}
use Rattle.capi.specs.Answers.{restart_numbers, messages_numbers, replay_numbers, lowest_answer, ExactIn, LowestExactIn, AtMostIn, CarriesOutIn, CompletedIn, restart_given, RestartsIn, ListsIn, LowestEqualIn, EqualIn}

pub answer_is : (vs ws before after : List ℕ) → vs ≡ ws → after ≡ written vs before → after ≡ written ws before
answer_is vs ws before after e h = rw e at h

-- what was put into a sink is other numbers, put there too
pub takes_as : {vs ws : List ℕ} {a b : Sink ℕ} → Takes vs a b → Puts ws a.out.now a.next b.out.now b.next → Takes ws a b
takes_as t p = record { puts = p; same = t.same }

-- ---- What is promised of a value, of the answer in numbers

pub restart_means : (t : Trace) (step set : ℕ) (r : Result Restarted Refused) → IfOk r (λ x. Restarts t step set (restart_found x))
    → (restart_answered r).number ≡ 0 → Restarts t step set (restart_answered r)
restart_means t step set (Ok x) h z = h
restart_means t step set (Err e) h z = absurd (no_number_0 e.refusal z)

pub messages_mean : (R : Run) (w : List ℕ) (r : Result Counted Refused) → IfOk r (λ c. Lists R c.orphans c.kept c.lost w)
    → (messages_answered r).number ≡ 0 → Lists R (messages_answered r).orphans (messages_answered r).kept (messages_answered r).lost w
messages_mean R w (Ok c) h z = h
messages_mean R w (Err e) h z = absurd (no_number_0 e.refusal z)

-- ---- Steps in a slice

-- a slice that begins with some numbers has those that were written
first_two : (p s c : ℕ) (before : List ℕ) (p' n : ℕ) (rest : List ℕ) → p' ∷ n ∷ rest ≡ written (p ∷ s ∷ c ∷ []) before → n ≡ s
unfolding written room
first_two p s c [] p' n rest h = absurd (let z : ◌≡◌ {A = ℕ} 0 1 = cc in omega arith)
first_two p s c (x ∷ []) p' n rest h = absurd (let z : ◌≡◌ {A = ℕ} 0 1 = cc in omega arith)
first_two p s c (x ∷ y ∷ bs) p' n rest h = cc

first_three : (p s c : ℕ) (before : List ℕ) (p' n c' : ℕ) (rest : List ℕ) → p' ∷ n ∷ c' ∷ rest ≡ written (p ∷ s ∷ c ∷ []) before → c' ≡ c
unfolding written room
first_three p s c [] p' n c' rest h = absurd (let z : ◌≡◌ {A = ℕ} 0 1 = cc in omega arith)
first_three p s c (x ∷ []) p' n c' rest h = absurd (let z : ◌≡◌ {A = ℕ} 0 1 = cc in omega arith)
first_three p s c (x ∷ y ∷ []) p' n c' rest h = absurd (let z : ◌≡◌ {A = ℕ} 0 1 = cc in omega arith)
first_three p s c (x ∷ y ∷ z ∷ bs) p' n c' rest h = cc

yes_is : (b : Bool) → (◌≡◌ {A = ℕ} (cond b 1 0) 1) ↔ (b ≡ true)
yes_is true = (λ h. refl, λ h. refl)
yes_is false = (λ h. absurd (let z : ⊥ = omega arith in z), λ h. clash {b = true} refl (sym h))

-- ---- Restarts and lists of messages in a slice

-- a slice with room for all numbers begins with them
all_written : (vs before : List ℕ) → length vs ≤ length before → written vs before ≡ vs ++ drop (length vs) before
unfolding written room
all_written vs before h = ap (λ (x : List ℕ). x ++ drop (length vs) before) (take_all (length before) vs h)

written_length : (vs before : List ℕ) → length (written vs before) ≡ length before
unfolding written room
written_length vs before = by_lt (length before) (length vs)
    (λ l. rw (length-append (take (length before) vs) (drop (length vs) before), length-take-le (length before) vs (omega arith), length-drop (length vs) before) (omega arith))
    (λ l. rw (take_all (length before) vs l, length-append vs (drop (length vs) before), length-drop (length vs) before) (omega arith))

-- arrays of 64 numbers
abbrev Sized : RestartAnswer → Type 0
Sized x = (length x.line.epochs ≡ 64) × (length x.epochs ≡ 64) × (length x.phases ≡ 64)

restart_sized : (a : List ℕ) (step set : ℕ) → Sized (restart_answer a step set)
unfolding restart_answer restart_of engine_line_of
restart_sized a step set = by_bool (eqb (failure_fault_of a step set) 0)
    (λ u. rw u (length_words _ 0 64, length_words _ 0 64, length_words _ 0 64))
    (λ u. rw u (length-replicate {A = ℕ} 64 0, length-replicate {A = ℕ} 64 0, length-replicate {A = ℕ} 64 0))

module _ (x : RestartAnswer) (z : x.number ≡ 0) (n : Sized x) (rest : List ℕ) where
  abbrev four : List ℕ
  four = x.place ∷ x.line.count ∷ x.back ∷ x.going ∷ []

  abbrev after : List ℕ
  after = x.line.epochs ++ (x.epochs ++ (x.phases ++ rest))

  parts : restart_numbers x ++ rest ≡ four ++ after
  parts =
      append_assoc (four ++ x.line.epochs ++ x.epochs) x.phases rest
      ∙ append_assoc (four ++ x.line.epochs) x.epochs (x.phases ++ rest)
      ∙ append_assoc four x.line.epochs (x.epochs ++ (x.phases ++ rest))

  -- the restart that is read is the one whose numbers were written
  restart_read : restart_given (restart_numbers x ++ rest) ≡ x
  restart_read =
      let a : take 64 after ≡ x.line.epochs = take_at x.line.epochs _ 64 n.0 in
      let b : drop 64 after ≡ x.epochs ++ (x.phases ++ rest) = drop_at x.line.epochs _ 64 n.0 in
      let c : take 64 (drop 64 after) ≡ x.epochs = ap (take 64) b ∙ take_at x.epochs _ 64 n.1 in
      let d : drop 128 after ≡ x.phases ++ rest = sym (drop-drop 64 64 after) ∙ ap (drop 64) b ∙ drop_at x.epochs _ 64 n.1 in
      let e : take 64 (drop 128 after) ≡ x.phases = ap (take 64) d ∙ take_at x.phases _ 64 n.2 in
      let with : ℕ → RestartAnswer = λ k. record { number = k; place = x.place; line = x.line; going = x.going; back = x.back; epochs = x.epochs; phases = x.phases } in
      let f : restart_given (four ++ after) ≡ with 0 = rw (a, c, e) in
      ap restart_given parts ∙ f ∙ ap with (sym z)

pub restarts_in : (a : List ℕ) (step set : ℕ) (x : RestartAnswer) (before answer : List ℕ) → x ≡ restart_answer a step set → answer ≡ written (restart_numbers x) before
    → (x.number ≡ 0 → Restarts (held a) step set x) → RestartsIn a step set x.number answer
restarts_in a step set x before answer e w m z l =
    let n : Sized x = rw e (restart_sized a step set) in
    let k : length (restart_numbers x) ≡ 196 =
    omega (arith, length-append (four x z n [] ++ x.line.epochs ++ x.epochs) x.phases, length-append (four x z n [] ++ x.line.epochs) x.epochs, length-append (four x z n []) x.line.epochs, n.0, n.1, n.2) in
    let room : length (restart_numbers x) ≤ length before = omega (arith, ap length w, written_length (restart_numbers x) before) in
    let q : restart_given answer ≡ x = ap restart_given (w ∙ all_written (restart_numbers x) before room) ∙ restart_read x z n _ in
    rw q (m z)

first_four : (p o k l : ℕ) (before : List ℕ) (p' o' k' l' : ℕ) (rest : List ℕ) → p' ∷ o' ∷ k' ∷ l' ∷ rest ≡ written (p ∷ o ∷ k ∷ l ∷ []) before
    → (o ≡ o') × (k ≡ k') × (l ≡ l')
unfolding written room
first_four p o k l [] p' o' k' l' rest h = absurd (let z : ◌≡◌ {A = ℕ} 0 1 = cc in omega arith)
first_four p o k l (x ∷ []) p' o' k' l' rest h = absurd (let z : ◌≡◌ {A = ℕ} 0 1 = cc in omega arith)
first_four p o k l (x ∷ y ∷ []) p' o' k' l' rest h = absurd (let z : ◌≡◌ {A = ℕ} 0 1 = cc in omega arith)
first_four p o k l (x ∷ y ∷ z ∷ []) p' o' k' l' rest h = absurd (let u : ◌≡◌ {A = ℕ} 0 1 = cc in omega arith)
first_four p o k l (x ∷ y ∷ z ∷ u ∷ bs) p' o' k' l' rest h = (cc, cc, cc)

pub lists_in : (a : List ℕ) (step : ℕ) (l m : Line) (c : MessagesAnswer) (before answer run : List ℕ) → l ≡ m → answer ≡ written (messages_numbers c) before
    → (c.number ≡ 0 → Lists (run_of a step l) c.orphans c.kept c.lost run) → ListsIn (run_of a step m) c.number answer run
lists_in a step l m c before answer run e w x =
    subst (λ (j : Line). ListsIn (run_of a step j) c.number answer run) e
    (λ place o k n rest z h. let (f, g, j) = first_four _ _ _ _ before place o k n rest (sym h ∙ w) in rw (← f, ← g, ← j) (x z))

-- what `replay` and `lowest` promise, of the number and the numbers that are given
module _ (a : List ℕ) (step : ℕ) (l : Line) (r : Answered) (before answer : List ℕ) (w : answer ≡ written (replay_numbers r) before) where
  steps_at : (place n : ℕ) (rest : List ℕ) → answer ≡ place ∷ n ∷ rest → n ≡ r.steps
  steps_at place n rest h = first_two _ _ _ before place n rest (sym h ∙ w)

  flag_at : (place n c : ℕ) (rest : List ℕ) → answer ≡ place ∷ n ∷ c ∷ rest → c ≡ cond r.complete 1 0
  flag_at place n c rest h = first_three _ _ _ before place n c rest (sym h ∙ w)

  exact_in : StepsExact a step l r → ExactIn (run_of a step l) r.number answer
  exact_in x place n rest z h f =
      steps_at place n (1 ∷ rest) h ∙ x z ((yes_is r.complete).0 (sym (flag_at place n 1 rest h))) f

  lowest_exact_in : StepsExact a step l r → (r.number ≡ 0 → r.complete ≡ true) → LowestExactIn (run_of a step l) r.number answer
  lowest_exact_in x all place n rest z h f = steps_at place n rest h ∙ x z (all z) f

  at_most_in : StepsAtMost a step l r → AtMostIn (run_of a step l) answer
  at_most_in x place n rest h = let e = steps_at place n rest h in (omega (arith, x.0), omega (arith, x.1))

  carries_out_in : (order : List ℕ) → CarriesOut a step l order r → CarriesOutIn (run_of a step l) order r.number answer
  carries_out_in order x place n rest z h =
      let (s, e, m, k) = x z in (
        s,
        e,
        steps_at place n rest h ∙ m,
        λ c more q.
            let f = flag_at place n c more (h ∙ ap (λ (y : List ℕ). place ∷ n ∷ y) q) in
            (λ u. k.0 ((yes_is r.complete).0 (sym f ∙ u)), λ u. f ∙ (yes_is r.complete).1 (k.1 u)),
      )

  -- an answer of `lowest` that is no refusal is complete
  all_complete : (area : List ℕ) (set : ℕ) → r ≡ lowest_answer a area step set l → Completed a (length area) step set l r → r.number ≡ 0 → r.complete ≡ true
  unfolding replay_answer
  all_complete area set e x z =
      let fault = line_fault_of a (length area) step set l in
      by_eq fault 0
      (λ ok. (x ok).1)
      (λ no. let q : r ≡ refusal fault = e ∙ rw (ne_eqb fault 0 no) in absurd (no (sym (ap (λ (y : Answered). y.number) q) ∙ z)))

  completed_in : (room set : ℕ) → Completed a room step set l r → CompletedIn a room step set l r.number answer
  completed_in room set x ok = ((x ok).0, λ place n c rest h. flag_at place n c rest h ∙ (yes_is r.complete).1 (x ok).1)

  equal_in : (run : List ℕ) → Equal a step l r run → SameLists a step l r run → EqualIn a step l r.number answer run
  equal_in run x y place n rest h z = let c = (yes_is r.complete).0 (sym (flag_at place n 1 rest h)) in (x z c, y z c)

  lowest_equal_in : (run : List ℕ) → Equal a step l r run → SameLists a step l r run → (r.number ≡ 0 → r.complete ≡ true) → LowestEqualIn a step l r.number run
  lowest_equal_in run x y all z = (x z (all z), y z (all z))

  -- all of it, of the line as it was given
  pub replay_given : (m : Line) → l ≡ m → (order run : List ℕ) → Equal a step l r run → StepsExact a step l r → StepsAtMost a step l r → CarriesOut a step l order r
      → Recorded a step l order r.number run → SameLists a step l r run
      → ExactIn (run_of a step m) r.number answer × (AtMostIn (run_of a step m) answer × (CarriesOutIn (run_of a step m) order r.number answer × (EqualIn a step m r.number answer run × Recorded a step m order r.number run)))
  replay_given m e order run x y u v d t =
      subst (λ (k : Line). ExactIn (run_of a step k) r.number answer × (AtMostIn (run_of a step k) answer × (CarriesOutIn (run_of a step k) order r.number answer × (EqualIn a step k r.number answer run × Recorded a step k order r.number run)))) e
      (exact_in y, (at_most_in u, (carries_out_in order v, (equal_in run x t, d))))

  pub lowest_given : (m : Line) → l ≡ m → (area run : List ℕ) (set : ℕ) → r ≡ lowest_answer a area step set l → Equal a step l r run → StepsExact a step l r → StepsAtMost a step l r
      → CarriesOut a step l (lowest_order (run_of a step l)) r → Completed a (length area) step set l r
      → Recorded a step l (lowest_order (run_of a step l)) r.number run → SameLists a step l r run
      → LowestExactIn (run_of a step m) r.number answer × (AtMostIn (run_of a step m) answer × (CarriesOutIn (run_of a step m) (lowest_order (run_of a step m)) r.number answer × (CompletedIn a (length area) step set m r.number answer × (LowestEqualIn a step m r.number run × Recorded a step m (lowest_order (run_of a step m)) r.number run))))
  lowest_given m e area run set q x y u v c d t =
      let all = all_complete area set q c in
      subst (λ (k : Line). LowestExactIn (run_of a step k) r.number answer × (AtMostIn (run_of a step k) answer × (CarriesOutIn (run_of a step k) (lowest_order (run_of a step k)) r.number answer × (CompletedIn a (length area) step set k r.number answer × (LowestEqualIn a step k r.number run × Recorded a step k (lowest_order (run_of a step k)) r.number run))))) e
      (lowest_exact_in y all, (at_most_in u, (carries_out_in (lowest_order (run_of a step l)) v, (completed_in (length area) set c, (lowest_equal_in run x t all, d)))))
