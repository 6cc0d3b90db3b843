-- The number of each answer: which call is accepted, and why another is refused.
use Prim.Native.Nat.{ℕ, ◌^◌, ◌≤◌, ◌<◌}
use mathlib.Core.Path.{◌≡◌, sym, subst}
use mathlib.Core.Logic.{◌⊎◌, inl, inr, ◌↔◌}
use mathlib.Core.Bool.{true, ◌&&◌, ◌||◌}
use mathlib.Core.List.{List}
use mathlib.Core.Option.{some}
use native.Mathlib.Omega.{arith}
use lib.Dec.{leb, ltb, eqb}
use lib.ListN.{length}
use borrow.Author.Tests.{ltb-true, ltb-false, lt-ltb, le-ltb, ne_eqb}
use Rattle.words.specs.Area.{area_words}
use Rattle.words.proofs.Cases.{by_bool, by_eq, clash}
use Rattle.trace.specs.Trace.{Trace}
use Rattle.reader.specs.Verdict.{accepted, verdict}
use Rattle.reader.specs.Answer.{read_area}
use Rattle.table.specs.Held.{held, holds_trace}
use Rattle.table.specs.Inner.Held.{held_trace}
use Rattle.table.proofs.Holding.{told}
use Rattle.table.proofs.Claims.{read_held, check_13}
use Rattle.theory.specs.Events.{size}
use Rattle.theory.specs.Line.{in_set, Permitted, usable_at}
use Rattle.theory.specs.Epochs.{rule_of}
use Rattle.theory.specs.Refusals.{failure_fault, permits, line_fault}
use Rattle.theory.specs.Inner.Refusals.{FitFailure, FitLine}
use Rattle.theory.proofs.Base.{on}
use Rattle.theory.proofs.Claims.{number_8, number_9, failure_taken, number_8_first, number_9_next, number_10, line_taken}
use Rattle.recovery_line.specs.declared.Line.{Line}
use Rattle.recovery_line.specs.Given.{line_in}
use Rattle.preparing.specs.Faults.{areas_or, failure_fault_of, line_fault_of}
use Rattle.restart.specs.Restart.{restart_of, restart_answer}
use Rattle.messages.specs.Messages.{messages_answer}

-- "what reading some accepted trace leaves there": the area is what reading a text leaves, which is accepted as the
-- trace that the area holds; the reading would change nothing
abbrev pub Left : List ℕ → Type 0
Left a = (text : List ℕ) × (verdict text ≡ accepted (held a)) × (area_words ≤ length a) × (read_area text a ≡ a)

-- a table area that is so left, and a run area of `room` words
abbrev pub Areas : List ℕ → ℕ → Type 0
Areas a room = Left a × (area_words ≤ room)

pub left_iff : (a : List ℕ) → (holds_trace a ≡ true) ↔ Left a
left_iff a = (
  λ h.
      let (text, t, e, l, same) = (check_13 a).0 h in
      let x : held_trace a ≡ some t = subst (λ (y : List ℕ). held_trace y ≡ some t) same (read_held text a t e l) in
      let q : t ≡ held a = sym (told a t x).1 in
      (text, subst (λ (y : Trace). verdict text ≡ accepted y) q e, l, same),
  λ (text, e, l, same). (check_13 a).1 (text, held a, e, l, same),
)

-- reading an accepted text leaves such an area, with the trace that it was accepted as
pub left_by_reading : (text a : List ℕ) (t : Trace) → verdict text ≡ accepted t → area_words ≤ length a → Left (read_area text a) × (held (read_area text a) ≡ t)
left_by_reading text a t e l =
    let x = told (read_area text a) t (read_held text a t e l) in
    ((left_iff (read_area text a)).0 x.0, x.1)

-- ---- 12 and 13, and what is looked for next

module _ (a : List ℕ) (room rest : ℕ) where
  pub areas_12 : (rest ≡ 12 → ⊥) → (areas_or a room rest ≡ 12) ↔ ((length a < area_words) ⊎ (room < area_words))
  areas_12 n = (
    λ e. by_bool (ltb (length a) 16384) (λ u. inl (ltb-true _ _ u))
        (λ u. by_bool (ltb room 16384) (λ v. inr (ltb-true _ _ v))
        (λ v. by_bool (holds_trace a) (λ h. absurd (n (rw (u, v, h) at e))) (λ h. absurd (let z : ◌≡◌ {A = ℕ} 13 12 = rw (u, v, h) at e in let y : ⊥ = omega arith in y)))),
    λ s. on s (λ l. rw (lt-ltb (length a) 16384 l)) (λ l. by_bool (ltb (length a) 16384) (λ u. rw u) (λ u. rw (u, lt-ltb room 16384 l))),
  )

  pub areas_13 : (rest ≡ 13 → ⊥) → (areas_or a room rest ≡ 13) ↔ ((area_words ≤ length a) × (area_words ≤ room) × (Left a → ⊥))
  areas_13 n = (
    λ e. by_bool (ltb (length a) 16384) (λ u. absurd (let z : ◌≡◌ {A = ℕ} 12 13 = rw u at e in let y : ⊥ = omega arith in y))
        (λ u. by_bool (ltb room 16384) (λ v. absurd (let z : ◌≡◌ {A = ℕ} 12 13 = rw (u, v) at e in let y : ⊥ = omega arith in y))
        (λ v. by_bool (holds_trace a) (λ h. absurd (n (rw (u, v, h) at e)))
        (λ h. (ltb-false _ _ u, ltb-false _ _ v, λ x. clash ((left_iff a).1 x) h)))),
    λ (l, m, x). by_bool (holds_trace a) (λ h. absurd (x ((left_iff a).0 h))) (λ h. rw (le-ltb (length a) 16384 l, le-ltb room 16384 m, h)),
  )

  pub areas_else : (n : ℕ) → (n ≡ 12 → ⊥) → (n ≡ 13 → ⊥) → (areas_or a room rest ≡ n) ↔ (Left a × (area_words ≤ room) × (rest ≡ n))
  areas_else n n12 n13 = (
    λ e. by_bool (ltb (length a) 16384) (λ u. absurd (n12 (sym (rw u at e))))
        (λ u. by_bool (ltb room 16384) (λ v. absurd (n12 (sym (rw (u, v) at e))))
        (λ v. by_bool (holds_trace a) (λ h. ((left_iff a).0 h, ltb-false _ _ v, rw (u, v, h) at e)) (λ h. absurd (n13 (sym (rw (u, v, h) at e)))))),
    λ (x, m, e). rw (le-ltb (length a) 16384 x.2, le-ltb room 16384 m, (left_iff a).1 x) e,
  )

-- ---- No other numbers

failure_few : (t : Trace) (step set n : ℕ) → failure_fault t step set ≡ n → (n ≡ 0) ⊎ ((n ≡ 8) ⊎ (n ≡ 9))
unfolding failure_fault
failure_few t step set n e =
    by_bool (ltb (size t) step) (λ u. inr (inl (sym (rw u at e))))
    (λ u. by_bool (eqb set 0 || leb (2 ^ t.procs) set) (λ v. inr (inr (sym (rw (u, v) at e)))) (λ v. inl (sym (rw (u, v) at e))))

line_few : (t : Trace) (step set count : ℕ) (line : ℕ → ℕ) (n : ℕ) → line_fault t step set count line ≡ n → (n ≡ 0) ⊎ ((n ≡ 8) ⊎ ((n ≡ 9) ⊎ (n ≡ 10)))
unfolding line_fault
line_few t step set count line n e =
    by_bool (ltb (size t) step) (λ u. inr (inl (sym (rw u at e))))
    (λ u. by_bool (eqb set 0 || leb (2 ^ t.procs) set) (λ v. inr (inr (inl (sym (rw (u, v) at e)))))
    (λ v. by_bool (eqb count t.procs && permits t (usable_at t step) (in_set set) line) (λ w. inl (sym (rw (u, v, w) at e))) (λ w. inr (inr (inr (sym (rw (u, v, w) at e)))))))

pub failure_not : (t : Trace) (step set n : ℕ) → (n ≡ 0 → ⊥) → (n ≡ 8 → ⊥) → (n ≡ 9 → ⊥) → failure_fault t step set ≡ n → ⊥
failure_not t step set n a b c e = on (failure_few t step set n e) a (λ x. on x b c)

pub line_not : (t : Trace) (step set count : ℕ) (line : ℕ → ℕ) (n : ℕ) → (n ≡ 0 → ⊥) → (n ≡ 8 → ⊥) → (n ≡ 9 → ⊥) → (n ≡ 10 → ⊥)
    → line_fault t step set count line ≡ n → ⊥
line_not t step set count line n a b c d e = on (line_few t step set count line n e) a (λ x. on x b (λ y. on y c d))

-- ---- The number of an answer is the fault's

pub restart_number : (a : List ℕ) (step set : ℕ) → (restart_answer a step set).number ≡ failure_fault_of a step set
unfolding restart_answer restart_of
restart_number a step set = by_eq (failure_fault_of a step set) 0 (λ e. rw e) (λ z. rw (ne_eqb (failure_fault_of a step set) 0 z))

pub messages_number : (a area : List ℕ) (step set : ℕ) (l : Line) → (messages_answer a area step set l).number ≡ line_fault_of a (length area) step set l
unfolding messages_answer
messages_number a area step set l = by_eq (line_fault_of a (length area) step set l) 0 (λ e. rw e) (λ z. rw (ne_eqb (line_fault_of a (length area) step set l) 0 z))

-- ---- The faults, each exactly

-- "the set is empty or names a zone N or more"
abbrev pub UnfitSet : Trace → ℕ → Type 0
UnfitSet t set = (set ≡ 0) ⊎ ((z : ℕ) × (t.procs ≤ z) × (in_set set z ≡ true))

-- an equivalence under another
under : {A B C D : Type 0} → A ↔ (B × C) → C ↔ D → A ↔ (B × D)
under f g = (λ x. let y = f.0 x in (y.0, g.0 y.1), λ y. f.1 (y.0, g.1 y.1))

module _ (a : List ℕ) (step set : ℕ) where
  abbrev t : Trace
  t = held a

  abbrev fault : ℕ
  fault = failure_fault_of a step set

  -- of a table area alone
  table_12 : (fault ≡ 12) ↔ (length a < area_words)
  unfolding failure_fault_of
  table_12 =
      let f = areas_12 a 16384 (failure_fault t step set) (failure_not t step set 12 (λ e. omega arith) (λ e. omega arith) (λ e. omega arith)) in
      (λ e. on (f.0 e) (λ l. l) (λ l. absurd (let z : ⊥ = omega arith in z)), λ l. f.1 (inl l))

  table_13 : (fault ≡ 13) ↔ ((area_words ≤ length a) × (Left a → ⊥))
  unfolding failure_fault_of
  table_13 =
      let f = areas_13 a 16384 (failure_fault t step set) (failure_not t step set 13 (λ e. omega arith) (λ e. omega arith) (λ e. omega arith)) in
      (λ e. let x = f.0 e in (x.0, x.2), λ x. f.1 (x.0, omega arith, x.1))

  table_else : (n : ℕ) → (n ≡ 12 → ⊥) → (n ≡ 13 → ⊥) → (fault ≡ n) ↔ (Left a × (failure_fault t step set ≡ n))
  unfolding failure_fault_of
  table_else n b c =
      let f = areas_else a 16384 (failure_fault t step set) n b c in
      (λ e. let x = f.0 e in (x.0, x.2), λ x. f.1 (x.0, omega arith, x.1))

  pub record FailureNumbers (n : ℕ) : Type 0 where
    pub accepts : (n ≡ 0) ↔ (Left a × FitFailure t step set)
    pub twelve : (n ≡ 12) ↔ (length a < area_words)
    pub thirteen : (n ≡ 13) ↔ ((area_words ≤ length a) × (Left a → ⊥))
    pub eight : (n ≡ 8) ↔ (Left a × (size t < step))
    pub nine : (n ≡ 9) ↔ (Left a × ((step ≤ size t) × UnfitSet t set))

  pub failure_numbers_lem : FailureNumbers fault
  failure_numbers_lem = record {
    accepts = under (table_else 0 (λ e. omega arith) (λ e. omega arith)) (failure_taken t step set);
    twelve = table_12;
    thirteen = table_13;
    eight = under (table_else 8 (λ e. omega arith) (λ e. omega arith)) (number_8 t step set);
    nine = under (table_else 9 (λ e. omega arith) (λ e. omega arith)) (number_9 t step set);
  }

module _ (a : List ℕ) (room step set : ℕ) (l : Line) where
  abbrev trace_held : Trace
  trace_held = held a

  abbrev rest : ℕ
  rest = line_fault trace_held step set l.count (line_in l)

  abbrev fault_of_line : ℕ
  fault_of_line = line_fault_of a room step set l

  not_rest : (n : ℕ) → (n ≡ 0 → ⊥) → (n ≡ 8 → ⊥) → (n ≡ 9 → ⊥) → (n ≡ 10 → ⊥) → rest ≡ n → ⊥
  not_rest = line_not trace_held step set l.count (line_in l)

  line_12 : (fault_of_line ≡ 12) ↔ ((length a < area_words) ⊎ (room < area_words))
  unfolding line_fault_of
  line_12 = areas_12 a room rest (not_rest 12 (λ e. omega arith) (λ e. omega arith) (λ e. omega arith) (λ e. omega arith))

  line_13 : (fault_of_line ≡ 13) ↔ ((area_words ≤ length a) × (area_words ≤ room) × (Left a → ⊥))
  unfolding line_fault_of
  line_13 = areas_13 a room rest (not_rest 13 (λ e. omega arith) (λ e. omega arith) (λ e. omega arith) (λ e. omega arith))

  line_else : (n : ℕ) → (n ≡ 12 → ⊥) → (n ≡ 13 → ⊥) → (fault_of_line ≡ n) ↔ (Areas a room × (rest ≡ n))
  unfolding line_fault_of
  line_else n b c =
      let f = areas_else a room rest n b c in
      (λ e. let x = f.0 e in ((x.0, x.1), x.2), λ x. f.1 (x.0.0, x.0.1, x.1))

  -- 11 is no fault of areas, failure or line
  pub line_not_11 : fault_of_line ≡ 11 → ⊥
  line_not_11 e = not_rest 11 (λ e. omega arith) (λ e. omega arith) (λ e. omega arith) (λ e. omega arith) ((line_else 11 (λ e. omega arith) (λ e. omega arith)).0 e).1

  pub record LineNumbers (n : ℕ) : Type 0 where
    pub twelve : (n ≡ 12) ↔ ((length a < area_words) ⊎ (room < area_words))
    pub thirteen : (n ≡ 13) ↔ ((area_words ≤ length a) × (area_words ≤ room) × (Left a → ⊥))
    pub eight : (n ≡ 8) ↔ (Areas a room × (size trace_held < step))
    pub nine : (n ≡ 9) ↔ (Areas a room × ((step ≤ size trace_held) × UnfitSet trace_held set))
    pub ten : (n ≡ 10)
        ↔ (Areas a room × (FitFailure trace_held step set × (((l.count ≡ trace_held.procs) × Permitted trace_held (rule_of trace_held) step (usable_at trace_held step) (in_set set) (line_in l)) → ⊥)))

  pub line_accepts : (fault_of_line ≡ 0) ↔ (Areas a room × FitLine trace_held step set l.count (line_in l))
  line_accepts = under (line_else 0 (λ e. omega arith) (λ e. omega arith)) (line_taken trace_held step set l.count (line_in l))

  pub line_numbers : LineNumbers fault_of_line
  line_numbers = record {
    twelve = line_12;
    thirteen = line_13;
    eight = under (line_else 8 (λ e. omega arith) (λ e. omega arith)) (number_8_first trace_held step set l.count (line_in l));
    nine = under (line_else 9 (λ e. omega arith) (λ e. omega arith)) (number_9_next trace_held step set l.count (line_in l));
    ten = under (line_else 10 (λ e. omega arith) (λ e. omega arith)) (number_10 trace_held step set l.count (line_in l));
  }
