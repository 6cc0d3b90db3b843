-- What a restart answers, by its definition: the promises of its contract, and each number that it gives.
use Prim.Native.Nat.{ℕ, min, ◌≤◌, ◌<◌}
use mathlib.Core.Path.{◌≡◌, refl, sym, ap, ◌∙◌}
use mathlib.Core.Bool.{true, ◌&&◌, not}
use mathlib.Core.List.{List}
use native.Mathlib.Omega.{arith}
use lib.ListN.{get_or, get_or-eq_default}
use lib.Dec.{ltb}
use borrow.Author.Tests.{lt-ltb, le-ltb}
use Rattle.words.specs.Area.{words_from}
use Rattle.words.proofs.Area.{length_words, words_at_lem}
use Rattle.words.proofs.Cases.{by_bool, by_lt, clash}
use Rattle.trace.specs.Trace.{Trace}
use Rattle.trace.specs.Fit.{well_formed}
use Rattle.table.specs.Held.{held}
use Rattle.theory.specs.Events.{size}
use Rattle.theory.specs.Epochs.{phase_at, rule_of}
use Rattle.theory.specs.Line.{in_set, stays_in, sent_before, received, received_before, undone, lost, LossFree, restart_in, current, Permitted, Greatest, usable_at, run_at, engine_line}
use Rattle.theory.specs.Inner.Refusals.{FitFailure}
use Rattle.theory.proofs.WellFormed.{valid}
use Rattle.theory.proofs.Epochs.{laws}
use Rattle.theory.proofs.Classes.{lost_within}
use Rattle.theory.proofs.Claims.{finished_usable, greatest_line_lem, greatest_work, floor_finished, none_done}
use Rattle.protocol.proofs.Passes.{held_formed}
use Rattle.recovery_line.specs.declared.Line.{Line}
use Rattle.recovery_line.specs.Given.{each, line_in, line_to, restart_phase_in, numbers_of, back_of}
use Rattle.recovery_line.proofs.Sets.{back_ones_lem, back_bits}
use Rattle.restart.specs.Restart.{RestartAnswer, engine_line_of, restart_by, restart_of, restart_answer, Restarts}
use Rattle.demands.proofs.Numbers.{Left, left_iff, restart_number, failure_numbers_lem}

-- a line as a struct has the numbers that it was made of
module _ (t : Trace) (few : t.procs ≤ 64) (f : ℕ → ℕ) where
  pub each_at : (z : ℕ) → z < t.procs → get_or (words_from (each t f) 0 64) z 0 ≡ f z
  each_at z h = words_at_lem (each t f) 64 z (omega arith) ∙ rw (lt-ltb z t.procs h)

  line_same : (z : ℕ) → z < t.procs → line_in (line_to t f) z ≡ f z
  line_same z h = rw (lt-ltb z t.procs h) (each_at z h)

-- lines that agree on the processes of a trace lose the same
restart_same : (t : Trace) (cut : ℕ) (l m : ℕ → ℕ) (z : ℕ) → l z ≡ m z → restart_in t cut l z ≡ restart_in t cut m z
unfolding restart_in
restart_same t cut l m z e = rw e

lost_same : (t : Trace) (cut : ℕ) (l m : ℕ → ℕ) (p q k : ℕ) → l p ≡ m p → l q ≡ m q → lost (run_at t cut l) p q k ≡ lost (run_at t cut m) p q k
unfolding lost undone received received_before sent_before
lost_same t cut l m p q k a b = rw (restart_same t cut l m p a, restart_same t cut l m q b)

module _ (t : Trace) (w : well_formed t ≡ true) (cut set : ℕ) (cl : cut ≤ size t) where
  abbrev made : Line
  made = line_to t (engine_line t cut set)

  few : t.procs ≤ 64
  few = (valid t w).few

  same : (z : ℕ) → z < t.procs → line_in made z ≡ engine_line t cut set z
  same = line_same t few (engine_line t cut set)

  top : Greatest t (rule_of t) cut (usable_at t cut) (in_set set) (engine_line t cut set)
  top = greatest_line_lem t w (rule_of t) cut cl (usable_at t cut) (finished_usable t w (rule_of t) cut cl) (in_set set)

  loses_nothing : LossFree (run_at t cut (line_in made))
  loses_nothing p q k = by_bool (lost (run_at t cut (line_in made)) p q k)
      (λ u.
      let b = lost_within (run_at t cut (line_in made)) (laws t (rule_of t) (valid t w) cut (line_in made) cl) p q k u in
      clash u (lost_same t cut (line_in made) (engine_line t cut set) p q k (same p b.0) (same q b.1) ∙ top.loss_free p q k))
      (λ u. u)

  greatest_made : Greatest t (rule_of t) cut (usable_at t cut) (in_set set) (line_in made)
  greatest_made = record {
    permitted = λ z h. rw (same z h) (top.permitted z h);
    loss_free = loses_nothing;
    top = λ m a b z h. rw (same z h) (top.top m a b z h);
  }

  pub restarts : Restarts t cut set (restart_by t cut made)
  restarts = record {
    greatest = greatest_made;
    floor = λ y least z lz. floor_finished t w cut cl (in_set set) y least (line_in made) greatest_made z lz;
    none_done = λ h z lz back. none_done t w cut cl (in_set set) h (line_in made) greatest_made.permitted z lz back;
    goes = λ z.
        let places : min t.procs 64 ≡ t.procs = omega (arith, few) in
        back_bits made (length_words (each t (engine_line t cut set)) 0 64) (back_of (numbers_of made)) refl z
        ∙ ap (λ (n : ℕ). ltb z n && not (stays_in (line_in made) z)) places;
    ones_are = refl;
    numbers_are = back_ones_lem (numbers_of made);
  }

-- ---- The answer

module _ (a : List ℕ) (step set : ℕ) (ok : (restart_answer a step set).number ≡ 0) where
  abbrev t : Trace
  t = held a

  fit : Left a × FitFailure t step set
  fit = (failure_numbers_lem a step set).accepts.0 (sym (restart_number a step set) ∙ ok)

  formed : well_formed t ≡ true
  formed = held_formed a ((left_iff a).1 fit.0)

  pub answer_is : restart_answer a step set ≡ restart_by t step (line_to t (engine_line t step set))
  unfolding restart_answer restart_of engine_line_of
  answer_is = rw (sym (restart_number a step set) ∙ ok)

  pub restart_promised : Restarts t step set (restart_answer a step set)
  restart_promised = rw answer_is (restarts t formed step set fit.1.step_most)

  pub epoch_at_lem : (z : ℕ) → z < t.procs → get_or (restart_answer a step set).epochs z 0 ≡ current t (rule_of t) step z
  epoch_at_lem z h = ap (λ (r : RestartAnswer). get_or r.epochs z 0) answer_is ∙ each_at t (valid t formed).few (current t (rule_of t) step) z h

  pub phase_at_lem : (z : ℕ) → z < t.procs
      → get_or (restart_answer a step set).phases z 0 ≡ phase_at t (rule_of t) z (restart_in t step (line_in (restart_answer a step set).line) z)
  phase_at_lem z h =
      let l = line_to t (engine_line t step set) in
      let e : line_in (restart_answer a step set).line ≡ line_in l = ap (λ (r : RestartAnswer). line_in r.line) answer_is in
      ap (λ (r : RestartAnswer). get_or r.phases z 0) answer_is ∙ each_at t (valid t formed).few (restart_phase_in t step (line_in l)) z h ∙ rw e

  pub count_is : (restart_answer a step set).line.count ≡ t.procs
  count_is = ap (λ (r : RestartAnswer). r.line.count) answer_is

  pub number_past : (z : ℕ) → t.procs ≤ z → get_or (restart_answer a step set).line.epochs z 0 ≡ 0
  number_past z h =
      ap (λ (r : RestartAnswer). get_or r.line.epochs z 0) answer_is
      ∙ by_lt z 64
      (λ l. words_at_lem (each t (engine_line t step set)) 64 z l ∙ rw (le-ltb z t.procs h))
      (λ l. get_or-eq_default (words_from (each t (engine_line t step set)) 0 64) 0 {n = z} (omega (arith, length_words (each t (engine_line t step set)) 0 64)))

  pub keeps_most : (m : ℕ → ℕ) → Permitted t (rule_of t) step (usable_at t step) (in_set set) m → LossFree (run_at t step m)
      → (z : ℕ) → z < t.procs → restart_in t step m z ≤ restart_in t step (line_in (restart_answer a step set).line) z
  keeps_most m =
      let cl = fit.1.step_most in
      greatest_work t formed (rule_of t) step cl (usable_at t step) (finished_usable t formed (rule_of t) step cl) (in_set set) (line_in (restart_answer a step set).line) m restart_promised.greatest
