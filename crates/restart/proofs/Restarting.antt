-- Each way out of `restart_from` and `restart`: the answer by its definition, and demand 2.
use Prim.Native.Nat.{ℕ, ◌≤◌}
use mathlib.Core.Path.{◌≡◌, refl, sym, ap, ◌∙◌}
use mathlib.Core.Logic.{◌↔◌}
use mathlib.Core.Bool.{true, ◌&&◌, not}
use mathlib.Core.List.{List}
use native.Mathlib.Omega.{arith}
use lib.Count.{ones}
use lib.Dec.{ltb}
use lib.ListN.{length}
use borrow.Author.Tests.{ne_eqb}
use Rattle.trace.specs.Trace.{Trace}
use Rattle.table.specs.Held.{held, holds_trace}
use Rattle.theory.specs.Events.{size}
use Rattle.theory.specs.Epochs.{rule_of}
use Rattle.theory.specs.Line.{in_set, stays_in, current, Greatest, usable_at, engine_line}
use Rattle.theory.specs.Refusals.{failure_fault}
use Rattle.theory.proofs.Claims.{floor_finished, none_done}
use Rattle.recovery_line.specs.declared.Line.{Line}
use Rattle.columns.specs.Inner.Given.{Marked}
use Rattle.columns.proofs.Full.{fit}
use Rattle.recovery_line.proofs.Sets.{places_of}
use Rattle.recovery_line.specs.Given.{line_in, line_to, restart_phase_in, numbers_of, back_of, back_ones}
use Rattle.std.specs.Prelude.{Result, Ok, Err}
use Rattle.refusal.specs.declared.Refused.{Refused}
use Rattle.refusal.proofs.Refusals.{no_number_0}
use Rattle.preparing.specs.Faults.{failure_fault_of}
use Rattle.preparing.specs.Inner.Prepared.{Takeable}
use Rattle.restart.specs.declared.Restarted.{Restarted}
use Rattle.restart.specs.Restart.{engine_line_of, of_each, restart_by, restart_of, restart_refusal, restart_answer, restart_answered, RestartAnswer, Restarts}
use Rattle.restart.specs.Inner.Promise.{RestartPromise}

-- ---- From the full table

module _ (t : Trace) (full : List ℕ) (G : Marked t (rule_of t) full) (cut set : ℕ) (cl : cut ≤ size t) (l : Line)
    (e : l ≡ line_to t (engine_line t cut set)) where
  count_of : l.count ≡ t.procs
  count_of = ap (λ (x : Line). x.count) e

  places_are : places_of l ≡ t.procs
  places_are = omega (arith, count_of, (fit t full G.tabled).few)

  pub made : (s b : ℕ) (x p : List ℕ) → s ≡ back_of (numbers_of l) → b ≡ ones (back_of (numbers_of l)) → x ≡ of_each t (current t (rule_of t) cut)
      → p ≡ of_each t (restart_phase_in t cut (line_in l))
      → record { number = 0; place = 0; line = l; going = s; back = b; epochs = x; phases = p } ≡ restart_of t cut set
  unfolding restart_of engine_line_of
  made s b x p hs hb hx hp = rw (hs, hb, hx, hp) (ap (restart_by t cut) e)

  pub means : (s b : ℕ) (x p : List ℕ) → Greatest t (rule_of t) cut (usable_at t cut) (in_set set) (line_in l)
      → s ≡ back_of (numbers_of l) → ((z : ℕ) → in_set s z ≡ (ltb z (places_of l) && not (stays_in (line_in l) z)))
      → b ≡ ones (back_of (numbers_of l)) → b ≡ length (back_ones (numbers_of l))
      → Restarts t cut set (record { number = 0; place = 0; line = l; going = s; back = b; epochs = x; phases = p })
  means s b x p g hs bits hb hn =
      record {
        greatest = g;
        floor = λ y least z lz. floor_finished t G.tabled.formed cut cl (in_set set) y least (line_in l) g z lz;
        none_done = λ h z lz back. none_done t G.tabled.formed cut cl (in_set set) h (line_in l) g.permitted z lz back;
        goes = λ z. bits z ∙ ap (λ (n : ℕ). ltb z n && not (stays_in (line_in l) z)) places_are;
        ones_are = hb ∙ ap ones (sym hs);
        numbers_are = hn;
      }

module _ (a : List ℕ) (step set : ℕ) where
  -- what the contract promises, of the answer that a result stands for
  abbrev pub Answered : RestartAnswer → Type 0
  Answered r = (r ≡ restart_answer a step set) × (r.number ≡ 0 → Restarts (held a) step set r)

  pub answered : (x : Result Restarted Refused) → RestartPromise a step set x ↔ Answered (restart_answered x)
  answered (Ok r) = (λ p. (p.answer, λ _. p.means), λ q. record { answer = q.0; means = q.1 refl })
  answered (Err e) = (λ p. (p.answer, λ h. absurd (no_number_0 e.refusal h)), λ q. record { answer = q.0; means = tt })

  pub refuses_restart : (n : ℕ) (r : RestartAnswer) → n ≡ failure_fault_of a step set → (n ≡ 0 → ⊥) → r ≡ restart_refusal n → Answered r
  unfolding restart_answer
  refuses_restart n r f z e =
      (e ∙ rw (← f, ne_eqb n 0 z), λ h. absurd (z (sym (ap (λ (x : RestartAnswer). x.number) e) ∙ h)))

  pub answers_restart : (r : RestartAnswer) → 0 ≡ failure_fault_of a step set → r ≡ restart_of (held a) step set → Restarts (held a) step set r → Answered r
  unfolding restart_answer
  answers_restart r f e m = (e ∙ rw (← f), λ _. m)

-- ---- A failure that is not refused

-- a table area that holds a trace, a failure that is fit, and the answer to it
pub record Ready (a : List ℕ) (step set : ℕ) (r : RestartAnswer) : Type 0 where
  pub holds : holds_trace a ≡ true
  pub fit : failure_fault (held a) step set ≡ 0
  pub answer : r ≡ restart_of (held a) step set
  pub means : Restarts (held a) step set r

module _ (t : Trace) (step set : ℕ) (r : RestartAnswer) (e : r ≡ restart_of t step set) where
  pub line_is : r.line ≡ line_to t (engine_line t step set)
  unfolding restart_of engine_line_of
  line_is = ap (λ (x : RestartAnswer). x.line) e

  pub count_in : r.line.count ≡ t.procs
  count_in = ap (λ (l : Line). l.count) line_is

-- the engine's line may be taken
pub engine_takeable : (t : Trace) (full : List ℕ) → Marked t (rule_of t) full → (cut set : ℕ) → cut ≤ size t → (r : RestartAnswer) → r ≡ restart_of t cut set → Restarts t cut set r
    → Takeable t full r.line cut
engine_takeable t full M cut set h r e m =
    record { marked = M; within = h; count_is = count_in t cut set r e; failed = set; permitted = m.greatest.permitted }
