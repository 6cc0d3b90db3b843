-- What `restart` answers: the engine's line for a failure, who goes back, and what the program prints of each process.
-- Quotations are from the requirements (MANUAL 4).
use Rattle.std.specs.Prelude.{ℕ, ◌<◌, ◌≤◌, ◌≡◌, true, false, ◌&&◌, ◌||◌, not, cond, List, length, replicate, ltb, eqb, Result, Ok, Err}
use Rattle.std.specs.Int.Count.{ones}
use Rattle.words.specs.Area.{words_from}
use Rattle.trace.specs.Trace.{Trace}
use Rattle.table.specs.Held.{held}
use Rattle.theory.specs.Events.{finishes}
use Rattle.theory.specs.Epochs.{rule_of, finished_at}
use Rattle.theory.specs.Line.{in_set, stays_in, current, Greatest, usable_at, unfinished_at, engine_line}
use Rattle.recovery_line.specs.declared.Line.{Line}
use Rattle.recovery_line.specs.Given.{each, line_in, line_to, restart_phase_in, numbers_of, back_of, back_ones}
use Rattle.refusal.specs.declared.Refused.{Refused}
use Rattle.refusal.specs.Refusals.{number_of_refusal}
use Rattle.restart.specs.declared.Restarted.{Restarted}
use Rattle.preparing.specs.Faults.{failure_fault_of}

-- What is answered, refused or not: the number of the refusal, or 0, its place, and the values.
pub record RestartAnswer : Type 0 where
  pub number : ℕ
  pub place : ℕ
  pub line : Line
  pub going : ℕ
  pub back : ℕ
  pub epochs : List ℕ
  pub phases : List ℕ

-- "The engine's line is the greatest without a lost message." "Places of a line past its N numbers are 0 when the
-- engine gives it."
unfoldable pub engine_line_of : Trace → ℕ → ℕ → Line
engine_line_of t step set = line_to t (engine_line t step set)

-- Of each process what a rule says, and 0 past the last: the 64 words of an array in the answer.
abbrev pub of_each : Trace → (ℕ → ℕ) → List ℕ
of_each t f = words_from (each t f) 0 64

-- "Epoch is at the cut; phase is at the restart, or at the cut for 32." "The zones that go back form a set of the same
-- kind, and back is its size."
abbrev pub restart_by : Trace → ℕ → Line → RestartAnswer
restart_by t step l =
    record {
      number = 0;
      place = 0;
      line = l;
      going = back_of (numbers_of l);
      back = ones (back_of (numbers_of l));
      epochs = of_each t (current t (rule_of t) step);
      phases = of_each t (restart_phase_in t step (line_in l));
    }

unfoldable pub restart_of : Trace → ℕ → ℕ → RestartAnswer
restart_of t step set = restart_by t step (engine_line_of t step set)

-- "In a refused answer every other number is 0"
abbrev pub restart_refusal : ℕ → RestartAnswer
restart_refusal n =
    record {
      number = n;
      place = 0;
      line = record { epochs = replicate 64 0; count = 0 };
      going = 0;
      back = 0;
      epochs = replicate 64 0;
      phases = replicate 64 0;
    }

unfoldable pub restart_answer : List ℕ → ℕ → ℕ → RestartAnswer
restart_answer a step set =
    cond (eqb (failure_fault_of a step set) 0) (restart_of (held a) step set) (restart_refusal (failure_fault_of a step set))

-- the answer that a `Result` of the code stands for: its value, or the refusal's number and place, and 0 for the rest
abbrev pub restart_found : Restarted → RestartAnswer
restart_found r =
    record { number = 0; place = 0; line = r.line; going = r.going; back = r.back; epochs = r.epochs; phases = r.phases }

abbrev pub restart_answered : Result Restarted Refused → RestartAnswer
restart_answered (Ok r) = restart_found r
restart_answered (Err e) =
    record {
      number = number_of_refusal e.refusal;
      place = e.place;
      line = record { epochs = replicate 64 0; count = 0 };
      going = 0;
      back = 0;
      epochs = replicate 64 0;
      phases = replicate 64 0;
    }

-- Demand 2, of an answer that is no refusal: permitted, loss-free, at or above every permitted line without loss, for
-- every process. "The floor becomes the smallest, over the failed zones and those with an unfinished save, of the
-- latest finished epoch at the cut." (y's, where none of them has a smaller); "In a trace with no `done`, each zone
-- that goes back goes to epoch 1." The set of those that go back, and its size twice over.
pub record Restarts (t : Trace) (step set : ℕ) (r : RestartAnswer) : Type 0 where
  pub greatest : Greatest t (rule_of t) step (usable_at t step) (in_set set) (line_in r.line)
  pub floor : (y : ℕ)
      → ((z : ℕ) → z < t.procs → (in_set set z || unfinished_at t step z) ≡ true → finished_at t y step ≤ finished_at t z step)
      → (z : ℕ) → z < t.procs → finished_at t y step ≤ line_in r.line z
  pub none_done : ((z e : ℕ) → finishes t z e ≡ false) → (z : ℕ) → z < t.procs → stays_in (line_in r.line) z ≡ false → line_in r.line z ≡ 1
  pub goes : (z : ℕ) → in_set r.going z ≡ (ltb z t.procs && not (stays_in (line_in r.line) z))
  pub ones_are : r.back ≡ ones r.going
  pub numbers_are : r.back ≡ length (back_ones (numbers_of r.line))
