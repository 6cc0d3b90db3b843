-- The engine's own line is never refused.
use Prim.Native.Nat.{ℕ, ◌≤◌}
use mathlib.Core.Path.{◌≡◌, sym, ◌∙◌}
use mathlib.Core.List.{List}
use Rattle.words.specs.Area.{area_words}
use Rattle.table.specs.Held.{held}
use Rattle.theory.specs.Refusals.{line_fault}
use Rattle.theory.proofs.Refusals.{failure_fit, line_fit}
use Rattle.recovery_line.specs.Given.{line_in}
use Rattle.restart.specs.Restart.{RestartAnswer}
use Rattle.preparing.specs.Faults.{line_fault_of}
use Rattle.protocol.proofs.Passes.{held_long}
use Rattle.preparing.proofs.Preparing.{areas_fit}
use Rattle.restart.proofs.Restarting.{Ready, count_in}

module _ (a : List ℕ) (step set : ℕ) (r : RestartAnswer) (G : Ready a step set r) where
  -- nothing is wrong with the engine's line, so that neither `messages` nor `lowest` refuses it
  pub not_refused : (room : ℕ) → area_words ≤ room → line_fault_of a room step set r.line ≡ 0
  unfolding line_fault_of
  not_refused room h =
      sym (areas_fit a room (line_fault (held a) step set r.line.count (line_in r.line)) (held_long a G.holds) h G.holds)
      ∙ (line_fit (held a) step set r.line.count (line_in r.line)).1
      (record { failure = (failure_fit (held a) step set).0 G.fit; count_is = count_in (held a) step set r G.answer; permitted = G.means.greatest.permitted })
