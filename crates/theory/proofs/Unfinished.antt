-- A process whose epoch is above its latest finished one has an unfinished save. (Apart from Claims, so that the edit
-- that fits this law leaves that file as it is.)
use mathlib.Core.Path.{◌≡◌}
use mathlib.Core.Bool.{true}
use Prim.Native.Nat.{ℕ, ◌≤◌, ◌<◌}
use native.Mathlib.Omega.{arith}
use borrow.Author.Tests.{lt-ltb}
use Rattle.trace.specs.Trace.{Trace}
use Rattle.trace.specs.Fit.{well_formed}
use Rattle.theory.specs.Lists.{cnt}
use Rattle.theory.specs.Events.{size, checkpoints, finishes}
use Rattle.theory.specs.Epochs.{rule_of, finished_at}
use Rattle.theory.specs.Line.{current, unfinished_at}
use Rattle.theory.proofs.WellFormed.{valid}
use Rattle.theory.proofs.Lines.{now_is}

module _ (t : Trace) (w : well_formed t ≡ true) (cut : ℕ) (cl : cut ≤ size t) where
  pub unfinished_above : (z : ℕ) → finished_at t z cut < current t (rule_of t) cut z → unfinished_at t cut z ≡ true
  unfinished_above z h = lt-ltb (cnt (finishes t z) cut) (cnt (checkpoints t z) cut) (omega (arith, now_is t (rule_of t) (valid t w) cut cl z))
