-- The laws of a recorded run with a failure and a line: the only thing that the theorems of recovery use.
use Rattle.std.specs.Prelude.{◌≡◌, ◌⊎◌, true, false, ℕ, suc, ◌≤◌, ◌<◌}
use Rattle.theory.specs.Events.{send, size, at, kind, sends, recvs, checkpoints, sent, rcvd}
use Rattle.theory.specs.Line.{Run}

pub record Laws (R : Run) : Type 0 where
  -- the processes of events are processes of the run
  pub few : R.trace.procs ≤ 64
  pub process_lt : (e : ℕ) → 0 < e → e ≤ size R.trace → at R.trace e < R.trace.procs
  pub peer_lt : (e q : ℕ) → 0 < e → e ≤ size R.trace → kind R.trace e ≡ send q → q < R.trace.procs
  -- no message is received before it is sent
  pub causal : (p q x : ℕ) → x ≤ size R.trace → rcvd R.trace p q x ≤ sent R.trace p q x
  -- a process begins in phase 1 or above; its phase never falls; a checkpoint raises it
  pub phase_pos : (z : ℕ) → 0 < R.phase z 0
  pub phase_up : (z x : ℕ) → R.phase z x ≤ R.phase z (suc x)
  pub phase_checkpoint : (z x : ℕ) → checkpoints R.trace z (suc x) ≡ true → R.phase z x < R.phase z (suc x)
  -- a message carries its sender's phase at the send; its receiver's phase after the receive is not below it, and above
  -- it if it is logged
  pub carries_send : (p q e : ℕ) → sends R.trace p q e ≡ true → 0 < e → e ≤ size R.trace
      → R.carries p q (sent R.trace p q e) ≡ R.phase p e
  pub carries_recv : (p q e : ℕ) → recvs R.trace p q e ≡ true → 0 < e → e ≤ size R.trace
      → R.carries p q (rcvd R.trace p q e) ≤ R.phase q e
  pub carries_logged : (p q e : ℕ) → recvs R.trace p q e ≡ true → 0 < e → e ≤ size R.trace
      → R.logged p q (rcvd R.trace p q e) ≡ true → R.carries p q (rcvd R.trace p q e) < R.phase q e
  -- the line: a process that stays restarts at the cut, one that goes back at its start or right after a checkpoint
  pub cut_le : R.cut ≤ size R.trace
  pub restart_le : (z : ℕ) → R.restart z ≤ R.cut
  pub stay : (z : ℕ) → R.stays z ≡ true → R.restart z ≡ R.cut
  pub back : (z : ℕ) → R.stays z ≡ false → (R.restart z ≡ 0) ⊎ (checkpoints R.trace z (R.restart z) ≡ true)
