-- What an answer holds, as it can be computed: lines, lists of messages, steps. Quotations are from the requirements.
use Rattle.std.specs.Prelude.{Bool, List, [], ◌++◌, map, ℕ, zero, suc, ◌+◌, length, get_or}
use Rattle.theory.specs.Lists.{iv, keep, sum}
use Rattle.theory.specs.Events.{size, sent}
use Rattle.theory.specs.Line.{Run, lost, orphan, kept, orphan_phase}
use Rattle.theory.specs.Replay.{listed}

-- a line given by its numbers; "Places of a line past its N numbers are 0"
abbrev pub line_of : List ℕ → ℕ → ℕ
line_of l z = get_or l z 0

-- a message as the report lists it: from, to, number, phase
pub record Listed : Type 0 where
  pub from : ℕ
  pub to : ℕ
  pub number : ℕ
  pub phase : ℕ

-- f 0 ++ .. ++ f (n - 1)
unfoldable pub gather : {A : Type 0} → (ℕ → List A) → ℕ → List A
gather f zero = []
gather f (suc n) = gather f n ++ f n

module _ (R : Run) where
  -- the messages that pass a test, "by sender, receiver, number"
  unfoldable pub messages : (ℕ → ℕ → ℕ → Bool) → (ℕ → ℕ → ℕ → ℕ) → List Listed
  messages f phase = gather (λ p. gather (λ q.
      map (λ k. record { from = p; to = q; number = k; phase = phase p q k }) (keep (f p q) (iv 0 (sent R.trace p q (size R.trace)))))
      R.trace.procs) R.trace.procs

  abbrev pub orphans : List Listed
  orphans = messages (orphan R) (orphan_phase R)

  abbrev pub kept_ones : List Listed
  kept_ones = messages (kept R) R.carries

  abbrev pub lost_ones : List Listed
  lost_ones = messages (lost R) R.carries

  -- "as many steps as there are listed events after the restarts (after the cut for staying zones) plus kept messages"
  -- (MANUAL 5.8). Listed events go to the end of the trace; the restart of a process that stays is the cut.
  unfoldable pub exact_steps : ℕ
  exact_steps = sum R.trace.procs (λ z. length (listed R z (R.restart z))) + length kept_ones
