-- The recovery line (MANUAL 4): what a line may hold, where it restarts each process, and what becomes of each message.
-- Quotations are from the requirements.
use Rattle.std.specs.Prelude.{◌≡◌, Bool, true, false, ◌&&◌, ◌||◌, not, cond, ℕ, zero, suc, ◌-◌, ◌*◌, ◌/◌, ◌%◌, ◌^◌, ◌≤◌, ◌<◌, leb, ltb, eqb}
use Rattle.std.proofs.Math.Option.{Option, none, some}
use Rattle.trace.specs.Trace.{Trace}
use Rattle.theory.specs.Lists.{cnt, place, last_of, if_some, first, put}
use Rattle.theory.specs.Events.{size, checkpoints, finishes, send_of, recv_of}
use Rattle.theory.specs.Epochs.{Rule, rule_of, epoch_at, phase_at, epoch_of, phase_of, logged_by, finished_at}

-- ---- The failure: the cut, "right after event K", and who failed: "M a 64-bit number in decimal whose bit z says that
-- zone z failed"
abbrev pub in_set : ℕ → ℕ → Bool
in_set m z = eqb (m / 2 ^ z % 2) 1

-- ---- A line: one number for each process, an epoch, "or 32, which means the zone stays as it was at the cut"
abbrev pub stays_in : (ℕ → ℕ) → ℕ → Bool
stays_in line z = eqb (line z) 32

-- "A restart in an epoch is right after the save that raised the zone to it, in epoch 1 at the zone's start. For a zone
-- that stays, the cut takes the place of its restart in every rule." Checkpoint number e - 1 of the process raised it
-- to epoch e.
unfoldable pub restart_in : Trace → ℕ → (ℕ → ℕ) → ℕ → ℕ
restart_in t cut line z = cond (stays_in line z) cut (place (checkpoints t z) (line z - 1) cut)

-- What a line may hold for process z, where `usable z e` says that it can restart in epoch e: such an epoch, or 32.
-- "Failed zones may not stay."
abbrev pub may : (ℕ → ℕ → Bool) → (ℕ → Bool) → ℕ → ℕ → Bool
may usable failed z n = usable z n || (eqb n 32 && not (failed z))

-- ---- A recorded run with a failure and a recovery line: all that recovery knows. What holds of it is said by `Laws`.
pub record Run : Type 0 where
  pub trace : Trace
  -- the phase of process z after event x
  pub phase : ℕ → ℕ → ℕ
  -- of message k from p to q: the phase that it carries, and whether it is logged
  pub carries : ℕ → ℕ → ℕ → ℕ
  pub logged : ℕ → ℕ → ℕ → Bool
  -- "The cut is right after event K."
  pub cut : ℕ
  -- does process z stay as it was at the cut; and right after which event it restarts, the cut if it stays
  pub stays : ℕ → Bool
  pub restart : ℕ → ℕ

-- ---- What becomes of message k from p to q. "Only events up to K count here."
module _ (R : Run) where
  -- sent before its sender's restart; sent at or after it
  unfoldable pub sent_before : ℕ → ℕ → ℕ → Bool
  sent_before p q k = ltb 0 (send_of R.trace p q k) && leb (send_of R.trace p q k) (R.restart p)

  unfoldable pub sent_after : ℕ → ℕ → ℕ → Bool
  sent_after p q k = ltb (R.restart p) (send_of R.trace p q k) && leb (send_of R.trace p q k) R.cut

  -- received; received before its receiver's restart
  unfoldable pub received : ℕ → ℕ → ℕ → Bool
  received p q k = ltb 0 (recv_of R.trace p q k) && leb (recv_of R.trace p q k) R.cut

  unfoldable pub received_before : ℕ → ℕ → ℕ → Bool
  received_before p q k = ltb 0 (recv_of R.trace p q k) && leb (recv_of R.trace p q k) (R.restart q)

  -- "undone: received, at or after its receiver's restart"
  unfoldable pub undone : ℕ → ℕ → ℕ → Bool
  undone p q k = received p q k && not (received_before p q k)

  -- "lost: undone, sent before its sender's restart, and not logged"
  unfoldable pub lost : ℕ → ℕ → ℕ → Bool
  lost p q k = undone p q k && (sent_before p q k && not (R.logged p q k))

  -- "orphan: sent at or after its sender's restart, received before its receiver's"
  unfoldable pub orphan : ℕ → ℕ → ℕ → Bool
  orphan p q k = sent_after p q k && received_before p q k

  -- "kept: sent before its sender's restart, and either undone and logged, or not yet received at the cut"
  unfoldable pub kept : ℕ → ℕ → ℕ → Bool
  kept p q k = sent_before p q k && ((undone p q k && R.logged p q k) || not (received p q k))

  -- "An orphan's phase is its sender's at the send: Definition 9 decides over the receiver's table of Figure 3."
  unfoldable pub orphan_phase : ℕ → ℕ → ℕ → ℕ
  orphan_phase p q k = R.carries p q k

  -- the line loses no message
  abbrev pub LossFree : Type 0
  LossFree = (p q k : ℕ) → lost p q k ≡ false

module _ (t : Trace) (rule : Rule) (cut : ℕ) where
  -- the recorded run with this failure and a line
  abbrev pub recorded : (ℕ → ℕ) → Run
  recorded line = record {
    trace = t;
    phase = phase_at t rule;
    carries = phase_of t rule;
    logged = logged_by t rule;
    cut = cut;
    stays = stays_in line;
    restart = restart_in t cut line;
  }

  -- the epoch of process z at the cut
  abbrev pub current : ℕ → ℕ
  current z = epoch_at t rule z cut

  -- ---- Which lines are permitted, and which is the greatest

  module _ (usable : ℕ → ℕ → Bool) (failed : ℕ → Bool) where
    abbrev pub Permitted : (ℕ → ℕ) → Type 0
    Permitted l = (z : ℕ) → z < t.procs → may usable failed z (l z) ≡ true

    -- "Lines are compared zone by zone. The engine's line is the greatest without a lost message."
    pub record Greatest (l : ℕ → ℕ) : Type 0 where
      pub permitted : Permitted l
      pub loss_free : LossFree (recorded l)
      pub top : (m : ℕ → ℕ) → Permitted m → LossFree (recorded m) → (z : ℕ) → z < t.procs → m z ≤ l z

  -- ---- The same line by lowering: from the highest permitted line, as long as a message is lost, its sender goes down
  -- to the last usable epoch that is not above the epoch of the send
  module _ (usable : ℕ → ℕ → Bool) where
    abbrev pub lower : (ℕ → ℕ) → ℕ → ℕ → ℕ → ℕ → ℕ
    lower l p q k = put l p (last_of (usable p) (epoch_of t rule p q k))

    -- for the first lost message by sender, receiver, number; none where nothing is lost
    abbrev pub lower_if : (ℕ → ℕ) → ℕ → ℕ → ℕ → Option (ℕ → ℕ)
    lower_if l p q k = cond (lost (recorded l) p q k) (some (lower l p q k)) none

    unfoldable pub lowered : (ℕ → ℕ) → Option (ℕ → ℕ)
    lowered l = first (λ p. first (λ q. first (λ k. lower_if l p q k) (suc (size t))) t.procs) t.procs

    -- at most so many times
    unfoldable pub lowering : ℕ → (ℕ → ℕ) → ℕ → ℕ
    lowering zero l = l
    lowering (suc c) l = if_some (lowered l) l (λ m. lowering c m)

    unfoldable pub highest : (ℕ → Bool) → ℕ → ℕ
    highest failed z = cond (failed z) (last_of (usable z) (current z)) 32

    -- each lowering takes at least 1 from a number of at most 32
    unfoldable pub greatest_line : (ℕ → Bool) → ℕ → ℕ
    greatest_line failed = lowering (32 * t.procs) (highest failed)

-- ---- The run of a trace, by its own rule

-- The epochs that each process can restart in (MANUAL 4.2): "Restart lines may name finished epochs only, epoch 1 being
-- always finished".
abbrev pub usable_at : Trace → ℕ → ℕ → ℕ → Bool
usable_at t cut z e = leb 1 e && leb e (finished_at t z cut)

-- has process z an unfinished save at the cut: fewer are finished than made
abbrev pub unfinished_at : Trace → ℕ → ℕ → Bool
unfinished_at t cut z = ltb (cnt (finishes t z) cut) (cnt (checkpoints t z) cut)

-- the recorded run with a failure right after event `cut` and a line
abbrev pub run_at : Trace → ℕ → (ℕ → ℕ) → Run
run_at t cut line = recorded t (rule_of t) cut line

-- "The engine's line is the greatest without a lost message."
abbrev pub engine_line : Trace → ℕ → ℕ → ℕ → ℕ
engine_line t cut set = greatest_line t (rule_of t) cut (usable_at t cut) (in_set set)
