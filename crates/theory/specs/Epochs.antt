-- Epochs, phases, logged messages (MANUAL 3.3 to 3.6), for any rule that says of each received message whether it is
-- logged. Quotations are from the requirements.
use Rattle.std.specs.Prelude.{Bool, true, false, ℕ, zero, suc, max, ltb}
use Rattle.trace.specs.declared.Event.{Event}
use Rattle.trace.specs.declared.Event.TheVariants.{Send, Recv, Save, Done}
use Rattle.trace.specs.Trace.{Trace}
use Rattle.theory.specs.Lists.{cnt, put, put3}
use Rattle.theory.specs.Events.{size, event_at, finishes, sent, rcvd, recv_of}

-- A rule: is message k from p to q, sent in epoch a and received in epoch b, logged.
abbrev pub Rule : Type 0
Rule = (p q k a b : ℕ) → Bool

-- "It is logged when send epoch < receive epoch." (Definition 4 prints "at least"; line 36 of Figure 3 decides.)
abbrev pub past : Rule
past p q k a b = ltb a b

-- the rule of a trace
abbrev pub rule_of : Trace → Rule
rule_of t = past

-- "A message carries its sender's epoch and phase at the send."
pub record Carried : Type 0 where
  pub epoch : ℕ
  pub phase : ℕ

-- What the protocol has noted when some events are done: each process's epoch and phase, and what message k from p to q
-- carries.
pub record Notes : Type 0 where
  pub epochs : ℕ → ℕ
  pub phases : ℕ → ℕ
  pub carried : ℕ → ℕ → ℕ → Carried

-- "At a receive the phase becomes the larger of the zone's own and the message's, or, if logged, of the zone's own and
-- the message's plus 1." The process's phase f, the message's m.
abbrev pub joined : Bool → ℕ → ℕ → ℕ
joined true f m = max f (suc m)
joined false f m = max f m

module _ (t : Trace) (rule : Rule) where
  -- "A zone begins with epoch 1 and phase 1"
  abbrev pub begun : Notes
  begun = record { epochs = λ z. 1; phases = λ z. 1; carried = λ p q k. record { epoch = 0; phase = 0 } }

  -- Event number e. A send of z to q is message `sent z q e`; a receive of z from p takes message `rcvd p z e`.
  unfoldable pub note : Notes → ℕ → Event → Notes
  note n e (Send z q val) = record {
    epochs = n.epochs;
    phases = n.phases;
    carried = put3 n.carried z q (sent t z q e) (record { epoch = n.epochs z; phase = n.phases z });
  }
  note n e (Recv z p) =
      let k = rcvd t p z e in
      let m = n.carried p z k in
      record {
        epochs = n.epochs;
        phases = put n.phases z (joined (rule p z k m.epoch (n.epochs z)) (n.phases z) m.phase);
        carried = n.carried;
      }
  -- "A save raises both by one, and the saved state carries the raised values."
  note n e (Save z) = record {
    epochs = put n.epochs z (suc (n.epochs z));
    phases = put n.phases z (suc (n.phases z));
    carried = n.carried;
  }
  -- "Epochs and phases rise at the save as before." (as before there was a `done`)
  note n e (Done z) = n

  -- the notes after event x
  unfoldable pub notes : ℕ → Notes
  notes zero = begun
  notes (suc x) = note (notes x) (suc x) (event_at t (suc x))

  -- the epoch and the phase of process z after event x
  abbrev pub epoch_at : ℕ → ℕ → ℕ
  epoch_at z x = (notes x).epochs z

  abbrev pub phase_at : ℕ → ℕ → ℕ
  phase_at z x = (notes x).phases z

  -- of message k from p to q: its epoch and its phase, and, if it is received, whether it is logged (a receive changes
  -- no epoch, so that the receiver's epoch is the one after it)
  abbrev pub epoch_of : ℕ → ℕ → ℕ → ℕ
  epoch_of p q k = ((notes (size t)).carried p q k).epoch

  abbrev pub phase_of : ℕ → ℕ → ℕ → ℕ
  phase_of p q k = ((notes (size t)).carried p q k).phase

  unfoldable pub logged_by : ℕ → ℕ → ℕ → Bool
  logged_by p q k = rule p q k (epoch_of p q k) (epoch_at q (recv_of t p q k))

-- The latest finished epoch of process z after event x (MANUAL 3.4). "A `done` finishes the oldest unfinished save of
-- A", so that the finished epochs are those from 1 to this one, "epoch 1 being always finished".
abbrev pub finished_at : Trace → ℕ → ℕ → ℕ
finished_at t z x = suc (cnt (finishes t z) x)
