-- What every allowed choice of a replay keeps, whatever the line (proofs/Flow): the messages of a channel only move on
-- from one list to the next, receives done and to do add up, and each process has its listed events from some event on.
use Rattle.std.specs.Prelude.{◌≡◌, Bool, true, false, ◌&&◌, ◌||◌, List, [], ◌∷◌, ◌++◌, map, ℕ, ◌+◌, ◌≤◌, ◌<◌, length, ltb, eqb}
use Rattle.theory.specs.Lists.{keep}
use Rattle.theory.specs.Events.{Kind, send, recv, other, size, kind, sent, rcvd}
use Rattle.theory.specs.Line.{Run}
use Rattle.theory.specs.Replay.{State, listed, start}

-- is it a send to q; is it a receive from p
abbrev pub send_to : ℕ → Kind → Bool
send_to q (send r) = eqb q r
send_to q (recv r) = false
send_to q other = false

abbrev pub recv_from : ℕ → Kind → Bool
recv_from p (send r) = false
recv_from p (recv r) = eqb p r
recv_from p other = false

-- every element has a property
abbrev pub Each : (ℕ → Type 0) → List ℕ → Type 0
Each P [] = Unit {0}
Each P (x ∷ xs) = P x × Each P xs

module _ (R : Run) where
  -- how many messages of the channel were received before the receiver's restart, were received by the cut, were sent
  -- before the sender's restart
  abbrev pub r_before : ℕ → ℕ → ℕ
  r_before p q = rcvd R.trace p q (R.restart q)

  abbrev pub r_cut : ℕ → ℕ → ℕ
  r_cut p q = rcvd R.trace p q R.cut

  abbrev pub s_before : ℕ → ℕ → ℕ
  s_before p q = sent R.trace p q (R.restart p)

  -- is a message kept, of those sent before their sender's restart
  unfoldable pub keptb : ℕ → ℕ → ℕ → Bool
  keptb p q k = ltb (r_before p q) k && (ltb (r_cut p q) k || R.logged p q k)

  abbrev pub Kept : ℕ → ℕ → ℕ → Type 0
  Kept p q k = (0 < k) × (k ≤ s_before p q) × (keptb p q k ≡ true)

  -- the messages that a process has still to send on a channel and that will not be dropped
  unfoldable pub ahead : ℕ → ℕ → List ℕ → List ℕ
  ahead p q l = keep (λ k. ltb (r_before p q) k) (map (sent R.trace p q) (keep (λ e. send_to q (kind R.trace e)) l))

  -- all that has gone or will go through a channel, in order
  abbrev pub flow : State → ℕ → ℕ → List ℕ
  flow s p q = s.got p q ++ (s.chan p q ++ (s.left p q ++ ahead p q (s.todo p)))

  -- the receives that a process has still to do on a channel; with those that it has done
  unfoldable pub number_to_take : ℕ → List ℕ → ℕ
  number_to_take p l = length (keep (λ e. recv_from p (kind R.trace e)) l)

  abbrev pub receipts : State → ℕ → ℕ → ℕ
  receipts s p q = length (s.got p q) + number_to_take p (s.todo q)

  -- how far each process has come: it has to do its events after event `up_to z`
  pub record Cursors (s : State) : Type 0 where
    pub up_to : ℕ → ℕ
    pub from : (z : ℕ) → R.restart z ≤ up_to z
    pub within : (z : ℕ) → up_to z ≤ size R.trace
    pub todo_is : (z : ℕ) → s.todo z ≡ listed R z (up_to z)

  pub record Inv (s : State) : Type 0 where
    pub flows : (p q : ℕ) → flow s p q ≡ flow (start R) p q
    pub taken : (p q : ℕ) → receipts s p q ≡ rcvd R.trace p q (size R.trace)
    pub cursors : Cursors s
    pub lefts : (p q : ℕ) → Each (Kept p q) (s.left p q)
