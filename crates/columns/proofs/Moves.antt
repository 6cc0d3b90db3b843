-- How the theory's counts, epochs and phases move at one event, by its kind. From the definitions, and the claims of
-- the theory on what a message carries.
use Prim.Native.Nat.{ℕ, suc, ◌+◌, ◌-◌, ◌<◌, ◌≤◌}
use mathlib.Core.Path.{◌≡◌, refl, sym, ap, ◌∙◌}
use mathlib.Core.Logic.{◌⊎◌, inl, inr, ⊎_elim, ◌≢◌}
use mathlib.Core.Bool.{Bool, true, false, ◌&&◌}
use native.Mathlib.Omega.{arith}
use lib.Dec.{eqb, ltb}
use borrow.Author.Tests.{eq-eqb, ne_eqb}
use Rattle.trace.specs.declared.Event.{Event}
use Rattle.trace.specs.declared.Event.TheVariants.{Send, Recv, Save, Done}
use Rattle.trace.specs.Trace.{Trace}
use Rattle.words.proofs.Cases.{by_eq}
use Rattle.theory.specs.Events.{size, event_at, at, sends, recvs, finishes, sent, rcvd}
use Rattle.theory.specs.Epochs.{Notes, joined, note, notes, epoch_at, phase_at, phase_of, logged_by, rule_of, finished_at}
use Rattle.theory.proofs.Base.{eqb_self, cnt_suc, cnt_skip}
use Rattle.theory.proofs.WellFormed.{Valid}
use Rattle.theory.proofs.Epochs.{phase_recv, phase_of_send, logged_is}

-- is this the channel
pub here : (p q a b : ℕ) → p ≡ a → q ≡ b → eqb p a && eqb q b ≡ true
here p q a b e f = rw (eq-eqb p a e, eq-eqb q b f)

pub elsewhere : (p q a b : ℕ) → ((p ≡ a) × (q ≡ b) → ⊥) → eqb p a && eqb q b ≡ false
elsewhere p q a b n = by_eq p a (λ e. by_eq q b (λ f. absurd (n (e, f))) (λ g. rw (eq-eqb p a e, ne_eqb q b g))) (λ g. rw (ne_eqb p a g))

module _ (t : Trace) (x : ℕ) where
  noted : (v : Event) → event_at t (suc x) ≡ v → notes t (rule_of t) (suc x) ≡ note t (rule_of t) (notes t (rule_of t) x) (suc x) v
  unfolding notes
  noted v e = ap (note t (rule_of t) (notes t (rule_of t) x) (suc x)) e

  -- a send of a to b
  module _ (a b v : ℕ) (e : event_at t (suc x) ≡ Send a b v) where
    pub send_at : at t (suc x) ≡ a
    unfolding at
    send_at = rw e

    pub send_here : sends t a b (suc x) ≡ true
    unfolding sends
    send_here = rw e (here a b a b refl refl)

    pub send_else : (p q : ℕ) → ((p ≡ a) × (q ≡ b) → ⊥) → sends t p q (suc x) ≡ false
    unfolding sends
    send_else p q n = rw e (elsewhere p q a b n)

    pub send_recvs : (p q : ℕ) → recvs t p q (suc x) ≡ false
    unfolding recvs
    send_recvs p q = rw e

    pub send_epoch : (z : ℕ) → epoch_at t (rule_of t) z (suc x) ≡ epoch_at t (rule_of t) z x
    unfolding note
    send_epoch z = ap (λ (n : Notes). n.epochs z) (noted (Send a b v) e)

    pub send_phase : (z : ℕ) → phase_at t (rule_of t) z (suc x) ≡ phase_at t (rule_of t) z x
    unfolding note
    send_phase z = ap (λ (n : Notes). n.phases z) (noted (Send a b v) e)

    pub send_finished : (z : ℕ) → finished_at t z (suc x) ≡ finished_at t z x
    unfolding finishes
    send_finished z = ap suc (cnt_skip (finishes t z) x (rw e))

  -- a receive of a from b
  module _ (a b : ℕ) (e : event_at t (suc x) ≡ Recv a b) where
    pub recv_at : at t (suc x) ≡ a
    unfolding at
    recv_at = rw e

    pub recv_here : recvs t b a (suc x) ≡ true
    unfolding recvs
    recv_here = rw e (here b a b a refl refl)

    pub recv_else : (p q : ℕ) → ((p ≡ b) × (q ≡ a) → ⊥) → recvs t p q (suc x) ≡ false
    unfolding recvs
    recv_else p q n = rw e (elsewhere p q b a n)

    pub recv_sends : (p q : ℕ) → sends t p q (suc x) ≡ false
    unfolding sends
    recv_sends p q = rw e

    pub recv_epoch : (z : ℕ) → epoch_at t (rule_of t) z (suc x) ≡ epoch_at t (rule_of t) z x
    unfolding note
    recv_epoch z = ap (λ (n : Notes). n.epochs z) (noted (Recv a b) e)

    pub recv_finished : (z : ℕ) → finished_at t z (suc x) ≡ finished_at t z x
    unfolding finishes
    recv_finished z = ap suc (cnt_skip (finishes t z) x (rw e))

    pub recv_phase_other : (z : ℕ) → z ≢ a → phase_at t (rule_of t) z (suc x) ≡ phase_at t (rule_of t) z x
    unfolding note
    recv_phase_other z n = ap (λ (n : Notes). n.phases z) (noted (Recv a b) e) ∙ rw (ne_eqb z a n)

    -- the message was sent by event d, so that it carries what the columns of d say
    module _ (l : suc x ≤ size t) (d : ℕ) (s : sends t b a d ≡ true) (p : 0 < d) (m : d ≤ size t) (n : sent t b a d ≡ rcvd t b a (suc x)) where
      pub recv_logged_lem : logged_by t (rule_of t) b a (rcvd t b a (suc x)) ≡ ltb (epoch_at t (rule_of t) b d) (epoch_at t (rule_of t) a x)
      recv_logged_lem =
          ap (logged_by t (rule_of t) b a) (sym n) ∙ logged_is t (rule_of t) b a d (suc x) s recv_here p (omega arith) m l n
          ∙ ap (λ (k : ℕ). ltb (epoch_at t (rule_of t) b d) k) (recv_epoch a)

      pub recv_phase_lem : Valid t
          → phase_at t (rule_of t) a (suc x) ≡ joined (ltb (epoch_at t (rule_of t) b d) (epoch_at t (rule_of t) a x)) (phase_at t (rule_of t) a x) (phase_at t (rule_of t) b d)
      recv_phase_lem A =
          phase_recv t (rule_of t) A b a x recv_here l
          ∙ ap (λ (c : Bool). joined c (phase_at t (rule_of t) a x) (phase_of t (rule_of t) b a (rcvd t b a (suc x)))) recv_logged_lem
          ∙ ap (λ (k : ℕ). joined (ltb (epoch_at t (rule_of t) b d) (epoch_at t (rule_of t) a x)) (phase_at t (rule_of t) a x) (phase_of t (rule_of t) b a k)) (sym n)
          ∙ ap (λ (k : ℕ). joined (ltb (epoch_at t (rule_of t) b d) (epoch_at t (rule_of t) a x)) (phase_at t (rule_of t) a x) k) (phase_of_send t (rule_of t) b a d s p m)

  -- a local event of a, by which its epoch and its phase rise by u: a checkpoint, or the end of one
  abbrev pub Local : ℕ → ℕ → Type 0
  Local a u = ((event_at t (suc x) ≡ Save a) × (u ≡ 1)) ⊎ ((event_at t (suc x) ≡ Done a) × (u ≡ 0))

  module _ (a u : ℕ) (l : Local a u) where
    pub local_at : at t (suc x) ≡ a
    unfolding at
    local_at = ⊎_elim (λ e. rw e.0) (λ e. rw e.0) l

    pub local_sends : (p q : ℕ) → sends t p q (suc x) ≡ false
    unfolding sends
    local_sends p q = ⊎_elim (λ e. rw e.0) (λ e. rw e.0) l

    pub local_recvs : (p q : ℕ) → recvs t p q (suc x) ≡ false
    unfolding recvs
    local_recvs p q = ⊎_elim (λ e. rw e.0) (λ e. rw e.0) l

    pub local_epoch : epoch_at t (rule_of t) a (suc x) ≡ epoch_at t (rule_of t) a x + u
    unfolding note
    local_epoch = ⊎_elim
        (λ e. ap (λ (n : Notes). n.epochs a) (noted (Save a) e.0) ∙ rw (eqb_self a, e.1) (omega arith))
        (λ e. ap (λ (n : Notes). n.epochs a) (noted (Done a) e.0) ∙ rw e.1 (omega arith))
        l

    pub local_phase : phase_at t (rule_of t) a (suc x) ≡ phase_at t (rule_of t) a x + u
    unfolding note
    local_phase = ⊎_elim
        (λ e. ap (λ (n : Notes). n.phases a) (noted (Save a) e.0) ∙ rw (eqb_self a, e.1) (omega arith))
        (λ e. ap (λ (n : Notes). n.phases a) (noted (Done a) e.0) ∙ rw e.1 (omega arith))
        l

    pub local_epoch_other : (z : ℕ) → z ≢ a → epoch_at t (rule_of t) z (suc x) ≡ epoch_at t (rule_of t) z x
    unfolding note
    local_epoch_other z n = ⊎_elim
        (λ e. ap (λ (n : Notes). n.epochs z) (noted (Save a) e.0) ∙ rw (ne_eqb z a n))
        (λ e. ap (λ (n : Notes). n.epochs z) (noted (Done a) e.0))
        l

    pub local_phase_other : (z : ℕ) → z ≢ a → phase_at t (rule_of t) z (suc x) ≡ phase_at t (rule_of t) z x
    unfolding note
    local_phase_other z n = ⊎_elim
        (λ e. ap (λ (n : Notes). n.phases z) (noted (Save a) e.0) ∙ rw (ne_eqb z a n))
        (λ e. ap (λ (n : Notes). n.phases z) (noted (Done a) e.0))
        l

    pub local_finished : finished_at t a (suc x) ≡ finished_at t a x + (1 - u)
    unfolding finishes
    local_finished = ⊎_elim
        (λ e. omega (arith, cnt_skip (finishes t a) x (rw e.0), e.1))
        (λ e. omega (arith, cnt_suc (finishes t a) x (rw e.0 (eqb_self a)), e.1))
        l

    pub local_finished_other : (z : ℕ) → z ≢ a → finished_at t z (suc x) ≡ finished_at t z x
    unfolding finishes
    local_finished_other z n = ⊎_elim
        (λ e. ap suc (cnt_skip (finishes t z) x (rw e.0)))
        (λ e. ap suc (cnt_skip (finishes t z) x (rw e.0 (ne_eqb z a n))))
        l

  -- the two kinds
  pub save_local : (a : ℕ) → event_at t (suc x) ≡ Save a → Local a 1
  save_local a e = inl (e, refl)

  pub done_local : (a : ℕ) → event_at t (suc x) ≡ Done a → Local a 0
  done_local a e = inr (e, refl)
