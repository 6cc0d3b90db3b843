-- The epochs and phases of a valid trace meet the laws of a recorded run, for every rule of logging, cut and line:
-- `laws`. From the definitions of specs/Epochs and what a well-formed trace has (Events).
use mathlib.Core.Path.{◌≡◌, refl, sym, ◌∙◌, ap}
use mathlib.Core.Logic.{◌≢◌}
use mathlib.Core.Bool.{Bool, true, false, ◌&&◌, cond}
use Prim.Native.Nat.{ℕ, zero, suc, ◌+◌, ◌-◌, ◌≤◌, ◌<◌}
use native.Mathlib.Omega.{arith}
use lib.Dec.{eqb}
use borrow.Author.Tests.{eqb-true}
use Rattle.trace.specs.declared.Event.{Event}
use Rattle.trace.specs.declared.Event.TheVariants.{Send, Recv, Save, Done}
use Rattle.trace.specs.Trace.{Trace, is_send, is_recv, is_save, is_done}
use Rattle.theory.specs.Lists.{cnt, put}
use Rattle.theory.specs.Events.{size, event_at, sends, recvs, checkpoints, finishes, sent, rcvd, recv_of}
use Rattle.theory.specs.Epochs.{Rule, Carried, Notes, joined, note, notes, epoch_at, phase_at, epoch_of, phase_of, logged_by}
use Rattle.theory.specs.Line.{restart_in, recorded}
use Rattle.theory.specs.Inner.Laws.{Laws}
use Rattle.theory.proofs.Base.{by, clash, both, eqb_self, cnt_skip, place_le, place_is}
use Rattle.theory.proofs.Events.{send_not_recv, send_no_checkpoint, sent_le, sent_more, sent_same, recv_of_at}
use Rattle.theory.proofs.WellFormed.{Valid}

-- ---- An event

send_event : (p q : ℕ) (e : Event) → is_send p q e ≡ true → (v : ℕ) × (e ≡ Send p q v)
send_event p q (Send a b v) h =
    let c = both (eqb p a) (eqb q b) h in
    let i : p ≡ a = eqb-true p a c.0 in
    let j : q ≡ b = eqb-true q b c.1 in
    (v, rw (i, j))
send_event p q (Recv a b) h = clash {b = false} h refl
send_event p q (Save a) h = clash {b = false} h refl
send_event p q (Done a) h = clash {b = false} h refl

recv_event : (p q : ℕ) (e : Event) → is_recv p q e ≡ true → e ≡ Recv q p
recv_event p q (Send a b v) h = clash {b = false} h refl
recv_event p q (Recv a b) h =
    let c = both (eqb p b) (eqb q a) h in
    let i : p ≡ b = eqb-true p b c.0 in
    let j : q ≡ a = eqb-true q a c.1 in
    rw (i, j)
recv_event p q (Save a) h = clash {b = false} h refl
recv_event p q (Done a) h = clash {b = false} h refl

checkpoint_event : (z : ℕ) (e : Event) → is_save z e ≡ true → e ≡ Save z
checkpoint_event z (Send a b v) h = clash {b = false} h refl
checkpoint_event z (Recv a b) h = clash {b = false} h refl
checkpoint_event z (Save a) h = let i : z ≡ a = eqb-true z a h in rw i
checkpoint_event z (Done a) h = clash {b = false} h refl

done_event : (z : ℕ) (e : Event) → is_done z e ≡ true → e ≡ Done z
done_event z (Send a b v) h = clash {b = false} h refl
done_event z (Recv a b) h = clash {b = false} h refl
done_event z (Save a) h = clash {b = false} h refl
done_event z (Done a) h = let i : z ≡ a = eqb-true z a h in rw i

joined_own : (b : Bool) (f m : ℕ) → f ≤ joined b f m
joined_own true f m = omega arith
joined_own false f m = omega arith

joined_other : (b : Bool) (f m : ℕ) → m ≤ joined b f m
joined_other true f m = omega arith
joined_other false f m = omega arith

put_le : (f : ℕ → ℕ) (z v : ℕ) → f z ≤ v → (y : ℕ) → f y ≤ put f z v y
put_le f z v h y = by (eqb y z)
    (λ t. let e : y ≡ z = eqb-true y z t in rw (t, e) h)
    (λ t. rw t (omega arith))

pub restart_cut : (t : Trace) (cut : ℕ) (line : ℕ → ℕ) (z : ℕ) → restart_in t cut line z ≤ cut
unfolding restart_in
restart_cut t cut line z = by (eqb (line z) 32) (λ u. rw u (omega arith)) (λ u. rw u (place_le (checkpoints t z) (line z - 1) cut))

module _ (t : Trace) (rule : Rule) where
  note_phase : (n : Notes) (e : ℕ) (v : Event) (z : ℕ) → n.phases z ≤ (note t rule n e v).phases z
  unfolding note
  note_phase n e (Send a b v) z = omega arith
  note_phase n e (Recv a b) z =
      let k = rcvd t b a e in
      let m = n.carried b a k in
      let l = rule b a k m.epoch (n.epochs a) in
      put_le n.phases a (joined l (n.phases a) m.phase) (joined_own l (n.phases a) m.phase) z
  note_phase n e (Save a) z = put_le n.phases a (suc (n.phases a)) (omega arith) z
  note_phase n e (Done a) z = omega arith

  note_epoch : (n : Notes) (e : ℕ) (v : Event) (z : ℕ) → (note t rule n e v).epochs z ≡ cond (is_save z v) (suc (n.epochs z)) (n.epochs z)
  unfolding note
  note_epoch n e (Send a b v) z = refl
  note_epoch n e (Recv a b) z = refl
  note_epoch n e (Save a) z = by (eqb z a) (λ u. let i : a ≡ z = sym (eqb-true z a u) in rw (u, i)) (λ u. rw u)
  note_epoch n e (Done a) z = refl

  note_checkpoint : (n : Notes) (e z : ℕ) → (note t rule n e (Save z)).phases z ≡ suc (n.phases z)
  unfolding note
  note_checkpoint n e z = rw (eqb_self z)

  note_recv : (n : Notes) (e z p : ℕ) → let k = rcvd t p z e in let m = n.carried p z k in
      (note t rule n e (Recv z p)).phases z ≡ joined (rule p z k m.epoch (n.epochs z)) (n.phases z) m.phase
  unfolding note
  note_recv n e z p = rw (eqb_self z)

  note_send : (n : Notes) (e z q v : ℕ) → (note t rule n e (Send z q v)).carried z q (sent t z q e) ≡ record { epoch = n.epochs z; phase = n.phases z }
  unfolding note
  note_send n e z q v = rw (eqb_self z, eqb_self q, eqb_self (sent t z q e))

  -- what a message carries is noted once
  note_keeps : (n : Notes) (e : ℕ) (v : Event) (p q k : ℕ) → (is_send p q v ≡ true → k ≢ sent t p q e) → (note t rule n e v).carried p q k ≡ n.carried p q k
  unfolding note
  note_keeps n e (Send a b v) p q k h = by (eqb p a && (eqb q b && eqb k (sent t a b e)))
      (λ u. let c = both (eqb p a) (eqb q b && eqb k (sent t a b e)) u in
      let d = both (eqb q b) (eqb k (sent t a b e)) c.1 in
      let i : p ≡ a = eqb-true p a c.0 in
      let j : q ≡ b = eqb-true q b d.0 in
      let w : sent t a b e ≡ sent t p q e = rw (i, j) in
      absurd (h (rw (c.0, d.0)) (eqb-true k (sent t a b e) d.1 ∙ w)))
      (λ u. rw u)
  note_keeps n e (Recv a b) p q k h = refl
  note_keeps n e (Save a) p q k h = refl
  note_keeps n e (Done a) p q k h = refl

  -- ---- The notes

  phase_up : (z x : ℕ) → phase_at t rule z x ≤ phase_at t rule z (suc x)
  unfolding notes
  phase_up z x = note_phase (notes t rule x) (suc x) (event_at t (suc x)) z

  noted : (x : ℕ) (v : Event) → event_at t (suc x) ≡ v → notes t rule (suc x) ≡ note t rule (notes t rule x) (suc x) v
  unfolding notes
  noted x v e = ap (note t rule (notes t rule x) (suc x)) e

  -- the end of a checkpoint changes nothing that is noted
  pub done_notes : (z x : ℕ) → finishes t z (suc x) ≡ true → notes t rule (suc x) ≡ notes t rule x
  unfolding finishes note
  done_notes z x h = noted x (Done z) (done_event z (event_at t (suc x)) h)

  phase_checkpoint : (z x : ℕ) → checkpoints t z (suc x) ≡ true → phase_at t rule z x < phase_at t rule z (suc x)
  unfolding checkpoints
  phase_checkpoint z x h =
      let e = ap (λ n. n.phases z) (noted x (Save z) (checkpoint_event z (event_at t (suc x)) h)) in
      omega (arith, e, note_checkpoint (notes t rule x) (suc x) z)

  -- the epoch is one more than the number of checkpoints
  pub epoch_is : (x z : ℕ) → epoch_at t rule z x ≡ suc (cnt (checkpoints t z) x)
  unfolding notes cnt checkpoints
  epoch_is zero z = refl
  epoch_is (suc x) z = note_epoch (notes t rule x) (suc x) (event_at t (suc x)) z ∙ by (is_save z (event_at t (suc x)))
      (λ u. rw (u, epoch_is x z)) (λ u. rw (u, epoch_is x z))

  once : (p q y k : ℕ) → k ≤ sent t p q y → is_send p q (event_at t (suc y)) ≡ true → k ≢ sent t p q (suc y)
  once p q y k a u i = omega (arith, sent_more t y p q (unfold sends in u))

  carried_add : (p q k x d : ℕ) → k ≤ sent t p q x → (notes t rule (x + d)).carried p q k ≡ (notes t rule x).carried p q k
  unfolding notes
  carried_add p q k x zero h = let e : x + zero ≡ x = omega arith in rw e
  carried_add p q k x (suc d) h =
      let e : x + suc d ≡ suc (x + d) = omega arith in
      let l = sent_le t p q x (x + d) (omega arith) in
      rw e (note_keeps (notes t rule (x + d)) (suc (x + d)) (event_at t (suc (x + d))) p q k (once p q (x + d) k (omega arith)) ∙ carried_add p q k x d h)

  carried_later : (p q k x y : ℕ) → k ≤ sent t p q x → x ≤ y → (notes t rule y).carried p q k ≡ (notes t rule x).carried p q k
  carried_later p q k x y h l = let e : y ≡ x + (y - x) = omega arith in rw e (carried_add p q k x (y - x) h)

  -- a message carries its sender's epoch and phase, which a send leaves as they were
  carried_send : (p q x : ℕ) → sends t p q (suc x) ≡ true
      → (notes t rule (suc x)).carried p q (sent t p q (suc x)) ≡ record { epoch = epoch_at t rule p x; phase = phase_at t rule p x }
  unfolding sends
  carried_send p q x h =
      let v = send_event p q (event_at t (suc x)) h in
      ap (λ n. n.carried p q (sent t p q (suc x))) (noted x (Send p q v.0) v.1) ∙ note_send (notes t rule x) (suc x) p q v.0

  epoch_of_send : (p q x : ℕ) → sends t p q (suc x) ≡ true → suc x ≤ size t → epoch_of t rule p q (sent t p q (suc x)) ≡ epoch_at t rule p x
  epoch_of_send p q x h l = ap (λ c. c.epoch) (carried_later p q (sent t p q (suc x)) (suc x) (size t) (omega arith) l ∙ carried_send p q x h)

  pub epoch_of_at : (p q d : ℕ) → sends t p q d ≡ true → 0 < d → d ≤ size t → epoch_of t rule p q (sent t p q d) ≡ epoch_at t rule p d
  epoch_of_at p q zero h a b = absurd (omega arith)
  epoch_of_at p q (suc x) h a b = omega (
    arith,
    epoch_of_send p q x h (omega arith),
    epoch_is x p,
    epoch_is (suc x) p,
    cnt_skip (checkpoints t p) x (send_no_checkpoint t p q (suc x) h),
  )

  send_same : (p q x : ℕ) → sends t p q (suc x) ≡ true → phase_at t rule p (suc x) ≡ phase_at t rule p x
  unfolding sends note
  send_same p q x h = let v = send_event p q (event_at t (suc x)) h in ap (λ n. n.phases p) (noted x (Send p q v.0) v.1)

  pub phase_of_send : (p q e : ℕ) → sends t p q e ≡ true → 0 < e → e ≤ size t → phase_of t rule p q (sent t p q e) ≡ phase_at t rule p e
  phase_of_send p q zero h a b = absurd (omega arith)
  phase_of_send p q (suc x) h a b =
      ap (λ c. c.phase) (carried_later p q (sent t p q (suc x)) (suc x) (size t) (omega arith) b ∙ carried_send p q x h) ∙ sym (send_same p q x h)

  recv_epoch : (p q x : ℕ) → recvs t p q (suc x) ≡ true → epoch_at t rule q (suc x) ≡ epoch_at t rule q x
  unfolding recvs note
  recv_epoch p q x h = ap (λ n. n.epochs q) (noted x (Recv q p) (recv_event p q (event_at t (suc x)) h))

  -- what the rule says of a message, by the epochs of its send d and its receive e
  pub logged_is : (p q d e : ℕ) → sends t p q d ≡ true → recvs t p q e ≡ true → 0 < d → 0 < e → d ≤ size t → e ≤ size t → sent t p q d ≡ rcvd t p q e
      → logged_by t rule p q (sent t p q d) ≡ rule p q (sent t p q d) (epoch_at t rule p d) (epoch_at t rule q e)
  unfolding logged_by
  logged_is p q d e u v a b m n i =
      let k = sent t p q d in
      let j : recv_of t p q k ≡ e = ap (recv_of t p q) i ∙ recv_of_at t p q e v b n in
      ap (λ x. rule p q k x (epoch_at t rule q (recv_of t p q k))) (epoch_of_at p q d u a m) ∙ ap (λ x. rule p q k (epoch_at t rule p d) (epoch_at t rule q x)) j

  -- ---- What a receive finds

  module _ (A : Valid t) (p q x : ℕ) (h : recvs t p q (suc x) ≡ true) (l : suc x ≤ size t) where
    no_send : sends t p q (suc x) ≡ false
    no_send = by (sends t p q (suc x)) (λ u. absurd (send_not_recv t p q (suc x) (suc x) u h refl)) (λ u. u)

    found : (notes t rule (size t)).carried p q (rcvd t p q (suc x)) ≡ (notes t rule x).carried p q (rcvd t p q (suc x))
    found = carried_later p q (rcvd t p q (suc x)) x (size t) (omega (arith, sent_same t x p q no_send, A.causal p q (suc x) l)) (omega arith)

    -- the epoch of the receive
    epoch_recv : epoch_at t rule q (recv_of t p q (rcvd t p q (suc x))) ≡ epoch_at t rule q x
    epoch_recv = rw (recv_of_at t p q (suc x) h (omega arith) l) (recv_epoch p q x h)

    message : Carried
    message = (notes t rule x).carried p q (rcvd t p q (suc x))

    logged_here : logged_by t rule p q (rcvd t p q (suc x)) ≡ rule p q (rcvd t p q (suc x)) message.epoch (epoch_at t rule q x)
    unfolding logged_by message
    logged_here =
        ap (λ (c : Carried). rule p q (rcvd t p q (suc x)) c.epoch (epoch_at t rule q (recv_of t p q (rcvd t p q (suc x))))) found
        ∙ ap (rule p q (rcvd t p q (suc x)) message.epoch) epoch_recv

    pub phase_recv : phase_at t rule q (suc x)
        ≡ joined (logged_by t rule p q (rcvd t p q (suc x))) (phase_at t rule q x) (phase_of t rule p q (rcvd t p q (suc x)))
    unfolding recvs message
    phase_recv =
        ap (λ n. n.phases q) (noted x (Recv q p) (recv_event p q (event_at t (suc x)) h))
        ∙ note_recv (notes t rule x) (suc x) q p
        ∙ ap (λ b. joined b (phase_at t rule q x) message.phase) (sym logged_here)
        ∙ ap (λ (c : Carried). joined (logged_by t rule p q (rcvd t p q (suc x))) (phase_at t rule q x) c.phase) (sym found)

    at_least : phase_of t rule p q (rcvd t p q (suc x)) ≤ phase_at t rule q (suc x)
    at_least = rw phase_recv (joined_other (logged_by t rule p q (rcvd t p q (suc x))) _ _)

    above : logged_by t rule p q (rcvd t p q (suc x)) ≡ true → phase_of t rule p q (rcvd t p q (suc x)) < phase_at t rule q (suc x)
    above g = rw (phase_recv, g) (omega arith)

  -- ---- The laws

  module _ (A : Valid t) (cut : ℕ) (line : ℕ → ℕ) (cl : cut ≤ size t) where
    law_recv : (p q e : ℕ) → recvs t p q e ≡ true → 0 < e → e ≤ size t → phase_of t rule p q (rcvd t p q e) ≤ phase_at t rule q e
    law_recv p q zero h a b = absurd (omega arith)
    law_recv p q (suc x) h a b = at_least A p q x h b

    law_logged : (p q e : ℕ) → recvs t p q e ≡ true → 0 < e → e ≤ size t → logged_by t rule p q (rcvd t p q e) ≡ true
        → phase_of t rule p q (rcvd t p q e) < phase_at t rule q e
    law_logged p q zero h a b g = absurd (omega arith)
    law_logged p q (suc x) h a b g = above A p q x h b g

    pub laws : Laws (recorded t rule cut line)
    laws = record {
      few = A.few;
      process_lt = A.process_lt;
      peer_lt = A.peer_lt;
      causal = A.causal;
      phase_pos = λ z. unfold notes in omega arith;
      phase_up = phase_up;
      phase_checkpoint = phase_checkpoint;
      carries_send = phase_of_send;
      carries_recv = law_recv;
      carries_logged = law_logged;
      cut_le = cl;
      restart_le = restart_cut t cut line;
      stay = λ z h. unfold restart_in in rw h;
      back = λ z h. unfold restart_in in rw h (place_is (checkpoints t z) (line z - 1) cut);
    }

-- epochs do not depend on the rule of logging
pub epoch_same : (t : Trace) (rule other : Rule) (z x : ℕ) → epoch_at t rule z x ≡ epoch_at t other z x
epoch_same t rule other z x = epoch_is t rule x z ∙ sym (epoch_is t other x z)
