-- The events of a trace by number: what a send, a receive, a checkpoint is, and messages by their events. From the
-- definitions of specs/Events.
use mathlib.Core.Path.{◌≡◌, refl, sym, ◌∙◌, ap}
use mathlib.Core.Logic.{◌≢◌}
use mathlib.Core.Bool.{true, false, ◌&&◌}
use Prim.Native.Nat.{ℕ, suc, ◌≤◌, ◌<◌}
use native.Mathlib.Omega.{arith}
use lib.Dec.{eqb}
use borrow.Author.Tests.{eqb-true}
use Rattle.trace.specs.declared.Event.{Event}
use Rattle.trace.specs.declared.Event.TheVariants.{Send, Recv, Save, Done}
use Rattle.trace.specs.Trace.{Trace, is_send, is_recv, is_save}
use Rattle.theory.specs.Events.{Kind, send, recv, other, kind_of, process_of, size, event_at, at, kind, sends, recvs, checkpoints, sent, rcvd, send_of, recv_of}
use Rattle.theory.proofs.Base.{by, clash, both, eqb_self, cnt_suc, cnt_skip, cnt_le, cnt_lt, cnt_find, place_at}
use Rattle.theory.specs.Inner.Flow.{send_to, recv_from}

-- ---- The kinds of events

send_split : (p q : ℕ) (e : Event) → is_send p q e ≡ (eqb p (process_of e) && send_to q (kind_of e))
send_split p q (Send a b v) = refl
send_split p q (Recv a b) = by (eqb p a) (λ t. rw t) (λ t. rw t)
send_split p q (Save a) = by (eqb p a) (λ t. rw t) (λ t. rw t)
send_split p q (Done a) = by (eqb p a) (λ t. rw t) (λ t. rw t)

recv_split : (p q : ℕ) (e : Event) → is_recv p q e ≡ (eqb q (process_of e) && recv_from p (kind_of e))
recv_split p q (Send a b v) = by (eqb q a) (λ t. rw t) (λ t. rw t)
recv_split p q (Recv a b) = by (eqb q a) (λ t. by (eqb p b) (λ u. rw (t, u)) (λ u. rw (t, u))) (λ t. by (eqb p b) (λ u. rw (t, u)) (λ u. rw (t, u)))
recv_split p q (Save a) = by (eqb q a) (λ t. rw t) (λ t. rw t)
recv_split p q (Done a) = by (eqb q a) (λ t. rw t) (λ t. rw t)

checkpoint_split : (z : ℕ) (e : Event) → is_save z e ≡ true → (process_of e ≡ z) × (kind_of e ≡ other)
checkpoint_split z (Send a b v) h = clash {b = false} h refl
checkpoint_split z (Recv a b) h = clash {b = false} h refl
checkpoint_split z (Save a) h = (sym (eqb-true z a h), refl)
checkpoint_split z (Done a) h = clash {b = false} h refl

send_to_is : (q : ℕ) (k : Kind) → send_to q k ≡ true → k ≡ send q
send_to_is q (send r) h = ap send (sym (eqb-true q r h))
send_to_is q (recv r) h = clash {b = false} h refl
send_to_is q other h = clash {b = false} h refl

recv_from_is : (p : ℕ) (k : Kind) → recv_from p k ≡ true → k ≡ recv p
recv_from_is p (send r) h = clash {b = false} h refl
recv_from_is p (recv r) h = ap recv (sym (eqb-true p r h))
recv_from_is p other h = clash {b = false} h refl

module _ (t : Trace) where
  pub sends_split : (p q e : ℕ) → sends t p q e ≡ (eqb p (at t e) && send_to q (kind t e))
  unfolding sends at kind
  sends_split p q e = send_split p q (event_at t e)

  pub recvs_split : (p q e : ℕ) → recvs t p q e ≡ (eqb q (at t e) && recv_from p (kind t e))
  unfolding recvs at kind
  recvs_split p q e = recv_split p q (event_at t e)

  pub sends_is : (p q e : ℕ) → sends t p q e ≡ true → (at t e ≡ p) × (kind t e ≡ send q)
  sends_is p q e h =
      let b = both (eqb p (at t e)) (send_to q (kind t e)) (sym (sends_split p q e) ∙ h) in
      (sym (eqb-true p (at t e) b.0), send_to_is q (kind t e) b.1)

  pub recvs_is : (p q e : ℕ) → recvs t p q e ≡ true → (at t e ≡ q) × (kind t e ≡ recv p)
  recvs_is p q e h =
      let b = both (eqb q (at t e)) (recv_from p (kind t e)) (sym (recvs_split p q e) ∙ h) in
      (sym (eqb-true q (at t e) b.0), recv_from_is p (kind t e) b.1)

  pub checkpoints_is : (z e : ℕ) → checkpoints t z e ≡ true → (at t e ≡ z) × (kind t e ≡ other)
  unfolding checkpoints at kind
  checkpoints_is z e h = checkpoint_split z (event_at t e) h

  pub sends_of : (p q e : ℕ) → at t e ≡ p → kind t e ≡ send q → sends t p q e ≡ true
  sends_of p q e a k = sends_split p q e ∙ rw (a, k, eqb_self p, eqb_self q)

  pub recvs_of : (p q e : ℕ) → at t e ≡ q → kind t e ≡ recv p → recvs t p q e ≡ true
  recvs_of p q e a k = recvs_split p q e ∙ rw (a, k, eqb_self q, eqb_self p)

  -- events of different kinds are different events
  apart : (d e : ℕ) (k m : Kind) → kind t d ≡ k → kind t e ≡ m → k ≢ m → d ≢ e
  apart d e k m a b n i = n (sym a ∙ ap (kind t) i ∙ b)

  pub send_not_recv : (p q d e : ℕ) → sends t p q d ≡ true → recvs t p q e ≡ true → d ≢ e
  send_not_recv p q d e a b = apart d e (send q) (recv p) (sends_is p q d a).1 (recvs_is p q e b).1 (λ i. let z : ◌≡◌ {A = ℕ} 0 1 = cc in omega arith)

  pub send_not_other : (p q d e : ℕ) → sends t p q d ≡ true → kind t e ≡ other → d ≢ e
  send_not_other p q d e a b = apart d e (send q) other (sends_is p q d a).1 b (λ i. let z : ◌≡◌ {A = ℕ} 0 1 = cc in omega arith)

  pub recv_not_other : (p q d e : ℕ) → recvs t p q d ≡ true → kind t e ≡ other → d ≢ e
  recv_not_other p q d e a b = apart d e (recv p) other (recvs_is p q d a).1 b (λ i. let z : ◌≡◌ {A = ℕ} 0 1 = cc in omega arith)

  pub send_no_checkpoint : (p q d : ℕ) → sends t p q d ≡ true → checkpoints t p d ≡ false
  send_no_checkpoint p q d h = by (checkpoints t p d) (λ u. absurd (send_not_other p q d d h (checkpoints_is p d u).1 refl)) (λ u. u)

  pub recv_no_checkpoint : (p q e : ℕ) → recvs t p q e ≡ true → checkpoints t q e ≡ false
  recv_no_checkpoint p q e h = by (checkpoints t q e) (λ u. absurd (recv_not_other p q e e h (checkpoints_is q e u).1 refl)) (λ u. u)

  -- ---- Messages by number

  pub sent_le : (p q x y : ℕ) → x ≤ y → sent t p q x ≤ sent t p q y
  unfolding sent
  sent_le p q x y h = cnt_le (sends t p q) x y h

  pub rcvd_le : (p q x y : ℕ) → x ≤ y → rcvd t p q x ≤ rcvd t p q y
  unfolding rcvd
  rcvd_le p q x y h = cnt_le (recvs t p q) x y h

  pub sent_lt : (p q x e : ℕ) → sends t p q e ≡ true → x < e → sent t p q x < sent t p q e
  unfolding sent
  sent_lt p q x e t h = cnt_lt (sends _ p q) x e t h

  pub rcvd_lt : (p q x e : ℕ) → recvs t p q e ≡ true → x < e → rcvd t p q x < rcvd t p q e
  unfolding rcvd
  rcvd_lt p q x e t h = cnt_lt (recvs _ p q) x e t h

  -- one event more
  pub sent_more : (x p q : ℕ) → sends t p q (suc x) ≡ true → sent t p q (suc x) ≡ suc (sent t p q x)
  unfolding sent
  sent_more x p q h = cnt_suc (sends t p q) x h

  pub sent_same : (x p q : ℕ) → sends t p q (suc x) ≡ false → sent t p q (suc x) ≡ sent t p q x
  unfolding sent
  sent_same x p q h = cnt_skip (sends t p q) x h

  pub rcvd_more : (x p q : ℕ) → recvs t p q (suc x) ≡ true → rcvd t p q (suc x) ≡ suc (rcvd t p q x)
  unfolding rcvd
  rcvd_more x p q h = cnt_suc (recvs t p q) x h

  pub rcvd_same : (x p q : ℕ) → recvs t p q (suc x) ≡ false → rcvd t p q (suc x) ≡ rcvd t p q x
  unfolding rcvd
  rcvd_same x p q h = cnt_skip (recvs t p q) x h

  -- the event of a message's number
  pub send_of_lem : (p q k x : ℕ) → 0 < k → k ≤ sent t p q x → (d : ℕ) × (0 < d) × (d ≤ x) × (sends t p q d ≡ true) × (sent t p q d ≡ k)
  unfolding sent
  send_of_lem p q k x a b = cnt_find (sends t p q) k x a b

  pub recv_of_lem : (p q k x : ℕ) → 0 < k → k ≤ rcvd t p q x → (e : ℕ) × (0 < e) × (e ≤ x) × (recvs t p q e ≡ true) × (rcvd t p q e ≡ k)
  unfolding rcvd
  recv_of_lem p q k x a b = cnt_find (recvs t p q) k x a b

  pub send_of_at : (p q e : ℕ) → sends t p q e ≡ true → 0 < e → e ≤ size t → send_of t p q (sent t p q e) ≡ e
  unfolding sent send_of
  send_of_at p q e h a b = place_at (sends t p q) e (size t) h a b

  pub recv_of_at : (p q e : ℕ) → recvs t p q e ≡ true → 0 < e → e ≤ size t → recv_of t p q (rcvd t p q e) ≡ e
  unfolding rcvd recv_of
  recv_of_at p q e h a b = place_at (recvs t p q) e (size t) h a b

  -- the send of the message that a receive takes is before it
  pub partner : ((p q x : ℕ) → x ≤ size t → rcvd t p q x ≤ sent t p q x) → (p q e : ℕ) → recvs t p q e ≡ true → 0 < e → e ≤ size t
      → (d : ℕ) × (0 < d) × (d < e) × (sends t p q d ≡ true) × (sent t p q d ≡ rcvd t p q e)
  partner c p q e r a b =
      let l : 0 < rcvd t p q e = omega (arith, rcvd_lt p q 0 e r a) in
      let f = send_of_lem p q (rcvd t p q e) e l (c p q e b) in
      let n : f.0 ≢ e = send_not_recv p q f.0 e f.3 r in
      (f.0, f.1, omega (arith, f.2), f.3, f.4)
