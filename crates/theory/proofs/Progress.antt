-- Where no message is lost, an event in reach makes a choice allowed, provided that the phases it waits for do: the
-- general part of progress. From the laws of the run and the invariants of Flow. How: take the next listed event of the
-- event's process. It goes ahead, or it waits for its gate or for the phase of a kept message (then a set of events
-- `Pass` says what to do), or it is a receive that finds nothing: then the send of its message is still to do, is an
-- earlier event, and serves in its place.
use mathlib.Core.Path.{◌≡◌, refl, sym, ◌∙◌, ap}
use mathlib.Core.Bool.{true, false}
use mathlib.Core.List.{List, [], ◌∷◌, ◌++◌}
use mathlib.Core.Option.{some}
use Prim.Native.Nat.{ℕ, zero, suc, ◌+◌, ◌-◌, ◌≤◌, ◌<◌}
use native.Mathlib.Omega.{arith}
use lib.ListN.{length, length-append}
use lib.Dec.{ltb, eqb}
use borrow.Author.Tests.{eq-eqb}
use Rattle.theory.specs.Lists.{iv}
use Rattle.theory.specs.Events.{Kind, send, recv, other, size, at, kind, sends, recvs, sent, rcvd}
use Rattle.theory.specs.Line.{Run}
use Rattle.theory.specs.Replay.{Choice, process, hand, State, listed, ready, gate, moved, sending, taking, handing, step}
use Rattle.theory.specs.Inner.Laws.{Laws}
use Rattle.theory.proofs.Base.{by, on, le?, eqb_self, iv_at, keep_length, keep_some, Begins, length_iv}
use Rattle.theory.proofs.Events.{sends_is, recvs_of, sent_le, partner}
use Rattle.theory.specs.Inner.Flow.{recv_from, r_before, Kept, ahead, flow, number_to_take, Inv}
use Rattle.theory.proofs.Classes.{NoLoss}
use Rattle.theory.proofs.Flow.{to_take_recv, at_head}
use Rattle.theory.proofs.Loss.{to_take_listed, ahead_listed, flow_all}

module _ (R : Run) where
  abbrev pub CanStep : State → Type 0
  CanStep s = (c : Choice) × (t : State) × (step R s c ≡ some t)

  pub allow_other : (s : State) (z e : ℕ) (es : List ℕ) → s.todo z ≡ e ∷ es → ready R s (gate R z) ≡ true → kind R.trace e ≡ other → CanStep s
  unfolding step
  allow_other s z e es h g k = (process z, moved R s z es, rw (h, g, k))

  pub allow_send : (s : State) (z q e : ℕ) (es : List ℕ) → s.todo z ≡ e ∷ es → ready R s (gate R z) ≡ true → kind R.trace e ≡ send q → s.left z q ≡ [] → CanStep s
  unfolding step
  allow_send s z q e es h g k l = (process z, sending R s z q e es, rw (h, g, k, l))

  pub allow_recv : (s : State) (z p e m : ℕ) (es ms : List ℕ) → s.todo z ≡ e ∷ es → ready R s (gate R z) ≡ true → kind R.trace e ≡ recv p → s.chan p z ≡ m ∷ ms → CanStep s
  unfolding step
  allow_recv s z p e m es ms h g k l = (process z, taking R s z p es m ms, rw (h, g, k, l))

  pub allow_hand : (s : State) (p q m : ℕ) (ms : List ℕ) → s.left p q ≡ m ∷ ms → ready R s (R.carries p q m) ≡ true → CanStep s
  unfolding step
  allow_hand s p q m ms h g = (hand p q, handing R s p q m ms, rw (h, g))

  module _ (L : Laws R) (N : NoLoss R) (s : State) (i : Inv R s) where
    flow_here : (p q : ℕ) → flow R s p q ≡ iv 0 (sent R.trace p q (size R.trace))
    flow_here p q = i.flows p q ∙ flow_all R L N p q

    -- the next receive on a channel is of the message after those received
    rank : (p z e : ℕ) (es : List ℕ) → s.todo z ≡ e ∷ es → kind R.trace e ≡ recv p → rcvd R.trace p z e ≡ suc (length (s.got p z))
    rank p z e es h k =
        let r = at_head R s i.cursors z e es h in
        let d : recv_from p (kind R.trace e) ≡ true = rw k (eqb_self p) in
        let a : length (s.got p z) + suc (number_to_take R p es) ≡ rcvd R.trace p z (size R.trace) = rw (h, to_take_recv R p e es d) at (i.taken p z) in
        let b : rcvd R.trace p z e + number_to_take R p es ≡ rcvd R.trace p z (size R.trace) = rw r.3 (to_take_listed R p z e r.1) in
        omega arith

    first_left : (p q m : ℕ) (ms : List ℕ) → s.chan p q ≡ [] → s.left p q ≡ m ∷ ms → m ≡ suc (length (s.got p q))
    first_left p q m ms a b =
        let f : s.got p q ++ m ∷ (ms ++ ahead R p q (s.todo p)) ≡ iv 0 (sent R.trace p q (size R.trace)) = rw (a, b) at (flow_here p q) in
        omega (arith, iv_at (s.got p q) m (ms ++ ahead R p q (s.todo p)) 0 (sent R.trace p q (size R.trace)) f)

    not_sent : (p q : ℕ) → s.chan p q ≡ [] → s.left p q ≡ [] → sent R.trace p q (i.cursors.up_to p) ≤ length (s.got p q)
    not_sent p q a b =
        let x = i.cursors.up_to p in
        let w = i.cursors.within p in
        let f : s.got p q ++ ahead R p q (listed R p x) ≡ iv 0 (sent R.trace p q (size R.trace)) = rw (a, b, i.cursors.todo_is p) at (flow_here p q) in
        let g = rw (length-append, length_iv, ahead_listed R p q x w) at (ap length f) in
        let h = keep_length (λ k. ltb (r_before R p q) k) (iv (sent R.trace p q x) (sent R.trace p q (size R.trace) - sent R.trace p q x)) in
        omega (arith, g, rw length_iv at h, sent_le R.trace p q x (size R.trace) w)

    -- what a set of events must have, so that one of it in reach makes a choice allowed
    pub record Pass (C : ℕ → Type 0) : Type 0 where
      pub down : (d e : ℕ) → 0 < d → d ≤ e → e ≤ size R.trace → at R.trace d ≡ at R.trace e → C e → C d
      pub pair : (p q d e : ℕ) → sends R.trace p q d ≡ true → recvs R.trace p q e ≡ true → 0 < d → d < e → e ≤ size R.trace → sent R.trace p q d ≡ rcvd R.trace p q e → C e → C d
      pub gated : (z e : ℕ) → at R.trace e ≡ z → R.restart z < e → e ≤ size R.trace → C e → ready R s (gate R z) ≡ false → CanStep s
      pub send_left : (z q e m : ℕ) → at R.trace e ≡ z → R.restart z < e → e ≤ size R.trace → C e → Kept R z q m → ready R s (R.carries z q m) ≡ false → CanStep s
      pub recv_left : (p z e : ℕ) → recvs R.trace p z e ≡ true → R.restart z < e → e ≤ size R.trace → C e → Kept R p z (rcvd R.trace p z e)
          → ready R s (R.carries p z (rcvd R.trace p z e)) ≡ false → CanStep s

    module _ (C : ℕ → Type 0) (P : Pass C) where
      -- an event e in reach: its process has not come to it
      unfoldable pub Go : ℕ → Type 0
      Go b = (e : ℕ) → e ≤ b → (z : ℕ) → at R.trace e ≡ z → i.cursors.up_to z < e → e ≤ size R.trace → C e → CanStep s

      go_send : (z q e : ℕ) (es : List ℕ) → s.todo z ≡ e ∷ es → C e → ready R s (gate R z) ≡ true → kind R.trace e ≡ send q
          → (l : List ℕ) → s.left z q ≡ l → CanStep s
      go_send z q e es h c g k [] l = allow_send s z q e es h g k l
      go_send z q e es h c g k (m ∷ ms) l = by (ready R s (R.carries z q m))
          (λ r. allow_hand s z q m ms l r)
          (λ r. let a = at_head R s i.cursors z e es h in
          P.send_left z q e m a.2 a.0 a.1 c (rw l at (i.lefts z q)).0 r)

      go_recv : (b : ℕ) → Go b → (z p e : ℕ) (es : List ℕ) → e ≤ suc b → s.todo z ≡ e ∷ es → C e → ready R s (gate R z) ≡ true → kind R.trace e ≡ recv p
          → (l : List ℕ) → s.chan p z ≡ l → (l' : List ℕ) → s.left p z ≡ l' → CanStep s
      unfolding Go
      go_recv b f z p e es le h c g k (m ∷ ms) l l' j = allow_recv s z p e m es ms h g k l
      go_recv b f z p e es le h c g k [] l (m ∷ ms) j = by (ready R s (R.carries p z m))
          (λ r. allow_hand s p z m ms j r)
          (λ r. let a = at_head R s i.cursors z e es h in
          let w : m ≡ rcvd R.trace p z e = first_left p z m ms l j ∙ sym (rank p z e es h k) in
          P.recv_left p z e (recvs_of R.trace p z e a.2 k) a.0 a.1 c (rw w at (rw j at (i.lefts p z)).0) (rw w at r))
      go_recv b f z p e es le h c g k [] l [] j =
          let a = at_head R s i.cursors z e es h in
          let t = recvs_of R.trace p z e a.2 k in
          let d = partner R.trace L.causal p z e t (omega (arith, a.0)) a.1 in
          let x = i.cursors.up_to p in
          let u : x < d.0 = on (le? d.0 x)
          (λ v. absurd (omega (arith, sent_le R.trace p z d.0 x v, d.4, rank p z e es h k, not_sent p z l j)))
          (λ v. v) in
          f d.0 (omega (arith, d.2)) p (sends_is R.trace p z d.0 d.3).0 u (omega (arith, d.2, a.1))
          (P.pair p z d.0 e d.3 t d.1 d.2 a.1 d.4 c)

      go_kind : (b : ℕ) → Go b → (z e : ℕ) (es : List ℕ) → e ≤ suc b → s.todo z ≡ e ∷ es → C e → ready R s (gate R z) ≡ true
          → (k : Kind) → kind R.trace e ≡ k → CanStep s
      go_kind b f z e es le h c g (send q) k = go_send z q e es h c g k (s.left z q) refl
      go_kind b f z e es le h c g (recv p) k = go_recv b f z p e es le h c g k (s.chan p z) refl (s.left p z) refl
      go_kind b f z e es le h c g other k = allow_other s z e es h g k

      pub go_head : (b : ℕ) → Go b → (z e : ℕ) (es : List ℕ) → e ≤ suc b → s.todo z ≡ e ∷ es → C e → CanStep s
      go_head b f z e es le h c = by (ready R s (gate R z))
          (λ g. go_kind b f z e es le h c g (kind R.trace e) refl)
          (λ g. let a = at_head R s i.cursors z e es h in P.gated z e a.2 a.0 a.1 c g)

      begins : (z e : ℕ) → at R.trace e ≡ z → i.cursors.up_to z < e → e ≤ size R.trace → Begins e (s.todo z)
      unfolding listed
      begins z e a u v =
          let x = i.cursors.up_to z in
          rw (i.cursors.todo_is z) (keep_some (λ e. eqb z (at R.trace e)) x (size R.trace - x) e (eq-eqb z (at R.trace e) (sym a)) u
          (omega (arith, i.cursors.within z)))

      pub go : (b : ℕ) → Go b
      unfolding Go
      go zero e le z a u v c = absurd (omega arith)
      go (suc b) e le z a u v c =
          let r = begins z e a u v in
          let x = at_head R s i.cursors z r.0 r.1 r.2 in
          go_head b (go b) z r.0 r.1 (omega (arith, r.3)) r.2
          (P.down r.0 e (omega (arith, x.0)) r.3 v (x.2 ∙ sym a) c)
