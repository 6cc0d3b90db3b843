-- What every allowed choice keeps, whatever the line: the messages of a channel only move on from one list to the next
-- (I1, I2), receives done and to do add up (I3), and each process has its listed events from some event on. From the
-- definitions of specs/Replay.
use mathlib.Core.Path.{◌≡◌, refl, sym, ◌∙◌, ap, subst}
use mathlib.Core.Logic.{inl, inr}
use mathlib.Core.Bool.{Bool, true, false, ◌&&◌, cond}
use mathlib.Core.List.{List, [], ◌∷◌, ◌++◌, append_assoc}
use mathlib.Core.Option.{some, some-injective, none-ne-some}
use Prim.Native.Nat.{ℕ, suc, ◌+◌, ◌-◌, ◌≤◌, ◌<◌}
use native.Mathlib.Omega.{arith}
use lib.ListN.{length-append}
use lib.Dec.{leb, ltb, eqb}
use borrow.Author.Tests.{leb-true, leb-false, eqb-true, lt-ltb, le-ltb, eq-eqb}
use Rattle.theory.specs.Lists.{iv, keep, put}
use Rattle.theory.specs.Inner.Lists.{has}
use Rattle.theory.specs.Events.{Kind, send, recv, other, size, at, kind, sent}
use Rattle.theory.specs.Line.{Run, orphan, orphan_phase}
use Rattle.theory.specs.Replay.{Choice, process, hand, State, listed, resends, ready, gate, start, moved, sending, taking, handing, send_step, recv_step, event_step, process_step, hand_step, step}
use Rattle.theory.proofs.Base.{by, on, clash, le?, both, same2, eqb_self, keep_head, has_keep_is, has_iv_not}
use Rattle.theory.specs.Inner.Flow.{Each, send_to, recv_from, r_before, Kept, ahead, flow, number_to_take, receipts, Cursors, Inv}

module _ (R : Run) where
  -- an allowed choice, taken apart
  pub data Did (s : State) : Choice → State → Type 0 where
    did_other : {z e : ℕ} {es : List ℕ} → s.todo z ≡ e ∷ es → kind R.trace e ≡ other → Did s (process z) (moved R s z es)
    did_send : {z e q : ℕ} {es : List ℕ} → s.todo z ≡ e ∷ es → kind R.trace e ≡ send q → s.left z q ≡ [] → Did s (process z) (sending R s z q e es)
    did_recv : {z e p m : ℕ} {es ms : List ℕ} → s.todo z ≡ e ∷ es → kind R.trace e ≡ recv p → s.chan p z ≡ m ∷ ms → Did s (process z) (taking R s z p es m ms)
    did_hand : {p q m : ℕ} {ms : List ℕ} → s.left p q ≡ m ∷ ms → Did s (hand p q) (handing R s p q m ms)

  view_send : (s t : State) (z q e : ℕ) (es l : List ℕ) → s.todo z ≡ e ∷ es → kind R.trace e ≡ send q → s.left z q ≡ l
      → send_step R s z q e es l ≡ some t → Did s (process z) t
  unfolding send_step
  view_send s t z q e es [] h k l d = subst (Did s (process z)) (some-injective _ _ d) (did_send h k l)
  view_send s t z q e es (m ∷ ms) h k l d = absurd (none-ne-some _ d)

  view_recv : (s t : State) (z p e : ℕ) (es l : List ℕ) → s.todo z ≡ e ∷ es → kind R.trace e ≡ recv p → s.chan p z ≡ l
      → recv_step R s z p es l ≡ some t → Did s (process z) t
  unfolding recv_step
  view_recv s t z p e es [] h k l d = absurd (none-ne-some _ d)
  view_recv s t z p e es (m ∷ ms) h k l d = subst (Did s (process z)) (some-injective _ _ d) (did_recv h k l)

  view_event : (s t : State) (z e : ℕ) (es : List ℕ) (k : Kind) → s.todo z ≡ e ∷ es → kind R.trace e ≡ k
      → event_step R s z e es k ≡ some t → Did s (process z) t
  unfolding event_step
  view_event s t z e es (send q) h k d = view_send s t z q e es (s.left z q) h k refl d
  view_event s t z e es (recv p) h k d = view_recv s t z p e es (s.chan p z) h k refl d
  view_event s t z e es other h k d = subst (Did s (process z)) (some-injective _ _ d) (did_other h k)

  view_process : (s t : State) (z : ℕ) (l : List ℕ) (b : Bool) → s.todo z ≡ l → process_step R s z l b ≡ some t → Did s (process z) t
  unfolding process_step
  view_process s t z [] b h d = absurd (none-ne-some _ d)
  view_process s t z (e ∷ es) true h d = view_event s t z e es (kind R.trace e) h refl d
  view_process s t z (e ∷ es) false h d = absurd (none-ne-some _ d)

  view_hand : (s t : State) (p q : ℕ) (l : List ℕ) → s.left p q ≡ l → hand_step R s p q l ≡ some t → Did s (hand p q) t
  unfolding hand_step
  view_hand s t p q [] h d = absurd (none-ne-some _ d)
  view_hand s t p q (m ∷ ms) h d = by (ready R s (R.carries p q m))
      (λ e. subst (Did s (hand p q)) (some-injective _ _ (rw e at d)) (did_hand h))
      (λ e. absurd (none-ne-some _ (rw e at d)))

  pub view : (s t : State) (c : Choice) → step R s c ≡ some t → Did s c t
  unfolding step
  view s t (process z) d = view_process s t z (s.todo z) (ready R s (gate R z)) refl d
  view s t (hand p q) d = view_hand s t p q (s.left p q) refl d

  pub ahead_skip : (p q e : ℕ) (es : List ℕ) → send_to q (kind R.trace e) ≡ false → ahead R p q (e ∷ es) ≡ ahead R p q es
  unfolding ahead keep
  ahead_skip p q e es h = rw h

  pub ahead_send : (p q e : ℕ) (es : List ℕ) → send_to q (kind R.trace e) ≡ true
      → ahead R p q (e ∷ es) ≡ cond (leb (sent R.trace p q e) (r_before R p q)) (ahead R p q es) (sent R.trace p q e ∷ ahead R p q es)
  unfolding ahead keep
  ahead_send p q e es h = by (leb (sent R.trace p q e) (r_before R p q))
      (λ t. let u : ltb (r_before R p q) (sent R.trace p q e) ≡ false = le-ltb (r_before R p q) (sent R.trace p q e) (leb-true (sent R.trace p q e) (r_before R p q) t) in rw (h, t, u))
      (λ t. let u : ltb (r_before R p q) (sent R.trace p q e) ≡ true = lt-ltb (r_before R p q) (sent R.trace p q e) (leb-false (sent R.trace p q e) (r_before R p q) t) in rw (h, t, u))

  -- an event that is no send to q leaves what is ahead on (p, q) as it was
  pub ahead_put : (s : State) (z e : ℕ) (es : List ℕ) → s.todo z ≡ e ∷ es → (p q : ℕ) → (p ≡ z → send_to q (kind R.trace e) ≡ false)
      → ahead R p q (put s.todo z es p) ≡ ahead R p q (s.todo p)
  ahead_put s z e es h p q k = by (eqb p z)
      (λ t. let i : p ≡ z = eqb-true p z t in
      let j : s.todo p ≡ e ∷ es = cc in
      rw (t, j) (sym (ahead_skip p q e es (k i))))
      (λ t. rw t)

  send_flow : (s : State) (z r e : ℕ) (es : List ℕ) → s.todo z ≡ e ∷ es → kind R.trace e ≡ send r → s.left z r ≡ []
      → flow R (sending R s z r e es) z r ≡ flow R s z r
  send_flow s z r e es h k l =
      let d : send_to r (kind R.trace e) ≡ true = rw k (eqb_self r) in
      rw (eqb_self z, eqb_self r, h, l, ahead_send z r e es d) (by (leb (sent R.trace z r e) (r_before R z r))
      (λ t. rw t)
      (λ t. rw t (ap (λ x. s.got z r ++ x) (append_assoc (s.chan z r) (sent R.trace z r e ∷ []) _))))

  pub same_flow : (s t : State) (c : Choice) → Did s c t → (p q : ℕ) → flow R t p q ≡ flow R s p q
  same_flow s t c (did_other {z = z} {e = e} {es = es} h k) p q = rw (ahead_put s z e es h p q (λ i. rw k))
  same_flow s t c (did_send {z = z} {e = e} {q = r} {es = es} h k l) p q = by (eqb p z && eqb q r)
      (λ b. let i = same2 p z q r b in
      subst (λ x. flow R (sending R s z r e es) x q ≡ flow R s x q) (sym i.0)
      (subst (λ y. flow R (sending R s z r e es) z y ≡ flow R s z y) (sym i.1) (send_flow s z r e es h k l)))
      (λ b. rw (b, ahead_put s z e es h p q (λ i. rw k (rw (eq-eqb p z i) at b))))
  same_flow s t c (did_recv {z = z} {e = e} {p = r} {m = m} {es = es} {ms = ms} h k l) p q =
      rw (ahead_put s z e es h p q (λ i. rw k)) (by (eqb p r && eqb q z)
      (λ b. let i : p ≡ r = (same2 p r q z b).0 in
      let j : q ≡ z = (same2 p r q z b).1 in
      let u : s.chan p q ≡ m ∷ ms = cc in
      let v : s.got r z ≡ s.got p q = cc in
      rw (b, u, v) (append_assoc (s.got p q) (m ∷ []) _))
      (λ b. rw b))
  same_flow s t c (did_hand {p = a} {q = r} {m = m} {ms = ms} h) p q = by (eqb p a && eqb q r)
      (λ b. let i : p ≡ a = (same2 p a q r b).0 in
      let j : q ≡ r = (same2 p a q r b).1 in
      let u : s.left p q ≡ m ∷ ms = cc in
      let v : s.chan a r ≡ s.chan p q = cc in
      rw (b, u, v) (ap (λ x. s.got p q ++ x) (append_assoc (s.chan p q) (m ∷ []) _)))
      (λ b. rw b)

  pub put_same : {A : Type 0} (F : List ℕ → A) (f : ℕ → List ℕ) (z e : ℕ) (es : List ℕ) → f z ≡ e ∷ es → (x : ℕ)
      → (x ≡ z → F (e ∷ es) ≡ F es) → F (put f z es x) ≡ F (f x)
  put_same F f z e es h x k = by (eqb x z)
      (λ t. let i : x ≡ z = eqb-true x z t in
      let j : f x ≡ e ∷ es = cc in
      rw (t, j) (sym (k i)))
      (λ t. rw t)

  pub to_take_skip : (p e : ℕ) (es : List ℕ) → recv_from p (kind R.trace e) ≡ false → number_to_take R p (e ∷ es) ≡ number_to_take R p es
  unfolding number_to_take keep
  to_take_skip p e es h = rw h

  pub to_take_recv : (p e : ℕ) (es : List ℕ) → recv_from p (kind R.trace e) ≡ true → number_to_take R p (e ∷ es) ≡ suc (number_to_take R p es)
  unfolding number_to_take keep
  to_take_recv p e es h = rw h

  recv_receipts : (s : State) (z r e m : ℕ) (es ms : List ℕ) → s.todo z ≡ e ∷ es → kind R.trace e ≡ recv r
      → receipts R (taking R s z r es m ms) r z ≡ receipts R s r z
  recv_receipts s z r e m es ms h k =
      let d : recv_from r (kind R.trace e) ≡ true = rw k (eqb_self r) in
      rw (eqb_self z, eqb_self r, h, to_take_recv r e es d, length-append (s.got r z) (m ∷ [])) (omega arith)

  pub same_receipts : (s t : State) (c : Choice) → Did s c t → (p q : ℕ) → receipts R t p q ≡ receipts R s p q
  same_receipts s t c (did_other {z = z} {e = e} {es = es} h k) p q =
      rw (put_same (number_to_take R p) s.todo z e es h q (λ i. to_take_skip p e es (rw k)))
  same_receipts s t c (did_send {z = z} {e = e} {q = r} {es = es} h k l) p q =
      rw (put_same (number_to_take R p) s.todo z e es h q (λ i. to_take_skip p e es (rw k)))
  same_receipts s t c (did_recv {z = z} {e = e} {p = r} {m = m} {es = es} {ms = ms} h k l) p q = by (eqb p r && eqb q z)
      (λ b. let i = same2 p r q z b in
      subst (λ x. receipts R (taking R s z r es m ms) x q ≡ receipts R s x q) (sym i.0)
      (subst (λ y. receipts R (taking R s z r es m ms) r y ≡ receipts R s r y) (sym i.1) (recv_receipts s z r e m es ms h k)))
      (λ b. rw (
        b,
        put_same (number_to_take R p) s.todo z e es h q
            (λ i. to_take_skip p e es (rw k (by (eqb p r) (λ u. clash (eq-eqb q z i) (rw u at b)) (λ u. u)))),
      ))
  same_receipts s t c (did_hand {p = a} {q = r} {m = m} {ms = ms} h) p q = refl

  pub listed_head : (z x e : ℕ) (es : List ℕ) → x ≤ size R.trace → listed R z x ≡ e ∷ es
      → (x < e) × (e ≤ size R.trace) × (at R.trace e ≡ z) × (es ≡ listed R z e)
  unfolding listed
  listed_head z x e es h k =
      let r = keep_head (λ e. eqb z (at R.trace e)) x (size R.trace - x) e es k in
      let j : x + (size R.trace - x) ≡ size R.trace = omega arith in
      (r.0, omega (arith, r.1), sym (eqb-true z (at R.trace e) r.2), rw j at r.3)

  -- the next listed event of a process
  pub at_head : (s : State) → Cursors R s → (z e : ℕ) (es : List ℕ) → s.todo z ≡ e ∷ es
      → (R.restart z < e) × (e ≤ size R.trace) × (at R.trace e ≡ z) × (es ≡ listed R z e)
  at_head s c z e es h =
      let r = listed_head z (c.up_to z) e es (c.within z) (sym (c.todo_is z) ∙ h) in
      (omega (arith, r.0, c.from z), r.1, r.2, r.3)

  next_cursors : (s t : State) (z e : ℕ) (es : List ℕ) → s.todo z ≡ e ∷ es → t.todo ≡ put s.todo z es → Cursors R s → Cursors R t
  next_cursors s t z e es h j c =
      let r = at_head s c z e es h in
      record {
        up_to = put c.up_to z e;
        from = λ y. by (eqb y z) (λ b. let i : y ≡ z = eqb-true y z b in rw (b, i) (omega (arith, r.0))) (λ b. rw b (c.from y));
        within = λ y. by (eqb y z) (λ b. rw b r.1) (λ b. rw b (c.within y));
        todo_is = λ y. ap (λ f. f y) j ∙ by (eqb y z) (λ b. let i : y ≡ z = eqb-true y z b in rw (b, i) r.3) (λ b. rw b (c.todo_is y));
      }

  same_cursors : (s t : State) (c : Choice) → Did s c t → Cursors R s → Cursors R t
  same_cursors s t c (did_other {z = z} {e = e} {es = es} h k) i = next_cursors s t z e es h refl i
  same_cursors s t c (did_send {z = z} {e = e} {q = r} {es = es} h k l) i = next_cursors s t z e es h refl i
  same_cursors s t c (did_recv {z = z} {e = e} {p = r} {m = m} {es = es} {ms = ms} h k l) i = next_cursors s t z e es h refl i
  same_cursors s t c (did_hand {p = a} {q = r} {m = m} {ms = ms} h) i =
      record { up_to = i.up_to; from = i.from; within = i.within; todo_is = i.todo_is }

  -- an event that a process has still to do
  pub todo_at : (s : State) (c : Cursors R s) (z e : ℕ) → has e (s.todo z) ≡ true → (c.up_to z < e) × (e ≤ size R.trace) × (at R.trace e ≡ z)
  unfolding listed
  todo_at s c z e h =
      let x = c.up_to z in
      let d = size R.trace - x in
      let a : has e (keep (λ e. eqb z (at R.trace e)) (iv x d)) ≡ true = rw (← c.todo_is z) h in
      let b = both (eqb z (at R.trace e)) (has e (iv x d)) (sym (has_keep_is e (λ e. eqb z (at R.trace e)) (iv x d)) ∙ a) in (
        on (le? e x) (λ u. clash b.1 (has_iv_not e x d (inl u))) (λ u. u),
        on (le? e (x + d)) (λ u. omega (arith, c.within z)) (λ u. clash b.1 (has_iv_not e x d (inr u))),
        sym (eqb-true z (at R.trace e) b.0),
      )

  -- an event that sends an orphan again
  pub resends_of : (r z e : ℕ) (k : Kind) → resends R r z e k ≡ true
      → (q : ℕ) × (k ≡ send q) × (orphan R z q (sent R.trace z q e) ≡ true) × (orphan_phase R z q (sent R.trace z q e) ≤ r)
  unfolding resends
  resends_of r z e (send q) h =
      let b = both (orphan R z q (sent R.trace z q e)) (leb (orphan_phase R z q (sent R.trace z q e)) r) h in
      (q, refl, b.0, leb-true (orphan_phase R z q (sent R.trace z q e)) r b.1)
  resends_of r z e (recv p) h = clash {b = false} h refl
  resends_of r z e other h = clash {b = false} h refl

  -- the messages left to hand over are kept ones
  pub next_left : (s t : State) (c : Choice) → Did s c t → ((p q : ℕ) → Each (Kept R p q) (s.left p q)) → (p q : ℕ) → Each (Kept R p q) (t.left p q)
  next_left s t c (did_other {z = z} {e = e} {es = es} h k) f p q = f p q
  next_left s t c (did_send {z = z} {e = e} {q = r} {es = es} h k l) f p q = f p q
  next_left s t c (did_recv {z = z} {e = e} {p = r} {m = m} {es = es} {ms = ms} h k l) f p q = f p q
  next_left s t c (did_hand {p = a} {q = r} {m = m} {ms = ms} h) f p q = by (eqb p a && eqb q r)
      (λ b. let i : p ≡ a = (same2 p a q r b).0 in
      let j : q ≡ r = (same2 p a q r b).1 in
      let u : s.left p q ≡ m ∷ ms = cc in
      rw b (rw u at (f p q)).1)
      (λ b. rw b (f p q))

  pub inv_step : (s t : State) (c : Choice) → step R s c ≡ some t → Inv R s → Inv R t
  inv_step s t c h i = let d = view s t c h in record {
    flows = λ p q. same_flow s t c d p q ∙ i.flows p q;
    taken = λ p q. same_receipts s t c d p q ∙ i.taken p q;
    cursors = same_cursors s t c d i.cursors;
    lefts = next_left s t c d i.lefts;
  }

  -- the states that orders lead to, with the number of choices
  pub data Reach : State → ℕ → Type 0 where
    here : Reach (start R) 0
    next : {s t : State} {n : ℕ} (c : Choice) → Reach s n → step R s c ≡ some t → Reach t (suc n)
