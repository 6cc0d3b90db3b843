-- A choice number: allowed by the words exactly where the machine allows it, and then the words stand for the next
-- state. From Facts and Moves.
use mathlib.Core.Path.{◌≡◌, refl, sym, ◌∙◌, ap, subst}
use mathlib.Core.Logic.{◌⊎◌, inl, inr}
use mathlib.Core.Bool.{Bool, true, false}
use mathlib.Core.List.{List, [], ◌∷◌, ◌++◌}
use mathlib.Core.Option.{Option, none, some, bind}
use Prim.Native.Nat.{ℕ, ◌+◌, ◌-◌, ◌*◌, ◌/◌, ◌%◌, ◌≤◌, ◌<◌}
use native.Mathlib.Omega.{arith}
use lib.ListN.{get_or}
use lib.Dec.{ltb, eqb}
use borrow.Author.Tests.{ltb-true, ltb-false, eq-eqb, ne_eqb}
use Rattle.theory.specs.Events.{Kind, send, recv, other, size, kind}
use Rattle.theory.specs.Line.{Run}
use Rattle.theory.specs.Replay.{process, hand, State, ready, gate, moved, sending, taking, handing, send_step, recv_step, event_step, process_step, hand_step, step}
use Rattle.theory.specs.Order.{choice_of, choose}
use Rattle.theory.specs.Inner.Laws.{Laws}
use Rattle.theory.proofs.Base.{by, on}
use Rattle.theory.proofs.Events.{sends_is}
use Rattle.theory.proofs.Flow.{inv_step}
use Rattle.theory.specs.Inner.Flow.{ahead, Inv}
use Rattle.machine.specs.Inner.Words.{no_phase, cur_w, orp_w, take_w, put_w, low_w, send_ok, event_ok, process_ok, hand_ok, allowed_w, moved_w, put_in_w, event_step_w, process_w, apply_w}
use Rattle.columns.specs.Inner.Full.{procs_w, kind_by, kind_w, peer_w, phase_w}
use Rattle.theory.specs.Inner.Lists.{head0}
use Rattle.machine.specs.Inner.Related.{goes, evs, orph, Cols, Chan, Rel}
use Rattle.columns.specs.Inner.Columns.{Tabled}
use Rattle.columns.proofs.Full.{procs_most, size_most, size_is, send_kind}
use Rattle.machine.specs.Inner.Shapes.{SentOn, Aimed}
use Rattle.machine.proofs.Told.{told}
use Rattle.machine.proofs.Facts.{ph_at, evs_head, goes_send, left_none, left_some, to_put, chan_none, chan_some}
use Rattle.machine.proofs.Moves.{at_next, orp_test, rel_other, rel_drop, rel_send, rel_recv, rel_hand}

pub kind_send : (k p q : ℕ) → kind_by k p ≡ send q → (eqb k 1 ≡ true) × (p ≡ q)
unfolding kind_by
kind_send k p q h = by (eqb k 1)
    (λ t. let w : send p ≡ send q = rw t at h in (t, (let e : p ≡ q = cc in e)))
    (λ t. by (eqb k 2)
    (λ u. absurd (let w : recv p ≡ send q = rw (t, u) at h in let z : ◌≡◌ {A = ℕ} 0 1 = cc in omega arith))
    (λ u. absurd (let w : other ≡ send q = rw (t, u) at h in let z : ◌≡◌ {A = ℕ} 0 1 = cc in omega arith)))

pub kind_recv : (k p q : ℕ) → kind_by k p ≡ recv q → (eqb k 1 ≡ false) × (eqb k 2 ≡ true) × (p ≡ q)
unfolding kind_by
kind_recv k p q h = by (eqb k 1)
    (λ t. absurd (let w : send p ≡ recv q = rw t at h in let z : ◌≡◌ {A = ℕ} 0 1 = cc in omega arith))
    (λ t. by (eqb k 2)
    (λ u. let w : recv p ≡ recv q = rw (t, u) at h in (t, u, (let e : p ≡ q = cc in e)))
    (λ u. absurd (let w : other ≡ recv q = rw (t, u) at h in let z : ◌≡◌ {A = ℕ} 0 1 = cc in omega arith)))

pub kind_other : (k p : ℕ) → kind_by k p ≡ other → (eqb k 1 ≡ false) × (eqb k 2 ≡ false)
unfolding kind_by
kind_other k p h = by (eqb k 1)
    (λ t. absurd (let w : send p ≡ other = rw t at h in let z : ◌≡◌ {A = ℕ} 0 1 = cc in omega arith))
    (λ t. by (eqb k 2)
    (λ u. absurd (let w : recv p ≡ other = rw (t, u) at h in let z : ◌≡◌ {A = ℕ} 0 1 = cc in omega arith))
    (λ u. (t, u)))

module _ (R : Run) (L : Laws R) (t l g : List ℕ) (K : Cols R t l g) where
  pub data Agrees (ok : Bool) (b : List ℕ) : Option State → Type 0 where
    refuses : ok ≡ false → Agrees ok b none
    allows : (u : State) → ok ≡ true → Rel R b u → Inv R u → Agrees ok b (some u)

  module _ (a : List ℕ) (s : State) (r : Rel R a s) (i : Inv R s) where
    module _ (z e : ℕ) (es : List ℕ) (hz : z < 64) (h : s.todo z ≡ e ∷ es) (b : ready R s (gate R z) ≡ true) where
      e_cur : cur_w a z ≡ e
      e_cur = r.cur z hz ∙ ap head0 h

      e_in : (0 < e) × (e ≤ size R.trace)
      e_in = let n = at_next R L t l g K s i z e es h in (n.0, n.1)

      z_in : z < R.trace.procs
      z_in = let n = at_next R L t l g K s i z e es h in omega (arith, L.process_lt e n.0 n.1, n.2)

      peer_lt : peer_w t e < 64
      peer_lt = omega arith

      -- the tests before the event's own
      process_ok_lem : process_ok t g a z ≡ event_ok t g a z e
      unfolding process_ok
      process_ok_lem =
          let n0 : eqb (cur_w a z) 0 ≡ false = ne_eqb (cur_w a z) 0 (λ q. omega (arith, e_cur, e_in.0)) in
          let gt : ltb (get_or g z 0) (low_w a) ≡ true = rw (K.gated.gates z z_in) (sym (r.low (gate R z) ((told R t l g K).gate_lt z)) ∙ b) in
          rw (n0, gt, e_cur)

      step_event : (k : Kind) → kind R.trace e ≡ k → step R s (process z) ≡ event_step R s z e es k
      unfolding step process_step
      step_event k f = rw (h, b, f)

      process_w_lem : process_w t l a z ≡ moved_w l (event_step_w t l a z e) z e
      unfolding process_w
      process_w_lem = rw e_cur

      send_agrees : (q : ℕ) → kind R.trace e ≡ send q → (ls : List ℕ) → s.left z q ≡ ls → Agrees (event_ok t g a z e) (moved_w l (event_step_w t l a z e) z e) (send_step R s z q e es ls)
      unfolding event_ok event_step_w send_step
      send_agrees q k [] lf =
          let kk = kind_send (kind_w t e) (peer_w t e) q (sym ((told R t l g K).kinds e e_in.0 e_in.1) ∙ k) in
          let hq : q < 64 = omega (arith, peer_lt, kk.1) in
          let u = sending R s z q e es in
          let so : step R s (process z) ≡ some u = step_event (send q) k ∙ (unfold event_step in unfold send_step in rw lf) in
          let iu = inv_step R s u (process z) so i in
          let ok : send_ok (R.restart z) (put_w a (64 * z + q)) ≡ true = left_none R L s i z q _ _ (r.chan z q hz hq) lf in
          let ot : eqb (orp_w a z) e ≡ orph R z e = ap (λ x. eqb x e) (r.orp z hz) ∙ orp_test R L t l g K s i z e es h in
          by (orph R z e)
          (λ o. let oo : eqb (orp_w a z) e ≡ true = ot ∙ o in
          allows u (rw (kk.0, kk.1, K.gated.places z z_in) ok) (rw (kk.0, oo) (rel_drop R L t l g K a s r i z e es hz h q k o iu)) iu)
          (λ o. let oo : eqb (orp_w a z) e ≡ false = ot ∙ o in
          allows u (rw (kk.0, kk.1, K.gated.places z z_in) ok) (rw (kk.0, kk.1, oo) (rel_send R L t l g K a s r i z e es hz h q hq k o lf)) iu)
      send_agrees q k (m ∷ ms) lf =
          let kk = kind_send (kind_w t e) (peer_w t e) q (sym ((told R t l g K).kinds e e_in.0 e_in.1) ∙ k) in
          let hq : q < 64 = omega (arith, peer_lt, kk.1) in
          let no : send_ok (R.restart z) (put_w a (64 * z + q)) ≡ false = left_some R L s i z q _ _ (r.chan z q hz hq) m ms lf in
          refuses (rw (kk.0, kk.1, K.gated.places z z_in) no)

      recv_agrees : (p : ℕ) → kind R.trace e ≡ recv p → (cs : List ℕ) → s.chan p z ≡ cs → Agrees (event_ok t g a z e) (moved_w l (event_step_w t l a z e) z e) (recv_step R s z p es cs)
      unfolding event_ok event_step_w recv_step
      recv_agrees p k [] cm =
          let kk = kind_recv (kind_w t e) (peer_w t e) p (sym ((told R t l g K).kinds e e_in.0 e_in.1) ∙ k) in
          let hp : p < 64 = omega (arith, peer_lt, kk.2) in
          let no : eqb (take_w a (64 * p + z)) (put_w a (64 * p + z)) ≡ true = chan_none R L s i p z _ _ (r.chan p z hp hz) cm in
          refuses (rw (kk.0, kk.1, kk.2, no))
      recv_agrees p k (m ∷ ms) cm =
          let kk = kind_recv (kind_w t e) (peer_w t e) p (sym ((told R t l g K).kinds e e_in.0 e_in.1) ∙ k) in
          let hp : p < 64 = omega (arith, peer_lt, kk.2) in
          let ok : eqb (take_w a (64 * p + z)) (put_w a (64 * p + z)) ≡ false = chan_some R L s i p z _ _ (r.chan p z hp hz) m ms cm in
          let u = taking R s z p es m ms in
          let so : step R s (process z) ≡ some u = step_event (recv p) k ∙ (unfold event_step in unfold recv_step in rw cm) in
          allows u (rw (kk.0, kk.1, kk.2, ok)) (rw (kk.0, kk.1, kk.2) (rel_recv R L t l g K a s r i z e es hz h p m ms hp k cm)) (inv_step R s u (process z) so i)

      event_agrees : (k : Kind) → kind R.trace e ≡ k → Agrees (event_ok t g a z e) (moved_w l (event_step_w t l a z e) z e) (event_step R s z e es k)
      unfolding event_step event_ok event_step_w
      event_agrees (send q) k = send_agrees q k (s.left z q) refl
      event_agrees (recv p) k = recv_agrees p k (s.chan p z) refl
      event_agrees other k =
          let kk = kind_other (kind_w t e) (peer_w t e) (sym ((told R t l g K).kinds e e_in.0 e_in.1) ∙ k) in
          let u = moved R s z es in
          let so : step R s (process z) ≡ some u = step_event other k ∙ (unfold event_step in refl) in
          allows u (rw (kk.0, kk.1)) (rw (kk.0, kk.1) (rel_other R L t l g K a s r i z e es hz h k)) (inv_step R s u (process z) so i)

    shut_none : (z : ℕ) → cur_w a z ≡ 0 → process_ok t g a z ≡ false
    unfolding process_ok
    shut_none z c = rw (eq-eqb (cur_w a z) 0 c)

    shut_gate : (z : ℕ) → eqb (cur_w a z) 0 ≡ false → ltb (get_or g z 0) (low_w a) ≡ false → process_ok t g a z ≡ false
    unfolding process_ok
    shut_gate z n0 gt = rw (n0, gt)

    step_hand : (p q m : ℕ) (ms : List ℕ) → s.left p q ≡ m ∷ ms → ready R s (R.carries p q m) ≡ true → step R s (hand p q) ≡ some (handing R s p q m ms)
    unfolding step hand_step
    step_hand p q m ms lf rb = rw (lf, rb)

    process_from : (z : ℕ) → z < 64 → (es : List ℕ) → s.todo z ≡ es → (b : Bool) → ready R s (gate R z) ≡ b → Agrees (process_ok t g a z) (process_w t l a z) (process_step R s z es b)
    unfolding process_step
    process_from z hz [] h b k =
        let c : cur_w a z ≡ 0 = r.cur z hz ∙ ap head0 h in
        refuses (shut_none z c)
    process_from z hz (e ∷ es) h true k = rw (process_ok_lem z e es hz h k, process_w_lem z e es hz h k) (event_agrees z e es hz h k (kind R.trace e) refl)
    process_from z hz (e ∷ es) h false k =
        let n = at_next R L t l g K s i z e es h in
        let z_in : z < R.trace.procs = omega (arith, L.process_lt e n.0 n.1, n.2) in
        let c : cur_w a z ≡ e = r.cur z hz ∙ ap head0 h in
        let n0 : eqb (cur_w a z) 0 ≡ false = ne_eqb (cur_w a z) 0 (λ q. omega (arith, c, n.0)) in
        let gt : ltb (get_or g z 0) (low_w a) ≡ false = rw (K.gated.gates z z_in) (sym (r.low (gate R z) ((told R t l g K).gate_lt z)) ∙ k) in
        refuses (shut_gate z n0 gt)

    pub process_agrees : (z : ℕ) → z < 64 → Agrees (process_ok t g a z) (process_w t l a z) (step R s (process z))
    unfolding step
    process_agrees z hz = process_from z hz (s.todo z) refl (ready R s (gate R z)) refl

    -- a channel has a message to put in only if its sender is a process of the run
    goes_in : (p q f : ℕ) → 0 < f → f ≤ size R.trace → goes R p q f ≡ true → p < R.trace.procs
    goes_in p q f h k w = omega (arith, L.process_lt f h k, (sends_is R.trace p q f (goes_send R L p q f w)).0)

    channel_in : (p q : ℕ) → p < 64 → q < 64 → (p < R.trace.procs) ⊎ (put_w a (64 * p + q) ≡ 0)
    channel_in p q hp hq = go c.F refl
      where
        c : Chan R s p q (take_w a (64 * p + q)) (put_w a (64 * p + q))
        c = r.chan p q hp hq

        go : (F : List ℕ) → c.F ≡ F → (p < R.trace.procs) ⊎ (put_w a (64 * p + q) ≡ 0)
        go [] e = inr (c.pt_is ∙ ap head0 e)
        go (f ∷ fs) e = let b = evs_head R L p q c.y f fs c.y_le (sym c.rest ∙ e) in inl (goes_in p q f (omega (arith, b.0)) b.1 b.2)

    -- what the pointers point at
    pub rel_aimed : Aimed t a
    rel_aimed = record {
      procs_few = procs_most R.trace t T;
      events_few = size_most R.trace t T;
      no_event = λ z l h. r.cur z l ∙ no_next z h (s.todo z) refl;
      put_sent = λ p q hp hq n. let c = r.chan p q hp hq in on_channel_lem p q c.y c.y_le (evs R p q c.y) refl (put_w a (64 * p + q)) (c.pt_is ∙ ap head0 c.rest) n;
    }
      where
        T : Tabled R.trace t
        T = K.tells.tabled

        no_next : (z : ℕ) → procs_w t ≤ z → (es : List ℕ) → s.todo z ≡ es → head0 es ≡ 0
        no_next z h [] e = refl
        no_next z h (x ∷ es) e =
            let n = at_next R L t l g K s i z x es e in absurd (let w : ⊥ = omega (arith, L.process_lt x n.0 n.1, n.2, (told R t l g K).procs_is) in w)

        on_channel_lem : (p q y : ℕ) → y ≤ size R.trace → (es : List ℕ) → evs R p q y ≡ es → (m : ℕ) → m ≡ head0 es → (m ≡ 0 → ⊥) → SentOn t p q m
        on_channel_lem p q y h [] e m em n = absurd (n em)
        on_channel_lem p q y h (f ∷ fs) e m em n =
            let b = evs_head R L p q y f fs h e in
            let k = send_kind R.trace t T f (omega (arith, b.0)) b.1 p q (goes_send R L p q f b.2) in
            rw em (record { within = omega (arith, b.1, size_is R.trace t T); kind_is = k.0; from_is = k.1; to_is = k.2 })

    hand_from : (p q : ℕ) → p < 64 → q < 64 → (ls : List ℕ) → s.left p q ≡ ls → Agrees (hand_ok t g a p (64 * p + q)) (put_in_w l a (64 * p + q)) (hand_step R s p q ls)
    unfolding hand_step hand_ok
    hand_from p q hp hq [] lf =
        let ok : send_ok (R.restart p) (put_w a (64 * p + q)) ≡ true = left_none R L s i p q _ _ (r.chan p q hp hq) lf in
        on (channel_in p q hp hq)
        (λ j. refuses (rw (K.gated.places p j, ok)))
        (λ j. let n0 : eqb (put_w a (64 * p + q)) 0 ≡ true = eq-eqb (put_w a (64 * p + q)) 0 j in refuses (rw n0))
    hand_from p q hp hq (m ∷ ms) lf =
        let no : send_ok (R.restart p) (put_w a (64 * p + q)) ≡ false = left_some R L s i p q _ _ (r.chan p q hp hq) m ms lf in
        let f = to_put R L s i p q _ _ (r.chan p q hp hq) m (ms ++ ahead R p q (s.todo p)) (rw lf) in
        let pj : p < R.trace.procs = goes_in p q f.first f.first_pos f.first_le f.first_goes in
        let fs = goes_send R L p q f.first f.first_goes in
        let ph : phase_w t (put_w a (64 * p + q)) ≡ R.carries p q m =
        ap (phase_w t) f.is_first ∙ (told R t l g K).phases f.first f.first_pos f.first_le
        ∙ ph_at R p f.first (sends_is R.trace p q f.first fs).0 ∙ sym (L.carries_send p q f.first fs f.first_pos f.first_le) ∙ ap (R.carries p q) f.first_sent in
        let pl : R.carries p q m < no_phase =
        omega (arith, (told R t l g K).phase_lt f.first f.first_pos f.first_le, ap (phase_w t) f.is_first, (told R t l g K).phases f.first f.first_pos f.first_le, ph) in
        let rd : ready R s (R.carries p q m) ≡ ltb (R.carries p q m) (low_w a) = r.low (R.carries p q m) pl in
        let u = handing R s p q m ms in
        by (ltb (R.carries p q m) (low_w a))
        (λ b. let rb : ready R s (R.carries p q m) ≡ true = rd ∙ b in
        let so : step R s (hand p q) ≡ some u = step_hand p q m ms lf rb in
        rw rb (allows u (rw (K.gated.places p pj, no, ph) b) (rel_hand R L t l g K a s r i p q m ms hp hq lf) (inv_step R s u (hand p q) so i)))
        (λ b. let rb : ready R s (R.carries p q m) ≡ false = rd ∙ b in
        rw rb (refuses (rw (K.gated.places p pj, no, ph) b)))

    pub hand_agrees : (p q : ℕ) → p < 64 → q < 64 → Agrees (hand_ok t g a p (64 * p + q)) (put_in_w l a (64 * p + q)) (step R s (hand p q))
    unfolding step
    hand_agrees p q hp hq = hand_from p q hp hq (s.left p q) refl

    -- any choice number
    pub choice_agrees : (c : ℕ) → Agrees (allowed_w t g a c) (apply_w t l a c) (choose R s c)
    unfolding choose bind choice_of allowed_w apply_w
    choice_agrees c = by (ltb c 64)
        (λ y. rw y (process_agrees c (ltb-true c 64 y)))
        (λ y. rw y (by (ltb c 4160)
        (λ x. let e : c - 64 ≡ 64 * ((c - 64) / 64) + (c - 64) % 64 = omega (arith, ltb-false c 64 y) in
        rw x (subst (λ k. Agrees (hand_ok t g a ((c - 64) / 64) k) (put_in_w l a k) (step R s (hand ((c - 64) / 64) ((c - 64) % 64)))) (sym e)
        (hand_agrees ((c - 64) / 64) ((c - 64) % 64) (omega (arith, ltb-true c 4160 x)) (omega arith))))
        (λ x. rw x (refuses refl))))
