-- One choice: the words do what the machine does. One law for each kind of step, that the relation is kept. From Facts
-- and the theory's Flow.
use mathlib.Core.Path.{◌≡◌, refl, sym, ◌∙◌, ap, subst}
use mathlib.Core.Logic.{◌≢◌}
use mathlib.Core.Bool.{true, false, ◌&&◌, cond}
use mathlib.Core.List.{List, [], ◌∷◌, ◌++◌, append_assoc}
use Prim.Native.Nat.{ℕ, zero, suc, ◌+◌, ◌-◌, ◌*◌, ◌≤◌, ◌<◌}
use native.Mathlib.Omega.{arith}
use lib.ListN.{length, length-set, get_or, set}
use lib.Seq.{get_or-set_same, get_or-set_other, get_or_at}
use lib.Dec.{leb, ltb, eqb}
use borrow.Author.Tests.{ltb-true, eqb-true, eqb-false, lt-ltb, le-leb, eq-eqb, ne_eqb}
use Rattle.words.specs.Halves.{half}
use Rattle.words.proofs.Lists.{map_append, last_mapped, other_mapped}
use Rattle.theory.specs.Lists.{keep, no_one, put, put2}
use Rattle.theory.specs.Events.{Kind, send, recv, other, size, at, kind, recvs, sent, rcvd, value}
use Rattle.theory.specs.Line.{Run}
use Rattle.theory.specs.Replay.{State, listed, resends, ready, moved, sending, taking, handing}
use Rattle.theory.specs.Inner.Laws.{Laws}
use Rattle.theory.proofs.Base.{by, on, clash, le?, same2, eqb_self, all_same}
use Rattle.theory.proofs.Events.{sends_is, recvs_of, rcvd_lt}
use Rattle.theory.specs.Inner.Flow.{send_to, recv_from, r_before, ahead, number_to_take, Inv}
use Rattle.theory.proofs.Flow.{ahead_send, ahead_put, put_same, to_take_recv, at_head}
use Rattle.theory.proofs.Loss.{to_take_listed}
use Rattle.machine.specs.Taken.{taken_base, record_end, took_number, took_value, taken_number, taken_value}
use Rattle.machine.specs.Inner.Words.{current_base, orphan_base, take_base, put_base, low_place, no_phase, cur_w, orp_w, take_w, put_w, low_w, low_of, moved_w, drop_w, put_in_w, noted_w, take_out_w}
use Rattle.columns.specs.Inner.Full.{value_w, number_w}
use Rattle.theory.specs.Inner.Lists.{head0}
use Rattle.machine.specs.Inner.Related.{drops, orph, Cols, Chan, Rel}
use Rattle.machine.proofs.Noted.{length_noted, noted_other, noted_number, noted_value}
use Rattle.machine.proofs.Told.{told}
use Rattle.machine.proofs.Facts.{goes_send, to_put, to_take, in_list, resends_is, ready_low}

-- two channels are one where their words are
one_channel : (p q a b : ℕ) → q < 64 → b < 64 → (eqb p a && eqb q b) ≡ false → 64 * p + q ≢ 64 * a + b
one_channel p q a b h k t e =
    let i : p ≡ a = omega arith in
    let j : q ≡ b = omega arith in
    clash (let u : (eqb p a && eqb q b) ≡ true = rw (eq-eqb p a i, eq-eqb q b j) in u) t

-- one more element changes a list at its end only
snoc_other : (xs : List ℕ) (m i : ℕ) → i ≢ length xs → get_or (xs ++ m ∷ []) i 0 ≡ get_or xs i 0
snoc_other [] m zero h = absurd (h refl)
snoc_other [] m (suc i) h = refl
snoc_other (x ∷ xs) m zero h = refl
snoc_other (x ∷ xs) m (suc i) h = snoc_other xs m i (λ e. h (ap suc e))

module _ (R : Run) (L : Laws R) (t l g : List ℕ) (K : Cols R t l g) where
  -- what a process's next event is
  pub at_next : (s : State) → Inv R s → (z e : ℕ) (es : List ℕ) → s.todo z ≡ e ∷ es → (0 < e) × (e ≤ size R.trace) × (at R.trace e ≡ z) × (es ≡ listed R z e) × (R.restart z < e)
  at_next s i z e es h = let r = at_head R s i.cursors z e es h in (omega (arith, r.0), r.1, r.2, r.3, r.0)

  -- a channel that a step leaves alone
  chan_same : (s u : State) (p q tk pt : ℕ) → u.chan p q ≡ s.chan p q → u.left p q ≡ s.left p q → ahead R p q (u.todo p) ≡ ahead R p q (s.todo p)
      → Chan R s p q tk pt → Chan R u p q tk pt
  chan_same s u p q tk pt a b c k = record {
    C = k.C;
    F = k.F;
    x = k.x;
    y = k.y;
    x_le = k.x_le;
    y_le = k.y_le;
    all = k.all;
    rest = k.rest;
    inside = k.inside ∙ sym a;
    coming = k.coming ∙ sym (let w : u.left p q ++ ahead R p q (u.todo p) ≡ s.left p q ++ ahead R p q (s.todo p) = rw (b, c) in w);
    tk_is = k.tk_is;
    pt_is = k.pt_is;
  }

  -- a message goes into the channel
  chan_put : (s u : State) (i : Inv R s) (p q tk pt m : ℕ) (ms : List ℕ) (k : Chan R s p q tk pt)
      → s.left p q ++ ahead R p q (s.todo p) ≡ m ∷ ms → u.chan p q ≡ s.chan p q ++ m ∷ [] → u.left p q ++ ahead R p q (u.todo p) ≡ ms
      → Chan R u p q tk (get_or l (4 * pt + 1) 0)
  chan_put s u i p q tk pt m ms k h a b =
      let r = to_put R L s i p q tk pt k m ms h in
      let w : (k.C ++ r.first ∷ []) ++ r.later ≡ k.C ++ k.F = append_assoc k.C (r.first ∷ []) r.later ∙ ap (λ f. k.C ++ f) (sym r.is) in
      record {
        C = k.C ++ r.first ∷ [];
        F = r.later;
        x = k.x;
        y = r.first;
        x_le = k.x_le;
        y_le = r.first_le;
        all = w ∙ k.all;
        rest = r.then;
        inside = map_append (sent R.trace p q) k.C (r.first ∷ []) ∙ rw (k.inside, r.first_sent) (sym a);
        coming = r.more ∙ sym b;
        tk_is = k.tk_is ∙ sym (ap head0 w);
        pt_is = ap (λ x. get_or l (4 * x + 1) 0) r.is_first ∙ K.next_message p q r.first r.first_pos r.first_le r.first_goes ∙ ap head0 (sym r.then);
      }

  -- a message is taken out of the channel
  chan_take : (s u : State) (i : Inv R s) (p q tk pt m : ℕ) (ms : List ℕ) (k : Chan R s p q tk pt)
      → s.chan p q ≡ m ∷ ms → u.chan p q ≡ ms → u.left p q ≡ s.left p q → ahead R p q (u.todo p) ≡ ahead R p q (s.todo p)
      → Chan R u p q (get_or l (4 * tk + 1) 0) pt
  chan_take s u i p q tk pt m ms k h a b c =
      let r = to_take R L s i p q tk pt k m ms h in
      record {
        C = r.later;
        F = k.F;
        x = r.first;
        y = k.y;
        x_le = r.first_le;
        y_le = k.y_le;
        all = r.then;
        rest = k.rest;
        inside = r.more ∙ sym a;
        coming = k.coming ∙ sym (let w : u.left p q ++ ahead R p q (u.todo p) ≡ s.left p q ++ ahead R p q (s.todo p) = rw (b, c) in w);
        tk_is = ap (λ x. get_or l (4 * x + 1) 0) r.is_first ∙ K.next_message p q r.first r.first_pos r.first_le r.first_goes ∙ ap head0 (sym r.then);
        pt_is = k.pt_is;
      }

  -- the process's next event, when it has done e
  cur_next : (s : State) → Inv R s → (z e : ℕ) (es : List ℕ) → s.todo z ≡ e ∷ es → get_or l (4 * e) 0 ≡ head0 es
  cur_next s i z e es h =
      let n = at_next s i z e es h in
      K.next e n.0 n.1 (subst (λ y. R.restart y < e) (sym n.2) n.4) ∙ ap (λ y. head0 (listed R y e)) n.2 ∙ ap head0 (sym n.3)

  -- the process's next orphan, when it has done e
  orp_skip : (s : State) → Inv R s → (z e : ℕ) (es : List ℕ) → s.todo z ≡ e ∷ es → orph R z e ≡ false → (y : ℕ)
      → keep (orph R y) (put s.todo z es y) ≡ keep (orph R y) (s.todo y)
  unfolding keep
  orp_skip s i z e es h k y = put_same R (keep (orph R y)) s.todo z e es h y (λ j. let w : orph R y e ≡ false = rw j k in rw w)

  -- an orphan's event leaves the next orphan of the process
  orp_next : (s : State) → Inv R s → (z e : ℕ) (es : List ℕ) → s.todo z ≡ e ∷ es → orph R z e ≡ true → get_or l (4 * e + 2) 0 ≡ head0 (keep (orph R z) es)
  orp_next s i z e es h k =
      let n = at_next s i z e es h in
      K.next_orphan e n.0 n.1 (subst (λ y. R.restart y < e) (sym n.2) n.4) (subst (λ y. orph R y e ≡ true) (sym n.2) k)
      ∙ ap (λ y. head0 (keep (orph R y) (listed R y e))) n.2 ∙ ap (λ x. head0 (keep (orph R z) x)) (sym n.3)

  -- an event that sends no orphan leaves what is ready
  ready_skip : (s u : State) → Inv R s → (z e : ℕ) (es : List ℕ) → s.todo z ≡ e ∷ es → orph R z e ≡ false → u.todo ≡ put s.todo z es → (r : ℕ) → ready R u r ≡ ready R s r
  unfolding ready no_one
  ready_skip s u i z e es h k j r =
      let n = at_next s i z e es h in
      let no : resends R r z e (kind R.trace e) ≡ false = resends_is R L r z e n.0 n.4 n.1 n.2 ∙ rw k in
      rw j (all_same R.trace.procs _ _
      (λ y l. put_same R (no_one (λ d. resends R r y d (kind R.trace d))) s.todo z e es h y (λ i. let w : resends R r y e (kind R.trace e) ≡ false = rw i no in rw w)))

  -- does the process's next event send an orphan: the next orphan is that event
  pub orp_test : (s : State) → Inv R s → (z e : ℕ) (es : List ℕ) → s.todo z ≡ e ∷ es → eqb (head0 (keep (orph R z) (s.todo z))) e ≡ orph R z e
  unfolding keep
  orp_test s i z e es h = by (orph R z e)
      (λ b. rw (h, b) (eqb_self e))
      (λ b. rw (h, b) (go (keep (orph R z) es) refl))
    where
      n : (0 < e) × (e ≤ size R.trace) × (at R.trace e ≡ z) × (es ≡ listed R z e) × (R.restart z < e)
      n = at_next s i z e es h

      go : (os : List ℕ) → keep (orph R z) es ≡ os → eqb (head0 (keep (orph R z) es)) e ≡ false
      go [] k = rw k (ne_eqb 0 e (λ q. omega (arith, n.0)))
      go (o ∷ os) k =
          let a = in_list R L z e o os n.1 (ap (keep (orph R z)) (sym n.3) ∙ k) in
          rw k (ne_eqb o e (λ q. omega (arith, a.0)))

  -- the relation but for the processes' next events
  record Rest (b : List ℕ) (u : State) : Type 0 where
    room : 16384 ≤ length b
    orp : (z : ℕ) → z < 64 → orp_w b z ≡ head0 (keep (orph R z) (u.todo z))
    low : (r : ℕ) → r < no_phase → ready R u r ≡ ltb r (low_w b)
    chan : (p q : ℕ) → p < 64 → q < 64 → Chan R u p q (take_w b (64 * p + q)) (put_w b (64 * p + q))
    num : (e : ℕ) → e < 2049 → get_or b e 0 ≡ taken_number R u e
    val : (w e : ℕ) → w < 2 → e < 2049 → get_or b (taken_base w + e) 0 ≡ half w (taken_value R u e)
    beyond : (k : ℕ) → low_place < k → get_or b k 0 ≡ 0

  module _ (a : List ℕ) (s : State) (r : Rel R a s) (i : Inv R s) (z e : ℕ) (es : List ℕ) (hz : z < 64) (h : s.todo z ≡ e ∷ es) where
    -- every event moves the process on
    rel_move : (b : List ℕ) (u : State) → u.todo ≡ put s.todo z es → ((y : ℕ) → y < 64 → cur_w b y ≡ cur_w a y) → Rest b u → Rel R (moved_w l b z e) u
    unfolding moved_w
    rel_move b u j same w = record {
      room = rw length-set w.room;
      cur = λ y hy. rw j (by (eqb y z)
          (λ t. let f : y ≡ z = eqb-true y z t in rw (t, f) (get_or-set_same b (current_base + z) (get_or l (4 * e) 0) 0 (omega (arith, w.room)) ∙ cur_next s i z e es h))
          (λ t. rw t (get_or-set_other b (current_base + z) (current_base + y) (get_or l (4 * e) 0) 0 (λ q. clash (eq-eqb y z (omega arith)) t) ∙ same y hy ∙ r.cur y hy)));
      orp = λ y hy. get_or-set_other b (current_base + z) (orphan_base + y) _ 0 (λ q. omega arith) ∙ w.orp y hy;
      low = λ x hx. w.low x hx ∙ ap (ltb x) (sym (get_or-set_other b (current_base + z) low_place _ 0 (λ q. omega arith)));
      chan = λ p q hp hq. rw (get_or-set_other b (current_base + z) (take_base + (64 * p + q)) (get_or l (4 * e) 0) 0 (λ q. omega arith), get_or-set_other b (current_base + z) (put_base + (64 * p + q)) (get_or l (4 * e) 0) 0 (λ q. omega arith))
          (w.chan p q hp hq);
      num = λ y hy. get_or-set_other b (current_base + z) y _ 0 (λ q. omega arith) ∙ w.num y hy;
      val = λ x y hx hy. get_or-set_other b (current_base + z) (taken_base x + y) _ 0 (λ q. omega arith) ∙ w.val x y hx hy;
      beyond = λ y h₁. get_or-set_other b (current_base + z) y _ 0 (λ q. omega arith) ∙ w.beyond y h₁;
    }

    -- an event that is neither a send nor a receive
    pub rel_other : kind R.trace e ≡ other → Rel R (moved_w l a z e) (moved R s z es)
    unfolding taken_number taken_value drops
    rel_other k =
        let no : orph R z e ≡ false = rw k in
        rel_move a (moved R s z es) refl (λ y hy. refl) (record {
          room = r.room;
          orp = λ y hy. r.orp y hy ∙ ap head0 (sym (orp_skip s i z e es h no y));
          low = λ x hx. ready_skip s (moved R s z es) i z e es h no refl x ∙ r.low x hx;
          chan = λ p q hp hq. chan_same s (moved R s z es) p q _ _ refl refl (ahead_put R s z e es h p q (λ j. rw k)) (r.chan p q hp hq);
          num = r.num;
          val = r.val;
          beyond = r.beyond;
        })

    -- a send whose message is dropped
    pub rel_drop : (q : ℕ) → kind R.trace e ≡ send q → orph R z e ≡ true → Inv R (sending R s z q e es)
        → Rel R (moved_w l (drop_w t l a z e) z e) (sending R s z q e es)
    unfolding taken_number taken_value drops drop_w
    rel_drop q k o iu =
        let u = sending R s z q e es in
        let v = get_or l (4 * e + 2) 0 in
        let b = set a (orphan_base + z) v in
        let w = low_of t b (get_or t 0 0) in
        let d : leb (sent R.trace z q e) (r_before R z q) ≡ true = rw k at o in
        let orps : (y : ℕ) → y < 64 → orp_w b y ≡ head0 (keep (orph R y) (u.todo y)) = λ y hy. by (eqb y z)
        (λ t. let f : y ≡ z = eqb-true y z t in rw (t, f) (get_or-set_same a (orphan_base + z) v 0 (omega (arith, r.room)) ∙ orp_next s i z e es h o))
        (λ t. rw t (get_or-set_other a (orphan_base + z) (orphan_base + y) v 0 (λ q. clash (eq-eqb y z (omega arith)) t) ∙ r.orp y hy)) in
        let lb : length b ≡ length a = length-set a (orphan_base + z) v in
        let far : (x : ℕ) → x ≢ orphan_base + z → x ≢ low_place → get_or (set b low_place w) x 0 ≡ get_or a x 0 =
        λ x m n. get_or-set_other b low_place x w 0 n ∙ get_or-set_other a (orphan_base + z) x v 0 m in
        rel_move (set b low_place w) u refl (λ y hy. far (current_base + y) (λ q. omega arith) (λ q. omega arith)) (record {
          room = rw (length-set, length-set) r.room;
          orp = λ y hy. get_or-set_other b low_place (orphan_base + y) w 0 (λ q. omega arith) ∙ orps y hy;
          low = λ x hx. ready_low R L t g (told R t l g K) u iu.cursors b orps x hx ∙ ap (ltb x) (sym (get_or-set_same b low_place w 0 (omega (arith, lb, r.room))));
          chan = λ p q₂ hp hq. rw (far (take_base + (64 * p + q₂)) (λ q. omega arith) (λ q. omega arith), far (put_base + (64 * p + q₂)) (λ q. omega arith) (λ q. omega arith))
              (by (eqb p z && eqb q₂ q)
              (λ c. let f = same2 p z q₂ q c in
              let m : s.todo p ≡ e ∷ es = ap s.todo f.0 ∙ h in
              let n : s.chan z q ≡ s.chan p q₂ = rw (f.0, f.1) in
              let sd : send_to q₂ (kind R.trace e) ≡ true = rw k (eq-eqb q₂ q f.1) in
              let ez : eqb p z ≡ true = eq-eqb p z f.0 in
              let dd : leb (sent R.trace p q₂ e) (r_before R p q₂) ≡ true = rw (f.0, f.1) d in
              chan_same s u p q₂ _ _ (rw (c, d) n) refl (rw (ez, m, ahead_send R p q₂ e es sd, dd)) (r.chan p q₂ hp hq))
              (λ c. chan_same s u p q₂ _ _ (rw c) refl (ahead_put R s z e es h p q₂ (λ j. rw k (rw (eq-eqb p z j) at c))) (r.chan p q₂ hp hq)));
          num = λ y hy. far y (λ q. omega arith) (λ q. omega arith) ∙ r.num y hy;
          val = λ w y hw hy. far (taken_base w + y) (λ q. omega arith) (λ q. omega arith) ∙ r.val w y hw hy;
          beyond = λ y h₁. far y (λ q. omega arith) (λ q. omega arith) ∙ r.beyond y h₁;
        })

    -- a send whose message goes into the channel
    pub rel_send : (q : ℕ) → q < 64 → kind R.trace e ≡ send q → orph R z e ≡ false → s.left z q ≡ []
        → Rel R (moved_w l (put_in_w l a (64 * z + q)) z e) (sending R s z q e es)
    unfolding taken_number taken_value drops put_in_w
    rel_send q hq k o lf =
        let u = sending R s z q e es in
        let c₀ = 64 * z + q in
        let v = get_or l (4 * put_w a c₀ + 1) 0 in
        let b = set a (put_base + c₀) v in
        let d : leb (sent R.trace z q e) (r_before R z q) ≡ false = rw k at o in
        let sd : send_to q (kind R.trace e) ≡ true = rw k (eqb_self q) in
        let no : orph R z e ≡ false = o in
        let far : (x : ℕ) → x ≢ put_base + c₀ → get_or b x 0 ≡ get_or a x 0 = λ x m. get_or-set_other a (put_base + c₀) x v 0 m in
        rel_move b u refl (λ y hy. far (current_base + y) (λ q. omega arith)) (record {
          room = rw length-set r.room;
          orp = λ y hy. far (orphan_base + y) (λ q. omega arith) ∙ r.orp y hy ∙ ap head0 (sym (orp_skip s i z e es h no y));
          low = λ x hx. ready_skip s u i z e es h no refl x ∙ r.low x hx ∙ ap (ltb x) (sym (far low_place (λ q. omega arith)));
          chan = λ p q₂ hp hq₂. by (eqb p z && eqb q₂ q)
              (λ c. let f = same2 p z q₂ q c in
              subst (λ x. Chan R u x q₂ (take_w b (64 * x + q₂)) (put_w b (64 * x + q₂))) (sym f.0)
              (subst (λ y. Chan R u z y (take_w b (64 * z + y)) (put_w b (64 * z + y))) (sym f.1)
              (rw (far (take_base + c₀) (λ q. omega arith), get_or-set_same a (put_base + c₀) v 0 (omega (arith, r.room)))
              (chan_put s u i z q (take_w a c₀) (put_w a c₀) (sent R.trace z q e) (ahead R z q es) (r.chan z q hz hq)
              (rw (lf, h, ahead_send R z q e es sd, d))
              (rw (eqb_self z, eqb_self q, d))
              (rw (lf, eqb_self z))))))
              (λ c. rw (far (take_base + (64 * p + q₂)) (λ q. omega arith), far (put_base + (64 * p + q₂)) (λ w. one_channel p q₂ z q hq₂ hq c (omega arith)))
              (chan_same s u p q₂ _ _ (rw c) refl (ahead_put R s z e es h p q₂ (λ j. rw k (rw (eq-eqb p z j) at c))) (r.chan p q₂ hp hq₂)));
          num = λ y hy. far y (λ q. omega arith) ∙ r.num y hy;
          val = λ w y hw hy. far (taken_base w + y) (λ q. omega arith) ∙ r.val w y hw hy;
          beyond = λ y h₁. far y (λ q. omega arith) ∙ r.beyond y h₁;
        })

    -- how many messages a process has received on a channel when it comes to the receive e
    got_length : (p : ℕ) → kind R.trace e ≡ recv p → suc (length (s.got p z)) ≡ rcvd R.trace p z e
    got_length p k =
        let n = at_next s i z e es h in
        let d : recv_from p (kind R.trace e) ≡ true = rw k (eqb_self p) in
        let b : length (s.got p z) + suc (number_to_take R p es) ≡ rcvd R.trace p z (size R.trace) = rw (h, to_take_recv R p e es d) at (i.taken p z) in
        omega (arith, b, to_take_listed R p z e n.1, ap (number_to_take R p) n.3)

    -- two receives on a channel have different numbers
    rcvd_apart : (p y : ℕ) → kind R.trace e ≡ recv p → 0 < y → recvs R.trace p z y ≡ true → y ≢ e → rcvd R.trace p z y - 1 ≢ length (s.got p z)
    rcvd_apart p y k hy ty ne q =
        let n = at_next s i z e es h in
        let te = recvs_of R.trace p z e n.2 k in
        let g₁ = got_length p k in
        let y1 : rcvd R.trace p z 0 < rcvd R.trace p z y = rcvd_lt R.trace p z 0 y ty hy in
        on (le? y e)
        (λ a. omega (arith, g₁, y1, rcvd_lt R.trace p z y e te (omega arith)))
        (λ a. omega (arith, g₁, y1, rcvd_lt R.trace p z e y ty a))

    -- what the other receives took is as before
    slot_same : (p m y : ℕ) → kind R.trace e ≡ recv p → 0 < y → y ≢ e
        → (took_number R (put2 s.got p z (s.got p z ++ m ∷ [])) y (kind R.trace y) ≡ took_number R s.got y (kind R.trace y))
        × (took_value R (put2 s.got p z (s.got p z ++ m ∷ [])) y (kind R.trace y) ≡ took_value R s.got y (kind R.trace y))
    slot_same p m y k hy ne = go (kind R.trace y) refl
      where
        go : (c : Kind) → kind R.trace y ≡ c → (took_number R (put2 s.got p z (s.got p z ++ m ∷ [])) y c ≡ took_number R s.got y c)
            × (took_value R (put2 s.got p z (s.got p z ++ m ∷ [])) y c ≡ took_value R s.got y c)
        go (send q) f = (refl, refl)
        go other f = (refl, refl)
        go (recv p₂) f = by (eqb p₂ p && eqb (at R.trace y) z)
            (λ c. let j : p₂ ≡ p = (same2 p₂ p (at R.trace y) z c).0 in
            let o : at R.trace y ≡ z = (same2 p₂ p (at R.trace y) z c).1 in
            let ty = recvs_of R.trace p z y o (f ∙ ap recv j) in
            let ap₁ = rcvd_apart p y k hy ty ne in
            rw (c, j, o) (
              snoc_other (s.got p z) m (rcvd R.trace p z y - 1) ap₁,
              other_mapped (value R.trace p z) (s.got p z) m (rcvd R.trace p z y - 1) ap₁,
            ))
            (λ c. rw c (refl, refl))

    -- a receive
    pub rel_recv : (p m : ℕ) (ms : List ℕ) → p < 64 → kind R.trace e ≡ recv p → s.chan p z ≡ m ∷ ms
        → Rel R (moved_w l (take_out_w t l a (64 * p + z) e) z e) (taking R s z p es m ms)
    unfolding taken_number taken_value drops take_out_w
    rel_recv p m ms hp k cm =
        let u = taking R s z p es m ms in
        let n = at_next s i z e es h in
        let c₀ = 64 * p + z in
        let full = to_take R L s i p z (take_w a c₀) (put_w a c₀) (r.chan p z hp hz) m ms cm in
        let d = full.first in
        let sb = sends_is R.trace p z d (goes_send R L p z d full.first_goes) in
        let ad : at R.trace d ≡ p = sb.0 in
        let kd : kind R.trace d ≡ send z = sb.1 in
        let nd : number_w t (take_w a c₀) ≡ m = ap (number_w t) full.is_first ∙ (told R t l g K).numbers d z full.first_pos full.first_le kd ∙ ap (λ x. sent R.trace x z d) ad ∙ full.first_sent in
        let vd : (w : ℕ) → w < 2 → value_w w t (take_w a c₀) ≡ half w (value R.trace p z m) =
        λ w hw. ap (value_w w t) full.is_first ∙ (told R t l g K).values w d z hw full.first_pos full.first_le kd ∙ ap (λ x. half w (value R.trace x z (sent R.trace x z d))) ad ∙ ap (λ k. half w (value R.trace p z k)) full.first_sent in
        let v = get_or l (4 * take_w a c₀ + 1) 0 in
        let a₁ = set a (take_base + c₀) v in
        let b = noted_w t a₁ e (take_w a c₀) in
        let l₁ : length a₁ ≡ length a = length-set a (take_base + c₀) v in
        let room₁ : record_end ≤ length a₁ = omega (arith, l₁, r.room) in
        let e_lt : e < 2049 = omega (arith, n.1, (told R t l g K).few) in
        let far : (x : ℕ) → x ≢ take_base + c₀ → x ≢ e → ((w : ℕ) → w < 2 → x ≢ taken_base w + e) → get_or b x 0 ≡ get_or a x 0 =
        λ x f g₁ h₁. noted_other t a₁ e (take_w a c₀) x g₁ h₁ ∙ get_or-set_other a (take_base + c₀) x v 0 f in
        let no : orph R z e ≡ false = rw k in
        let gl = got_length p k in
        let gl₂ : length (s.got p z) ≡ rcvd R.trace p z e - 1 = omega (arith, gl) in
        let in_e : (ltb 0 e && leb e (size R.trace)) ≡ true = rw (lt-ltb 0 e n.0, le-leb e (size R.trace) n.1) in
        let vs = rw gl₂ at (last_mapped (value R.trace p z) (s.got p z) m) in
        rel_move b u refl (λ y hy. far (current_base + y) (λ q. omega arith) (λ q. omega arith) (λ w hw q. omega arith)) (record {
          room = rw (length_noted t a₁ e (take_w a c₀), l₁) r.room;
          orp = λ y hy. far (orphan_base + y) (λ q. omega arith) (λ q. omega arith) (λ w hw q. omega arith) ∙ r.orp y hy ∙ ap head0 (sym (orp_skip s i z e es h no y));
          low = λ x hx. ready_skip s u i z e es h no refl x ∙ r.low x hx ∙ ap (ltb x) (sym (far low_place (λ q. omega arith) (λ q. omega arith) (λ w hw q. omega arith)));
          chan = λ p₂ q hp₂ hq. by (eqb p₂ p && eqb q z)
              (λ c. let f = same2 p₂ p q z c in
              subst (λ x. Chan R u x q (take_w b (64 * x + q)) (put_w b (64 * x + q))) (sym f.0)
              (subst (λ y. Chan R u p y (take_w b (64 * p + y)) (put_w b (64 * p + y))) (sym f.1)
              (rw (
                far (put_base + c₀) (λ q. omega arith) (λ q. omega arith) (λ w hw q. omega arith),
                noted_other t a₁ e (take_w a c₀) (take_base + c₀) (λ q. omega arith) (λ w hw q. omega arith),
                get_or-set_same a (take_base + c₀) v 0 (omega (arith, r.room)),
              )
              (chan_take s u i p z (take_w a c₀) (put_w a c₀) m ms (r.chan p z hp hz) cm
              (rw (eqb_self p, eqb_self z)) refl (ahead_put R s z e es h p z (λ j. rw k))))))
              (λ c. rw (far (take_base + (64 * p₂ + q)) (λ w. one_channel p₂ q p z hq hz c (omega arith)) (λ q. omega arith) (λ w hw q. omega arith), far (put_base + (64 * p₂ + q)) (λ q. omega arith) (λ q. omega arith) (λ w hw q. omega arith))
              (chan_same s u p₂ q _ _ (rw c) refl (ahead_put R s z e es h p₂ q (λ j. rw k)) (r.chan p₂ q hp₂ hq)));
          num = λ y hy. by (eqb y e)
              (λ f. let j : y ≡ e = eqb-true y e f in
              rw (j, in_e, k, n.2, eqb_self p, eqb_self z)
              (noted_number t a₁ e (take_w a c₀) room₁ e_lt ∙ nd
              ∙ sym (get_or_at (s.got p z) m [] 0 (rcvd R.trace p z e - 1) gl₂)))
              (λ f. let ne : y ≢ e = eqb-false y e f in
              far y (λ q. omega arith) ne (λ w hw q. omega arith) ∙ r.num y hy ∙ in_range y (λ hy₀. (slot_same p m y k hy₀ ne).0));
          val = λ w y hw hy. by (eqb y e)
              (λ f. let j : y ≡ e = eqb-true y e f in
              rw (j, in_e, k, n.2, eqb_self p, eqb_self z)
              (noted_value t a₁ e (take_w a c₀) room₁ e_lt w hw ∙ vd w hw ∙ ap (half w) (sym vs)))
              (λ f. let ne : y ≢ e = eqb-false y e f in
              far (taken_base w + y) (λ q. omega arith) (λ q. omega arith) (λ x hx q. ne (omega arith)) ∙ r.val w y hw hy ∙ ap (half w) (in_range y (λ hy₀. (slot_same p m y k hy₀ ne).1)));
          beyond = λ y h₁. far y (λ q. omega arith) (λ q. omega arith) (λ w hw q. omega arith) ∙ r.beyond y h₁;
        })
      where
        in_range : (y : ℕ) {c d : ℕ} → (0 < y → d ≡ c) → cond (ltb 0 y && leb y (size R.trace)) c 0 ≡ cond (ltb 0 y && leb y (size R.trace)) d 0
        in_range y {c} {d} f = by (ltb 0 y) (λ t. rw t (ap (λ x. cond (leb y (size R.trace)) x 0) (sym (f (ltb-true 0 y t))))) (λ t. rw t)

  -- a kept message is handed over
  pub rel_hand : (a : List ℕ) (s : State) → Rel R a s → Inv R s → (p q m : ℕ) (ms : List ℕ) → p < 64 → q < 64 → s.left p q ≡ m ∷ ms
      → Rel R (put_in_w l a (64 * p + q)) (handing R s p q m ms)
  unfolding taken_number taken_value put_in_w ready
  rel_hand a s r i p q m ms hp hq lf =
      let u = handing R s p q m ms in
      let c₀ = 64 * p + q in
      let v = get_or l (4 * put_w a c₀ + 1) 0 in
      let b = set a (put_base + c₀) v in
      let far : (x : ℕ) → x ≢ put_base + c₀ → get_or b x 0 ≡ get_or a x 0 = λ x f. get_or-set_other a (put_base + c₀) x v 0 f in
      record {
        room = rw length-set r.room;
        cur = λ y hy. far (current_base + y) (λ q. omega arith) ∙ r.cur y hy;
        orp = λ y hy. far (orphan_base + y) (λ q. omega arith) ∙ r.orp y hy;
        low = λ x hx. r.low x hx ∙ ap (ltb x) (sym (far low_place (λ q. omega arith)));
        chan = λ p₂ q₂ hp₂ hq₂. by (eqb p₂ p && eqb q₂ q)
            (λ c. let f = same2 p₂ p q₂ q c in
            subst (λ x. Chan R u x q₂ (take_w b (64 * x + q₂)) (put_w b (64 * x + q₂))) (sym f.0)
            (subst (λ y. Chan R u p y (take_w b (64 * p + y)) (put_w b (64 * p + y))) (sym f.1)
            (rw (far (take_base + c₀) (λ q. omega arith), get_or-set_same a (put_base + c₀) v 0 (omega (arith, r.room)))
            (chan_put s u i p q (take_w a c₀) (put_w a c₀) m (ms ++ ahead R p q (s.todo p)) (r.chan p q hp hq)
            (rw lf) (rw (eqb_self p, eqb_self q)) (rw (eqb_self p, eqb_self q))))))
            (λ c. rw (far (take_base + (64 * p₂ + q₂)) (λ q. omega arith), far (put_base + (64 * p₂ + q₂)) (λ w. one_channel p₂ q₂ p q hq₂ hq c (omega arith)))
            (chan_same s u p₂ q₂ _ _ (rw c) (rw c) refl (r.chan p₂ q₂ hp₂ hq₂)));
        num = λ y hy. far y (λ q. omega arith) ∙ r.num y hy;
        val = λ w y hw hy. far (taken_base w + y) (λ q. omega arith) ∙ r.val w y hw hy;
        beyond = λ y h₁. far y (λ q. omega arith) ∙ r.beyond y h₁;
      }
