-- What the relation says of channels, of orphans and of gates: the two pointers of a channel tell whether a kept
-- message is left and whether a message is in it; the least phase of an orphan tells which phases are ready. From the
-- laws of the run and the invariants of the theory.
use mathlib.Core.Path.{◌≡◌, refl, sym, ◌∙◌, ap}
use mathlib.Core.Bool.{Bool, true, false, ◌&&◌, and-false, cond}
use mathlib.Core.List.{List, [], ◌∷◌, ◌++◌, map}
use Prim.Native.Nat.{ℕ, zero, suc, ◌+◌, ◌-◌, ◌≤◌, ◌<◌}
use native.Mathlib.Omega.{arith}
use lib.ListN.{length, length-append, get_or}
use lib.Dec.{leb, ltb, eqb}
use borrow.Author.Tests.{leb-true, leb-false, ltb-true, ltb-false, eqb-true, lt-ltb, le-ltb, lt-leb, eq-eqb, ne_eqb}
use Rattle.theory.specs.Lists.{iv, keep, no_one, all_below}
use Rattle.theory.specs.Events.{Kind, send, recv, other, size, at, kind, sends, sent}
use Rattle.theory.specs.Line.{Run, orphan_phase}
use Rattle.theory.specs.Replay.{State, listed, resends, ready}
use Rattle.theory.specs.Inner.Laws.{Laws}
use Rattle.theory.proofs.Base.{by, on, le?, both, keep_head, keep_keep, keep_some, each_map, each_keep_iv, all_same}
use Rattle.theory.specs.Inner.Flow.{Each, r_before, s_before, Kept, ahead, Cursors, Inv}
use Rattle.theory.proofs.Events.{sends_of, sent_le, sent_lt}
use Rattle.theory.proofs.Classes.{orphan_counts}
use Rattle.theory.proofs.Loss.{ahead_listed}
use Rattle.theory.proofs.Ready.{phase_le}
use Rattle.machine.specs.Inner.Words.{no_phase, orp_w, send_ok, lesser, low_of}
use Rattle.columns.specs.Inner.Full.{phase_w}
use Rattle.theory.specs.Inner.Lists.{head0}
use Rattle.machine.specs.Inner.Related.{goes, evs, drops, orph, Chan}
use Rattle.machine.proofs.Told.{Told}

-- the phase of an event's process after it
abbrev pub ph : Run → ℕ → ℕ
ph R e = R.phase (at R.trace e) e

pub ph_at : (R : Run) (z e : ℕ) → at R.trace e ≡ z → ph R e ≡ R.phase z e
ph_at R z e a = ap (λ y. R.phase y e) a

-- event e of process z sends an orphan of phase r or less again
abbrev pub holds : Run → ℕ → ℕ → ℕ → Bool
holds R r z e = orph R z e && leb (ph R e) r

module _ (R : Run) (L : Laws R) where
  pub evs_head : (p q x d : ℕ) (ds : List ℕ) → x ≤ size R.trace → evs R p q x ≡ d ∷ ds
      → (x < d) × (d ≤ size R.trace) × (goes R p q d ≡ true) × (ds ≡ evs R p q d)
  unfolding evs
  evs_head p q x d ds h k =
      let r = keep_head (goes R p q) x (size R.trace - x) d ds k in
      let j : x + (size R.trace - x) ≡ size R.trace = omega arith in
      (r.0, omega (arith, r.1), r.2, rw j at r.3)

  pub goes_send : (p q d : ℕ) → goes R p q d ≡ true → sends R.trace p q d ≡ true
  unfolding goes
  goes_send p q d h = (both (sends R.trace p q d) _ h).0

  past : (p q f x : ℕ) → sent R.trace p q x < sent R.trace p q f → x < f
  past p q f x h = on (le? f x) (λ k. absurd (omega (arith, sent_le R.trace p q f x k))) (λ k. k)

  before : (p q f x : ℕ) → sends R.trace p q f ≡ true → sent R.trace p q f ≤ sent R.trace p q x → f ≤ x
  before p q f x t h = on (le? f x) (λ k. k) (λ k. absurd (omega (arith, sent_lt R.trace p q x f t k)))

  ahead_past : (p q x k : ℕ) (ks : List ℕ) → x ≤ size R.trace → ahead R p q (listed R p x) ≡ k ∷ ks → sent R.trace p q x < k
  ahead_past p q x k ks h e =
      (keep_head (λ k. ltb (r_before R p q) k) (sent R.trace p q x) (sent R.trace p q (size R.trace) - sent R.trace p q x) k ks (sym (ahead_listed R p q x h) ∙ e)).0

  -- The first of some sends of a channel, which a pointer points at: the messages of those sends are m and then ms.
  -- `whole` of the sends are all that go through the channel after some event.
  module _ (p q : ℕ) (whole : List ℕ → List ℕ) where
    pub record First (es : List ℕ) (pointer m : ℕ) (ms : List ℕ) : Type 0 where
      pub first : ℕ
      pub later : List ℕ
      pub is : es ≡ first ∷ later
      pub first_pos : 0 < first
      pub first_le : first ≤ size R.trace
      pub first_goes : goes R p q first ≡ true
      pub then : whole later ≡ evs R p q first
      pub is_first : pointer ≡ first
      pub first_sent : sent R.trace p q first ≡ m
      pub more : map (sent R.trace p q) later ≡ ms

    first_of : ((x : ℕ) (xs : List ℕ) → whole (x ∷ xs) ≡ x ∷ whole xs) → (y pointer : ℕ) (es : List ℕ) → y ≤ size R.trace → whole es ≡ evs R p q y
        → pointer ≡ head0 (whole es) → (m : ℕ) (ms : List ℕ) → map (sent R.trace p q) es ≡ m ∷ ms → First es pointer m ms
    first_of one y pointer [] h w e m ms a = absurd (let z : ◌≡◌ {A = ℕ} 0 1 = cc in omega arith)
    first_of one y pointer (f ∷ fs) h w e m ms a =
        let b = evs_head p q y f (whole fs) h (sym w ∙ one f fs) in record {
          first = f;
          later = fs;
          is = refl;
          first_pos = omega (arith, b.0);
          first_le = b.1;
          first_goes = b.2;
          then = b.3;
          is_first = e ∙ ap head0 (one f fs);
          first_sent = cc;
          more = cc;
        }

  module _ (s : State) (i : Inv R s) (p q tk pt : ℕ) (k : Chan R s p q tk pt) where
    -- nothing is left to hand over: the next message to put in, if any, was sent after the restart
    pub left_none : s.left p q ≡ [] → send_ok (R.restart p) pt ≡ true
    left_none h = go k.F refl
      where
        go : (F : List ℕ) → k.F ≡ F → send_ok (R.restart p) pt ≡ true
        go [] e = let z : pt ≡ 0 = k.pt_is ∙ ap head0 e in rw (eq-eqb pt 0 z)
        go (f ∷ fs) e =
            let cy = i.cursors in
            let a : ahead R p q (s.todo p) ≡ sent R.trace p q f ∷ map (sent R.trace p q) fs = sym (rw h at k.coming) ∙ ap (map (sent R.trace p q)) e in
            let b : sent R.trace p q (cy.up_to p) < sent R.trace p q f = ahead_past p q (cy.up_to p) (sent R.trace p q f) (map (sent R.trace p q) fs) (cy.within p) (sym (ap (ahead R p q) (cy.todo_is p)) ∙ a) in
            let c : R.restart p < f = past p q f (R.restart p) (omega (arith, b, sent_le R.trace p q (R.restart p) (cy.up_to p) (cy.from p))) in
            let z : pt ≡ f = k.pt_is ∙ ap head0 e in
            let u : eqb pt 0 ≡ false = ne_eqb pt 0 (λ w. omega arith) in
            let v : ltb (R.restart p) pt ≡ true = lt-ltb (R.restart p) pt (omega arith) in
            rw (u, v)

    -- the next message to put in is there
    pub to_put : (m : ℕ) (ms : List ℕ) → s.left p q ++ ahead R p q (s.todo p) ≡ m ∷ ms → First p q (λ F. F) k.F pt m ms
    to_put m ms h = first_of p q (λ F. F) (λ f fs. refl) k.y pt k.F k.y_le k.rest k.pt_is m ms (k.coming ∙ h)

    -- a message is left to hand over: it is the next one to put in, and was sent before the restart
    pub left_some : (m : ℕ) (ms : List ℕ) → s.left p q ≡ m ∷ ms → send_ok (R.restart p) pt ≡ false
    left_some m ms h =
        let r = to_put m (ms ++ ahead R p q (s.todo p)) (rw h) in
        let a : Kept R p q m = (rw h at (i.lefts p q)).0 in
        let b : r.first ≤ R.restart p = before p q r.first (R.restart p) (goes_send p q r.first r.first_goes) (omega (arith, r.first_sent, a.1)) in
        let u : eqb pt 0 ≡ false = ne_eqb pt 0 (λ w. omega (arith, r.is_first, r.first_pos)) in
        let v : ltb (R.restart p) pt ≡ false = le-ltb (R.restart p) pt (omega (arith, r.is_first, b)) in
        rw (u, v)

    -- an empty channel
    pub chan_none : s.chan p q ≡ [] → eqb tk pt ≡ true
    chan_none h = go k.C refl
      where
        go : (C : List ℕ) → k.C ≡ C → eqb tk pt ≡ true
        go [] e = eq-eqb tk pt (k.tk_is ∙ ap (λ c. head0 (c ++ k.F)) e ∙ sym k.pt_is)
        go (d ∷ ds) e =
            let a : sent R.trace p q d ∷ map (sent R.trace p q) ds ≡ [] = sym (ap (map (sent R.trace p q)) e) ∙ k.inside ∙ h in
            absurd (let z : ◌≡◌ {A = ℕ} 0 1 = cc in omega arith)

    -- the next message to take is there
    pub to_take : (m : ℕ) (ms : List ℕ) → s.chan p q ≡ m ∷ ms → First p q (λ C. C ++ k.F) k.C tk m ms
    to_take m ms h = first_of p q (λ C. C ++ k.F) (λ d ds. refl) k.x tk k.C k.x_le k.all k.tk_is m ms (k.inside ∙ h)

    pub chan_some : (m : ℕ) (ms : List ℕ) → s.chan p q ≡ m ∷ ms → eqb tk pt ≡ false
    chan_some m ms h = ne_eqb tk pt (λ w. go k.F refl w)
      where
        r : First p q (λ C. C ++ k.F) k.C tk m ms
        r = to_take m ms h

        go : (F : List ℕ) → k.F ≡ F → tk ≡ pt → ⊥
        go [] e w = let z : pt ≡ 0 = k.pt_is ∙ ap head0 e in omega (arith, r.first_pos, r.is_first)
        go (f ∷ fs) e w =
            let z : pt ≡ f = k.pt_is ∙ ap head0 e in
            let b = evs_head p q k.y f fs k.y_le (sym k.rest ∙ e) in
            let u : r.first ≡ f = sym r.is_first ∙ w ∙ z in
            let v : r.later ++ k.F ≡ fs = r.then ∙ ap (evs R p q) u ∙ sym b.3 in
            omega (arith, ap length v, length-append r.later k.F, ap length e)

  -- gates
  no_high : (r z : ℕ) (l : List ℕ) → Each (λ e. orph R z e ≡ true → r < ph R e) l → no_one (holds R r z) l ≡ true
  unfolding no_one
  no_high r z [] h = refl
  no_high r z (e ∷ es) h =
      let ih = no_high r z es h.1 in
      by (orph R z e) (λ t. let u : leb (ph R e) r ≡ false = lt-leb (ph R e) r (h.0 t) in rw (t, u) ih) (λ t. rw t ih)

  pub no_orph : (r z : ℕ) (l : List ℕ) → keep (orph R z) l ≡ [] → no_one (holds R r z) l ≡ true
  unfolding no_one keep
  no_orph r z [] h = refl
  no_orph r z (e ∷ es) h = by (orph R z e)
      (λ t. absurd (let w : e ∷ keep (orph R z) es ≡ [] = rw t at h in let z : ◌≡◌ {A = ℕ} 0 1 = cc in omega arith))
      (λ t. rw t (no_orph r z es (rw t at h)))

  first_low : (r z o : ℕ) (os l : List ℕ) → keep (orph R z) l ≡ o ∷ os → Each (λ e. orph R z e ≡ true → ph R o ≤ ph R e) l
      → no_one (holds R r z) l ≡ ltb r (ph R o)
  unfolding no_one keep
  first_low r z o os [] k h = absurd (let z : ◌≡◌ {A = ℕ} 0 1 = cc in omega arith)
  first_low r z o os (e ∷ es) k h = by (orph R z e)
      (λ t. let w : e ∷ keep (orph R z) es ≡ o ∷ os = rw t at k in
      let i : e ≡ o = cc in
      by (leb (ph R e) r)
      (λ u. let v : ltb r (ph R o) ≡ false = le-ltb r (ph R o) (omega (arith, leb-true (ph R e) r u, ap (ph R) i)) in rw (t, u, v))
      (λ u. let v : ltb r (ph R o) ≡ true = lt-ltb r (ph R o) (omega (arith, leb-false (ph R e) r u, ap (ph R) i)) in
      rw (t, u, v) (no_high r z es (each_map (λ y. orph R z y ≡ true → ph R o ≤ ph R y) (λ y. orph R z y ≡ true → r < ph R y)
      (λ y f g. omega (arith, f g, leb-false (ph R e) r u, ap (ph R) i)) es h.1))))
      (λ t. rw t (first_low r z o os es (rw t at k) h.1))

  listed_low : (r z x o : ℕ) (os : List ℕ) → x ≤ size R.trace → keep (orph R z) (listed R z x) ≡ o ∷ os → no_one (holds R r z) (listed R z x) ≡ ltb r (ph R o)
  unfolding listed
  listed_low r z x o os h k =
      let d = size R.trace - x in
      let mine : ℕ → Bool = λ e. eqb z (at R.trace e) in
      let j : x + d ≡ size R.trace = omega arith in
      let k₂ : keep (λ e. mine e && orph R z e) (iv x d) ≡ o ∷ os = sym (keep_keep (orph R z) mine (iv x d)) ∙ k in
      let a = keep_head (λ e. mine e && orph R z e) x d o os k₂ in
      let ao : at R.trace o ≡ z = sym (eqb-true z (at R.trace o) (both (mine o) (orph R z o) a.2).0) in
      first_low r z o os (keep mine (iv x d)) k
      (each_map (λ y. (x < y) × (y ≤ x + d) × (mine y ≡ true)) (λ y. orph R z y ≡ true → ph R o ≤ ph R y)
      (λ y f g.
      let m : (mine y && orph R z y) ≡ true = rw (f.2, g) in
      let b = keep_some (λ e. mine e && orph R z e) x d y m f.0 f.1 in
      let c : o ∷ os ≡ b.0 ∷ b.1 = sym k₂ ∙ b.2 in
      let e : o ≡ b.0 = cc in
      let ay : at R.trace y ≡ z = sym (eqb-true z (at R.trace y) f.2) in
      omega (arith, phase_le R L z o y (omega (arith, e, b.3)), ph_at R z o ao, ph_at R z y ay))
      (keep mine (iv x d)) (each_keep_iv mine x d))

  pub in_list : (z x o : ℕ) (os : List ℕ) → x ≤ size R.trace → keep (orph R z) (listed R z x) ≡ o ∷ os → (x < o) × (o ≤ size R.trace)
  unfolding listed
  in_list z x o os hx k =
      let a = keep_head (λ e. eqb z (at R.trace e) && orph R z e) x (size R.trace - x) o os (sym (keep_keep (orph R z) (λ e. eqb z (at R.trace e)) (iv x (size R.trace - x))) ∙ k) in
      (a.0, omega (arith, a.1))

  -- an event after the restart sends an orphan again exactly if its message is dropped
  pub resends_is : (r z e : ℕ) → 0 < e → R.restart z < e → e ≤ size R.trace → at R.trace e ≡ z → resends R r z e (kind R.trace e) ≡ holds R r z e
  unfolding resends drops orphan_phase
  resends_is r z e h j n a = go (kind R.trace e) refl
    where
      go : (k : Kind) → kind R.trace e ≡ k → resends R r z e k ≡ (drops R z e k && leb (ph R e) r)
      go (send q) k =
          let s = sends_of R.trace z q e a k in
          let b : ltb (s_before R z q) (sent R.trace z q e) ≡ true = lt-ltb (s_before R z q) (sent R.trace z q e) (sent_lt R.trace z q (R.restart z) e s j) in
          rw (orphan_counts R L z q (sent R.trace z q e), b, L.carries_send z q e s h n, ph_at R z e a)
      go (recv p) k = refl
      go other k = refl

  no_one_same : (f g : ℕ → Bool) (l : List ℕ) → Each (λ e. f e ≡ g e) l → no_one f l ≡ no_one g l
  unfolding no_one
  no_one_same f g [] h = refl
  no_one_same f g (x ∷ xs) h = rw (h.0, no_one_same f g xs h.1)

  listed_holds : (r z x : ℕ) → R.restart z ≤ x → x ≤ size R.trace → no_one (λ e. resends R r z e (kind R.trace e)) (listed R z x) ≡ no_one (holds R r z) (listed R z x)
  unfolding listed
  listed_holds r z x h k =
      let d = size R.trace - x in
      let mine : ℕ → Bool = λ e. eqb z (at R.trace e) in
      no_one_same (λ e. resends R r z e (kind R.trace e)) (holds R r z) (keep mine (iv x d))
      (each_map (λ y. (x < y) × (y ≤ x + d) × (mine y ≡ true)) (λ y. resends R r z y (kind R.trace y) ≡ holds R r z y)
      (λ y f. resends_is r z y (omega (arith, f.0)) (omega (arith, f.0)) (omega (arith, f.1)) (sym (eqb-true z (at R.trace y) f.2)))
      (keep mine (iv x d)) (each_keep_iv mine x d))

  -- a phase is ready where no process has to send an orphan of it or below again
  pub ready_holds : (u : State) → Cursors R u → (r : ℕ) → ready R u r ≡ all_below R.trace.procs (λ z. no_one (holds R r z) (u.todo z))
  unfolding ready
  ready_holds u c r = all_same R.trace.procs _ _ (λ z l. rw (c.todo_is z) (listed_holds r z (c.up_to z) (c.from z) (c.within z)))

  module _ (t g : List ℕ) (K : Told R t g) (u : State) (cz : Cursors R u) (b : List ℕ)
      (orps : (z : ℕ) → z < 64 → orp_w b z ≡ head0 (keep (orph R z) (u.todo z))) (r : ℕ) (r_lt : r < no_phase) where
    one_low : (z : ℕ) → z < 64 → (a : Bool) (m : ℕ) → a ≡ ltb r m
        → (no_one (holds R r z) (u.todo z) && a) ≡ ltb r (cond (eqb (orp_w b z) 0) m (lesser (phase_w t (orp_w b z)) m))
    one_low z h a m e = go (keep (orph R z) (u.todo z)) refl
      where
        go : (os : List ℕ) → keep (orph R z) (u.todo z) ≡ os → (no_one (holds R r z) (u.todo z) && a) ≡ ltb r (cond (eqb (orp_w b z) 0) m (lesser (phase_w t (orp_w b z)) m))
        go [] k =
            let w : orp_w b z ≡ 0 = orps z h ∙ ap head0 k in
            rw (no_orph r z (u.todo z) k, eq-eqb (orp_w b z) 0 w) e
        go (o ∷ os) k =
            let k₂ : keep (orph R z) (listed R z (cz.up_to z)) ≡ o ∷ os = rw (← cz.todo_is z) k in
            let v : no_one (holds R r z) (u.todo z) ≡ ltb r (ph R o) = rw (cz.todo_is z) (listed_low r z (cz.up_to z) o os (cz.within z) k₂) in
            let o_in : (cz.up_to z < o) × (o ≤ size R.trace) = in_list z (cz.up_to z) o os (cz.within z) k₂ in
            let w : orp_w b z ≡ o = orps z h ∙ ap head0 k in
            let n0 : eqb o 0 ≡ false = ne_eqb o 0 (λ q. omega (arith, o_in.0)) in
            rw (v, w, n0, K.phases o (omega (arith, o_in.0)) o_in.1, e) (least (ph R o) m)
          where
            least : (c d : ℕ) → (ltb r c && ltb r d) ≡ ltb r (lesser c d)
            least c d = by (ltb c d)
                (λ y. rw y (by (ltb r c) (λ j. rw (j, lt-ltb r d (omega (arith, ltb-true r c j, ltb-true c d y)))) (λ j. rw j)))
                (λ y. rw y (by (ltb r d) (λ j. rw (j, lt-ltb r c (omega (arith, ltb-true r d j, ltb-false c d y)))) (λ j. rw j (and-false (ltb r c)))))

    all_low : (z : ℕ) → z ≤ 64 → all_below z (λ z. no_one (holds R r z) (u.todo z)) ≡ ltb r (low_of t b z)
    unfolding all_below low_of
    all_low zero h = sym (lt-ltb r no_phase r_lt)
    all_low (suc z) h = one_low z (omega arith) (all_below z (λ z. no_one (holds R r z) (u.todo z))) (low_of t b z) (all_low z (omega arith))

    pub ready_low : ready R u r ≡ ltb r (low_of t b (get_or t 0 0))
    ready_low = rw K.procs_is (ready_holds u cz r ∙ all_low R.trace.procs L.few)
