-- When every event is linked, the words stand for the first state of the replay, and the links are those of the run.
-- From the laws of the run.
use mathlib.Core.Path.{◌≡◌, refl, sym, ◌∙◌, ap}
use mathlib.Core.Logic.{◌≢◌}
use mathlib.Core.Bool.{Bool, true, false, ◌&&◌, cond}
use mathlib.Core.List.{List, [], ◌∷◌, ◌++◌, map, map-append}
use Prim.Native.Nat.{ℕ, ◌+◌, ◌-◌, ◌*◌, ◌≤◌, ◌<◌}
use native.Mathlib.Omega.{arith}
use lib.ListN.{length, length-set, get_or, set}
use lib.Seq.{get_or-set_same, get_or-set_other}
use lib.Dec.{leb, ltb, eqb}
use borrow.Author.Tests.{lt-ltb, le-leb, lt-leb}
use Rattle.words.specs.Halves.{half}
use Rattle.theory.specs.Lists.{iv, keep, cnt}
use Rattle.theory.specs.Events.{size, at, kind, sends, sent}
use Rattle.theory.specs.Line.{Run, kept}
use Rattle.theory.specs.Replay.{listed, kept_on, start}
use Rattle.theory.specs.Inner.Laws.{Laws}
use Rattle.theory.proofs.Base.{by, eqb_self, iv_append, keep_append, keep_keep, keep_iv_cong, keep_above, cnt_iv, map_cnt}
use Rattle.theory.proofs.Events.{sends_split}
use Rattle.theory.specs.Inner.Flow.{send_to, r_before, s_before, keptb, ahead}
use Rattle.theory.proofs.Classes.{restart_n, kept_counts, kept_list}
use Rattle.theory.proofs.Loss.{inv_start}
use Rattle.machine.specs.Taken.{taken_base, taken_number, taken_value}
use Rattle.machine.specs.Inner.Words.{current_base, orphan_base, take_base, put_base, low_place, orp_w, low_of}
use Rattle.theory.specs.Inner.Lists.{head0}
use Rattle.machine.specs.Inner.Related.{goes, evs, orph, Cols, Rel}
use Rattle.machine.proofs.Told.{told_of}
use Rattle.columns.specs.Inner.Given.{Tells, Gated}
use Rattle.links.specs.Inner.Linking.{begin_a}
use Rattle.links.specs.Inner.Linked.{mine, rest, Chained}
use Rattle.machine.proofs.Facts.{ready_low}

map_keep : (f : ℕ → ℕ) (g : ℕ → Bool) (l : List ℕ) → keep g (map f l) ≡ map f (keep (λ x. g (f x)) l)
unfolding keep
map_keep f g [] = refl
map_keep f g (x ∷ xs) = by (g (f x)) (λ t. rw t (ap (λ r. f x ∷ r) (map_keep f g xs))) (λ t. rw t (map_keep f g xs))

module _ (R : Run) (L : Laws R) where
  mine_listed : (z : ℕ) → rest R (mine R z) 0 ≡ listed R z (R.restart z)
  unfolding listed
  mine_listed z =
      let e : size R.trace - 0 ≡ size R.trace = omega arith in
      rw e (sym (keep_keep (λ e. eqb z (at R.trace e)) (λ e. ltb (R.restart z) e) (iv 0 (size R.trace))) ∙ ap (keep (λ e. eqb z (at R.trace e))) (keep_above (R.restart z) (size R.trace)))

  mine_after : (z x : ℕ) → R.restart z ≤ x → rest R (mine R z) x ≡ listed R z x
  unfolding listed
  mine_after z x h = keep_iv_cong (mine R z) (λ e. eqb z (at R.trace e)) x (size R.trace - x) (λ y a b. let t : ltb (R.restart z) y ≡ true = lt-ltb (R.restart z) y (omega arith) in rw t)

  orph_rest : (z x : ℕ) → rest R (λ e. mine R z e && orph R z e) x ≡ keep (orph R z) (rest R (mine R z) x)
  orph_rest z x = sym (keep_keep (orph R z) (mine R z) (iv x (size R.trace - x)))

  -- the messages that go through a channel, by their sends
  module _ (p q : ℕ) where
    kept_early : keep (kept R p q) (iv 0 (s_before R p q)) ≡ kept_on R p q
    unfolding keptb
    kept_early = keep_iv_cong (kept R p q) (keptb R p q) 0 (s_before R p q)
        (λ y u v. let w : leb y (s_before R p q) ≡ true = le-leb y (s_before R p q) (omega arith) in kept_counts R L p q y ∙ rw w)
        ∙ sym (kept_list R L p q)

    early : map (sent R.trace p q) (keep (goes R p q) (iv 0 (R.restart p))) ≡ kept_on R p q
    unfolding goes sent
    early =
        let f = sends R.trace p q in
        let i = iv 0 (R.restart p) in
        let a : keep (goes R p q) i ≡ keep (λ e. f e && kept R p q (sent R.trace p q e)) i =
        keep_iv_cong (goes R p q) (λ e. f e && kept R p q (sent R.trace p q e)) 0 (R.restart p) (λ y u v. let w : leb y (R.restart p) ≡ true = le-leb y (R.restart p) (omega arith) in rw w) in
        let b : length (keep f i) ≡ s_before R p q =
        (let w = cnt_iv f 0 (R.restart p) in let z : 0 + R.restart p ≡ R.restart p = omega arith in let u : cnt f 0 ≡ 0 = cnt_zero f in omega (arith, rw z at w, u)) in
        rw a (ap (map (sent R.trace p q)) (sym (keep_keep (λ e. kept R p q (sent R.trace p q e)) f i))
        ∙ sym (map_keep (sent R.trace p q) (kept R p q) (keep f i))
        ∙ ap (keep (kept R p q)) (map_cnt f 0 (R.restart p) ∙ rw (b, cnt_zero f))
        ∙ kept_early)
      where
        cnt_zero : (f : ℕ → Bool) → cnt f 0 ≡ 0
        cnt_zero f = unfold cnt in refl

    late : map (sent R.trace p q) (keep (goes R p q) (iv (R.restart p) (size R.trace - R.restart p))) ≡ ahead R p q (listed R p (R.restart p))
    unfolding goes ahead listed
    late =
        let i = iv (R.restart p) (size R.trace - R.restart p) in
        let a : keep (goes R p q) i ≡ keep (λ e. sends R.trace p q e && ltb (r_before R p q) (sent R.trace p q e)) i =
        keep_iv_cong (goes R p q) (λ e. sends R.trace p q e && ltb (r_before R p q) (sent R.trace p q e)) (R.restart p) (size R.trace - R.restart p) (λ y u v. let w : leb y (R.restart p) ≡ false = lt-leb y (R.restart p) u in rw w) in
        rw a (ap (map (sent R.trace p q)) (sym (keep_keep (λ e. ltb (r_before R p q) (sent R.trace p q e)) (sends R.trace p q) i))
        ∙ sym (map_keep (sent R.trace p q) (λ k. ltb (r_before R p q) k) (keep (sends R.trace p q) i))
        ∙ ap (λ x. keep (λ k. ltb (r_before R p q) k) (map (sent R.trace p q) x)) (keep_iv_cong (sends R.trace p q) (λ e. eqb p (at R.trace e) && send_to q (kind R.trace e)) (R.restart p) (size R.trace - R.restart p)
        (λ y u v. sends_split R.trace p q y) ∙ sym (keep_keep (λ e. send_to q (kind R.trace e)) (λ e. eqb p (at R.trace e)) i)))

    all_go : map (sent R.trace p q) (evs R p q 0) ≡ kept_on R p q ++ ahead R p q (listed R p (R.restart p))
    unfolding evs
    all_go =
        let h = restart_n R L p in
        let e : size R.trace - 0 ≡ R.restart p + (size R.trace - R.restart p) = omega arith in
        let z : 0 + R.restart p ≡ R.restart p = omega arith in
        rw (e, iv_append 0 (R.restart p) (size R.trace - R.restart p), z, keep_append (goes R p q) (iv 0 (R.restart p)), map-append (sent R.trace p q) (keep (goes R p q) (iv 0 (R.restart p))), early, late)

  module _ (t g : List ℕ) (T : Tells R t) (G : Gated R g) (l a : List ℕ) (H : Chained R 0 l a) where
    pub begin_cols : Cols R t l g
    begin_cols = record {
      tells = T;
      gated = G;
      spread = H.l_long;
      next = λ e h k m.
          let w : mine R (at R.trace e) e ≡ true = rw (lt-ltb (R.restart (at R.trace e)) e m, eqb_self (at R.trace e)) in
          H.next e h k w ∙ ap head0 (mine_after (at R.trace e) e (omega arith));
      next_message = λ p q e h k m. H.next_message p q e h k m;
      next_orphan = λ e h k m o.
          let w : (mine R (at R.trace e) e && orph R (at R.trace e) e) ≡ true = rw (lt-ltb (R.restart (at R.trace e)) e m, eqb_self (at R.trace e), o) in
          H.next_orphan e h k w ∙ ap head0 (orph_rest (at R.trace e) e ∙ ap (keep (orph R (at R.trace e))) (mine_after (at R.trace e) e (omega arith)));
    }

    pub begin_rel : Rel R (begin_a t a) (start R)
    unfolding begin_a
    begin_rel =
        let v = low_of t a (get_or t 0 0) in
        let far : (j : ℕ) → j ≢ low_place → get_or (set a low_place v) j 0 ≡ get_or a j 0 = λ j n. get_or-set_other a low_place j v 0 n in
        let orps : (z : ℕ) → z < 64 → orp_w a z ≡ head0 (keep (orph R z) (listed R z (R.restart z))) =
        λ z h. H.orp z h ∙ ap head0 (orph_rest z 0 ∙ ap (keep (orph R z)) (mine_listed z)) in
        record {
          room = rw length-set (omega (arith, H.a_long));
          cur = λ z h. far (current_base + z) (λ q. omega arith) ∙ H.cur z h ∙ ap head0 (mine_listed z);
          orp = λ z h. far (orphan_base + z) (λ q. omega arith) ∙ orps z h;
          low = λ r h. ready_low R L t g (told_of R t g T G) (start R) (inv_start R L).cursors a orps r h ∙ ap (ltb r) (sym (get_or-set_same a low_place v 0 (omega (arith, H.a_long))));
          chan = λ p q hp hq. record {
            C = [];
            F = evs R p q 0;
            x = 0;
            y = 0;
            x_le = omega arith;
            y_le = omega arith;
            all = refl;
            rest = refl;
            inside = refl;
            coming = all_go p q;
            tk_is = far (take_base + (64 * p + q)) (λ q. omega arith) ∙ H.takes p q hp hq;
            pt_is = far (put_base + (64 * p + q)) (λ q. omega arith) ∙ H.puts p q hp hq;
          };
          num = λ e h. far e (λ q. omega arith) ∙ H.num e h ∙ slot e (taken_number R (start R)) (n0 e);
          val = λ b e l h. far (taken_base b + e) (λ q. omega arith) ∙ H.val b e l h ∙ ap (half b) (slot e (taken_value R (start R)) (v0 e));
          beyond = λ k h. far k (λ q. omega arith) ∙ H.beyond k h;
        }
      where
        slot : (e : ℕ) (f : ℕ → ℕ) → (ltb 0 e ≡ false → f e ≡ 0) → cond (ltb 0 e) (f e) 0 ≡ f e
        slot e f h = by (ltb 0 e) (λ t. rw t) (λ t. rw t (sym (h t)))

        n0 : (e : ℕ) → ltb 0 e ≡ false → taken_number R (start R) e ≡ 0
        n0 e h = unfold taken_number in rw h

        v0 : (e : ℕ) → ltb 0 e ≡ false → taken_value R (start R) e ≡ 0
        v0 e h = unfold taken_value in rw h
