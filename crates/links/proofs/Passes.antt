-- The whole pass of specs/Inner/Linking, from the last event to the first: it sets the links of the run and its first
-- state. From what its tests mean at every event (`Tested`), by Linking and Begin.
use mathlib.Core.Path.{◌≡◌, refl, sym, ◌∙◌, ap, subst}
use mathlib.Core.Bool.{Bool, ◌&&◌, and-false, cond}
use mathlib.Core.List.{List, [], ◌∷◌}
use Prim.Native.Nat.{ℕ, zero, suc, ◌+◌, ◌-◌, ◌*◌, ◌≤◌, ◌<◌}
use native.Mathlib.Omega.{arith}
use lib.ListN.{length, get_or}
use lib.Dec.{leb, ltb}
use borrow.Author.Tests.{lt-leb, ltb-true}
use Rattle.words.specs.Halves.{half}
use Rattle.words.proofs.Halves.{half_none}
use Rattle.theory.specs.Lists.{iv, keep}
use Rattle.theory.specs.Events.{size}
use Rattle.theory.specs.Line.{Run}
use Rattle.theory.specs.Replay.{start}
use Rattle.theory.proofs.Base.{by, keep_head}
use Rattle.machine.specs.Taken.{taken_base, taken_number, taken_value}
use Rattle.machine.specs.Inner.Words.{current_base, orphan_base, take_base, put_base, cur_w, orp_w, put_w, Small}
use Rattle.columns.specs.Inner.Full.{peer_w, at_w, match_w, phase_w}
use Rattle.theory.specs.Inner.Lists.{head0}
use Rattle.machine.specs.Inner.Related.{goes, evs, orph, Cols, Rel}
use Rattle.columns.specs.Inner.Given.{Tells, Gated}
use Rattle.links.specs.Inner.Linking.{mine_w, orphan_w, goes_w, early_w, link_l, link_a, kept_l, linked_l, linked_a, begin_a}
use Rattle.links.specs.Inner.Linked.{mine, rest, Chained}
use Rattle.links.proofs.Linking.{Tests, step_l, step_a, chained_next, chained_slot}
use Rattle.links.proofs.Listed.{heads_small}
use Rattle.links.proofs.FirstState.{begin_cols, begin_rel}

-- the tests by words mean what they should, at every event
unfoldable pub Tested : Run → List ℕ → List ℕ → ℕ → Type 0
Tested R t g cut = (e : ℕ) → 0 < e → e ≤ size R.trace
    → Tests R e (at_w t e) (peer_w t e) (mine_w t g e) (orphan_w t g cut e) (goes_w t g cut e) (early_w t g e) t (match_w t e)

pub head_lt : (R : Run) (f : ℕ → Bool) (x : ℕ) → x ≤ size R.trace → size R.trace ≤ 2048 → head0 (rest R f x) < 2049
head_lt R f x h k = go (rest R f x) refl
  where
    go : (l : List ℕ) → rest R f x ≡ l → head0 l < 2049
    go [] e = omega arith
    go (d ∷ ds) e = omega (arith, (keep_head f x (size R.trace - x) d ds e).1)

rest_none : (R : Run) (f : ℕ → Bool) → rest R f (size R.trace) ≡ []
unfolding keep iv
rest_none R f = let e : size R.trace - size R.trace ≡ 0 = omega arith in rw e

module _ (R : Run) (t g : List ℕ) (cut : ℕ) where
  evs_none : (p q : ℕ) → evs R p q (size R.trace) ≡ []
  unfolding evs
  evs_none p q = rest_none R (goes R p q)

  evs_lt : (p q x : ℕ) → x ≤ size R.trace → size R.trace ≤ 2048 → head0 (evs R p q x) < 2049
  unfolding evs
  evs_lt p q x h k = head_lt R (goes R p q) x h k

  pub chained_start : (l a : List ℕ) → 8197 ≤ length l → length a ≡ 16384 → ((k : ℕ) → get_or l k 0 ≡ 0) → ((k : ℕ) → get_or a k 0 ≡ 0) → Chained R (size R.trace) l a
  unfolding Small taken_number taken_value
  chained_start l a hl ha zl za = record {
    l_long = hl;
    a_long = ha;
    cur = λ z h. za (current_base + z) ∙ ap head0 (sym (rest_none R (mine R z)));
    orp = λ z h. za (orphan_base + z) ∙ ap head0 (sym (rest_none R (λ e. mine R z e && orph R z e)));
    puts = λ p q h k. za (put_base + (64 * p + q)) ∙ ap head0 (sym (evs_none p q));
    takes = λ p q h k. za (take_base + (64 * p + q)) ∙ ap head0 (sym (evs_none p q));
    next = λ e h k m. absurd (omega arith);
    next_message = λ p q e h k m. absurd (omega arith);
    next_orphan = λ e h k m. absurd (omega arith);
    num = λ e h. za e ∙ none_after e _;
    val = λ b e l h. za (taken_base b + e) ∙ sym (half_none b) ∙ ap (half b) (none_after e _);
    beyond = λ k h. za k;
    small = λ k. rw (zl k) (omega arith);
  }
    where
      none_after : (e m : ℕ) → 0 ≡ cond (ltb (size R.trace) e) (cond (ltb 0 e && leb e (size R.trace)) m 0) 0
      none_after e m = by (ltb (size R.trace) e)
          (λ u. rw (u, lt-leb e (size R.trace) (ltb-true (size R.trace) e u), and-false (ltb 0 e)))
          (λ u. rw u)

  pub link_turn : (x : ℕ) → 0 < x → x ≤ size R.trace → size R.trace ≤ 2048 → Tested R t g cut → (l a l' a' : List ℕ) → Chained R x l a → l' ≡ link_l t g cut l a x → a' ≡ link_a t g cut a x → Chained R (x - 1) l' a'
  unfolding link_l link_a Tested
  link_turn x h k n Q l a l' a' H el ea =
      let e : x ≡ suc (x - 1) = omega arith in
      let z = at_w t x in
      let q = peer_w t x in
      let b₁ : cur_w a z < 2049 = rw (H.cur z (omega arith)) (head_lt R (mine R z) x k n) in
      let b₂ : orp_w a z < 2049 = rw (H.orp z (omega arith)) (head_lt R (λ e. mine R z e && orph R z e) x k n) in
      let b₃ : put_w a (64 * z + q) < 2049 = rw (H.puts z q (omega arith) (omega arith)) (evs_lt z q x k n) in
      rw (el, ea) (go x (x - 1) e (omega arith) H (Q x h k) b₁ b₂ b₃)
    where
      go : (e y : ℕ) → e ≡ suc y → y < size R.trace → Chained R e l a → Tests R e (at_w t x) (peer_w t x) (mine_w t g x) (orphan_w t g cut x) (goes_w t g cut x) (early_w t g x) t (match_w t x)
          → cur_w a (at_w t x) < 2049 → orp_w a (at_w t x) < 2049 → put_w a (64 * at_w t x + peer_w t x) < 2049
          → Chained R y (step_l R l a e (at_w t x) (peer_w t x) (mine_w t g x) (orphan_w t g cut x) (goes_w t g cut x))
          (step_a R a e (at_w t x) (peer_w t x) (mine_w t g x) (orphan_w t g cut x) (goes_w t g cut x) (early_w t g x) t (match_w t x))
      go e y i j H Q b₁ b₂ b₃ =
          subst (λ e. Chained R e l a → Tests R e (at_w t x) (peer_w t x) (mine_w t g x) (orphan_w t g cut x) (goes_w t g cut x) (early_w t g x) t (match_w t x)
          → Chained R y (step_l R l a e (at_w t x) (peer_w t x) (mine_w t g x) (orphan_w t g cut x) (goes_w t g cut x))
          (step_a R a e (at_w t x) (peer_w t x) (mine_w t g x) (orphan_w t g cut x) (goes_w t g cut x) (early_w t g x) t (match_w t x))) (sym i)
          (λ H Q. chained_next R y j n l a H (at_w t x) (peer_w t x) (mine_w t g x) (orphan_w t g cut x) (goes_w t g cut x) (early_w t g x) t (match_w t x) Q b₁ b₂ b₃) H Q

  module _ (few : size R.trace ≤ 2048) (Q : Tested R t g cut) (l a : List ℕ) (hl : 8197 ≤ length l) (ha : length a ≡ 16384)
      (zl : (k : ℕ) → get_or l k 0 ≡ 0) (za : (k : ℕ) → get_or a k 0 ≡ 0) where
    abbrev n : ℕ
    n = size R.trace

    -- after the last d events
    chained_after : (d : ℕ) → d ≤ n → Chained R (n - d) (linked_l t g cut n d l a) (linked_a t g cut n d a)
    unfolding linked_l linked_a kept_l Small
    chained_after zero h = let e : n - 0 ≡ n = omega arith in rw e (chained_start l a hl ha zl za)
    chained_after (suc d) h =
        let e : n - suc d ≡ n - d - 1 = omega arith in
        let c = link_turn (n - d) (omega arith) (omega arith) few Q (linked_l t g cut n d l a) (linked_a t g cut n d a) _ _ (chained_after d (omega arith)) refl refl in
        rw e (chained_slot R (n - d - 1) _ _ _ (n - d) _ (heads_small t g cut n d few (phase_w t (n - d))) c)

    pub all_chained : Chained R 0 (linked_l t g cut n n l a) (linked_a t g cut n n a)
    all_chained = let e : n - n ≡ 0 = omega arith in rw e at (chained_after n (omega arith))

    -- links and first state
    module _ (T : Tells R t) (G : Gated R g) where
      pub linked_cols : Cols R t (linked_l t g cut n n l a) g
      linked_cols = begin_cols R T.laws t g T G _ _ all_chained

      pub linked_rel : Rel R (begin_a t (linked_a t g cut n n a)) (start R)
      linked_rel = begin_rel R T.laws t g T G _ _ all_chained

      pub linked_small : Small (linked_l t g cut n n l a)
      linked_small = all_chained.small
