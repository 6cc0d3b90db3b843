-- The lists of kept messages by phase: an event of the pass goes before those of its phase, so that at the end each
-- kept message is on its list, and lists are of growing events.
use mathlib.Core.Path.{◌≡◌, ◌∙◌}
use mathlib.Core.List.{List}
use Prim.Native.Nat.{ℕ, zero, suc, ◌+◌, ◌-◌, ◌*◌, ◌≤◌, ◌<◌}
use native.Mathlib.Omega.{arith}
use lib.ListN.{length, length-set, get_or, set, replicate, length-replicate}
use lib.Seq.{get_or-set_same, get_or-set_other}
use lib.Dec.{eqb}
use borrow.Author.Tests.{eq-eqb}
use Rattle.words.proofs.Area.{zero_word}
use Rattle.words.proofs.Cases.{by_bool, by_eq, clash}
use Rattle.machine.specs.Inner.Words.{Small}
use Rattle.columns.specs.Inner.Full.{phase_w}
use Rattle.links.specs.Inner.Linking.{head_words, sent_class, chain_a, link_l, kept_l, kept_h, linked_l, linked_h}
use Rattle.links.specs.Inner.Listed.{OnList, here, later, ListsRising}
use Rattle.links.specs.Inner.Shapes.{PhasedTo}
use Rattle.links.proofs.Linking.{far_a, len_a, small_a}

pub heads_small : (t g : List ℕ) (cut n d : ℕ) → n ≤ 2048 → (k : ℕ) → get_or (linked_h t g cut n d) k 0 < 2049
unfolding linked_h kept_h Small
heads_small t g cut n zero h k = rw (zero_word 2056 k) (omega arith)
heads_small t g cut n (suc d) h k = small_a _ _ _ (n - d) (omega arith) (heads_small t g cut n d h) k

-- ---- What is on a list

pub on_pos : (l : List ℕ) (x m : ℕ) → OnList l x m → 0 < x
on_pos l x m (here y h) = h
on_pos l x m (later y w h k) = h

-- the links of the lists are the same
on_same : (l l' : List ℕ) → ((k : ℕ) → get_or l' (4 * k + 3) 0 ≡ get_or l (4 * k + 3) 0) → (x m : ℕ) → OnList l x m → OnList l' x m
on_same l l' e x m (here y h) = here y h
on_same l l' e x m (later y w h k) = later y w h (rw (e y) (on_same l l' e (get_or l (4 * y + 3) 0) w k))

-- a link before the list is another
on_set : (l : List ℕ) (e v x m : ℕ) → ListsRising l → e < x → OnList l x m → OnList (set l (4 * e + 3) v) x m
unfolding ListsRising
on_set l e v x m r h (here y p) = here y p
on_set l e v x m r h (later y w p k) =
    let j : get_or (set l (4 * e + 3) v) (4 * y + 3) 0 ≡ get_or l (4 * y + 3) 0 = get_or-set_other l (4 * e + 3) (4 * y + 3) v 0 (λ q. omega arith) in
    let i : y < get_or l (4 * y + 3) 0 = r y (on_pos l (get_or l (4 * y + 3) 0) w k) in
    later y w p (rw j (on_set l e v (get_or l (4 * y + 3) 0) w r (omega arith) k))

-- ---- The pass

module _ (t g : List ℕ) (cut n : ℕ) where
  -- the kept messages after event x are on their lists
  pub record Listing (x : ℕ) (l h : List ℕ) : Type 0 where
    pub links_long : 8197 ≤ length l
    pub heads_long : length h ≡ head_words
    pub rising : ListsRising l
    pub ahead : (f : ℕ) → 0 < get_or h f 0 → x < get_or h f 0
    pub on : (m : ℕ) → x < m → m ≤ n → sent_class t g cut m ≡ 2 → OnList l (get_or h (phase_w t m) 0) m

  listing_start : (l : List ℕ) → 8197 ≤ length l → ((k : ℕ) → get_or l k 0 ≡ 0) → Listing n l (replicate head_words 0)
  unfolding ListsRising
  listing_start l h z = record {
    links_long = h;
    heads_long = length-replicate {A = ℕ} head_words 0;
    rising = λ e p. absurd (omega (arith, p, z (4 * e + 3)));
    ahead = λ f p. absurd (omega (arith, p, zero_word 2056 f));
    on = λ m a b c. absurd (omega arith);
  }

  -- other links of event e
  link_slots : (l a : List ℕ) (e k : ℕ) → get_or (link_l t g cut l a e) (4 * k + 3) 0 ≡ get_or l (4 * k + 3) 0
  unfolding link_l
  link_slots l a e k =
      far_a _ _ (4 * e + 1) _ (4 * k + 3) (λ q. omega arith) ∙ far_a _ _ (4 * e + 2) _ (4 * k + 3) (λ q. omega arith) ∙ far_a _ _ (4 * e) _ (4 * k + 3) (λ q. omega arith)

  link_long : (l a : List ℕ) (e : ℕ) → length (link_l t g cut l a e) ≡ length l
  unfolding link_l
  link_long l a e = len_a _ _ (4 * e + 1) _ ∙ len_a _ _ (4 * e + 2) _ ∙ len_a _ l (4 * e) _

  listing_linked : (x e : ℕ) (l a h : List ℕ) → Listing x l h → Listing x (link_l t g cut l a e) h
  unfolding ListsRising
  listing_linked x e l a h L = record {
    links_long = omega (arith, link_long l a e, L.links_long);
    heads_long = L.heads_long;
    rising = λ k. rw (link_slots l a e k) (L.rising k);
    ahead = L.ahead;
    on = λ m i k c. on_same l (link_l t g cut l a e) (link_slots l a e) _ m (L.on m i k c);
  }

  module _ (e : ℕ) (p : 0 < e) (le : e ≤ n) (few : n ≤ 2048) (in_heads : phase_w t e < head_words) (l h : List ℕ) (L : Listing e l h) where
    abbrev f : ℕ
    f = phase_w t e

    -- event e before those of its phase
    abbrev l' : List ℕ
    l' = set l (4 * e + 3) (get_or h f 0)

    abbrev h' : List ℕ
    h' = set h f e

    head_is : get_or h' f 0 ≡ e
    head_is = get_or-set_same h f e 0 (omega (arith, L.heads_long, in_heads))

    slot_is : get_or l' (4 * e + 3) 0 ≡ get_or h f 0
    slot_is = get_or-set_same l (4 * e + 3) (get_or h f 0) 0 (omega (arith, L.links_long, le, few))

    still : (x m : ℕ) → 0 < x → OnList l x m → ((0 < x) → e < x) → OnList l' x m
    still x m q o a = on_set l e (get_or h f 0) x m L.rising (a q) o

    listing_kept : Listing (e - 1) l' h'
    unfolding ListsRising
    listing_kept = record {
      links_long = omega (arith, length-set l (4 * e + 3) (get_or h f 0), L.links_long);
      heads_long = length-set h f e ∙ L.heads_long;
      rising = λ k. by_eq k e
          (λ i. rw (i, slot_is) (L.ahead f))
          (λ i. rw (get_or-set_other l (4 * e + 3) (4 * k + 3) (get_or h f 0) 0 (λ q. i (omega arith))) (L.rising k));
      ahead = λ k. by_eq k f
          (λ i. rw (i, head_is) (λ q. omega arith))
          (λ i. rw (get_or-set_other h f k e 0 i) (λ q. omega (arith, L.ahead k q)));
      on = λ m i k c. by_eq m e
          (λ j. rw (j, head_is) (here e p))
          (λ j. let o = L.on m (omega (arith, i, j)) k c in
          let q = on_pos l _ m o in
          by_eq (phase_w t m) f
          (λ y. let s : OnList l' (get_or h f 0) m = rw y at (still _ m q o (L.ahead (phase_w t m))) in rw (y, head_is) (later e m p (rw slot_is s)))
          (λ y. rw (get_or-set_other h f (phase_w t m) e 0 y) (still _ m q o (L.ahead (phase_w t m)))));
    }

    -- another event is on no list
    listing_other : (sent_class t g cut e ≡ 2 → ⊥) → Listing (e - 1) l h
    listing_other not = record {
      links_long = L.links_long;
      heads_long = L.heads_long;
      rising = L.rising;
      ahead = λ k q. omega (arith, L.ahead k q);
      on = λ m i k c. by_eq m e (λ j. absurd (not (rw j at c))) (λ j. L.on m (omega (arith, i, j)) k c);
    }

    listing_turn : Listing (e - 1) (kept_l l h f e (sent_class t g cut e)) (kept_h h f e (sent_class t g cut e))
    unfolding kept_l kept_h chain_a
    listing_turn = by_bool (eqb (sent_class t g cut e) 2)
        (λ y. rw y listing_kept)
        (λ y. rw y (listing_other (λ c. clash (eq-eqb (sent_class t g cut e) 2 c) y)))

  module _ (few : n ≤ 2048) (phased : PhasedTo t n) (l a : List ℕ) (hl : 8197 ≤ length l) (zl : (k : ℕ) → get_or l k 0 ≡ 0) where
    listing_after : (d : ℕ) → d ≤ n → Listing (n - d) (linked_l t g cut n d l a) (linked_h t g cut n d)
    unfolding linked_l linked_h PhasedTo
    listing_after zero h = let e : n - 0 ≡ n = omega arith in rw e (listing_start l hl zl)
    listing_after (suc d) h =
        let e : n - suc d ≡ n - d - 1 = omega arith in
        rw e (listing_turn (n - d) (omega arith) (omega arith) few (phased (n - d) (omega arith) (omega arith)) _ _ (listing_linked (n - d) (n - d) _ _ _ (listing_after d (omega arith))))

    pub all_listed : Listing 0 (linked_l t g cut n n l a) (linked_h t g cut n n)
    all_listed = let e : n - n ≡ 0 = omega arith in rw e at (listing_after n (omega arith))
