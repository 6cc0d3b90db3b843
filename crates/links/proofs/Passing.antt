-- One law for each way out of the functions that link the events, over the values that the code has there.
use mathlib.Core.Path.{◌≡◌, refl, sym, ◌∙◌}
use mathlib.Core.Logic.{◌≢◌}
use mathlib.Core.Bool.{Bool, true, false}
use mathlib.Core.List.{List}
use Prim.Native.Nat.{ℕ, suc, ◌+◌, ◌-◌, ◌*◌, ◌≤◌, ◌<◌}
use native.Mathlib.Omega.{arith}
use lib.ListN.{length, length-set, get_or, set, replicate}
use lib.Seq.{get_or-set_same, get_or-set_other}
use lib.Dec.{ltb, eqb}
use borrow.Author.Tests.{lt-leb, le-leb, eq-eqb, ne_eqb}
use Rattle.words.proofs.Cases.{by_bool, by_eq}
use Rattle.words.specs.Area.{area_words}
use Rattle.machine.specs.Inner.Words.{current_base, orphan_base, put_base, cur_w, orp_w, put_w, noted_w, Bounded}
use Rattle.machine.specs.Inner.Shapes.{Pointed}
use Rattle.machine.proofs.Noted.{length_noted, noted_other}
use Rattle.columns.specs.Inner.Full.{kind_w, peer_w, at_w, match_w, phase_w}
use Rattle.classes.specs.Inner.Words.{class_w}
use Rattle.links.specs.Inner.Linking.{mine_w, sent_class, early_w, chain_a, record_a, sent_l, sent_a, link_l, link_a, head_words, kept_l, kept_h, linked_a, linked_h, linked_l}
use Rattle.links.specs.Inner.Shapes.{Paired, PairedTo, PhasedTo}
use Rattle.links.proofs.Linking.{far_a}

pub paired_at : (t : List ℕ) (n e : ℕ) → PairedTo t n → 0 < e → e ≤ n → Paired t e
unfolding PairedTo
paired_at t n e h p q = h e p q

pub phased_at : (t : List ℕ) (n e : ℕ) → PhasedTo t n → 0 < e → e ≤ n → phase_w t e < head_words
unfolding PhasedTo
phased_at t n e h p q = h e p q

pub chain_yes : (b : Bool) (a : List ℕ) (k v : ℕ) → b ≡ true → set a k v ≡ chain_a b a k v
unfolding chain_a
chain_yes b a k v h = rw h

pub chain_no : (b : Bool) (a : List ℕ) (k v : ℕ) → b ≡ false → a ≡ chain_a b a k v
unfolding chain_a
chain_no b a k v h = rw h

-- the class of what event e sends, by its kind k
module _ (t g : List ℕ) (cut e k : ℕ) (ek : k ≡ kind_w t e) where
  pub class_send : k ≡ 1 → (r : ℕ) → r ≡ class_w t g cut e → r ≡ sent_class t g cut e
  unfolding sent_class
  class_send h r er = rw (eq-eqb (kind_w t e) 1 (sym ek ∙ h)) er

  pub class_none : k ≢ 1 → 0 ≡ sent_class t g cut e
  unfolding sent_class
  class_none h = rw (ne_eqb (kind_w t e) 1 (λ i. h (ek ∙ i)))

-- event e linked: the process z, the peer q, its restart w, whether it is listed, the links and the area after its own
-- chain, the class
module _ (t g : List ℕ) (cut : ℕ) (l a : List ℕ) (e z q w class : ℕ) (l₁ a₁ : List ℕ) (f₁ : Bool) (ez : z ≡ at_w t e) (eq : q ≡ peer_w t e)
    (ew : w ≡ get_or g (64 + z) 0) (e₁ : ltb w e ≡ f₁) (el : l₁ ≡ chain_a f₁ l (4 * e) (cur_w a z)) (ea : a₁ ≡ chain_a f₁ a (current_base + z) e)
    (ec : class ≡ sent_class t g cut e) where
  own : z < 64
  own = rw ez (omega arith)

  is_mine : mine_w t g e ≡ f₁
  is_mine = rw (← ez, ← ew) e₁

  pub linked_l_lem : (b : List ℕ) → b ≡ sent_l l₁ a₁ z (64 * z + q) e class → b ≡ link_l t g cut l a e
  unfolding link_l sent_l
  linked_l_lem b eb =
      let i : orp_w a₁ z ≡ orp_w a z = rw ea (far_a f₁ a (current_base + z) e (orphan_base + z) (λ y. omega (arith, own))) in
      let j : put_w a₁ (64 * z + q) ≡ put_w a (64 * z + q) = rw ea (far_a f₁ a (current_base + z) e (put_base + (64 * z + q)) (λ y. omega (arith, own))) in
      eb ∙ rw (is_mine, i, j, el, ec, ez, eq)

  pub linked_a_lem : (f : Bool) (b d : List ℕ) → f ≡ early_w t g e → d ≡ sent_a a₁ z (64 * z + q) e class
      → b ≡ record_a f t d e (match_w t e) → b ≡ link_a t g cut a e
  unfolding link_a sent_a
  linked_a_lem f b d ef ed eb = eb ∙ rw (is_mine, ed, ef, ea, ec, ez, eq)

-- on record where a test holds, nothing where it does not
pub record_yes : (t a : List ℕ) (e m m' : ℕ) → m ≡ m' → noted_w t a e m ≡ record_a true t a e m'
unfolding record_a
record_yes t a e m m' h = rw h

pub record_none : (t a : List ℕ) (e m : ℕ) → a ≡ record_a false t a e m
unfolding record_a
record_none t a e m = refl

-- a listed event is no receive before the restart; another is, if it is a receive
module _ (t g : List ℕ) (e z w : ℕ) (ez : z ≡ at_w t e) (ew : w ≡ get_or g (64 + z) 0) where
  pub early_listed : w < e → false ≡ early_w t g e
  unfolding early_w
  early_listed h = rw (← ez, ← ew, lt-leb e w h) (by_bool (eqb (kind_w t e) 2) (λ x. rw x) (λ x. rw x))

  pub early_other : e ≤ w → (k : ℕ) → k ≡ kind_w t e → eqb k 2 ≡ early_w t g e
  unfolding early_w
  early_other h k ek = rw (← ez, ← ew, le-leb e w h, ek) (by_bool (eqb (kind_w t e) 2) (λ x. rw x) (λ x. rw x))

module _ (t g : List ℕ) (cut n x : ℕ) (p : 0 < x) (q : x ≤ n) (l₀ a₀ l a l' a' : List ℕ) where
  last : n - (x - 1) ≡ suc (n - x)
  last = omega (arith, p, q)

  here : n - (n - x) ≡ x
  here = omega (arith, q)

  pub words_turn : a ≡ linked_a t g cut n (n - x) a₀ → a' ≡ link_a t g cut a x → a' ≡ linked_a t g cut n (n - (x - 1)) a₀
  unfolding linked_a
  words_turn ea e = rw (last, here, ← ea) e

  module _ (h h' : List ℕ) (class : ℕ) (eh : h ≡ linked_h t g cut n (n - x)) (ec : class ≡ sent_class t g cut x) where
    pub links_turn : a ≡ linked_a t g cut n (n - x) a₀ → l ≡ linked_l t g cut n (n - x) l₀ a₀ → (l₁ : List ℕ) → l₁ ≡ link_l t g cut l a x
        → l' ≡ kept_l l₁ h (phase_w t x) x class → l' ≡ linked_l t g cut n (n - (x - 1)) l₀ a₀
    unfolding linked_l
    links_turn ea el l₁ e₁ e = rw (last, here, ← ea, ← el, ← eh, ← ec, ← e₁) e

    pub heads_turn : h' ≡ kept_h h (phase_w t x) x class → h' ≡ linked_h t g cut n (n - (x - 1))
    unfolding linked_h
    heads_turn e = rw (last, here, ← eh, ← ec) e

-- Every pointer that the pass writes is an event; the record is before the pointers.
pointed_chain : (b : Bool) (a : List ℕ) (k v : ℕ) → k < area_words → v < 2049 → Pointed a → Pointed (chain_a b a k v)
unfolding chain_a Bounded
pointed_chain true a k v h w p = record {
  area_long = length-set a k v ∙ p.area_long;
  bounded = λ j l m. by_eq j k
      (λ e. rw (e, get_or-set_same a k v 0 (omega (arith, h, p.area_long))) w)
      (λ n. rw (get_or-set_other a k j v 0 n) (p.bounded j l m));
}
pointed_chain false a k v h w p = p

pointed_record : (b : Bool) (t a : List ℕ) (e m : ℕ) → e < 2049 → Pointed a → Pointed (record_a b t a e m)
unfolding record_a Bounded
pointed_record true t a e m h p = record {
  area_long = length_noted t a e m ∙ p.area_long;
  bounded = λ j l k. rw (noted_other t a e m j (λ q. omega arith) (λ b r q. omega arith)) (p.bounded j l k);
}
pointed_record false t a e m h p = p

-- an event written
pub pointed_next : (b : Bool) (a : List ℕ) (k e : ℕ) (a' : List ℕ) → k < area_words → e < 2049 → Pointed a → a' ≡ chain_a b a k e → Pointed a'
pointed_next b a k e a' h l p i = rw i (pointed_chain b a k e h l p)

pub pointed_turn : (t g : List ℕ) (cut e : ℕ) (a b : List ℕ) → e < 2049 → Pointed a → b ≡ link_a t g cut a e → Pointed b
unfolding link_a
pointed_turn t g cut e a b h p eb =
    let z : at_w t e < 64 = omega arith in
    let c : 64 * at_w t e + peer_w t e < 4096 = omega arith in
    rw eb (pointed_record _ _ _ _ _ h
    (pointed_chain _ _ _ _ (omega (arith, c)) h (pointed_chain _ _ _ _ (omega (arith, c)) h
    (pointed_chain _ _ _ _ (omega (arith, z)) h (pointed_chain _ _ _ _ (omega (arith, z)) h p)))))

-- the events after x are linked
pub record LinkedTo (t g : List ℕ) (cut n : ℕ) (l₀ a₀ l h a : List ℕ) (x : ℕ) : Type 0 where
  pub within : x ≤ n
  pub links_same : length l ≡ length l₀
  pub heads_long : length h ≡ head_words
  pub heads_are : h ≡ linked_h t g cut n (n - x)
  pub links_are : l ≡ linked_l t g cut n (n - x) l₀ a₀
  pub words_are : a ≡ linked_a t g cut n (n - x) a₀
  pub pointed : Pointed a

pub words_none : (t g : List ℕ) (cut n : ℕ) (a₀ : List ℕ) → a₀ ≡ linked_a t g cut n (n - n) a₀
unfolding linked_a
words_none t g cut n a₀ = let e : n - n ≡ 0 = omega arith in rw e

pub heads_none : (t g : List ℕ) (cut n : ℕ) (h : List ℕ) → h ≡ replicate head_words 0 → h ≡ linked_h t g cut n (n - n)
unfolding linked_h
heads_none t g cut n h i = let e : n - n ≡ 0 = omega arith in rw e i

pub links_none : (t g : List ℕ) (cut n : ℕ) (l₀ a₀ : List ℕ) → l₀ ≡ linked_l t g cut n (n - n) l₀ a₀
unfolding linked_l
links_none t g cut n l₀ a₀ = let e : n - n ≡ 0 = omega arith in rw e
