-- A whole order by words: what is still to do from a place on is what there was to do from the start (`Live`); which
-- choices are left; and what the run area holds at the end (`record_left`). From Choices.
use mathlib.Core.Path.{◌≡◌, refl, sym, ◌∙◌, ap}
use mathlib.Core.Bool.{true, false, not}
use mathlib.Core.List.{List, [], ◌∷◌}
use mathlib.Core.Option.{Option, none, some}
use Prim.Native.Nat.{ℕ, zero, suc, ◌+◌, ◌-◌, ◌*◌, ◌/◌, ◌%◌, ◌≤◌, ◌<◌}
use native.Mathlib.Omega.{arith}
use native.Mathlib.Numerals.{add-one}
use lib.ListN.{length, get_or, drop}
use borrow.Author.Tests.{lt-ltb, le-ltb}
use Rattle.words.specs.Area.{words_from}
use Rattle.words.specs.Halves.{half}
use Rattle.words.proofs.Area.{words_ext}
use Rattle.theory.specs.Lists.{keep, if_some}
use Rattle.theory.specs.Events.{size}
use Rattle.theory.specs.Line.{Run}
use Rattle.theory.specs.Replay.{State, start}
use Rattle.theory.specs.Order.{Outcome, carried_out, refused, is_none, choose, carry, run, complete}
use Rattle.theory.specs.Inner.Laws.{Laws}
use Rattle.theory.proofs.Base.{on, clash, le?, all_same}
use Rattle.theory.specs.Inner.Flow.{Inv}
use Rattle.theory.proofs.Loss.{inv_start}
use Rattle.machine.specs.Taken.{taken_base, record_end, taken_value}
use Rattle.machine.specs.Inner.Words.{current_base, orphan_base, take_base, put_base, low_place, take_w, put_w, allowed_w, apply_w, Bounded, none_allowed}
use Rattle.theory.specs.Inner.Lists.{head0}
use Rattle.machine.specs.Inner.Related.{evs, orph, Cols, Chan, Rel}
use Rattle.orders.specs.Record.{record_word, record_at}
use Rattle.orders.specs.Inner.Left.{Live}
use Rattle.machine.proofs.Told.{told}
use Rattle.machine.proofs.Facts.{evs_head, in_list}
use Rattle.machine.proofs.Moves.{at_next}
use Rattle.machine.proofs.Choices.{Agrees, refuses, allows, choice_agrees}

drop_at : (ns : List ℕ) (i : ℕ) → i < length ns → drop i ns ≡ get_or ns i 0 ∷ drop (suc i) ns
drop_at [] i h = absurd (omega arith)
drop_at (x ∷ xs) zero h = refl
drop_at (x ∷ xs) (suc i) h = drop_at xs i (omega arith)

drop_end : (ns : List ℕ) (i : ℕ) → length ns ≤ i → drop i ns ≡ []
drop_end [] zero h = refl
drop_end [] (suc i) h = refl
drop_end (x ∷ xs) zero h = absurd (omega arith)
drop_end (x ∷ xs) (suc i) h = drop_end xs i (omega arith)

module _ (R : Run) (L : Laws R) (t l g : List ℕ) (K : Cols R t l g) where
  carry_at : (s : State) (i : ℕ) (ns : List ℕ) → i < length ns → carry R s (suc i) (drop i ns) ≡ if_some (choose R s (get_or ns i 0)) (refused (suc i)) (λ u. carry R u (suc (suc i)) (drop (suc i) ns))
  unfolding carry
  carry_at s i ns h = rw (drop_at ns i h)

  carry_end : (s : State) (i : ℕ) (ns : List ℕ) → length ns ≤ i → carry R s (suc i) (drop i ns) ≡ carried_out s
  unfolding carry
  carry_end s i ns h = rw (drop_end ns i h)

  module _ (a : List ℕ) (i : ℕ) (ns : List ℕ) (w : Outcome) (v : Live R a i ns w) where
    pub live_bad : i < length ns → allowed_w t g a (get_or ns i 0) ≡ false → w ≡ refused (i + 1)
    live_bad h k = go (choose R v.state (get_or ns i 0)) refl (choice_agrees R L t l g K a v.state v.rel v.inv (get_or ns i 0))
      where
        go : (o : Option State) → choose R v.state (get_or ns i 0) ≡ o → Agrees R L t l g K (allowed_w t g a (get_or ns i 0)) (apply_w t l a (get_or ns i 0)) o → w ≡ refused (i + 1)
        go none e d = sym v.rest ∙ carry_at v.state i ns h ∙ rw e (ap refused (sym (add-one i)))
        go (some u) e (allows v' y r j) = clash y k

    pub live_next : i < length ns → allowed_w t g a (get_or ns i 0) ≡ true → Live R (apply_w t l a (get_or ns i 0)) (i + 1) ns w
    live_next h k = go (choose R v.state (get_or ns i 0)) refl (choice_agrees R L t l g K a v.state v.rel v.inv (get_or ns i 0))
      where
        go : (o : Option State) → choose R v.state (get_or ns i 0) ≡ o → Agrees R L t l g K (allowed_w t g a (get_or ns i 0)) (apply_w t l a (get_or ns i 0)) o
            → Live R (apply_w t l a (get_or ns i 0)) (i + 1) ns w
        go none e (refuses y) = clash k y
        go (some u) e (allows v' y r j) =
            let x : carry R v.state (suc i) (drop i ns) ≡ carry R u (suc (suc i)) (drop (suc i) ns) = carry_at v.state i ns h ∙ rw e in
            record { state = u; rel = r; inv = j; rest = rw (add-one i) (sym x ∙ v.rest) }

    pub live_end : length ns ≤ i → (s : State) × Rel R a s × Inv R s × (w ≡ carried_out s)
    live_end h = (v.state, v.rel, v.inv, sym v.rest ∙ carry_end v.state i ns h)

  pub live_start : (a : List ℕ) (ns : List ℕ) → Rel R a (start R) → Live R a 0 ns (run R ns)
  unfolding run
  live_start a ns r = record { state = start R; rel = r; inv = inv_start R L; rest = refl }

  -- the words tell whether an order is complete
  pub none_same : (a : List ℕ) (s : State) → Rel R a s → Inv R s → none_allowed t g a ≡ complete R s
  unfolding none_allowed complete
  none_same a s r i = all_same 4160 _ _ (λ c h. go c (choose R s c) (choice_agrees R L t l g K a s r i c))
    where
      go : (c : ℕ) (o : Option State) → Agrees R L t l g K (allowed_w t g a c) (apply_w t l a c) o → not (allowed_w t g a c) ≡ is_none o
      go c none (refuses y) = rw y
      go c (some u) (allows v' y r j) = rw y

  -- every pointer is an event
  pub rel_bounded : (a : List ℕ) (s : State) → Rel R a s → Inv R s → Bounded a
  unfolding Bounded
  rel_bounded a s r i k h j = on (le? orphan_base k)
      (λ u. on (le? take_base k)
      (λ v. on (le? put_base k) (λ x. chan_put (k - put_base) (omega arith) (omega arith)) (λ x. chan_take (k - take_base) (omega arith) (omega arith)))
      (λ v. let e : k ≡ orphan_base + (k - orphan_base) = omega arith in rw e (rw (r.orp (k - orphan_base) (omega arith)) (orp_lt (k - orphan_base) (keep (orph R (k - orphan_base)) (s.todo (k - orphan_base))) refl))))
      (λ u. let e : k ≡ current_base + (k - current_base) = omega arith in rw e (rw (r.cur (k - current_base) (omega arith)) (cur_lt (k - current_base) (s.todo (k - current_base)) refl)))
    where
      cur_lt : (z : ℕ) (es : List ℕ) → s.todo z ≡ es → head0 es < 2049
      cur_lt z [] e = omega arith
      cur_lt z (x ∷ es) e = let n = at_next R L t l g K s i z x es e in omega (arith, n.1, (told R t l g K).few)

      orp_lt : (z : ℕ) (os : List ℕ) → keep (orph R z) (s.todo z) ≡ os → head0 os < 2049
      orp_lt z [] e = omega arith
      orp_lt z (o ∷ os) e =
          let c = i.cursors in
          let n = in_list R L z (c.up_to z) o os (c.within z) (ap (keep (orph R z)) (sym (c.todo_is z)) ∙ e) in
          omega (arith, n.1, (told R t l g K).few)

      evs_lt : (p q x : ℕ) → x ≤ size R.trace → (ds : List ℕ) → evs R p q x ≡ ds → head0 ds < 2049
      evs_lt p q x h [] e = omega arith
      evs_lt p q x h (d ∷ ds) e = let n = evs_head R L p q x d ds h e in omega (arith, n.1, (told R t l g K).few)

      pq : (c : ℕ) → c < 4096 → Chan R s (c / 64) (c % 64) (take_w a (64 * (c / 64) + c % 64)) (put_w a (64 * (c / 64) + c % 64))
      pq c h = r.chan (c / 64) (c % 64) (omega arith) (omega arith)

      -- the word of channel c in a plane of pointers: the head of a list of its sends
      chan_lt : (base c y : ℕ) → k ≡ base + c → y ≤ size R.trace → get_or a (base + (64 * (c / 64) + c % 64)) 0 ≡ head0 (evs R (c / 64) (c % 64) y) → get_or a k 0 < 2049
      chan_lt base c y e h w =
          let f : k ≡ base + (64 * (c / 64) + c % 64) = omega arith in
          omega (arith, ap (λ x. get_or a x 0) f ∙ w, evs_lt (c / 64) (c % 64) y h (evs R (c / 64) (c % 64) y) refl)

      chan_put : (c : ℕ) → c < 4096 → k ≡ put_base + c → get_or a k 0 < 2049
      chan_put c h e = let d = pq c h in chan_lt put_base c d.y e d.y_le (d.pt_is ∙ ap head0 d.rest)

      chan_take : (c : ℕ) → c < 4096 → k ≡ take_base + c → get_or a k 0 < 2049
      chan_take c h e = let d = pq c h in chan_lt take_base c d.x e d.x_le (d.tk_is ∙ ap head0 d.all)

  -- the record: what is left when every working word is 0 again
  pub record_left : (a b : List ℕ) (s : State) → Rel R a s → length b ≡ 16384
      → ((k : ℕ) → (current_base ≤ k → low_place < k) → get_or b k 0 ≡ get_or a k 0) → ((k : ℕ) → current_base ≤ k → k ≤ low_place → get_or b k 0 ≡ 0)
      → b ≡ words_from (record_at R s) 0 16384
  unfolding record_at record_word
  record_left a b s r h others zeros = words_ext (record_at R s) 16384 b h at
    where
      low : (k : ℕ) → k < current_base → get_or b k 0 ≡ get_or a k 0
      low k v = others k (λ i. absurd (omega arith))

      -- a word of a plane of halves
      half_at : (h k : ℕ) → h < 2 → taken_base h ≤ k → k < taken_base h + 2049 → get_or a k 0 ≡ half h (taken_value R s (k - taken_base h))
      half_at h k c l m =
          let e : taken_base h + (k - taken_base h) ≡ k = omega arith in
          ap (λ x. get_or a x 0) (sym e) ∙ r.val h (k - taken_base h) c (omega arith)

      at : (k : ℕ) → k < 16384 → get_or b k 0 ≡ record_at R s k
      at k j = on (le? record_end k)
          (λ u. rw (le-ltb k (taken_base 0) (omega arith), le-ltb k (taken_base 1) (omega arith), le-ltb k record_end u)
          (on (le? k low_place) (λ w. zeros k u w) (λ w. others k (λ i. w) ∙ r.beyond k w)))
          (λ u. low k (omega arith) ∙ on (le? (taken_base 0) k)
          (λ v. on (le? (taken_base 1) k)
          (λ w. rw (le-ltb k (taken_base 0) v, le-ltb k (taken_base 1) w, lt-ltb k record_end u) (half_at 1 k (omega arith) w (omega arith)))
          (λ w. rw (le-ltb k (taken_base 0) v, lt-ltb k (taken_base 1) w) (half_at 0 k (omega arith) v (omega arith))))
          (λ v. rw (lt-ltb k (taken_base 0) v) (r.num k v)))
