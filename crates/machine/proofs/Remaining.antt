-- Whether a choice is left: one law for each way out of the functions of `complete`, and that its two passes find every
-- choice (`none_left`).
use mathlib.Core.Path.{◌≡◌, refl, sym, ◌∙◌}
use mathlib.Core.Bool.{Bool, true, false, not}
use mathlib.Core.List.{List}
use Prim.Native.Nat.{ℕ, suc, ◌+◌, ◌-◌, ◌*◌, ◌/◌, ◌%◌, ◌≤◌, ◌<◌}
use native.Mathlib.Omega.{arith}
use native.Mathlib.Numerals.{add-one}
use lib.Dec.{eqb}
use borrow.Author.Tests.{eq-eqb, ne_eqb}
use Rattle.words.proofs.Cases.{by_bool, by_lt, clash}
use Rattle.theory.specs.Lists.{all_below}
use Rattle.theory.proofs.Base.{all_true, all_at, find_below}
use Rattle.columns.specs.Inner.Full.{procs_w, events_w, kind_w, at_w, peer_w}
use Rattle.machine.specs.Inner.Words.{put_w, process_ok, hand_ok, allowed_w, hands_at, none_runs, none_hands, none_allowed}
use Rattle.machine.specs.Inner.Shapes.{Aimed}
use Rattle.machine.proofs.Steps.{process_none, allowed_process, allowed_hand}

module _ (t g a : List ℕ) (e k : ℕ) (ek : k ≡ kind_w t e) where
  pub hands_other : (k ≡ 1 → ⊥) → false ≡ hands_at t g a e
  unfolding hands_at
  hands_other n = rw (← ek, ne_eqb k 1 n)

  module _ (p q : ℕ) (s : k ≡ 1) (ep : p ≡ at_w t e) (eq : q ≡ peer_w t e) (m : ℕ) (em : m ≡ put_w a (64 * p + q)) where
    pub hands_later : (m ≡ e → ⊥) → false ≡ hands_at t g a e
    unfolding hands_at
    hands_later n = rw (← ek, eq-eqb k 1 s, ← ep, ← eq, ← em, ne_eqb m e n)

    pub hands_now : (r : Bool) → m ≡ e → r ≡ hand_ok t g a p (64 * p + q) → r ≡ hands_at t g a e
    unfolding hands_at
    hands_now r h er = rw (← ek, eq-eqb k 1 s, ← ep, ← eq, ← em, eq-eqb m e h) er

-- the loops over the processes and over the events
all_next : (n : ℕ) (f : ℕ → Bool) → true ≡ all_below n f → f n ≡ true → true ≡ all_below (n + 1) f
unfolding all_below
all_next n f h k = rw (add-one n, k) h

all_not : (n z : ℕ) (f : ℕ → Bool) → z < n → f z ≡ false → false ≡ all_below n f
all_not n z f l h = by_bool (all_below n f) (λ u. clash (all_at n f u z l) h) (λ u. sym u)

module _ (t g a : List ℕ) (r : Bool) where
  module _ (z : ℕ) (er : r ≡ process_ok t g a z) where
    pub runs_next : true ≡ none_runs t g a z → r ≡ false → true ≡ none_runs t g a (z + 1)
    unfolding none_runs
    runs_next h k = all_next z _ h (rw (← er, k))

    pub runs_one : (n : ℕ) → z < n → r ≡ true → false ≡ none_runs t g a n
    unfolding none_runs
    runs_one n l k = all_not n z _ l (rw (← er, k))

  module _ (e : ℕ) (er : r ≡ hands_at t g a (e + 1)) where
    pub hands_next : true ≡ none_hands t g a e → r ≡ false → true ≡ none_hands t g a (e + 1)
    unfolding none_hands
    hands_next h k = all_next e _ h (rw (← add-one e, ← er, k))

    pub hands_one : (n : ℕ) → e < n → r ≡ true → false ≡ none_hands t g a n
    unfolding none_hands
    hands_one n l k = all_not n e _ l (rw (← add-one e, ← er, k))

-- where it may be handed over, there is a message to put in
hand_some : (t g a : List ℕ) (p c : ℕ) → hand_ok t g a p c ≡ true → put_w a c ≡ 0 → ⊥
unfolding hand_ok
hand_some t g a p c h e = clash {b = false} (rw (eq-eqb (put_w a c) 0 e) at h) refl

module _ (t g a : List ℕ) (A : Aimed t a) where
  -- a process or a message that is allowed is a choice that is
  some_runs : false ≡ none_runs t g a (procs_w t) → false ≡ none_allowed t g a
  unfolding none_runs none_allowed
  some_runs h =
      let f = find_below (procs_w t) _ (sym h) in
      let l : f.0 < 64 = omega (arith, f.1, A.procs_few) in
      all_not 4160 f.0 _ (omega arith) (rw (← allowed_process t g a f.0 l _ refl) f.2)

  module _ (p q : ℕ) (hp : p < 64) (hq : q < 64) where
    hand_choice : allowed_w t g a (64 + (64 * p + q)) ≡ hand_ok t g a p (64 * p + q)
    hand_choice =
        let i : (64 + (64 * p + q) - 64) / 64 ≡ p = omega arith in
        let j : 64 + (64 * p + q) - 64 ≡ 64 * p + q = omega arith in
        sym (allowed_hand t g a (64 + (64 * p + q)) (omega arith) (omega arith) _ (rw (i, j)))

    -- the send of the next message to put in
    hand_sent : hand_ok t g a p (64 * p + q) ≡ true → (e : ℕ) × (e < events_w t) × (hands_at t g a (suc e) ≡ true)
    unfolding hands_at
    hand_sent h =
        let m = put_w a (64 * p + q) in
        let n = hand_some t g a p (64 * p + q) h in
        let s = A.put_sent p q hp hq n in
        let e : suc (m - 1) ≡ m = omega (arith, n) in
        (m - 1, omega (arith, n, s.within), rw (e, eq-eqb (kind_w t m) 1 s.kind_is, s.from_is, s.to_is, eq-eqb m m refl) h)

  some_hands : false ≡ none_hands t g a (events_w t) → false ≡ none_allowed t g a
  unfolding none_hands none_allowed
  some_hands h =
      let f = find_below (events_w t) _ (sym h) in
      let e = suc f.0 in
      let p = at_w t e in
      let q = peer_w t e in
      all_not 4160 (64 + (64 * p + q)) _ (omega arith) (rw (hand_choice p q (omega arith) (omega arith)) (by_bool (hands_at t g a e)
      (λ k. rw (hand_at e k)) (λ k. clash {b = true} refl (rw k at f.2))))
    where
      hand_at : (e : ℕ) → hands_at t g a e ≡ true → hand_ok t g a (at_w t e) (64 * at_w t e + peer_w t e) ≡ true
      hand_at e h = unfold hands_at in by_bool (eqb (kind_w t e) 1)
          (λ k. by_bool (eqb (put_w a (64 * at_w t e + peer_w t e)) e) (λ m. rw (k, m) at h) (λ m. clash {b = false} (rw (k, m) at h) refl))
          (λ k. clash {b = false} (rw k at h) refl)

  none_left : true ≡ none_runs t g a (procs_w t) → true ≡ none_hands t g a (events_w t) → true ≡ none_allowed t g a
  unfolding none_runs none_hands none_allowed
  none_left h k = sym (all_true 4160 _ (λ c l. by_lt c 64 (λ j. process c j) (λ j. message c j l)))
    where
      process : (c : ℕ) → c < 64 → not (allowed_w t g a c) ≡ true
      process c j = rw (← allowed_process t g a c j _ refl) (by_lt c (procs_w t)
          (λ l. all_at (procs_w t) _ (sym h) c l)
          (λ l. rw (← process_none t g a c 0 (sym (A.no_event c j l)) refl)))

      message : (c : ℕ) → 64 ≤ c → c < 4160 → not (allowed_w t g a c) ≡ true
      message c j l =
          let p = (c - 64) / 64 in
          let q = (c - 64) % 64 in
          let e : c ≡ 64 + (64 * p + q) = omega arith in
          let hp : p < 64 = omega arith in
          let hq : q < 64 = omega arith in
          rw (e, hand_choice p q hp hq) (by_bool (hand_ok t g a p (64 * p + q))
          (λ y. let s = hand_sent p q hp hq y in clash s.2 (by_bool (hands_at t g a (suc s.0)) (λ x. clash {b = false} (rw x at (all_at (events_w t) _ (sym k) s.0 s.1)) refl) (λ x. x)))
          (λ y. rw y))

  module _ (n : ℕ) (r : Bool) (en : n ≡ procs_w t) (er : r ≡ none_runs t g a n) where
    pub complete_runs : r ≡ false → false ≡ none_allowed t g a
    complete_runs h = some_runs (sym h ∙ er ∙ rw en)

    pub complete_hands : r ≡ true → (m : ℕ) (b : Bool) → m ≡ events_w t → b ≡ none_hands t g a m → b ≡ none_allowed t g a
    complete_hands h m b em eb = by_bool b
        (λ k. k ∙ none_left (sym h ∙ er ∙ rw en) (sym k ∙ eb ∙ rw em))
        (λ k. k ∙ some_hands (sym k ∙ eb ∙ rw em))
