-- The search for the lowest choice: what a step leaves of what is known of processes and of channels. A process step
-- can let run only that process or the receiver of what it sends, a message handed over only the two ends of its
-- channel, but for gates that a new least phase opens. Only a new least phase makes a kept message ready.
use mathlib.Core.Path.{◌≡◌, refl, sym, ◌∙◌, ap}
use mathlib.Core.Logic.{◌≢◌}
use mathlib.Core.Bool.{Bool, true, false, not}
use mathlib.Core.List.{List, [], ◌∷◌}
use Prim.Native.Nat.{ℕ, ◌+◌, ◌-◌, ◌*◌, ◌/◌, ◌%◌, ◌^◌, ◌≤◌, ◌<◌}
use native.Mathlib.Omega.{arith}
use lib.ListN.{length, get_or, set}
use lib.Seq.{get_or-set_same, get_or-set_other}
use lib.Bits.{bit_or}
use lib.Dec.{ltb, eqb}
use borrow.Author.Tests.{lt-ltb, le-ltb, eq-eqb, ne_eqb}
use Rattle.words.proofs.Cases.{by_bool, by_lt, by_eq, clash}
use Rattle.theory.specs.Lists.{put, no_one}
use Rattle.theory.specs.Events.{kind}
use Rattle.theory.specs.Line.{Run, in_set}
use Rattle.theory.specs.Replay.{process, State, resends, ready}
use Rattle.theory.proofs.Base.{both, all_at, all_true}
use Rattle.theory.proofs.Flow.{Did, did_other, did_send, did_recv}
use Rattle.theory.specs.Inner.Flow.{Inv}
use Rattle.machine.specs.Inner.Words.{current_base, orphan_base, take_base, put_base, low_place, no_phase, cur_w, orp_w, take_w, put_w, low_w, send_ok, event_ok, process_ok, hand_ok, allowed_w, low_of, moved_w, drop_w, put_in_w, take_out_w, event_step_w, process_w, apply_w, wakes_at, wakes, Bounded, kept_phase}
use Rattle.columns.specs.Inner.Full.{kind_w, peer_w, phase_w}
use Rattle.theory.specs.Inner.Lists.{head0}
use Rattle.machine.specs.Inner.Related.{Rel, Started}
use Rattle.machine.proofs.Facts.{left_none, left_some}
use Rattle.machine.proofs.Moves.{at_next}
use Rattle.sets.specs.Inner.Sets.{first_in, rest_of, with_in}
use Rattle.search.specs.Inner.Lowest.{Idle, Unready, Waiting, NoneTo, NoneBefore, Ran}
use Rattle.machine.proofs.Noted.{noted_other}
use Rattle.machine.proofs.Steps.{allowed_process, allowed_hand}
use Rattle.moves.proofs.Steps.{apply_process, apply_hand}
use Rattle.sets.proofs.Sets.{none_in, lower_out, rest_out, with_out, or_out, first_lt, rest_outside}

-- ---- Words that a step leaves alone

module _ (t l a : List ℕ) where
  put_other : (c k : ℕ) → k ≢ put_base + c → get_or (put_in_w l a c) k 0 ≡ get_or a k 0
  unfolding put_in_w
  put_other c k h = get_or-set_other a (put_base + c) k (get_or l (4 * put_w a c + 1) 0) 0 h

  drop_other : (z e k : ℕ) → k ≢ orphan_base + z → k ≢ low_place → get_or (drop_w t l a z e) k 0 ≡ get_or a k 0
  unfolding drop_w
  drop_other z e k h j =
      let b = set a (orphan_base + z) (get_or l (4 * e + 2) 0) in
      get_or-set_other b low_place k (low_of t b (get_or t 0 0)) 0 j ∙ get_or-set_other a (orphan_base + z) k (get_or l (4 * e + 2) 0) 0 h

  take_other : (c e k : ℕ) → e < 2049 → current_base ≤ k → k ≢ take_base + c → get_or (take_out_w t l a c e) k 0 ≡ get_or a k 0
  unfolding take_out_w
  take_other c e k lt j h =
      let b = set a (take_base + c) (get_or l (4 * take_w a c + 1) 0) in
      noted_other t b e (take_w a c) k (λ q. omega arith) (λ d m q. omega arith) ∙ get_or-set_other a (take_base + c) k (get_or l (4 * take_w a c + 1) 0) 0 h

  -- a word after the record that is no pointer of process z or of the channel that it uses, nor the least phase
  event_other : (z e k : ℕ) → e < 2049 → current_base ≤ k → k ≢ orphan_base + z → k ≢ low_place
      → (kind_w t e ≡ 1 → eqb (orp_w a z) e ≡ false → k ≢ put_base + (64 * z + peer_w t e))
      → k ≢ take_base + (64 * peer_w t e + z) → get_or (event_step_w t l a z e) k 0 ≡ get_or a k 0
  unfolding event_step_w
  event_other z e k b j o w p q = by_eq (kind_w t e) 1
      (λ s. rw (eq-eqb (kind_w t e) 1 s) (by_bool (eqb (orp_w a z) e)
      (λ x. rw x (drop_other z e k o w))
      (λ x. rw x (put_other (64 * z + peer_w t e) k (p s x)))))
      (λ s. rw (ne_eqb (kind_w t e) 1 s) (by_bool (eqb (kind_w t e) 2)
      (λ x. rw x (take_other (64 * peer_w t e + z) e k b j q))
      (λ x. rw x refl)))

  module _ (z : ℕ) (bound : Bounded a) (hz : z < 64) where
    e_lt : cur_w a z < 2049
    unfolding Bounded
    e_lt = bound (current_base + z) (omega arith) (omega arith)

    process_other : (k : ℕ) → current_base ≤ k → k ≢ current_base + z → k ≢ orphan_base + z → k ≢ low_place
        → (kind_w t (cur_w a z) ≡ 1 → eqb (orp_w a z) (cur_w a z) ≡ false → k ≢ put_base + (64 * z + peer_w t (cur_w a z))) → k ≢ take_base + (64 * peer_w t (cur_w a z) + z)
        → get_or (process_w t l a z) k 0 ≡ get_or a k 0
    unfolding process_w moved_w
    process_other k j c o w p q =
        get_or-set_other (event_step_w t l a z (cur_w a z)) (current_base + z) k (get_or l (4 * cur_w a z) 0) 0 c ∙ event_other z (cur_w a z) k e_lt j o w p q

-- ---- Tests whose words are the same

module _ (t g a b : List ℕ) (z : ℕ) (c : cur_w b z ≡ cur_w a z) (u : (p : ℕ) → p < 64 → put_w b (64 * z + p) ≡ put_w a (64 * z + p))
    (v : (p : ℕ) → p < 64 → take_w b (64 * p + z) ≡ take_w a (64 * p + z)) (w : (p : ℕ) → p < 64 → put_w b (64 * p + z) ≡ put_w a (64 * p + z)) where
  event_same : event_ok t g b z (cur_w a z) ≡ event_ok t g a z (cur_w a z)
  unfolding event_ok
  event_same = let q : peer_w t (cur_w a z) < 64 = omega arith in rw (u (peer_w t (cur_w a z)) q, v (peer_w t (cur_w a z)) q, w (peer_w t (cur_w a z)) q)

  process_same : low_w b ≡ low_w a → process_ok t g b z ≡ process_ok t g a z
  unfolding process_ok
  process_same low = rw (c, low, event_same)

  -- a process that its event stops, whatever the least phase is
  process_still : get_or g z 0 < low_w a → process_ok t g a z ≡ false → process_ok t g b z ≡ false
  unfolding process_ok
  process_still h k = rw (c, event_same) (by_bool (ltb (get_or g z 0) (low_w b))
      (λ x. rw x (rw (lt-ltb (get_or g z 0) (low_w a) h) at k))
      (λ x. rw x (by_bool (eqb (cur_w a z) 0) (λ y. rw y) (λ y. rw y))))

-- a process whose gate is shut
pub process_shut : (t g a : List ℕ) (z : ℕ) → low_w a ≤ get_or g z 0 → process_ok t g a z ≡ false
unfolding process_ok
process_shut t g a z h = rw (le-ltb (get_or g z 0) (low_w a) h) (by_bool (eqb (cur_w a z) 0) (λ y. rw y) (λ y. rw y))

kept_same : (t g a b : List ℕ) (p c : ℕ) → put_w b c ≡ put_w a c → kept_phase t g b p c ≡ kept_phase t g a p c
unfolding kept_phase
kept_same t g a b p c e = rw e

-- ---- Phases of kept messages

module _ (t g a : List ℕ) where
  pub not_ready : (p c : ℕ) → low_w a ≤ kept_phase t g a p c → hand_ok t g a p c ≡ false
  unfolding kept_phase hand_ok
  not_ready p c h = by_bool (send_ok (get_or g (64 + p) 0) (put_w a c))
      (λ e. rw e)
      (λ e. rw (e, le-ltb (phase_w t (put_w a c)) (low_w a) (rw e at h)))

  -- one sender's set is another
  pub unready_set : (n : ℕ) (rs : List ℕ) (p v : ℕ) → p < length rs → Unready t g a n rs → ((q : ℕ) → q < 64 → in_set v q ≡ false → n ≤ kept_phase t g a p (64 * p + q))
      → Unready t g a n (set rs p v)
  unfolding Unready
  unready_set n rs p v l u h x hx = by_eq x p
      (λ e. rw (e, get_or-set_same rs p v 0 l) h)
      (λ e. rw (get_or-set_other rs p x v 0 e) (u x hx))

  pub unready_at : (n : ℕ) (rs : List ℕ) (p : ℕ) → p < 64 → Unready t g a n rs → (q : ℕ) → q < 64 → in_set (get_or rs p 0) q ≡ false → n ≤ kept_phase t g a p (64 * p + q)
  unfolding Unready
  unready_at n rs p h u = u p h

  -- the channels of the first sender of a set, after those of the ones before
  pub waiting_to : (m p q : ℕ) → p ≡ first_in m → p < 64 → q ≤ 64 → Waiting t g a (low_w a) m → ((r : ℕ) → r < q → r < 64 → low_w a ≤ kept_phase t g a p (64 * p + r)) → NoneTo t g a (64 * p + q)
  unfolding Waiting NoneTo
  waiting_to m p q ep hp l h k d j =
      let e : d ≡ 64 * (d / 64) + d % 64 = omega arith in
      by_lt (d / 64) p
      (λ x. ap (hand_ok t g a (d / 64)) e ∙ not_ready (d / 64) (64 * (d / 64) + d % 64) (h (d / 64) (omega arith) (lower_out m (d / 64) (omega (arith, ep))) (d % 64) (omega arith)))
      (λ x. let f : d / 64 ≡ p = omega arith in ap (hand_ok t g a (d / 64)) e ∙ rw f (not_ready p (64 * p + d % 64) (k (d % 64) (omega arith) (omega arith))))

  pub waiting_all : Waiting t g a (low_w a) 0 → NoneTo t g a 4096
  unfolding Waiting NoneTo
  waiting_all h d j =
      let e : d ≡ 64 * (d / 64) + d % 64 = omega arith in
      ap (hand_ok t g a (d / 64)) e ∙ not_ready (d / 64) (64 * (d / 64) + d % 64) (h (d / 64) (omega arith) (none_in (d / 64)) (d % 64) (omega arith))

  pub waiting_rest : (n m p m' : ℕ) → 0 < m → m < 2 ^ 64 → p ≡ first_in m → m' ≡ rest_of m → ((q : ℕ) → q < 64 → n ≤ kept_phase t g a p (64 * p + q)) → Waiting t g a n m → Waiting t g a n m'
  unfolding Waiting
  waiting_rest n m p m' pos l ep en h k = rest_outside (λ x. (q : ℕ) → q < 64 → n ≤ kept_phase t g a x (64 * x + q)) m p m' pos l ep en h k

-- ---- What a step leaves of the search

wakes_peer : (t a : List ℕ) (z : ℕ) → kind_w t (cur_w a z) ≡ 1 → eqb (orp_w a z) (cur_w a z) ≡ false → wakes t a z ≡ peer_w t (cur_w a z)
unfolding wakes wakes_at
wakes_peer t a z k o = rw (eq-eqb (kind_w t (cur_w a z)) 1 k, o)

pub wakes_lt : (t a : List ℕ) (z : ℕ) → z < 64 → wakes t a z < 64
unfolding wakes wakes_at
wakes_lt t a z h =
    let q : peer_w t (cur_w a z) < 64 = omega arith in
    by_bool (eqb (kind_w t (cur_w a z)) 1) (λ x. rw x (by_bool (eqb (orp_w a z) (cur_w a z)) (λ y. rw y h) (λ y. rw y q))) (λ x. rw x h)

module _ (t l g a : List ℕ) (bound : Bounded a) where
  -- a message handed over on channel c, where no process may run
  module _ (c : ℕ) (hc : c < 4096) where
    pub hand_low : low_w (put_in_w l a c) ≡ low_w a
    hand_low = put_other t l a c low_place (λ q. omega arith)

    pub hand_idle : Idle t g a 0 → Idle t g (put_in_w l a c) (with_in (with_in 0 (c / 64)) (c % 64))
    unfolding Idle
    hand_idle h z hz o =
        let v = with_out (with_in 0 (c / 64)) (c % 64) z (omega arith) o in
        let w = with_out 0 (c / 64) z (omega arith) v.0 in
        process_same t g a (put_in_w l a c) z (put_other t l a c (current_base + z) (λ q. omega arith))
        (λ p k. put_other t l a c (put_base + (64 * z + p)) (λ q. w.1 (omega arith)))
        (λ p k. put_other t l a c (take_base + (64 * p + z)) (λ q. omega arith))
        (λ p k. put_other t l a c (put_base + (64 * p + z)) (λ q. v.1 (omega arith)))
        hand_low
        ∙ h z hz (none_in z)

    -- what is known of other channels stays
    hand_kept : (p q : ℕ) → p < 64 → q < 64 → 64 * p + q ≢ c → kept_phase t g (put_in_w l a c) p (64 * p + q) ≡ kept_phase t g a p (64 * p + q)
    hand_kept p q hp hq n = kept_same t g a (put_in_w l a c) p (64 * p + q) (put_other t l a c (put_base + (64 * p + q)) (λ x. n (omega arith)))

    pub hand_unready : (n : ℕ) (rs : List ℕ) → in_set (get_or rs (c / 64) 0) (c % 64) ≡ true → Unready t g a n rs → Unready t g (put_in_w l a c) n rs
    unfolding Unready
    hand_unready n rs i u p hp q hq o =
        rw (hand_kept p q hp hq (λ x. let e : c / 64 ≡ p = omega arith in let f : c % 64 ≡ q = omega arith in clash (rw (e, f) at i) o)) (u p hp q hq o)

    pub hand_waiting : (n m : ℕ) → in_set m (c / 64) ≡ true → Waiting t g a n m → Waiting t g (put_in_w l a c) n m
    unfolding Waiting
    hand_waiting n m i w p hp o q hq =
        rw (hand_kept p q hp hq (λ x. let e : c / 64 ≡ p = omega arith in clash (rw e at i) o)) (w p hp o q hq)

  -- a process step: one that its gate does not stop, and that the step does not wake, may run no more than before
  module _ (m z : ℕ) (hz : z < 64) (member : in_set m z ≡ true) where
    pub run_idle : Idle t g a m → (y : ℕ) → y < 64 → in_set m y ≡ false → y ≢ wakes t a z → get_or g y 0 < low_w a → process_ok t g (process_w t l a z) y ≡ false
    unfolding Idle
    run_idle h y hy o d lt =
        let n : y ≢ z = λ e. clash (rw e member) o in
        let other = process_other t l a z bound hz in
        process_still t g a (process_w t l a z) y
        (other (current_base + y) (omega arith) (λ q. n (omega arith)) (λ q. omega arith) (λ q. omega arith) (λ s i q. omega arith) (λ q. omega arith))
        (λ p k. other (put_base + (64 * y + p)) (omega arith) (λ q. omega arith) (λ q. omega arith) (λ q. omega arith) (λ s i q. n (omega arith)) (λ q. omega arith))
        (λ p k. other (take_base + (64 * p + y)) (omega arith) (λ q. omega arith) (λ q. omega arith) (λ q. omega arith) (λ s i q. omega arith) (λ q. n (omega arith)))
        (λ p k. other (put_base + (64 * p + y)) (omega arith) (λ q. omega arith) (λ q. omega arith) (λ q. omega arith) (λ s i q. d (let e : y ≡ peer_w t (cur_w a z) = omega arith in e ∙ sym (wakes_peer t a z s i))) (λ q. omega arith))
        lt (h y hy o)

-- ---- From the tests to the choices

module _ (t l g a : List ℕ) where
  pub run_none : (m : ℕ) → first_in m ≤ 64 → Idle t g a m → NoneBefore t g a (first_in m)
  unfolding Idle NoneBefore allowed_w
  run_none m k h d j = let v : d < 64 = omega arith in rw (lt-ltb d 64 v) (h d v (lower_out m d j))

  pub run_allowed : (z : ℕ) → z < 64 → process_ok t g a z ≡ true → allowed_w t g a z ≡ true
  run_allowed z v h = sym (allowed_process t g a z v true (sym h))

  pub run_applied : (z : ℕ) → z < 64 → apply_w t l a z ≡ process_w t l a z
  run_applied z v = sym (apply_process t l a (process_w t l a z) z v refl)

  pub hand_none : (c : ℕ) → c ≤ 4096 → Idle t g a 0 → NoneTo t g a c → NoneBefore t g a (64 + c)
  unfolding Idle NoneTo NoneBefore allowed_w
  hand_none c k h s d j = by_lt d 64
      (λ v. rw (lt-ltb d 64 v) (h d v (none_in d)))
      (λ v. let w : d < 4160 = omega arith in rw (le-ltb d 64 v, lt-ltb d 4160 w) (s (d - 64) (omega arith)))

  pub hand_allowed : (c : ℕ) → c < 4096 → hand_ok t g a (c / 64) c ≡ true → allowed_w t g a (64 + c) ≡ true
  hand_allowed c k h =
      let e : 64 + c - 64 ≡ c = omega arith in
      sym (allowed_hand t g a (64 + c) (omega arith) (omega arith) true (rw e (sym h)))

  pub hand_applied : (c : ℕ) → apply_w t l a (64 + c) ≡ put_in_w l a c
  hand_applied c = let e : 64 + c - 64 ≡ c = omega arith in sym (apply_hand t l a (put_in_w l a c) (64 + c) (omega arith) (rw e))

-- ---- No kept message becomes ready by a process step: the channel of a send has none left

module _ (R : Run) (t l g a₀ : List ℕ) (S : Started R t l g a₀) where
  left_same : (s : State) (z : ℕ) (u : State) (p q : ℕ) → Did R s (process z) u → u.left p q ≡ s.left p q
  left_same s z u p q (did_other h k) = refl
  left_same s z u p q (did_send h k e) = refl
  left_same s z u p q (did_recv h k e) = refl

  -- what is ready stays so
  fewer : (s : State) (z e : ℕ) (es : List ℕ) (f : ℕ → ℕ → Bool) → s.todo z ≡ e ∷ es → (y : ℕ) → no_one (f y) (s.todo y) ≡ true → no_one (f y) (put s.todo z es y) ≡ true
  unfolding no_one
  fewer s z e es f h y k = by_eq y z
      (λ i. rw (eq-eqb y z i, i) (both (not (f z e)) (no_one (f z) es) (rw (i, h) at k)).1)
      (λ i. rw (ne_eqb y z i) k)

  ready_fewer : (s u : State) (z e : ℕ) (es : List ℕ) → s.todo z ≡ e ∷ es → u.todo ≡ put s.todo z es → (x : ℕ) → ready R s x ≡ true → ready R u x ≡ true
  unfolding ready
  ready_fewer s u z e es h j x k =
      all_true R.trace.procs _ (λ y l. rw j (fewer s z e es (λ w d. resends R x w d (kind R.trace d)) h y (all_at R.trace.procs _ k y l)))

  ready_stays : (s : State) (z : ℕ) (u : State) → Did R s (process z) u → (x : ℕ) → ready R s x ≡ true → ready R u x ≡ true
  ready_stays s z u (did_other {e = e} {es = es} h k) x = ready_fewer s _ z e es h refl x
  ready_stays s z u (did_send {e = e} {es = es} h k i) x = ready_fewer s _ z e es h refl x
  ready_stays s z u (did_recv {e = e} {es = es} h k i) x = ready_fewer s _ z e es h refl x

  module _ (a : List ℕ) (s : State) (r : Rel R a s) (i : Inv R s) (z : ℕ) (hz : z < 64) (ok : process_ok t g a z ≡ true) where
    z_in : z < R.trace.procs
    unfolding process_ok
    z_in = go (s.todo z) refl
      where
        go : (es : List ℕ) → s.todo z ≡ es → z < R.trace.procs
        go [] e = let c : eqb (cur_w a z) 0 ≡ true = eq-eqb (cur_w a z) 0 (r.cur z hz ∙ ap head0 e) in clash ok (rw c)
        go (e ∷ es) h = let n = at_next R S.laws t l g S.cols s i z e es h in omega (arith, S.laws.process_lt e n.0 n.1, n.2)

    -- where its next event is a send, no kept message of that channel is left
    none_left : (q : ℕ) → q ≡ peer_w t (cur_w a z) → kind_w t (cur_w a z) ≡ 1 → s.left z q ≡ []
    unfolding process_ok event_ok
    none_left q eq k = go (s.left z q) refl
      where
        hq : q < 64
        hq = omega arith

        go : (ms : List ℕ) → s.left z q ≡ ms → s.left z q ≡ []
        go [] e = e
        go (m ∷ ms) e =
            let no : send_ok (get_or g (64 + z) 0) (put_w a (64 * z + peer_w t (cur_w a z))) ≡ false =
            rw (S.cols.gated.places z z_in, ← eq) (left_some R S.laws s i z q _ _ (r.chan z q hz hq) m ms e) in
            clash ok (by_bool (eqb (cur_w a z) 0) (λ x. rw x) (λ x. rw x (by_bool (ltb (get_or g z 0) (low_w a)) (λ y. rw (y, eq-eqb (kind_w t (cur_w a z)) 1 k, no)) (λ y. rw y))))

    module _ (u : State) (r' : Rel R (process_w t l a z) u) (j : Inv R u) (did : Did R s (process z) u) (bound : Bounded a) where
      none_there : (q : ℕ) → q ≡ peer_w t (cur_w a z) → kind_w t (cur_w a z) ≡ 1 → send_ok (get_or g (64 + z) 0) (put_w (process_w t l a z) (64 * z + q)) ≡ true
      none_there q eq k =
          let hq : q < 64 = omega arith in
          rw (S.cols.gated.places z z_in) (left_none R S.laws u j z q _ _ (r'.chan z q hz hq) (left_same s z u z q did ∙ none_left q eq k))

      -- a channel is the one of the send, or its next message to put in stays
      at_channel : {A : Type 0} (d : ℕ) → d < 4096 → ((d ≡ 64 * z + peer_w t (cur_w a z)) → kind_w t (cur_w a z) ≡ 1 → A) → (put_w (process_w t l a z) d ≡ put_w a d → A) → A
      at_channel d hd f g' = by_eq (kind_w t (cur_w a z)) 1
          (λ k. by_eq d (64 * z + peer_w t (cur_w a z)) (λ e. f e k) (λ e. g' (elsewhere (λ x q. e (omega arith)))))
          (λ k. g' (elsewhere (λ x. absurd (k x))))
        where
          elsewhere : (kind_w t (cur_w a z) ≡ 1 → put_base + d ≢ put_base + (64 * z + peer_w t (cur_w a z))) → put_w (process_w t l a z) d ≡ put_w a d
          elsewhere o = process_other t l a z bound hz (put_base + d) (omega arith) (λ q. omega arith) (λ q. omega arith) (λ q. omega arith) (λ k i. o k) (λ q. omega arith)

      -- phases of kept messages do not fall
      run_floor : (p q n : ℕ) → p < 64 → q < 64 → n ≤ no_phase → n ≤ kept_phase t g a p (64 * p + q) → n ≤ kept_phase t g (process_w t l a z) p (64 * p + q)
      unfolding kept_phase
      run_floor p q n hp hq h k = at_channel (64 * p + q) (omega arith)
          (λ e w. let f : p ≡ z = omega arith in
          let i : q ≡ peer_w t (cur_w a z) = omega arith in
          rw (f, none_there q i w) h)
          (λ e. rw e k)

      pub run_unready : (n : ℕ) (rs : List ℕ) → n ≤ no_phase → Unready t g a n rs → Unready t g (process_w t l a z) n rs
      unfolding Unready
      run_unready n rs h u p hp q hq o = run_floor p q n hp hq h (u p hp q hq o)

      pub run_waiting : (n m : ℕ) → n ≤ no_phase → Waiting t g a n m → Waiting t g (process_w t l a z) n m
      unfolding Waiting
      run_waiting n m h w p hp o q hq = run_floor p q n hp hq h (w p hp o q hq)

      -- the least phase does not fall: an orphan that was sent again stays so
      pub run_low : low_w a ≤ no_phase → low_w a ≤ low_w (process_w t l a z)
      run_low h = by_lt (low_w (process_w t l a z)) (low_w a)
          (λ k. let x = low_w (process_w t l a z) in
          let b : ready R s x ≡ true = r.low x (omega arith) ∙ lt-ltb x (low_w a) k in
          clash (sym (r'.low x (omega arith)) ∙ ready_stays s z u did x b) (le-ltb x x (omega arith)))
          (λ k. k)

pub rest_idle : (t g a : List ℕ) (m : ℕ) → 0 < m → m < 2 ^ 64 → Idle t g a m → process_ok t g a (first_in m) ≡ false → Idle t g a (rest_of m)
unfolding Idle
rest_idle t g a m p lm h f z hz o = by_eq z (first_in m) (λ e. rw e f) (λ n. h z hz (rest_out m p lm z o n))

-- the first of those left may run, and does
pub ran_found : (t l g a₀ a b : List ℕ) (may left z next r : ℕ) → a ≡ a₀ → 0 < left → left < 2 ^ 64 → left ≤ may → z ≡ first_in left → Idle t g a₀ left
    → (process_ok t g a z ≡ true) × (b ≡ process_w t l a z) → next ≡ with_in 0 (wakes t a z) → r ≡ bit_or left next → Ran t g a₀ l b may r
ran_found t l g a₀ a b may left z next r ea p lt le ez h ok en er = record {
  from = left;
  some = p;
  part = le;
  idle = h;
  ok = rw (← ez, ← ea) ok.0;
  words = rw (← ez, ← ea) ok.1;
  runners = λ y hy o.
      let v = or_out left next y (rw er at o) in
      let w = with_out 0 (wakes t a z) y (wakes_lt t a z (omega (arith, ez, first_lt left p lt))) (rw en at v.1) in
      (v.0, λ e. w.1 (e ∙ rw (ea, ez)));
}
