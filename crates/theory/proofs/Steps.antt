-- The steps of an order: each takes one from the work that is left, and there is no more work than two for each event.
-- From the laws of the run and the invariants of Flow.
use mathlib.Core.Path.{◌≡◌, refl}
use mathlib.Core.Logic.{◌≢◌}
use mathlib.Core.Bool.{Bool, true, false, ◌&&◌, cond}
use mathlib.Core.List.{List, ◌∷◌}
use Prim.Native.Nat.{ℕ, zero, suc, ◌+◌, ◌-◌, ◌≤◌, ◌<◌}
use native.Mathlib.Omega.{arith}
use lib.ListN.{length}
use lib.Dec.{eqb}
use borrow.Author.Tests.{eqb-true, eqb-false, ne_eqb}
use Rattle.trace.specs.declared.Event.{Event}
use Rattle.trace.specs.declared.Event.TheVariants.{Send, Recv, Save, Done}
use Rattle.trace.specs.Trace.{is_send}
use Rattle.theory.specs.Lists.{iv, cnt, sum, put, put2}
use Rattle.theory.specs.Events.{size, event_at, at, sends, sent}
use Rattle.theory.specs.Line.{Run}
use Rattle.theory.specs.Replay.{Choice, State, listed, kept_on, start}
use Rattle.theory.specs.Inner.Laws.{Laws}
use Rattle.theory.proofs.Base.{by, eqb_self, cnt_iv, cnt_le, keep_length, length_iv, sum_zero, sum_le, sum_add, sum_down}
use Rattle.theory.proofs.Classes.{restart_n, s_le, in_run, kept_list}
use Rattle.theory.specs.Inner.Flow.{s_before, keptb, Kept, Inv}
use Rattle.theory.proofs.Flow.{Did, did_other, did_send, did_recv, did_hand, view, at_head, Reach, here, next}
use Rattle.theory.proofs.Loss.{inv}

-- at most one place has 1
sum_one : (n : ℕ) (f : ℕ → ℕ) (a : ℕ) → ((x : ℕ) → x ≢ a → f x ≡ 0) → f a ≤ 1 → sum n f ≤ 1
unfolding sum
sum_one zero f a h k = omega arith
sum_one (suc n) f a h k = by (eqb n a)
    (λ t. let e : n ≡ a = eqb-true n a t in
    let m : f n ≤ 1 = rw e k in
    omega (arith, sum_zero n f (λ x l. h x (omega arith))))
    (λ t. omega (arith, h n (eqb-false n a t), sum_one n f a h k))

abbrev one : Bool → ℕ
one b = cond b 1 0

one_le : (b : Bool) → one b ≤ 1
one_le true = omega arith
one_le false = omega arith

cnt_one : (f : ℕ → Bool) (x : ℕ) → cnt f (suc x) ≡ cnt f x + one (f (suc x))
unfolding cnt
cnt_one f x = by (f (suc x)) (λ t. rw t (omega arith)) (λ t. rw t (omega arith))

-- a family of tests of which each number passes at most one
family : (n : ℕ) (f : ℕ → ℕ → Bool) → ((e : ℕ) → sum n (λ z. one (f z e)) ≤ 1) → (x : ℕ) → sum n (λ z. cnt (f z) x) ≤ x
family n f h zero = omega (arith, sum_zero n (λ z. cnt (f z) zero) (λ z l. unfold cnt in refl))
family n f h (suc x) =
    let a : sum n (λ z. cnt (f z) (suc x)) ≡ sum n (λ z. cnt (f z) x + one (f z (suc x))) = simp cnt_one in
    omega (arith, sum_add n (λ z. cnt (f z) x) (λ z. one (f z (suc x))), family n f h x, h (suc x))

family2 : (n : ℕ) (f : ℕ → ℕ → ℕ → Bool) → ((e : ℕ) → sum n (λ p. sum n (λ q. one (f p q e))) ≤ 1) → (x : ℕ) → sum n (λ p. sum n (λ q. cnt (f p q) x)) ≤ x
family2 n f h zero = omega (arith, sum_zero n (λ p. sum n (λ q. cnt (f p q) zero)) (λ p l. sum_zero n (λ q. cnt (f p q) zero) (λ q k. unfold cnt in refl)))
family2 n f h (suc x) =
    let a : sum n (λ p. sum n (λ q. cnt (f p q) (suc x))) ≡ sum n (λ p. sum n (λ q. cnt (f p q) x) + sum n (λ q. one (f p q (suc x)))) = simp (cnt_one, sum_add) in
    omega (arith, sum_add n (λ p. sum n (λ q. cnt (f p q) x)) (λ p. sum n (λ q. one (f p q (suc x)))), family2 n f h x, h (suc x))

-- an event is of one process, and sends on one channel
one_process : (n a : ℕ) → sum n (λ z. one (eqb z a)) ≤ 1
one_process n a = sum_one n (λ z. one (eqb z a)) a (λ x d. let t : eqb x a ≡ false = ne_eqb x a d in rw t) (one_le (eqb a a))

one_channel : (n : ℕ) (e : Event) → sum n (λ p. sum n (λ q. one (is_send p q e))) ≤ 1
one_channel n (Send a b v) = sum_one n (λ p. sum n (λ q. one (eqb p a && eqb q b))) a
    (λ x d. let t : eqb x a ≡ false = ne_eqb x a d in rw t (sum_zero n (λ q. 0) (λ q l. refl)))
    (rw (eqb_self a) (one_process n b))
one_channel n (Recv a b) = omega (arith, sum_zero n (λ p. sum n (λ q. 0)) (λ p l. sum_zero n (λ q. 0) (λ q k. refl)))
one_channel n (Save a) = omega (arith, sum_zero n (λ p. sum n (λ q. 0)) (λ p l. sum_zero n (λ q. 0) (λ q k. refl)))
one_channel n (Done a) = omega (arith, sum_zero n (λ p. sum n (λ q. 0)) (λ p l. sum_zero n (λ q. 0) (λ q k. refl)))

module _ (R : Run) where
  -- all listed events and all kept messages that are left
  unfoldable pub work : State → ℕ
  work s = sum R.trace.procs (λ z. length (s.todo z)) + sum R.trace.procs (λ p. sum R.trace.procs (λ q. length (s.left p q)))

  module _ (L : Laws R) where
    -- where a process has an event to do, or a channel a message to hand over, they are processes of the run
    pub process_in_lem : (s : State) → Inv R s → (z e : ℕ) (es : List ℕ) → s.todo z ≡ e ∷ es → z < R.trace.procs
    process_in_lem s i z e es h =
        let r = at_head R s i.cursors z e es h in
        omega (arith, L.process_lt e (omega (arith, r.0)) r.1, r.2)

    pub hand_in : (p q m : ℕ) → Kept R p q m → (p < R.trace.procs) × (q < R.trace.procs)
    hand_in p q m k = in_run R L p q m k.0 (omega (arith, k.1, s_le R L p q))

    todo_down : (f : ℕ → List ℕ) (z e : ℕ) (es : List ℕ) → f z ≡ e ∷ es → z < R.trace.procs
        → sum R.trace.procs (λ x. length (f x)) ≡ suc (sum R.trace.procs (λ x. length (put f z es x)))
    todo_down f z e es h l = sum_down R.trace.procs z (λ x. length (f x)) (λ x. length (put f z es x)) l
        (λ x n. let t : eqb x z ≡ false = ne_eqb x z n in rw t) (rw (h, eqb_self z))

    left_down : (f : ℕ → ℕ → List ℕ) (p q m : ℕ) (ms : List ℕ) → f p q ≡ m ∷ ms → p < R.trace.procs → q < R.trace.procs
        → sum R.trace.procs (λ x. sum R.trace.procs (λ y. length (f x y))) ≡ suc (sum R.trace.procs (λ x. sum R.trace.procs (λ y. length (put2 f p q ms x y))))
    left_down f p q m ms h l k = sum_down R.trace.procs p _ _ l
        (λ x n. let t : eqb x p ≡ false = ne_eqb x p n in rw t)
        (sum_down R.trace.procs q (λ y. length (f p y)) (λ y. length (put2 f p q ms p y)) k
        (λ y n. let t : eqb y q ≡ false = ne_eqb y q n in rw (eqb_self p, t)) (rw (h, eqb_self p, eqb_self q)))

    pub step_work : (s t : State) (c : Choice) → Inv R s → Did R s c t → work s ≡ suc (work t)
    unfolding work
    step_work s t c i (did_other {z = z} {e = e} {es = es} h k) = omega (arith, todo_down s.todo z e es h (process_in_lem s i z e es h))
    step_work s t c i (did_send {z = z} {e = e} {q = r} {es = es} h k l) = omega (arith, todo_down s.todo z e es h (process_in_lem s i z e es h))
    step_work s t c i (did_recv {z = z} {e = e} {p = r} {m = m} {es = es} {ms = ms} h k l) = omega (arith, todo_down s.todo z e es h (process_in_lem s i z e es h))
    step_work s t c i (did_hand {p = p} {q = q} {m = m} {ms = ms} h) =
        let k = hand_in p q m (rw h at (i.lefts p q)).0 in
        omega (arith, left_down s.left p q m ms h k.0 k.1)

    -- the steps of any order, complete or not, from any line
    pub reach_work : (s : State) (n : ℕ) → Reach R s n → work (start R) ≡ n + work s
    reach_work s n here = omega arith
    reach_work s n (next {s = r} {n = m} c h e) = omega (arith, reach_work r m h, step_work r s c (inv R L r m h) (view R r s c e))

    listed_le : (z : ℕ) → length (listed R z (R.restart z)) ≤ cnt (λ e. eqb z (at R.trace e)) (size R.trace)
    unfolding listed
    listed_le z =
        let h = restart_n R L z in
        let a = cnt_iv (λ e. eqb z (at R.trace e)) (R.restart z) (size R.trace - R.restart z) in
        let b : R.restart z + (size R.trace - R.restart z) ≡ size R.trace = omega arith in
        omega (arith, rw b at a)

    kept_le : (p q : ℕ) → length (kept_on R p q) ≤ cnt (sends R.trace p q) (size R.trace)
    unfolding sent
    kept_le p q = rw (kept_list R L p q) (omega (
      arith,
      keep_length (keptb R p q) (iv 0 (s_before R p q)),
      length_iv 0 (s_before R p q),
      cnt_le (sends R.trace p q) (R.restart p) (size R.trace) (restart_n R L p),
    ))

    -- no more messages are sent than there are events
    pub sent_few : sum R.trace.procs (λ p. sum R.trace.procs (λ q. sent R.trace p q (size R.trace))) ≤ size R.trace
    unfolding sent sends
    sent_few = family2 R.trace.procs (λ p q e. sends R.trace p q e) (λ e. one_channel R.trace.procs (event_at R.trace e)) (size R.trace)

    pub work_bound : work (start R) ≤ size R.trace + size R.trace
    unfolding work sent
    work_bound =
        let N = R.trace.procs in
        let T = size R.trace in
        let f = sends R.trace in
        omega (
          arith,
          sum_le N (λ z. length (listed R z (R.restart z))) (λ z. cnt (λ e. eqb z (at R.trace e)) T) (λ z l. listed_le z),
          sum_le N (λ p. sum N (λ q. length (kept_on R p q))) (λ p. sum N (λ q. cnt (f p q) T))
              (λ p l. sum_le N (λ q. length (kept_on R p q)) (λ q. cnt (f p q) T) (λ q k. kept_le p q)),
          family N (λ z e. eqb z (at R.trace e)) (λ e. one_process N (at R.trace e)) T,
          sent_few,
        )

    pub reach_bound : (s : State) (n : ℕ) → Reach R s n → n ≤ size R.trace + size R.trace
    reach_bound s n h = omega (arith, reach_work s n h, work_bound)
