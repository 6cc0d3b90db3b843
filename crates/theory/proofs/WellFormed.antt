-- What a well-formed trace has, by event number: `Valid`. From crate trace's `well_formed` and its laws of fit events.
use mathlib.Core.Path.{◌≡◌, refl}
use mathlib.Core.Bool.{Bool, true, false, ◌&&◌, cond}
use mathlib.Core.List.{List, [], ◌∷◌, ◌++◌, append_assoc, append-nil}
use Prim.Native.Nat.{ℕ, zero, suc, ◌+◌, ◌≤◌, ◌<◌}
use native.Mathlib.Omega.{arith}
use lib.ListN.{length, get_or, take}
use lib.Seq.{take-suc}
use lib.Dec.{leb, eqb}
use borrow.Author.Tests.{leb-true, eqb-true}
use Rattle.trace.specs.declared.Event.{Event}
use Rattle.trace.specs.declared.Event.TheVariants.{Send, Recv, Save, Done}
use Rattle.trace.specs.Trace.{Trace, is_send, is_recv, is_save, is_done, one_if, count}
use Rattle.trace.specs.Fit.{event_fault, value_fits, all_fit, well_formed}
use Rattle.trace.proofs.Faults.{send_fit, recv_fit, save_fit, done_fit}
use Rattle.theory.specs.Lists.{cnt}
use Rattle.theory.specs.Events.{send, kind_of, process_of, size, event_at, at, kind, sends, recvs, checkpoints, finishes, sent, rcvd}
use Rattle.theory.proofs.Base.{by, clash, both, same2, cnt_suc, cnt_skip, cnt_le}
use Rattle.theory.proofs.Events.{sent_le}

-- what a well-formed trace has, by event number
pub record Valid (t : Trace) : Type 0 where
  pub few : t.procs ≤ 64
  pub process_lt : (e : ℕ) → 0 < e → e ≤ size t → at t e < t.procs
  pub peer_lt : (e q : ℕ) → 0 < e → e ≤ size t → kind t e ≡ send q → q < t.procs
  pub causal : (p q x : ℕ) → x ≤ size t → rcvd t p q x ≤ sent t p q x
  pub checkpoints_few : (z x : ℕ) → x ≤ size t → cnt (checkpoints t z) x ≤ 30
  -- no more are finished than made
  pub finished_few : (z x : ℕ) → x ≤ size t → cnt (finishes t z) x ≤ cnt (checkpoints t z) x

fit_at : (n : ℕ) (d : Event) (before es : List Event) → all_fit n before es ≡ true → (i : ℕ) → i < length es
    → event_fault n (before ++ take i es) (get_or es i d) ≡ 0
unfolding all_fit
fit_at n d before [] h i l = absurd (omega arith)
fit_at n d before (e ∷ es) h zero l =
    let b = both (eqb (event_fault n before e) 0) (value_fits e && all_fit n (before ++ e ∷ []) es) h in
    rw (append-nil before) (eqb-true (event_fault n before e) 0 b.0)
fit_at n d before (e ∷ es) h (suc i) l =
    let b = both (eqb (event_fault n before e) 0) (value_fits e && all_fit n (before ++ e ∷ []) es) h in
    let c = both (value_fits e) (all_fit n (before ++ e ∷ []) es) b.1 in
    rw (append_assoc before (e ∷ []) (take i es)) at (fit_at n d (before ++ e ∷ []) es c.1 i (omega arith))

count_append : (f : Event → Bool) (xs ys : List Event) → count f (xs ++ ys) ≡ count f xs + count f ys
unfolding count
count_append f [] ys = omega arith
count_append f (x ∷ xs) ys = omega (arith, count_append f xs ys)

one_pick : (b : Bool) (m : ℕ) → m + (one_if b + 0) ≡ cond b (suc m) m
one_pick true m = omega arith
one_pick false m = omega arith

-- of an event that is fit after the events b
fit_process : (n : ℕ) (b : List Event) (e : Event) → event_fault n b e ≡ 0 → process_of e < n
fit_process n b (Send z q v) h = (send_fit n b z q v h).0
fit_process n b (Recv z p) h = (recv_fit n b z p h).0
fit_process n b (Save z) h = (save_fit n b z h).0
fit_process n b (Done z) h = (done_fit n b z h).0

fit_peer : (n : ℕ) (b : List Event) (e : Event) (q : ℕ) → event_fault n b e ≡ 0 → kind_of e ≡ send q → q < n
fit_peer n b (Send z r v) q h k = let i : r ≡ q = cc in omega (arith, (send_fit n b z r v h).1)
fit_peer n b (Recv z p) q h k = let z : ◌≡◌ {A = ℕ} 0 1 = cc in absurd (omega arith)
fit_peer n b (Save z) q h k = let z : ◌≡◌ {A = ℕ} 0 1 = cc in absurd (omega arith)
fit_peer n b (Done z) q h k = let z : ◌≡◌ {A = ℕ} 0 1 = cc in absurd (omega arith)

fit_transit : (n : ℕ) (b : List Event) (e : Event) (p q : ℕ) → event_fault n b e ≡ 0 → is_recv p q e ≡ true → count (is_recv p q) b < count (is_send p q) b
fit_transit n b (Send z r v) p q h k = clash {b = false} k refl
fit_transit n b (Recv z r) p q h k = let c = same2 p r q z k in rw (c.0, c.1) (recv_fit n b z r h).3
fit_transit n b (Save z) p q h k = clash {b = false} k refl
fit_transit n b (Done z) p q h k = clash {b = false} k refl

fit_checkpoint : (n : ℕ) (b : List Event) (e : Event) (z : ℕ) → event_fault n b e ≡ 0 → is_save z e ≡ true → count (is_save z) b < 30
fit_checkpoint n b (Send y r v) z h k = clash {b = false} k refl
fit_checkpoint n b (Recv y r) z h k = clash {b = false} k refl
fit_checkpoint n b (Save y) z h k = let i : z ≡ y = eqb-true z y k in rw i (save_fit n b y h).1
fit_checkpoint n b (Done y) z h k = clash {b = false} k refl

fit_done : (n : ℕ) (b : List Event) (e : Event) (z : ℕ) → event_fault n b e ≡ 0 → is_done z e ≡ true → count (is_done z) b < count (is_save z) b
fit_done n b (Send y r v) z h k = clash {b = false} k refl
fit_done n b (Recv y r) z h k = clash {b = false} k refl
fit_done n b (Save y) z h k = clash {b = false} k refl
fit_done n b (Done y) z h k = let i : z ≡ y = eqb-true z y k in rw i (done_fit n b y h).1

module _ (t : Trace) where
  -- counting the first x events of the list is counting event numbers 1 .. x
  pub count_cnt : (f : Event → Bool) (x : ℕ) → x ≤ size t → count f (take x t.events) ≡ cnt (λ e. f (event_at t e)) x
  unfolding count cnt event_at
  count_cnt f zero h = refl
  count_cnt f (suc x) h =
      rw (take-suc t.events x (Save t.procs) h, count_append f (take x t.events) _, count_cnt f x (omega arith)) (one_pick (f (event_at t (suc x))) (cnt (λ e. f (event_at t e)) x))

  module _ (w : well_formed t ≡ true) where
    parts : (leb t.procs 64 ≡ true) × (all_fit t.procs [] t.events ≡ true)
    unfolding well_formed
    parts =
        let a = both (leb 2 t.procs) _ w in
        let b = both (leb t.procs 64) _ a.1 in
        let c = both (leb (length t.events) 2048) _ b.1 in
        (b.0, c.1)

    fault : (x : ℕ) → x < size t → event_fault t.procs (take x t.events) (event_at t (suc x)) ≡ 0
    unfolding event_at
    fault x h = fit_at t.procs (Save t.procs) [] t.events parts.1 x h

    transit : (p q x : ℕ) → x < size t → recvs t p q (suc x) ≡ true → rcvd t p q x < sent t p q x
    unfolding recvs sends rcvd sent
    transit p q x h r =
        let a = fit_transit t.procs (take x t.events) (event_at t (suc x)) p q (fault x h) r in
        omega (arith, count_cnt (is_recv p q) x (omega arith), count_cnt (is_send p q) x (omega arith))

    valid_causal : (p q x : ℕ) → x ≤ size t → rcvd t p q x ≤ sent t p q x
    valid_causal p q zero h = unfold rcvd in unfold cnt in omega arith
    valid_causal p q (suc x) h = by (recvs t p q (suc x))
        (λ r. omega (arith, next p q x r, transit p q x h r, sent_le t p q x (suc x) (omega arith)))
        (λ r. omega (arith, skip p q x r, valid_causal p q x (omega arith), sent_le t p q x (suc x) (omega arith)))
      where
        next : (p q x : ℕ) → recvs t p q (suc x) ≡ true → rcvd t p q (suc x) ≡ suc (rcvd t p q x)
        next p q x r = unfold rcvd in cnt_suc (recvs t p q) x r

        skip : (p q x : ℕ) → recvs t p q (suc x) ≡ false → rcvd t p q (suc x) ≡ rcvd t p q x
        skip p q x r = unfold rcvd in cnt_skip (recvs t p q) x r

    checkpoint_room : (z x : ℕ) → x < size t → checkpoints t z (suc x) ≡ true → cnt (checkpoints t z) x < 30
    unfolding checkpoints
    checkpoint_room z x h r =
        let a = fit_checkpoint t.procs (take x t.events) (event_at t (suc x)) z (fault x h) r in
        omega (arith, count_cnt (is_save z) x (omega arith))

    done_room : (z x : ℕ) → x < size t → finishes t z (suc x) ≡ true → cnt (finishes t z) x < cnt (checkpoints t z) x
    unfolding checkpoints finishes
    done_room z x h r =
        let a = fit_done t.procs (take x t.events) (event_at t (suc x)) z (fault x h) r in
        omega (arith, count_cnt (is_done z) x (omega arith), count_cnt (is_save z) x (omega arith))

    pub valid : Valid t
    valid = record {
      few = leb-true t.procs 64 parts.0;
      process_lt = λ e a b. in_range e a b;
      peer_lt = λ e q a b k. peer e q a b k;
      causal = valid_causal;
      checkpoints_few = few_checkpoints;
      finished_few = few_finished;
    }
      where
        in_range : (e : ℕ) → 0 < e → e ≤ size t → at t e < t.procs
        in_range zero a b = absurd (omega arith)
        in_range (suc x) a b = unfold at in fit_process t.procs (take x t.events) (event_at t (suc x)) (fault x b)

        peer : (e q : ℕ) → 0 < e → e ≤ size t → kind t e ≡ send q → q < t.procs
        peer zero q a b k = absurd (omega arith)
        peer (suc x) q a b k = fit_peer t.procs (take x t.events) (event_at t (suc x)) q (fault x b) (unfold kind in k)

        few_checkpoints : (z x : ℕ) → x ≤ size t → cnt (checkpoints t z) x ≤ 30
        few_checkpoints z zero h = unfold cnt in omega arith
        few_checkpoints z (suc x) h = by (checkpoints t z (suc x))
            (λ r. omega (arith, cnt_suc (checkpoints t z) x r, checkpoint_room z x h r))
            (λ r. omega (arith, cnt_skip (checkpoints t z) x r, few_checkpoints z x (omega arith)))

        few_finished : (z x : ℕ) → x ≤ size t → cnt (finishes t z) x ≤ cnt (checkpoints t z) x
        few_finished z zero h = unfold cnt in omega arith
        few_finished z (suc x) h = by (finishes t z (suc x))
            (λ r. omega (arith, cnt_suc (finishes t z) x r, done_room z x h r, cnt_le (checkpoints t z) x (suc x) (omega arith)))
            (λ r. omega (arith, cnt_skip (finishes t z) x r, few_finished z x (omega arith), cnt_le (checkpoints t z) x (suc x) (omega arith)))
