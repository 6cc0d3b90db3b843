-- The pass over the events of a trace: where it begins, that each event keeps the tables right, and that they end as
-- the full table.
use Prim.Native.Nat.{ℕ, suc, ◌+◌, ◌*◌, ◌<◌, ◌≤◌}
use mathlib.Core.Path.{◌≡◌, refl, sym, ◌∙◌}
use mathlib.Core.Bool.{cond}
use mathlib.Core.List.{List}
use native.Mathlib.Omega.{arith}
use lib.ListN.{length, get_or, set}
use lib.Seq.{get_or-set_other}
use borrow.Author.Tests.{le-leb, lt-leb, le-ltb}
use Rattle.words.proofs.Cases.{by_eq, by_lt}
use Rattle.trace.specs.declared.Event.{Event}
use Rattle.trace.specs.declared.Event.TheVariants.{Send, Recv, Save, Done}
use Rattle.trace.specs.Trace.{Trace}
use Rattle.trace.specs.Table.{table_word}
use Rattle.theory.specs.Lists.{cnt, place}
use Rattle.theory.specs.Events.{size, event_at, at, sends, recvs, sent, rcvd, send_of, recv_of}
use Rattle.theory.specs.Epochs.{notes, epoch_at, phase_at, rule_of, finished_at}
use Rattle.theory.proofs.Base.{place_le, place_there, cnt_le, cnt_bound}
use Rattle.theory.proofs.Events.{sends_is, partner}
use Rattle.theory.proofs.WellFormed.{Valid}
use Rattle.columns.specs.Inner.Columns.{full_words, Columns}
use Rattle.columns.specs.Inner.Filling.{placed, recv_logged, recv_phase, oldest_of, note_full, note_work, LocalNotable, Notable, Filled, Working}
use Rattle.columns.proofs.Moves.{send_here, send_at, recv_here, recv_at, Local, save_local, done_local, local_at}
use Rattle.columns.proofs.Bounds.{send_of_most, phase_most, epoch_most}
use Rattle.columns.proofs.Columns.{no_message, oldest_is, oldest_found, send_filled, recv_filled, local_filled, latest_number}
use Rattle.columns.proofs.Storing.{placed_other, stored_other}
use Rattle.columns.proofs.Work.{send_working, recv_working, local_working}

-- ---- Before the first event

module _ (t : Trace) where
  pub begin_filled : (full : List ℕ) → length full ≡ full_words → get_or full 6163 0 ≡ 0 → Filled t 0 full
  begin_filled full l z = record {
    whole = l;
    number_none = z;
    number_send = λ p q e s u h. absurd (let y : ⊥ = omega arith in y);
    epoch = λ e u h. absurd (let y : ⊥ = omega arith in y);
    phase = λ e u h. absurd (let y : ⊥ = omega arith in y);
    match_send = λ p q e s u h. absurd (let y : ⊥ = omega arith in y);
    match_recv = λ p q e s u h. absurd (let y : ⊥ = omega arith in y);
    flags = λ p q e s u h. absurd (let y : ⊥ = omega arith in y);
  }

  no_sent : (p q : ℕ) → sent t p q 0 ≡ 0
  unfolding sent cnt
  no_sent p q = refl

  no_rcvd : (p q : ℕ) → rcvd t p q 0 ≡ 0
  unfolding rcvd cnt
  no_rcvd p q = refl

  first_epoch : (z : ℕ) → epoch_at t (rule_of t) z 0 ≡ 1
  unfolding notes
  first_epoch z = refl

  first_phase : (z : ℕ) → phase_at t (rule_of t) z 0 ≡ 1
  unfolding notes
  first_phase z = refl

  first_finished : (z : ℕ) → finished_at t z 0 ≡ 1
  unfolding cnt
  first_finished z = refl

  pub begin_working : (work : List ℕ) → length work ≡ 10433 → ((k : ℕ) → k < 192 → get_or work k 0 ≡ 1) → ((k : ℕ) → 192 ≤ k → get_or work k 0 ≡ 0) → Working t 0 work
  begin_working work l one none = record {
    whole = l;
    epochs = λ z h. one z (omega arith) ∙ sym (first_epoch z);
    phases = λ z h. one (64 + z) (omega arith) ∙ sym (first_phase z);
    finished = λ z h. one (128 + z) (omega arith) ∙ sym (first_finished z);
    oldest = λ p q lp lq. none (192 + (64 * p + q)) (omega arith) ∙ rw (le-ltb (rcvd t p q 0) (sent t p q 0) (omega (arith, no_sent p q, no_rcvd p q)));
    latest = λ p q lp lq. none (4288 + (64 * p + q)) (omega arith) ∙ rw (no_sent p q) (sym (no_message t p q));
    next = λ p q d s u h. absurd (let y : ⊥ = omega arith in y);
    fresh = λ d h. none (8384 + d) (omega arith);
  }

-- ---- One event

module _ (t : Trace) (A : Valid t) (few : size t ≤ 2048) (x : ℕ) (l : suc x ≤ size t) (full work : List ℕ) (F : Filled t x full) (W : Working t x work) where
  process_few : (z : ℕ) → at t (suc x) ≡ z → z < 64
  process_few z e = omega (arith, e, A.process_lt (suc x) (omega arith) l, A.few)

  receiver_few : (a b v : ℕ) → event_at t (suc x) ≡ Send a b v → b < 64
  receiver_few a b v e = omega (arith, A.peer_lt (suc x) b (omega arith) l (sends_is t a b (suc x) (send_here t x a b v e)).1, A.few)

  sender_few : (a b : ℕ) → event_at t (suc x) ≡ Recv a b → b < 64
  sender_few a b e =
      let p = partner t A.causal b a (suc x) (recv_here t x a b e) (omega arith) l in
      omega (arith, (sends_is t b a p.0 p.3).0, A.process_lt p.0 p.1 (omega (arith, p.2)), A.few)

  sent_most : (p q : ℕ) → sent t p q x ≤ x
  unfolding sent
  sent_most p q = cnt_bound (sends t p q) x

  local_notable : (a : ℕ) → at t (suc x) ≡ a → LocalNotable work a
  local_notable a e =
      let la = process_few a e in
      record {
        at_lt = la;
        epoch_few = rw (W.epochs a la) (omega (arith, epoch_most t A a x (omega arith)));
        phase_few = rw (W.phases a la) (omega (arith, phase_most t A a x (omega arith)));
        finished_few = rw (W.finished a la) (omega (arith, A.finished_few a x (omega arith), A.checkpoints_few a x (omega arith)));
      }

  local_few : (a u : ℕ) → Local t x a u → a < 64
  local_few a u v = process_few a (local_at t x a u v)

  pub notable : (v : Event) → event_at t (suc x) ≡ v → Notable full work v
  notable (Send a b v) e =
      let la = process_few a (send_at t x a b v e) in
      let lb = receiver_few a b v e in
      let d = W.latest a b la lb in
      record {
        at_lt = la;
        to_lt = lb;
        latest_most = rw d (omega (arith, send_of_most t A a b (sent t a b x)));
        number_few = rw (d, latest_number t x full F A few l work W a b) (omega (arith, sent_most a b));
      }
  notable (Recv a b) e =
      let la = process_few a (recv_at t x a b e) in
      let lb = sender_few a b e in
      let d = oldest_is t x full F A few l work W a b e la lb in
      let f = oldest_found t x full F A few l work W a b e la lb in
      let m = send_of t b a (rcvd t b a (suc x)) in
      record {
        at_lt = la;
        from_lt = lb;
        oldest_most = rw d (omega (arith, f.by));
        phase_few = rw (d, F.phase m f.later f.by) (omega (arith, f.by, phase_most t A (at t m) m (omega (arith, f.by))));
      }
  notable (Save a) e = local_notable a (local_at t x a 1 (save_local t x a e))
  notable (Done a) e = local_notable a (local_at t x a 0 (done_local t x a e))

  pub next_filled : (v : Event) → event_at t (suc x) ≡ v → Filled t (suc x) (note_full full work (suc x) v)
  next_filled (Send a b v) e = send_filled t x full F A few l work W a b v e (process_few a (send_at t x a b v e)) (receiver_few a b v e)
  next_filled (Recv a b) e =
      let la = process_few a (recv_at t x a b e) in
      let lb = sender_few a b e in
      rw (oldest_is t x full F A few l work W a b e la lb) (recv_filled t x full F A few l work W a b e la lb)
  next_filled (Save a) e = let v = save_local t x a e in local_filled t x full F A few l work W a 1 v (local_few a 1 v)
  next_filled (Done a) e = let v = done_local t x a e in local_filled t x full F A few l work W a 0 v (local_few a 0 v)

  pub next_working : (v : Event) → event_at t (suc x) ≡ v → Working t (suc x) (note_work full work (suc x) v)
  next_working (Send a b v) e = send_working t x work W A few l a b v e (process_few a (send_at t x a b v e)) (receiver_few a b v e)
  next_working (Recv a b) e =
      let la = process_few a (recv_at t x a b e) in
      let lb = sender_few a b e in
      rw (oldest_is t x full F A few l work W a b e la lb) (recv_working t x work W A few l full F a b e la lb)
  next_working (Save a) e = let v = save_local t x a e in local_working t x work W A few l a 1 v (local_few a 1 v)
  next_working (Done a) e = let v = done_local t x a e in local_working t x work W A few l a 0 v (local_few a 0 v)

-- ---- After the last event

-- a message that is never received has no receive
never : (t : Trace) (p q k : ℕ) → rcvd t p q (size t) < k → recv_of t p q k ≡ 0
unfolding recv_of rcvd
never t p q k h =
    by_eq (place (recvs t p q) k (size t)) 0 (λ z. z)
    (λ n. let r = place_there (recvs t p q) k (size t) (omega arith) in
    absurd (let y : ⊥ = omega (arith, r.1, cnt_le (recvs t p q) (place (recvs t p q) k (size t)) (size t) (place_le (recvs t p q) k (size t))) in y))

pub filled_columns : (t : Trace) (full : List ℕ) → ((k : ℕ) → k < 6163 → get_or full k 0 ≡ table_word t k) → Filled t (size t) full → Columns t full
filled_columns t full words F = record {
  whole = F.whole;
  words = words;
  number_send = F.number_send;
  epoch = F.epoch;
  phase = F.phase;
  match_send = λ p q e s u h. F.match_send p q e s u h ∙ by_lt (rcvd t p q (size t)) (sent t p q e)
      (λ n. rw (lt-leb (sent t p q e) (rcvd t p q (size t)) n) (sym (never t p q (sent t p q e) n)))
      (λ n. rw (le-leb (sent t p q e) (rcvd t p q (size t)) n));
  match_recv = F.match_recv;
}

-- ---- The trace's own words

-- no event changes them
pub note_below : (full work : List ℕ) (e : ℕ) → length full ≡ full_words → e ≤ 2048 → (v : Event) (k : ℕ) → k < 6163
    → get_or (note_full full work e v) k 0 ≡ get_or full k 0
note_below full work e l m (Send a b v) k h = stored_other full e _ _ _ 0 l m k (λ q. omega arith) (λ q. omega arith) (λ q. omega arith) (λ q. omega arith)
note_below full work e l m (Recv a b) k h =
    let d = oldest_of work a b in
    let mid = placed full e (get_or work a 0) (recv_phase full work d a) d in
    get_or-set_other (set mid (12310 + d) e) (6163 + e) k (cond (recv_logged full work d a) 1 0) 0 (λ q. omega arith)
    ∙ get_or-set_other mid (12310 + d) k e 0 (λ q. omega arith)
    ∙ placed_other full e _ _ d l m k (λ q. omega arith) (λ q. omega arith) (λ q. omega arith)
note_below full work e l m (Save a) k h = stored_other full e 0 _ _ 0 l m k (λ q. omega arith) (λ q. omega arith) (λ q. omega arith) (λ q. omega arith)
note_below full work e l m (Done a) k h = stored_other full e 0 _ _ 0 l m k (λ q. omega arith) (λ q. omega arith) (λ q. omega arith) (λ q. omega arith)
