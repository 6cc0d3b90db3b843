-- What becomes of a message, by counting: the tests of specs/Line, worded by events, equal comparisons of its number
-- with three counts. From the laws that the line lies within the run and that no message is received before it is sent.
use mathlib.Core.Path.{◌≡◌, refl, sym, ◌∙◌, ap}
use mathlib.Core.Bool.{Bool, true, false, ◌&&◌, ◌||◌, not}
use mathlib.Core.List.{[], append-nil}
use Prim.Native.Nat.{ℕ, ◌+◌, ◌-◌, ◌≤◌, ◌<◌}
use native.Mathlib.Omega.{arith}
use lib.Dec.{leb, ltb}
use borrow.Author.Tests.{leb-true, ltb-true, ltb-false, lt-ltb, le-ltb, le-leb, lt-leb}
use Rattle.theory.specs.Lists.{iv, keep, place}
use Rattle.theory.specs.Events.{size, sends, recvs, sent, rcvd, send_of, recv_of}
use Rattle.theory.specs.Line.{Run, sent_before, sent_after, received, received_before, undone, lost, orphan, kept, LossFree}
use Rattle.theory.specs.Replay.{kept_on}
use Rattle.theory.specs.Inner.Laws.{Laws}
use Rattle.theory.proofs.Base.{by, on, clash, le?, both, same_bool, cnt_lt, place_by, place_there, iv_split, keep_append, keep_iv_cong, keep_iv_none}
use Rattle.theory.proofs.Events.{sends_is, sent_le, rcvd_le, send_of_lem, send_of_at}
use Rattle.theory.specs.Inner.Flow.{r_before, r_cut, s_before, keptb}

-- ---- Tests

undone_test : (z a c : Bool) → (z ≡ false → a ≡ true) → ((z && c) && not (z && a)) ≡ (not a && c)
undone_test true true true h = refl
undone_test true true false h = refl
undone_test true false true h = refl
undone_test true false false h = refl
undone_test false a c h = rw (h refl)

kept_test : (z a b c l : Bool) → (z ≡ false → a ≡ true) → (a ≡ true → c ≡ true)
    → ((z && b) && (((not a && c) && l) || not (z && c))) ≡ (b && (not a && (not c || l)))
kept_test true true b c l h k = rw (k refl) (by b (λ t. rw t) (λ t. rw t))
kept_test true false b true l h k = by l (λ t. rw t) (λ t. rw t)
kept_test true false b false l h k = by b (λ t. rw t) (λ t. rw t)
kept_test false a b c l h k = rw (h refl) (by b (λ t. rw t) (λ t. rw t))

not_leb : (a b : ℕ) → not (leb a b) ≡ ltb b a
not_leb a b = on (le? a b)
    (λ h. let x : leb a b ≡ true = le-leb a b h in let y : ltb b a ≡ false = le-ltb b a h in rw (x, y))
    (λ h. let x : leb a b ≡ false = lt-leb a b h in let y : ltb b a ≡ true = lt-ltb b a h in rw (x, y))

-- ---- Counts

module _ (R : Run) where
  pub record Lost (p q k : ℕ) : Type 0 where
    pub after : r_before R p q < k
    pub by_cut : k ≤ r_cut R p q
    pub before : k ≤ s_before R p q
    pub unlogged : R.logged p q k ≡ false

  abbrev pub NoLoss : Type 0
  NoLoss = (p q k : ℕ) → Lost p q k → ⊥

  module _ (L : Laws R) where
    pub restart_n : (z : ℕ) → R.restart z ≤ size R.trace
    restart_n z = omega (arith, L.restart_le z, L.cut_le)

    pub r_le : (p q : ℕ) → r_before R p q ≤ r_cut R p q
    r_le p q = rcvd_le R.trace p q (R.restart q) R.cut (L.restart_le q)

    pub s_le : (p q : ℕ) → s_before R p q ≤ sent R.trace p q (size R.trace)
    s_le p q = sent_le R.trace p q (R.restart p) (size R.trace) (restart_n p)

    -- a message that is sent is one between processes of the run
    pub in_run : (p q k : ℕ) → 0 < k → k ≤ sent R.trace p q (size R.trace) → (p < R.trace.procs) × (q < R.trace.procs)
    in_run p q k a b =
        let d = send_of_lem R.trace p q k (size R.trace) a b in
        let w = sends_is R.trace p q d.0 d.3 in
        (omega (arith, L.process_lt d.0 d.1 d.2, w.0), L.peer_lt d.0 q d.1 d.2 w.1)

    -- no class has number 0
    low : (k r : ℕ) → ltb 0 k ≡ false → leb k r ≡ true
    low k r h = le-leb k r (omega (arith, ltb-false 0 k h))

    sent_before_lem : (p q k : ℕ) → sent_before R p q k ≡ (ltb 0 k && leb k (s_before R p q))
    unfolding sent_before send_of sent
    sent_before_lem p q k = place_by (sends R.trace p q) k (size R.trace) (R.restart p) (restart_n p)

    recv_by : (p q k x : ℕ) → x ≤ size R.trace → (ltb 0 (recv_of R.trace p q k) && leb (recv_of R.trace p q k) x) ≡ (ltb 0 k && leb k (rcvd R.trace p q x))
    unfolding recv_of rcvd
    recv_by p q k x h = place_by (recvs R.trace p q) k (size R.trace) x h

    recv_before : (p q k : ℕ) → received_before R p q k ≡ (ltb 0 k && leb k (r_before R p q))
    unfolding received_before
    recv_before p q k = recv_by p q k (R.restart q) (restart_n q)

    recv_cut : (p q k : ℕ) → received R p q k ≡ (ltb 0 k && leb k (r_cut R p q))
    unfolding received
    recv_cut p q k = recv_by p q k R.cut L.cut_le

    sent_later : (p q k : ℕ) → sent_after R p q k ≡ true → s_before R p q < k
    unfolding sent_after send_of sent
    sent_later p q k h =
        let f = sends R.trace p q in
        let d = place f k (size R.trace) in
        let a = ltb-true (R.restart p) d (both (ltb (R.restart p) d) (leb d R.cut) h).0 in
        let r = place_there f k (size R.trace) (omega arith) in
        omega (arith, cnt_lt f (R.restart p) d r.0 a, r.1)

    later_sent : (p q k : ℕ) → s_before R p q < k → k ≤ sent R.trace p q R.cut → sent_after R p q k ≡ true
    unfolding sent_after
    later_sent p q k a b =
        let d = send_of_lem R.trace p q k R.cut (omega arith) b in
        let e : send_of R.trace p q k ≡ d.0 = ap (send_of R.trace p q) (sym d.4) ∙ send_of_at R.trace p q d.0 d.3 d.1 (omega (arith, d.2, L.cut_le)) in
        let u : ltb (R.restart p) d.0 ≡ true = on (le? d.0 (R.restart p))
        (λ l. absurd (omega (arith, sent_le R.trace p q d.0 (R.restart p) l, d.4)))
        (λ l. lt-ltb (R.restart p) d.0 l) in
        let v : leb d.0 R.cut ≡ true = le-leb d.0 R.cut d.2 in
        rw (e, u, v)

    -- ---- The classes

    pub undone_counts : (p q k : ℕ) → undone R p q k ≡ (ltb (r_before R p q) k && leb k (r_cut R p q))
    unfolding undone
    undone_counts p q k =
        rw (recv_cut p q k, recv_before p q k, ← not_leb k (r_before R p q))
        (undone_test (ltb 0 k) (leb k (r_before R p q)) (leb k (r_cut R p q)) (low k (r_before R p q)))

    pub lost_counts : (p q k : ℕ) → lost R p q k ≡ (ltb (r_before R p q) k && (leb k (r_cut R p q) && (leb k (s_before R p q) && not (R.logged p q k))))
    unfolding lost
    lost_counts p q k = rw (undone_counts p q k, sent_before_lem p q k) (on (le? k (r_before R p q))
        (λ h. let x : ltb (r_before R p q) k ≡ false = le-ltb (r_before R p q) k h in rw x)
        (λ h. let x : ltb (r_before R p q) k ≡ true = lt-ltb (r_before R p q) k h in
        let y : ltb 0 k ≡ true = lt-ltb 0 k (omega arith) in
        rw (x, y)))

    pub orphan_counts : (p q k : ℕ) → orphan R p q k ≡ (ltb (s_before R p q) k && leb k (r_before R p q))
    unfolding orphan
    orphan_counts p q k = rw (recv_before p q k) (same_bool _ _ there back)
      where
        there : (sent_after R p q k && (ltb 0 k && leb k (r_before R p q))) ≡ true → (ltb (s_before R p q) k && leb k (r_before R p q)) ≡ true
        there h =
            let a = both (sent_after R p q k) (ltb 0 k && leb k (r_before R p q)) h in
            let b = both (ltb 0 k) (leb k (r_before R p q)) a.1 in
            let c : ltb (s_before R p q) k ≡ true = lt-ltb (s_before R p q) k (sent_later p q k a.0) in
            rw (c, b.1)

        back : (ltb (s_before R p q) k && leb k (r_before R p q)) ≡ true → (sent_after R p q k && (ltb 0 k && leb k (r_before R p q))) ≡ true
        back h =
            let a = both (ltb (s_before R p q) k) (leb k (r_before R p q)) h in
            let u = ltb-true (s_before R p q) k a.0 in
            let c : ltb 0 k ≡ true = lt-ltb 0 k (omega arith) in
            rw (later_sent p q k u (omega (arith, leb-true k (r_before R p q) a.1, r_le p q, L.causal p q R.cut L.cut_le)), c, a.1)

    pub kept_counts : (p q k : ℕ) → kept R p q k ≡ (leb k (s_before R p q) && (ltb (r_before R p q) k && (ltb (r_cut R p q) k || R.logged p q k)))
    unfolding kept
    kept_counts p q k =
        simp (undone_counts p q k, sent_before_lem p q k, recv_cut p q k, ← not_leb k (r_before R p q), ← not_leb k (r_cut R p q))
        (kept_test (ltb 0 k) (leb k (r_before R p q)) (leb k (s_before R p q)) (leb k (r_cut R p q)) (R.logged p q k) (low k (r_before R p q))
        (λ h. le-leb k (r_cut R p q) (omega (arith, leb-true k (r_before R p q) h, r_le p q))))

    pub lost_is : (p q k : ℕ) → lost R p q k ≡ true → Lost p q k
    lost_is p q k h =
        let a = both (ltb (r_before R p q) k) _ (sym (lost_counts p q k) ∙ h) in
        let b = both (leb k (r_cut R p q)) _ a.1 in
        let c = both (leb k (s_before R p q)) _ b.1 in
        record {
          after = ltb-true (r_before R p q) k a.0;
          by_cut = leb-true k (r_cut R p q) b.0;
          before = leb-true k (s_before R p q) c.0;
          unlogged = by (R.logged p q k) (λ l. clash {b = false} (rw l at c.1) refl) (λ l. l);
        }

    pub is_lost : (p q k : ℕ) → Lost p q k → lost R p q k ≡ true
    is_lost p q k l =
        let a : ltb (r_before R p q) k ≡ true = lt-ltb (r_before R p q) k l.after in
        let b : leb k (r_cut R p q) ≡ true = le-leb k (r_cut R p q) l.by_cut in
        let c : leb k (s_before R p q) ≡ true = le-leb k (s_before R p q) l.before in
        lost_counts p q k ∙ rw (a, b, c, l.unlogged)

    -- each class is of messages of the run
    abbrev pub InRun : ℕ → ℕ → ℕ → Type 0
    InRun p q k = (p < R.trace.procs) × (q < R.trace.procs) × (0 < k) × (k ≤ sent R.trace p q (size R.trace))

    within : (p q k : ℕ) → 0 < k → k ≤ sent R.trace p q (size R.trace) → InRun p q k
    within p q k a b = let r = in_run p q k a b in (r.0, r.1, a, b)

    pub lost_within : (p q k : ℕ) → lost R p q k ≡ true → InRun p q k
    lost_within p q k h = let l = lost_is p q k h in within p q k (omega (arith, l.after)) (omega (arith, l.before, s_le p q))

    pub orphan_within : (p q k : ℕ) → orphan R p q k ≡ true → InRun p q k
    orphan_within p q k h =
        let a = both (ltb (s_before R p q) k) (leb k (r_before R p q)) (sym (orphan_counts p q k) ∙ h) in
        let b = rcvd_le R.trace p q (R.restart q) (size R.trace) (restart_n q) in
        within p q k (omega (arith, ltb-true (s_before R p q) k a.0))
        (omega (arith, leb-true k (r_before R p q) a.1, L.causal p q (size R.trace) (omega arith)))

    pub kept_within : (p q k : ℕ) → kept R p q k ≡ true → InRun p q k
    kept_within p q k h =
        let a = both (leb k (s_before R p q)) _ (sym (kept_counts p q k) ∙ h) in
        let b = both (ltb (r_before R p q) k) _ a.1 in
        within p q k (omega (arith, ltb-true (r_before R p q) k b.0)) (omega (arith, leb-true k (s_before R p q) a.0, s_le p q))

    pub no_loss : LossFree R → NoLoss
    no_loss f p q k l = clash (is_lost p q k l) (f p q k)

    pub loss_free_lem : NoLoss → LossFree R
    loss_free_lem n p q k = by (lost R p q k) (λ h. absurd (n p q k (lost_is p q k h))) (λ h. h)

    -- the kept messages of a channel are among those sent before the sender's restart
    pub kept_list : (p q : ℕ) → kept_on R p q ≡ keep (keptb R p q) (iv 0 (s_before R p q))
    unfolding kept_on keptb
    kept_list p q =
        let sb = s_before R p q in
        let sn = sent R.trace p q (size R.trace) in
        let a : sb ≤ sn = s_le p q in
        let z : 0 + sb ≡ sb = omega arith in
        let low : keep (kept R p q) (iv 0 sb) ≡ keep (keptb R p q) (iv 0 sb) = keep_iv_cong (kept R p q) (keptb R p q) 0 sb
        (λ y u v. let w : leb y sb ≡ true = le-leb y sb (omega arith) in kept_counts p q y ∙ rw w) in
        let high : keep (kept R p q) (iv sb (sn - sb)) ≡ [] = keep_iv_none (kept R p q) sb (sn - sb)
        (λ y u v. let w : leb y sb ≡ false = lt-leb y sb u in kept_counts p q y ∙ rw w) in
        ap (keep (kept R p q)) (iv_split 0 sb sn a ∙ rw z) ∙ keep_append (kept R p q) (iv 0 sb) (iv sb (sn - sb)) ∙ rw (low, high) (append-nil _)
