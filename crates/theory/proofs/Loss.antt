-- What flows through a channel: all its messages where none is lost, and never a lost one; so a record that lacks
-- nothing shows that nothing is lost, in every state that an order leads to. From the laws of the run and the
-- invariants of Flow.
use mathlib.Core.Path.{◌≡◌, refl, sym, ◌∙◌, ap}
use mathlib.Core.Logic.{inl, inr}
use mathlib.Core.Bool.{true, false}
use mathlib.Core.List.{List, [], ◌∷◌, ◌++◌, map}
use Prim.Native.Nat.{ℕ, ◌+◌, ◌-◌, ◌≤◌, ◌<◌}
use native.Mathlib.Omega.{arith}
use lib.ListN.{length}
use lib.Dec.{ltb, eqb}
use borrow.Author.Tests.{ltb-true, ltb-false, lt-ltb, le-ltb}
use Rattle.theory.specs.Lists.{iv, keep, cnt}
use Rattle.theory.specs.Inner.Lists.{has}
use Rattle.theory.specs.Events.{size, at, kind, sends, recvs, sent, rcvd}
use Rattle.theory.specs.Line.{Run}
use Rattle.theory.specs.Replay.{State, listed, taken_by, start}
use Rattle.theory.specs.Record.{entry, delivered, faultless, SameRecord}
use Rattle.theory.specs.Inner.Laws.{Laws}
use Rattle.theory.proofs.Base.{by, clash, false_or, iv_append, keep_append, keep_iv_cong, keep_above, each_map, each_keep_iv, keep_keep, cnt_iv, map_cnt, length_iv, has_append, has_keep, has_keep_not, has_iv, has_iv_not}
use Rattle.theory.proofs.Events.{sends_split, recvs_split, sent_le, rcvd_le}
use Rattle.theory.specs.Inner.Flow.{send_to, recv_from, r_before, r_cut, s_before, keptb, Kept, ahead, flow, number_to_take, Inv}
use Rattle.theory.proofs.Classes.{Lost, NoLoss, restart_n, kept_list}
use Rattle.theory.proofs.Flow.{inv_step, Reach, here, next}

module _ (R : Run) where
  pub taken_iv : (p q x : ℕ) → taken_by R p q x ≡ iv 0 (rcvd R.trace p q x)
  unfolding taken_by rcvd cnt
  taken_iv p q x =
      let a = cnt_iv (recvs R.trace p q) 0 x in
      let b : 0 + x ≡ x = omega arith in
      let c : cnt (recvs R.trace p q) x ≡ length (keep (recvs R.trace p q) (iv 0 x)) = (rw b at a) ∙ omega arith in
      map_cnt (recvs R.trace p q) 0 x ∙ rw c

  -- the sends of a process to q are the sends on the channel; the receives of a process from p those on the other
  sends_listed : (p q x d : ℕ) → keep (λ e. send_to q (kind R.trace e)) (keep (λ e. eqb p (at R.trace e)) (iv x d)) ≡ keep (sends R.trace p q) (iv x d)
  sends_listed p q x d =
      keep_keep (λ e. send_to q (kind R.trace e)) (λ e. eqb p (at R.trace e)) (iv x d)
      ∙ keep_iv_cong _ (sends R.trace p q) x d (λ y u v. sym (sends_split R.trace p q y))

  recvs_listed : (p q x d : ℕ) → keep (λ e. recv_from p (kind R.trace e)) (keep (λ e. eqb q (at R.trace e)) (iv x d)) ≡ keep (recvs R.trace p q) (iv x d)
  recvs_listed p q x d =
      keep_keep (λ e. recv_from p (kind R.trace e)) (λ e. eqb q (at R.trace e)) (iv x d)
      ∙ keep_iv_cong _ (recvs R.trace p q) x d (λ y u v. sym (recvs_split R.trace p q y))

  pub to_take_listed : (p q x : ℕ) → x ≤ size R.trace
      → rcvd R.trace p q x + number_to_take R p (listed R q x) ≡ rcvd R.trace p q (size R.trace)
  unfolding number_to_take listed rcvd
  to_take_listed p q x h =
      let a = cnt_iv (recvs R.trace p q) x (size R.trace - x) in
      let b : x + (size R.trace - x) ≡ size R.trace = omega arith in
      rw (recvs_listed p q x (size R.trace - x)) (sym (rw b at a))

  pub ahead_listed : (p q x : ℕ) → x ≤ size R.trace
      → ahead R p q (listed R p x) ≡ keep (λ k. ltb (r_before R p q) k) (iv (sent R.trace p q x) (sent R.trace p q (size R.trace) - sent R.trace p q x))
  unfolding ahead listed sent
  ahead_listed p q x h =
      let n = size R.trace in
      let f = sends R.trace p q in
      let a = cnt_iv f x (n - x) in
      let b : x + (n - x) ≡ n = omega arith in
      let c : cnt f n - cnt f x ≡ length (keep f (iv x (n - x))) = omega (arith, rw b at a) in
      rw (sends_listed p q x (n - x), c) (ap (keep (λ k. ltb (r_before R p q) k)) (map_cnt f x (n - x)))

  module _ (L : Laws R) where
    pub inv_start : Inv R (start R)
    inv_start = record {
      flows = λ p q. refl;
      taken = λ p q. rw (taken_iv, length_iv) (to_take_listed p q (R.restart q) (restart_n R L q));
      cursors = record { up_to = R.restart; from = λ z. omega arith; within = restart_n R L; todo_is = λ z. refl };
      lefts = λ p q. rw (kept_list R L p q) (each_map (λ y. (0 < y) × (y ≤ 0 + s_before R p q) × (keptb R p q y ≡ true)) (Kept R p q)
          (λ y t. (t.0, omega (arith, t.1), t.2)) (keep (keptb R p q) (iv 0 (s_before R p q))) (each_keep_iv (keptb R p q) 0 (s_before R p q)));
    }

    pub inv : (s : State) (n : ℕ) → Reach R s n → Inv R s
    inv s n here = inv_start
    inv s n (next {s = r} {n = m} c h e) = inv_step R r s c e (inv r m h)

    kept_above : NoLoss R → (p q k : ℕ) → k ≤ s_before R p q → keptb R p q k ≡ ltb (r_before R p q) k
    unfolding keptb
    kept_above N p q k h = by (ltb (r_before R p q) k)
        (λ a. rw a (by (ltb (r_cut R p q) k) (λ b. rw b) (λ b. rw b (by (R.logged p q k) (λ c. c)
        (λ c. absurd (N p q k (record { after = ltb-true (r_before R p q) k a; by_cut = ltb-false (r_cut R p q) k b; before = h; unlogged = c })))))))
        (λ a. rw a)

    -- no loss: every message of the channel flows through it
    pub flow_all : NoLoss R → (p q : ℕ) → flow R (start R) p q ≡ iv 0 (sent R.trace p q (size R.trace))
    flow_all N p q =
        let rb = r_before R p q in
        let sb = s_before R p q in
        let sn = sent R.trace p q (size R.trace) in
        let a : sb ≤ sn = sent_le R.trace p q (R.restart p) (size R.trace) (restart_n R L p) in
        let b : rb ≤ sn = omega (arith, rcvd_le R.trace p q (R.restart q) (size R.trace) (restart_n R L q), L.causal p q (size R.trace) (omega arith)) in
        let c : sb + (sn - sb) ≡ sn = omega arith in
        let d : rb + (sn - rb) ≡ sn = omega arith in
        let z : 0 + sb ≡ sb = omega arith in
        let z' : 0 + rb ≡ rb = omega arith in
        let e : iv 0 sb ++ iv sb (sn - sb) ≡ iv 0 sn = ap (λ k. iv 0 sb ++ iv k (sn - sb)) (sym z) ∙ sym (iv_append 0 sb (sn - sb)) ∙ ap (iv 0) c in
        let f : iv 0 rb ++ iv rb (sn - rb) ≡ iv 0 sn = ap (λ k. iv 0 rb ++ iv k (sn - rb)) (sym z') ∙ sym (iv_append 0 rb (sn - rb)) ∙ ap (iv 0) d in
        let g : keep (keptb R p q) (iv 0 sb) ≡ keep (λ k. ltb rb k) (iv 0 sb) = keep_iv_cong (keptb R p q) (λ k. ltb rb k) 0 sb (λ y u v. kept_above N p q y (omega arith)) in
        rw (taken_iv, kept_list R L p q, g, ahead_listed p q (R.restart p) (restart_n R L p), ← keep_append, e, keep_above rb sn) f

    -- a lost message never flows
    pub lost_flow : (p q k : ℕ) → Lost R p q k → has k (flow R (start R) p q) ≡ false
    unfolding keptb has
    lost_flow p q k l =
        let a : has k (taken_by R p q (R.restart q)) ≡ false = rw taken_iv (has_iv_not k 0 (r_before R p q) (inr (omega (arith, l.after)))) in
        let b : ltb (r_before R p q) k ≡ true = lt-ltb (r_before R p q) k l.after in
        let d : ltb (r_cut R p q) k ≡ false = le-ltb (r_cut R p q) k l.by_cut in
        let e : keptb R p q k ≡ false = rw (b, d, l.unlogged) in
        let f : has k (ahead R p q (listed R p (R.restart p))) ≡ false =
        rw (ahead_listed p q (R.restart p) (restart_n R L p)) (has_keep k (λ k. ltb (r_before R p q) k) _ (has_iv_not k (s_before R p q) _ (inl l.before))) in
        rw (kept_list R L p q, has_append, a, has_append, has_keep_not k (keptb R p q) (iv 0 (s_before R p q)) e) f

    numbers : (p q : ℕ) (xs : List ℕ) → map (λ (r : ℕ × ℕ). r.0) (map (entry R p q) xs) ≡ xs
    numbers p q [] = refl
    numbers p q (x ∷ xs) = ap (λ r. x ∷ r) (numbers p q xs)

    pub same_numbers : (p q : ℕ) (xs ys : List ℕ) → map (entry R p q) xs ≡ map (entry R p q) ys → xs ≡ ys
    same_numbers p q xs ys e = sym (numbers p q xs) ∙ ap (map (λ (r : ℕ × ℕ). r.0)) e ∙ numbers p q ys

    -- an order from a line that loses a message of the channel does not give the channel's faultless record, complete
    -- or not
    pub same_no_loss_at : (s : State) → Inv R s → (p q : ℕ) → delivered R s p q ≡ faultless R p q → (k : ℕ) → Lost R p q k → ⊥
    unfolding delivered faultless
    same_no_loss_at s i p q e k l =
        let a : s.got p q ≡ iv 0 (rcvd R.trace p q (size R.trace)) = same_numbers p q _ _ e ∙ taken_iv p q (size R.trace) in
        let b : has k (s.got p q) ≡ false = false_or _ _ (rw has_append at (rw (← i.flows p q) at (lost_flow p q k l))) in
        let c : has k (s.got p q) ≡ true = rw a (has_iv k 0 (rcvd R.trace p q (size R.trace)) (omega (arith, l.after))
        (omega (arith, l.by_cut, rcvd_le R.trace p q R.cut (size R.trace) L.cut_le))) in
        clash c b

    pub same_no_loss : (s : State) → Inv R s → SameRecord R s → NoLoss R
    same_no_loss s i e p q k l = same_no_loss_at s i p q (e p q) k l
