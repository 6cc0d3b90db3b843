-- What can be computed is what is meant: a list names a message exactly if its test says so, and the tests of a run say
-- yes exactly if the run loses nothing, leaves the same record, is ready. From the laws of the run and the invariants
-- of Flow.
use mathlib.Core.Path.{◌≡◌, refl, sym, ◌∙◌, ap, subst}
use mathlib.Core.Logic.{◌⊎◌, inl, inr, ◌↔◌}
use mathlib.Core.Bool.{Bool, true, false, ◌&&◌, ◌||◌}
use mathlib.Core.List.{List, [], ◌∷◌, ◌++◌, map}
use Prim.Native.Nat.{ℕ, zero, suc, ◌≤◌, ◌<◌}
use native.Mathlib.Omega.{arith}
use lib.ListN.{length, length-append}
use lib.Dec.{leb, eqb}
use borrow.Author.Tests.{eqb-true, le-leb}
use Rattle.theory.specs.Lists.{iv, keep, no_one, all_below, sum}
use Rattle.theory.specs.Inner.Lists.{has}
use Rattle.theory.specs.Events.{send, size, kind, sends, sent, rcvd, send_of}
use Rattle.theory.specs.Line.{Run, lost, orphan, kept, orphan_phase, LossFree}
use Rattle.theory.specs.Replay.{State, resends, ready, taken_by}
use Rattle.theory.specs.Record.{delivered, faultless, SameRecord}
use Rattle.theory.specs.Inner.Record.{sent_again}
use Rattle.theory.specs.Answers.{Listed, gather, messages, orphans, kept_ones, lost_ones}
use Rattle.theory.specs.Inner.Tests.{same_pairs, names, loss_free, same_record}
use Rattle.theory.specs.Inner.Laws.{Laws}
use Rattle.theory.proofs.Base.{by, on, clash, le?, both, or_right, same_bool, eqb_self, has_keep_is, has_iv, no_one_at, no_one_all, find_has, all_true, all_at}
use Rattle.theory.proofs.Events.{sends_is, sends_of, send_of_lem, send_of_at}
use Rattle.theory.proofs.Classes.{in_run, lost_within, orphan_within, kept_within}
use Rattle.theory.proofs.Flow.{todo_at, resends_of}
use Rattle.theory.specs.Inner.Flow.{flow, Cursors, Inv}
use Rattle.theory.proofs.Loss.{taken_iv}
use Rattle.theory.proofs.Counters.{flow_keep}

-- ---- Lists of messages

pub gather_length : {A : Type 0} (f : ℕ → List A) (n : ℕ) → length (gather f n) ≡ sum n (λ i. length (f i))
unfolding gather sum
gather_length f zero = refl
gather_length f (suc n) = omega (arith, length-append (gather f n) (f n), gather_length f n)

abbrev item : (ℕ → ℕ → ℕ → ℕ) → ℕ → ℕ → ℕ → Listed
item ph a b j = record { from = a; to = b; number = j; phase = ph a b j }

or_is : (a b : Bool) → (a || b) ≡ true → (a ≡ true) ⊎ (b ≡ true)
or_is true b h = inl refl
or_is false b h = inr h

names_append : (p q k : ℕ) (xs ys : List Listed) → names p q k (xs ++ ys) ≡ (names p q k xs || names p q k ys)
unfolding names
names_append p q k [] ys = refl
names_append p q k (x ∷ xs) ys = by (eqb p x.from && (eqb q x.to && eqb k x.number))
    (λ u. rw u)
    (λ u. rw u (names_append p q k xs ys))

names_find : (p q k n : ℕ) (f : ℕ → List Listed) → names p q k (gather f n) ≡ true → (x : ℕ) × (x < n) × (names p q k (f x) ≡ true)
unfolding gather
names_find p q k zero f h = clash {b = false} (unfold names in h) refl
names_find p q k (suc n) f h = on (or_is (names p q k (gather f n)) (names p q k (f n)) (sym (names_append p q k (gather f n) (f n)) ∙ h))
    (λ u. let r = names_find p q k n f u in (r.0, omega (arith, r.1), r.2))
    (λ u. (n, omega arith, u))

names_put : (p q k n x : ℕ) (f : ℕ → List Listed) → x < n → names p q k (f x) ≡ true → names p q k (gather f n) ≡ true
unfolding gather
names_put p q k zero x f l h = absurd (omega arith)
names_put p q k (suc n) x f l h = names_append p q k (gather f n) (f n) ∙ on (le? n x)
    (λ u. let e : x ≡ n = omega arith in or_right (names p q k (gather f n)) (names p q k (f n)) (rw e at h))
    (λ u. rw (names_put p q k n x f u h))

names_map : (ph : ℕ → ℕ → ℕ → ℕ) (p q k a b : ℕ) (l : List ℕ) → names p q k (map (item ph a b) l) ≡ ((eqb p a && eqb q b) && has k l)
unfolding names has
names_map ph p q k a b [] = by (eqb p a && eqb q b) (λ u. rw u) (λ u. rw u)
names_map ph p q k a b (x ∷ xs) = by (eqb p a)
    (λ u. by (eqb q b) (λ v. rw (u, v, names_map ph p q k a b xs, u, v)) (λ v. rw (u, v, names_map ph p q k a b xs, u, v)))
    (λ u. rw (u, names_map ph p q k a b xs, u))

-- a list that names no message is empty
none_named : (ms : List Listed) → ((p q k : ℕ) → names p q k ms ≡ false) → ms ≡ []
unfolding names
none_named [] h = refl
none_named (m ∷ ms) h = clash {b = true} refl (rw (eqb_self m.from, eqb_self m.to, eqb_self m.number) at (h m.from m.to m.number))

-- ---- Records

pairs_same : (xs ys : List (ℕ × ℕ)) → same_pairs xs ys ≡ true → xs ≡ ys
unfolding same_pairs
pairs_same [] [] h = refl
pairs_same [] (y ∷ ys) h = clash {b = false} h refl
pairs_same (x ∷ xs) [] h = clash {b = false} h refl
pairs_same (x ∷ xs) (y ∷ ys) h =
    let a = both (eqb x.0 y.0) _ h in
    let b = both (eqb x.1 y.1) (same_pairs xs ys) a.1 in
    let i : x.0 ≡ y.0 = eqb-true x.0 y.0 a.0 in
    let j : x.1 ≡ y.1 = eqb-true x.1 y.1 b.0 in
    let e : x ≡ y = ap (λ u. (u, x.1)) i ∙ ap (λ u. (y.0, u)) j in
    ap (λ u. u ∷ xs) e ∙ ap (λ l. y ∷ l) (pairs_same xs ys b.1)

pairs_self : (xs : List (ℕ × ℕ)) → same_pairs xs xs ≡ true
unfolding same_pairs
pairs_self [] = refl
pairs_self (x ∷ xs) = rw (eqb_self x.0, eqb_self x.1) (pairs_self xs)

no_part : {A : Type 0} (xs ys : List A) → xs ++ ys ≡ [] → xs ≡ []
no_part [] ys h = refl
no_part (x ∷ xs) ys h = absurd (let z : ◌≡◌ {A = ℕ} 0 1 = cc in omega arith)

module _ (R : Run) where
  -- a list of messages names a message exactly if it passes the test, where only messages of the run do
  messages_name : (f : ℕ → ℕ → ℕ → Bool) (ph : ℕ → ℕ → ℕ → ℕ)
      → ((p q k : ℕ) → f p q k ≡ true → (p < R.trace.procs) × (q < R.trace.procs) × (0 < k) × (k ≤ sent R.trace p q (size R.trace)))
      → (p q k : ℕ) → names p q k (messages R f ph) ≡ f p q k
  unfolding messages
  messages_name f ph r p q k = same_bool _ _ there back
    where
      there : names p q k (gather (λ a. gather (λ b. map (item ph a b) (keep (f a b) (iv 0 (sent R.trace a b (size R.trace))))) R.trace.procs) R.trace.procs) ≡ true
          → f p q k ≡ true
      there h =
          let a = names_find p q k R.trace.procs _ h in
          let b = names_find p q k R.trace.procs _ a.2 in
          let l = iv 0 (sent R.trace a.0 b.0 (size R.trace)) in
          let c = both (eqb p a.0 && eqb q b.0) (has k (keep (f a.0 b.0) l)) (sym (names_map ph p q k a.0 b.0 (keep (f a.0 b.0) l)) ∙ b.2) in
          let e = both (eqb p a.0) (eqb q b.0) c.0 in
          let i : a.0 ≡ p = sym (eqb-true p a.0 e.0) in
          let j : b.0 ≡ q = sym (eqb-true q b.0 e.1) in
          let d = both (f a.0 b.0 k) (has k l) (sym (has_keep_is k (f a.0 b.0) l) ∙ c.1) in
          subst (λ y. f p y k ≡ true) j (subst (λ x. f x b.0 k ≡ true) i d.0)

      back : f p q k ≡ true
          → names p q k (gather (λ a. gather (λ b. map (item ph a b) (keep (f a b) (iv 0 (sent R.trace a b (size R.trace))))) R.trace.procs) R.trace.procs) ≡ true
      back h =
          let b = r p q k h in
          let l = iv 0 (sent R.trace p q (size R.trace)) in
          names_put p q k R.trace.procs p _ b.0 (names_put p q k R.trace.procs q _ b.1
          (names_map ph p q k p q (keep (f p q) l) ∙ rw (eqb_self p, eqb_self q, has_keep_is k (f p q) l, h)
          (has_iv k 0 (sent R.trace p q (size R.trace)) b.2 (omega (arith, b.3)))))

  empty : (s : State) (p q : ℕ) → s.got p q ≡ [] → taken_by R p q (size R.trace) ≡ [] → delivered R s p q ≡ faultless R p q
  unfolding delivered faultless
  empty s p q a b = rw (a, b)

  resends_is : (r z q e k : ℕ) → kind R.trace e ≡ send q → sent R.trace z q e ≡ k → orphan R z q k ≡ true → leb (orphan_phase R z q k) r ≡ true
      → resends R r z e (kind R.trace e) ≡ true
  unfolding resends
  resends_is r z q e k a b c d = rw (a, b, c, d)

  module _ (L : Laws R) where
    pub orphans_name : (p q k : ℕ) → names p q k (orphans R) ≡ orphan R p q k
    orphans_name = messages_name (orphan R) (orphan_phase R) (orphan_within R L)

    pub kept_name : (p q k : ℕ) → names p q k (kept_ones R) ≡ kept R p q k
    kept_name = messages_name (kept R) R.carries (kept_within R L)

    pub lost_name : (p q k : ℕ) → names p q k (lost_ones R) ≡ lost R p q k
    lost_name = messages_name (lost R) R.carries (lost_within R L)

    pub lost_none : (lost_ones R ≡ []) ↔ LossFree R
    unfolding names
    lost_none = (
      λ h p q k. sym (lost_name p q k) ∙ ap (names p q k) h,
      λ f. none_named (lost_ones R) (λ p q k. lost_name p q k ∙ f p q k),
    )

    -- ---- Loss

    pub loss_free_iff : (loss_free R ≡ true) ↔ LossFree R
    unfolding loss_free
    loss_free_iff = (
      λ h p q k. by (lost R p q k)
          (λ u. let b = lost_within R L p q k u in
          no_one_at (lost R p q) (iv 0 (sent R.trace p q (size R.trace))) k
          (all_at R.trace.procs _ (all_at R.trace.procs _ h p b.0) q b.1) (has_iv k 0 _ b.2 (omega (arith, b.3))))
          (λ u. u),
      λ h. all_true R.trace.procs _ (λ p a. all_true R.trace.procs _ (λ q b. no_one_all (lost R p q) _ (h p q))),
    )

    -- ---- Records

    pub same_record_iff : (s : State) → Inv R s → (same_record R s ≡ true) ↔ SameRecord R s
    unfolding same_record
    same_record_iff s i = (
      λ h p q. on (le? R.trace.procs p)
          (λ a. outside p q (λ b. omega arith))
          (λ a. on (le? R.trace.procs q)
          (λ b. outside p q (λ c. omega arith))
          (λ b. pairs_same (delivered R s p q) (faultless R p q) (all_at R.trace.procs _ (all_at R.trace.procs _ h p a) q b))),
      λ h. all_true R.trace.procs _ (λ p a. all_true R.trace.procs _ (λ q b. rw (h p q) (pairs_self (faultless R p q)))),
    )
      where
        -- a channel that is none of the run has empty records
        outside : (p q : ℕ) → ((p < R.trace.procs) × (q < R.trace.procs) → ⊥) → delivered R s p q ≡ faultless R p q
        outside p q h =
            let n = size R.trace in
            let a : sent R.trace p q n ≡ 0 = on (le? (sent R.trace p q n) 0) (λ u. omega arith)
            (λ u. absurd (h (in_run R L p q (sent R.trace p q n) u (omega arith)))) in
            let b : rcvd R.trace p q n ≡ 0 = omega (arith, L.causal p q n (omega arith)) in
            let c : flow R s p q ≡ [] = i.flows p q ∙ flow_keep R L p q ∙ rw a (unfold iv in unfold keep in refl) in
            let d : taken_by R p q n ≡ [] = taken_iv R p q n ∙ rw b (unfold iv in refl) in
            empty s p q (no_part (s.got p q) _ c) d

    -- ---- Ready

    orphan_send : (p q k : ℕ) → orphan R p q k ≡ true
        → let e = send_of R.trace p q k in (sends R.trace p q e ≡ true) × (sent R.trace p q e ≡ k)
    orphan_send p q k h =
        let b = orphan_within R L p q k h in
        let d = send_of_lem R.trace p q k (size R.trace) b.2 b.3 in
        let e : send_of R.trace p q k ≡ d.0 = ap (send_of R.trace p q) (sym d.4) ∙ send_of_at R.trace p q d.0 d.3 d.1 d.2 in
        rw e (d.3, d.4)

    sent_again_lem : (s : State) (p q k : ℕ) → has (send_of R.trace p q k) (s.todo p) ≡ true → sent_again R s p q k ≡ false
    unfolding sent_again
    sent_again_lem s p q k h = rw h

    pub ready_iff : (s : State) → Cursors R s → (r : ℕ)
        → (ready R s r ≡ true) ↔ ((p q k : ℕ) → orphan R p q k ≡ true → orphan_phase R p q k ≤ r → sent_again R s p q k ≡ true)
    unfolding ready
    ready_iff s c r = (there, back)
      where
        there : all_below R.trace.procs (λ z. no_one (λ e. resends R r z e (kind R.trace e)) (s.todo z)) ≡ true
            → (p q k : ℕ) → orphan R p q k ≡ true → orphan_phase R p q k ≤ r → sent_again R s p q k ≡ true
        there h p q k o l = unfold sent_again in by (has (send_of R.trace p q k) (s.todo p))
            (λ u. let e = send_of R.trace p q k in
            let d = orphan_send p q k o in
            let a = no_one_at (λ e. resends R r p e (kind R.trace e)) (s.todo p) e (all_at R.trace.procs _ h p (orphan_within R L p q k o).0) u in
            let j : leb (orphan_phase R p q k) r ≡ true = le-leb (orphan_phase R p q k) r l in
            clash (resends_is r p q e k (sends_is R.trace p q e d.0).1 d.1 o j) a)
            (λ u. rw u)

        back : ((p q k : ℕ) → orphan R p q k ≡ true → orphan_phase R p q k ≤ r → sent_again R s p q k ≡ true)
            → all_below R.trace.procs (λ z. no_one (λ e. resends R r z e (kind R.trace e)) (s.todo z)) ≡ true
        back f = all_true R.trace.procs _ (λ z a. by (no_one (λ e. resends R r z e (kind R.trace e)) (s.todo z)) (λ u. u)
            (λ u. let g = find_has (λ e. resends R r z e (kind R.trace e)) (s.todo z) u in
            let e = g.0 in
            let b = todo_at R s c z e g.1 in
            let d = resends_of R r z e (kind R.trace e) g.2 in
            let q = d.0 in
            let w = send_of_at R.trace z q e (sends_of R.trace z q e b.2 d.1) (omega (arith, b.0)) b.1 in
            clash (f z q (sent R.trace z q e) d.2 d.3) (sent_again_lem s z q (sent R.trace z q e) (rw w g.1))))
