-- The words of a record tell the record: they are those of the run without failure exactly if the record of every
-- channel is. From the invariants of the theory: a state has received at most as many messages as the trace, so that
-- numbers that are all there are all that there are.
use mathlib.Core.Path.{◌≡◌, refl, sym, ◌∙◌, ap}
use mathlib.Core.Logic.{◌↔◌}
use mathlib.Core.Bool.{true, false, ◌&&◌}
use mathlib.Core.List.{List, map}
use Prim.Native.Nat.{ℕ, zero, suc, ◌+◌, ◌-◌, ◌≤◌, ◌<◌}
use native.Mathlib.Omega.{arith}
use lib.ListN.{length, get_or, get_or-eq_default}
use lib.Seq.{ext_get_or}
use lib.Dec.{leb, ltb}
use borrow.Author.Tests.{leb-true, ltb-true, lt-ltb, le-leb}
use Rattle.words.specs.Area.{words_from}
use Rattle.words.proofs.Area.{length_words, get_d_words, words_ext}
use Rattle.trace.specs.declared.Event.TheVariants.{Save}
use Rattle.trace.specs.Trace.{Trace}
use Rattle.theory.specs.Lists.{iv}
use Rattle.theory.specs.Events.{Kind, send, recv, other, size, event_at, at, kind, rcvd, value}
use Rattle.theory.specs.Line.{Run, LossFree}
use Rattle.theory.specs.Replay.{State}
use Rattle.theory.specs.Record.{entry, delivered, faultless, SameRecord}
use Rattle.theory.specs.Order.{carried_out, run, complete}
use Rattle.theory.specs.Inner.Laws.{Laws}
use Rattle.theory.proofs.Base.{by, on, le?, both, length_iv}
use Rattle.theory.proofs.Events.{recvs_is, recvs_of, recv_of_lem, rcvd_le, rcvd_lt}
use Rattle.theory.specs.Inner.Flow.{Inv}
use Rattle.theory.proofs.Loss.{taken_iv, inv, same_numbers}
use Rattle.theory.proofs.Orders.{run_reaches, complete_iff, order_iff}
use Rattle.machine.specs.Taken.{taken_base, took_number, took_value, taken_number, taken_value}
use Rattle.orders.specs.Record.{record_word, record_at, received_number, received_value, faultless_at}
use Rattle.links.proofs.Matches.{get_d_iv, get_d_map, get_d_past}

-- ---- Words by a rule

pub words_cong : (f g : ℕ → ℕ) (n : ℕ) → ((k : ℕ) → k < n → f k ≡ g k) → words_from f 0 n ≡ words_from g 0 n
words_cong f g n h =
    words_ext g n (words_from f 0 n) (length_words f 0 n)
    (λ k l. get_d_words f 0 n k l ∙ ap f (let e : 0 + k ≡ k = omega arith in e) ∙ h k l)

words_at_lem : (f g : ℕ → ℕ) (n : ℕ) → words_from f 0 n ≡ words_from g 0 n → (k : ℕ) → k < n → f k ≡ g k
words_at_lem f g n h k l =
    let z : 0 + k ≡ k = omega arith in
    sym (get_d_words f 0 n k l ∙ ap f z) ∙ ap (λ x. get_or x k 0) h ∙ (get_d_words g 0 n k l ∙ ap g z)

-- ---- Numbers that are no event's

module _ (t : Trace) where
  pub no_event : (e : ℕ) → (ltb 0 e && leb e (size t)) ≡ false → kind t e ≡ other
  unfolding kind event_at
  no_event zero h = refl
  no_event (suc e) h =
      let l : size t ≤ e = on (le? (suc e) (size t))
      (λ u. absurd (let w : (ltb 0 (suc e) && leb (suc e) (size t)) ≡ true = rw (lt-ltb 0 (suc e) (omega arith), le-leb (suc e) (size t) u) in
      let z : ◌≡◌ {A = ℕ} 0 1 = cc in omega arith))
      (λ u. omega arith) in
      rw (get_or-eq_default t.events (Save t.procs) {n = e} l)

module _ (R : Run) (L : Laws R) (s : State) where
  abbrev t : Trace
  t = R.trace

  abbrev n : ℕ
  n = size R.trace

  -- every message that the trace receives has been received, in order
  abbrev All : Type 0
  All = (p q : ℕ) → s.got p q ≡ iv 0 (rcvd t p q n)

  same_all : SameRecord R s → All
  unfolding delivered faultless
  same_all h p q = same_numbers R L p q _ _ (h p q) ∙ taken_iv R p q n

  all_same : All → SameRecord R s
  unfolding delivered faultless
  all_same h p q = ap (map (entry R p q)) (h p q ∙ sym (taken_iv R p q n))

  -- a receive has a number of its own, and the trace receives at least as many
  recv_number : (p e : ℕ) → 0 < e → e ≤ n → kind t e ≡ recv p → (0 < rcvd t p (at t e) e) × (rcvd t p (at t e) e ≤ rcvd t p (at t e) n)
  recv_number p e h k c =
      (omega (arith, rcvd_lt t p (at t e) 0 e (recvs_of t p (at t e) e refl c) h), rcvd_le t p (at t e) e n k)

  all_slot : All → (e : ℕ) → 0 < e → e ≤ n → (c : Kind) → kind t e ≡ c
      → (took_number R s.got e c ≡ received_number t e c) × (took_value R s.got e c ≡ received_value t e c)
  unfolding value
  all_slot h e a b (send q) c = (refl, refl)
  all_slot h e a b other c = (refl, refl)
  all_slot h e a b (recv p) c =
      let k = rcvd t p (at t e) e in
      let m = rcvd t p (at t e) n in
      let f = value t p (at t e) in
      let r = recv_number p e a b c in
      let g : get_or (iv 0 m) (k - 1) 0 ≡ k = get_d_iv 0 m (k - 1) (omega (arith, r.0, r.1)) ∙ omega (arith, r.0) in
      rw (h p (at t e)) (g, get_d_map f (iv 0 m) (k - 1) (omega (arith, r.0, r.1, length_iv 0 m)) ∙ ap f g)

  all_words : All → (e : ℕ) → (taken_number R s e ≡ received_number t e (kind t e)) × (taken_value R s e ≡ received_value t e (kind t e))
  unfolding taken_number taken_value
  all_words h e = by (ltb 0 e && leb e n)
      (λ b. let c = both (ltb 0 e) (leb e n) b in rw b (all_slot h e (ltb-true 0 e c.0) (leb-true e n c.1) (kind t e) refl))
      (λ b. rw (b, no_event t e b) (refl, refl))

  all_record : All → (k : ℕ) → record_at R s k ≡ faultless_at t k
  unfolding record_at faultless_at record_word
  all_record h k = rw ((all_words h k).0, (all_words h (k - taken_base 0)).1, (all_words h (k - taken_base 1)).1)

  -- the other way: the words tell how many messages were received, and which
  module _ (few : n ≤ 2048) (i : Inv R s) (w : (k : ℕ) → k < taken_base 0 → record_at R s k ≡ faultless_at t k) where
    told_number : (e : ℕ) → 0 < e → e ≤ n → took_number R s.got e (kind t e) ≡ received_number t e (kind t e)
    unfolding record_at faultless_at record_word taken_number
    told_number e h k =
        let a : ltb e (taken_base 0) ≡ true = lt-ltb e (taken_base 0) (omega (arith, few)) in
        let b : (ltb 0 e && leb e n) ≡ true = rw (lt-ltb 0 e h, le-leb e n k) in
        rw (a, b) at (w e (omega (arith, few)))

    told_slot : (p q j : ℕ) → j < rcvd t p q n → get_or (s.got p q) j 0 ≡ suc j
    told_slot p q j h =
        let d = recv_of_lem t p q (suc j) n (omega arith) h in
        let e = d.0 in
        let r = recvs_is t p q e d.3 in
        let a : get_or (s.got p (at t e)) (rcvd t p (at t e) e - 1) 0 ≡ rcvd t p (at t e) e = rw r.1 at (told_number e d.1 d.2) in
        let b : get_or (s.got p q) (rcvd t p q e - 1) 0 ≡ rcvd t p q e = rw r.0 at a in
        let c : rcvd t p q e - 1 ≡ j = omega (arith, d.4) in
        rw (c, d.4) at b

    told_all : All
    told_all p q =
        let m = rcvd t p q n in
        let g = s.got p q in
        let most : length g ≤ m = omega (arith, i.taken p q) in
        let least : m ≤ length g = on (le? m (length g)) (λ l. l)
        (λ l. absurd (omega (arith, told_slot p q (length g) l, get_d_past g (length g) (omega arith)))) in
        let same : length g ≡ length (iv 0 m) = omega (arith, length_iv 0 m) in
        ext_get_or 0 g (iv 0 m) same (λ j l. told_slot p q j (omega arith) ∙ sym (get_d_iv 0 m j (omega arith) ∙ omega arith))

  -- the words of the record are those of the run without failure exactly if the record is the record of the run without
  -- failure
  pub record_iff : n ≤ 2048 → Inv R s → (words_from (record_at R s) 0 16384 ≡ words_from (faultless_at t) 0 16384) ↔ SameRecord R s
  record_iff few i = (
    λ h. all_same (told_all few i (λ k l. words_at_lem (record_at R s) (faultless_at t) 16384 h k (omega arith))),
    λ h. words_cong (record_at R s) (faultless_at t) 16384 (λ k l. all_record (same_all h) k),
  )

-- ---- Orders

module _ (R : Run) (L : Laws R) (few : size R.trace ≤ 2048) (order : List ℕ) (s : State) (h : run R order ≡ carried_out s) where
  order_record : (words_from (record_at R s) 0 16384 ≡ words_from (faultless_at R.trace) 0 16384) ↔ SameRecord R s
  order_record = record_iff R L s few (inv R L s (length order) (run_reaches R order s h))

  -- a complete order leaves the words of the run without failure exactly where the line loses no message
  pub complete_record : complete R s ≡ true → (words_from (record_at R s) 0 16384 ≡ words_from (faultless_at R.trace) 0 16384) ↔ LossFree R
  complete_record c =
      let a = order_record in
      let b = order_iff R L order s h ((complete_iff R s).0 c) in
      (λ w. b.0 (a.0 w), λ f. a.1 (b.1 f))
