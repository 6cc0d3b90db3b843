-- Each kind of event fills its columns: `send_filled`, `recv_filled`, `local_filled`. From how counts, epochs and
-- phases move.
use Prim.Native.Nat.{ℕ, suc, ◌+◌, ◌*◌, ◌<◌, ◌≤◌}
use mathlib.Core.Path.{◌≡◌, sym, ap, subst, ◌∙◌}
use mathlib.Core.Logic.{◌≢◌}
use mathlib.Core.Bool.{Bool, true, false, cond}
use mathlib.Core.List.{List}
use native.Mathlib.Omega.{arith}
use lib.Dec.{leb}
use lib.ListN.{length, get_or, set, length-set}
use lib.Seq.{get_or-set_same, get_or-set_other}
use borrow.Author.Tests.{le-leb, lt-leb, lt-ltb}
use Rattle.words.proofs.Cases.{by_eq, by_lt, clash}
use Rattle.trace.specs.declared.Event.TheVariants.{Send, Recv}
use Rattle.trace.specs.Trace.{Trace}
use Rattle.theory.specs.Events.{send, recv, size, event_at, at, kind, sends, recvs, sent, rcvd, send_of, recv_of}
use Rattle.theory.specs.Epochs.{epoch_at, phase_at, logged_by, rule_of}
use Rattle.theory.proofs.Base.{place_zero}
use Rattle.theory.proofs.WellFormed.{Valid}
use Rattle.theory.proofs.Events.{sends_is, recvs_is, send_of_lem, send_of_at, recv_of_at, sent_more, sent_same, rcvd_more, rcvd_same}
use Rattle.columns.specs.Inner.Filling.{placed, stored, send_full, recv_logged, recv_phase, recv_full, local_full, Filled, Working}
use Rattle.columns.proofs.Moves.{Local, send_at, send_here, send_recvs, send_epoch, send_phase, recv_at, recv_here, recv_else, recv_sends, recv_epoch, recv_logged_lem, recv_phase_lem, local_at, local_sends, local_recvs, local_epoch, local_phase}
use Rattle.columns.proofs.Storing.{length_placed, placed_match, placed_other, placed_phase, placed_epoch, length_stored, stored_match, stored_other, stored_phase, stored_epoch, stored_number, Step, filled_step, by_event}

-- an event is on one channel only
pub one_channel : (t : Trace) (p q a b e : ℕ) → sends t p q e ≡ true → sends t a b e ≡ true → (p ≡ a) × (q ≡ b)
one_channel t p q a b e h g =
    let x = sends_is t p q e h in
    let y = sends_is t a b e g in
    let k : send q ≡ send b = sym x.1 ∙ y.1 in
    (sym x.0 ∙ y.0, cc)

pub one_receive : (t : Trace) (p q a b e : ℕ) → recvs t p q e ≡ true → recvs t a b e ≡ true → (p ≡ a) × (q ≡ b)
one_receive t p q a b e h g =
    let x = recvs_is t p q e h in
    let y = recvs_is t a b e g in
    let k : recv p ≡ recv a = sym x.1 ∙ y.1 in
    (cc, sym x.0 ∙ y.0)

pub no_message : (t : Trace) (p q : ℕ) → send_of t p q 0 ≡ 0
unfolding send_of
no_message t p q = place_zero _ (size t)

-- the send of a message that was sent by event x
pub record Found (t : Trace) (p q k x : ℕ) : Type 0 where
  pub later : 0 < send_of t p q k
  pub by : send_of t p q k ≤ x
  pub sends_it : sends t p q (send_of t p q k) ≡ true
  pub number : sent t p q (send_of t p q k) ≡ k

pub found : (t : Trace) (p q k x : ℕ) → 0 < k → k ≤ sent t p q x → x ≤ size t → Found t p q k x
found t p q k x pos le lx =
    let d = send_of_lem t p q k x pos le in
    let e : send_of t p q k ≡ d.0 = ap (send_of t p q) (sym d.4) ∙ send_of_at t p q d.0 d.3 d.1 (omega (arith, d.2)) in
    record { later = rw e d.1; by = rw e d.2; sends_it = rw e d.3; number = rw e d.4 }

module _ (t : Trace) (x : ℕ) (full : List ℕ) (F : Filled t x full) (A : Valid t) (few : size t ≤ 2048) (l : suc x ≤ size t) where
  -- an event that receives nothing
  module _ (n ep ph : ℕ) (none : (p q : ℕ) → recvs t p q (suc x) ≡ false) (num : (p q : ℕ) → sends t p q (suc x) ≡ true → n ≡ sent t p q (suc x))
      (eps : ep ≡ epoch_at t (rule_of t) (at t (suc x)) (suc x)) (phs : ph ≡ phase_at t (rule_of t) (at t (suc x)) (suc x)) where
    abbrev next : List ℕ
    next = stored full (suc x) n ep ph 0

    most : suc x ≤ 2048
    most = omega arith

    quiet : Step t x full next F few l
    quiet = record {
      whole = length_stored full (suc x) n ep ph 0 F.whole most;
      others = λ k h a b c. stored_other full (suc x) n ep ph 0 F.whole most k a b c (λ q. omega arith);
      number_send = λ p q s. stored_number full (suc x) n ep ph 0 F.whole most ∙ num p q s;
      epoch = stored_epoch full (suc x) n ep ph 0 F.whole most ∙ eps;
      phase = stored_phase full (suc x) n ep ph 0 F.whole most ∙ phs;
      match_send = λ p q e s a b. by_event t x full next F few l
          (λ e. sends t p q e ≡ true → 0 < e → get_or next (12310 + e) 0 ≡ cond (leb (sent t p q e) (rcvd t p q (suc x))) (recv_of t p q (sent t p q e)) 0) e b
          (λ h s a. stored_other full (suc x) n ep ph 0 F.whole most (12310 + e) (λ i. omega arith) (λ i. omega arith) (λ i. omega arith) (λ i. omega arith)
          ∙ rw (rcvd_same t x p q (none p q)) (F.match_send p q e s a h))
          (λ s a. stored_match full (suc x) n ep ph 0 F.whole most
          ∙ rw (lt-leb (sent t p q (suc x)) (rcvd t p q (suc x)) (omega (arith, sent_more t x p q s, rcvd_same t x p q (none p q), A.causal p q x (omega arith)))))
          s a;
      match_recv = λ p q e s a b. by_event t x full next F few l
          (λ e. recvs t p q e ≡ true → 0 < e → get_or next (12310 + e) 0 ≡ send_of t p q (rcvd t p q e)) e b
          (λ h s a. stored_other full (suc x) n ep ph 0 F.whole most (12310 + e) (λ i. omega arith) (λ i. omega arith) (λ i. omega arith) (λ i. omega arith)
          ∙ F.match_recv p q e s a h)
          (λ s a. clash s (none p q))
          s a;
      flags = λ e h. stored_other full (suc x) n ep ph 0 F.whole most (6163 + e) (λ i. omega arith) (λ i. omega arith) (λ i. omega arith) (λ i. omega arith);
      flag = λ p q s. clash s (none p q);
    }

  module _ (work : List ℕ) (W : Working t x work) where
    -- the channel's latest send has the number of messages sent so far
    pub latest_number : (a b : ℕ) → get_or full (6163 + send_of t a b (sent t a b x)) 0 ≡ sent t a b x
    latest_number a b =
        by_eq (sent t a b x) 0
        (λ z. rw (z, no_message t a b) F.number_none)
        (λ n. let f = found t a b (sent t a b x) x (omega arith) (omega arith) (omega arith) in
        F.number_send a b (send_of t a b (sent t a b x)) f.sends_it f.later f.by ∙ f.number)

    pub send_filled : (a b v : ℕ) → event_at t (suc x) ≡ Send a b v → a < 64 → b < 64 → Filled t (suc x) (send_full full work (suc x) a b)
    send_filled a b v e la lb =
        let d = W.latest a b la lb in
        filled_step t x full (send_full full work (suc x) a b) F few l
        (quiet _ _ _ (send_recvs t x a b v e)
        (λ p q s. let c = one_channel t p q a b (suc x) s (send_here t x a b v e) in
        rw (c.0, c.1, d) (omega (arith, latest_number a b, sent_more t x a b (send_here t x a b v e))))
        (rw (send_at t x a b v e) (W.epochs a la ∙ sym (send_epoch t x a b v e a)))
        (rw (send_at t x a b v e) (W.phases a la ∙ sym (send_phase t x a b v e a))))

    pub local_filled : (a u : ℕ) → Local t x a u → a < 64 → Filled t (suc x) (local_full full work (suc x) a u)
    local_filled a u v la =
        filled_step t x full (local_full full work (suc x) a u) F few l
        (quiet _ _ _ (local_recvs t x a u v)
        (λ p q s. clash s (local_sends t x a u v p q))
        (rw (local_at t x a u v) (omega (arith, W.epochs a la, local_epoch t x a u v)))
        (rw (local_at t x a u v) (omega (arith, W.phases a la, local_phase t x a u v))))

    -- a receive: its message is sent by d, and d is matched with it
    module _ (a b : ℕ) (e : event_at t (suc x) ≡ Recv a b) (la : a < 64) (lb : b < 64) where
      abbrev here : recvs t b a (suc x) ≡ true
      here = recv_here t x a b e

      -- the oldest send in transit sends the message that is received
      waiting : rcvd t b a x < sent t b a x
      waiting = omega (arith, rcvd_more t x b a here, sent_same t x b a (recv_sends t x a b e b a), A.causal b a (suc x) l)

      pub oldest_is : get_or work (192 + (64 * b + a)) 0 ≡ send_of t b a (rcvd t b a (suc x))
      oldest_is = W.oldest b a lb la ∙ rw (lt-ltb (rcvd t b a x) (sent t b a x) waiting) (ap (send_of t b a) (sym (rcvd_more t x b a here)))

      abbrev d : ℕ
      d = send_of t b a (rcvd t b a (suc x))

      pub oldest_found : Found t b a (rcvd t b a (suc x)) x
      oldest_found = found t b a (rcvd t b a (suc x)) x (omega (arith, rcvd_more t x b a here)) (omega (arith, rcvd_more t x b a here, waiting)) (omega arith)

      sender_is : at t d ≡ b
      sender_is = (sends_is t b a d oldest_found.sends_it).0

      sent_epoch : get_or full (8212 + d) 0 ≡ epoch_at t (rule_of t) b d
      sent_epoch = F.epoch d oldest_found.later oldest_found.by ∙ ap (λ (z : ℕ). epoch_at t (rule_of t) z d) sender_is

      logged_is : recv_logged full work d a ≡ logged_by t (rule_of t) b a (rcvd t b a (suc x))
      logged_is =
          let f = oldest_found in
          rw (sent_epoch, W.epochs a la) (sym (recv_logged_lem t x a b e l d f.sends_it f.later (omega (arith, f.by)) f.number))

      pub phase_is : recv_phase full work d a ≡ phase_at t (rule_of t) a (suc x)
      phase_is =
          let f = oldest_found in
          let ph : get_or full (10261 + d) 0 ≡ phase_at t (rule_of t) b d = F.phase d f.later f.by ∙ ap (λ (z : ℕ). phase_at t (rule_of t) z d) sender_is in
          rw (sent_epoch, ph, W.epochs a la, W.phases a la) (sym (recv_phase_lem t x a b e l d f.sends_it f.later (omega (arith, f.by)) f.number A))

      -- another send is matched after this event as it was before
      unmatched_here : (i : ℕ) → sends t b a i ≡ true → 0 < i → i ≤ x → i ≢ d → leb (sent t b a i) (rcvd t b a x) ≡ leb (sent t b a i) (rcvd t b a (suc x))
      unmatched_here i s u h j =
          let r = rcvd_more t x b a here in
          let ne : sent t b a i ≢ rcvd t b a (suc x) = (λ m. j (sym (send_of_at t b a i s u (omega arith)) ∙ ap (send_of t b a) m)) in
          by_lt (rcvd t b a x) (sent t b a i)
          (λ m. rw (lt-leb (sent t b a i) (rcvd t b a x) m, lt-leb (sent t b a i) (rcvd t b a (suc x)) (omega (arith, r, ne))))
          (λ m. rw (le-leb (sent t b a i) (rcvd t b a x) m, le-leb (sent t b a i) (rcvd t b a (suc x)) (omega (arith, r))))

      unmatched : (p q i : ℕ) → sends t p q i ≡ true → 0 < i → i ≤ x → i ≢ d → leb (sent t p q i) (rcvd t p q x) ≡ leb (sent t p q i) (rcvd t p q (suc x))
      unmatched p q i s u h j =
          by_eq p b
          (λ g. by_eq q a
          (λ k. rw (g, k) (unmatched_here i (rw (g, k) at s) u h j))
          (λ k. rw (rcvd_same t x p q (recv_else t x a b e p q (λ w. k w.1)))))
          (λ g. rw (rcvd_same t x p q (recv_else t x a b e p q (λ w. g w.0))))

      -- a receive is no send
      not_sent : (p q i : ℕ) → recvs t p q i ≡ true → i ≢ d
      not_sent p q i s j =
          let c : kind t d ≡ recv p = ap (kind t) (sym j) ∙ (recvs_is t p q i s).1 in
          let k : send a ≡ recv p = sym (sends_is t b a d oldest_found.sends_it).1 ∙ c in
          let z : ◌≡◌ {A = ℕ} 0 1 = cc in omega arith

      recv_step_lem : Step t x full (recv_full full work (suc x) d a) F few l
      recv_step_lem =
          let f = oldest_found in
          let ep = get_or work a 0 in
          let ph = recv_phase full work d a in
          let mid = placed full (suc x) ep ph d in
          let few' : suc x ≤ 2048 = omega arith in
          let later : d < suc x = omega (arith, f.by) in
          let lm : length mid ≡ 14359 = length_placed full (suc x) ep ph d F.whole few' in
          let top = set mid (12310 + d) (suc x) in
          let lt : length top ≡ 14359 = simp length-set F.whole in
          let flag : ℕ = cond (recv_logged full work d a) 1 0 in
          let off : (k : ℕ) → k ≢ 12310 + d → k ≢ 6163 + suc x → get_or (recv_full full work (suc x) d a) k 0 ≡ get_or mid k 0 =
          λ k z y. get_or-set_other top (6163 + suc x) k flag 0 y ∙ get_or-set_other mid (12310 + d) k (suc x) 0 z in
          let two : (k : ℕ) → k ≢ 12310 + d → k ≢ 6163 + suc x → k ≢ 8212 + suc x → k ≢ 10261 + suc x → k ≢ 12310 + suc x
          → get_or (recv_full full work (suc x) d a) k 0 ≡ get_or full k 0 =
          λ k z y b c g. off k z y ∙ placed_other full (suc x) ep ph d F.whole few' k b c g in
          record {
            whole = simp length-set F.whole;
            others = λ k h a b c. two k (λ q. omega arith) a b c (λ q. omega arith);
            number_send = λ p q s. clash s (recv_sends t x a b e p q);
            epoch = off (8212 + suc x) (λ i. omega arith) (λ i. omega arith) ∙ placed_epoch full (suc x) ep ph d F.whole few'
                ∙ rw (recv_at t x a b e) (W.epochs a la ∙ sym (recv_epoch t x a b e a));
            phase = off (10261 + suc x) (λ i. omega arith) (λ i. omega arith) ∙ placed_phase full (suc x) ep ph d F.whole few' ∙ rw (recv_at t x a b e) phase_is;
            match_send = λ p q i s u h. by_eq i d
                (λ j. let c = one_channel t p q b a i s (subst (λ (y : ℕ). sends t b a y ≡ true) (sym j) f.sends_it) in
                let k : sent t b a d ≡ rcvd t b a (suc x) = f.number in
                rw (c.0, c.1, j, k, le-leb (rcvd t b a (suc x)) (rcvd t b a (suc x)) (omega arith))
                (get_or-set_other top (6163 + suc x) (12310 + d) flag 0 (λ z. omega arith) ∙ get_or-set_same mid (12310 + d) (suc x) 0 (omega arith) ∙ sym (recv_of_at t b a (suc x) here (omega arith) l)))
                (λ j. let ne : i ≢ suc x = (λ z. clash (subst (λ (y : ℕ). sends t p q y ≡ true) z s) (recv_sends t x a b e p q)) in
                two (12310 + i) (λ z. j (omega arith)) (λ z. omega arith) (λ z. omega arith) (λ z. omega arith) (λ z. ne (omega arith))
                ∙ F.match_send p q i s u (omega (arith, ne)) ∙ ap (λ (c : Bool). cond c (recv_of t p q (sent t p q i)) 0) (unmatched p q i s u (omega (arith, ne)) j));
            match_recv = λ p q i s u h. by_eq i (suc x)
                (λ j. let c = one_receive t p q b a i s (subst (λ (y : ℕ). recvs t b a y ≡ true) (sym j) here) in
                rw (c.0, c.1, j) (off (12310 + suc x) (λ z. omega arith) (λ z. omega arith) ∙ placed_match full (suc x) ep ph d F.whole few'))
                (λ j. two (12310 + i) (λ z. not_sent p q i s (omega arith)) (λ z. omega arith) (λ z. omega arith) (λ z. omega arith) (λ z. j (omega arith))
                ∙ F.match_recv p q i s u (omega arith));
            flags = λ i h. two (6163 + i) (λ z. omega arith) (λ z. omega arith) (λ z. omega arith) (λ z. omega arith) (λ z. omega arith);
            flag = λ p q s. let c = one_receive t p q b a (suc x) s here in
                rw (c.0, c.1) (get_or-set_same top (6163 + suc x) flag 0 (omega (arith, lt)) ∙ ap (λ (c : Bool). cond c 1 0) logged_is);
          }

      pub recv_filled : Filled t (suc x) (recv_full full work (suc x) d a)
      recv_filled = filled_step t x full (recv_full full work (suc x) d a) F few l recv_step_lem
