-- The one view of the full table: what its words say of the trace (how many processes and events; of each event the
-- process, the kind, the peer, both halves of the value, the match and whether its message is logged), and that they
-- are in their ranges.
use mathlib.Core.Path.{◌≡◌, refl, sym, ap, ◌∙◌}
use mathlib.Core.Logic.{◌≢◌}
use mathlib.Core.Bool.{Bool, true, ◌&&◌, cond}
use mathlib.Core.List.{List, [], ◌∷◌, ◌++◌}
use Prim.Native.Nat.{ℕ, zero, suc, ◌+◌, ◌*◌, ◌%◌, ◌≤◌, ◌<◌}
use native.Mathlib.Omega.{arith}
use lib.ListN.{get_or}
use lib.Dec.{eqb}
use borrow.Author.Tests.{eqb-true, leb-true}
use Rattle.words.specs.Halves.{half}
use Rattle.words.proofs.Cases.{by_bool, and_left, and_right}
use Rattle.trace.specs.declared.Event.{Event}
use Rattle.trace.specs.declared.Event.TheVariants.{Send, Recv, Save, Done}
use Rattle.trace.specs.Trace.{Trace, value_of}
use Rattle.trace.specs.Fit.{event_fault, value_fits, all_fit, well_formed}
use Rattle.trace.specs.Table.{word_of, value_word}
use Rattle.trace.proofs.Places.{column_at, word_procs, word_count, word_event, word_value, word_at, word_peer, word_kind}
use Rattle.theory.specs.Events.{send, recv, other, size, event_at, at, kind, sends, recvs, finishes, sent, rcvd, send_of, recv_of, value}
use Rattle.theory.specs.Epochs.{epoch_at, phase_at, rule_of}
use Rattle.theory.proofs.Base.{place_le, place_there}
use Rattle.theory.proofs.Events.{sends_is, recvs_is, sends_of, recvs_of, send_of_at, partner}
use Rattle.theory.proofs.WellFormed.{Valid, valid}
use Rattle.columns.specs.Inner.Columns.{Flagged, Tabled}
use Rattle.columns.specs.Inner.Full.{procs_w, events_w, event_w, at_w, peer_w, kind_w, number_w, value_w, match_w, logged_w, kind_by}
use Rattle.columns.proofs.Bounds.{well_few, well_fit}
use Rattle.columns.proofs.Moves.{send_epoch, send_phase, recv_at, recv_epoch, recv_phase_other, Local, save_local, done_local, local_at, local_epoch_other, local_phase_other}

-- an event changes the epoch and the phase of its own process only
module _ (t : Trace) (x z : ℕ) (n : z ≢ at t (suc x)) where
  else_local : (a u : ℕ) → Local t x a u → (epoch_at t (rule_of t) z (suc x) ≡ epoch_at t (rule_of t) z x) × (phase_at t (rule_of t) z (suc x) ≡ phase_at t (rule_of t) z x)
  else_local a u v =
      let m : z ≢ a = λ i. n (i ∙ sym (local_at t x a u v)) in
      (local_epoch_other t x a u v z m, local_phase_other t x a u v z m)

  else_of : (v : Event) → event_at t (suc x) ≡ v → (epoch_at t (rule_of t) z (suc x) ≡ epoch_at t (rule_of t) z x) × (phase_at t (rule_of t) z (suc x) ≡ phase_at t (rule_of t) z x)
  else_of (Send a b v) h = (send_epoch t x a b v h z, send_phase t x a b v h z)
  else_of (Recv a b) h = (recv_epoch t x a b h z, recv_phase_other t x a b h z (λ i. n (i ∙ sym (recv_at t x a b h))))
  else_of (Save a) h = else_local a 1 (save_local t x a h)
  else_of (Done a) h = else_local a 0 (done_local t x a h)

  pub else_same : (epoch_at t (rule_of t) z (suc x) ≡ epoch_at t (rule_of t) z x) × (phase_at t (rule_of t) z (suc x) ≡ phase_at t (rule_of t) z x)
  else_same = else_of (event_at t (suc x)) refl

-- the values of fit events fit, and so does that of the checkpoint that stands for all others
fit_values : (n z : ℕ) (before es : List Event) → all_fit n before es ≡ true → (i : ℕ) → value_fits (get_or es i (Save z)) ≡ true
unfolding all_fit
fit_values n z before [] h i = refl
fit_values n z before (e ∷ es) h zero = and_left (value_fits e) _ (and_right (eqb (event_fault n before e) 0) _ h)
fit_values n z before (e ∷ es) h (suc i) =
    fit_values n z (before ++ e ∷ []) es (and_right (value_fits e) _ (and_right (eqb (event_fault n before e) 0) _ h)) i

fits_most : (e : Event) → value_fits e ≡ true → value_of e ≤ 18446744073709551615
fits_most (Send a b v) h = leb-true v 18446744073709551615 h
fits_most (Recv a b) h = omega arith
fits_most (Save a) h = omega arith
fits_most (Done a) h = omega arith

module _ (t : Trace) (w : well_formed t ≡ true) where
  -- a value of a well-formed trace has 64 bits: its halves tell it
  pub value_most : (e : ℕ) → value_of (event_at t e) ≤ 18446744073709551615
  unfolding event_at
  value_most zero = omega arith
  value_most (suc i) = fits_most (get_or t.events i (Save t.procs)) (fit_values t.procs t.procs [] t.events (well_fit t w) i)

  pub message_most : (p q k : ℕ) → value t p q k ≤ 18446744073709551615
  unfolding value
  message_most p q k = value_most (send_of t p q k)

-- the kind and the peer of a word that says a send, or a receive
kind_send_by : (k w q : ℕ) → send q ≡ kind_by k w → (k ≡ 1) × (w ≡ q)
unfolding kind_by
kind_send_by k w q i =
    by_bool (eqb k 1)
    (λ u. let j : send q ≡ send w = rw u at i in (eqb-true k 1 u, let y : q ≡ w = cc in sym y))
    (λ u. by_bool (eqb k 2)
    (λ v. let j : send q ≡ recv w = rw (u, v) at i in let z : ◌≡◌ {A = ℕ} 0 1 = cc in absurd (let y : ⊥ = omega arith in y))
    (λ v. let j : send q ≡ other = rw (u, v) at i in let z : ◌≡◌ {A = ℕ} 0 1 = cc in absurd (let y : ⊥ = omega arith in y)))

kind_recv_by : (k w p : ℕ) → recv p ≡ kind_by k w → (k ≡ 2) × (w ≡ p)
unfolding kind_by
kind_recv_by k w p i =
    by_bool (eqb k 1)
    (λ u. let j : recv p ≡ send w = rw u at i in let z : ◌≡◌ {A = ℕ} 0 1 = cc in absurd (let y : ⊥ = omega arith in y))
    (λ u. by_bool (eqb k 2)
    (λ v. let j : recv p ≡ recv w = rw (u, v) at i in (eqb-true k 2 v, let y : p ≡ w = cc in sym y))
    (λ v. let j : recv p ≡ other = rw (u, v) at i in let z : ◌≡◌ {A = ℕ} 0 1 = cc in absurd (let y : ⊥ = omega arith in y)))

module _ (t : Trace) (full : List ℕ) (G : Tabled t full) where
  pub fit : Valid t
  fit = valid t G.formed

  pub few : size t ≤ 2048
  few = well_few t G.formed

  pub procs_is : procs_w full ≡ t.procs
  procs_is = G.columns.words 0 (omega arith) ∙ word_procs t

  pub size_is : events_w full ≡ size t
  size_is = G.columns.words 1 (omega arith) ∙ word_count t

  pub procs_most : procs_w full ≤ 64
  procs_most = omega (arith, procs_is, fit.few)

  pub size_most : events_w full ≤ 2048
  size_most = omega (arith, size_is, few)

  -- ---- The words of an event

  pub word_is : (e : ℕ) → 0 < e → e ≤ size t → event_w full e ≡ word_of (event_at t e)
  unfolding event_at
  word_is zero a b = absurd (let z : ⊥ = omega arith in z)
  word_is (suc i) a b =
      G.columns.words (16 + suc i) (omega (arith, few)) ∙ word_event t i (16 + suc i) (omega arith) (omega (arith, few)) ∙ column_at word_of t.events i _ b

  value_is : (h e : ℕ) → h < 2 → 0 < e → e ≤ size t → value_w h full e ≡ half h (value_of (event_at t e))
  unfolding event_at
  value_is h zero l a b = absurd (let z : ⊥ = omega arith in z)
  value_is h (suc i) l a b =
      G.columns.words (2065 + 2049 * h + suc i) (omega (arith, few))
      ∙ word_value t h i (2065 + 2049 * h + suc i) l (omega arith) (λ z. omega (arith, few)) ∙ column_at (value_word h) t.events i _ b

  module _ (e : ℕ) (a : 0 < e) (b : e ≤ size t) where
    process_few : at t e < 64
    process_few = omega (arith, fit.process_lt e a b, fit.few)

    -- by the event: its kind, its process, its peer
    of_send : (z q v : ℕ) → event_at t e ≡ Send z q v → (kind_w full e ≡ 1) × (at_w full e ≡ z) × (peer_w full e ≡ q)
    unfolding at kind
    of_send z q v h =
        let w : event_w full e ≡ z % 64 + 64 * (q % 64) + 4096 * 1 = word_is e a b ∙ ap word_of h in
        let l : z < 64 = rw h at process_few in
        let k : kind t e ≡ send q = rw h in
        let r : q < 64 = omega (arith, fit.peer_lt e q a b k, fit.few) in
        (word_kind z q 1 _ l r w (omega arith), word_at z q 1 _ l r w, word_peer z q 1 _ l r w)

    of_recv : (z p : ℕ) → event_at t e ≡ Recv z p → (kind_w full e ≡ 2) × (at_w full e ≡ z) × (peer_w full e ≡ p)
    unfolding at kind
    of_recv z p h =
        let w : event_w full e ≡ z % 64 + 64 * (p % 64) + 4096 * 2 = word_is e a b ∙ ap word_of h in
        let l : z < 64 = rw h at process_few in
        let i : at t e ≡ z = rw h in
        let k : kind t e ≡ recv p = rw h in
        let x = partner t fit.causal p z e (recvs_of t p z e i k) a b in
        let r : p < 64 = omega (arith, (sends_is t p z x.0 x.3).0, fit.process_lt x.0 x.1 (omega (arith, x.2)), fit.few) in
        (word_kind z p 2 _ l r w (omega arith), word_at z p 2 _ l r w, word_peer z p 2 _ l r w)

    of_save : (z : ℕ) → event_at t e ≡ Save z → (kind_w full e ≡ 3) × (at_w full e ≡ z)
    unfolding at
    of_save z h =
        let w : event_w full e ≡ z % 64 + 64 * (0 % 64) + 4096 * 3 = word_is e a b ∙ ap word_of h ∙ omega arith in
        let l : z < 64 = rw h at process_few in
        (word_kind z 0 3 _ l (omega arith) w (omega arith), word_at z 0 3 _ l (omega arith) w)

    of_done : (z : ℕ) → event_at t e ≡ Done z → (kind_w full e ≡ 0) × (at_w full e ≡ z)
    unfolding at
    of_done z h =
        let w : event_w full e ≡ z % 64 + 64 * (0 % 64) + 4096 * 0 = word_is e a b ∙ ap word_of h ∙ omega arith in
        let l : z < 64 = rw h at process_few in
        (word_kind z 0 0 _ l (omega arith) w (omega arith), word_at z 0 0 _ l (omega arith) w)

    told : (v : Event) → event_at t e ≡ v → (at_w full e ≡ at t e) × (kind t e ≡ kind_by (kind_w full e) (peer_w full e))
    unfolding at kind kind_by
    told (Send z q v) h = let w = of_send z q v h in (w.1 ∙ rw h, rw (h, w.0, w.2))
    told (Recv z p) h = let w = of_recv z p h in (w.1 ∙ rw h, rw (h, w.0, w.2))
    told (Save z) h = let w = of_save z h in (w.1 ∙ rw h, rw (h, w.0))
    told (Done z) h = let w = of_done z h in (w.1 ∙ rw h, rw (h, w.0))

    pub at_is : at_w full e ≡ at t e
    at_is = (told (event_at t e) refl).0

    pub kind_is : kind t e ≡ kind_by (kind_w full e) (peer_w full e)
    kind_is = (told (event_at t e) refl).1

    ended : (z : ℕ) (v : Event) → event_at t e ≡ v → finishes t z e ≡ (eqb (kind_w full e) 0 && eqb z (at_w full e))
    unfolding finishes
    ended z (Send y q v) h = rw (h, (of_send y q v h).0)
    ended z (Recv y p) h = rw (h, (of_recv y p h).0)
    ended z (Save y) h = rw (h, (of_save y h).0)
    ended z (Done y) h = let w = of_done y h in rw (h, w.0, w.1)

    -- kind 0 is the end of a checkpoint, kind 1 a send, kind 2 a receive
    pub finishes_is : (z : ℕ) → finishes t z e ≡ (eqb (kind_w full e) 0 && eqb z (at_w full e))
    finishes_is z = ended z (event_at t e) refl

    pub kind_send : kind_w full e ≡ 1 → sends t (at_w full e) (peer_w full e) e ≡ true
    unfolding kind_by
    kind_send k = sends_of t (at_w full e) (peer_w full e) e (sym at_is) (kind_is ∙ rw k)

    pub kind_receive : kind_w full e ≡ 2 → recvs t (peer_w full e) (at_w full e) e ≡ true
    unfolding kind_by
    kind_receive k = recvs_of t (peer_w full e) (at_w full e) e (sym at_is) (kind_is ∙ rw k)

    pub send_kind : (p q : ℕ) → sends t p q e ≡ true → (kind_w full e ≡ 1) × (at_w full e ≡ p) × (peer_w full e ≡ q)
    send_kind p q s =
        let h = sends_is t p q e s in
        let k = kind_send_by (kind_w full e) (peer_w full e) q (sym h.1 ∙ kind_is) in
        (k.0, at_is ∙ h.0, k.1)

    pub receive_kind : (p q : ℕ) → recvs t p q e ≡ true → (kind_w full e ≡ 2) × (peer_w full e ≡ p) × (at_w full e ≡ q)
    receive_kind p q s =
        let h = recvs_is t p q e s in
        let k = kind_recv_by (kind_w full e) (peer_w full e) p (sym h.1 ∙ kind_is) in
        (k.0, k.1, at_is ∙ h.0)

  -- ---- What it is matched with

  module _ (p q e : ℕ) (s : sends t p q e ≡ true) (a : 0 < e) (b : e ≤ size t) where
    -- the processes of a send
    pub send_ends : (p < t.procs) × (q < t.procs)
    send_ends = let h = sends_is t p q e s in (omega (arith, fit.process_lt e a b, h.0), fit.peer_lt e q a b h.1)

    pub send_value : (h : ℕ) → h < 2 → value_w h full e ≡ half h (value t p q (sent t p q e))
    unfolding value
    send_value h l = value_is h e l a b ∙ ap (λ d. half h (value_of (event_at t d))) (sym (send_of_at t p q e s a b))

    -- the receive of its message, where there is one
    pub send_match_most : match_w full e ≤ size t
    unfolding recv_of
    send_match_most = omega (arith, G.columns.match_send p q e s a b, place_le (recvs t p q) (sent t p q e) (size t))

    pub send_match : 0 < match_w full e → (recvs t p q (match_w full e) ≡ true) × (rcvd t p q (match_w full e) ≡ sent t p q e)
    unfolding recv_of rcvd
    send_match h =
        let m = G.columns.match_send p q e s a b in
        let r = place_there (recvs t p q) (sent t p q e) (size t) (omega (arith, m)) in
        rw m (r.0, r.1)

    -- whether it is logged
    pub send_logged : (L : ℕ → ℕ → ℕ → Bool) → Flagged t L full → 0 < match_w full e → logged_w full (match_w full e) ≡ cond (L p q (sent t p q e)) 1 0
    send_logged L F h =
        let r = send_match h in
        F p q (match_w full e) r.0 h send_match_most ∙ ap (λ (k : ℕ). cond (L p q k) 1 0) r.1

  module _ (p q e : ℕ) (s : recvs t p q e ≡ true) (a : 0 < e) (b : e ≤ size t) where
    -- the send of the message that it takes, before it
    pub recv_match : (0 < match_w full e) × (match_w full e < e) × (sends t p q (match_w full e) ≡ true) × (sent t p q (match_w full e) ≡ rcvd t p q e)
    recv_match =
        let d = partner t fit.causal p q e s a b in
        let m : match_w full e ≡ d.0 = G.columns.match_recv p q e s a b ∙ ap (send_of t p q) (sym d.4) ∙ send_of_at t p q d.0 d.3 d.1 (omega (arith, d.2)) in
        rw m (d.1, d.2, d.3, d.4)

    pub recv_value : (h : ℕ) → h < 2 → value_w h full (match_w full e) ≡ half h (value t p q (rcvd t p q e))
    recv_value h l =
        let m = recv_match in
        send_value p q (match_w full e) m.2 m.0 (omega (arith, m.1)) h l ∙ ap (λ k. half h (value t p q k)) m.3

    pub recv_number : number_w full (match_w full e) ≡ rcvd t p q e
    recv_number =
        let m = recv_match in
        G.columns.number_send p q (match_w full e) m.2 m.0 (omega (arith, m.1)) ∙ m.3
