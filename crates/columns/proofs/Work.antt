-- Each kind of event keeps the working words right: `send_working`, `recv_working`, `local_working`. From how counts,
-- epochs and phases move.
use Prim.Native.Nat.{ℕ, suc, ◌+◌, ◌-◌, ◌*◌, ◌<◌, ◌≤◌}
use mathlib.Core.Path.{◌≡◌, sym, ap, subst, ◌∙◌}
use mathlib.Core.Logic.{◌≢◌}
use mathlib.Core.Bool.{true, cond}
use mathlib.Core.List.{List}
use native.Mathlib.Omega.{arith}
use lib.Dec.{ltb}
use lib.ListN.{length, get_or, set, length-set}
use lib.Seq.{get_or-set_same, get_or-set_other}
use borrow.Author.Tests.{le-ltb, lt-ltb, eq-eqb, ne_eqb}
use Rattle.words.proofs.Cases.{by_eq, by_lt, clash}
use Rattle.trace.specs.declared.Event.TheVariants.{Send, Recv}
use Rattle.trace.specs.Trace.{Trace}
use Rattle.theory.specs.Events.{size, event_at, sends, sent, rcvd, send_of}
use Rattle.theory.proofs.WellFormed.{Valid}
use Rattle.theory.proofs.Events.{send_of_at, sent_le, sent_more, sent_same, rcvd_same}
use Rattle.columns.specs.Inner.Filling.{or_new, send_work, recv_phase, recv_work, local_work, Filled, Working}
use Rattle.columns.proofs.Moves.{Local, send_here, send_else, send_recvs, send_epoch, send_phase, send_finished, recv_else, recv_sends, recv_epoch, recv_phase_other, recv_finished, local_sends, local_recvs, local_epoch, local_epoch_other, local_phase, local_phase_other, local_finished, local_finished_other}
use Rattle.columns.proofs.Columns.{one_channel, no_message, found, oldest_found, phase_is}

-- this channel, or another
pub by_channel {ℓ} : {B : Type ℓ} (p q a b : ℕ) → (p ≡ a → q ≡ b → B) → (((p ≡ a) × (q ≡ b) → ⊥) → B) → B
by_channel p q a b f g = by_eq p a (λ e. by_eq q b (λ h. f e h) (λ n. g (λ w. n w.1))) (λ n. g (λ w. n w.0))

module _ (t : Trace) (x : ℕ) (work : List ℕ) (W : Working t x work) (A : Valid t) (few : size t ≤ 2048) (l : suc x ≤ size t) where
  -- ---- a send of a to b
  module _ (a b v : ℕ) (e : event_at t (suc x) ≡ Send a b v) (la : a < 64) (lb : b < 64) where
    abbrev here : sends t a b (suc x) ≡ true
    here = send_here t x a b v e

    abbrev d : ℕ
    d = get_or work (4288 + (64 * a + b)) 0

    d_is : d ≡ send_of t a b (sent t a b x)
    d_is = W.latest a b la lb

    -- the new send is that of the next number
    new_is : send_of t a b (suc (sent t a b x)) ≡ suc x
    new_is = ap (send_of t a b) (sym (sent_more t x a b here)) ∙ send_of_at t a b (suc x) here (omega arith) l

    -- the latest send is no send on another channel, and no later one
    d_most : d ≤ x
    d_most = rw d_is
        (by_eq (sent t a b x) 0
        (λ z. rw (z, no_message t a b) (omega arith))
        (λ n. (found t a b (sent t a b x) x (omega arith) (omega arith) (omega arith)).by))

    d_else : (p q i : ℕ) → sends t p q i ≡ true → 0 < i → ((p ≡ a) × (q ≡ b) → ⊥) → i ≢ d
    d_else p q i s u n j =
        by_eq (sent t a b x) 0
        (λ z. let y : i ≡ 0 = j ∙ d_is ∙ ap (send_of t a b) z ∙ no_message t a b in omega arith)
        (λ m. let f = found t a b (sent t a b x) x (omega arith) (omega arith) (omega arith) in
        n (one_channel t p q a b i s (subst (λ (y : ℕ). sends t a b y ≡ true) (sym (j ∙ d_is)) f.sends_it)))

    -- of the sends on this channel, it is the one with the last number
    d_last : (i : ℕ) → sends t a b i ≡ true → 0 < i → i ≤ x → sent t a b i ≡ sent t a b x → i ≡ d
    d_last i s u h m = sym (send_of_at t a b i s u (omega arith)) ∙ ap (send_of t a b) m ∙ sym d_is

    d_number : (i : ℕ) → sends t a b i ≡ true → 0 < i → i ≡ d → sent t a b i ≡ sent t a b x
    d_number i s u j =
        by_eq (sent t a b x) 0
        (λ z. let y : i ≡ 0 = j ∙ d_is ∙ ap (send_of t a b) z ∙ no_message t a b in absurd (let w : ⊥ = omega arith in w))
        (λ m. let f = found t a b (sent t a b x) x (omega arith) (omega arith) (omega arith) in ap (sent t a b) (j ∙ d_is) ∙ f.number)

    w₁ : List ℕ
    w₁ = set work (8384 + d) (suc x)

    w₂ : List ℕ
    w₂ = set w₁ (4288 + (64 * a + b)) (suc x)

    l₁ : length w₁ ≡ 10433
    unfolding w₁
    l₁ = simp length-set W.whole

    l₂ : length w₂ ≡ 10433
    unfolding w₁ w₂
    l₂ = simp length-set W.whole

    abbrev old : ℕ
    old = get_or work (192 + (64 * a + b)) 0

    abbrev next : List ℕ
    next = send_work work (suc x) a b

    -- the words that the send leaves
    others : (k : ℕ) → k ≢ 8384 + d → k ≢ 4288 + (64 * a + b) → k ≢ 192 + (64 * a + b) → get_or next k 0 ≡ get_or work k 0
    unfolding w₁ w₂
    others k n₁ n₂ n₃ =
        get_or-set_other w₂ (192 + (64 * a + b)) k (or_new old (suc x)) 0 n₃ ∙ get_or-set_other w₁ (4288 + (64 * a + b)) k (suc x) 0 n₂
        ∙ get_or-set_other work (8384 + d) k (suc x) 0 n₁

    at_oldest : get_or next (192 + (64 * a + b)) 0 ≡ or_new old (suc x)
    unfolding w₁ w₂
    at_oldest = get_or-set_same w₂ (192 + (64 * a + b)) (or_new old (suc x)) 0 (omega (arith, l₂))

    at_latest : get_or next (4288 + (64 * a + b)) 0 ≡ suc x
    unfolding w₁ w₂
    at_latest =
        get_or-set_other w₂ (192 + (64 * a + b)) (4288 + (64 * a + b)) (or_new old (suc x)) 0 (λ q. omega arith)
        ∙ get_or-set_same w₁ (4288 + (64 * a + b)) (suc x) 0 (omega (arith, l₁))

    at_new : get_or next (8384 + suc x) 0 ≡ 0
    at_new = others (8384 + suc x) (λ q. omega (arith, d_most)) (λ q. omega arith) (λ q. omega arith) ∙ W.fresh (suc x) (omega arith)

    at_d : get_or next (8384 + d) 0 ≡ suc x
    unfolding w₁ w₂
    at_d =
        get_or-set_other w₂ (192 + (64 * a + b)) (8384 + d) (or_new old (suc x)) 0 (λ q. omega arith)
        ∙ get_or-set_other w₁ (4288 + (64 * a + b)) (8384 + d) (suc x) 0 (λ q. omega arith)
        ∙ get_or-set_same work (8384 + d) (suc x) 0 (omega (arith, W.whole, d_most))

    -- the oldest send in transit is the one that was, or the new one where none was
    oldest_new : or_new old (suc x) ≡ send_of t a b (suc (rcvd t a b x))
    oldest_new =
        by_lt (rcvd t a b x) (sent t a b x)
        (λ h. let o : old ≡ send_of t a b (suc (rcvd t a b x)) = W.oldest a b la lb ∙ rw (lt-ltb (rcvd t a b x) (sent t a b x) h) in
        let f = found t a b (suc (rcvd t a b x)) x (omega arith) h (omega arith) in
        rw (ne_eqb old 0 (λ z. omega (arith, f.later, o, z))) o)
        (λ h. let o : old ≡ 0 = W.oldest a b la lb ∙ rw (le-ltb (rcvd t a b x) (sent t a b x) h) in
        let s : rcvd t a b x ≡ sent t a b x = omega (arith, A.causal a b x (omega arith)) in
        rw (eq-eqb old 0 o) (sym (ap (λ (k : ℕ). send_of t a b (suc k)) s ∙ new_is)))

    -- of each send on this channel, the next one
    next_here : (i : ℕ) → sends t a b i ≡ true → 0 < i → i ≤ x
        → get_or next (8384 + i) 0 ≡ cond (ltb (sent t a b i) (sent t a b (suc x))) (send_of t a b (suc (sent t a b i))) 0
    next_here i s u h =
        let m = sent_more t x a b here in
        by_eq (sent t a b i) (sent t a b x)
        (λ g. let z : cond (ltb (sent t a b i) (sent t a b (suc x))) (send_of t a b (suc (sent t a b i))) 0 ≡ suc x =
        rw (g, lt-ltb (sent t a b x) (sent t a b (suc x)) (omega (arith, m))) new_is in
        ap (λ (y : ℕ). get_or next (8384 + y) 0) (d_last i s u h g) ∙ at_d ∙ sym z)
        (λ g. let k : sent t a b i < sent t a b x = omega (arith, g, sent_le t a b i x h) in
        others (8384 + i) (λ y. g (d_number i s u (omega arith))) (λ y. omega arith) (λ y. omega arith)
        ∙ W.next a b i s u h ∙ rw (lt-ltb (sent t a b i) (sent t a b x) k, lt-ltb (sent t a b i) (sent t a b (suc x)) (omega (arith, m))))

    pub send_working : Working t (suc x) next
    send_working =
        let r = rcvd_same t x a b (send_recvs t x a b v e a b) in
        let m = sent_more t x a b here in
        record {
          whole = simp length-set W.whole;
          epochs = λ z lz. others z (λ q. omega arith) (λ q. omega arith) (λ q. omega arith) ∙ W.epochs z lz ∙ sym (send_epoch t x a b v e z);
          phases = λ z lz. others (64 + z) (λ q. omega arith) (λ q. omega arith) (λ q. omega arith) ∙ W.phases z lz ∙ sym (send_phase t x a b v e z);
          finished = λ z lz. others (128 + z) (λ q. omega arith) (λ q. omega arith) (λ q. omega arith) ∙ W.finished z lz ∙ sym (send_finished t x a b v e z);
          oldest = λ p q lp lq. by_channel p q a b
              (λ g h. rw (g, h, at_oldest, oldest_new, r, lt-ltb (rcvd t a b x) (sent t a b (suc x)) (omega (arith, m, A.causal a b x (omega arith)))))
              (λ n. others (192 + (64 * p + q)) (λ i. omega arith) (λ i. omega arith) (λ i. n (omega arith, omega arith))
              ∙ W.oldest p q lp lq ∙ rw (sent_same t x p q (send_else t x a b v e p q n), rcvd_same t x p q (send_recvs t x a b v e p q)));
          latest = λ p q lp lq. by_channel p q a b
              (λ g h. rw (g, h, at_latest, m) (sym new_is))
              (λ n. others (4288 + (64 * p + q)) (λ i. omega arith) (λ i. n (omega arith, omega arith)) (λ i. omega arith)
              ∙ W.latest p q lp lq ∙ rw (sent_same t x p q (send_else t x a b v e p q n)));
          next = λ p q i s u h. by_eq i (suc x)
              (λ j. rw (j, at_new, le-ltb (sent t p q (suc x)) (sent t p q (suc x)) (omega arith)))
              (λ j. by_channel p q a b
              (λ g k. rw (g, k) (next_here i (rw (g, k) at s) u (omega (arith, j))))
              (λ n. others (8384 + i) (λ y. d_else p q i s u n (omega arith)) (λ y. omega arith) (λ y. omega arith)
              ∙ W.next p q i s u (omega (arith, j)) ∙ rw (sent_same t x p q (send_else t x a b v e p q n))));
          fresh = λ i h. others (8384 + i) (λ y. omega (arith, d_most)) (λ y. omega arith) (λ y. omega arith) ∙ W.fresh i (omega arith);
        }

  -- ---- a receive of a from b, whose message is sent by d
  module _ (full : List ℕ) (F : Filled t x full) (a b : ℕ) (e : event_at t (suc x) ≡ Recv a b) (la : a < 64) (lb : b < 64) where
    abbrev taken : ℕ
    taken = send_of t b a (rcvd t b a (suc x))

    abbrev left : List ℕ
    left = recv_work full work taken a b

    r₁ : List ℕ
    r₁ = set work (64 + a) (recv_phase full work taken a)

    r₁_whole : length r₁ ≡ 10433
    unfolding r₁
    r₁_whole = simp length-set W.whole

    kept : (k : ℕ) → k ≢ 64 + a → k ≢ 192 + (64 * b + a) → get_or left k 0 ≡ get_or work k 0
    unfolding r₁
    kept k n m = get_or-set_other r₁ (192 + (64 * b + a)) k (get_or work (8384 + taken) 0) 0 m ∙ get_or-set_other work (64 + a) k (recv_phase full work taken a) 0 n

    at_phase : get_or left (64 + a) 0 ≡ recv_phase full work taken a
    unfolding r₁
    at_phase =
        get_or-set_other r₁ (192 + (64 * b + a)) (64 + a) (get_or work (8384 + taken) 0) 0 (λ q. omega arith)
        ∙ get_or-set_same work (64 + a) (recv_phase full work taken a) 0 (omega (arith, W.whole))

    at_channel : get_or left (192 + (64 * b + a)) 0 ≡ get_or work (8384 + taken) 0
    unfolding r₁
    at_channel = get_or-set_same r₁ (192 + (64 * b + a)) (get_or work (8384 + taken) 0) 0 (omega (arith, r₁_whole))

    pub recv_working : Working t (suc x) left
    recv_working =
        let f = oldest_found t x full F A few l work W a b e la lb in
        let none = recv_sends t x a b e in
        record {
          whole = simp length-set W.whole;
          epochs = λ z lz. kept z (λ q. omega arith) (λ q. omega arith) ∙ W.epochs z lz ∙ sym (recv_epoch t x a b e z);
          phases = λ z lz. by_eq z a
              (λ g. rw (g, at_phase) (phase_is t x full F A few l work W a b e la lb))
              (λ n. kept (64 + z) (λ q. n (omega arith)) (λ q. omega arith) ∙ W.phases z lz ∙ sym (recv_phase_other t x a b e z n));
          finished = λ z lz. kept (128 + z) (λ q. omega arith) (λ q. omega arith) ∙ W.finished z lz ∙ sym (recv_finished t x a b e z);
          oldest = λ p q lp lq. by_channel p q b a
              (λ g h. rw (g, h, at_channel) (W.next b a taken f.sends_it f.later f.by ∙ rw (f.number, sent_same t x b a (none b a))))
              (λ n. kept (192 + (64 * p + q)) (λ i. omega arith) (λ i. n (omega arith, omega arith)) ∙ W.oldest p q lp lq
              ∙ rw (sent_same t x p q (none p q), rcvd_same t x p q (recv_else t x a b e p q n)));
          latest = λ p q lp lq. kept (4288 + (64 * p + q)) (λ i. omega arith) (λ i. omega arith) ∙ W.latest p q lp lq ∙ rw (sent_same t x p q (none p q));
          next = λ p q i s u h. by_eq i (suc x)
              (λ j. clash (subst (λ (y : ℕ). sends t p q y ≡ true) j s) (none p q))
              (λ j. kept (8384 + i) (λ y. omega arith) (λ y. omega arith) ∙ W.next p q i s u (omega (arith, j)) ∙ rw (sent_same t x p q (none p q)));
          fresh = λ i h. kept (8384 + i) (λ y. omega arith) (λ y. omega arith) ∙ W.fresh i (omega arith);
        }

  -- ---- a local event of a
  module _ (a u : ℕ) (v : Local t x a u) (la : a < 64) where
    s₁ : List ℕ
    s₁ = set work a (get_or work a 0 + u)

    s₂ : List ℕ
    s₂ = set s₁ (64 + a) (get_or work (64 + a) 0 + u)

    s₁_whole : length s₁ ≡ 10433
    unfolding s₁
    s₁_whole = simp length-set W.whole

    s₂_whole : length s₂ ≡ 10433
    unfolding s₁ s₂
    s₂_whole = simp length-set W.whole

    abbrev done : ℕ
    done = get_or work (128 + a) 0 + (1 - u)

    same : (k : ℕ) → k ≢ a → k ≢ 64 + a → k ≢ 128 + a → get_or (local_work work a u) k 0 ≡ get_or work k 0
    unfolding s₁ s₂
    same k n m o =
        get_or-set_other s₂ (128 + a) k done 0 o ∙ get_or-set_other s₁ (64 + a) k (get_or work (64 + a) 0 + u) 0 m ∙ get_or-set_other work a k (get_or work a 0 + u) 0 n

    raised_epoch : get_or (local_work work a u) a 0 ≡ get_or work a 0 + u
    unfolding s₁ s₂
    raised_epoch =
        get_or-set_other s₂ (128 + a) a done 0 (λ q. omega arith) ∙ get_or-set_other s₁ (64 + a) a (get_or work (64 + a) 0 + u) 0 (λ q. omega arith)
        ∙ get_or-set_same work a (get_or work a 0 + u) 0 (omega (arith, W.whole))

    raised_phase : get_or (local_work work a u) (64 + a) 0 ≡ get_or work (64 + a) 0 + u
    unfolding s₁ s₂
    raised_phase = get_or-set_other s₂ (128 + a) (64 + a) done 0 (λ q. omega arith) ∙ get_or-set_same s₁ (64 + a) (get_or work (64 + a) 0 + u) 0 (omega (arith, s₁_whole))

    raised_finished : get_or (local_work work a u) (128 + a) 0 ≡ done
    unfolding s₁ s₂
    raised_finished = get_or-set_same s₂ (128 + a) done 0 (omega (arith, s₂_whole))

    pub local_working : Working t (suc x) (local_work work a u)
    local_working =
        let none = local_sends t x a u v in
        let no_recv = local_recvs t x a u v in
        record {
          whole = simp length-set W.whole;
          epochs = λ z lz. by_eq z a
              (λ g. rw g (omega (arith, raised_epoch, W.epochs a la, local_epoch t x a u v)))
              (λ n. same z n (λ q. omega arith) (λ q. omega arith) ∙ W.epochs z lz ∙ sym (local_epoch_other t x a u v z n));
          phases = λ z lz. by_eq z a
              (λ g. rw g (omega (arith, raised_phase, W.phases a la, local_phase t x a u v)))
              (λ n. same (64 + z) (λ q. omega arith) (λ q. n (omega arith)) (λ q. omega arith) ∙ W.phases z lz ∙ sym (local_phase_other t x a u v z n));
          finished = λ z lz. by_eq z a
              (λ g. rw g (omega (arith, raised_finished, W.finished a la, local_finished t x a u v)))
              (λ n. same (128 + z) (λ q. omega arith) (λ q. omega arith) (λ q. n (omega arith)) ∙ W.finished z lz ∙ sym (local_finished_other t x a u v z n));
          oldest = λ p q lp lq. same (192 + (64 * p + q)) (λ i. omega arith) (λ i. omega arith) (λ i. omega arith) ∙ W.oldest p q lp lq
              ∙ rw (sent_same t x p q (none p q), rcvd_same t x p q (no_recv p q));
          latest = λ p q lp lq. same (4288 + (64 * p + q)) (λ i. omega arith) (λ i. omega arith) (λ i. omega arith) ∙ W.latest p q lp lq ∙ rw (sent_same t x p q (none p q));
          next = λ p q i s u h. by_eq i (suc x)
              (λ j. clash (subst (λ (y : ℕ). sends t p q y ≡ true) j s) (none p q))
              (λ j. same (8384 + i) (λ y. omega arith) (λ y. omega arith) (λ y. omega arith) ∙ W.next p q i s u (omega (arith, j)) ∙ rw (sent_same t x p q (none p q)));
          fresh = λ i h. same (8384 + i) (λ y. omega arith) (λ y. omega arith) (λ y. omega arith) ∙ W.fresh i (omega arith);
        }
