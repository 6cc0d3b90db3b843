-- Laws of the counters: counting a fit event keeps them right, and no counter leaves its range.
use Prim.Native.Nat.{ℕ, ◌+◌, ◌-◌, ◌*◌, ◌<◌, ◌≤◌}
use mathlib.Core.Path.{◌≡◌, ap, ◌∙◌}
use mathlib.Core.List.{List, [], ◌∷◌, ◌++◌}
use mathlib.Core.Bool.{Bool, true, false, ◌&&◌}
use native.Mathlib.Omega.{arith}
use lib.Dec.{eqb}
use lib.ListN.{length, get_or, set, replicate, length-set, length-replicate, get_or-replicate}
use lib.Seq.{get_or-set_same, get_or-set_other}
use borrow.Author.Tests.{eq-eqb, ne_eqb}
use Rattle.words.proofs.Cases.{by_eq}
use Rattle.trace.specs.declared.Event.{Event}
use Rattle.trace.specs.declared.Event.TheVariants.{Send, Recv, Save, Done}
use Rattle.trace.specs.Trace.{one_if, count, is_send, is_recv, is_save, is_done}
use Rattle.trace.specs.Fit.{event_fault}
use Rattle.trace.specs.Inner.Tally.{count_words, Tally, Next, tallied}
use Rattle.trace.proofs.Faults.{send_fit, recv_fit, save_fit, done_fit}

-- one event more
count_more : (f : Event → Bool) (es : List Event) (e : Event) → count f (es ++ e ∷ []) ≡ count f es + one_if (f e)
unfolding count
count_more f [] e = omega arith
count_more f (x ∷ es) e = omega (arith, count_more f es e)

one_most : (b : Bool) → one_if b ≤ 1
one_most true = omega arith
one_most false = omega arith

count_most : (f : Event → Bool) (es : List Event) → count f es ≤ length es
unfolding count
count_most f [] = omega arith
count_most f (x ∷ es) = omega (arith, one_most (f x), count_most f es)

-- a counter that an event moves, and the others
module _ (counts : List ℕ) (a b x p q : ℕ) (la : a < 64) (lb : b < 64) (lp : p < 64) (lq : q < 64) (size : length counts ≡ count_words) where
  here : p ≡ a → q ≡ b → get_or (set counts (64 * a + b) x) (64 * p + q) 0 ≡ x
  here e f = rw (e, f) (get_or-set_same counts (64 * a + b) x 0 (omega arith))

  other : ((p ≡ a) × (q ≡ b) → ⊥) → get_or (set counts (64 * a + b) x) (64 * p + q) 0 ≡ get_or counts (64 * p + q) 0
  other n = get_or-set_other counts (64 * a + b) (64 * p + q) x 0 (λ e. n (omega arith, omega arith))

-- likewise of the counters that have a word for each process, from a base on
raised_own : (counts : List ℕ) (base a z : ℕ) → base + a < length counts
    → get_or (set counts (base + a) (get_or counts (base + a) 0 + 1)) (base + z) 0 ≡ get_or counts (base + z) 0 + one_if (eqb z a)
raised_own counts base a z l = by_eq z a
    (λ e. rw (eq-eqb z a e, e) (get_or-set_same counts (base + a) (get_or counts (base + a) 0 + 1) 0 l))
    (λ d. rw (ne_eqb z a d) (get_or-set_other counts (base + a) (base + z) (get_or counts (base + a) 0 + 1) 0 (λ e. d (omega arith)) ∙ omega arith))

-- is this the channel that the event is on
by_channel {ℓ} : {A : Type ℓ} (p q a b : ℕ) → (p ≡ a → q ≡ b → eqb p a && eqb q b ≡ true → A) → (((p ≡ a) × (q ≡ b) → ⊥) → eqb p a && eqb q b ≡ false → A) → A
by_channel p q a b f g =
    by_eq p a
    (λ e. by_eq q b
    (λ h. f e h (rw (eq-eqb p a e, eq-eqb q b h)))
    (λ n. g (λ w. n w.1) (rw (eq-eqb p a e, ne_eqb q b n))))
    (λ n. g (λ w. n w.0) (rw (ne_eqb p a n)))

module _ (n : ℕ) (es : List Event) (counts : List ℕ) (small : n ≤ 64) (t : Tally counts es) where
  send_tally : (a b v : ℕ) → event_fault n es (Send a b v) ≡ 0 → Tally (tallied counts (Send a b v)) (es ++ Send a b v ∷ [])
  send_tally a b v f =
      let s = send_fit n es a b v f in
      let x = get_or counts (64 * a + b) 0 + 1 in
      record {
        size = simp length-set t.size;
        transit = λ p q lp lq. rw (count_more (is_send p q) es (Send a b v), count_more (is_recv p q) es (Send a b v))
            (by_channel p q a b
            (λ e h w. rw (w, here counts a b x p q (omega arith) (omega arith) lp lq t.size e h) (let k : 64 * a + b ≡ 64 * p + q = omega arith in omega (arith, t.transit p q lp lq, ap (λ (i : ℕ). get_or counts i 0) k)))
            (λ z w. rw (w, other counts a b x p q (omega arith) (omega arith) lp lq t.size z) (omega (arith, t.transit p q lp lq))));
        saved = λ z lz. rw (count_more (is_save z) es (Send a b v))
            (get_or-set_other counts (64 * a + b) (4096 + z) x 0 (λ e. omega arith) ∙ (omega (arith, t.saved z lz)));
        finished = λ z lz. rw (count_more (is_done z) es (Send a b v))
            (get_or-set_other counts (64 * a + b) (4160 + z) x 0 (λ e. omega arith) ∙ (omega (arith, t.finished z lz)));
      }

  recv_tally : (a b : ℕ) → event_fault n es (Recv a b) ≡ 0 → Tally (tallied counts (Recv a b)) (es ++ Recv a b ∷ [])
  recv_tally a b f =
      let s = recv_fit n es a b f in
      let x = get_or counts (64 * b + a) 0 - 1 in
      record {
        size = simp length-set t.size;
        transit = λ p q lp lq. rw (count_more (is_send p q) es (Recv a b), count_more (is_recv p q) es (Recv a b))
            (by_channel p q b a
            (λ e h w. rw (w, here counts b a x p q (omega arith) (omega arith) lp lq t.size e h) (let k : 64 * b + a ≡ 64 * p + q = omega arith in omega (arith, t.transit p q lp lq, t.transit b a (omega arith) (omega arith), ap (λ (i : ℕ). get_or counts i 0) k)))
            (λ z w. rw (w, other counts b a x p q (omega arith) (omega arith) lp lq t.size z) (omega (arith, t.transit p q lp lq))));
        saved = λ z lz. rw (count_more (is_save z) es (Recv a b))
            (get_or-set_other counts (64 * b + a) (4096 + z) x 0 (λ e. omega arith) ∙ (omega (arith, t.saved z lz)));
        finished = λ z lz. rw (count_more (is_done z) es (Recv a b))
            (get_or-set_other counts (64 * b + a) (4160 + z) x 0 (λ e. omega arith) ∙ (omega (arith, t.finished z lz)));
      }

  save_tally : (a : ℕ) → event_fault n es (Save a) ≡ 0 → Tally (tallied counts (Save a)) (es ++ Save a ∷ [])
  save_tally a f =
      let s = save_fit n es a f in
      let x = get_or counts (4096 + a) 0 + 1 in
      record {
        size = simp length-set t.size;
        transit = λ p q lp lq. rw (count_more (is_send p q) es (Save a), count_more (is_recv p q) es (Save a))
            (rw (get_or-set_other counts (4096 + a) (64 * p + q) x 0 (λ e. omega arith)) (omega (arith, t.transit p q lp lq)));
        saved = λ z lz. rw (count_more (is_save z) es (Save a)) (omega (arith, raised_own counts 4096 a z (omega (arith, t.size)), t.saved z lz));
        finished = λ z lz. rw (count_more (is_done z) es (Save a))
            (get_or-set_other counts (4096 + a) (4160 + z) x 0 (λ e. omega arith) ∙ omega (arith, t.finished z lz));
      }

  done_tally : (a : ℕ) → event_fault n es (Done a) ≡ 0 → Tally (tallied counts (Done a)) (es ++ Done a ∷ [])
  done_tally a f =
      let s = done_fit n es a f in
      let x = get_or counts (4160 + a) 0 + 1 in
      record {
        size = simp length-set t.size;
        transit = λ p q lp lq. rw (count_more (is_send p q) es (Done a), count_more (is_recv p q) es (Done a))
            (let far : get_or (tallied counts (Done a)) (64 * p + q) 0 ≡ get_or counts (64 * p + q) 0 = get_or-set_other counts _ (64 * p + q) _ 0 (λ e. omega arith) in
            omega (arith, far, t.transit p q lp lq));
        saved = λ z lz. rw (count_more (is_save z) es (Done a))
            (get_or-set_other counts (4160 + a) (4096 + z) x 0 (λ e. omega arith) ∙ omega (arith, t.saved z lz));
        finished = λ z lz. rw (count_more (is_done z) es (Done a)) (omega (arith, raised_own counts 4160 a z (omega (arith, t.size)), t.finished z lz));
      }

  pub next_tally : (e : Event) → event_fault n es e ≡ 0 → Tally (tallied counts e) (es ++ e ∷ [])
  next_tally (Send a b v) f = send_tally a b v f
  next_tally (Recv a b) f = recv_tally a b f
  next_tally (Save a) f = save_tally a f
  next_tally (Done a) f = done_tally a f

-- a fit event's counter is there and can be moved
module _ (counts : List ℕ) where
  pub send_next : (a b v : ℕ) → Next counts (Send a b v) → ((a < 64) × (b < 64)) × ((64 * a + b < length counts) × (get_or counts (64 * a + b) 0 < 65535))
  send_next a b v x =
      let t = x.tally in
      let s = send_fit x.procs x.events a b v x.fit in
      let m = x.procs_most in
      let l = x.events_few in
      ((omega arith, omega arith), (omega (arith, t.size), omega (arith, t.transit a b (omega arith) (omega arith), count_most (is_send a b) x.events)))

  pub recv_next : (a b : ℕ) → Next counts (Recv a b) → ((b < 64) × (a < 64)) × ((64 * b + a < length counts) × (0 < get_or counts (64 * b + a) 0))
  recv_next a b x =
      let t = x.tally in
      let s = recv_fit x.procs x.events a b x.fit in
      let m = x.procs_most in
      ((omega arith, omega arith), (omega (arith, t.size), omega (arith, t.transit b a (omega arith) (omega arith))))

  pub save_next : (a : ℕ) → Next counts (Save a) → (a < 64) × ((4096 + a < length counts) × (get_or counts (4096 + a) 0 < 65535))
  save_next a x =
      let t = x.tally in
      let s = save_fit x.procs x.events a x.fit in
      let m = x.procs_most in
      (omega arith, (omega (arith, t.size), omega (arith, t.saved a (omega arith))))

  pub done_next : (a : ℕ) → Next counts (Done a) → (a < 64) × ((4160 + a < length counts) × (get_or counts (4160 + a) 0 < 65535))
  done_next a x =
      let t = x.tally in
      let s = done_fit x.procs x.events a x.fit in
      let m = x.procs_most in
      let l = x.events_few in
      (omega arith, (omega (arith, t.size), omega (arith, t.finished a (omega arith), count_most (is_done a) x.events)))

-- zero counters count no events
pub none_tally : Tally (replicate count_words 0) []
unfolding count
none_tally =
    record {
      size = length-replicate {A = ℕ} count_words 0;
      transit = λ p q lp lq. rw (get_or-replicate {A = ℕ} count_words (64 * p + q) 0 0 (omega arith));
      saved = λ z lz. get_or-replicate {A = ℕ} count_words (4096 + z) 0 0 (omega arith);
      finished = λ z lz. get_or-replicate {A = ℕ} count_words (4160 + z) 0 0 (omega arith);
    }
