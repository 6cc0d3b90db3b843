-- Laws of the tests: one for each turn and each way out of the functions that test an area's words.
use Prim.Native.Nat.{ℕ, zero, suc, ◌+◌, ◌-◌, ◌*◌, ◌/◌, ◌%◌, ◌<◌, ◌≤◌}
use mathlib.Core.Path.{◌≡◌, refl, sym, ◌∙◌}
use mathlib.Core.List.{List, [], ◌∷◌, ◌++◌}
use mathlib.Core.Bool.{Bool, true, false, ◌&&◌, and-true, and-false, and_assoc}
use native.Mathlib.Omega.{arith}
use native.Mathlib.Numerals.{add-one}
use lib.ListN.{length, get_or, take, drop}
use lib.Seq.{drop-cons}
use lib.Bits.{bit_or, or_add_and, or_zero_l, and_le_l, and_le_r}
use lib.Dec.{leb, eqb}
use borrow.Author.Tests.{leb-true, le-leb, lt-leb, eq-eqb, ne_eqb}
use Rattle.words.specs.Halves.{half, from_halves}
use Rattle.words.proofs.Cases.{by_bool, by_eq, and_left, and_right}
use Rattle.std.proofs.Common.{fold, Some, None}
use Rattle.trace.specs.declared.Event.{Event}
use Rattle.trace.specs.declared.Event.TheVariants.{Send, Recv, Save, Done}
use Rattle.trace.specs.Fit.{event_fault}
use Rattle.trace.specs.Trace.{value_of}
use Rattle.trace.specs.Table.{word_of, top_in, process_in, peer_in}
use Rattle.table.specs.Held.{event_of, held_value, held_event}
use Rattle.table.specs.Inner.Tested.{zeros_from, read_event, word_fits, halves_are, fit_from, zeros_tested, framed, tested}

-- each way out of `event`
module _ (w v : ℕ) where
  pub event_send : top_in w ≡ 1 → Send (process_in w) (peer_in w) v ≡ event_of w v
  unfolding event_of
  event_send h = rw (eq-eqb (top_in w) 1 h)

  pub event_recv : (top_in w ≡ 1 → ⊥) → top_in w ≡ 2 → Recv (process_in w) (peer_in w) ≡ event_of w v
  unfolding event_of
  event_recv n h = rw (ne_eqb (top_in w) 1 n, eq-eqb (top_in w) 2 h)

  pub event_save : (top_in w ≡ 1 → ⊥) → (top_in w ≡ 2 → ⊥) → top_in w ≡ 3 → Save (process_in w) ≡ event_of w v
  unfolding event_of
  event_save n m h = rw (ne_eqb (top_in w) 1 n, ne_eqb (top_in w) 2 m, eq-eqb (top_in w) 3 h)

  pub event_done : (top_in w ≡ 1 → ⊥) → (top_in w ≡ 2 → ⊥) → (top_in w ≡ 3 → ⊥) → Done (process_in w) ≡ event_of w v
  unfolding event_of
  event_done n m k = rw (ne_eqb (top_in w) 1 n, ne_eqb (top_in w) 2 m, ne_eqb (top_in w) 3 k)

  -- only a send has a value of its own
  no_value : (top_in w ≡ 1 → ⊥) → value_of (event_of w v) ≡ 0
  no_value n =
      by_eq (top_in w) 2 (λ h. rw (← event_recv n h)) (λ m.
      by_eq (top_in w) 3 (λ h. rw (← event_save n m h)) (λ k. rw (← event_done n m k)))

-- two numbers have a bit together exactly if one of them has
or_zero : (x y : ℕ) → eqb (bit_or x y) 0 ≡ eqb x 0 && eqb y 0
or_zero x y = by_eq (bit_or x y) 0
    (λ e. let n = or_add_and x y in
    let l = and_le_l x y in
    let r = and_le_r x y in
    rw (eq-eqb (bit_or x y) 0 e, eq-eqb x 0 (omega (arith, e, n, r)), eq-eqb y 0 (omega (arith, e, n, l))))
    (λ e. by_eq x 0
    (λ h. by_eq y 0 (λ k. absurd (e (rw (h, k) (or_zero_l 0)))) (λ k. rw (ne_eqb (bit_or x y) 0 e, ne_eqb y 0 k, and-false (eqb x 0))))
    (λ h. rw (ne_eqb (bit_or x y) 0 e, ne_eqb x 0 h)))

-- `zeros`: the words of a part of an area together are 0 exactly if each is
pub zeros_fold : (any : ℕ) (a : List ℕ) (i n : ℕ) → i + n ≤ length a → eqb (fold bit_or any (take n (drop i a))) 0 ≡ eqb any 0 && zeros_from a i n
unfolding zeros_from
zeros_fold any a i zero h = sym (and-true (eqb any 0))
zeros_fold any a i (suc n) h =
    let inside : i < length a = omega arith in
    rw (drop-cons a i 0 inside)
    (zeros_fold (bit_or any (get_or a i 0)) a (suc i) n (omega arith)
    ∙ rw (or_zero any (get_or a i 0)) (and_assoc (eqb any 0) (eqb (get_or a i 0) 0) (zeros_from a (suc i) n)))

-- each way out of `read_event`, by the kind of the word
module _ (w v : ℕ) where
  pub read_send : top_in w ≡ 1 → Some (Send (process_in w) (peer_in w) v) ≡ read_event w v
  unfolding read_event
  read_send send =
      let word : w % 64 % 64 + 64 * (w / 64 % 64 % 64) + 4096 ≡ w = omega arith in
      rw (← event_send w v send, eq-eqb _ _ word, eq-eqb v v refl)

  module _ (no_send : top_in w ≡ 1 → ⊥) where
    pub read_value : (v ≡ 0 → ⊥) → None ≡ read_event w v
    unfolding read_event
    read_value z = rw (no_value w v no_send, ne_eqb 0 v (λ q. z (sym q)), and-false)

    module _ (zero_value : v ≡ 0) where
      pub read_recv : top_in w ≡ 2 → Some (Recv (process_in w) (peer_in w)) ≡ read_event w v
      unfolding read_event
      read_recv h =
          let word : w % 64 % 64 + 64 * (w / 64 % 64 % 64) + 8192 ≡ w = omega arith in
          rw (← event_recv w v no_send h, eq-eqb _ _ word, eq-eqb 0 v (sym zero_value))

      module _ (no_recv : top_in w ≡ 2 → ⊥) where
        pub read_save : w / 64 ≡ 192 → Some (Save (process_in w)) ≡ read_event w v
        unfolding read_event
        read_save h =
            let word : w % 64 % 64 + 12288 ≡ w = omega arith in
            rw (← event_save w v no_send no_recv (omega arith), eq-eqb _ _ word, eq-eqb 0 v (sym zero_value))

        pub read_done : w / 64 ≡ 0 → Some (Done (process_in w)) ≡ read_event w v
        unfolding read_event
        read_done h =
            let word : w % 64 % 64 ≡ w = omega arith in
            rw (← event_done w v no_send no_recv (λ q. omega arith), eq-eqb _ _ word, eq-eqb 0 v (sym zero_value))

        pub read_none : (w / 64 ≡ 192 → ⊥) → (w / 64 ≡ 0 → ⊥) → None ≡ read_event w v
        unfolding read_event
        read_none n m =
            by_eq (top_in w) 3
            (λ h. rw (← event_save w v no_send no_recv h, ne_eqb (w % 64 % 64 + 12288) w (λ q. n (omega arith))))
            (λ k. rw (← event_done w v no_send no_recv k, ne_eqb (w % 64 % 64) w (λ q. m (omega arith))))

-- what `read_event` says of a word and a value: they fit exactly if there is an event and it is fit
module _ (fit : Event → Bool) (w v : ℕ) where
  fits_read : word_fits fit w v ≡ (eqb (word_of (event_of w v)) w && eqb (value_of (event_of w v)) v) && fit (event_of w v)
  unfolding word_fits
  fits_read = sym (and_assoc (eqb (word_of (event_of w v)) w) (eqb (value_of (event_of w v)) v) (fit (event_of w v)))

  pub read_unfit : read_event w v ≡ None → word_fits fit w v ≡ false
  unfolding read_event
  read_unfit h = by_bool (eqb (word_of (event_of w v)) w && eqb (value_of (event_of w v)) v)
      (λ t. let q : Some (event_of w v) ≡ None = rw t at h in let z : ◌≡◌ {A = ℕ} 0 1 = cc in absurd (let y : ⊥ = omega arith in y))
      (λ f. fits_read ∙ rw f)

  pub read_fit : (e : Event) → read_event w v ≡ Some e → (e ≡ event_of w v) × (word_fits fit w v ≡ fit e)
  unfolding read_event
  read_fit e h = by_bool (eqb (word_of (event_of w v)) w && eqb (value_of (event_of w v)) v)
      (λ t. let q : Some (event_of w v) ≡ Some e = rw t at h in let same : event_of w v ≡ e = cc in (sym same, fits_read ∙ rw (t, same)))
      (λ f. let q : None ≡ Some e = rw f at h in let z : ◌≡◌ {A = ℕ} 0 1 = cc in absurd (let y : ⊥ = omega arith in y))

-- a word that fits is that of a fit event
pub fits_fit : (fit : Event → Bool) (w v : ℕ) → word_fits fit w v ≡ true → fit (event_of w v) ≡ true
unfolding word_fits
fits_fit fit w v h =
    let b = and_right (eqb (word_of (event_of w v)) w) (eqb (value_of (event_of w v)) v && fit (event_of w v)) h in
    and_right (eqb (value_of (event_of w v)) v) (fit (event_of w v)) b

-- Words that are the halves of their number v: those of the event that is read with v are these exactly if its value is
-- v, which is the value of a send; any other event has the value 0.
module _ (low high : ℕ) (is_low : half 0 (from_halves low high) ≡ low) (is_high : half 1 (from_halves low high) ≡ high) where
  abbrev v : ℕ
  v = from_halves low high

  own_halves : halves_are v low high ≡ eqb v v
  unfolding halves_are
  own_halves = rw (eq-eqb _ _ is_low, eq-eqb _ _ is_high, eq-eqb v v refl)

  no_halves : halves_are 0 low high ≡ eqb 0 v
  unfolding halves_are half
  no_halves = by_eq low 0
      (λ e. by_eq high 0
      (λ f. rw (eq-eqb 0 low (sym e), eq-eqb 0 high (sym f), eq-eqb 0 v (omega arith)))
      (λ n. rw (ne_eqb 0 high (λ q. n (sym q)), and-false, ne_eqb 0 v (λ q. n (omega arith)))))
      (λ n. rw (ne_eqb 0 low (λ q. n (sym q)), ne_eqb 0 v (λ q. n (omega arith))))

  halves_event : (w : ℕ) → halves_are (value_of (event_of w v)) low high ≡ eqb (value_of (event_of w v)) v
  unfolding event_of
  halves_event w = by_eq (top_in w) 1
      (λ e. rw (eq-eqb (top_in w) 1 e) own_halves)
      (λ n. rw (no_value w v n) no_halves)

and_four : (a b c d : Bool) → a && (b && (c && d)) ≡ (a && (b && c)) && d
and_four true true c d = refl
and_four true false c d = refl
and_four false b c d = refl

-- the turns of `events_fit`, at event number i
module _ (p : ℕ) (es : List Event) (a : List ℕ) (i n : ℕ) where
  pub events_end : n < i → fit_from p es a i (n + 1 - i) ≡ true
  unfolding fit_from
  events_end h = let q : n + 1 - i ≡ 0 = omega arith in rw q

  -- with any test that says of this event what the events before it say
  module _ (l : i ≤ n) (fit : Event → Bool) (same : fit (held_event a i) ≡ eqb (event_fault p es (held_event a i)) 0)
      (low : half 0 (held_value a i) ≡ get_or a (2065 + i) 0) (high : half 1 (held_value a i) ≡ get_or a (4114 + i) 0) where
    pub events_turn : fit_from p es a i (n + 1 - i)
        ≡ (word_fits fit (get_or a (16 + i) 0) (held_value a i) && fit_from p (es ++ held_event a i ∷ []) a (i + 1) (n + 1 - (i + 1)))
    unfolding fit_from word_fits
    events_turn =
        let q : n + 1 - i ≡ suc (n - i) = omega arith in
        let r : n + 1 - (i + 1) ≡ n - i = omega arith in
        rw (q, r, add-one i, same, halves_event (get_or a (2065 + i) 0) (get_or a (4114 + i) 0) low high (get_or a (16 + i) 0))
        (and_four (eqb (word_of (held_event a i)) (get_or a (16 + i) 0)) (eqb (value_of (held_event a i)) (held_value a i)) (eqb (event_fault p es (held_event a i)) 0)
        (fit_from p (es ++ held_event a i ∷ []) a (suc i) (n - i)))

    -- the same by the event that is read, if there is one
    pub events_none : read_event (get_or a (16 + i) 0) (held_value a i) ≡ None → fit_from p es a i (n + 1 - i) ≡ false
    events_none h = events_turn ∙ rw (read_unfit fit (get_or a (16 + i) 0) (held_value a i) h)

    pub events_next : (e : Event) → read_event (get_or a (16 + i) 0) (held_value a i) ≡ Some e
        → fit_from p es a i (n + 1 - i) ≡ fit e && fit_from p (es ++ e ∷ []) a (i + 1) (n + 1 - (i + 1))
    events_next e h =
        let (said, fits) = read_fit fit (get_or a (16 + i) 0) (held_value a i) e h in
        let f = rw said at fits in
        events_turn ∙ rw (said, f)

-- each way out of `zeros_fit`, for n events: what each test said, and what it stands for
module _ (a : List ℕ) (n : ℕ) where
  pub zeros_many : 2048 < n → false ≡ zeros_tested a n
  unfolding zeros_tested
  zeros_many h = rw (lt-leb n 2048 h)

  module _ (few : n ≤ 2048) (head : Bool) (is_head : head ≡ zeros_from a 2 15) where
    pub zeros_head : head ≡ false → false ≡ zeros_tested a n
    unfolding zeros_tested
    zeros_head h = rw (le-leb n 2048 few, ← is_head, h)

    module _ (no_head : head ≡ true) (gap : Bool) (is_gap : gap ≡ zeros_from a (17 + n) (2066 - (17 + n))) where
      pub zeros_gap : gap ≡ false → false ≡ zeros_tested a n
      unfolding zeros_tested
      zeros_gap h = rw (le-leb n 2048 few, ← is_head, no_head, ← is_gap, h)

      module _ (no_gap : gap ≡ true) (past : Bool) (is_past : past ≡ zeros_from a (2066 + n) (4115 - (2066 + n))) where
        pub zeros_past : past ≡ false → false ≡ zeros_tested a n
        unfolding zeros_tested
        zeros_past h = rw (le-leb n 2048 few, ← is_head, no_head, ← is_gap, no_gap, ← is_past, h)

        pub zeros_tail : past ≡ true → (tail : Bool) → tail ≡ zeros_from a (4115 + n) (16384 - (4115 + n)) → tail ≡ zeros_tested a n
        unfolding zeros_tested
        zeros_tail h tail is_tail = rw (le-leb n 2048 few, ← is_head, no_head, ← is_gap, no_gap, ← is_past, h, ← is_tail)

-- each way out of `frame_fits`
module _ (a : List ℕ) where
  pub frame_short : length a < 16384 → false ≡ framed a
  unfolding framed
  frame_short h = rw (lt-leb 16384 (length a) h)

  module _ (size : 16384 ≤ length a) where
    pub frame_low : get_or a 0 0 < 2 → false ≡ framed a
    unfolding framed
    frame_low h = rw (le-leb 16384 (length a) size, lt-leb 2 (get_or a 0 0) h)

    module _ (least : 2 ≤ get_or a 0 0) where
      pub frame_high : 64 < get_or a 0 0 → false ≡ framed a
      unfolding framed
      frame_high h = rw (le-leb 16384 (length a) size, le-leb 2 (get_or a 0 0) least, lt-leb (get_or a 0 0) 64 h)

      pub frame_zeros : get_or a 0 0 ≤ 64 → (r : Bool) → r ≡ zeros_tested a (get_or a 1 0) → r ≡ framed a
      unfolding framed
      frame_zeros h r e = rw (le-leb 16384 (length a) size, le-leb 2 (get_or a 0 0) least, le-leb (get_or a 0 0) 64 h, ← e)

-- what the events are then tested with
pub record Frame (a : List ℕ) : Type 0 where
  pub size : 16384 ≤ length a
  pub least : 2 ≤ get_or a 0 0
  pub most : get_or a 0 0 ≤ 64
  pub few : get_or a 1 0 ≤ 2048

pub frame_facts : (a : List ℕ) → framed a ≡ true → Frame a
unfolding framed zeros_tested
frame_facts a h =
    let h₁ = and_right (leb 16384 (length a)) _ h in
    let h₂ = and_right (leb 2 (get_or a 0 0)) _ h₁ in
    let h₃ = and_right (leb (get_or a 0 0) 64) _ h₂ in
    record {
      size = leb-true 16384 (length a) (and_left _ _ h);
      least = leb-true 2 (get_or a 0 0) (and_left _ _ h₁);
      most = leb-true (get_or a 0 0) 64 (and_left _ _ h₂);
      few = leb-true (get_or a 1 0) 2048 (and_left _ _ h₃);
    }

-- each way out of `holds_trace`
module _ (a : List ℕ) where
  pub no_frame : framed a ≡ false → false ≡ tested a
  unfolding tested
  no_frame h = rw h

  pub frame_events : framed a ≡ true → (r : Bool) → r ≡ fit_from (get_or a 0 0) [] a 1 (get_or a 1 0) → r ≡ tested a
  unfolding tested
  frame_events h r e = rw h e
