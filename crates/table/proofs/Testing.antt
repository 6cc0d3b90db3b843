-- What the code tests is what the definition says: `holds_trace` and `tested` are one, both by the facts that they
-- establish.
use Prim.Native.Nat.{ℕ, zero, suc, ◌+◌, ◌-◌, ◌*◌, ◌<◌, ◌≤◌}
use mathlib.Core.Path.{◌≡◌, refl, sym, ◌∙◌}
use mathlib.Core.List.{List, [], ◌∷◌, ◌++◌}
use mathlib.Core.Bool.{true}
use native.Mathlib.Omega.{arith}
use lib.Dec.{leb, eqb}
use lib.ListN.{length, get_or}
use borrow.Author.Tests.{leb-true, le-leb, eqb-true, eq-eqb}
use Rattle.words.specs.Halves.{half, from_halves}
use Rattle.words.proofs.Halves.{each_half, half_lt}
use Rattle.words.proofs.Cases.{by_bool, by_eq, by_lt, same_bool, and_left, and_right, and_both}
use Rattle.trace.specs.declared.Event.{Event}
use Rattle.trace.specs.Fit.{event_fault, value_fits, all_fit, well_formed}
use Rattle.trace.specs.Trace.{value_of}
use Rattle.trace.specs.Table.{word_of, top_in, value_word, table_word}
use Rattle.table.specs.Held.{event_of, held_event, held_events, held, words_are, holds_trace}
use Rattle.table.specs.Inner.Tested.{zeros_from, halves_are, fit_from, zeros_tested, framed, tested}
use Rattle.trace.proofs.Places.{word_procs, word_count, word_head}
use Rattle.table.proofs.Turns.{frame_facts}
use Rattle.table.proofs.Places.{length_held, said_event, said_value, said_gap, said_past}

-- the words of event number i are those of the event that they say
pub record Said (a : List ℕ) (i : ℕ) : Type 0 where
  pub word : word_of (held_event a i) ≡ get_or a (16 + i) 0
  pub value : (b : ℕ) → b < 2 → value_word b (held_event a i) ≡ get_or a (2065 + 2049 * b + i) 0

-- what an area has that holds a trace of n events
pub record Facts (a : List ℕ) (n : ℕ) : Type 0 where
  pub size : 16384 ≤ length a
  pub least : 2 ≤ get_or a 0 0
  pub most : get_or a 0 0 ≤ 64
  pub few : n ≤ 2048
  pub head : (k : ℕ) → 2 ≤ k → k < 17 → get_or a k 0 ≡ 0
  pub fit : all_fit (get_or a 0 0) [] (held_events a 1 n) ≡ true
  pub said : (i : ℕ) → 1 ≤ i → i < 1 + n → Said a i
  pub gap : (k : ℕ) → 17 + n ≤ k → k < 2066 → get_or a k 0 ≡ 0
  pub past : (b k : ℕ) → b < 2 → 2066 + 2049 * b + n ≤ k → (b ≡ 0 → k < 4115) → k < 16384 → get_or a k 0 ≡ 0

-- ---- single tests

-- a row of words, word by word
module _ (f : ℕ → ℕ) (a : List ℕ) where
  pub words_each : (n : ℕ) → words_are f n a ≡ true → (k : ℕ) → k < n → get_or a k 0 ≡ f k
  unfolding words_are
  words_each zero h k l = absurd (let z : ⊥ = omega arith in z)
  words_each (suc n) h k l =
      by_eq k n
      (λ e. rw e (eqb-true (get_or a n 0) (f n) (and_right (words_are f n a) _ h)))
      (λ d. words_each n (and_left _ _ h) k (omega arith))

  pub each_words : (n : ℕ) → ((k : ℕ) → k < n → get_or a k 0 ≡ f k) → words_are f n a ≡ true
  unfolding words_are
  each_words zero h = refl
  each_words (suc n) h = and_both _ _ (each_words n (λ k l. h k (omega arith))) (eq-eqb _ _ (h n (omega arith)))

module _ (a : List ℕ) where
  zeros_each : (i n : ℕ) → zeros_from a i n ≡ true → (k : ℕ) → i ≤ k → k < i + n → get_or a k 0 ≡ 0
  unfolding zeros_from
  zeros_each i zero h k l m = absurd (let z : ⊥ = omega arith in z)
  zeros_each i (suc n) h k l m =
      by_eq k i
      (λ e. rw e (eqb-true (get_or a i 0) 0 (and_left _ _ h)))
      (λ d. zeros_each (suc i) n (and_right (eqb (get_or a i 0) 0) _ h) k (omega arith) (omega arith))

  each_zeros : (i n : ℕ) → ((k : ℕ) → i ≤ k → k < i + n → get_or a k 0 ≡ 0) → zeros_from a i n ≡ true
  unfolding zeros_from
  each_zeros i zero h = refl
  each_zeros i (suc n) h = and_both _ _ (eq-eqb _ _ (h i (omega arith) (omega arith))) (each_zeros (suc i) n (λ k l m. h k (omega arith) (omega arith)))

-- an event read with a value of 64 bits has one that fits
pub value_fits_lem : (w v : ℕ) → v ≤ 18446744073709551615 → value_fits (event_of w v) ≡ true
unfolding event_of
value_fits_lem w v h =
    by_bool (eqb (top_in w) 1)
    (λ e. rw e (le-leb v 18446744073709551615 h))
    (λ e. by_bool (eqb (top_in w) 2) (λ f. rw (e, f)) (λ f. by_bool (eqb (top_in w) 3) (λ g. rw (e, f, g)) (λ g. rw (e, f, g))))

-- halves that were tested: each is that of the value, and they are words
module _ (v low high : ℕ) where
  halves_each : halves_are v low high ≡ true → (half 0 v ≡ low) × (half 1 v ≡ high)
  unfolding halves_are
  halves_each h = (eqb-true _ _ (and_left _ _ h), eqb-true _ _ (and_right (eqb (half 0 v) low) _ h))

  each_halves : half 0 v ≡ low → half 1 v ≡ high → halves_are v low high ≡ true
  unfolding halves_are
  each_halves e f = and_both _ _ (eq-eqb _ _ e) (eq-eqb _ _ f)

  halves_few : half 0 v ≡ low → half 1 v ≡ high → from_halves low high ≤ 18446744073709551615
  halves_few e f = omega (arith, half_lt 0 v, half_lt 1 v)

module _ (p : ℕ) (a : List ℕ) where
  fits_each : (before : List Event) (i n : ℕ) → fit_from p before a i n ≡ true
      → (all_fit p before (held_events a i n) ≡ true) × ((k : ℕ) → i ≤ k → k < i + n → Said a k)
  unfolding fit_from all_fit held_events
  fits_each before i zero h = (refl, λ k l m. absurd (let z : ⊥ = omega arith in z))
  fits_each before i (suc n) h =
      let e = held_event a i in
      let word = eqb-true (word_of e) (get_or a (16 + i) 0) (and_left _ _ h) in
      let h₂ = and_right (eqb (word_of e) (get_or a (16 + i) 0)) _ h in
      let low = get_or a (2065 + i) 0 in
      let high = get_or a (4114 + i) 0 in
      let halves = halves_each (value_of e) low high (and_left _ _ h₂) in
      let few = halves_few (value_of e) low high halves.0 halves.1 in
      let h₃ = and_right (halves_are (value_of e) low high) _ h₂ in
      let rest = fits_each (before ++ e ∷ []) (suc i) n (and_right (eqb (event_fault p before e) 0) _ h₃) in (
        and_both _ _ (and_left (eqb (event_fault p before e) 0) _ h₃) (and_both _ _ (value_fits_lem (get_or a (16 + i) 0) (from_halves low high) few) rest.0),
        λ k l m. by_eq k i
            (λ q. rw q (record { word = word; value = each_half (λ b. value_word b e ≡ get_or a (2065 + 2049 * b + i) 0) halves.0 halves.1 }))
            (λ d. rest.1 k (omega arith) (omega arith)),
      )

  pub each_fits : (before : List Event) (i n : ℕ) → all_fit p before (held_events a i n) ≡ true → ((k : ℕ) → i ≤ k → k < i + n → Said a k)
      → fit_from p before a i n ≡ true
  unfolding fit_from all_fit held_events
  each_fits before i zero h s = refl
  each_fits before i (suc n) h s =
      let e = held_event a i in
      let here = s i (omega arith) (omega arith) in
      let rest = and_right (value_fits e) _ (and_right (eqb (event_fault p before e) 0) _ h) in
      and_both _ _ (eq-eqb _ _ here.word) (and_both _ _ (each_halves _ _ _ (here.value 0 (omega arith)) (here.value 1 (omega arith))) (and_both _ _ (and_left (eqb (event_fault p before e) 0) _ h)
      (each_fits (before ++ e ∷ []) (suc i) n rest (λ k l m. s k (omega arith) (omega arith)))))

-- ---- the code's tests

module _ (a : List ℕ) where
  tested_facts : tested a ≡ true → Facts a (get_or a 1 0)
  unfolding tested framed zeros_tested
  tested_facts h =
      let p = get_or a 0 0 in
      let n = get_or a 1 0 in
      let frame = and_left (framed a) _ h in
      let F = frame_facts a frame in
      let few = F.few in
      let h₁ = and_right (leb 16384 (length a)) _ frame in
      let h₂ = and_right (leb 2 p) _ h₁ in
      let h₃ = and_right (leb p 64) _ h₂ in
      let h₄ = and_right (leb n 2048) _ h₃ in
      let h₅ = and_right (zeros_from a 2 15) _ h₄ in
      let h₆ = and_right (zeros_from a (17 + n) (2066 - (17 + n))) _ h₅ in
      let h₇ = and_right (zeros_from a (2066 + n) (4115 - (2066 + n))) _ h₆ in
      let events = fits_each p a [] 1 n (and_right (framed a) _ h) in
      record {
        size = F.size;
        least = F.least;
        most = F.most;
        few = few;
        head = λ k l m. zeros_each a 2 15 (and_left _ _ h₄) k l m;
        fit = events.0;
        said = events.1;
        gap = λ k l m. zeros_each a (17 + n) (2066 - (17 + n)) (and_left _ _ h₅) k l (omega arith);
        past = λ b k c l m s. each_half (λ b. 2066 + 2049 * b + n ≤ k → (b ≡ 0 → k < 4115) → get_or a k 0 ≡ 0)
            (λ l m. zeros_each a (2066 + n) (4115 - (2066 + n)) (and_left _ _ h₆) k l (let g = m refl in omega arith))
            (λ l m. zeros_each a (4115 + n) (16384 - (4115 + n)) h₇ k l (omega arith)) b c l m;
      }

  facts_tested : Facts a (get_or a 1 0) → tested a ≡ true
  unfolding tested framed zeros_tested
  facts_tested f =
      let p = get_or a 0 0 in
      let n = get_or a 1 0 in
      and_both _ _
      (and_both _ _ (le-leb 16384 (length a) f.size)
      (and_both _ _ (le-leb 2 p f.least)
      (and_both _ _ (le-leb p 64 f.most)
      (and_both _ _ (le-leb n 2048 f.few)
      (and_both _ _ (each_zeros a 2 15 (λ k l m. f.head k l m))
      (and_both _ _ (each_zeros a (17 + n) (2066 - (17 + n)) (λ k l m. f.gap k l (let g = f.few in omega arith)))
      (and_both _ _ (each_zeros a (2066 + n) (4115 - (2066 + n)) (λ k l m. f.past 0 k (omega arith) l (λ z. let g = f.few in omega arith) (let g = f.few in omega arith)))
      (each_zeros a (4115 + n) (16384 - (4115 + n)) (λ k l m. f.past 1 k (omega arith) l (λ z. absurd (let y : ⊥ = omega arith in y)) (let g = f.few in omega arith))))))))))
      (each_fits p a [] 1 n f.fit f.said)

  -- ---- the definition

  pub holds_facts : holds_trace a ≡ true → Facts a (get_or a 1 0)
  unfolding holds_trace well_formed held
  holds_facts h =
      let p = get_or a 0 0 in
      let n = get_or a 1 0 in
      let es = held_events a 1 n in
      let h₁ = and_right (leb 16384 (length a)) _ h in
      let fit = and_left (well_formed (held a)) _ h₁ in
      let words = words_each (table_word (held a)) a 16384 (and_right (well_formed (held a)) _ h₁) in
      let w₁ = and_right (leb 2 p) _ fit in
      let w₂ = and_right (leb p 64) _ w₁ in
      let few : n ≤ 2048 = rw (length_held a 1 n) at (leb-true (length es) 2048 (and_left _ _ w₂)) in
      record {
        size = leb-true 16384 (length a) (and_left _ _ h);
        least = leb-true 2 p (and_left _ _ fit);
        most = leb-true p 64 (and_left _ _ w₁);
        few = few;
        head = λ k l m. words k (omega arith) ∙ word_head (held a) k l (omega arith);
        fit = and_right (leb (length es) 2048) _ w₂;
        said = λ i l m. record {
          word = sym (words (16 + i) (omega arith) ∙ said_event a i l (omega arith) (omega arith));
          value = λ b c. sym (words (2065 + 2049 * b + i) (omega arith) ∙ said_value a b i c l (omega arith) (omega arith));
        };
        gap = λ k l m. words k (omega arith) ∙ said_gap a k l (omega arith);
        past = λ b k c l m s. words k s ∙ said_past a b k c l (λ z. let y = m z in omega arith);
      }

  -- each word is that of the trace
  facts_words : Facts a (get_or a 1 0) → (k : ℕ) → k < 16384 → get_or a k 0 ≡ table_word (held a) k
  unfolding held
  facts_words f k l =
      let n = get_or a 1 0 in
      let few = f.few in
      by_eq k 0 (λ e. rw e (sym (word_procs (held a)))) (λ d₀.
      by_eq k 1 (λ e. rw e (sym (word_count (held a) ∙ length_held a 1 n))) (λ d₁.
      by_lt k 17 (λ h. f.head k (omega arith) h ∙ sym (word_head (held a) k (omega arith) (omega arith))) (λ h₁.
      by_lt k (17 + n) (λ h. in_events k (k - 16) (omega arith) (omega arith) (omega arith)) (λ h₂.
      by_lt k 2066 (λ h. f.gap k h₂ h ∙ sym (said_gap a k h₂ (omega arith))) (λ h₃.
      by_lt k 4115
      (λ h. in_values 0 k (omega arith) h₃ (λ z. h) l)
      (λ h. in_values 1 k (omega arith) h (λ z. absurd (let y : ⊥ = omega arith in y)) l))))))
    where
      in_events : (k i : ℕ) → k ≡ 16 + i → 1 ≤ i → i < 1 + get_or a 1 0 → get_or a k 0 ≡ table_word (held a) k
      in_events k i e l m = let few = f.few in rw e (sym (f.said i l m).word ∙ sym (said_event a i l (omega arith) (omega arith)))

      in_value : (b k i : ℕ) → b < 2 → k ≡ 2065 + 2049 * b + i → 1 ≤ i → i < 1 + get_or a 1 0 → get_or a k 0 ≡ table_word (held a) k
      in_value b k i c e l m = let few = f.few in rw e (sym ((f.said i l m).value b c) ∙ sym (said_value a b i c l (omega arith) (omega arith)))

      -- a column of halves, up to the last event and after it
      in_values : (b k : ℕ) → b < 2 → 2066 + 2049 * b ≤ k → (b ≡ 0 → k < 4115) → k < 16384 → get_or a k 0 ≡ table_word (held a) k
      in_values b k c l m s = by_lt k (2066 + 2049 * b + get_or a 1 0)
          (λ h. in_value b k (k - (2065 + 2049 * b)) c (omega arith) (omega arith) (omega arith))
          (λ h. f.past b k c h m s ∙ sym (said_past a b k c h (λ z. let y = m z in omega arith)))

  pub facts_holds : Facts a (get_or a 1 0) → holds_trace a ≡ true
  unfolding holds_trace well_formed held
  facts_holds f =
      let p = get_or a 0 0 in
      let n = get_or a 1 0 in
      let few : length (held_events a 1 n) ≤ 2048 = rw (length_held a 1 n) f.few in
      and_both _ _ (le-leb 16384 (length a) f.size)
      (and_both _ _
      (and_both _ _ (le-leb 2 p f.least) (and_both _ _ (le-leb p 64 f.most) (and_both _ _ (le-leb (length (held_events a 1 n)) 2048 few) f.fit)))
      (each_words (table_word (held a)) a 16384 (facts_words f)))

pub tested_holds : (a : List ℕ) → tested a ≡ holds_trace a
tested_holds a = same_bool (tested a) (holds_trace a) (λ h. facts_holds a (tested_facts a h)) (λ h. facts_tested a (holds_facts a h))
