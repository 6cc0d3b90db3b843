-- The words of the trace that an area says, and the event that a fit event's words say.
use Prim.Native.Nat.{ℕ, zero, suc, ◌+◌, ◌-◌, ◌*◌, ◌%◌, ◌<◌, ◌≤◌}
use mathlib.Core.Path.{◌≡◌, refl, sym, ap, ◌∙◌}
use mathlib.Core.List.{List, [], ◌∷◌, ◌++◌, map}
use mathlib.Core.Bool.{true}
use native.Mathlib.Omega.{arith}
use lib.Dec.{eqb}
use lib.ListN.{length, get_or, length-map, get_or-eq_default}
use borrow.Author.Tests.{leb-true, eqb-true}
use Rattle.words.specs.Halves.{half, from_halves}
use Rattle.words.proofs.Cases.{and_left, and_right}
use Rattle.words.proofs.Halves.{halves_back}
use Rattle.trace.specs.declared.Event.{Event}
use Rattle.trace.specs.declared.Event.TheVariants.{Send, Recv, Save, Done}
use Rattle.trace.specs.Fit.{event_fault, value_fits, all_fit}
use Rattle.trace.specs.Table.{word_of, process_in, value_word, table_word}
use Rattle.trace.proofs.Places.{word_event, word_value, word_at, word_peer, word_top}
use Rattle.trace.proofs.Faults.{send_fit, recv_fit, save_fit, done_fit}
use Rattle.table.specs.Held.{event_of, held_event, held_events, held}
use Rattle.table.proofs.Turns.{event_send, event_recv, event_save, event_done}

-- past the last event a column is 0
past : (f : Event → ℕ) (es : List Event) (j : ℕ) → length es ≤ j → get_or (map f es) j 0 ≡ 0
past f es j h = get_or-eq_default (map f es) 0 {n = j} (rw (length-map es f) h)

pub length_held : (a : List ℕ) (i n : ℕ) → length (held_events a i n) ≡ n
unfolding held_events
length_held a i zero = refl
length_held a i (suc n) = ap suc (length_held a (suc i) n)

held_plane : (f : Event → ℕ) (a : List ℕ) (i n j k : ℕ) → k ≡ i + j → j < n → get_or (map f (held_events a i n)) j 0 ≡ f (held_event a k)
unfolding held_events
held_plane f a i zero j k e h = absurd (let z : ⊥ = omega arith in z)
held_plane f a i (suc n) zero k e h = ap (λ (x : ℕ). f (held_event a x)) (omega arith)
held_plane f a i (suc n) (suc j) k e h = held_plane f a (suc i) n j k (omega arith) (omega arith)

-- the words of the trace that an area says
module _ (a : List ℕ) where
  pub said_event : (i : ℕ) → 1 ≤ i → i ≤ get_or a 1 0 → i ≤ 2048 → table_word (held a) (16 + i) ≡ word_of (held_event a i)
  unfolding held
  said_event i l h few = word_event (held a) (i - 1) (16 + i) (omega arith) (omega arith) ∙ held_plane word_of a 1 (get_or a 1 0) (i - 1) i (omega arith) (omega arith)

  pub said_value : (b i : ℕ) → b < 2 → 1 ≤ i → i ≤ get_or a 1 0 → i ≤ 2048 → table_word (held a) (2065 + 2049 * b + i) ≡ value_word b (held_event a i)
  unfolding held
  said_value b i c l h few =
      word_value (held a) b (i - 1) (2065 + 2049 * b + i) c (omega arith) (λ z. omega arith)
      ∙ held_plane (value_word b) a 1 (get_or a 1 0) (i - 1) i (omega arith) (omega arith)

  pub said_gap : (k : ℕ) → 17 + get_or a 1 0 ≤ k → k ≤ 2065 → table_word (held a) k ≡ 0
  unfolding held
  said_gap k l h =
      word_event (held a) (k - 17) k (omega arith) h
      ∙ past word_of (held_events a 1 (get_or a 1 0)) (k - 17) (rw (length_held a 1 (get_or a 1 0)) (omega arith))

  -- after the last event, in a column of halves
  pub said_past : (b k : ℕ) → b < 2 → 2066 + 2049 * b + get_or a 1 0 ≤ k → (b ≡ 0 → k ≤ 4114) → table_word (held a) k ≡ 0
  unfolding held
  said_past b k c l h =
      let j = k - (2066 + 2049 * b) in
      word_value (held a) b j k c (omega arith) h
      ∙ past (value_word b) (held_events a 1 (get_or a 1 0)) j (rw (length_held a 1 (get_or a 1 0)) (omega arith))

-- a fit event is the one that its words say
event_back : (n : ℕ) (before : List Event) (e : Event) → n ≤ 64 → event_fault n before e ≡ 0 → value_fits e ≡ true
    → event_of (word_of e) (from_halves (value_word 0 e) (value_word 1 e)) ≡ e
event_back n before (Send at to val) r z v =
    let f = send_fit n before at to val z in
    let w = at % 64 + 64 * (to % 64) + 4096 in
    let value = halves_back val (leb-true val 18446744073709551615 v) in
    sym (event_send w (from_halves (half 0 val) (half 1 val)) (word_top at to 1 w (omega arith) (omega arith) refl))
    ∙ rw (word_at at to 1 w (omega arith) (omega arith) refl, word_peer at to 1 w (omega arith) (omega arith) refl, value)
event_back n before (Recv at from) r z v =
    let f = recv_fit n before at from z in
    let w = at % 64 + 64 * (from % 64) + 8192 in
    let kind = word_top at from 2 w (omega arith) (omega arith) refl in
    sym (event_recv w _ (λ k. omega arith) kind)
    ∙ rw (word_at at from 2 w (omega arith) (omega arith) refl, word_peer at from 2 w (omega arith) (omega arith) refl)
event_back n before (Save at) r z v =
    let f = save_fit n before at z in
    let w = at % 64 + 12288 in
    let p : process_in w ≡ at = omega arith in
    sym (event_save w _ (λ k. omega arith) (λ k. omega arith) (omega arith)) ∙ rw p
event_back n before (Done at) r z v =
    let f = done_fit n before at z in
    let w = at % 64 in
    let p : process_in w ≡ at = omega arith in
    sym (event_done w _ (λ k. omega arith) (λ k. omega arith) (λ k. omega arith)) ∙ rw p

-- fit events are those that an area with their words says
pub events_back : (n : ℕ) (before : List Event) (a : List ℕ) (i : ℕ) (es : List Event) → n ≤ 64 → all_fit n before es ≡ true
    → ((j k : ℕ) → k ≡ i + j → j < length es → get_or a (16 + k) 0 ≡ get_or (map word_of es) j 0)
    → ((b j k : ℕ) → b < 2 → k ≡ i + j → j < length es → get_or a (2065 + 2049 * b + k) 0 ≡ get_or (map (value_word b) es) j 0)
    → held_events a i (length es) ≡ es
unfolding held_events all_fit
events_back n before a i [] r f words values = refl
events_back n before a i (e ∷ es) r f words values =
    let fit = eqb-true (event_fault n before e) 0 (and_left _ _ f) in
    let rest = and_right (eqb (event_fault n before e) 0) _ f in
    let x : held_event a i ≡ e =
    rw (words 0 i (omega arith) (omega arith), values 0 0 i (omega arith) (omega arith) (omega arith), values 1 0 i (omega arith) (omega arith) (omega arith)) (event_back n before e r fit (and_left (value_fits e) _ rest)) in
    let y : held_events a (suc i) (length es) ≡ es =
    events_back n (before ++ e ∷ []) a (suc i) es r (and_right (value_fits e) _ rest)
    (λ j k q l. words (suc j) k (omega arith) (omega arith)) (λ b j k c q l. values b (suc j) k c (omega arith) (omega arith)) in
    rw (x, y)
