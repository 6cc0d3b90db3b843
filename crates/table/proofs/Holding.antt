-- From the words of an area to the trace that it holds, and from a reading to the words: what the claims are made of.
use Prim.Native.Nat.{ℕ, ◌+◌, ◌*◌, ◌<◌, ◌≤◌}
use mathlib.Core.Path.{◌≡◌, refl, sym, ap, ◌∙◌}
use mathlib.Core.List.{List, [], ◌++◌}
use mathlib.Core.Bool.{true, false}
use mathlib.Core.Option.{Option, none, some}
use native.Mathlib.Omega.{arith}
use lib.Dec.{leb}
use lib.ListN.{length, get_or, take, drop, replicate, length-append, take-append-drop, get_or-replicate}
use lib.Seq.{length-take-le, get_or-take, take_at, take_all}
use borrow.Author.Tests.{leb-true, le-leb, le-ltb}
use Rattle.words.specs.Area.{words_from, ruled}
use Rattle.words.proofs.Area.{length_words, words_at_lem, words_ext}
use Rattle.words.proofs.Cases.{by_bool, cond_some, and_left, and_right, and_both}
use Rattle.trace.specs.Trace.{Trace}
use Rattle.trace.specs.Fit.{well_formed}
use Rattle.trace.specs.Table.{table_word}
use Rattle.reader.specs.Failure.{failing, last_failure, failure_area}
use Rattle.reader.specs.Verdict.{accepted, verdict}
use Rattle.reader.specs.Answer.{read_area}
use Rattle.table.specs.Held.{held_events, held, holds_trace}
use Rattle.table.specs.Inner.Held.{held_trace}
use Rattle.trace.proofs.Places.{word_procs, word_count, word_event, word_value}
use Rattle.table.proofs.Places.{events_back}
use Rattle.table.proofs.Testing.{words_each, each_words, holds_facts}

-- ---- `held_trace` and `holds_trace`

module _ (a : List ℕ) where
  pub told : (t : Trace) → held_trace a ≡ some t → (holds_trace a ≡ true) × (held a ≡ t)
  unfolding held_trace
  told t h = cond_some (holds_trace a) (held a) t h

  pub held_self : holds_trace a ≡ true → held_trace a ≡ some (held a)
  unfolding held_trace
  held_self h = rw h

-- ---- an area's first words, as a list and place by place

module _ (f : ℕ → ℕ) (a : List ℕ) (size : 16384 ≤ length a) where
  rule_words : ((k : ℕ) → k < 16384 → get_or a k 0 ≡ f k) → take 16384 a ≡ words_from f 0 16384
  rule_words h = words_ext f 16384 (take 16384 a) (length-take-le 16384 a size) (λ k l. get_or-take 16384 a k 0 l ∙ h k l)

  words_rule : take 16384 a ≡ words_from f 0 16384 → (k : ℕ) → k < 16384 → get_or a k 0 ≡ f k
  words_rule e k l = sym (get_or-take 16384 a k 0 l) ∙ ap (λ (x : List ℕ). get_or x k 0) e ∙ words_at_lem f 16384 k l

-- ---- an area that holds a trace, and its words

module _ (a : List ℕ) where
  pub words_of : (t : Trace) → held_trace a ≡ some t → (16384 ≤ length a) × (well_formed t ≡ true) × (take 16384 a ≡ words_from (table_word t) 0 16384)
  unfolding holds_trace
  words_of t h =
      let (holds, same) = told a t h in
      let rest = and_right (leb 16384 (length a)) _ holds in
      let size = leb-true 16384 (length a) (and_left _ _ holds) in
      let words = words_each (table_word (held a)) a 16384 (and_right (well_formed (held a)) _ rest) in
      (size, rw same at (and_left (well_formed (held a)) _ rest), rw same at (rule_words (table_word (held a)) a size words))

  -- an area with the words of a well-formed trace, up to the high half of event 2,048, says this trace
  module _ (t : Trace) (fit : well_formed t ≡ true) (words : (k : ℕ) → k < 6163 → get_or a k 0 ≡ table_word t k) where
    pub same_trace : held a ≡ t
    unfolding held well_formed
    same_trace =
        let p = t.procs in
        let n = length t.events in
        let w₁ = and_right (leb 2 p) _ fit in
        let w₂ = and_right (leb p 64) _ w₁ in
        let few : n ≤ 2048 = leb-true n 2048 (and_left _ _ w₂) in
        let procs : get_or a 0 0 ≡ p = words 0 (omega arith) ∙ word_procs t in
        let count : get_or a 1 0 ≡ n = words 1 (omega arith) ∙ word_count t in
        let events : held_events a 1 n ≡ t.events =
        events_back p [] a 1 t.events (leb-true p 64 (and_left _ _ w₁)) (and_right (leb n 2048) _ w₂)
        (λ j k e l. words (16 + k) (omega arith) ∙ word_event t j (16 + k) (omega arith) (omega arith))
        (λ b j k c e l. words (2065 + 2049 * b + k) (omega arith) ∙ word_value t b j (2065 + 2049 * b + k) c (omega arith) (λ z. omega arith)) in
        rw (procs, count, events)

  pub held_of : (t : Trace) → 16384 ≤ length a → well_formed t ≡ true → take 16384 a ≡ words_from (table_word t) 0 16384 → held_trace a ≡ some t
  unfolding holds_trace
  held_of t size fit e =
      let words = words_rule (table_word t) a size e in
      let same = same_trace t fit (λ k l. words k (omega arith)) in
      let holds : holds_trace a ≡ true =
      and_both _ _ (le-leb 16384 (length a) size) (rw same (and_both _ _ fit (each_words (table_word t) a 16384 words))) in
      held_self a holds ∙ ap some same

-- the words of a rule are an area of their own
pub rule_area : (f : ℕ → ℕ) → (16384 ≤ length (words_from f 0 16384)) × (take 16384 (words_from f 0 16384) ≡ words_from f 0 16384)
rule_area f = let l = length_words f 0 16384 in (omega arith, take_all 16384 (words_from f 0 16384) (omega arith))

-- ---- what a reading leaves

-- the words of a trace before the rest of an area
pub ruled_held : (a : List ℕ) (t : Trace) → well_formed t ≡ true → 16384 ≤ length a → held_trace (ruled (table_word t) 16384 a) ≡ some t
unfolding ruled
ruled_held a t w l =
    let f = table_word t in
    held_of (words_from f 0 16384 ++ drop 16384 a) t
    (rw (length-append (words_from f 0 16384) (drop 16384 a), length_words f 0 16384) (omega arith)) w
    (take_at (words_from f 0 16384) (drop 16384 a) 16384 (length_words f 0 16384))

pub read_ruled : (text a : List ℕ) (t : Trace) → verdict text ≡ accepted t → 16384 ≤ length a → read_area text a ≡ ruled (table_word t) 16384 a
unfolding read_area
read_ruled text a t e l = rw (le-ltb (length a) 16384 l, e)

pub failing_ruled : (text a : List ℕ) (t : Trace) (step set : ℕ) → last_failure text ≡ failing t step set → 16384 ≤ length a
    → failure_area text a ≡ ruled (table_word t) 16384 a
unfolding failure_area
failing_ruled text a t step set e l = rw (le-ltb (length a) 16384 l, e)

pub ruled_same : (a : List ℕ) (t : Trace) → take 16384 a ≡ words_from (table_word t) 0 16384 → ruled (table_word t) 16384 a ≡ a
unfolding ruled
ruled_same a t h = ap (λ (x : List ℕ). x ++ drop 16384 a) (sym h) ∙ take-append-drop 16384 a

-- ---- words past 16,384

-- what a longer or another area holds, by its first words
pub same_front : (a b : List ℕ) → 16384 ≤ length a → 16384 ≤ length b → take 16384 a ≡ take 16384 b → (t : Trace) → held_trace a ≡ some t → held_trace b ≡ some t
same_front a b la lb e t h = let w = words_of a t h in held_of b t lb w.1 (sym e ∙ w.2)

-- two areas that hold the same traces
pub same_held : (x y : Option Trace) → ((t : Trace) → x ≡ some t → y ≡ some t) → ((t : Trace) → y ≡ some t → x ≡ some t) → x ≡ y
same_held none none f g = refl
same_held none (some t) f g = g t refl
same_held (some t) y f g = sym (f t refl)

-- ---- the zero area

-- fewer than two processes are no trace's
few_processes : (a : List ℕ) → get_or a 0 0 < 2 → holds_trace a ≡ false
few_processes a l = by_bool (holds_trace a) (λ h. let f = holds_facts a h in absurd (let z : ⊥ = omega (arith, f.least) in z)) (λ h. h)

pub zero_not_held : (a : List ℕ) → take 16384 a ≡ replicate 16384 0 → (holds_trace a ≡ false) × (held_trace a ≡ none)
unfolding held_trace
zero_not_held a z =
    let first : get_or a 0 0 ≡ 0 = sym (get_or-take 16384 a 0 0 (omega arith)) ∙ ap (λ (x : List ℕ). get_or x 0 0) z ∙ get_or-replicate {A = ℕ} 16384 0 0 0 (omega arith) in
    let no = few_processes a (omega arith) in
    (no, rw no)
