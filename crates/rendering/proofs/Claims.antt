-- What writing promises, over definitions alone: each claim under the sentence of the requirements that it stands for
-- (MANUAL 7.3).
use Prim.Native.Nat.{ℕ, ◌<◌, ◌≤◌}
use mathlib.Core.Path.{◌≡◌, refl, sym, ap, ◌∙◌}
use mathlib.Core.Bool.{true, false}
use mathlib.Core.Option.{some}
use mathlib.Core.List.{List, ◌++◌}
use native.Mathlib.Omega.{arith}
use native.Mathlib.Nat.{min-le_right}
use lib.ListN.{length, take, drop, length-take}
use lib.Seq.{length-take-le, take-append_seam}
use borrow.Author.Tests.{lt-ltb, le-ltb, ne_eqb}
use Rattle.words.specs.Area.{area_words}
use Rattle.words.proofs.Cases.{by_bool, by_lt}
use Rattle.trace.specs.Trace.{Trace}
use Rattle.lines.specs.Line.{most, most_set}
use Rattle.lines.specs.Render.{render_failure}
use Rattle.reader.specs.Answer.{read_answer, read_area}
use Rattle.reader.specs.Failure.{failing, last_failure, failure_answer, failure_area}
use Rattle.reader.specs.Verdict.{accepted, verdict}
use Rattle.reader.specs.Render.{render}
use Rattle.reader.proofs.Claims.{canonical, canonical_failing, fit_accepted, answered, failing_answered}
use Rattle.table.specs.Held.{held, holds_trace}
use Rattle.table.specs.Inner.Held.{held_trace}
use Rattle.table.proofs.Holding.{told, held_self, same_front}
use Rattle.table.proofs.Claims.{held_iff, read_held, failing_held}
use Rattle.rendering.specs.Write.{WriteAnswer, text_of, write_fault, write_answer, write_buffer}
use Rattle.rendering.specs.Meaning.{SameArea, Restores, RestoresFailing, ComesBack, RoundTrip}
use Rattle.rendering.proofs.Lengths.{text_few}

read_zero : (text b : List ℕ) (t : Trace) → verdict text ≡ accepted t → area_words ≤ length b → read_answer text b ≡ record { number = 0; place = 0 }
unfolding read_answer
read_zero text b t e l = rw (le-ltb (length b) area_words l, e)

-- "Reading that text must restore the same area"
pub restores : (a : List ℕ) → holds_trace a ≡ true → Restores a (text_of a)
unfolding text_of
restores a h =
    let (size, fit, words) = (held_iff a (held a)).0 (held_self a h) in
    let text = render (held a) in
    let e = fit_accepted (held a) fit in
    record {
      accepted = λ b l. read_zero text b (held a) e l;
      same = λ b l. ((held_iff (read_area text b) (held a)).0 (read_held text b (held a) e l)).2 ∙ sym words;
    }

failing_zero : (text b : List ℕ) (t : Trace) (step set : ℕ) → last_failure text ≡ failing t step set → area_words ≤ length b
    → failure_answer text b ≡ record { number = 0; place = 0; step = step; set = set }
unfolding failure_answer
failing_zero text b t step set e l = rw (le-ltb (length b) area_words l, e)

-- "the `fail` line being outside it": the same with a failure line put after the text.
pub restores_failing : (a : List ℕ) (step set : ℕ) → holds_trace a ≡ true → step ≤ most → set ≤ most_set → RestoresFailing a (text_of a) step set
unfolding text_of
restores_failing a step set h hs hm =
    let (size, fit, words) = (held_iff a (held a)).0 (held_self a h) in
    let text = render (held a) ++ render_failure step set in
    let e = (canonical_failing text (held a) step set).1 (fit, hs, hm, refl) in
    record {
      accepted = λ b l. failing_zero text b (held a) step set e l;
      same = λ b l. ((held_iff (failure_area text b) (held a)).0 (failing_held text b (held a) step set e l)).2 ∙ sym words;
    }

-- an area with the first words of one that holds a trace
same_holds : (a b : List ℕ) (t : Trace) → held_trace b ≡ some t → SameArea b a → (holds_trace a ≡ true) × (held a ≡ t)
same_holds a b t h e =
    let long : area_words ≤ length b = ((held_iff b t).0 h).0 in
    let n : length (take area_words a) ≡ area_words = sym (ap length e) ∙ length-take-le area_words b long in
    let m : area_words ≤ length a = rw (sym n ∙ length-take area_words a) (min-le_right area_words (length a)) in
    told a t (same_front b a long m e t h)

-- "writing after reading must return the same bytes": a text that was accepted is that of the area it left.
pub returns : (text a b : List ℕ) → (read_answer text b).number ≡ 0 → SameArea (read_area text b) a → (holds_trace a ≡ true) × (text ≡ text_of a)
unfolding text_of
returns text a b z s =
    let (l, (t, e)) = answered text b z in
    let (holds, same) = same_holds a (read_area text b) t (read_held text b t e l) s in
    (holds, ((canonical text t).0 e).1 ∙ ap render (sym same))

-- "the `fail` line being outside it": a text that was accepted with its failure line is that of the area it left, and
-- that line.
pub returns_failing : (text a b : List ℕ) → (failure_answer text b).number ≡ 0 → SameArea (failure_area text b) a
    → (holds_trace a ≡ true) × (text ≡ text_of a ++ render_failure (failure_answer text b).step (failure_answer text b).set)
unfolding text_of
returns_failing text a b z s =
    let step = (failure_answer text b).step in
    let set = (failure_answer text b).set in
    let (l, (t, e)) = failing_answered text b z in
    let (holds, same) = same_holds a (failure_area text b) t (failing_held text b t step set e l) s in
    (holds, ((canonical_failing text t step set).0 e).3 ∙ ap (λ (u : Trace). render u ++ render_failure step set) (sym same))

-- ---- What is answered, and what is left

module _ (a : List ℕ) where
  pub area_short : (n : ℕ) → length a < area_words → write_fault a n ≡ 12
  unfolding write_fault
  area_short n h = rw (lt-ltb (length a) area_words h)

  pub area_unheld : (n : ℕ) → area_words ≤ length a → holds_trace a ≡ false → write_fault a n ≡ 13
  unfolding write_fault
  area_unheld n l h = rw (le-ltb (length a) area_words l, h)

  module _ (n : ℕ) (l : area_words ≤ length a) (h : holds_trace a ≡ true) where
    pub buffer_short : n < length (text_of a) → write_fault a n ≡ 14
    unfolding write_fault
    buffer_short s = rw (le-ltb (length a) area_words l, h, lt-ltb n (length (text_of a)) s)

    pub all_fit : length (text_of a) ≤ n → write_fault a n ≡ 0
    unfolding write_fault
    all_fit s = rw (le-ltb (length a) area_words l, h, le-ltb n (length (text_of a)) s)

-- The text of an area that holds a trace comes, or 14.
comes : (a out : List ℕ) → holds_trace a ≡ true → ComesBack (text_of a) out (write_answer a (length out)) (write_buffer a out)
unfolding write_answer write_buffer
comes a out h =
    let l : area_words ≤ length a = ((held_iff a (held a)).0 (held_self a h)).0 in
    record {
      whole = λ s. let f = all_fit a (length out) l h s in (rw f, rw f);
      short = λ s. let f = buffer_short a (length out) l h s in (rw f, rw f);
    }

-- the number is below 14, or the area holds a trace and its text has room or has none
by_fault : {A : Type 0} (a : List ℕ) (n : ℕ) → (write_fault a n ≡ 12 → A) → (write_fault a n ≡ 13 → A)
    → (holds_trace a ≡ true → n < length (text_of a) → write_fault a n ≡ 14 → A) → (holds_trace a ≡ true → write_fault a n ≡ 0 → A) → A
by_fault a n f₁₂ f₁₃ f₁₄ f₀ =
    by_lt (length a) area_words
    (λ s. f₁₂ (area_short a n s))
    (λ l. by_bool (holds_trace a)
    (λ h. by_lt n (length (text_of a)) (λ s. f₁₄ h s (buffer_short a n l h s)) (λ s. f₀ h (all_fit a n l h s)))
    (λ h. f₁₃ (area_unheld a n l h)))

-- where nothing is wrong, the area holds a trace
fault_0 : (a : List ℕ) (n : ℕ) → write_fault a n ≡ 0 → holds_trace a ≡ true
fault_0 a n z =
    by_fault a n (λ e. absurd (let q : ⊥ = omega arith in q)) (λ e. absurd (let q : ⊥ = omega arith in q))
    (λ h s e. absurd (let q : ⊥ = omega arith in q)) (λ h e. h)

-- 14 is said only of an area that holds a trace, whose text is longer than the buffer
fault_14 : (a : List ℕ) (n : ℕ) → write_fault a n ≡ 14 → (holds_trace a ≡ true) × (n < length (text_of a))
fault_14 a n z =
    by_fault a n (λ e. absurd (let q : ⊥ = omega arith in q)) (λ e. absurd (let q : ⊥ = omega arith in q))
    (λ h s e. (h, s)) (λ h e. absurd (let q : ⊥ = omega arith in q))

-- ---- Each part of `RoundTrip`

module _ (a out : List ℕ) where
  abbrev r : WriteAnswer
  r = write_answer a (length out)

  -- the bytes written are the text
  bytes_are : r.number ≡ 0 → take r.length (write_buffer a out) ≡ text_of a
  unfolding write_answer write_buffer
  bytes_are z = rw (z, take-append_seam (text_of a) (drop (length (text_of a)) out))

  fit : r.number ≡ 0 → holds_trace a ≡ true
  unfolding write_answer
  fit z = fault_0 a (length out) z

  shut_out : r.number ≡ 14 → (holds_trace a ≡ true) × (length out < length (text_of a))
  unfolding write_answer
  shut_out = fault_14 a (length out)

  as_it_was : (r.number ≡ 0 → ⊥) → (r.place ≡ 0) × (r.length ≡ 0) × (write_buffer a out ≡ out)
  unfolding write_answer write_buffer
  as_it_was h = let e = ne_eqb (write_fault a (length out)) 0 h in (refl, rw e, rw e)

  -- Both ways, for every area and every buffer.
  pub round_trip : RoundTrip a out r (write_buffer a out)
  round_trip = record {
    restores = λ z. rw (bytes_are z) (restores a (fit z));
    restores_failing = λ z step set hs hm. rw (bytes_are z) (restores_failing a step set (fit z) hs hm);
    returns = λ text b z s. let (h, e) = returns text a b z s in rw e (comes a out h);
    returns_failing = λ text b z s. let (h, e) = returns_failing text a b z s in (text_of a, e, comes a out h);
    too_short = λ z. let (h, s) = shut_out z in (text_of a, restores a h, s);
    enough = λ l z. let (h, s) = shut_out z in omega (arith, text_few a h);
    nothing = as_it_was;
  }
