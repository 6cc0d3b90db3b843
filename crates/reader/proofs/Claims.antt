-- What the reader promises of texts and traces, over its definitions alone: each claim under the sentence of the
-- requirements that it stands for (MANUAL 2 and 6).
use Prim.Native.Nat.{ℕ, ◌<◌, ◌≤◌}
use mathlib.Core.Path.{◌≡◌, refl, sym, ap, ◌∙◌}
use mathlib.Core.Logic.{◌↔◌, ⊎_elim}
use mathlib.Core.List.{List, ◌++◌}
use mathlib.Core.Bool.{true}
use native.Mathlib.Omega.{arith}
use lib.ListN.{length}
use borrow.Author.Tests.{lt-ltb, le-ltb}
use Rattle.words.specs.Area.{area_words}
use Rattle.words.proofs.Cases.{by_lt}
use Rattle.trace.specs.Trace.{Trace}
use Rattle.trace.specs.Fit.{well_formed}
use Rattle.lines.specs.Line.{most, most_set}
use Rattle.reader.specs.Render.{render}
use Rattle.lines.specs.Render.{render_failure}
use Rattle.reader.specs.Answer.{ReadAnswer, verdict_answer, read_answer}
use Rattle.reader.specs.Failure.{FailureAnswer, Failing, refused, failing, last_failure, failure_answer_of, failure_answer}
use Rattle.reader.specs.Verdict.{Verdict, accepted, verdict}
use Rattle.reader.specs.Meaning.{ReadAccepts, FailureAccepts, FailureTold, ReadAs, FailureReadAs, TextNumber, Numbered, ReadRefuses, FailureRefuses}
use Rattle.reader.proofs.Judging.{text_number}
use Rattle.reader.proofs.Refusals.{verdict_fault, failure_fault_lem}
use Rattle.reader.proofs.Whole.{verdict_taken, render_taken, failing_taken, render_failing, refused_number, verdict_number}

-- The canonical text theorem: a text is accepted as a trace exactly where the trace is well formed and the text is its
-- rendering, byte for byte.
pub canonical : (text : List ℕ) (t : Trace) → (verdict text ≡ accepted t) ↔ ((well_formed t ≡ true) × (text ≡ render t))
canonical text t = (verdict_taken text t, λ h. ap verdict h.1 ∙ render_taken t h.0)

-- Nothing unfit is accepted.
pub accepted_fit : (text : List ℕ) (t : Trace) → verdict text ≡ accepted t → well_formed t ≡ true
accepted_fit text t e = ((canonical text t).0 e).0

-- Nothing fit is refused.
pub fit_accepted : (t : Trace) → well_formed t ≡ true → verdict (render t) ≡ accepted t
fit_accepted t w = (canonical (render t) t).1 (w, refl)

-- Each well-formed trace has exactly one text: the claim above gives one, and there is no other.
pub one_text : (a b : List ℕ) (t : Trace) → verdict a ≡ accepted t → verdict b ≡ accepted t → a ≡ b
one_text a b t e f = ((canonical a t).0 e).1 ∙ sym ((canonical b t).0 f).1

-- Two traces with one text are equal.
pub one_trace : (s t : Trace) → well_formed s ≡ true → well_formed t ≡ true → render s ≡ render t → s ≡ t
one_trace s t v w e =
    let a : verdict (render s) ≡ accepted s = fit_accepted s v in
    let b : verdict (render t) ≡ accepted t = fit_accepted t w in
    let c : verdict (render s) ≡ verdict (render t) = ap verdict e in
    cc

-- ---- The program's text, whose last line is a failure line

-- The canonical text theorem for the program: a text is accepted as a trace and a failure exactly where the trace is
-- well formed, the failure's numbers are no more than their keys can hold, and the text is the rendering of both, byte
-- for byte.
pub canonical_failing : (text : List ℕ) (t : Trace) (step set : ℕ)
    → (last_failure text ≡ failing t step set) ↔ ((well_formed t ≡ true) × (step ≤ most) × (set ≤ most_set) × (text ≡ render t ++ render_failure step set))
canonical_failing text t step set = (failing_taken text t step set, λ h. ap last_failure h.3 ∙ render_failing t step set h.0 h.1 h.2)

-- The trace before a failure line is well formed.
pub failing_fit : (text : List ℕ) (t : Trace) (step set : ℕ) → last_failure text ≡ failing t step set → well_formed t ≡ true
failing_fit text t step set e = ((canonical_failing text t step set).0 e).0

-- ---- Answers

answered_of : (text : List ℕ) (v : Verdict) → verdict text ≡ v → (verdict_answer v).number ≡ 0 → (t : Trace) × (verdict text ≡ accepted t)
answered_of text (Verdict.refused n k) e z = absurd (let q : ⊥ = omega (arith, (text_number n (verdict_number text n k e)).0) in q)
answered_of text (Verdict.accepted t) e z = (t, e)

-- "An answer has the number (0 if accepted)": what is answered with 0 is accepted as a trace, and the area is large
-- enough.
pub answered : (text a : List ℕ) → (read_answer text a).number ≡ 0 → (area_words ≤ length a) × ((t : Trace) × (verdict text ≡ accepted t))
unfolding read_answer
answered text a z =
    by_lt (length a) area_words
    (λ low. let y : ◌≡◌ {A = ℕ} 12 0 = (rw (lt-ltb (length a) area_words low) at z) in absurd (let q : ⊥ = omega arith in q))
    (λ high. (high, answered_of text (verdict text) refl (rw (le-ltb (length a) area_words high) at z)))

failing_of_lem : (text : List ℕ) (x : Failing) → last_failure text ≡ x → (failure_answer_of x).number ≡ 0
    → (t : Trace) × (last_failure text ≡ failing t (failure_answer_of x).step (failure_answer_of x).set)
failing_of_lem text (Failing.refused n k) e z = absurd (let q : ⊥ = omega (arith, (text_number n (refused_number text n k e)).0) in q)
failing_of_lem text (Failing.failing t step set) e z = (t, e)

-- The same for a text with its failure line, of which the answer has the numbers.
pub failing_answered : (text a : List ℕ) → (failure_answer text a).number ≡ 0
    → (area_words ≤ length a) × ((t : Trace) × (last_failure text ≡ failing t (failure_answer text a).step (failure_answer text a).set))
unfolding failure_answer
failing_answered text a z =
    by_lt (length a) area_words
    (λ low. let y : ◌≡◌ {A = ℕ} 12 0 = (rw (lt-ltb (length a) area_words low) at z) in absurd (let q : ⊥ = omega arith in q))
    (λ high. (high, rw (le-ltb (length a) area_words high) (failing_of_lem text (last_failure text) refl (rw (le-ltb (length a) area_words high) at z))))

-- ---- What answers mean (specs/Meaning): the contracts of `read` and `read_failure` have these of their own answers

-- "An answer has the number (0 if accepted)", both ways.
pub read_accepts : (text a : List ℕ) → ReadAccepts text (length a) (read_answer text a).number
unfolding read_answer
read_accepts text a = (
  λ z.
      let (high, (t, e)) = answered text a z in
      let (w, q) = (canonical text t).0 e in
      (high, (t, record { fit = w; bytes = q })),
  λ h. rw (le-ltb (length a) area_words h.0, (canonical text h.1.0).1 (h.1.1.fit, h.1.1.bytes)) refl,
)

pub failure_told : (text a : List ℕ) → FailureTold text (failure_answer text a)
failure_told text a z =
    let (t, e) = (failing_answered text a z).1 in
    let (w, s, m, q) = (canonical_failing text t (failure_answer text a).step (failure_answer text a).set).0 e in
    (t, record { fit = w; step_most = s; set_most = m; bytes = q })

pub failure_accepts : (text a : List ℕ) → FailureAccepts text (length a) (failure_answer text a).number
unfolding failure_answer
failure_accepts text a = (
  λ z. let (t, f) = failure_told text a z in ((failing_answered text a z).0, (t, _, _, f)),
  λ h.
      let f = h.1.3 in
      rw (le-ltb (length a) area_words h.0, (canonical_failing text h.1.0 h.1.1 h.1.2).1 (f.fit, f.step_most, f.set_most, f.bytes)) refl,
)

-- the number and the place of an answer: 12, 0, or those of a refusal
short_numbered : (size : ℕ) → size < area_words → Numbered size 12 0
short_numbered size low =
    record {
      short = (λ e. low, λ l. refl);
      numbers = λ z t. absurd (t refl);
      nowhere = λ e. refl;
    }

fit_numbered : (size : ℕ) → area_words ≤ size → Numbered size 0 0
fit_numbered size high =
    record {
      short = (λ e. omega arith, λ l. omega arith);
      numbers = λ z t. absurd (z refl);
      nowhere = λ e. refl;
    }

unfit_numbered : (size n k : ℕ) → area_words ≤ size → TextNumber n → Numbered size n k
unfit_numbered size n k high r =
    let (some, other) = text_number n r in
    record {
      short = (λ e. absurd (other e), λ l. omega arith);
      numbers = λ z t. r;
      nowhere = ⊎_elim (λ z. absurd (let q : ⊥ = omega arith in q)) (λ t. absurd (other t));
    }

read_as : (n k : ℕ) (x : List ℕ) → verdict x ≡ Verdict.refused n k → ReadAs (record { number = n; place = k }) x
unfolding read_answer
read_as n k x e a h = rw (le-ltb (length a) area_words h, e)

refuses_of : (text : List ℕ) (size : ℕ) → area_words ≤ size → (v : Verdict) → verdict text ≡ v → ReadRefuses text size (verdict_answer v)
refuses_of text size high (Verdict.refused n k) e =
    record {
      numbered = unfit_numbered size n k high (verdict_number text n k e);
      first = λ z h. verdict_fault (ReadAs (record { number = n; place = k })) text n k (read_as n k) e;
    }
refuses_of text size high (Verdict.accepted t) e = record { numbered = fit_numbered size high; first = λ z h. absurd (z refl) }

-- "The first faulty line decides the refusal and its place."
pub read_refuses : (text a : List ℕ) → ReadRefuses text (length a) (read_answer text a)
unfolding read_answer
read_refuses text a =
    by_lt (length a) area_words
    (λ low. rw (lt-ltb (length a) area_words low) (record { numbered = short_numbered (length a) low; first = λ z h. absurd (let q : ⊥ = omega arith in q) }))
    (λ high. rw (le-ltb (length a) area_words high) (refuses_of text (length a) high (verdict text) refl))

failure_read_as : (n k : ℕ) (x : List ℕ) → last_failure x ≡ refused n k → FailureReadAs (record { number = n; place = k; step = 0; set = 0 }) x
unfolding failure_answer
failure_read_as n k x e a h = rw (le-ltb (length a) area_words h, e)

failure_refuses_of : (text : List ℕ) (size : ℕ) → area_words ≤ size → (v : Failing) → last_failure text ≡ v → FailureRefuses text size (failure_answer_of v)
failure_refuses_of text size high (Failing.refused n k) e =
    record {
      numbered = unfit_numbered size n k high (refused_number text n k e);
      first = λ z h. failure_fault_lem (FailureReadAs (record { number = n; place = k; step = 0; set = 0 })) text n k (failure_read_as n k) e;
      nothing = λ z. (refl, refl);
    }
failure_refuses_of text size high (Failing.failing t step set) e =
    record { numbered = fit_numbered size high; first = λ z h. absurd (z refl); nothing = λ z. absurd (z refl) }

pub failure_refuses : (text a : List ℕ) → FailureRefuses text (length a) (failure_answer text a)
unfolding failure_answer
failure_refuses text a =
    by_lt (length a) area_words
    (λ low. rw (lt-ltb (length a) area_words low) (record { numbered = short_numbered (length a) low; first = λ z h. absurd (let q : ⊥ = omega arith in q); nothing = λ z. (refl, refl) }))
    (λ high. rw (le-ltb (length a) area_words high) (failure_refuses_of text (length a) high (last_failure text) refl))

-- ---- The same of an answer that is given by its definition, for the contracts

pub read_means : (text a : List ℕ) (r : ReadAnswer) → r ≡ read_answer text a → ReadAccepts text (length a) r.number × ReadRefuses text (length a) r
read_means text a r e = rw e (read_accepts text a, read_refuses text a)

pub failure_means : (text a : List ℕ) (r : FailureAnswer) → r ≡ failure_answer text a
    → FailureAccepts text (length a) r.number × (FailureTold text r × FailureRefuses text (length a) r)
failure_means text a r e = rw e (failure_accepts text a, (failure_told text a, failure_refuses text a))
