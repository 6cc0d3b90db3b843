-- Each way out of `report`: what is written is the report of the text.
use Prim.Native.Nat.{ℕ, ◌<◌, ◌≤◌}
use mathlib.Core.Path.{◌≡◌, refl, sym, ap, subst, ◌∙◌}
use mathlib.Core.Bool.{Bool, true, false}
use mathlib.Core.List.{List}
use mathlib.Core.Option.{some}
use native.Mathlib.Omega.{arith}
use lib.ListN.{length, get_or, take}
use lib.Seq.{length-take-le, get_or-take}
use borrow.Author.Tests.{le-ltb}
use Rattle.words.specs.Area.{area_words, words_from}
use Rattle.words.proofs.Area.{words_at_lem}
use Rattle.trace.specs.Trace.{Trace}
use Rattle.trace.specs.Fit.{well_formed}
use Rattle.trace.specs.Table.{table_word}
use Rattle.columns.specs.Inner.Columns.{trace_words, full_words, Columns, Flagged}
use Rattle.columns.specs.Inner.Given.{Marked}
use Rattle.reader.specs.Failure.{FailureAnswer, Failing, failure_answer_of, failure_answer, failure_area, last_failure}
use Rattle.reader.proofs.Claims.{failing_answered}
use Rattle.table.specs.Inner.Held.{held_trace}
use Rattle.table.proofs.Claims.{failing_held, held_iff}
use Rattle.protocol.specs.Inner.Fillable.{Fillable}
use Rattle.theory.specs.Epochs.{rule_of, logged_by}
use Rattle.theory.specs.Refusals.{failure_fault}
use Rattle.writer.specs.Inner.Puts.{Puts}
use Rattle.writer.proofs.Buffers.{same_bytes, whole}
use Rattle.report.specs.Report.{refused, given, is_refusal, Failure, failure_of, recovery_of, recovery, printed_of, reported, EndsExactly, StepsPrinted, report_bytes}
use Rattle.report.specs.Inner.Rows.{Recounts, ReportOf}
use Rattle.printing.specs.Lines.{refusal_line}
use Rattle.report.proofs.Answers.{not_given, unless_some}
use Rattle.report.proofs.Lengths.{refusal_few}

-- what is promised of bytes that answer a text, by a refusal or not
pub record Reports (bytes text : List ℕ) (refuses : Bool) : Type 0 where
  pub are : bytes ≡ reported text
  pub few : length bytes ≤ report_bytes
  pub exact : StepsPrinted text
  pub told : refuses ≡ is_refusal (recovery text)

-- from what was written to the contract
pub answered : (x text out after : List ℕ) (n : ℕ) (b : Bool) → Reports x text b → Puts x out 0 after n → ReportOf text b n out after
answered x text out after n b r h =
    let w = whole (reported text) out after n (same_bytes x (reported text) out after 0 n r.are h) in
    (r.told, (w.1, (w.0, (r.exact, rw r.are at r.few))))

-- what follows from the failure that a text tells: a refusal, or what is written of its recovery
module _ (text : List ℕ) where
  refuses : (n k : ℕ) → failure_of text ≡ refused n k → Reports (refusal_line n k) text true
  unfolding reported printed_of recovery
  refuses n k e = record { are = rw e; few = refusal_few n k; exact = λ f h. absurd (not_given n k f (sym e ∙ h)); told = rw e }

  gives : (f : Failure) (before after : List ℕ) (n : ℕ) → failure_of text ≡ given f → Recounts f before after n → Reports (printed_of (given (recovery_of f))) text false
  unfolding reported recovery
  gives f before after n e R =
      let q : printed_of (given (recovery_of f)) ≡ reported text = rw e in
      record {
        are = q;
        few = R.few;
        exact = λ g h. let same : f ≡ g = let p = sym e ∙ h in cc in subst (λ (x : Failure). EndsExactly x (reported text)) same (rw q at R.ends);
        told = rw e;
      }

-- ---- A text that is a trace and a failure

-- the full table, filled in behind the trace
pub marked : (t : Trace) (before full : List ℕ) → Fillable t before → Columns t full × Flagged t (logged_by t (rule_of t)) full → Marked t (rule_of t) full
marked t before full f c = record { tabled = record { formed = f.formed; columns = c.0 }; flags = c.1 }

module _ (text : List ℕ) (t : Trace) (step set : ℕ) (e : last_failure text ≡ Failing.failing t step set) where
  -- the failure is refused
  pub failure_refused : (fault : ℕ) → fault ≡ failure_fault t step set → (fault ≡ 0 → ⊥) → Reports (refusal_line fault 0) text true
  unfolding failure_of
  failure_refused fault hf h = refuses text fault 0 (rw (e, ← hf, unless_some fault _ h))

  -- the recovery is written
  pub recovered : 0 ≡ failure_fault t step set → (out after : List ℕ) (n : ℕ) → Recounts (record { trace = t; step = step; failed = set }) out after n → ReportOf text false n out after
  unfolding failure_of
  recovered hf out after n R = answered _ text out after n false (gives text _ out after n (rw (e, ← hf)) R) R.puts

-- ---- What `read_failure_clear` answered, and left in the area

module _ (text before : List ℕ) (room_is : length before ≡ 16384) (r : FailureAnswer) (hr : r ≡ failure_answer text before) where
  read_is : (x : Failing) → last_failure text ≡ x → r ≡ failure_answer_of x
  unfolding failure_answer
  read_is x e = hr ∙ rw (le-ltb (length before) 16384 (omega arith), e)

  -- the text is refused
  refused_of : (x : Failing) → last_failure text ≡ x → (r.number ≡ 0 → ⊥) → failure_of text ≡ refused r.number r.place
  unfolding failure_of
  refused_of (Failing.refused n k) e h = rw (read_is (Failing.refused n k) e, e)
  refused_of (Failing.failing t step set) e h = absurd (h (ap (λ (y : FailureAnswer). y.number) (read_is (Failing.failing t step set) e)))

  pub text_refused : (r.number ≡ 0 → ⊥) → Reports (refusal_line r.number r.place) text true
  text_refused h = refuses text r.number r.place (refused_of (last_failure text) refl h)

  -- the text is a trace and a failure, and the trace stands in the area
  pub trace_read : r.number ≡ 0 → (a : List ℕ) → a ≡ failure_area text before
      → (area_words ≤ length a) × ((t : Trace) × Fillable t (take full_words a) × (last_failure text ≡ Failing.failing t r.step r.set))
  trace_read z a ha = (words.0, (told.0, record { whole = length-take-le 14359 a (omega (arith, words.0)); formed = words.1; words = word }, told.1))
    where
      told : (t : Trace) × (last_failure text ≡ Failing.failing t r.step r.set)
      told = rw hr (failing_answered text before (rw hr at z)).1

      words : (16384 ≤ length a) × (well_formed told.0 ≡ true) × (take 16384 a ≡ words_from (table_word told.0) 0 16384)
      words = (held_iff a told.0).0 (subst (λ (x : List ℕ). held_trace x ≡ some told.0) (sym ha) (failing_held text before told.0 r.step r.set told.1 (omega arith)))

      word : (k : ℕ) → k < trace_words → get_or (take full_words a) k 0 ≡ table_word told.0 k
      word k h =
          get_or-take 14359 a k 0 (omega arith) ∙ sym (get_or-take 16384 a k 0 (omega arith)) ∙ ap (λ (w : List ℕ). get_or w k 0) words.2
          ∙ words_at_lem (table_word told.0) 16384 k (omega arith)
