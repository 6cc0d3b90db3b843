-- What a refusal means: from the pieces of the text to the line that is at fault (specs/Meaning).
use Prim.Native.Nat.{ℕ, ◌+◌, ◌<◌, ◌≤◌}
use mathlib.Core.Path.{◌≡◌, refl, sym, ap, subst, ◌∙◌}
use mathlib.Core.Logic.{◌⊎◌, inl, inr}
use mathlib.Core.List.{List, [], ◌∷◌, ◌++◌, append_assoc, append-nil}
use mathlib.Core.Bool.{true}
use native.Mathlib.Omega.{arith}
use lib.ListN.{length}
use borrow.Author.Tests.{lt-ltb, le-ltb}
use Rattle.words.proofs.Cases.{and_left}
use Rattle.text.specs.Number.{decimal}
use Rattle.trace.specs.declared.Event.{Event}
use Rattle.trace.specs.declared.Event.TheVariants.{Send, Recv, Save, Done}
use Rattle.trace.specs.Trace.{Trace, extended}
use Rattle.trace.specs.Fit.{well_formed}
use Rattle.lines.specs.declared.Line.{Line}
use Rattle.lines.specs.Line.{k_procs, line_said, most, most_set}
use Rattle.lines.specs.Render.{render_event, render_failure, KeysHold}
use Rattle.lines.proofs.OneLine.{Says, failure_text, failure_text_lem, line_says, procs_line, event_line, failure_line}
use Rattle.reader.specs.Render.{render}
use Rattle.reader.specs.Verdict.{pieces, fault_here, judge, Scan, after_line, lines_from, first_line, scan_pieces, scan, Verdict, verdict_of, verdict}
use Rattle.reader.specs.Failure.{Failing, failing_of, last_failure}
use Rattle.reader.specs.Meaning.{CountFault, EventFault, AtFault, FirstFault, LaterFault, PastFailure}
use Rattle.reader.proofs.Judging.{judged_number, text_number, fault_range, event_number, unfit_number}
use Rattle.reader.proofs.Turns.{with_lf, first_lf}
use Rattle.lines.proofs.Plain.{plain, plain_failure}
use Rattle.reader.proofs.Pieces.{joined, line_piece, plain_piece, plains}
use Rattle.reader.proofs.Events.{Wrong, Misjudged, judge_event_lem}
use Rattle.reader.proofs.Whole.{Miscount, Taken, scan_taken, rendered_read, last_refused}
use Rattle.reader.proofs.Verdicts.{follows}
use Rattle.lines.specs.declared.Line as line

-- ---- What is wrong with a line

no_count : (l : List ℕ) (n : ℕ) → ((m : ℕ) → m ≤ most → l ≡ k_procs ++ decimal m → ⊥) → (x : Line) → Says l x → Miscount x n → n ≡ 1
no_count l n none (line.TheVariants.Procs m) s h = absurd (none m s.1 s.0)
no_count l n none (line.TheVariants.Send at to val) s h = h
no_count l n none (line.TheVariants.Recv at from) s h = h
no_count l n none (line.TheVariants.Save at) s h = h
no_count l n none (line.TheVariants.Done at) s h = h
no_count l n none (line.TheVariants.Failure step set) s h = h
no_count l n none line.TheVariants.Malformed s h = h

count_fault : (l : List ℕ) (n : ℕ) → Miscount (line_said l) n → CountFault l n
count_fault l n h =
    record {
      range = λ m k q. subst (λ (x : Line). Miscount x n) (ap line_said q ∙ procs_line m k) h;
      form = λ none. no_count l n none (line_said l) (line_says l) h;
    }

no_event : (u : Trace) (l : List ℕ) → ((e : Event) → KeysHold e → l ≡ render_event e → ⊥) → (x : Line) → Says l x → judged_number (judge u x) ≡ 1
unfolding judge
no_event u l none (line.TheVariants.Procs m) s = refl
no_event u l none (line.TheVariants.Send at to val) s = absurd (none (Send at to val) s.1 s.0)
no_event u l none (line.TheVariants.Recv at from) s = absurd (none (Recv at from) s.1 s.0)
no_event u l none (line.TheVariants.Save at) s = absurd (none (Save at) s.1 s.0)
no_event u l none (line.TheVariants.Done at) s = absurd (none (Done at) s.1 s.0)
no_event u l none (line.TheVariants.Failure step set) s = refl
no_event u l none line.TheVariants.Malformed s = refl

event_fault_lem : (u : Trace) (l : List ℕ) (n : ℕ) → judged_number (judge u (line_said l)) ≡ n → 1 ≤ n → EventFault u l n
event_fault_lem u l n h some =
    record {
      rule = λ e k q.
          let f : n ≡ fault_here u e =
          sym h ∙ ap (λ (x : Line). judged_number (judge u x)) (ap line_said q ∙ event_line e k) ∙ ap judged_number (judge_event_lem u e) ∙ event_number u e in
          let r = fault_range u e (λ z. omega arith) in
          (f, omega (arith, r.0));
      form = λ none. sym h ∙ no_event u l none (line_said l) (line_says l);
    }

-- ---- Whatever follows the line

miscount_refused : (x : Line) (n : ℕ) (next : ℕ → Scan) → Miscount x n → first_line x next ≡ Scan.refused n 1
miscount_refused (line.TheVariants.Procs m) n next (e, inl low) = rw (e, lt-ltb m 2 low)
miscount_refused (line.TheVariants.Procs m) n next (e, inr high) = rw (e, le-ltb m 2 (omega arith), lt-ltb 64 m high)
miscount_refused (line.TheVariants.Send at to val) n next h = rw h
miscount_refused (line.TheVariants.Recv at from) n next h = rw h
miscount_refused (line.TheVariants.Save at) n next h = rw h
miscount_refused (line.TheVariants.Done at) n next h = rw h
miscount_refused (line.TheVariants.Failure step set) n next h = rw h
miscount_refused line.TheVariants.Malformed n next h = rw h

first_same : (l : List ℕ) (n : ℕ) → plain l ≡ true → Miscount (line_said l) n → (more : List ℕ) → scan (l ++ 10 ∷ more) ≡ Scan.refused n 1
unfolding scan
first_same l n p h more = ap scan_pieces (line_piece l more p) ∙ first_lf l more ∙ miscount_refused (line_said l) n _ h

module _ (u : Trace) (fit : well_formed u ≡ true) (l : List ℕ) (p : plain l ≡ true) (more : List ℕ) where
  later_line : scan (render u ++ (l ++ 10 ∷ more)) ≡ after_line (judge u (line_said l)) u (length u.events + 2) (pieces more) (λ e. lines_from (extended u e) (length u.events + 2 + 1) (pieces more))
  later_line =
      rendered_read u (l ++ 10 ∷ more) fit
      ∙ ap (lines_from u (length u.events + 2)) (line_piece l more p)
      ∙ with_lf u (length u.events + 2) l more

  later_unfit : (n : ℕ) → Misjudged u l n → scan (render u ++ (l ++ 10 ∷ more)) ≡ Scan.refused n (length u.events + 2)
  later_unfit n w = later_line ∙ rw w

later_fails : (u : Trace) → well_formed u ≡ true → (step set : ℕ) → step ≤ most → set ≤ most_set → (more : List ℕ)
    → scan (render u ++ (failure_text step set ++ 10 ∷ more)) ≡ Scan.stopped u step set (length u.events + 2) (pieces more)
unfolding judge
later_fails u fit step set h i more = later_line u fit (failure_text step set) (plain_failure step set) more ∙ rw (failure_line step set h i)

-- ---- The line at fault

module _ (Fault P : List ℕ → ℕ → Type 0) (Same : List ℕ → Type 0) (n : ℕ) (means : (l : List ℕ) → P l n → Fault l n)
    (again : (l : List ℕ) → plain l ≡ true → P l n → (more : List ℕ) → Same (l ++ 10 ∷ more)) where
  at_fault : (ps : List (List ℕ)) → plains ps ≡ true → Wrong P ps n → AtFault Fault Same (joined ps) n
  unfolding joined plains pieces
  at_fault [] p w = inl (record { plain = refl; number = w })
  at_fault (l ∷ []) p w = inl (record { plain = plain_piece l (and_left (plain l) _ p); number = w })
  at_fault (l ∷ (m ∷ ms)) p w =
      let q = and_left (plain l) _ p in
      inr (record { line = l; rest = joined (m ∷ ms); here = refl; plain = plain_piece l q; fault = means l w; same = again l q w })

module _ (Same : List ℕ → Type 0) (text : List ℕ) (n k : ℕ) where
  -- a refusal of the lines
  scan_fault : ((x : List ℕ) → scan x ≡ Scan.refused n k → Same x) → Taken text (Scan.refused n k) → FirstFault Same text n k ⊎ LaterFault Same text n k
  scan_fault lift (inl h) =
      inl
      (record {
        place = h.place;
        fault = subst (λ (x : List ℕ). AtFault CountFault Same x n) (sym h.bytes)
            (at_fault CountFault (λ (l : List ℕ) (m : ℕ). Miscount (line_said l) m) Same n (λ l. count_fault l n)
            (λ l p w more. lift (l ++ 10 ∷ more) (first_same l n p w more ∙ ap (Scan.refused n) (sym h.place)))
            h.rest h.plain h.wrong);
      })
  scan_fault lift (inr h) =
      let u = h.last in
      inr
      (record {
        before = u;
        after = joined h.rest;
        fit = h.fit;
        place = h.place;
        bytes = h.bytes;
        fault = at_fault (EventFault u) (Misjudged u) (λ (x : List ℕ). Same (render u ++ x)) n
            (λ l w. event_fault_lem u l n (ap judged_number w) (text_number n (unfit_number u (line_said l) n w)).0)
            (λ l p w more. lift (render u ++ (l ++ 10 ∷ more)) (later_unfit u h.fit l p more n w ∙ ap (Scan.refused n) h.place))
            h.rest h.plain h.wrong;
      })

  -- a failure line where none is due
  stopped_fault : ((x : List ℕ) → verdict x ≡ Verdict.refused n k → Same x) → (u : Trace) (step set : ℕ) (rest : List (List ℕ)) → n ≡ 1 → Taken text (Scan.stopped u step set k rest)
      → LaterFault Same text n k
  unfolding verdict judge
  stopped_fault lift u step set rest e h =
      let l = failure_text step set in
      record {
        before = u;
        after = l ++ 10 ∷ joined rest;
        fit = h.0;
        place = h.4;
        bytes = h.3 ∙ ap (λ (x : List ℕ). render u ++ x) (failure_text_lem step set (joined rest));
        fault = inr
            (record {
              line = l;
              rest = joined rest;
              here = refl;
              plain = plain_piece l (plain_failure step set);
              fault = event_fault_lem u l n (ap (λ (x : Line). judged_number (judge u x)) (failure_line step set h.1 h.2) ∙ sym e) (omega arith);
              same = λ more. lift (render u ++ (l ++ 10 ∷ more)) (ap verdict_of (later_fails u h.0 step set h.1 h.2 more) ∙ rw (e, h.4));
            });
      }

  verdict_of_lem : ((x : List ℕ) → verdict x ≡ Verdict.refused n k → Same x) → (s : Scan) → Taken text s → verdict_of s ≡ Verdict.refused n k → FirstFault Same text n k ⊎ LaterFault Same text n k
  unfolding verdict
  verdict_of_lem lift (Scan.refused m j) h e =
      let a : m ≡ n = cc in
      let b : j ≡ k = cc in
      scan_fault (λ x q. lift x (ap verdict_of q)) (rw (a, b) at h)
  verdict_of_lem lift (Scan.ended u j) h e = let z : ◌≡◌ {A = ℕ} 0 1 = cc in absurd (let y : ⊥ = omega arith in y)
  verdict_of_lem lift (Scan.stopped u step set j rest) h e =
      let a : ◌≡◌ {A = ℕ} 1 n = cc in
      let b : j ≡ k = cc in
      inr (stopped_fault lift u step set rest (sym a) (rw b at h))

  -- which line a refusal of `read` is for
  pub verdict_fault : ((x : List ℕ) → verdict x ≡ Verdict.refused n k → Same x) → verdict text ≡ Verdict.refused n k → FirstFault Same text n k ⊎ LaterFault Same text n k
  unfolding verdict
  verdict_fault lift e = verdict_of_lem lift (scan text) (scan_taken text) e

-- ---- A text that ends with a failure line

module _ (Same : List ℕ → Type 0) (text : List ℕ) (n k : ℕ) (lift : (x : List ℕ) → last_failure x ≡ Failing.refused n k → Same x) where
  -- the failure line is missing
  missing_fault : (u : Trace) → n ≡ 1 → Taken text (Scan.ended u k) → LaterFault Same text n k
  unfolding pieces
  missing_fault u e h =
      record {
        before = u;
        after = [];
        fit = h.0;
        place = h.2;
        bytes = h.1 ∙ sym (append-nil (render u));
        fault = inl (record { plain = refl; number = e });
      }

  -- something follows it
  past_fault : (u : Trace) (step set j : ℕ) (rest : List (List ℕ)) → n ≡ 1 → j + 1 ≡ k → (joined rest ≡ [] → ⊥) → Taken text (Scan.stopped u step set j rest) → PastFailure Same text n k
  unfolding last_failure
  past_fault u step set j rest e q some h =
      let front = render u ++ render_failure step set in
      record {
        front = front;
        before = u;
        step = step;
        failed = set;
        fit = record { fit = h.0; step_most = h.1; set_most = h.2; bytes = refl };
        place = omega (arith, h.4);
        after = joined rest;
        bytes = h.3 ∙ sym (append_assoc (render u) (render_failure step set) (joined rest));
        some = some;
        number = e;
        same = λ more ne.
            lift (front ++ more)
            (ap (λ (x : List ℕ). failing_of (scan x)) (append_assoc (render u) (render_failure step set) more ∙ ap (λ (x : List ℕ). render u ++ x) (failure_text_lem step set more))
            ∙ ap failing_of (later_fails u h.0 step set h.1 h.2 more)
            ∙ follows more (length u.events + 2) (Failing.failing u step set) (some_length more ne)
            ∙ rw (e, h.4, q));
      }
    where
      some_length : (l : List ℕ) → (l ≡ [] → ⊥) → 0 < length l
      some_length [] z = absurd (z refl)
      some_length (b ∷ l) z = omega arith

  failing_of_lem : (s : Scan) → Taken text s → failing_of s ≡ Failing.refused n k → FirstFault Same text n k ⊎ (LaterFault Same text n k ⊎ PastFailure Same text n k)
  unfolding last_failure
  failing_of_lem (Scan.refused m j) h e =
      let a : m ≡ n = cc in
      let b : j ≡ k = cc in
      one_more (scan_fault Same text n k (λ x q. lift x (ap failing_of q)) (rw (a, b) at h))
    where
      one_more : FirstFault Same text n k ⊎ LaterFault Same text n k → FirstFault Same text n k ⊎ (LaterFault Same text n k ⊎ PastFailure Same text n k)
      one_more (inl x) = inl x
      one_more (inr x) = inr (inl x)
  failing_of_lem (Scan.ended u j) h e =
      let a : ◌≡◌ {A = ℕ} 1 n = cc in
      let b : j ≡ k = cc in
      inr (inl (missing_fault u (sym a) (rw b at h)))
  failing_of_lem (Scan.stopped u step set j rest) h e =
      let (a, b, some) = last_refused rest j u step set n k e in
      inr (inr (past_fault u step set j rest a b some h))

  -- which line a refusal of `read_failure` is for
  pub failure_fault_lem : last_failure text ≡ Failing.refused n k → FirstFault Same text n k ⊎ (LaterFault Same text n k ⊎ PastFailure Same text n k)
  unfolding last_failure
  failure_fault_lem e = failing_of_lem (scan text) (scan_taken text) e
