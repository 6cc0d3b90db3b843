-- From the outcome of a scan to the answer and the words of a reading.
use Prim.Native.Nat.{ℕ, ◌+◌, ◌<◌, ◌≤◌}
use mathlib.Core.Path.{◌≡◌, refl, sym, ap, ◌∙◌}
use mathlib.Core.List.{List, [], ◌∷◌, ◌++◌}
use lib.Dec.{eqb}
use native.Mathlib.Omega.{arith}
use lib.ListN.{length, get_or, drop, replicate, length-replicate, get_or-replicate, length-drop, drop_of_length-le}
use borrow.Author.Tests.{lt-ltb, le-ltb}
use Rattle.words.specs.Area.{area_words, words_from, ruled}
use Rattle.words.proofs.Area.{words_ext}
use Rattle.trace.specs.Trace.{Trace}
use Rattle.trace.specs.Table.{table_word}
use Rattle.words.proofs.Cases.{by_bool}
use Rattle.reader.specs.Verdict.{Scan, scan, pieces, verdict, verdict_of, Verdict, accepted}
use Rattle.reader.specs.Failure.{FailureAnswer, Failing, last_line, failing_of, last_failure, trace_of, failure_answer_of, failure_answer, failure_area}
use Rattle.reader.proofs.Pieces.{first_piece}
use Rattle.reader.specs.Answer.{ReadAnswer, verdict_answer, verdict_word, read_answer, read_area}
use Rattle.reader.specs.Inner.Reading.{Holds, Scanned, Unread, Ended, Stopped, ScanOutcome}

-- no outcome is two
apart {ℓ} : {A : Type ℓ} (r x y : Scanned) → r ≡ x → r ≡ y → ((x ≡ y) → ◌≡◌ {A = ℕ} 0 1) → A
apart r x y p q f = absurd (let e : x ≡ y = cc in let z : ◌≡◌ {A = ℕ} 0 1 = f e in let w : ⊥ = omega arith in w)

-- ---- What an outcome tells of the scan

module _ (text : List ℕ) (r : Scanned) (table : List ℕ) (o : ScanOutcome text (scan text) r table) where
  pub told_refused : (n k : ℕ) → r ≡ Unread n k → (scan text ≡ Scan.refused n k) × (length table ≡ area_words)
  unfolding ScanOutcome
  told_refused n k e = go (scan text) refl o
    where
      go : (s : Scan) → scan text ≡ s → ScanOutcome text s r table → (scan text ≡ Scan.refused n k) × (length table ≡ area_words)
      go (Scan.refused m j) q p = let a : m ≡ n = cc in let b : j ≡ k = cc in (q ∙ rw (a, b), p.1)
      go (Scan.ended t j) q p = apart r (Unread n k) (Ended j) e p.0 (λ f. cc)
      go (Scan.stopped t step set j rest) q p = apart r (Unread n k) (Stopped step set j p.next) e p.outcome (λ f. cc)

  told_ended : (k : ℕ) → r ≡ Ended k → (t : Trace) × (scan text ≡ Scan.ended t k) × Holds table t
  unfolding ScanOutcome
  told_ended k e = go (scan text) refl o
    where
      go : (s : Scan) → scan text ≡ s → ScanOutcome text s r table → (t : Trace) × (scan text ≡ Scan.ended t k) × Holds table t
      go (Scan.refused m j) q p = apart r (Ended k) (Unread m j) e p.0 (λ f. cc)
      go (Scan.ended t j) q p = let a : j ≡ k = cc in (t, q ∙ rw a, p.1)
      go (Scan.stopped t step set j rest) q p = apart r (Ended k) (Stopped step set j p.next) e p.outcome (λ f. cc)

  pub told_stopped : (a b k at : ℕ) → r ≡ Stopped a b k at → (t : Trace) × (scan text ≡ Scan.stopped t a b k (pieces (drop at text))) × Holds table t × (k ≤ 2050)
  unfolding ScanOutcome
  told_stopped a b k at e = go (scan text) refl o
    where
      go : (s : Scan) → scan text ≡ s → ScanOutcome text s r table → (t : Trace) × (scan text ≡ Scan.stopped t a b k (pieces (drop at text))) × Holds table t × (k ≤ 2050)
      go (Scan.refused m j) q p = apart r (Stopped a b k at) (Unread m j) e p.0 (λ f. cc)
      go (Scan.ended t j) q p = apart r (Stopped a b k at) (Ended j) e p.0 (λ f. cc)
      go (Scan.stopped t step set j rest) q p =
          let w : step ≡ a = cc p.outcome in
          let x : set ≡ b = cc p.outcome in
          let y : j ≡ k = cc p.outcome in
          let z : p.next ≡ at = cc p.outcome in
          (t, q ∙ rw (w, x, y, p.follows, z), p.holds, omega (arith, p.few))

-- ---- The words that a verdict leaves

zeros : (v : Verdict) (n k : ℕ) (before after : List ℕ) → v ≡ Verdict.refused n k → length before ≡ area_words → after ≡ replicate (length before) 0
    → after ≡ words_from (verdict_word v) 0 area_words
zeros v n k before after e l z =
    let y : after ≡ replicate 16384 0 = z ∙ ap (λ (i : ℕ). replicate i 0) l in
    rw e (words_ext (λ i. 0) 16384 after (ap length y ∙ length-replicate {A = ℕ} 16384 0) (λ i q. ap (λ (w : List ℕ). get_or w i 0) y ∙ get_or-replicate {A = ℕ} 16384 i 0 0 q))

held : (v : Verdict) (t : Trace) (table : List ℕ) → v ≡ accepted t → Holds table t → table ≡ words_from (verdict_word v) 0 area_words
held v t table e h = rw e (words_ext (table_word t) 16384 table h.size h.words)

-- ---- `read_in`: what it answers, and the words it leaves; each way out

abbrev pub Left : List ℕ → ReadAnswer → List ℕ → Type 0
Left text r table = (r ≡ verdict_answer (verdict text)) × (table ≡ words_from (verdict_word (verdict text)) 0 area_words)

module _ (text : List ℕ) (r : Scanned) (table : List ℕ) (o : ScanOutcome text (scan text) r table) where
  pub left_refused : (n k : ℕ) (a : ReadAnswer) (after : List ℕ) → r ≡ Unread n k → a ≡ (record { number = n; place = k })
      → after ≡ replicate (length table) 0 → Left text a after
  unfolding verdict
  left_refused n k a after e h z =
      let q = told_refused text r table o n k e in
      let v : verdict text ≡ Verdict.refused n k = ap verdict_of q.0 in
      (h ∙ sym (ap verdict_answer v), zeros (verdict text) n k table after v q.1 z)

  -- the same where the table is zero already
  pub left_unread : (n k : ℕ) → r ≡ Unread n k → table ≡ replicate area_words 0 → Left text (record { number = n; place = k }) table
  left_unread n k e z = left_refused n k (record { number = n; place = k }) table e refl (z ∙ ap (λ (i : ℕ). replicate i 0) (sym (ap length z ∙ length-replicate {A = ℕ} area_words 0)))

  pub left_stopped : (x y k at : ℕ) (a : ReadAnswer) (after : List ℕ) → r ≡ Stopped x y k at → a ≡ (record { number = 1; place = k })
      → after ≡ replicate (length table) 0 → Left text a after
  unfolding verdict
  left_stopped x y k at a after e h z =
      let q = told_stopped text r table o x y k at e in
      let v : verdict text ≡ Verdict.refused 1 k = ap verdict_of q.1 in
      (h ∙ sym (ap verdict_answer v), zeros (verdict text) 1 k table after v q.2.size z)

  pub left_ended : (k : ℕ) → r ≡ Ended k → Left text (record { number = 0; place = 0 }) table
  unfolding verdict
  left_ended k e =
      let q = told_ended text r table o k e in
      let v : verdict text ≡ accepted q.0 = ap verdict_of q.1 in
      (sym (ap verdict_answer v), held (verdict text) q.0 table v q.2)

-- ---- `read_failure_in`: the same

abbrev pub LeftFailing : List ℕ → FailureAnswer → List ℕ → Type 0
LeftFailing text r table = (r ≡ failure_answer_of (last_failure text)) × (table ≡ words_from (verdict_word (trace_of (last_failure text))) 0 area_words)

-- something follows the failure line, or nothing
pub follows : (l : List ℕ) (k : ℕ) (f : Failing) → 0 < length l → last_line (pieces l) k f ≡ Failing.refused 1 (k + 1)
unfolding pieces
follows [] k f h = absurd (let z : ⊥ = omega arith in z)
follows (b ∷ bs) k f h = let (m, ms, q) = first_piece bs in by_bool (eqb b 10) (λ t. rw (t, q)) (λ t. rw (t, q))

nothing : (text : List ℕ) (at k : ℕ) (f : Failing) → length text ≤ at → last_line (pieces (drop at text)) k f ≡ f
unfolding pieces
nothing text at k f h = rw (drop_of_length-le text {i = at} h)

module _ (text : List ℕ) (r : Scanned) (table : List ℕ) (o : ScanOutcome text (scan text) r table) where
  -- a refusal, where the table is zero afterwards
  no_failure : (n k : ℕ) (a : FailureAnswer) (after : List ℕ) → last_failure text ≡ Failing.refused n k → length table ≡ area_words
      → a ≡ (record { number = n; place = k; step = 0; set = 0 }) → after ≡ replicate (length table) 0 → LeftFailing text a after
  no_failure n k a after v l h z = (h ∙ sym (ap failure_answer_of v), zeros (trace_of (last_failure text)) n k table after (ap trace_of v) l z)

  pub failing_refused : (n k : ℕ) (a : FailureAnswer) (after : List ℕ) → r ≡ Unread n k → a ≡ (record { number = n; place = k; step = 0; set = 0 })
      → after ≡ replicate (length table) 0 → LeftFailing text a after
  unfolding last_failure
  failing_refused n k a after e h z = let q = told_refused text r table o n k e in no_failure n k a after (ap failing_of q.0) q.1 h z

  -- the same where the table is zero already
  pub failing_unread : (n k : ℕ) → r ≡ Unread n k → table ≡ replicate area_words 0 → LeftFailing text (record { number = n; place = k; step = 0; set = 0 }) table
  failing_unread n k e z =
      failing_refused n k (record { number = n; place = k; step = 0; set = 0 }) table e refl (z ∙ ap (λ (i : ℕ). replicate i 0) (sym (ap length z ∙ length-replicate {A = ℕ} area_words 0)))

  pub failing_ended : (k : ℕ) (a : FailureAnswer) (after : List ℕ) → r ≡ Ended k → a ≡ (record { number = 1; place = k; step = 0; set = 0 })
      → after ≡ replicate (length table) 0 → LeftFailing text a after
  unfolding last_failure
  failing_ended k a after e h z = let q = told_ended text r table o k e in no_failure 1 k a after (ap failing_of q.1) q.2.size h z

  module _ (x y k at : ℕ) (e : r ≡ Stopped x y k at) where
    pub failing_follows : (a : FailureAnswer) (after : List ℕ) → at < length text → a ≡ (record { number = 1; place = k + 1; step = 0; set = 0 })
        → after ≡ replicate (length table) 0 → LeftFailing text a after
    unfolding last_failure
    failing_follows a after g h z =
        let q = told_stopped text r table o x y k at e in
        no_failure 1 (k + 1) a after (ap failing_of q.1 ∙ follows (drop at text) k (Failing.failing q.0 x y) (rw (length-drop at text) (omega arith))) q.2.size h z

    pub failing_last : length text ≤ at → LeftFailing text (record { number = 0; place = 0; step = x; set = y }) table
    unfolding last_failure
    failing_last g =
        let q = told_stopped text r table o x y k at e in
        let v : last_failure text ≡ Failing.failing q.0 x y = ap failing_of q.1 ∙ nothing text at k (Failing.failing q.0 x y) g in
        (sym (ap failure_answer_of v), held (trace_of (last_failure text)) q.0 table (ap trace_of v) q.2)

-- each way out of `read`
pub short : (text a : List ℕ) → length a < area_words → (record { number = 12; place = 0 } ≡ read_answer text a) × (a ≡ read_area text a)
unfolding read_answer read_area
short text a l = rw (lt-ltb (length a) 16384 l) (refl, refl)

pub long : (text a : List ℕ) (r : ReadAnswer) (w : List ℕ) → area_words ≤ length a → Left text r w → (r ≡ read_answer text a) × (w ++ drop area_words a ≡ read_area text a)
unfolding read_answer read_area ruled
long text a r w l h = rw (le-ltb (length a) 16384 l) (h.0, ap (λ (x : List ℕ). x ++ drop 16384 a) h.1)

-- each way out of `read_failure`
pub short_failing : (text a : List ℕ) → length a < area_words → (record { number = 12; place = 0; step = 0; set = 0 } ≡ failure_answer text a) × (a ≡ failure_area text a)
unfolding failure_answer failure_area
short_failing text a l = rw (lt-ltb (length a) 16384 l) (refl, refl)

pub long_failing : (text a : List ℕ) (r : FailureAnswer) (w : List ℕ) → area_words ≤ length a → LeftFailing text r w
    → (r ≡ failure_answer text a) × (w ++ drop area_words a ≡ failure_area text a)
unfolding failure_answer failure_area ruled
long_failing text a r w l h = rw (le-ltb (length a) 16384 l) (h.0, ap (λ (x : List ℕ). x ++ drop 16384 a) h.1)
