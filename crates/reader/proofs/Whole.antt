-- The whole text: an accepted text is a well-formed trace rendered, and a well-formed trace rendered is accepted; also
-- with a failure line. From the laws of its lines.
use Prim.Native.Nat.{ℕ, ◌+◌, ◌<◌, ◌≤◌}
use mathlib.Core.Logic.{◌⊎◌, inl, inr}
use mathlib.Core.Path.{◌≡◌, refl, sym, ap, subst, ◌∙◌}
use mathlib.Core.List.{List, [], ◌∷◌, ◌++◌, append_assoc, append-nil}
use mathlib.Core.Bool.{true}
use native.Mathlib.Omega.{arith}
use lib.Dec.{leb}
use lib.ListN.{length}
use borrow.Author.Tests.{leb-true, le-leb, lt-ltb, le-ltb}
use Rattle.words.proofs.Cases.{by_lt, and_left, and_right, and_both}
use Rattle.text.specs.Number.{decimal}
use Rattle.trace.specs.declared.Event.{Event}
use Rattle.trace.specs.Trace.{Trace, started}
use Rattle.trace.specs.Fit.{well_formed}
use Rattle.lines.specs.declared.Line.{Line}
use Rattle.lines.specs.Line.{k_procs, line_said, most, most_set}
use Rattle.reader.specs.Render.{render_events, render}
use Rattle.lines.specs.Render.{render_failure}
use Rattle.reader.specs.Failure.{Failing, refused, failing, last_line, failing_of, last_failure, failure_answer_of}
use Rattle.reader.specs.Verdict.{pieces, judge, Scan, lines_from, first_line, scan_pieces, scan, Verdict, verdict_of, verdict}
use Rattle.reader.specs.Meaning.{TextNumber}
use Rattle.reader.proofs.Turns.{with_lf}
use Rattle.lines.proofs.OneLine.{Says, failure_text, failure_text_lem, line_says, procs_line, failure_line}
use Rattle.lines.proofs.Plain.{plain, plain_procs, plain_failure}
use Rattle.reader.proofs.Pieces.{joined, joined_grow, first_piece, joined_pieces, line_piece, plains, plains_pieces}
use Rattle.reader.proofs.Events.{Grown, Wrong, Misjudged, Heard, lines_heard, events_read}
use Rattle.reader.proofs.Judging.{unfit_number}
use Rattle.lines.specs.declared.Line as line

-- what is wrong with a first line, by what it says
abbrev pub Miscount : Line → ℕ → Type 0
Miscount (line.TheVariants.Procs m) n = (n ≡ 2) × ((m < 2) ⊎ (64 < m))
Miscount (line.TheVariants.Send at to val) n = n ≡ 1
Miscount (line.TheVariants.Recv at from) n = n ≡ 1
Miscount (line.TheVariants.Save at) n = n ≡ 1
Miscount (line.TheVariants.Done at) n = n ≡ 1
Miscount (line.TheVariants.Failure step set) n = n ≡ 1
Miscount line.TheVariants.Malformed n = n ≡ 1

-- line 1 is refused with n: the pieces of the text, and what is wrong with the first
pub record FirstBroken (text : List ℕ) (n k : ℕ) : Type 0 where
  pub place : k ≡ 1
  pub rest : List (List ℕ)
  pub bytes : text ≡ joined rest
  pub plain : plains rest ≡ true
  pub wrong : Wrong (λ (l : List ℕ) (m : ℕ). Miscount (line_said l) m) rest n

-- line k is refused with n: the trace before it, the pieces from there on, and what is wrong with the first
pub record LaterBroken (text : List ℕ) (n k : ℕ) : Type 0 where
  pub last : Trace
  pub rest : List (List ℕ)
  pub fit : well_formed last ≡ true
  pub place : length last.events + 2 ≡ k
  pub bytes : text ≡ render last ++ joined rest
  pub plain : plains rest ≡ true
  pub wrong : Wrong (Misjudged last) rest n

-- what reading says of the text: a refusal is for its first faulty line; a trace is well formed, and the text is its
-- rendering, up to a failure line that is rendered too
abbrev pub Taken : List ℕ → Scan → Type 0
Taken text (Scan.refused n k) = FirstBroken text n k ⊎ LaterBroken text n k
Taken text (Scan.ended t k) = (well_formed t ≡ true) × (text ≡ render t) × (length t.events + 2 ≡ k)
Taken text (Scan.stopped t step set k rest) =
    (well_formed t ≡ true) × (step ≤ most) × (set ≤ most_set) × (text ≡ render t ++ (render_failure step set ++ joined rest)) × (length t.events + 2 ≡ k)

grown_fit : (n : ℕ) (es : List Event) (u : Trace) → 2 ≤ n → n ≤ 64 → Grown (started n) es u → well_formed u ≡ true
unfolding well_formed
grown_fit n es u low high g =
    rw g.0 (and_both _ _ (le-leb 2 n low) (and_both _ _ (le-leb n 64 high) (and_both _ _ (le-leb (length es) 2048 (omega (arith, g.2))) g.1)))

-- the first line, and what was heard of the others
heard_taken : (n : ℕ) (l m : List ℕ) (ms : List (List ℕ)) → l ≡ k_procs ++ decimal n → 2 ≤ n → n ≤ 64
    → (s : Scan) → Heard (started n) 2 (m ∷ ms) s → Taken (joined (l ∷ (m ∷ ms))) s
unfolding joined render
heard_taken n l m ms q low high (Scan.refused i k) h =
    inr
    (record {
      last = h.last;
      rest = h.rest;
      fit = grown_fit n h.fits h.last low high h.grown;
      place = rw h.grown.0 (omega (arith, h.place));
      bytes = rw (h.grown.0, q, h.bytes) (sym (append_assoc (k_procs ++ decimal n) (10 ∷ render_events h.fits) (joined h.rest)));
      plain = h.plain;
      wrong = h.wrong;
    })
heard_taken n l m ms q low high (Scan.ended u k) h =
    (grown_fit n h.0 u low high h.2, rw (h.2.0, q, h.1), rw h.2.0 (omega (arith, h.3)))
heard_taken n l m ms q low high (Scan.stopped u step set k rest) h = (
  grown_fit n h.0 u low high h.4,
  h.2,
  h.3,
  rw (h.4.0, q, h.1) (sym (append_assoc (k_procs ++ decimal n) (10 ∷ render_events h.0) (render_failure step set ++ joined rest))),
  rw h.4.0 (omega (arith, h.5)),
)

first_broken : (ps : List (List ℕ)) (n : ℕ) → plains ps ≡ true → Wrong (λ (l : List ℕ) (m : ℕ). Miscount (line_said l) m) ps n → Taken (joined ps) (Scan.refused n 1)
first_broken ps n p w = inl (record { place = refl; rest = ps; bytes = refl; plain = p; wrong = w })

first_taken : (l m : List ℕ) (ms : List (List ℕ)) → plains (l ∷ (m ∷ ms)) ≡ true → (x : Line) → line_said l ≡ x → Says l x
    → Taken (joined (l ∷ (m ∷ ms))) (first_line x (λ n. lines_from (started n) 2 (m ∷ ms)))
unfolding plains
first_taken l m ms p (line.TheVariants.Procs n) e s =
    let ps = l ∷ (m ∷ ms) in
    by_lt n 2 (λ low. rw (lt-ltb n 2 low) (first_broken ps 2 p (rw e (refl, inl low)))) (λ low.
    by_lt 64 n (λ high. rw (le-ltb n 2 low, lt-ltb 64 n high) (first_broken ps 2 p (rw e (refl, inr high)))) (λ high.
    rw (le-ltb n 2 low, le-ltb 64 n high)
    (heard_taken n l m ms s.0 low high (lines_from (started n) 2 (m ∷ ms)) (lines_heard (started n) 2 (m ∷ ms) (omega arith) (and_right (plain l) _ p)))))
first_taken l m ms p (line.TheVariants.Send at to val) e s = first_broken (l ∷ (m ∷ ms)) 1 p (rw e refl)
first_taken l m ms p (line.TheVariants.Recv at from) e s = first_broken (l ∷ (m ∷ ms)) 1 p (rw e refl)
first_taken l m ms p (line.TheVariants.Save at) e s = first_broken (l ∷ (m ∷ ms)) 1 p (rw e refl)
first_taken l m ms p (line.TheVariants.Done at) e s = first_broken (l ∷ (m ∷ ms)) 1 p (rw e refl)
first_taken l m ms p (line.TheVariants.Failure step set) e s = first_broken (l ∷ (m ∷ ms)) 1 p (rw e refl)
first_taken l m ms p line.TheVariants.Malformed e s = first_broken (l ∷ (m ∷ ms)) 1 p (rw e refl)

pieces_taken : (ps : List (List ℕ)) → plains ps ≡ true → Taken (joined ps) (scan_pieces ps)
unfolding scan_pieces
pieces_taken [] p = first_broken [] 1 p refl
pieces_taken (l ∷ []) p = first_broken (l ∷ []) 1 p refl
pieces_taken (l ∷ (m ∷ ms)) p = first_taken l m ms p (line_said l) refl (line_says l)

pub scan_taken : (text : List ℕ) → Taken text (scan text)
unfolding scan
scan_taken text = subst (λ (x : List ℕ). Taken x (scan text)) (joined_pieces text) (pieces_taken (pieces text) (plains_pieces text))

-- as a verdict on a trace
verdict_of_lem : (text : List ℕ) (t : Trace) (s : Scan) → Taken text s → verdict_of s ≡ Verdict.accepted t → (well_formed t ≡ true) × (text ≡ render t)
verdict_of_lem text t (Scan.refused n k) h e = let z : ◌≡◌ {A = ℕ} 0 1 = cc in absurd (let y : ⊥ = omega arith in y)
verdict_of_lem text t (Scan.ended u k) h e = let q : u ≡ t = cc in rw (← q) (h.0, h.1)
verdict_of_lem text t (Scan.stopped u step set k rest) h e = let z : ◌≡◌ {A = ℕ} 0 1 = cc in absurd (let y : ⊥ = omega arith in y)

pub verdict_taken : (text : List ℕ) (t : Trace) → verdict text ≡ Verdict.accepted t → (well_formed t ≡ true) × (text ≡ render t)
unfolding verdict
verdict_taken text t e = verdict_of_lem text t (scan text) (scan_taken text) e

scan_read : (n : ℕ) (text : List ℕ) → 2 ≤ n → n ≤ 64 → scan_pieces ((k_procs ++ decimal n) ∷ pieces text) ≡ lines_from (started n) 2 (pieces text)
unfolding scan_pieces
scan_read n text low high =
    let (m, ms, q) = first_piece text in
    rw (q, procs_line n (omega arith), le-ltb n 2 low, le-ltb 64 n high)

-- what follows a rendered trace is read after it
pub rendered_read : (t : Trace) (rest : List ℕ) → well_formed t ≡ true → scan (render t ++ rest) ≡ lines_from t (length t.events + 2) (pieces rest)
unfolding scan render well_formed
rendered_read t rest w =
    let p = t.procs in
    let size = length t.events in
    let a = and_right (leb 2 p) _ w in
    let b = and_right (leb p 64) _ a in
    let low : 2 ≤ p = leb-true 2 p (and_left _ _ w) in
    let high : p ≤ 64 = leb-true p 64 (and_left _ _ a) in
    let few : size ≤ 2048 = leb-true size 2048 (and_left _ _ b) in
    let after = render_events t.events ++ rest in
    let more = events_read (started p) 2 t.events rest high (omega arith) (and_right (leb size 2048) _ b) in
    let n : 2 + size ≡ size + 2 = omega arith in
    ap (λ (x : List ℕ). scan_pieces (pieces x)) (append_assoc (k_procs ++ decimal p) (10 ∷ render_events t.events) rest)
    ∙ ap scan_pieces (line_piece (k_procs ++ decimal p) after (plain_procs p))
    ∙ scan_read p after low high
    ∙ more
    ∙ ap (λ (i : ℕ). lines_from t i (pieces rest)) n

pub render_taken : (t : Trace) → well_formed t ≡ true → verdict (render t) ≡ Verdict.accepted t
unfolding verdict lines_from pieces
render_taken t w = ap verdict (sym (append-nil (render t))) ∙ ap verdict_of (rendered_read t [] w)

-- ---- A text that ends with a failure line

-- nothing follows a failure line that is the last
last_failing : (ls : List (List ℕ)) (k : ℕ) (f : Failing) (t : Trace) (step set : ℕ) → last_line ls k f ≡ failing t step set
    → (f ≡ failing t step set) × (joined ls ≡ [])
unfolding joined
last_failing [] k f t step set e = (e, refl)
last_failing ([] ∷ []) k f t step set e = (e, refl)
last_failing ((b ∷ l) ∷ ls) k f t step set e = let z : ◌≡◌ {A = ℕ} 0 1 = cc in absurd (let y : ⊥ = omega arith in y)
last_failing ([] ∷ (l ∷ ls)) k f t step set e = let z : ◌≡◌ {A = ℕ} 0 1 = cc in absurd (let y : ⊥ = omega arith in y)

-- a well-formed trace and a failure line whose numbers its keys can hold, rendered
abbrev pub Rendered : List ℕ → Trace → ℕ → ℕ → Type 0
Rendered text t step set = (well_formed t ≡ true) × (step ≤ most) × (set ≤ most_set) × (text ≡ render t ++ render_failure step set)

failing_of_lem : (text : List ℕ) (t : Trace) (step set : ℕ) (s : Scan) → Taken text s → failing_of s ≡ failing t step set → Rendered text t step set
failing_of_lem text t step set (Scan.refused n k) h e = let z : ◌≡◌ {A = ℕ} 0 1 = cc in absurd (let y : ⊥ = omega arith in y)
failing_of_lem text t step set (Scan.ended u k) h e = let z : ◌≡◌ {A = ℕ} 0 1 = cc in absurd (let y : ⊥ = omega arith in y)
failing_of_lem text t step set (Scan.stopped u i m k rest) h e =
    let (q, none) = last_failing rest k (failing u i m) t step set e in
    let a : u ≡ t = cc in
    let b : i ≡ step = cc in
    let c : m ≡ set = cc in
    let same : text ≡ render t ++ render_failure step set = rw (a, b, c, none, append-nil (render_failure step set)) at h.3 in
    (rw a at h.0, rw b at h.1, rw c at h.2, same)

pub failing_taken : (text : List ℕ) (t : Trace) (step set : ℕ) → last_failure text ≡ failing t step set → Rendered text t step set
unfolding last_failure
failing_taken text t step set e = failing_of_lem text t step set (scan text) (scan_taken text) e

failure_read : (t : Trace) (k step set : ℕ) → step ≤ most → set ≤ most_set
    → lines_from t k (pieces (render_failure step set)) ≡ Scan.stopped t step set k (pieces [])
unfolding judge
failure_read t k step set h i =
    let l = failure_text step set in
    ap (λ (x : List ℕ). lines_from t k (pieces x)) (sym (append-nil (render_failure step set)) ∙ failure_text_lem step set [])
    ∙ ap (lines_from t k) (line_piece l [] (plain_failure step set))
    ∙ with_lf t k l []
    ∙ rw (failure_line step set h i)

pub render_failing : (t : Trace) (step set : ℕ) → well_formed t ≡ true → step ≤ most → set ≤ most_set
    → last_failure (render t ++ render_failure step set) ≡ failing t step set
unfolding last_failure pieces
render_failing t step set w h i =
    ap failing_of (rendered_read t (render_failure step set) w ∙ failure_read t (length t.events + 2) step set h i)

-- ---- The numbers of refusals

miscount_number : (x : Line) (n : ℕ) → Miscount x n → TextNumber n
miscount_number (line.TheVariants.Procs m) n h = inl (omega (arith, h.0), omega (arith, h.0))
miscount_number (line.TheVariants.Send at to val) n h = inl (omega arith, omega arith)
miscount_number (line.TheVariants.Recv at from) n h = inl (omega arith, omega arith)
miscount_number (line.TheVariants.Save at) n h = inl (omega arith, omega arith)
miscount_number (line.TheVariants.Done at) n h = inl (omega arith, omega arith)
miscount_number (line.TheVariants.Failure step set) n h = inl (omega arith, omega arith)
miscount_number line.TheVariants.Malformed n h = inl (omega arith, omega arith)

wrong_number : (P : List ℕ → ℕ → Type 0) (ps : List (List ℕ)) (n : ℕ) → ((l : List ℕ) → P l n → TextNumber n) → Wrong P ps n → TextNumber n
wrong_number P [] n f w = inl (omega arith, omega arith)
wrong_number P (l ∷ []) n f w = inl (omega arith, omega arith)
wrong_number P (l ∷ (m ∷ ms)) n f w = f l w

-- 1 to 7, or 15
pub taken_number_lem : (text : List ℕ) (n k : ℕ) → Taken text (Scan.refused n k) → TextNumber n
taken_number_lem text n k (inl h) = wrong_number _ h.rest n (λ l w. miscount_number (line_said l) n w) h.wrong
taken_number_lem text n k (inr h) = wrong_number _ h.rest n (λ l w. unfit_number h.last (line_said l) n w) h.wrong

-- of a refusal
abbrev number : Failing → ℕ
number f = (failure_answer_of f).number

abbrev place : Failing → ℕ
place f = (failure_answer_of f).place

pub last_refused : (ls : List (List ℕ)) (k : ℕ) (t : Trace) (step set n j : ℕ) → last_line ls k (failing t step set) ≡ refused n j
    → (n ≡ 1) × (k + 1 ≡ j) × (joined ls ≡ [] → ⊥)
unfolding joined
last_refused [] k t step set n j e = let z : ◌≡◌ {A = ℕ} 0 1 = cc in absurd (let y : ⊥ = omega arith in y)
last_refused ([] ∷ []) k t step set n j e = let z : ◌≡◌ {A = ℕ} 0 1 = cc in absurd (let y : ⊥ = omega arith in y)
last_refused ((b ∷ l) ∷ ls) k t step set n j e =
    (ap number (sym e), ap place e, λ q. omega (arith, ap length (sym (joined_grow b l ls) ∙ q)))
last_refused ([] ∷ (l ∷ ls)) k t step set n j e =
    (ap number (sym e), ap place e, λ q. omega (arith, ap length q))

refused_of : (text : List ℕ) (n j : ℕ) (s : Scan) → Taken text s → failing_of s ≡ refused n j → TextNumber n
refused_of text n j (Scan.refused m k) h e = let y : m ≡ n = cc in subst TextNumber y (taken_number_lem text m k h)
refused_of text n j (Scan.ended u k) h e = let y : ◌≡◌ {A = ℕ} 1 n = cc in inl (omega arith, omega arith)
refused_of text n j (Scan.stopped u i m k rest) h e = let r = last_refused rest k u i m n j e in inl (omega (arith, r.0), omega (arith, r.0))

pub refused_number : (text : List ℕ) (n k : ℕ) → last_failure text ≡ refused n k → TextNumber n
unfolding last_failure
refused_number text n k e = refused_of text n k (scan text) (scan_taken text) e

numbered_of : (text : List ℕ) (n j : ℕ) (s : Scan) → Taken text s → verdict_of s ≡ Verdict.refused n j → TextNumber n
numbered_of text n j (Scan.refused m k) h e = let y : m ≡ n = cc in subst TextNumber y (taken_number_lem text m k h)
numbered_of text n j (Scan.ended u k) h e = let y : ◌≡◌ {A = ℕ} 0 1 = cc in absurd (let z : ⊥ = omega arith in z)
numbered_of text n j (Scan.stopped u i m k rest) h e = let y : ◌≡◌ {A = ℕ} 1 n = cc in inl (omega arith, omega arith)

pub verdict_number : (text : List ℕ) (n k : ℕ) → verdict text ≡ Verdict.refused n k → TextNumber n
unfolding verdict
verdict_number text n k e = numbered_of text n k (scan text) (scan_taken text) e
