-- The lines after the first: what is read there is rendered events, all fit, and fit events rendered are read. From the
-- laws of one line and of pieces.
use Prim.Native.Nat.{ℕ, ◌+◌, ◌<◌, ◌≤◌}
use mathlib.Core.Path.{◌≡◌, refl, sym, ap, ◌∙◌}
use mathlib.Core.List.{List, [], ◌∷◌, ◌++◌, append_assoc, append-nil}
use mathlib.Core.Bool.{true}
use native.Mathlib.Omega.{arith}
use lib.Dec.{eqb}
use lib.ListN.{length, length-append}
use borrow.Author.Tests.{leb-true, le-leb, lt-leb, eqb-true, eq-eqb, ne_eqb}
use Rattle.words.proofs.Cases.{by_eq, and_left, and_right, and_both}
use Rattle.trace.specs.declared.Event.{Event}
use Rattle.trace.specs.declared.Event.TheVariants.{Send, Recv, Save, Done}
use Rattle.trace.specs.Trace.{Trace, with_events, extended}
use Rattle.trace.specs.Fit.{event_fault, value_fits, all_fit}
use Rattle.lines.specs.declared.Line.{Line}
use Rattle.lines.specs.Line.{line_said, most, most_value, most_set}
use Rattle.lines.specs.Render.{render_event, render_failure, KeysHold}
use Rattle.reader.specs.Render.{render_events}
use Rattle.reader.specs.Verdict.{Judged, Fit, Fails, Unfit, pieces, fault_here, judge_event, judge, Scan, after_line, lines_from}
use Rattle.trace.proofs.Faults.{send_fit, recv_fit, save_fit, done_fit}
use Rattle.reader.proofs.Judging.{fit_few}
use Rattle.reader.proofs.Turns.{with_lf}
use Rattle.lines.proofs.OneLine.{Says, failure_text_lem, line_says, line_for, event_line}
use Rattle.lines.proofs.Plain.{plain, plain_event}
use Rattle.reader.proofs.Pieces.{joined, line_piece, plains}
use Rattle.lines.specs.declared.Line as line

-- the trace with more events
abbrev pub longer : Trace → List Event → Trace
longer t es = with_events t (t.events ++ es)

longer_none : (t : Trace) → t ≡ longer t []
longer_none t = ap (with_events t) (sym (append-nil t.events))

longer_more : (t : Trace) (e : Event) (es : List Event) → longer (extended t e) es ≡ longer t (e ∷ es)
longer_more t e es = ap (with_events t) (append_assoc t.events (e ∷ []) es)

-- ---- from reading to text

-- what a judgement says of the line's bytes and of the event
abbrev Told : Trace → List ℕ → Judged → Type 0
Told t l (Fit e) = (l ≡ render_event e) × (fault_here t e ≡ 0) × (value_fits e ≡ true)
Told t l (Fails step set) = Says l (line.TheVariants.Failure step set)
Told t l (Unfit n) = Unit

event_told : (t : Trace) (l : List ℕ) (e : Event) → l ≡ render_event e → value_fits e ≡ true → Told t l (judge_event t e)
unfolding judge_event
event_told t l e q v =
    by_eq (fault_here t e) 0
    (λ z. rw (eq-eqb (fault_here t e) 0 z) (q, z, v))
    (λ n. rw (ne_eqb (fault_here t e) 0 n) tt)

judge_told : (t : Trace) (l : List ℕ) (x : Line) → Says l x → Told t l (judge t x)
unfolding judge
judge_told t l (line.TheVariants.Procs n) s = tt
judge_told t l (line.TheVariants.Send at to val) s = event_told t l (Send at to val) s.0 (le-leb val most_value s.1.2)
judge_told t l (line.TheVariants.Recv at from) s = event_told t l (Recv at from) s.0 refl
judge_told t l (line.TheVariants.Save at) s = event_told t l (Save at) s.0 refl
judge_told t l (line.TheVariants.Done at) s = event_told t l (Done at) s.0 refl
judge_told t l (line.TheVariants.Failure step set) s = s
judge_told t l line.TheVariants.Malformed s = tt

-- u is t with these events more, all of them fit
abbrev pub Grown : Trace → List Event → Trace → Type 0
Grown t es u = (u ≡ longer t es) × (all_fit t.procs t.events es ≡ true) × (length t.events + length es ≤ 2048)

-- What is wrong with the first of the pieces from a faulty line on: a last piece lacks its LF, or is missing; of a line
-- with its LF, what a rule says.
abbrev pub Wrong : (List ℕ → ℕ → Type 0) → List (List ℕ) → ℕ → Type 0
Wrong P [] n = n ≡ 1
Wrong P (l ∷ []) n = n ≡ 1
Wrong P (l ∷ (m ∷ ms)) n = P l n

-- a line after a trace is not fit
abbrev pub Misjudged : Trace → List ℕ → ℕ → Type 0
Misjudged u l n = judge u (line_said l) ≡ Unfit n

-- the lines ps from line k on, after the trace t, are refused with n at line j: the events before that line, and the
-- pieces from there on
pub record Broken (t : Trace) (k : ℕ) (ps : List (List ℕ)) (n j : ℕ) : Type 0 where
  pub fits : List Event
  pub last : Trace
  pub rest : List (List ℕ)
  pub bytes : joined ps ≡ render_events fits ++ joined rest
  pub grown : Grown t fits last
  pub place : k + length fits ≡ j
  pub plain : plains rest ≡ true
  pub wrong : Wrong (Misjudged last) rest n

-- what the reading of lines from line k on, after a trace t, says: of a refusal the above, of a trace its events and
-- their bytes, and of a failure line its own; and the line where it ends
abbrev pub Heard : Trace → ℕ → List (List ℕ) → Scan → Type 0
Heard t k ps (Scan.refused n j) = Broken t k ps n j
Heard t k ps (Scan.ended u j) = (es : List Event) × (joined ps ≡ render_events es) × Grown t es u × (k + length es ≡ j)
Heard t k ps (Scan.stopped u step set j rest) =
    (es : List Event) × (joined ps ≡ render_events es ++ (render_failure step set ++ joined rest)) × (step ≤ most) × (set ≤ most_set) × Grown t es u × (k + length es ≡ j)

none_grown : (t : Trace) → length t.events ≤ 2048 → Grown t [] t
unfolding all_fit
none_grown t h = (longer_none t, refl, omega arith)

more_grown : (t u : Trace) (e : Event) (es : List Event) → event_fault t.procs t.events e ≡ 0 → value_fits e ≡ true → Grown (extended t e) es u → Grown t (e ∷ es) u
unfolding all_fit
more_grown t u e es z v g = (
  g.0 ∙ longer_more t e es,
  and_both _ _ (eq-eqb _ 0 z) (and_both _ _ v g.1),
  omega (arith, g.2, length-append t.events (e ∷ [])),
)

more_heard : (t : Trace) (k : ℕ) (l m : List ℕ) (ms : List (List ℕ)) (e : Event) → l ≡ render_event e → event_fault t.procs t.events e ≡ 0 → value_fits e ≡ true
    → (s : Scan) → Heard (extended t e) (k + 1) (m ∷ ms) s → Heard t k (l ∷ (m ∷ ms)) s
unfolding joined render_events
more_heard t k l m ms e q z v (Scan.refused n j) h =
    record {
      fits = e ∷ h.fits;
      last = h.last;
      rest = h.rest;
      bytes = rw (q, h.bytes, append_assoc (render_event e) (10 ∷ render_events h.fits) (joined h.rest));
      grown = more_grown t h.last e h.fits z v h.grown;
      place = omega (arith, h.place);
      plain = h.plain;
      wrong = h.wrong;
    }
more_heard t k l m ms e q z v (Scan.ended u j) h = (e ∷ h.0, rw (q, h.1), more_grown t u e h.0 z v h.2, omega (arith, h.3))
more_heard t k l m ms e q z v (Scan.stopped u step set j rest) h = (
  e ∷ h.0,
  rw (q, h.1, append_assoc (render_event e) (10 ∷ render_events h.0) (render_failure step set ++ joined rest)),
  h.2,
  h.3,
  more_grown t u e h.0 z v h.4,
  omega (arith, h.5),
)

-- no event before the faulty line
none_heard : (t : Trace) (k : ℕ) (ps : List (List ℕ)) (n : ℕ) → length t.events ≤ 2048 → plains ps ≡ true → Wrong (Misjudged t) ps n → Broken t k ps n k
unfolding render_events
none_heard t k ps n few p w = record { fits = []; last = t; rest = ps; bytes = refl; grown = none_grown t few; place = omega arith; plain = p; wrong = w }

after_heard : (t : Trace) (k : ℕ) (l m : List ℕ) (ms : List (List ℕ)) (next : Event → Scan)
    → length t.events ≤ 2048 → plains (l ∷ (m ∷ ms)) ≡ true → ((e : Event) → length t.events < 2048 → Heard (extended t e) (k + 1) (m ∷ ms) (next e))
    → (j : Judged) → judge t (line_said l) ≡ j → Told t l j → Heard t k (l ∷ (m ∷ ms)) (after_line j t k (m ∷ ms) next)
unfolding joined render_events
after_heard t k l m ms next few p more (Fit e) q d =
    let (room, fit) = fit_few t e d.1 in
    more_heard t k l m ms e d.0 fit d.2 (next e) (more e room)
after_heard t k l m ms next few p more (Fails step set) q d =
    ([], rw d.0 (sym (failure_text_lem step set (joined (m ∷ ms)))), d.1, d.2, none_grown t few, omega arith)
after_heard t k l m ms next few p more (Unfit n) q d = none_heard t k (l ∷ (m ∷ ms)) n few p q

pub lines_heard : (t : Trace) (k : ℕ) (ps : List (List ℕ)) → length t.events ≤ 2048 → plains ps ≡ true → Heard t k ps (lines_from t k ps)
unfolding lines_from joined render_events plains
lines_heard t k [] h p = none_heard t k [] 1 h p refl
lines_heard t k ([] ∷ []) h p = ([], refl, none_grown t h, omega arith)
lines_heard t k ((b ∷ l) ∷ []) h p = none_heard t k ((b ∷ l) ∷ []) 1 h p refl
lines_heard t k (l ∷ (m ∷ ms)) h p =
    after_heard t k l m ms (λ e. lines_from (extended t e) (k + 1) (m ∷ ms)) h p
    (λ e room. lines_heard (extended t e) (k + 1) (m ∷ ms) (omega (arith, length-append t.events (e ∷ []))) (and_right (plain l) _ p))
    (judge t (line_said l)) refl (judge_told t l (line_said l) (line_says l))

-- ---- from text to reading

-- a fit event's processes are below 64
fit_small : (n : ℕ) (before : List Event) (e : Event) → n ≤ 64 → event_fault n before e ≡ 0 → value_fits e ≡ true → KeysHold e
fit_small n before (Send at to val) r z v = let f = send_fit n before at to val z in (omega arith, omega arith, leb-true val most_value v)
fit_small n before (Recv at from) r z v = let f = recv_fit n before at from z in (omega arith, omega arith)
fit_small n before (Save at) r z v = let f = save_fit n before at z in omega arith
fit_small n before (Done at) r z v = let f = done_fit n before at z in omega arith

pub judge_event_lem : (t : Trace) (e : Event) → judge t (line_for e) ≡ judge_event t e
unfolding judge
judge_event_lem t (Send at to val) = refl
judge_event_lem t (Recv at from) = refl
judge_event_lem t (Save at) = refl
judge_event_lem t (Done at) = refl

event_judged : (t : Trace) (e : Event) → t.procs ≤ 64 → length t.events < 2048 → event_fault t.procs t.events e ≡ 0 → value_fits e ≡ true
    → judge t (line_said (render_event e)) ≡ Fit e
unfolding judge_event fault_here
event_judged t e r room fit v =
    ap (judge t) (event_line e (fit_small t.procs t.events e r fit v)) ∙ judge_event_lem t e ∙ rw (lt-leb 2048 (length t.events) room, fit)

-- what follows rendered events is read after them
pub events_read : (t : Trace) (k : ℕ) (es : List Event) (rest : List ℕ) → t.procs ≤ 64 → length t.events + length es ≤ 2048
    → all_fit t.procs t.events es ≡ true → lines_from t k (pieces (render_events es ++ rest)) ≡ lines_from (longer t es) (k + length es) (pieces rest)
unfolding render_events all_fit
events_read t k [] rest r h f = let n : k ≡ k + 0 = omega arith in ap (λ (u : Trace). lines_from u k (pieces rest)) (longer_none t) ∙ ap (λ (i : ℕ). lines_from (longer t []) i (pieces rest)) n
events_read t k (e ∷ es) rest r h f =
    let fit : event_fault t.procs t.events e ≡ 0 = eqb-true (event_fault t.procs t.events e) 0 (and_left _ _ f) in
    let values = and_right (eqb (event_fault t.procs t.events e) 0) _ f in
    let judged = event_judged t e r (omega arith) fit (and_left (value_fits e) _ values) in
    let after = render_events es ++ rest in
    let more = events_read (extended t e) (k + 1) es rest r (omega (arith, length-append t.events (e ∷ []))) (and_right (value_fits e) _ values) in
    let n : k + 1 + length es ≡ k + length (e ∷ es) = omega arith in
    ap (λ (x : List ℕ). lines_from t k (pieces x)) (append_assoc (render_event e) (10 ∷ render_events es) rest)
    ∙ ap (lines_from t k) (line_piece (render_event e) after (plain_event e))
    ∙ with_lf t k (render_event e) after
    ∙ ap (λ (x : Judged). after_line x t k (pieces after) (λ d. lines_from (extended t d) (k + 1) (pieces after))) judged
    ∙ more
    ∙ ap (λ (u : Trace). lines_from u (k + 1 + length es) (pieces rest)) (longer_more t e es)
    ∙ ap (λ (i : ℕ). lines_from (longer t (e ∷ es)) i (pieces rest)) n
