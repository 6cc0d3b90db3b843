-- What is printed means what demands 1 and 2 ask (MANUAL 8.2; quotations are from the requirements). Of the definitions
-- that the contracts of `report::report` and `program::respond` give for every text (`reported`, `printed`, by
-- `recovery`, `answer_to`). A text that is recovered is that of a well-formed trace and a fit failure; what is printed
-- of it is the greatest line without a lost message, the epochs, phases, orphans and kept messages of MANUAL 3 and 4,
-- and the exact steps. Of a text that is refused it is the number and the place of the reader's first faulty line, or 8
-- or 9 at place 0; the program adds its limit.
use Prim.Native.Nat.{ℕ, zero, suc, ◌^◌, ◌≤◌, ◌<◌}
use mathlib.Core.Path.{◌≡◌, refl, sym, ◌∙◌}
use mathlib.Core.Logic.{◌⊎◌, inl, inr, ⊎_elim}
use mathlib.Core.Bool.{Bool, true, false, ◌||◌, cond}
use mathlib.Core.List.{List}
use native.Mathlib.Omega.{arith}
use lib.ListN.{length, get_or, replicate, length-replicate}
use lib.Dec.{leb, ltb, eqb}
use borrow.Author.Tests.{lt-ltb, le-ltb}
use Rattle.words.specs.Area.{area_words}
use Rattle.trace.specs.Trace.{Trace}
use Rattle.reader.specs.Failure.{FailureAnswer}
use Rattle.reader.specs.Failure.{Failing, last_failure, failure_answer}
use Rattle.reader.specs.Meaning.{FailureText, FirstFault, LaterFault, PastFailure, FailureReadAs, TextNumber, FailureRefuses}
use Rattle.reader.proofs.Claims.{canonical_failing, failure_refuses}
use Rattle.reader.proofs.Judging.{text_number}
use Rattle.reader.proofs.Whole.{refused_number}
use Rattle.theory.specs.Events.{size}
use Rattle.theory.specs.Epochs.{phase_at, rule_of}
use Rattle.theory.specs.Line.{in_set, Run, orphan, kept, restart_in, current, run_at}
use Rattle.theory.specs.Order.{steps, lowest_order}
use Rattle.theory.specs.Answers.{orphans, kept_ones, exact_steps}
use Rattle.theory.specs.Refusals.{failure_fault}
use Rattle.theory.specs.Inner.Laws.{Laws}
use Rattle.theory.specs.Inner.Tests.{names}
use Rattle.theory.proofs.WellFormed.{valid}
use Rattle.theory.proofs.Epochs.{laws}
use Rattle.theory.proofs.Answers.{orphans_name, kept_name}
use Rattle.theory.proofs.Exact.{exact_steps_lem}
use Rattle.theory.proofs.Lowest.{lowest_order_lem}
use Rattle.theory.proofs.Claims.{number_8, number_9, failure_taken}
use Rattle.recovery_line.specs.Given.{line_in, restart_phase_in}
use Rattle.restart.specs.Restart.{engine_line_of, restart_of, Restarts}
use Rattle.printing.specs.Lines.{refusal_line}
use Rattle.report.specs.Report.{Answer, refused, given, unless, Failure, failure_of, then, Recovery, recovery_of, recovery, printed_of, reported}
use Rattle.report.proofs.Answers.{not_given, unless_given}
use Rattle.program.specs.Program.{text_most, answer_to, printed}
use Rattle.demands.proofs.Restarting.{each_at, restarts}

-- ---- What is recovered

-- Demand 2 of what is printed for a text: "Epochs, phases, kept messages, orphans .. are those of the
-- send-deterministic protocol", "The line given is the greatest that loses no message".
pub record Recovers (text : List ℕ) (r : Recovery) : Type 0 where
  pub trace : Trace
  pub step : ℕ
  pub set : ℕ
  -- the text is that of a well-formed trace and a failure line, byte for byte, and neither 8 nor 9 is wrong with it
  pub says : FailureText text trace step set
  pub fit : failure_fault trace step set ≡ 0
  -- "The engine's line is the greatest without a lost message."; who goes back, and how many
  pub line : Restarts trace step set r.restarted
  -- a line is printed of each process and of no other
  pub count : r.restarted.line.count ≡ trace.procs
  -- "Epoch is at the cut; phase is at the restart, or at the cut for 32."
  pub epochs : (z : ℕ) → z < trace.procs → get_or r.restarted.epochs z 0 ≡ current trace (rule_of trace) step z
  pub phases : (z : ℕ) → z < trace.procs
      → get_or r.restarted.phases z 0 ≡ phase_at trace (rule_of trace) z (restart_in trace step (line_in r.restarted.line) z)
  -- the lists are those of the run from that line, "by sender, receiver, number"; a message is in one exactly if it is
  -- of its class
  pub orphans_are : r.orphans ≡ orphans (run_at trace step (line_in r.restarted.line))
  pub kept_are : r.kept ≡ kept_ones (run_at trace step (line_in r.restarted.line))
  pub orphans_named : (p q k : ℕ) → names p q k r.orphans ≡ orphan (run_at trace step (line_in r.restarted.line)) p q k
  pub kept_named : (p q k : ℕ) → names p q k r.kept ≡ kept (run_at trace step (line_in r.restarted.line)) p q k
  -- "Steps are those of the order that always picks the lowest allowed choice.", and of every complete order (MANUAL
  -- 5.8)
  pub lowest : r.steps ≡ steps (lowest_order (run_at trace step (line_in r.restarted.line)))
  pub exact : r.steps ≡ exact_steps (run_at trace step (line_in r.restarted.line))

-- a failure that a text tells, and what is said of it
module _ (text : List ℕ) (t : Trace) (step set : ℕ) (says : FailureText text t step set) (fit : failure_fault t step set ≡ 0) where
  cl : step ≤ size t
  cl = ((failure_taken t step set).0 fit).step_most

  abbrev R : Run
  R = run_at t step (line_in (engine_line_of t step set))

  L : Laws R
  L = laws t (rule_of t) (valid t says.fit) step (line_in (engine_line_of t step set)) cl

  restarts_so : Restarts t step set (restart_of t step set)
  unfolding restart_of engine_line_of
  restarts_so = restarts t says.fit step set cl

  lowest_exact : steps (lowest_order R) ≡ exact_steps R
  unfolding restart_of
  lowest_exact = let (s, c, d) = lowest_order_lem R L in exact_steps_lem R L (lowest_order R) s c restarts_so.greatest.loss_free d

  recovers_so : Recovers text (recovery_of (record { trace = t; step = step; failed = set }))
  unfolding recovery_of restart_of
  recovers_so =
      let few = (valid t says.fit).few in
      record {
        trace = t;
        step = step;
        set = set;
        says = says;
        fit = fit;
        line = restarts_so;
        count = unfold engine_line_of in refl;
        epochs = each_at t few (current t (rule_of t) step);
        phases = each_at t few (restart_phase_in t step (line_in (engine_line_of t step set)));
        orphans_are = refl;
        kept_are = refl;
        orphans_named = orphans_name R L;
        kept_named = kept_name R L;
        lowest = refl;
        exact = lowest_exact;
      }

text_says : (text : List ℕ) (t : Trace) (step set : ℕ) → last_failure text ≡ Failing.failing t step set → FailureText text t step set
text_says text t step set e =
    let (w, s, m, q) = (canonical_failing text t step set).0 e in
    record { fit = w; step_most = s; set_most = m; bytes = q }

failure_recovers : (text : List ℕ) (x : Failing) → last_failure text ≡ x → (f : Failure) → failure_of text ≡ given f → Recovers text (recovery_of f)
unfolding failure_of
failure_recovers text (Failing.refused n k) e f h = absurd (not_given n k f (rw e at h))
failure_recovers text (Failing.failing t step set) e f h =
    let g : Failure = record { trace = t; step = step; failed = set } in
    let u = unless_given (failure_fault t step set) (given g) f (rw e at h) in
    let same : g ≡ f = let q = u.1 in cc in
    rw (← same) (recovers_so text t step set (text_says text t step set e) u.0)

recovers_by : (text : List ℕ) (x : Answer Failure) → failure_of text ≡ x → (r : Recovery) → recovery text ≡ given r → Recovers text r
unfolding recovery
recovers_by text (refused n k) e r h = absurd (not_given n k r (rw e at h))
recovers_by text (given f) e r h =
    let q : given (recovery_of f) ≡ given r = rw e at h in
    let same : recovery_of f ≡ r = cc in
    rw (← same) (failure_recovers text (last_failure text) refl f e)

-- A text with a recovery is fit, and the recovery is the one that the requirements ask for.
pub recovered_means : (text : List ℕ) (r : Recovery) → recovery text ≡ given r → Recovers text r
recovered_means text = recovers_by text (failure_of text) refl

-- "nothing fit is refused"
pub fit_recovered : (text : List ℕ) (t : Trace) (step set : ℕ) → FailureText text t step set → failure_fault t step set ≡ 0
    → recovery text ≡ given (recovery_of (record { trace = t; step = step; failed = set }))
unfolding recovery failure_of
fit_recovered text t step set s z = rw ((canonical_failing text t step set).1 (s.fit, s.step_most, s.set_most, s.bytes), z)

-- ---- What is refused

abbrev pub refused_as : ℕ → ℕ → FailureAnswer
refused_as n k = record { number = n; place = k; step = 0; set = 0 }

-- "The first faulty line decides the refusal and its place.": `read_failure` refuses the text with 1 to 7, or 15,
-- whatever area of 16,384 words or more it is given, and line k is the first that is at fault
pub record Unreadable (text : List ℕ) (n k : ℕ) : Type 0 where
  pub numbers : TextNumber n
  pub reads : FailureReadAs (refused_as n k) text
  pub refuses : (a : List ℕ) → area_words ≤ length a → FailureRefuses text (length a) (refused_as n k)
  pub first : FirstFault (FailureReadAs (refused_as n k)) text n k
      ⊎ (LaterFault (FailureReadAs (refused_as n k)) text n k ⊎ PastFailure (FailureReadAs (refused_as n k)) text n k)

-- "8: K is beyond the last event. 9: the set is empty or names a zone N or more."
abbrev pub Wrong : Trace → ℕ → ℕ → ℕ → Type 0
Wrong t step set n =
    ((n ≡ 8) × (size t < step))
    ⊎ ((n ≡ 9) × ((step ≤ size t) × ((set ≡ 0) ⊎ ((z : ℕ) × (t.procs ≤ z) × (in_set set z ≡ true)))))

-- the text is that of a well-formed trace and a failure line, and the failure is unfit; "a place: the text line from 1,
-- .. else 0"
pub record Unfit (text : List ℕ) (n k : ℕ) : Type 0 where
  pub trace : Trace
  pub step : ℕ
  pub set : ℕ
  pub says : FailureText text trace step set
  pub number : n ≡ failure_fault trace step set
  pub wrong : Wrong trace step set n
  pub nowhere : k ≡ 0

eight_nine : (b c : Bool) (n : ℕ) → n ≡ cond b 8 (cond c 9 0) → (n ≡ 0 → ⊥) → (n ≡ 8) ⊎ (n ≡ 9)
eight_nine true c n e h = inl e
eight_nine false true n e h = inr e
eight_nine false false n e h = absurd (h e)

fault_wrong : (t : Trace) (step set : ℕ) → (failure_fault t step set ≡ 0 → ⊥) → Wrong t step set (failure_fault t step set)
fault_wrong t step set h =
    ⊎_elim (λ e. inl (e, (number_8 t step set).0 e)) (λ e. inr (e, (number_9 t step set).0 e))
    (eight_nine (ltb (size t) step) (eqb set 0 || leb (2 ^ t.procs) set) (failure_fault t step set) (unfold failure_fault in refl) h)

unless_refused : {A : Type 0} (m : ℕ) (x : A) (n k : ℕ) → unless m (given x) ≡ refused n k → (n ≡ m) × ((m ≡ 0 → ⊥) × (k ≡ 0))
unless_refused zero x n k h = absurd (not_given n k x (sym h))
unless_refused (suc m) x n k h = (cc, (λ z. omega arith, cc))

-- an area that is large enough
abbrev area : List ℕ
area = replicate area_words 0

large : area_words ≤ length area
large = let e : length area ≡ area_words = length-replicate {A = ℕ} area_words 0 in omega arith

unreadable : (text : List ℕ) (n k : ℕ) → last_failure text ≡ Failing.refused n k → Unreadable text n k
unfolding failure_answer
unreadable text n k e =
    let numbers = refused_number text n k e in
    let reads : FailureReadAs (refused_as n k) text = λ a h. rw (le-ltb (length a) area_words h, e) in
    let refuses : (a : List ℕ) → area_words ≤ length a → FailureRefuses text (length a) (refused_as n k) = λ a h. rw (reads a h) at (failure_refuses text a) in
    record {
      numbers = numbers;
      reads = reads;
      refuses = refuses;
      first = (refuses area large).first (λ z. let w : ⊥ = omega (arith, (text_number n numbers).0) in w) large;
    }

refuses_by : (text : List ℕ) (x : Failing) → last_failure text ≡ x → (n k : ℕ) → failure_of text ≡ refused n k → Unreadable text n k ⊎ Unfit text n k
unfolding failure_of
refuses_by text (Failing.refused m i) e n k h =
    let q : ◌≡◌ {A = Answer Failure} (refused m i) (refused n k) = rw e at h in
    let a : m ≡ n = cc in
    let b : i ≡ k = cc in
    inl (unreadable text n k (e ∙ rw (a, b)))
refuses_by text (Failing.failing t step set) e n k h =
    let f : Failure = record { trace = t; step = step; failed = set } in
    let u = unless_refused (failure_fault t step set) f n k (rw e at h) in
    inr (record {
      trace = t;
      step = step;
      set = set;
      says = text_says text t step set e;
      number = u.0;
      wrong = rw u.0 (fault_wrong t step set u.1.0);
      nowhere = u.1.1;
    })

failure_refused : (x : Answer Failure) (n k : ℕ) → then x (λ f. given (recovery_of f)) ≡ refused n k → x ≡ refused n k
failure_refused (refused m i) n k h = let a : m ≡ n = cc in let b : i ≡ k = cc in rw (a, b)
failure_refused (given f) n k h = absurd (not_given n k (recovery_of f) (sym h))

-- A text without a recovery is unfit, and the number and the place are those of its first fault.
pub refused_means : (text : List ℕ) (n k : ℕ) → recovery text ≡ refused n k → Unreadable text n k ⊎ Unfit text n k
unfolding recovery
refused_means text n k h = refuses_by text (last_failure text) refl n k (failure_refused (failure_of text) n k h)

-- ---- What `report` writes, for every text

-- the lines of a recovery that means what it should, or the line of a refusal that does: "A refusal prints only
-- `refused=N place=P`."
abbrev pub Told : List ℕ → List ℕ → Type 0
Told text bytes =
    ((r : Recovery) × (bytes ≡ printed_of (given r)) × Recovers text r)
    ⊎ ((n : ℕ) × (k : ℕ) × (bytes ≡ refusal_line n k) × (Unreadable text n k ⊎ Unfit text n k))

told_by : (text : List ℕ) (x : Answer Recovery) → recovery text ≡ x → Told text (printed_of x)
told_by text (refused n k) e = inr (n, k, unfold printed_of in refl, refused_means text n k e)
told_by text (given r) e = inl (r, refl, recovered_means text r e)

pub reported_means : (text : List ℕ) → Told text (reported text)
unfolding reported
reported_means text = told_by text (recovery text) refl

-- ---- What the program prints, for every input: "The program takes at most 65,536 bytes; more is 1 at place 0, before
-- anything else."

pub printed_means : (input : List ℕ) → length input ≤ text_most → Told input (printed input)
unfolding printed answer_to
printed_means input h = rw (le-ltb text_most (length input) h) (told_by input (recovery input) refl)

pub printed_past : (input : List ℕ) → text_most < length input → printed input ≡ refusal_line 1 0
unfolding printed answer_to printed_of
printed_past input h = rw (lt-ltb text_most (length input) h)
