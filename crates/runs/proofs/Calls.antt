-- From the definitions that a row of the table computes to what the calls answer and leave, by their contracts:
-- `reader::read_failure` reads a text into a table area, and then `restart`, `messages`, `replay`, `lowest` and
-- `recover` are called on what it left there.
use Prim.Native.Nat.{ℕ, zero, suc, ◌+◌, ◌<◌, ◌≤◌}
use mathlib.Core.Path.{◌≡◌, refl, sym, ap, ap₂, subst, ◌∙◌}
use mathlib.Core.Bool.{Bool, true, false}
use mathlib.Core.List.{List, [], ◌∷◌, ◌++◌}
use mathlib.Core.Option.{some}
use native.Mathlib.Omega.{arith}
use lib.ListN.{length, get_or, take, drop, replicate, length-replicate, get_or-replicate, get_or-append}
use borrow.Author.Tests.{le-ltb}
use Rattle.words.specs.Area.{area_words, words_from, ruled}
use Rattle.words.proofs.Area.{words_ext, words_at_lem, length_words}
use Rattle.trace.specs.Trace.{Trace}
use Rattle.reader.specs.Verdict.{Verdict, accepted, verdict}
use Rattle.reader.specs.Answer.{read_answer, read_area}
use Rattle.reader.specs.Failure.{Failing, failure_answer, failure_area, last_failure}
use Rattle.table.specs.Held.{held, holds_trace}
use Rattle.table.specs.Inner.Held.{held_trace}
use Rattle.table.proofs.Holding.{told}
use Rattle.table.proofs.Claims.{read_held, failing_held}
use Rattle.theory.specs.Events.{size}
use Rattle.theory.specs.Epochs.{rule_of}
use Rattle.theory.specs.Inner.Laws.{Laws}
use Rattle.theory.specs.Line.{Run, LossFree, run_at}
use Rattle.theory.specs.Order.{Outcome, carried_out, run, steps, complete, lowest_order}
use Rattle.theory.specs.Answers.{Listed, orphans, kept_ones, lost_ones, exact_steps}
use Rattle.theory.specs.Inner.Tests.{same_record}
use Rattle.theory.specs.Refusals.{failure_fault}
use Rattle.theory.proofs.Answers.{lost_none}
use Rattle.theory.proofs.Claims.{record_iff, record_test, complete_test}
use Rattle.theory.proofs.Epochs.{laws}
use Rattle.theory.proofs.Refusals.{failure_fit, failure_9, line_fit, line_9}
use Rattle.protocol.proofs.Passes.{held_long, held_formed, held_valid, held_few}
use Rattle.listing.specs.Listing.{list_word}
use Rattle.recovery_line.specs.declared.Line.{Line}
use Rattle.recovery_line.specs.Given.{line_in}
use Rattle.orders.specs.Record.{record_at, faultless_at}
use Rattle.orders.specs.Answer.{Answered, answer_of, words_of}
use Rattle.preparing.specs.Faults.{line_fault_of, run_of as code_run, failure_fault_of}
use Rattle.recovery.specs.Answers.{refusal, replay_answer, replay_area, Completed, Replays as Replay}
use Rattle.recovery.specs.Recover.{RecoverAnswer, Recovers as Recover}
use Rattle.messages.specs.Messages.{MessagesAnswer, messages_refusal, counts_of, messages_answer, messages_area}
use Rattle.restart.specs.Restart.{RestartAnswer, engine_line_of, restart_of, restart_refusal, restart_answer}
use Rattle.messages.proofs.Rows.{At, orphans_at, kept_at, lost_at}
use Rattle.messages.proofs.Listing.{Listed as Messages, counts_are, listed_at}
use Rattle.restart.proofs.Restarting.{Answered as Restart, Ready}
use Rattle.recovery.proofs.Taking.{not_refused}
use Rattle.report.specs.Report.{Answer, refused, given, unless, then, Failure, engine_run, Recovery, recovery_of, recovery, failure_of}
use Rattle.report.proofs.Found.{run_is}
use Rattle.report.proofs.Answers.{not_given, unless_given}
use Rattle.runs.proofs.Table.{completed}
use Rattle.runs.specs.Answers.{line_from, run_with, losses, Replayed as Told, fault, replay_of, replay, TakenWords, taken_words_in, taken_words_of, taken_words, exact_steps_of}

-- ---- What the rows say. `Restart`, `Messages`, `Replay` and `Recover` are the contracts of those calls: what they
-- promise of the answer, and of the area that they leave.

-- what a call leaves in an area after a refusal that clears it; "Words past 16,384 are never touched"
abbrev pub cleared : List ℕ → List ℕ
cleared a = replicate area_words 0 ++ drop area_words a

-- `read` accepts a text: the table area holds its trace
abbrev pub Accepts : List ℕ → Trace → Type 0
Accepts text t =
    (before : List ℕ) → area_words ≤ length before
    → (read_answer text before ≡ record { number = 0; place = 0 }) × (held_trace (read_area text before) ≡ some t)

-- `read_failure` accepts it: the answer has the failure too
abbrev pub Reads : List ℕ → Trace → ℕ → ℕ → Type 0
Reads text t step set =
    (before : List ℕ) → area_words ≤ length before
    → (failure_answer text before ≡ record { number = 0; place = 0; step = step; set = set }) × (held_trace (failure_area text before) ≡ some t)

-- what is said of a trace, of a table area that holds it, and of a run area that is lent
abbrev pub Claim : Type 1
Claim = Trace → List ℕ → List ℕ → Type 0

-- it holds on every table area that holds the trace, whatever run area is lent
abbrev pub OnTable : Trace → Claim → Type 0
OnTable t P = (a run : List ℕ) → held_trace a ≡ some t → area_words ≤ length run → P t a run

-- `messages` counts and lists these orphans, kept and lost messages
pub record Lists (os ks ls : List Listed) (c : MessagesAnswer) (w : List ℕ) : Type 0 where
  pub counted : c ≡ record { number = 0; place = 0; orphans = length os; kept = length ks; lost = length ls }
  pub orphans_at : At w 0 1 os
  pub kept_at : At w (length os) 2 ks
  pub lost_at : At w (length os + length ks) 3 ls

-- the record in a run area is that of the run without failure
abbrev pub Faultless : Trace → List ℕ → Type 0
Faultless t v = take area_words v ≡ words_from (faultless_at t) 0 area_words

-- an order is complete after so many steps; and leaves that record
abbrev pub Finished : ℕ → Answered → Type 0
Finished n y = y ≡ record { number = 0; place = 0; steps = n; complete = true }

abbrev pub Done : Trace → ℕ → Answered → List ℕ → Type 0
Done t n y v = Finished n y × Faultless t v

-- `restart`, then `messages` and `lowest` with the line that it gives, which loses no message
abbrev pub Recovers : ℕ → ℕ → Recovery → Claim
Recovers step set x t a run =
    (r : RestartAnswer) → Restart a step set r
    → (r ≡ x.restarted)
    × ((c : MessagesAnswer) (w : List ℕ) → Messages a run step set r.line c w → Lists x.orphans x.kept [] c w)
    × ((y : Answered) (v : List ℕ) → Replay a run step set r.line (lowest_order (code_run a step r.line)) y v
    → Completed a (length run) step set r.line y → Done t x.steps y v)

-- every call refuses the failure, whatever the line and the order: "In a refused answer every other number is 0 and
-- every yes or no is no"; "Other refusals change nothing", neither the run area nor the table area, which `recover` may
-- write to
pub record AllRefuse (step set n : ℕ) (t : Trace) (a run : List ℕ) : Type 0 where
  pub restart : (r : RestartAnswer) → Restart a step set r → r ≡ restart_refusal n
  pub messages : (l : Line) (c : MessagesAnswer) (w : List ℕ) → Messages a run step set l c w → (c ≡ messages_refusal n) × (w ≡ run)
  pub replay : (l : Line) (order : List ℕ) (y : Answered) (v : List ℕ) → Replay a run step set l order y v → (y ≡ refusal n) × (v ≡ run)
  pub lowest : (l : Line) (y : Answered) (v : List ℕ) → Replay a run step set l (lowest_order (code_run a step l)) y v → (y ≡ refusal n) × (v ≡ run)
  pub recover : (x : RecoverAnswer) (w : List ℕ) → Recover a step set x w
      → (x.restarted ≡ restart_refusal n) × (x.replayed ≡ refusal n) × (x.counted ≡ messages_refusal n) × (w ≡ a)

-- `messages` with a line
abbrev pub Loses : ℕ → ℕ → List ℕ → List Listed → Claim
Loses step set l ms t a run =
    let R = run_at t step (line_in (line_from l)) in
    (c : MessagesAnswer) (w : List ℕ) → Messages a run step set (line_from l) c w → Lists (orphans R) (kept_ones R) ms c w

-- `replay` with a line: every complete order, whatever its choices, has so many steps
abbrev pub AllHaveSteps : ℕ → ℕ → List ℕ → ℕ → Claim
AllHaveSteps step set l n t a run =
    (order : List ℕ) (y : Answered) (v : List ℕ) → Replay a run step set (line_from l) order y v → y.number ≡ 0 → y.complete ≡ true → y.steps ≡ n

-- `replay` with a line and an order: complete after so many steps
abbrev pub Finishes : ℕ → ℕ → List ℕ → List ℕ → ℕ → Claim
Finishes step set l order n t a run = (y : Answered) (v : List ℕ) → Replay a run step set (line_from l) order y v → Finished n y

-- and with the record of the run without failure
abbrev pub Completes : ℕ → ℕ → List ℕ → List ℕ → ℕ → Claim
Completes step set l order n t a run = (y : Answered) (v : List ℕ) → Replay a run step set (line_from l) order y v → Done t n y v

-- or carried out, complete or not, from a line with loss or without: what it answers, and the record that it leaves
abbrev pub Leaves : ℕ → ℕ → List ℕ → List ℕ → ℕ → Bool → TakenWords → Claim
Leaves step set l order n all ws t a run =
    (y : Answered) (v : List ℕ) → Replay a run step set (line_from l) order y v
    → (y ≡ record { number = 0; place = 0; steps = n; complete = all }) × (taken_words_in t (λ k. get_or v k 0) ≡ ws)

-- or 11 at a place
abbrev pub Stops : ℕ → ℕ → List ℕ → List ℕ → ℕ → Claim
Stops step set l order i t a run =
    (y : Answered) (v : List ℕ) → Replay a run step set (line_from l) order y v
    → (y ≡ record { number = 11; place = i; steps = 0; complete = false }) × (v ≡ cleared run)

-- ---- Answers of the definitions, taken apart

then_given : {A : Type 0} (n : ℕ) (f : Failure) (g : Failure → Answer A) (x : A) → then (unless n (given f)) g ≡ given x → (n ≡ 0) × (g f ≡ given x)
then_given zero f g x h = (refl, h)
then_given (suc n) f g x h = absurd (not_given (suc n) 0 x h)

-- a refusal with a place is none of 8, 9 and 10
then_placed : {A : Type 0} (n : ℕ) (f : Failure) (g : Failure → Answer A) (m i : ℕ) → then (unless n (given f)) g ≡ refused m (suc i) → g f ≡ refused m (suc i)
then_placed zero f g m i h = h
then_placed (suc n) f g m i h = absurd (let z : ◌≡◌ {A = ℕ} 0 (suc i) = cc in let w : ⊥ = omega arith in w)

unless_placed : {A : Type 0} (n : ℕ) (y : Answer A) (m i : ℕ) → unless n y ≡ refused m (suc i) → (n ≡ 0) × (y ≡ refused m (suc i))
unless_placed zero y m i h = (refl, h)
unless_placed (suc n) y m i h = absurd (let z : ◌≡◌ {A = ℕ} 0 (suc i) = cc in let w : ⊥ = omega arith in w)

-- words by two rules that agree
words_same : (f g : ℕ → ℕ) (i n : ℕ) → ((k : ℕ) → k < i + n → f k ≡ g k) → words_from f i n ≡ words_from g i n
unfolding words_from
words_same f g i zero h = refl
words_same f g i (suc n) h = ap₂ (λ (x : ℕ) (xs : List ℕ). x ∷ xs) (h i (omega arith)) (words_same f g (suc i) n (λ k l. h k (omega arith)))

-- ---- The messages of a line that is not refused

module _ (a run : List ℕ) (step set : ℕ) (l : Line) (R : Run) (same : code_run a step l ≡ R)
    (ok : line_fault_of a (length run) step set l ≡ 0) (c : MessagesAnswer) (w : List ℕ) (M : Messages a run step set l c w) where
  counts : c ≡ counts_of R
  counts = counts_are a run step set l ok c M.0 ∙ ap counts_of same

  words : (k : ℕ) → k < 16384 → get_or w k 0 ≡ list_word R k
  words k h = listed_at a run step set l ok w M.1.0 k h ∙ ap (λ (Q : Run). list_word Q k) same

  room : length (orphans R) + (length (kept_ones R) + length (lost_ones R)) ≤ 2048
  room = rw counts at M.1.1.0

  lists : Lists (orphans R) (kept_ones R) (lost_ones R) c w
  lists = record { counted = counts; orphans_at = orphans_at R w words room; kept_at = kept_at R w words room; lost_at = lost_at R w words room }

-- ---- A table area that holds the trace of a text

module _ (text a : List ℕ) (step set : ℕ) (holds : holds_trace a ≡ true) (e : last_failure text ≡ Failing.failing (held a) step set) where
  abbrev t : Trace
  t = held a

  abbrev f : Failure
  f = record { trace = t; step = step; failed = set }

  failure_is : failure_fault_of a step set ≡ failure_fault t step set
  unfolding failure_fault_of
  failure_is = rw (le-ltb (length a) 16384 (held_long a holds), holds)

  recovery_is : recovery text ≡ then (unless (failure_fault t step set) (given f)) (λ g. given (recovery_of g))
  unfolding recovery failure_of
  recovery_is = rw e

  refusal_is : (n m k : ℕ) → then (unless n (given f)) (λ g. given (recovery_of g)) ≡ refused m k → (n ≡ m) × (n ≡ 0 → ⊥)
  refusal_is zero m k h = absurd (not_given m k (recovery_of f) (sym h))
  refusal_is (suc n) m k h = (cc, λ z. omega arith)

  -- ---- every call refuses a failure of no process, or of one that the trace has not

  module _ (k : ℕ) (h : recovery text ≡ refused 9 k) where
    failure_bad : failure_fault t step set ≡ 9
    failure_bad = (refusal_is (failure_fault t step set) 9 k (sym recovery_is ∙ h)).0

    line_bad : (l : Line) (space : ℕ) → area_words ≤ space → line_fault_of a space step set l ≡ 9
    unfolding line_fault_of
    line_bad l space long =
        rw (le-ltb (length a) 16384 (held_long a holds), le-ltb space 16384 long, holds)
        ((line_9 t step set l.count (line_in l)).1 ((failure_9 t step set).0 failure_bad))

    module _ (l : Line) (lent : List ℕ) (long : area_words ≤ length lent) where
      bad : line_fault_of a (length lent) step set l ≡ 9
      bad = line_bad l (length lent) long

      counts_none : messages_answer a lent step set l ≡ messages_refusal 9
      unfolding messages_answer
      counts_none = rw bad

      lists_none : messages_area a lent step set l ≡ lent
      unfolding messages_area
      lists_none = rw bad

      replays_none : (order : List ℕ) → replay_answer a lent step set l order ≡ refusal 9
      unfolding replay_answer
      replays_none order = rw bad

      records_none : (order : List ℕ) → replay_area a lent step set l order ≡ lent
      unfolding replay_area
      records_none order = rw bad

    restart_none : (r : RestartAnswer) → r ≡ restart_answer a step set → r ≡ restart_refusal 9
    unfolding restart_answer
    restart_none r e = e ∙ rw (failure_is, failure_bad)

    all_refused : (run₀ : List ℕ) → area_words ≤ length run₀ → AllRefuse step set 9 t a run₀
    all_refused run₀ long =
        record {
          restart = λ r A. restart_none r A.0;
          messages = λ l c w M. (M.0 ∙ counts_none l run₀ long, M.1.0 ∙ lists_none l run₀ long);
          replay = λ l order y v P. (P.answer ∙ replays_none l run₀ long order, P.words ∙ records_none l run₀ long order);
          lowest = λ l y v P. (P.answer ∙ replays_none l run₀ long _, P.words ∙ records_none l run₀ long _);
          recover = λ x w Q. let l : Line = x.restarted.line in let own = held_long a holds in (
            restart_none x.restarted Q.restart,
            Q.replay ∙ replays_none l a own _,
            Q.messages ∙ counts_none l a own,
            Q.words ∙ lists_none l a own,
          );
        }

  -- ---- `restart`, and `messages` and `lowest` with the line that it gives

  module _ (x : Recovery) (h : recovery text ≡ given x) (r : RestartAnswer) (A : Restart a step set r) where
    taken : (failure_fault t step set ≡ 0) × (given (recovery_of f) ≡ given x)
    taken = then_given (failure_fault t step set) f (λ g. given (recovery_of g)) x (sym recovery_is ∙ h)

    found : recovery_of f ≡ x
    found = let q = taken.1 in cc

    answer_is : r ≡ restart_of t step set
    unfolding restart_answer
    answer_is = A.0 ∙ rw (failure_is, taken.0)

    number_is : r.number ≡ 0
    unfolding restart_of
    number_is = ap (λ (s : RestartAnswer). s.number) answer_is

    ready : Ready a step set r
    ready = record { holds = holds; fit = taken.0; answer = answer_is; means = A.1 number_is }

    restarts : r ≡ x.restarted
    unfolding recovery_of
    restarts = answer_is ∙ ap (λ (z : Recovery). z.restarted) found

    abbrev R : Run
    R = engine_run f

    same : code_run a step r.line ≡ R
    same = run_is (held a) step set r ready.answer

    none_lost : lost_ones R ≡ []
    none_lost =
        let L : Laws R = laws t (rule_of t) (held_valid a holds) step (line_in (engine_line_of t step set)) ((failure_fit t step set).0 taken.0).step_most in
        (lost_none R L).1 (subst LossFree same ready.means.greatest.loss_free)

    module _ (run₀ : List ℕ) (long : area_words ≤ length run₀) where
      ok : line_fault_of a (length run₀) step set r.line ≡ 0
      ok = not_refused a step set r ready (length run₀) long

      listed : (c : MessagesAnswer) (w : List ℕ) → Messages a run₀ step set r.line c w → Lists x.orphans x.kept [] c w
      unfolding recovery_of
      listed c w M =
          subst (λ (z : Recovery). Lists z.orphans z.kept [] c w) found
          (subst (λ (ms : List Listed). Lists (orphans R) (kept_ones R) ms c w) none_lost
          (lists a run₀ step set r.line R same ok c w M))

      module _ (y : Answered) (v : List ℕ) (P : Replay a run₀ step set r.line (lowest_order (code_run a step r.line)) y v)
          (C : Completed a (length run₀) step set r.line y) where
        carried_out_lem : (o : Outcome) (n : ℕ) → y ≡ answer_of (code_run a step r.line) o n → y ≡ record { number = 0; place = 0; steps = n; complete = true }
        unfolding answer_of
        carried_out_lem (carried_out s) n q = q ∙ rw (sym (ap (λ (z : Answered). z.complete) q) ∙ (C ok).1)
        carried_out_lem (Outcome.refused i) n q = absurd (let z : ◌≡◌ {A = ℕ} 11 0 = sym (ap (λ (z : Answered). z.number) q) ∙ (C ok).0 in let u : ⊥ = omega arith in u)

        lowest_done : Done t x.steps y v
        unfolding recovery_of replay_answer
        lowest_done =
            let T = code_run a step r.line in
            let q = carried_out_lem (run T (lowest_order T)) (length (lowest_order T)) (P.answer ∙ rw ok) in
            let n = sym (ap (λ (z : Answered). z.steps) q) ∙ (C ok).2 ∙ ap (λ (Q : Run). steps (lowest_order Q)) same ∙ ap (λ (z : Recovery). z.steps) found in
            (q ∙ rw n, (P.equal (C ok).0 (C ok).1).1 ready.means.greatest.loss_free)

  -- ---- `messages` and `replay` with a line of numbers

  module _ (l : List ℕ) (run₀ : List ℕ) (long : area_words ≤ length run₀) where
    fault_is : line_fault_of a (length run₀) step set (line_from l) ≡ fault f l
    unfolding line_fault_of
    fault_is = rw (le-ltb (length a) 16384 (held_long a holds), le-ltb (length run₀) 16384 long, holds)

    -- what `losses` tells: nothing is wrong with the failure and the line, and these are the lost messages
    told_lost : (ms : List Listed) → losses text l ≡ given ms → (failure_fault t step set ≡ 0) × (fault f l ≡ 0) × (lost_ones (run_with f l) ≡ ms)
    unfolding losses failure_of
    told_lost ms h =
        let u = then_given (failure_fault t step set) f (λ g. unless (fault g l) (given (lost_ones (run_with g l)))) ms (rw e at h) in
        let v = unless_given (fault f l) (given (lost_ones (run_with f l))) ms u.1 in
        let q : lost_ones (run_with f l) ≡ ms = let p = v.1 in cc in
        (u.0, v.0, q)

    lost_are : (ms : List Listed) → losses text l ≡ given ms → (c : MessagesAnswer) (w : List ℕ) → Messages a run₀ step set (line_from l) c w
        → Lists (orphans (run_with f l)) (kept_ones (run_with f l)) ms c w
    lost_are ms h c w M =
        let (_, z, q) = told_lost ms h in
        subst (λ (ls : List Listed). Lists (orphans (run_with f l)) (kept_ones (run_with f l)) ls c w) q
        (lists a run₀ step set (line_from l) (run_with f l) refl (fault_is ∙ z) c w M)

    -- a line that loses no message, and the steps of its complete orders
    lost_nothing : losses text l ≡ given [] → LossFree (run_with f l)
    lost_nothing h =
        let (z, _, n) = told_lost [] h in
        (lost_none (run_with f l) (laws t (rule_of t) (held_valid a holds) step (line_in (line_from l)) ((failure_fit t step set).0 z).step_most)).0 n

    exact_is : (n : ℕ) → exact_steps_of text l ≡ given n → exact_steps (run_with f l) ≡ n
    unfolding exact_steps_of failure_of
    exact_is n h =
        let u = then_given (failure_fault t step set) f (λ g. unless (fault g l) (given (exact_steps (run_with g l)))) n (rw e at h) in
        let v = unless_given (fault f l) (given (exact_steps (run_with f l))) n u.1 in
        let p = v.1 in cc

    steps_so_many : (n : ℕ) → losses text l ≡ given [] → exact_steps_of text l ≡ given n → AllHaveSteps step set l n t a run₀
    steps_so_many n h k order y v P z c =
        P.exact z c (lost_nothing h) ∙ exact_is n k

    module _ (order : List ℕ) (y : Answered) (v : List ℕ) (P : Replay a run₀ step set (line_from l) order y v) where
      abbrev S : Run
      S = run_with f l

      answer_by : (o : Outcome) → run S order ≡ o → fault f l ≡ 0 → y ≡ answer_of S o (length order)
      unfolding replay_answer
      answer_by o q z = P.answer ∙ rw (fault_is, z, q)

      area_by : (o : Outcome) → run S order ≡ o → fault f l ≡ 0 → v ≡ words_of S o ++ drop area_words run₀
      unfolding replay_area
      area_by o q z = P.words ∙ rw (fault_is, z, q)

      -- carried out: the answer, and where the order is complete and the definition says that the records are equal,
      -- the record in the run area
      carried : (x : Told) (o : Outcome) → run S order ≡ o → fault f l ≡ 0 → replay_of S order o ≡ given x
          → (y ≡ record { number = 0; place = 0; steps = x.steps; complete = x.complete }) × (x.complete ≡ true → x.equal ≡ true → Faultless t v)
      unfolding answer_of
      carried x (carried_out s) q z h =
          let p : record { complete = complete S s; equal = same_record S s; steps = length order } ≡ x = cc in
          let i : y ≡ record { number = 0; place = 0; steps = x.steps; complete = x.complete } =
          answer_by (carried_out s) q z ∙ ap (λ (u : Told). record { number = 0; place = 0; steps = u.steps; complete = u.complete }) p in
          let w = held_formed a holds in
          let line = line_in (line_from l) in
          let cl = ((line_fit t step set (length l) line).0 z).failure.step_most in (
            i,
            λ all equal.
                let d = (complete_test t w (rule_of t) step cl line s).0 (ap (λ (u : Told). u.complete) p ∙ all) in
                let same = (record_test t w (rule_of t) step cl line order s q).0 (ap (λ (u : Told). u.equal) p ∙ equal) in
                (P.equal (ap (λ (u : Answered). u.number) i) (ap (λ (u : Answered). u.complete) i ∙ all)).1
                ((record_iff t w (rule_of t) step cl line order s q d).0 same),
          )
      carried x (Outcome.refused i) q z h = absurd (not_given 11 i x h)

      replayed : (x : Told) → replay text l order ≡ given x
          → (y ≡ record { number = 0; place = 0; steps = x.steps; complete = x.complete }) × (x.complete ≡ true → x.equal ≡ true → Faultless t v)
      unfolding replay failure_of
      replayed x h =
          let u = then_given (failure_fault t step set) f (λ g. unless (fault g l) (replay_of (run_with g l) order (run (run_with g l) order))) x (rw e at h) in
          let k = unless_given (fault f l) (replay_of S order (run S order)) x u.1 in
          carried x (run S order) refl k.0 k.1

      -- the record in the run area, event by event
      left_by : (ws : TakenWords) (o : Outcome) → run S order ≡ o → fault f l ≡ 0 → taken_words_of S o ≡ given ws → taken_words_in t (λ k. get_or v k 0) ≡ ws
      unfolding words_of
      left_by ws (carried_out s) q z h =
          let p : taken_words_in t (record_at S s) ≡ ws = cc in
          let g = record_at S s in
          let w : v ≡ words_from g 0 16384 ++ drop 16384 run₀ = area_by (carried_out s) q z in
          let few = held_few a holds in
          let at : (k : ℕ) → k < 16384 → get_or v k 0 ≡ g k = λ k j.
          ap (λ (x : List ℕ). get_or x k 0) w ∙ get_or-append (words_from g 0 16384) (drop 16384 run₀) 0 k (rw (length_words g 0 16384) j)
          ∙ words_at_lem g 16384 k j in
          let plane : (i : ℕ) → i ≤ 4099 → words_from (λ k. get_or v k 0) i (size t) ≡ words_from g i (size t) = λ i b.
          words_same (λ k. get_or v k 0) g i (size t) (λ k j. at k (omega arith)) in
          rw (plane 1 (omega arith), plane 2050 (omega arith), plane 4099 (omega arith)) p
      left_by ws (Outcome.refused i) q z h = absurd (not_given 11 i ws h)

      left : (ws : TakenWords) → taken_words text l order ≡ given ws → taken_words_in t (λ k. get_or v k 0) ≡ ws
      unfolding taken_words failure_of
      left ws h =
          let u = then_given (failure_fault t step set) f (λ g. unless (fault g l) (taken_words_of (run_with g l) (run (run_with g l) order))) ws (rw e at h) in
          let k = unless_given (fault f l) (taken_words_of S (run S order)) ws u.1 in
          left_by ws (run S order) refl k.0 k.1

      -- refused at a place
      stops_at : (m i : ℕ) (o : Outcome) → run S order ≡ o → fault f l ≡ 0 → replay_of S order o ≡ refused m i
          → (y ≡ record { number = 11; place = i; steps = 0; complete = false }) × (v ≡ cleared run₀)
      unfolding answer_of words_of
      stops_at m i (carried_out s) q z h = absurd (not_given m i _ (sym h))
      stops_at m i (Outcome.refused j) q z h = let p : j ≡ i = cc in (answer_by (Outcome.refused j) q z ∙ rw p, area_by (Outcome.refused j) q z)

      stopped : (m i : ℕ) → replay text l order ≡ refused m (suc i)
          → (y ≡ record { number = 11; place = suc i; steps = 0; complete = false }) × (v ≡ cleared run₀)
      unfolding replay failure_of
      stopped m i h =
          let u = then_placed (failure_fault t step set) f (λ g. unless (fault g l) (replay_of (run_with g l) order (run (run_with g l) order))) m i (rw e at h) in
          let k = unless_placed (fault f l) (replay_of S order (run S order)) m i u in
          stops_at m (suc i) (run S order) refl k.0 k.1

-- ---- The laws: from what is computed of a text to the calls

-- the words of a refused text are zero
zeros : (n : ℕ) → words_from (λ i. 0) 0 n ≡ replicate n 0
zeros n = sym (words_ext (λ i. 0) n (replicate n 0) (length-replicate n 0) (λ k h. get_or-replicate n k 0 0 h))

module _ (text : List ℕ) where
  pub accepts : (t : Trace) → verdict text ≡ accepted t → Accepts text t
  unfolding read_answer
  accepts t e before h = (rw (le-ltb (length before) 16384 h, e), read_held text before t e h)

  pub read_refused : (n k : ℕ) → verdict text ≡ Verdict.refused n k → (before : List ℕ) → area_words ≤ length before
      → (read_answer text before ≡ record { number = n; place = k }) × (read_area text before ≡ cleared before)
  unfolding read_answer read_area ruled
  read_refused n k e before h =
      (rw (le-ltb (length before) 16384 h, e), rw (le-ltb (length before) 16384 h, e) (ap (λ (x : List ℕ). x ++ drop 16384 before) (zeros 16384)))

  pub failure_refused : (n k : ℕ) → last_failure text ≡ Failing.refused n k → (before : List ℕ) → area_words ≤ length before
      → (failure_answer text before ≡ record { number = n; place = k; step = 0; set = 0 }) × (failure_area text before ≡ cleared before)
  unfolding failure_answer failure_area ruled
  failure_refused n k e before h =
      (rw (le-ltb (length before) 16384 h, e), rw (le-ltb (length before) 16384 h, e) (ap (λ (x : List ℕ). x ++ drop 16384 before) (zeros 16384)))

  module _ (t : Trace) (step set : ℕ) (e : last_failure text ≡ Failing.failing t step set) where
    pub reads : Reads text t step set
    unfolding failure_answer
    reads before h = (rw (le-ltb (length before) 16384 h, e), failing_held text before t step set e h)

    -- the trace that an area holds, in place of the text's
    by_area : (P : Claim)
        → ((a run : List ℕ) → holds_trace a ≡ true → last_failure text ≡ Failing.failing (held a) step set → area_words ≤ length run → P (held a) a run)
        → OnTable t P
    by_area P law a run h long =
        let (holds, same) = told a t h in
        subst (λ (s : Trace). P s a run) same (law a run holds (e ∙ ap (λ (s : Trace). Failing.failing s step set) (sym same)) long)

    pub recovers : (x : Recovery) → recovery text ≡ given x → OnTable t (Recovers step set x)
    recovers x h = by_area (Recovers step set x) (λ a run₀ o q n r A.
        (restarts text a step set o q x h r A, listed text a step set o q x h r A run₀ n, lowest_done text a step set o q x h r A run₀ n))

    pub all_refuse : (k : ℕ) → recovery text ≡ refused 9 k → OnTable t (AllRefuse step set 9)
    all_refuse k h = by_area (AllRefuse step set 9) (λ a run₀ o q m. all_refused text a step set o q k h run₀ m)

    module _ (l : List ℕ) where
      pub loses : (ms : List Listed) → losses text l ≡ given ms → OnTable t (Loses step set l ms)
      loses ms h = by_area (Loses step set l ms) (λ a run₀ o q n. lost_are text a step set o q l run₀ n ms h)

      pub all_have_steps : (n : ℕ) → losses text l ≡ given [] → exact_steps_of text l ≡ given n → OnTable t (AllHaveSteps step set l n)
      all_have_steps n h k = by_area (AllHaveSteps step set l n) (λ a run₀ o q m. steps_so_many text a step set o q l run₀ m n h k)

      pub finishes : (order : List ℕ) (n : ℕ) (b : Bool) → replay text l order ≡ given (record { complete = true; equal = b; steps = n })
          → OnTable t (Finishes step set l order n)
      finishes order n b h =
          by_area (Finishes step set l order n) (λ a run₀ o q m y v P. (replayed text a step set o q l run₀ m order y v P _ h).0)

      pub completes : (order : List ℕ) (n : ℕ) → replay text l order ≡ completed n → OnTable t (Completes step set l order n)
      completes order n h =
          by_area (Completes step set l order n)
          (λ a run₀ o q m y v P. let u = replayed text a step set o q l run₀ m order y v P _ h in (u.0, u.1 refl refl))

      pub leaves : (order : List ℕ) (n : ℕ) (b c : Bool) (ws : TakenWords) → replay text l order ≡ given (record { complete = b; equal = c; steps = n })
          → taken_words text l order ≡ given ws → OnTable t (Leaves step set l order n b ws)
      leaves order n b c ws h k =
          by_area (Leaves step set l order n b ws)
          (λ a run₀ o q m y v P. ((replayed text a step set o q l run₀ m order y v P _ h).0, left text a step set o q l run₀ m order y v P ws k))

      pub stops : (order : List ℕ) (m i : ℕ) → replay text l order ≡ refused m (suc i) → OnTable t (Stops step set l order (suc i))
      stops order m i h =
          by_area (Stops step set l order (suc i)) (λ a run₀ o q n y v P. stopped text a step set o q l run₀ n order y v P m i h)
