-- From the answers that `report_from` has to the report's definition: the same lines, not too many, and the exact
-- steps.
use Prim.Native.Nat.{ℕ, ◌+◌, ◌≤◌}
use mathlib.Core.Path.{◌≡◌, sym, ap, subst, ◌∙◌}
use mathlib.Core.List.{List, [], ◌∷◌, ◌++◌, append_assoc}
use native.Mathlib.Omega.{arith}
use lib.ListN.{length}
use lib.Seq.{slice}
use Rattle.trace.specs.Trace.{Trace}
use Rattle.theory.specs.Epochs.{rule_of}
use Rattle.theory.specs.Line.{Run, run_at}
use Rattle.theory.specs.Order.{steps, lowest_order}
use Rattle.theory.specs.Answers.{gather, orphans, kept_ones, exact_steps}
use Rattle.theory.proofs.Exact.{exact_steps_lem}
use Rattle.theory.proofs.Lowest.{lowest_order_lem}
use Rattle.theory.proofs.Orders.{order_bound}
use Rattle.columns.specs.Inner.Given.{Marked, Given}
use Rattle.columns.proofs.Full.{procs_is, procs_most}
use Rattle.recovery_line.specs.Given.{line_in}
use Rattle.restart.specs.Restart.{RestartAnswer, restart_of, Restarts}
use Rattle.restart.proofs.Restarting.{count_in}
use Rattle.listing.specs.Inner.Words.{EntriesOf}
use Rattle.steps.specs.Inner.Steps.{listed_events}
use Rattle.steps.proofs.Counting.{lowest_steps}
use Rattle.writer.specs.Inner.Puts.{Puts}
use Rattle.writer.proofs.Buffers.{same_bytes}
use Rattle.text.specs.Number.{decimal}
use Rattle.text.specs.Bytes.{bytes_of}
use Rattle.printing.specs.Lines.{key_orphan, key_kept, total_line}
use Rattle.report.specs.Report.{given, Failure, engine_run, Recovery, recovery_of, process_line_of, message_lines, printed_of, EndsExactly, report_bytes}
use Rattle.report.specs.Inner.Rows.{recovery_rows, Recounts}
use Rattle.report.proofs.Lengths.{found_few}
use Rattle.report.proofs.Messages.{lines_are}

-- the last line ends with the steps
ends_with : (r : Recovery) → (front : List ℕ) × (printed_of (given r) ≡ front ++ (bytes_of " steps=" ++ decimal r.steps ++ 10 ∷ []))
unfolding printed_of total_line
ends_with r =
    let front = gather (process_line_of r.restarted) r.restarted.line.count ++ message_lines key_orphan r.orphans ++ message_lines key_kept r.kept in
    let A = bytes_of "out=total back=" ++ decimal r.restarted.back in
    let B = bytes_of " orphans=" ++ decimal (length r.orphans) in
    let C = bytes_of " kept=" ++ decimal (length r.kept) in
    let D = bytes_of " steps=" ++ decimal r.steps ++ 10 ∷ [] in
    (front ++ A ++ B ++ C, sym (append_assoc (front ++ A ++ B) C D ∙ append_assoc (front ++ A) B (C ++ D) ∙ append_assoc front A (B ++ (C ++ D))))

-- the run from the line that was answered
pub run_is : (t : Trace) (cut set : ℕ) (r : RestartAnswer) → r ≡ restart_of t cut set → run_at t cut (line_in r.line) ≡ engine_run (record { trace = t; step = cut; failed = set })
unfolding restart_of
run_is t cut set r e = ap (λ (x : RestartAnswer). run_at t cut (line_in x.line)) e

module _ (t : Trace) (full : List ℕ) (M : Marked t (rule_of t) full) (cut set : ℕ)
    (r : RestartAnswer) (e : r ≡ restart_of t cut set) (m : Restarts t cut set r) where
  abbrev f : Failure
  f = record { trace = t; step = cut; failed = set }

  abbrev Q : Run
  Q = run_at t cut (line_in r.line)

  pub count_few : r.line.count ≤ 64
  count_few = omega (arith, count_in t cut set r e, procs_is t full M.tabled, procs_most t full M.tabled)

  module _ (gates : List ℕ) (G : Given Q cut full gates) (events : List ℕ) (a b c : ℕ) (E : EntriesOf Q full events a b c) (few : a + b + c ≤ 2048)
      (listed : ℕ) (l : listed ≡ listed_events Q) where
    steps_are : listed + b ≡ steps (lowest_order Q)
    steps_are = lowest_steps Q G.tells.laws m.greatest.loss_free listed b l E.kept_count

    abbrev found : RestartAnswer → Run → Recovery
    found x R = record { restarted = x; orphans = orphans R; kept = kept_ones R; steps = steps (lowest_order R) }

    found_is : found r Q ≡ recovery_of f
    unfolding recovery_of
    found_is = ap (λ (x : RestartAnswer). found x Q) e ∙ ap (found (restart_of t cut set)) (run_is t cut set r e)

    rows_found : recovery_rows r full events a b (listed + b) ≡ printed_of (given (found r Q))
    unfolding recovery_rows printed_of
    rows_found =
        rw (steps_are, lines_are key_orphan full (slice 0 a events), lines_are key_kept full (slice a (a + b) events), E.orphan_events, E.kept_events, E.orphan_count, E.kept_count)

    -- the engine's line loses no message, so that the steps are exact
    exact : steps (lowest_order Q) ≡ exact_steps Q
    exact = let (s, o, d) = lowest_order_lem Q G.tells.laws in exact_steps_lem Q G.tells.laws (lowest_order Q) s o m.greatest.loss_free d

    ends_exactly : EndsExactly f (printed_of (given (recovery_of f)))
    unfolding recovery_of
    ends_exactly =
        let (s, o, d) = lowest_order_lem Q G.tells.laws in
        let q : steps (lowest_order (engine_run f)) ≡ exact_steps (engine_run f) = subst (λ (R : Run). steps (lowest_order R) ≡ exact_steps R) (run_is t cut set r e) exact in
        let (front, h) = ends_with (recovery_of f) in (
          (front, h ∙ ap (λ (n : ℕ). front ++ (bytes_of " steps=" ++ decimal n ++ 10 ∷ [])) q),
          rw (← (run_is t cut set r e), ← exact) (order_bound Q G.tells.laws (lowest_order Q) s o),
        )

    -- what `report_from` promises, from what `put_recovery` has written
    pub recounts : (before after : List ℕ) (n : ℕ) → Puts (recovery_rows r full events a b (listed + b)) before 0 after n → Recounts f before after n
    recounts before after n h =
        record {
          puts = same_bytes _ _ before after 0 n (rows_found ∙ ap (λ (x : Recovery). printed_of (given x)) found_is) h;
          few = subst (λ (x : Recovery). length (printed_of (given x)) ≤ report_bytes) found_is (found_few (found r Q) count_few (omega (arith, E.orphan_count, E.kept_count, few)));
          ends = ends_exactly;
        }
