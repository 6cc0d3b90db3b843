-- The runs R1 to R12 of the requirements, from which the quotations are (Texts says more), each computed from its text,
-- with its steps by the formula of MANUAL 5.8, and all of them together.
use mathlib.Core.Path.{◌≡◌, refl}
use mathlib.Core.Bool.{true, false}
use mathlib.Core.List.{List, [], ◌∷◌, ◌++◌}
use Prim.Native.Nat.{ℕ, ◌≤◌}
use Prim.Native.String.{String}
use native.Mathlib.Omega.{arith}
use lib.Count.{ones}
use Rattle.words.specs.Area.{words_from}
use Rattle.words.specs.Halves.{half}
use Rattle.text.specs.Key.{starts_with, field_at}
use Rattle.text.specs.Number.{is_digit, pushed, digits_from, number_at, last_digits}
use Rattle.trace.specs.declared.Event.TheVariants.{Send, Recv, Save, Done}
use Rattle.trace.specs.Trace.{Trace, started, with_events}
use Rattle.trace.specs.Fit.{well_formed}
use Rattle.trace.specs.Table.{table_word}
use Rattle.lines.specs.Line.{procs_said, send_said, recv_said, process_said, fail_said, line_said as line_in}
use Rattle.reader.specs.Failure.{last_failure}
use Rattle.reader.specs.Verdict.{pieces, fault_here, judge_event, judge, lines_from, scan_pieces, scan, Verdict, accepted, verdict}
use Rattle.theory.specs.Inner.Tests.{two}
use Rattle.theory.specs.Events.{size}
use Rattle.theory.specs.Epochs.{rule_of}
use Rattle.theory.specs.Line.{in_set, LossFree, recorded, Greatest, greatest_line, usable_at}
use Rattle.theory.specs.Answers.{line_of, Listed, lost_ones}
use Rattle.theory.specs.Refusals.{failure_fault, permits, line_fault}
use Rattle.theory.proofs.Runs.{opens}
use Rattle.theory.proofs.Claims.{none_listed, finished_usable, greatest_line_lem, greatest_only}
use Rattle.recovery_line.specs.Given.{back_of}
use Rattle.restart.specs.Restart.{engine_line_of, restart_of}
use Rattle.printing.specs.Inner.Texts.{lines_of}
use Rattle.runs.specs.Texts.{lines_printed, lines_h, lines_l, lines_s, lines_t, lines_first, failing, text_h, lines_wide, text_wide, lines_unfinished, lines_oldest, lines_floor, lines_twice}
use Rattle.report.specs.Report.{Answer, refused, given, Failure, failure_of, Recovery, recovery_of, recovery, message_lines, printed_of, reported}
use Rattle.program.specs.Program.{answer_to, printed, status_of}
use Rattle.printing.specs.Lines.{process_line, message_line, total_line, refusal_line}
use Rattle.machine.specs.Taken.{taken_number, taken_value}
use Rattle.orders.specs.Record.{record_word, record_at}
use Rattle.runs.specs.Answers.{recovery_in, run_with, losses, Replayed, replay, channel_record, TakenWords, taken_words, exact_steps_of, at_equal}

-- all that a row computes with, beside what the theory's rows do: `opens`
unfoldable pub reads : ℕ
unfolding lines_of failing starts_with field_at is_digit pushed digits_from number_at last_digits procs_said send_said recv_said process_said fail_said line_in pieces fault_here judge_event judge lines_from scan_pieces scan verdict last_failure failure_fault permits line_fault failure_of losses replay channel_record taken_words record_at record_word taken_number taken_value half exact_steps_of words_from ones back_of engine_line_of restart_of recovery_of recovery process_line message_line message_lines total_line refusal_line printed_of reported answer_to printed status_of
reads = 0

-- a message as the report lists it: from, to, number, phase
abbrev pub message : ℕ → ℕ → ℕ → ℕ → Listed
message p q k r = record { from = p; to = q; number = k; phase = r }

-- what holds of the failure that a text tells; nothing holds of a refusal
abbrev pub Of : Answer Failure → (Failure → Type 0) → Type 0
Of (refused n k) P = ⊥
Of (given f) P = P f

-- a line is the greatest of a failure
abbrev pub GreatestOf : List ℕ → Failure → Type 0
GreatestOf l f = Greatest f.trace (rule_of f.trace) f.step (usable_at f.trace f.step) (in_set f.failed) (line_of l)

-- an order of so many steps that is complete and leaves the record of the run without failure
abbrev pub completed : ℕ → Answer Replayed
completed n = given (record { complete = true; equal = true; steps = n })

-- a line loses no message, and the formula gives so many steps
abbrev pub StepsFrom : List ℕ → List ℕ → ℕ → Type 0
StepsFrom text l n = (losses text l ≡ given []) × (exact_steps_of text l ≡ given n)

-- ---- The rows

-- what the program prints and its status, and the library's report, which is the same
abbrev pub Said : List ℕ → List String → ℕ → Type 0
Said text ls status = (printed text ≡ lines_of ls) × (status_of text ≡ status) × (reported text ≡ lines_of ls)

-- "R1: H as above." What is printed, byte for byte; then in parts: the trace and the failure that are read, and the
-- recovery
abbrev pub trace_h : Trace
trace_h =
    with_events (started 3)
    (Send 0 1 5 ∷ Recv 1 0 ∷ Save 1 ∷ Done 1 ∷ Send 1 2 7 ∷ Recv 2 1 ∷ Save 0 ∷ Done 0 ∷ Send 0 1 9 ∷ Recv 1 0 ∷ Send 1 2 4 ∷ [])

abbrev pub printed1 : List String
printed1 =
    "out=proc at=0 epoch=2 restart=2 phase=2"
    ∷ "out=proc at=1 epoch=2 restart=2 phase=2"
    ∷ "out=proc at=2 epoch=1 restart=32 phase=2"
    ∷ "out=orphan from=1 to=2 no=1 phase=2"
    ∷ "out=total back=2 orphans=1 kept=0 steps=6"
    ∷ []

abbrev pub recovery1 : Recovery
recovery1 =
    recovery_in (record { epochs = 2 ∷ 2 ∷ 1 ∷ []; line = 2 ∷ 2 ∷ 32 ∷ []; phases = 2 ∷ 2 ∷ 2 ∷ []; going = 3; back = 2; orphans = message 1 2 1 2 ∷ []; kept = []; steps = 6 })

abbrev pub R1 : Type 0
R1 =
    Said text_h printed1 0
    × (verdict (lines_of lines_h) ≡ accepted trace_h)
    × (failure_of text_h ≡ given (record { trace = trace_h; step = 11; failed = 2 }))
    × (recovery text_h ≡ given recovery1)
    × StepsFrom text_h (2 ∷ 2 ∷ 32 ∷ []) 6

r1 : R1
unfolding opens reads
r1 = ((refl, refl, refl), refl, refl, refl, (refl, refl))

-- "R2: H with line 32,2,32 loses message 2 from 0 to 1." So the formula does not hold: order 1,1 is complete with 2
-- steps, where it gives 4
abbrev pub R2 : Type 0
R2 =
    (losses text_h (32 ∷ 2 ∷ 32 ∷ []) ≡ given (message 0 1 2 2 ∷ []))
    × (exact_steps_of text_h (32 ∷ 2 ∷ 32 ∷ []) ≡ given 4)
    × (replay text_h (32 ∷ 2 ∷ 32 ∷ []) (1 ∷ 1 ∷ []) ≡ given (record { complete = true; equal = false; steps = 2 }))

r2 : R2
unfolding opens reads
r2 = (refl, refl, refl)

-- "R3: H with 1,1,32 loses none, and isn't the greatest." An order of 10 steps is complete
abbrev pub R3 : Type 0
R3 =
    StepsFrom text_h (1 ∷ 1 ∷ 32 ∷ []) 10
    × Of (failure_of text_h) (λ f. GreatestOf (1 ∷ 1 ∷ 32 ∷ []) f → ⊥)
    × (replay text_h (1 ∷ 1 ∷ 32 ∷ []) (0 ∷ 0 ∷ 0 ∷ 0 ∷ 1 ∷ 1 ∷ 1 ∷ 1 ∷ 1 ∷ 1 ∷ []) ≡ completed 10)

-- the greatest has 2 for process 0, and there is one only
not_greatest : GreatestOf (1 ∷ 1 ∷ 32 ∷ []) (record { trace = trace_h; step = 11; failed = 2 }) → ⊥
unfolding opens
not_greatest g =
    let w : well_formed trace_h ≡ true = refl in
    let c : 11 ≤ size trace_h = omega arith in
    let usable = usable_at trace_h 11 in
    let U = finished_usable trace_h w (rule_of trace_h) 11 c in
    let l = greatest_line trace_h (rule_of trace_h) 11 usable (in_set 2) in
    let top = greatest_line_lem trace_h w (rule_of trace_h) 11 c usable U (in_set 2) in
    let e : ◌≡◌ {A = ℕ} 1 2 = greatest_only trace_h w (rule_of trace_h) 11 c usable U (in_set 2) (line_of (1 ∷ 1 ∷ 32 ∷ [])) l g top 0 (omega arith) in
    omega arith

r3 : R3
unfolding opens reads
r3 = ((refl, refl), not_greatest, refl)

-- "R4: H, step 0, set 1: line 1,32,32", and, with dones, "R4 has 11 steps"
abbrev pub recovery4 : Recovery
recovery4 =
    recovery_in (record { epochs = 1 ∷ 1 ∷ 1 ∷ []; line = 1 ∷ 32 ∷ 32 ∷ []; phases = 1 ∷ 1 ∷ 1 ∷ []; going = 1; back = 1; orphans = []; kept = []; steps = 11 })

abbrev pub R4 : Type 0
R4 =
    let text = failing lines_h "fail=0 set=1" in
    (recovery text ≡ given recovery4) × StepsFrom text (1 ∷ 32 ∷ 32 ∷ []) 11

r4 : R4
unfolding opens reads
r4 = (refl, (refl, refl))

-- "Trace L: two zones; send 0 to 1, save 1, receive. R5: step 3, set 2: line 32,2, the message kept in phase 1, order
-- 65,1 complete." With its `done`, step 4, and order 65,1,1, or 1,65,1; order 65,1 is carried out and not complete
abbrev pub trace_l : Trace
trace_l = two (Send 0 1 6 ∷ Save 1 ∷ Done 1 ∷ Recv 1 0 ∷ [])

abbrev pub recovery5 : Recovery
recovery5 =
    recovery_in (record { epochs = 1 ∷ 2 ∷ []; line = 32 ∷ 2 ∷ []; phases = 1 ∷ 2 ∷ []; going = 2; back = 1; orphans = []; kept = message 0 1 1 1 ∷ []; steps = 3 })

abbrev pub R5 : Type 0
R5 =
    let text = failing lines_l "fail=4 set=2" in
    (verdict (lines_of lines_l) ≡ accepted trace_l)
    × (recovery text ≡ given recovery5)
    × (replay text (32 ∷ 2 ∷ []) (65 ∷ 1 ∷ 1 ∷ []) ≡ completed 3)
    × (replay text (32 ∷ 2 ∷ []) (1 ∷ 65 ∷ 1 ∷ []) ≡ completed 3)
    × (replay text (32 ∷ 2 ∷ []) (65 ∷ 1 ∷ []) ≡ given (record { complete = false; equal = false; steps = 2 }))
    × StepsFrom text (32 ∷ 2 ∷ []) 3

r5 : R5
unfolding opens reads
r5 = (refl, refl, refl, refl, refl, (refl, refl))

-- "R6: order 1 alone is 11 at place 1."; with dones "R6 is order 1,1, refused at place 2"
abbrev pub R6 : Type 0
R6 = replay (failing lines_l "fail=4 set=2") (32 ∷ 2 ∷ []) (1 ∷ 1 ∷ []) ≡ refused 11 2

r6 : R6
unfolding opens reads
r6 = refl

-- "Trace S: two zones; save 0, send 0 to 1, receive. R7: step 3, set 2: line 2,1." With its `done`, step 4
abbrev pub trace_s : Trace
trace_s = two (Save 0 ∷ Done 0 ∷ Send 0 1 6 ∷ Recv 1 0 ∷ [])

abbrev pub recovery7 : Recovery
recovery7 =
    recovery_in (record { epochs = 2 ∷ 1 ∷ []; line = 2 ∷ 1 ∷ []; phases = 2 ∷ 1 ∷ []; going = 3; back = 2; orphans = []; kept = []; steps = 3 })

abbrev pub R7 : Type 0
R7 =
    let text = failing lines_s "fail=4 set=2" in
    (verdict (lines_of lines_s) ≡ accepted trace_s)
    × (recovery text ≡ given recovery7)
    × (replay text (2 ∷ 1 ∷ []) (0 ∷ 0 ∷ 1 ∷ []) ≡ completed 3)
    × StepsFrom text (2 ∷ 1 ∷ []) 3

r7 : R7
unfolding opens reads
r7 = (refl, refl, refl, (refl, refl))

-- "R8: step 3, set 1: line 2,32, one orphan of phase 2, 1 step." With its `done`, step 4, and 2 steps
abbrev pub recovery8 : Recovery
recovery8 =
    recovery_in (record { epochs = 2 ∷ 1 ∷ []; line = 2 ∷ 32 ∷ []; phases = 2 ∷ 2 ∷ []; going = 1; back = 1; orphans = message 0 1 1 2 ∷ []; kept = []; steps = 2 })

abbrev pub R8 : Type 0
R8 =
    let text = failing lines_s "fail=4 set=1" in
    (recovery text ≡ given recovery8) × StepsFrom text (2 ∷ 32 ∷ []) 2

r8 : R8
unfolding opens reads
r8 = (refl, (refl, refl))

-- "Trace T: two zones; send 0 to 1, receive. R9: step 1, set 2: line 32,1, one kept, order 65,1."
abbrev pub trace_t : Trace
trace_t = two (Send 0 1 6 ∷ Recv 1 0 ∷ [])

abbrev pub recovery9 : Recovery
recovery9 =
    recovery_in (record { epochs = 1 ∷ 1 ∷ []; line = 32 ∷ 1 ∷ []; phases = 1 ∷ 1 ∷ []; going = 2; back = 1; orphans = []; kept = message 0 1 1 1 ∷ []; steps = 2 })

abbrev pub R9 : Type 0
R9 =
    (verdict (lines_of lines_t) ≡ accepted trace_t)
    × (recovery (failing lines_t "fail=1 set=2") ≡ given recovery9)
    × (replay (failing lines_t "fail=1 set=2") (32 ∷ 1 ∷ []) (65 ∷ 1 ∷ []) ≡ completed 2)
    × StepsFrom (failing lines_t "fail=1 set=2") (32 ∷ 1 ∷ []) 2

r9 : R9
unfolding opens reads
r9 = (refl, refl, refl, (refl, refl))

-- "R10: step 1, set 1: line 1,32, none kept, order 0,1."
abbrev pub recovery10 : Recovery
recovery10 =
    recovery_in (record { epochs = 1 ∷ 1 ∷ []; line = 1 ∷ 32 ∷ []; phases = 1 ∷ 1 ∷ []; going = 1; back = 1; orphans = []; kept = []; steps = 2 })

abbrev pub R10 : Type 0
R10 =
    (recovery (failing lines_t "fail=1 set=1") ≡ given recovery10)
    × (replay (failing lines_t "fail=1 set=1") (1 ∷ 32 ∷ []) (0 ∷ 1 ∷ []) ≡ completed 2)
    × StepsFrom (failing lines_t "fail=1 set=1") (1 ∷ 32 ∷ []) 2

r10 : R10
unfolding opens reads
r10 = (refl, refl, (refl, refl))

-- "R11: H with set 0 or 8 is 9." To the library, and to the program
abbrev pub R11 : Type 0
R11 =
    (recovery (failing lines_h "fail=11 set=0") ≡ refused 9 0)
    × (recovery (failing lines_h "fail=11 set=8") ≡ refused 9 0)
    × Said (failing lines_h "fail=11 set=0") ("refused=9 place=0" ∷ []) 1
    × Said (failing lines_h "fail=11 set=8") ("refused=9 place=0" ∷ []) 1

r11 : R11
unfolding opens reads
r11 = (refl, refl, (refl, refl, refl), (refl, refl, refl))

-- "R12: a receive as first event is 5 at line 2." To the library; and to the program, which prints "only `refused=N
-- place=P`"
abbrev pub R12 : Type 0
R12 =
    (verdict (lines_of lines_first) ≡ Verdict.refused 5 2)
    × Said (failing lines_first "fail=1 set=2") ("refused=5 place=2" ∷ []) 1

r12 : R12
unfolding opens reads
r12 = (refl, (refl, refl, refl))

-- ---- "Marked R1 to R12, to be proved together in one table"

pub table : R1 × R2 × R3 × R4 × R5 × R6 × R7 × R8 × R9 × R10 × R11 × R12
table = (r1, r2, r3, r4, r5, r6, r7, r8, r9, r10, r11, r12)

-- ---- Saves that are not finished (MANUAL 3.4)

-- "Restart lines may name finished epochs only": a save that no `done` has finished is not gone back to, though epoch
-- and phase have risen at it
abbrev pub recovery_unfinished : Recovery
recovery_unfinished =
    recovery_in (record { epochs = 2 ∷ 1 ∷ []; line = 1 ∷ 32 ∷ []; phases = 1 ∷ 1 ∷ []; going = 1; back = 1; orphans = []; kept = []; steps = 1 })

-- "A `done` finishes the oldest unfinished save"
abbrev pub recovery_oldest : Recovery
recovery_oldest =
    recovery_in (record { epochs = 3 ∷ 1 ∷ []; line = 2 ∷ 32 ∷ []; phases = 2 ∷ 1 ∷ []; going = 1; back = 1; orphans = []; kept = []; steps = 2 })

-- "over the failed zones and those with an unfinished save": process 0, which did not fail, goes back below the latest
-- finished epoch of every failed process, since the epoch that it sent in is not finished
abbrev pub trace_floor : Trace
trace_floor = two (Save 0 ∷ Save 1 ∷ Send 0 1 6 ∷ Recv 1 0 ∷ Done 1 ∷ [])

abbrev pub recovery_floor : Recovery
recovery_floor =
    recovery_in (record { epochs = 2 ∷ 2 ∷ []; line = 1 ∷ 2 ∷ []; phases = 1 ∷ 2 ∷ []; going = 3; back = 2; orphans = []; kept = []; steps = 4 })

-- "In a trace with no `done`, each zone that goes back goes to epoch 1.": H as it is printed, with the line of R3
abbrev pub recovery_printed : Recovery
recovery_printed =
    recovery_in (record { epochs = 2 ∷ 2 ∷ 1 ∷ []; line = 1 ∷ 1 ∷ 32 ∷ []; phases = 1 ∷ 1 ∷ 2 ∷ []; going = 3; back = 2; orphans = message 1 2 1 2 ∷ []; kept = []; steps = 8 })

-- "others are 10": epoch 2 of process 0 is not finished; the line with it would lose nothing, and that in which 0 stays
-- loses its message
abbrev pub Unfinished : Type 0
Unfinished =
    let text = failing lines_floor "fail=5 set=2" in
    (recovery (failing lines_unfinished "fail=1 set=1") ≡ given recovery_unfinished)
    × (recovery (failing lines_oldest "fail=3 set=1") ≡ given recovery_oldest)
    × (verdict (lines_of lines_floor) ≡ accepted trace_floor)
    × (recovery text ≡ given recovery_floor)
    × (losses text (2 ∷ 2 ∷ []) ≡ refused 10 0)
    × (lost_ones (run_with (record { trace = trace_floor; step = 5; failed = 2 }) (2 ∷ 2 ∷ [])) ≡ [])
    × (losses text (32 ∷ 2 ∷ []) ≡ given (message 0 1 1 2 ∷ []))
    × (recovery (failing lines_printed "fail=9 set=2") ≡ given recovery_printed)

pub unfinished : Unfinished
unfolding opens reads
unfinished = (refl, refl, refl, refl, refl, refl, refl, refl)

-- "15 when a `done` finds no unfinished save, after 6; place and table area are as for 1 to 7", and a process that is
-- none is 3 first; to the library and to the program
abbrev pub NoSave : Type 0
NoSave =
    (verdict (lines_of ("procs=2" ∷ "ev=done at=0" ∷ [])) ≡ Verdict.refused 15 2)
    × (verdict (lines_of ("procs=2" ∷ "ev=done at=2" ∷ [])) ≡ Verdict.refused 3 2)
    × (verdict (lines_of ("procs=2" ∷ "ev=save at=0" ∷ "ev=done at=1" ∷ [])) ≡ Verdict.refused 15 3)
    × (verdict (lines_of lines_twice) ≡ Verdict.refused 15 4)
    × Said (failing lines_twice "fail=3 set=1") ("refused=15 place=4" ∷ []) 1

pub no_save : NoSave
unfolding opens reads
no_save = (refl, refl, refl, refl, (refl, refl, refl))

-- ---- Not among them, but of the same texts: delivery records, number and value

-- the record that an order leaves of H, or of H with other values: what 1 received from 0, what 2 received from 1; no
-- other channel has a message
abbrev pub Delivered : List ℕ → List ℕ → List ℕ → List (ℕ × ℕ) → List (ℕ × ℕ) → Type 0
Delivered text l order to1 to2 =
    (channel_record text l order 0 1 ≡ given to1) × (channel_record text l order 1 2 ≡ given to2)

-- a word for each event of H, of which 2, 6 and 10 are receives
abbrev pub receives_h : ℕ → ℕ → ℕ → List ℕ
receives_h i j k = 0 ∷ i ∷ 0 ∷ 0 ∷ 0 ∷ j ∷ 0 ∷ 0 ∷ 0 ∷ k ∷ 0 ∷ []

abbrev pub taken_h : List ℕ → List ℕ → List ℕ → TakenWords
taken_h ns ls hs = record { numbers = ns; lows = ls; highs = hs }

-- no high half
abbrev pub no_high_h : List ℕ
no_high_h = receives_h 0 0 0

-- The run without failure, which the order of R1 leaves. That order without its last two choices is carried out and not
-- complete: 1 has not received message 2. From the line of R2, order 1,1 is complete, and 1 never receives message 2.
abbrev pub RecordsH : Type 0
RecordsH =
    Delivered text_h (2 ∷ 2 ∷ 32 ∷ []) (0 ∷ 0 ∷ 1 ∷ 1 ∷ 1 ∷ 1 ∷ []) ((1, 5) ∷ (2, 9) ∷ []) ((1, 7) ∷ [])
    × (taken_words text_h (2 ∷ 2 ∷ 32 ∷ []) (0 ∷ 0 ∷ 1 ∷ 1 ∷ 1 ∷ 1 ∷ []) ≡ given (taken_h (receives_h 1 1 2) (receives_h 5 7 9) no_high_h))
    × (replay text_h (2 ∷ 2 ∷ 32 ∷ []) (0 ∷ 0 ∷ 1 ∷ 1 ∷ 1 ∷ 1 ∷ []) ≡ completed 6)
    × Delivered text_h (2 ∷ 2 ∷ 32 ∷ []) (0 ∷ 0 ∷ 1 ∷ 1 ∷ []) ((1, 5) ∷ []) ((1, 7) ∷ [])
    × (taken_words text_h (2 ∷ 2 ∷ 32 ∷ []) (0 ∷ 0 ∷ 1 ∷ 1 ∷ []) ≡ given (taken_h (receives_h 1 1 0) (receives_h 5 7 0) no_high_h))
    × (replay text_h (2 ∷ 2 ∷ 32 ∷ []) (0 ∷ 0 ∷ 1 ∷ 1 ∷ []) ≡ given (record { complete = false; equal = false; steps = 4 }))
    × Delivered text_h (32 ∷ 2 ∷ 32 ∷ []) (1 ∷ 1 ∷ []) ((1, 5) ∷ []) ((1, 7) ∷ [])
    × (taken_words text_h (32 ∷ 2 ∷ 32 ∷ []) (1 ∷ 1 ∷ []) ≡ given (taken_h (receives_h 1 1 0) (receives_h 5 7 0) no_high_h))

pub records_h : RecordsH
unfolding opens reads
records_h = ((refl, refl), refl, refl, (refl, refl), refl, refl, (refl, refl), refl)

abbrev pub trace_wide : Trace
trace_wide =
    with_events (started 3)
    (Send 0 1 7 ∷ Recv 1 0 ∷ Save 1 ∷ Done 1 ∷ Send 1 2 18446744073709551615 ∷ Recv 2 1 ∷ Save 0 ∷ Done 0 ∷ Send 0 1 4294967303 ∷ Recv 1 0 ∷ Send 1 2 4 ∷ [])

-- where the table area has these values: the low halves from word 2066 on, the high halves from word 4115 on
abbrev pub WordsWide : Type 0
WordsWide =
    (verdict (lines_of lines_wide) ≡ accepted trace_wide)
    × (words_from (table_word trace_wide) 2065 13 ≡ 0 ∷ 7 ∷ 0 ∷ 0 ∷ 0 ∷ 4294967295 ∷ 0 ∷ 0 ∷ 0 ∷ 7 ∷ 0 ∷ 4 ∷ 0 ∷ [])
    × (words_from (table_word trace_wide) 4114 13 ≡ 0 ∷ 0 ∷ 0 ∷ 0 ∷ 0 ∷ 4294967295 ∷ 0 ∷ 0 ∷ 0 ∷ 1 ∷ 0 ∷ 0 ∷ 0 ∷ [])

pub words_wide : WordsWide
unfolding opens reads table_word
words_wide = (refl, refl, refl)

-- Values of 64 bits: the two messages from 0 to 1 differ only in the high halves of their values. The line of R1 loses
-- none of them, and the record tells them apart; that of R2 loses the second, and the records differ.
abbrev pub RecordsWide : Type 0
RecordsWide =
    Delivered text_wide (2 ∷ 2 ∷ 32 ∷ []) (0 ∷ 0 ∷ 1 ∷ 1 ∷ 1 ∷ 1 ∷ []) ((1, 7) ∷ (2, 4294967303) ∷ []) ((1, 18446744073709551615) ∷ [])
    × (taken_words text_wide (2 ∷ 2 ∷ 32 ∷ []) (0 ∷ 0 ∷ 1 ∷ 1 ∷ 1 ∷ 1 ∷ []) ≡ given (taken_h (receives_h 1 1 2) (receives_h 7 4294967295 7) (receives_h 0 4294967295 1)))
    × (replay text_wide (2 ∷ 2 ∷ 32 ∷ []) (0 ∷ 0 ∷ 1 ∷ 1 ∷ 1 ∷ 1 ∷ []) ≡ completed 6)
    × Delivered text_wide (32 ∷ 2 ∷ 32 ∷ []) (1 ∷ 1 ∷ []) ((1, 7) ∷ []) ((1, 18446744073709551615) ∷ [])
    × (taken_words text_wide (32 ∷ 2 ∷ 32 ∷ []) (1 ∷ 1 ∷ []) ≡ given (taken_h (receives_h 1 1 0) (receives_h 7 4294967295 0) (receives_h 0 4294967295 0)))
    × (replay text_wide (32 ∷ 2 ∷ 32 ∷ []) (1 ∷ 1 ∷ []) ≡ given (record { complete = true; equal = false; steps = 2 }))

pub records_wide : RecordsWide
unfolding opens reads
records_wide = ((refl, refl), refl, refl, (refl, refl), refl, refl)

-- ---- Not among them, but of the same texts: the numbers 1, 8 and 10, and which comes first

-- no failure line is 1 at the line after the last; a line after the failure line is 1; H has 11 events, and 8 comes
-- before 9
abbrev pub NoFailure : Type 0
NoFailure =
    (recovery (lines_of lines_h) ≡ refused 1 13)
    × (recovery (lines_of (lines_t ++ "fail=1 set=1" ∷ "ev=save at=0" ∷ [])) ≡ refused 1 5)
    × (verdict text_h ≡ Verdict.refused 1 13)
    × (recovery (failing lines_h "fail=12 set=0") ≡ refused 8 0)

no_failure : NoFailure
unfolding opens reads
no_failure = (refl, refl, refl, refl)

-- a text of two processes and this event line is refused with n at line k
abbrev pub At : String → ℕ → ℕ → Type 0
At line n k = verdict (lines_of ("procs=2" ∷ line ∷ [])) ≡ Verdict.refused n k

-- "a zone, step or count above 4294967295 is still 1", where 4294967295 is 3, 8 or 2; a value and a set go to
-- 18446744073709551615 (the set names processes that are not there, 9), and above it they are 1
abbrev pub Ranges : Type 0
Ranges =
    (verdict (lines_of ("procs=4294967295" ∷ [])) ≡ Verdict.refused 2 1)
    × (verdict (lines_of ("procs=4294967296" ∷ [])) ≡ Verdict.refused 1 1)
    × At "ev=send at=4294967295 to=1 val=6" 3 2
    × At "ev=send at=4294967296 to=1 val=6" 1 2
    × At "ev=send at=0 to=4294967295 val=6" 3 2
    × At "ev=send at=0 to=4294967296 val=6" 1 2
    × At "ev=recv at=4294967295 from=0" 3 2
    × At "ev=recv at=4294967296 from=0" 1 2
    × At "ev=recv at=1 from=4294967295" 3 2
    × At "ev=recv at=1 from=4294967296" 1 2
    × At "ev=save at=4294967295" 3 2
    × At "ev=save at=4294967296" 1 2
    × At "ev=done at=4294967295" 3 2
    × At "ev=done at=4294967296" 1 2
    × (verdict (lines_of ("procs=2" ∷ "ev=send at=0 to=1 val=18446744073709551615" ∷ [])) ≡ accepted (with_events (started 2) (Send 0 1 18446744073709551615 ∷ [])))
    × At "ev=send at=0 to=1 val=18446744073709551616" 1 2
    × (recovery (failing lines_t "fail=4294967295 set=1") ≡ refused 8 0)
    × (recovery (failing lines_t "fail=4294967296 set=1") ≡ refused 1 4)
    × (recovery (failing lines_t "fail=1 set=18446744073709551615") ≡ refused 9 0)
    × (recovery (failing lines_t "fail=1 set=18446744073709551616") ≡ refused 1 4)

pub ranges : Ranges
unfolding opens reads
ranges = (refl, refl, refl, refl, refl, refl, refl, refl, refl, refl, refl, refl, refl, refl, refl, refl, refl, refl, refl, refl)

-- a line of two or of four numbers; a number 0; an epoch that process 2 has not reached; a failed process that stays; 9
-- comes before 10
abbrev pub Lines : Type 0
Lines =
    (losses text_h (2 ∷ 2 ∷ []) ≡ refused 10 0)
    × (losses text_h (2 ∷ 2 ∷ 32 ∷ 0 ∷ []) ≡ refused 10 0)
    × (losses text_h (0 ∷ 2 ∷ 32 ∷ []) ≡ refused 10 0)
    × (losses text_h (2 ∷ 2 ∷ 2 ∷ []) ≡ refused 10 0)
    × (losses text_h (32 ∷ 32 ∷ 32 ∷ []) ≡ refused 10 0)
    × (losses (failing lines_h "fail=11 set=8") (2 ∷ 2 ∷ []) ≡ refused 9 0)

lines : Lines
unfolding opens reads
lines = (refl, refl, refl, refl, refl, refl)

-- ---- "Misreadings"

-- "Logging at equal epochs: the line of R2 would then lose nothing." By the requirements' rule it loses message 2 from
-- 0 to 1; by the rule that logs at equal epochs too it loses none
abbrev line_r2 : ℕ → ℕ
line_r2 = line_of (32 ∷ 2 ∷ 32 ∷ [])

abbrev pub EqualEpochs : Type 0
EqualEpochs =
    (lost_ones (recorded trace_h (rule_of trace_h) 11 line_r2) ≡ message 0 1 2 2 ∷ [])
    × (lost_ones (recorded trace_h at_equal 11 line_r2) ≡ [])
    × LossFree (recorded trace_h at_equal 11 line_r2)

pub equal_epochs : EqualEpochs
unfolding opens
equal_epochs = (refl, refl, (none_listed trace_h refl at_equal 11 (let c : 11 ≤ size trace_h = omega arith in c) line_r2).0 refl)
