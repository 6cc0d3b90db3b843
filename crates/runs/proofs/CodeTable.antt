-- The runs R1 to R12 of the requirements, now of the code: what its public functions answer and leave, by their
-- contracts. The same rows as in Table, from which they follow by the laws of Calls; that every complete order has the
-- steps of MANUAL 5.8, by the contract of `replay` alone. A table area and a run area are any that the caller lends, of
-- 16,384 words or more.
use Prim.Native.Nat.{ℕ, zero, suc, ◌≤◌, ◌<◌}
use Prim.Native.String.{String}
use mathlib.Core.Path.{◌≡◌, refl, sym, ap, ◌∙◌}
use mathlib.Core.Bool.{true, false, ◌||◌}
use mathlib.Core.List.{List, [], ◌∷◌}
use native.Mathlib.Omega.{arith}
use lib.ListN.{length, take}
use borrow.Author.Tests.{leb-true}
use Rattle.words.specs.Area.{area_words, words_from}
use Rattle.words.proofs.Cases.{clash}
use Rattle.trace.specs.declared.Event.TheVariants.{Send, Recv, Save, Done}
use Rattle.trace.specs.Trace.{Trace}
use Rattle.reader.specs.Answer.{read_answer, read_area}
use Rattle.reader.specs.Failure.{Failing, failure_answer, failure_area, last_failure}
use Rattle.theory.specs.Events.{finishes as done_of}
use Rattle.theory.specs.Epochs.{finished_at}
use Rattle.theory.specs.Line.{in_set, stays_in, unfinished_at}
use Rattle.theory.specs.Inner.Tests.{two}
use Rattle.theory.proofs.Runs.{opens}
use Rattle.recovery_line.specs.Given.{line_in, numbers_of}
use Rattle.restart.specs.Restart.{RestartAnswer, Restarts}
use Rattle.restart.proofs.Restarting.{Answered as Restart}
use Rattle.writer.specs.Buffer.{room, written}
use Rattle.printing.specs.Inner.Texts.{lines_of}
use Rattle.report.specs.Report.{reported}
use Rattle.program.specs.Program.{ReadFrom, printed, status_of}
use Rattle.runs.specs.Texts.{lines_h, lines_l, lines_s, lines_t, lines_first, failing, text_h, lines_wide, text_wide, lines_floor, lines_twice}
use Rattle.runs.proofs.Table.{reads, message, trace_h, trace_wide, trace_l, trace_s, trace_t, Said, printed1, recovery1, recovery4, recovery5, recovery7, recovery8, recovery9, recovery10, table, trace_floor, recovery_floor, unfinished, no_save, receives_h, taken_h, no_high_h, records_h, words_wide, records_wide}
use Rattle.runs.proofs.Calls.{cleared, Accepts, Reads, OnTable, Recovers, AllRefuse, Loses, AllHaveSteps, Finishes, Completes, Leaves, Stops, accepts, read_refused, failure_refused, recovers, all_refuse, loses, all_have_steps, finishes, completes, leaves, stops, reads as reads_failure}

-- `report` writes these lines: into a buffer `out`, which it leaves as `after`, and it answers n
abbrev pub Reports : List ℕ → List String → Type 0
Reports text ls =
    (out after : List ℕ) (n : ℕ) → n ≡ length (room (reported text) out) → after ≡ written (reported text) out
    → (n ≡ length (room (lines_of ls) out)) × (after ≡ written (lines_of ls) out)

reports : (text : List ℕ) (ls : List String) → reported text ≡ lines_of ls → Reports text ls
reports text ls e out after n h w = (h ∙ ap (λ (x : List ℕ). length (room x out)) e, w ∙ ap (λ (x : List ℕ). written x out) e)

-- the program prints these lines for an input, and ends with a status: `respond` is given a buffer that has the input's
-- first bytes, and by its contract n bytes of `after` are to write, and the status is s
abbrev pub Prints : List ℕ → List String → ℕ → Type 0
Prints input ls status =
    (buffer after : List ℕ) (count n s : ℕ) → ReadFrom input buffer count
    → ((i : List ℕ) → ReadFrom i buffer count → take n after ≡ printed i)
    → ((i : List ℕ) → ReadFrom i buffer count → s ≡ status_of i)
    → (take n after ≡ lines_of ls) × (s ≡ status)

-- both
abbrev pub Says : List ℕ → List String → ℕ → Type 0
Says text ls status = Prints text ls status × Reports text ls

says : (text : List ℕ) (ls : List String) (status : ℕ) → Said text ls status → Says text ls status
says text ls status (p, s, r) = ((λ b after count n k read wrote told. (wrote text read ∙ p, told text read ∙ s)), reports text ls r)

-- ---- The texts as `read_failure` takes them: the trace, and the failure of the last line

fails1 : last_failure text_h ≡ Failing.failing trace_h 11 2
unfolding opens reads
fails1 = refl

fails_wide : last_failure text_wide ≡ Failing.failing trace_wide 11 2
unfolding opens reads
fails_wide = refl

fails4 : last_failure (failing lines_h "fail=0 set=1") ≡ Failing.failing trace_h 0 1
unfolding opens reads
fails4 = refl

fails5 : last_failure (failing lines_l "fail=4 set=2") ≡ Failing.failing trace_l 4 2
unfolding opens reads
fails5 = refl

fails7 : last_failure (failing lines_s "fail=4 set=2") ≡ Failing.failing trace_s 4 2
unfolding opens reads
fails7 = refl

fails8 : last_failure (failing lines_s "fail=4 set=1") ≡ Failing.failing trace_s 4 1
unfolding opens reads
fails8 = refl

fails9 : last_failure (failing lines_t "fail=1 set=2") ≡ Failing.failing trace_t 1 2
unfolding opens reads
fails9 = refl

fails10 : last_failure (failing lines_t "fail=1 set=1") ≡ Failing.failing trace_t 1 1
unfolding opens reads
fails10 = refl

empty11 : last_failure (failing lines_h "fail=11 set=0") ≡ Failing.failing trace_h 11 0
unfolding opens reads
empty11 = refl

beyond11 : last_failure (failing lines_h "fail=11 set=8") ≡ Failing.failing trace_h 11 8
unfolding opens reads
beyond11 = refl

refused12 : last_failure (failing lines_first "fail=1 set=2") ≡ Failing.refused 5 2
unfolding opens reads
refused12 = refl

-- ---- The rows

-- "R1: H as above."
abbrev pub C1 : Type 0
C1 =
    Says text_h printed1 0
    × Accepts (lines_of lines_h) trace_h
    × Reads text_h trace_h 11 2
    × OnTable trace_h (Recovers 11 2 recovery1)
    × OnTable trace_h (AllHaveSteps 11 2 (2 ∷ 2 ∷ 32 ∷ []) 6)

c1 : C1
c1 =
    let (p, v, f, x, s) = table.0 in (
      says text_h printed1 0 p,
      accepts (lines_of lines_h) trace_h v,
      reads_failure text_h trace_h 11 2 fails1,
      recovers text_h trace_h 11 2 fails1 recovery1 x,
      all_have_steps text_h trace_h 11 2 fails1 (2 ∷ 2 ∷ 32 ∷ []) 6 s.0 s.1,
    )

-- "R2: H with line 32,2,32 loses message 2 from 0 to 1."; order 1,1 is complete with 2 steps
abbrev pub C2 : Type 0
C2 =
    OnTable trace_h (Loses 11 2 (32 ∷ 2 ∷ 32 ∷ []) (message 0 1 2 2 ∷ []))
    × OnTable trace_h (Finishes 11 2 (32 ∷ 2 ∷ 32 ∷ []) (1 ∷ 1 ∷ []) 2)

c2 : C2
c2 =
    let (x, _, y) = table.1 in
    (loses text_h trace_h 11 2 fails1 (32 ∷ 2 ∷ 32 ∷ []) (message 0 1 2 2 ∷ []) x, finishes text_h trace_h 11 2 fails1 (32 ∷ 2 ∷ 32 ∷ []) (1 ∷ 1 ∷ []) 2 false y)

-- "R3: H with 1,1,32 loses none, and isn't the greatest.": `restart`, whose line is the greatest, gives another
abbrev pub C3 : Type 0
C3 =
    OnTable trace_h (Loses 11 2 (1 ∷ 1 ∷ 32 ∷ []) [])
    × OnTable trace_h (λ t a run. (r : RestartAnswer) → Restart a 11 2 r → numbers_of r.line ≡ 1 ∷ 1 ∷ 32 ∷ [] → ⊥)
    × OnTable trace_h (AllHaveSteps 11 2 (1 ∷ 1 ∷ 32 ∷ []) 10)
    × OnTable trace_h (Completes 11 2 (1 ∷ 1 ∷ 32 ∷ []) (0 ∷ 0 ∷ 0 ∷ 0 ∷ 1 ∷ 1 ∷ 1 ∷ 1 ∷ 1 ∷ 1 ∷ []) 10)

c3 : C3
unfolding words_from
c3 =
    let (s, _, y) = table.2 in (
      loses text_h trace_h 11 2 fails1 (1 ∷ 1 ∷ 32 ∷ []) [] s.0,
      another,
      all_have_steps text_h trace_h 11 2 fails1 (1 ∷ 1 ∷ 32 ∷ []) 10 s.0 s.1,
      completes text_h trace_h 11 2 fails1 (1 ∷ 1 ∷ 32 ∷ []) (0 ∷ 0 ∷ 0 ∷ 0 ∷ 1 ∷ 1 ∷ 1 ∷ 1 ∷ 1 ∷ 1 ∷ []) 10 y,
    )
  where
    another : OnTable trace_h (λ t a run. (r : RestartAnswer) → Restart a 11 2 r → numbers_of r.line ≡ 1 ∷ 1 ∷ 32 ∷ [] → ⊥)
    another a run h n r A e =
        let q : ◌≡◌ {A = List ℕ} (2 ∷ 2 ∷ 32 ∷ []) (1 ∷ 1 ∷ 32 ∷ []) = sym (ap (λ (x : RestartAnswer). numbers_of x.line) (c1.3 a run h n r A).0) ∙ e in
        let z : ◌≡◌ {A = ℕ} 2 1 = cc in
        omega arith

-- "R4: H, step 0, set 1: line 1,32,32", and "R4 has 11 steps"
abbrev pub C4 : Type 0
C4 =
    Reads (failing lines_h "fail=0 set=1") trace_h 0 1
    × OnTable trace_h (Recovers 0 1 recovery4)
    × OnTable trace_h (AllHaveSteps 0 1 (1 ∷ 32 ∷ 32 ∷ []) 11)

c4 : C4
c4 =
    let text = failing lines_h "fail=0 set=1" in
    let (x, s) = table.3 in
    (reads_failure text trace_h 0 1 fails4, recovers text trace_h 0 1 fails4 recovery4 x, all_have_steps text trace_h 0 1 fails4 (1 ∷ 32 ∷ 32 ∷ []) 11 s.0 s.1)

-- "Trace L: two zones; send 0 to 1, save 1, receive. R5: step 3, set 2: line 32,2, the message kept in phase 1, order
-- 65,1 complete." With its `done`, step 4, and order 65,1,1, or 1,65,1
abbrev pub C5 : Type 0
C5 =
    Accepts (lines_of lines_l) trace_l
    × Reads (failing lines_l "fail=4 set=2") trace_l 4 2
    × OnTable trace_l (Recovers 4 2 recovery5)
    × OnTable trace_l (Completes 4 2 (32 ∷ 2 ∷ []) (65 ∷ 1 ∷ 1 ∷ []) 3)
    × OnTable trace_l (Completes 4 2 (32 ∷ 2 ∷ []) (1 ∷ 65 ∷ 1 ∷ []) 3)
    × OnTable trace_l (AllHaveSteps 4 2 (32 ∷ 2 ∷ []) 3)

c5 : C5
c5 =
    let text = failing lines_l "fail=4 set=2" in
    let (v, x, y, z, _, s) = table.4 in (
      accepts (lines_of lines_l) trace_l v,
      reads_failure text trace_l 4 2 fails5,
      recovers text trace_l 4 2 fails5 recovery5 x,
      completes text trace_l 4 2 fails5 (32 ∷ 2 ∷ []) (65 ∷ 1 ∷ 1 ∷ []) 3 y,
      completes text trace_l 4 2 fails5 (32 ∷ 2 ∷ []) (1 ∷ 65 ∷ 1 ∷ []) 3 z,
      all_have_steps text trace_l 4 2 fails5 (32 ∷ 2 ∷ []) 3 s.0 s.1,
    )

-- "R6 is order 1,1, refused at place 2"
abbrev pub C6 : Type 0
C6 = OnTable trace_l (Stops 4 2 (32 ∷ 2 ∷ []) (1 ∷ 1 ∷ []) 2)

c6 : C6
c6 = stops (failing lines_l "fail=4 set=2") trace_l 4 2 fails5 (32 ∷ 2 ∷ []) (1 ∷ 1 ∷ []) 11 1 table.5

-- "Trace S: two zones; save 0, send 0 to 1, receive. R7: step 3, set 2: line 2,1." With its `done`, step 4
abbrev pub C7 : Type 0
C7 =
    Accepts (lines_of lines_s) trace_s
    × Reads (failing lines_s "fail=4 set=2") trace_s 4 2
    × OnTable trace_s (Recovers 4 2 recovery7)
    × OnTable trace_s (AllHaveSteps 4 2 (2 ∷ 1 ∷ []) 3)

c7 : C7
c7 =
    let text = failing lines_s "fail=4 set=2" in
    let (v, x, _, s) = table.6 in (
      accepts (lines_of lines_s) trace_s v,
      reads_failure text trace_s 4 2 fails7,
      recovers text trace_s 4 2 fails7 recovery7 x,
      all_have_steps text trace_s 4 2 fails7 (2 ∷ 1 ∷ []) 3 s.0 s.1,
    )

-- "R8: step 3, set 1: line 2,32, one orphan of phase 2, 1 step." With its `done`, step 4, and 2 steps
abbrev pub C8 : Type 0
C8 =
    Reads (failing lines_s "fail=4 set=1") trace_s 4 1
    × OnTable trace_s (Recovers 4 1 recovery8)
    × OnTable trace_s (AllHaveSteps 4 1 (2 ∷ 32 ∷ []) 2)

c8 : C8
c8 =
    let text = failing lines_s "fail=4 set=1" in
    let (x, s) = table.7 in
    (reads_failure text trace_s 4 1 fails8, recovers text trace_s 4 1 fails8 recovery8 x, all_have_steps text trace_s 4 1 fails8 (2 ∷ 32 ∷ []) 2 s.0 s.1)

-- "Trace T: two zones; send 0 to 1, receive. R9: step 1, set 2: line 32,1, one kept, order 65,1."
abbrev pub C9 : Type 0
C9 =
    Accepts (lines_of lines_t) trace_t
    × Reads (failing lines_t "fail=1 set=2") trace_t 1 2
    × OnTable trace_t (Recovers 1 2 recovery9)
    × OnTable trace_t (Completes 1 2 (32 ∷ 1 ∷ []) (65 ∷ 1 ∷ []) 2)
    × OnTable trace_t (AllHaveSteps 1 2 (32 ∷ 1 ∷ []) 2)

c9 : C9
c9 =
    let text = failing lines_t "fail=1 set=2" in
    let (v, x, y, s) = table.8 in (
      accepts (lines_of lines_t) trace_t v,
      reads_failure text trace_t 1 2 fails9,
      recovers text trace_t 1 2 fails9 recovery9 x,
      completes text trace_t 1 2 fails9 (32 ∷ 1 ∷ []) (65 ∷ 1 ∷ []) 2 y,
      all_have_steps text trace_t 1 2 fails9 (32 ∷ 1 ∷ []) 2 s.0 s.1,
    )

-- "R10: step 1, set 1: line 1,32, none kept, order 0,1."
abbrev pub C10 : Type 0
C10 =
    Reads (failing lines_t "fail=1 set=1") trace_t 1 1
    × OnTable trace_t (Recovers 1 1 recovery10)
    × OnTable trace_t (Completes 1 1 (1 ∷ 32 ∷ []) (0 ∷ 1 ∷ []) 2)
    × OnTable trace_t (AllHaveSteps 1 1 (1 ∷ 32 ∷ []) 2)

c10 : C10
c10 =
    let text = failing lines_t "fail=1 set=1" in
    let (x, y, s) = table.9 in (
      reads_failure text trace_t 1 1 fails10,
      recovers text trace_t 1 1 fails10 recovery10 x,
      completes text trace_t 1 1 fails10 (1 ∷ 32 ∷ []) (0 ∷ 1 ∷ []) 2 y,
      all_have_steps text trace_t 1 1 fails10 (1 ∷ 32 ∷ []) 2 s.0 s.1,
    )

-- "R11: H with set 0 or 8 is 9.", to every call
abbrev pub C11 : Type 0
C11 =
    Reads (failing lines_h "fail=11 set=0") trace_h 11 0
    × Reads (failing lines_h "fail=11 set=8") trace_h 11 8
    × OnTable trace_h (AllRefuse 11 0 9)
    × OnTable trace_h (AllRefuse 11 8 9)
    × Says (failing lines_h "fail=11 set=0") ("refused=9 place=0" ∷ []) 1
    × Says (failing lines_h "fail=11 set=8") ("refused=9 place=0" ∷ []) 1

c11 : C11
c11 =
    let empty = failing lines_h "fail=11 set=0" in
    let beyond = failing lines_h "fail=11 set=8" in
    let line : List String = "refused=9 place=0" ∷ [] in
    let (x, y, p, q) = table.10 in (
      reads_failure empty trace_h 11 0 empty11,
      reads_failure beyond trace_h 11 8 beyond11,
      all_refuse empty trace_h 11 0 empty11 0 x,
      all_refuse beyond trace_h 11 8 beyond11 0 y,
      says empty line 1 p,
      says beyond line 1 q,
    )

-- "R12: a receive as first event is 5 at line 2." To `read` and to `read_failure`, which clear the table area, to
-- `report` and to the program
abbrev pub C12 : Type 0
C12 =
    ((before : List ℕ) → area_words ≤ length before
    → (read_answer (lines_of lines_first) before ≡ record { number = 5; place = 2 }) × (read_area (lines_of lines_first) before ≡ cleared before))
    × ((before : List ℕ) → area_words ≤ length before
    → let text = failing lines_first "fail=1 set=2" in
    (failure_answer text before ≡ record { number = 5; place = 2; step = 0; set = 0 }) × (failure_area text before ≡ cleared before))
    × Says (failing lines_first "fail=1 set=2") ("refused=5 place=2" ∷ []) 1

c12 : C12
c12 =
    let text = failing lines_first "fail=1 set=2" in
    let (v, p) = table.11 in
    (read_refused (lines_of lines_first) 5 2 v, failure_refused text 5 2 refused12, says text ("refused=5 place=2" ∷ []) 1 p)

-- ---- "Marked R1 to R12, to be proved together in one table"

pub code_table : C1 × C2 × C3 × C4 × C5 × C6 × C7 × C8 × C9 × C10 × C11 × C12
code_table = (c1, c2, c3, c4, c5, c6, c7, c8, c9, c10, c11, c12)

-- ---- Saves that are not finished (`Unfinished` and `NoSave` of Table)

fails_floor : last_failure (failing lines_floor "fail=5 set=2") ≡ Failing.failing trace_floor 5 2
unfolding opens reads
fails_floor = refl

refused_twice : last_failure (failing lines_twice "fail=3 set=1") ≡ Failing.refused 15 4
unfolding opens reads
refused_twice = refl

abbrev pub CodeUnfinished : Type 0
CodeUnfinished =
    Accepts (lines_of lines_floor) trace_floor
    × Reads (failing lines_floor "fail=5 set=2") trace_floor 5 2
    × OnTable trace_floor (Recovers 5 2 recovery_floor)
    × OnTable trace_floor (Loses 5 2 (32 ∷ 2 ∷ []) (message 0 1 1 2 ∷ []))
    × ((before : List ℕ) → area_words ≤ length before
    → (read_answer (lines_of lines_twice) before ≡ record { number = 15; place = 4 }) × (read_area (lines_of lines_twice) before ≡ cleared before))
    × ((before : List ℕ) → area_words ≤ length before
    → let text = failing lines_twice "fail=3 set=1" in
    (failure_answer text before ≡ record { number = 15; place = 4; step = 0; set = 0 }) × (failure_area text before ≡ cleared before))
    × Says (failing lines_twice "fail=3 set=1") ("refused=15 place=4" ∷ []) 1

pub code_unfinished : CodeUnfinished
code_unfinished =
    let text = failing lines_floor "fail=5 set=2" in
    let twice = failing lines_twice "fail=3 set=1" in
    let (_, _, v, x, _, _, y, _) = unfinished in
    let (_, _, _, n, p) = no_save in (
      accepts (lines_of lines_floor) trace_floor v,
      reads_failure text trace_floor 5 2 fails_floor,
      recovers text trace_floor 5 2 fails_floor recovery_floor x,
      loses text trace_floor 5 2 fails_floor (32 ∷ 2 ∷ []) (message 0 1 1 2 ∷ []) y,
      read_refused (lines_of lines_twice) 15 4 n,
      failure_refused twice 15 4 refused_twice,
      says twice ("refused=15 place=4" ∷ []) 1 p,
    )

-- What the contract of `restart` says (`Restarts`), applied to runs. The floor: in H it is 2, of process 1; process 2,
-- which did not fail and has no save, is not asked. Where process 0 fails, whose latest finished epoch is 3, it is 2,
-- of process 1, which did not fail and has an unfinished save
abbrev pub trace_unfailed : Trace
trace_unfailed = two (Save 0 ∷ Done 0 ∷ Save 0 ∷ Done 0 ∷ Save 1 ∷ Done 1 ∷ Save 1 ∷ [])

least_h : (z : ℕ) → z < 3 → (in_set 2 z || unfinished_at trace_h 11 z) ≡ true → finished_at trace_h 1 11 ≤ finished_at trace_h z 11
unfolding opens
least_h zero l h = leb-true 2 2 refl
least_h (suc zero) l h = leb-true 2 2 refl
least_h (suc (suc zero)) l h = clash {b = false} h refl
least_h (suc (suc (suc z))) l h = absurd (let y : ⊥ = omega arith in y)

pub floor_h : (r : RestartAnswer) → Restarts trace_h 11 2 r → (z : ℕ) → z < 3 → 2 ≤ line_in r.line z
unfolding opens
floor_h r R = R.floor 1 least_h

least_unfailed : (z : ℕ) → z < 2 → (in_set 1 z || unfinished_at trace_unfailed 7 z) ≡ true → finished_at trace_unfailed 1 7 ≤ finished_at trace_unfailed z 7
unfolding opens
least_unfailed zero l h = leb-true 2 3 refl
least_unfailed (suc zero) l h = leb-true 2 2 refl
least_unfailed (suc (suc z)) l h = absurd (let y : ⊥ = omega arith in y)

pub floor_unfailed : (r : RestartAnswer) → Restarts trace_unfailed 7 1 r → (z : ℕ) → z < 2 → 2 ≤ line_in r.line z
unfolding opens
floor_unfailed r R = R.floor 1 least_unfailed

-- In a trace without a `done` each process that goes back goes to epoch 1, also one that did not fail: S as it is given
abbrev pub trace_old : Trace
trace_old = two (Save 0 ∷ Send 0 1 6 ∷ Recv 1 0 ∷ [])

none_finishes : (z e : ℕ) → done_of trace_old z e ≡ false
unfolding opens
none_finishes z zero = refl
none_finishes z (suc zero) = refl
none_finishes z (suc (suc zero)) = refl
none_finishes z (suc (suc (suc zero))) = refl
none_finishes z (suc (suc (suc (suc e)))) = refl

pub none_done_old : (r : RestartAnswer) → Restarts trace_old 3 2 r → (z : ℕ) → z < 2 → stays_in (line_in r.line) z ≡ false → line_in r.line z ≡ 1
none_done_old r R = R.none_done none_finishes

-- ---- Not among them, but of the same texts: delivery records (`RecordsH` of Table), as `replay` leaves them in the
-- run area. Complete, from the line of R1: the record of the run without failure. Not complete: 1 has not received
-- message 2 from 0. Complete, from the line of R2, which loses that message: 1 never receives it

abbrev pub LeftH : Type 0
LeftH =
    OnTable trace_h (Leaves 11 2 (2 ∷ 2 ∷ 32 ∷ []) (0 ∷ 0 ∷ 1 ∷ 1 ∷ 1 ∷ 1 ∷ []) 6 true (taken_h (receives_h 1 1 2) (receives_h 5 7 9) no_high_h))
    × OnTable trace_h (Leaves 11 2 (2 ∷ 2 ∷ 32 ∷ []) (0 ∷ 0 ∷ 1 ∷ 1 ∷ []) 4 false (taken_h (receives_h 1 1 0) (receives_h 5 7 0) no_high_h))
    × OnTable trace_h (Leaves 11 2 (32 ∷ 2 ∷ 32 ∷ []) (1 ∷ 1 ∷ []) 2 true (taken_h (receives_h 1 1 0) (receives_h 5 7 0) no_high_h))

pub left_h : LeftH
left_h =
    let (_, all, done, _, some, more, _, lossy) = records_h in (
      leaves text_h trace_h 11 2 fails1 (2 ∷ 2 ∷ 32 ∷ []) (0 ∷ 0 ∷ 1 ∷ 1 ∷ 1 ∷ 1 ∷ []) 6 true true (taken_h (receives_h 1 1 2) (receives_h 5 7 9) no_high_h) done all,
      leaves text_h trace_h 11 2 fails1 (2 ∷ 2 ∷ 32 ∷ []) (0 ∷ 0 ∷ 1 ∷ 1 ∷ []) 4 false false (taken_h (receives_h 1 1 0) (receives_h 5 7 0) no_high_h) more some,
      leaves text_h trace_h 11 2 fails1 (32 ∷ 2 ∷ 32 ∷ []) (1 ∷ 1 ∷ []) 2 true false (taken_h (receives_h 1 1 0) (receives_h 5 7 0) no_high_h) table.1.2 lossy,
    )

-- and those of `RecordsWide`: messages that differ only in the high halves of their values
abbrev pub LeftWide : Type 0
LeftWide =
    Accepts (lines_of lines_wide) trace_wide
    × OnTable trace_wide (Leaves 11 2 (2 ∷ 2 ∷ 32 ∷ []) (0 ∷ 0 ∷ 1 ∷ 1 ∷ 1 ∷ 1 ∷ []) 6 true (taken_h (receives_h 1 1 2) (receives_h 7 4294967295 7) (receives_h 0 4294967295 1)))
    × OnTable trace_wide (Leaves 11 2 (32 ∷ 2 ∷ 32 ∷ []) (1 ∷ 1 ∷ []) 2 true (taken_h (receives_h 1 1 0) (receives_h 7 4294967295 0) (receives_h 0 4294967295 0)))

pub left_wide : LeftWide
left_wide =
    let (_, all, done, _, lossy, some) = records_wide in (
      accepts (lines_of lines_wide) trace_wide words_wide.0,
      leaves text_wide trace_wide 11 2 fails_wide (2 ∷ 2 ∷ 32 ∷ []) (0 ∷ 0 ∷ 1 ∷ 1 ∷ 1 ∷ 1 ∷ []) 6 true true
          (taken_h (receives_h 1 1 2) (receives_h 7 4294967295 7) (receives_h 0 4294967295 1)) done all,
      leaves text_wide trace_wide 11 2 fails_wide (32 ∷ 2 ∷ 32 ∷ []) (1 ∷ 1 ∷ []) 2 true false
          (taken_h (receives_h 1 1 0) (receives_h 7 4294967295 0) (receives_h 0 4294967295 0)) some lossy,
    )
