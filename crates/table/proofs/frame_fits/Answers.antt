-- `table::frame_fits` meets its contract, one law for each way out.
use Rattle.table.proofs.Turns.{frame_short, frame_low, frame_high, frame_zeros}
use native.Mathlib.Omega.{arith}
use Rattle.table.proofs.frame_fits.Goals as goal

pub returns-then-area-lt-AREA_WORDS : goal.returns-then-area-lt-AREA_WORDS
returns-then-area-lt-AREA_WORDS c =
    frame_short _ c.if-area-lt-AREA_WORDS.true

pub returns-then-procs-lt2 : goal.returns-then-procs-lt2
returns-then-procs-lt2 c =
    frame_low _ c.if-area-lt-AREA_WORDS.false (omega arith)

pub returns-then-procs-gt-PROCESSES : goal.returns-then-procs-gt-PROCESSES
returns-then-procs-gt-PROCESSES c =
    frame_high _ c.if-area-lt-AREA_WORDS.false (omega arith) (omega arith)

pub returns : goal.returns
returns c =
    frame_zeros _ c.if-area-lt-AREA_WORDS.false (omega arith) (omega arith) _ c.zeros_fit.ensures
