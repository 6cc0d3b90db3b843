-- `report::report` meets its contract: a text that is refused, and one that is a trace and a failure.
use Prim.Native.Nat.{ℕ}
use mathlib.Core.Path.{refl, sym}
use mathlib.Core.Bool.{true}
use lib.ListN.{replicate, length-replicate}
use lib.Seq.{length-take-le}
use Rattle.words.specs.Area.{area_words}
use Rattle.columns.specs.Inner.Columns.{full_words}
use Rattle.refusal.proofs.Refusals.{no_number_0}
use Rattle.report.proofs.Ways.{answered, text_refused, trace_read}
use native.Mathlib.Omega.{arith}
use Rattle.report.proofs.report.Goals as goal

pub returns-in-Err : goal.returns-in-Err
returns-in-Err c =
    let (refused, (length, (bytes, (exact, few)))) = answered _ c.args.text.now _ _ _ true (text_refused c.args.text.now (replicate area_words 0) (length-replicate {A = ℕ} area_words 0) _ c.in-Err.ensures.answer (no_number_0 _)) (rw c.number.ensures at c.put_refusal.ensures) in
    record {
      refused = refused;
      length = length;
      bytes = bytes;
      exact = exact;
      few = few;
    }

pub slice_bounds-report_in-end : goal.slice_bounds-report_in-end
slice_bounds-report_in-end c =
    let w = trace_read c.args.text.now (replicate area_words 0) (length-replicate {A = ℕ} area_words 0) _ c.in-Ok.ensures.answer refl c.read_failure_clear.new.table c.in-Ok.ensures.words in sym (length-take-le full_words c.read_failure_clear.new.table (omega (arith, w.0)))

pub report_in-requires : goal.report_in-requires
report_in-requires c =
    let w = trace_read c.args.text.now (replicate area_words 0) (length-replicate {A = ℕ} area_words 0) _ c.in-Ok.ensures.answer refl c.read_failure_clear.new.table c.in-Ok.ensures.words in (w.1.0, w.1.1)

pub returns-in-Ok : goal.returns-in-Ok
returns-in-Ok c =
    let w = trace_read c.args.text.now (replicate area_words 0) (length-replicate {A = ℕ} area_words 0) _ c.in-Ok.ensures.answer refl c.read_failure_clear.new.table c.in-Ok.ensures.words in
    let (refused, (length, (bytes, (exact, few)))) = c.report_in.ensures w.1.0 c.args.text.now w.1.1 w.1.2 in
    record {
      refused = refused;
      length = length;
      bytes = bytes;
      exact = exact;
      few = few;
    }
