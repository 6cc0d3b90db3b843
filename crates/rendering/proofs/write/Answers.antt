-- `rendering::write` meets its contract, one law for each way out.
use mathlib.Core.Path.{refl, sym, ap, ◌∙◌}
use Rattle.std.proofs.Common.{not, Err}
use Rattle.refusal.specs.declared.Refused.{Refused}
use Rattle.rendering.specs.Write.{write_answered}
use Rattle.rendering.proofs.Ways.{holds, within, own_size, short_area, no_trace, straight, no_room, copied}
use Rattle.rendering.proofs.write.Goals as goal

pub returns-then-table-lt-AREA_WORDS : goal.returns-then-table-lt-AREA_WORDS
returns-then-table-lt-AREA_WORDS c =
    let (answer, (buffer, trip)) = short_area _ _ _ c.if-table-lt-AREA_WORDS.true (ap (λ (x : Refused). write_answered (Err x)) c.at.ensures) in
    record { answer = answer; buffer = buffer; trip = trip }

pub returns-then-not-holds_trace : goal.returns-then-not-holds_trace
returns-then-not-holds_trace c =
    let (answer, (buffer, trip)) = no_trace _ _ _ c.if-table-lt-AREA_WORDS.false (sym c.holds_trace.ensures ∙ c.if-not-holds_trace.true) (ap (λ (x : Refused). write_answered (Err x)) c.at-then-not-holds_trace.ensures) in
    record { answer = answer; buffer = buffer; trip = trip }

pub put_text-requires : goal.put_text-requires
put_text-requires c =
    within _ (holds _ _ c.holds_trace.ensures (ap not c.if-not-holds_trace.false))

pub returns-then-out-ge-TEXT_BYTES : goal.returns-then-out-ge-TEXT_BYTES
returns-then-out-ge-TEXT_BYTES c =
    let (answer, (buffer, trip)) = straight _ _ _ c.if-table-lt-AREA_WORDS.false (holds _ _ c.holds_trace.ensures (ap not c.if-not-holds_trace.false)) _ _ c.if-out-ge-TEXT_BYTES.true c.put_text.ensures refl in
    record { answer = answer; buffer = buffer; trip = trip }

pub put_text-length-requires : goal.put_text-length-requires
put_text-length-requires c =
    within _ (holds _ _ c.holds_trace.ensures (ap not c.if-not-holds_trace.false))

pub returns-then-out-length : goal.returns-then-out-length
returns-then-out-length c =
    let (answer, (buffer, trip)) = no_room _ _ _ c.if-table-lt-AREA_WORDS.false (holds _ _ c.holds_trace.ensures (ap not c.if-not-holds_trace.false)) _ _ _ own_size c.put_text-length.ensures c.if-out-length.true (ap (λ (x : Refused). write_answered (Err x)) c.at-then-out-length.ensures) in
    record { answer = answer; buffer = buffer; trip = trip }

pub returns : goal.returns
returns c =
    let (answer, (buffer, trip)) = copied _ _ _ c.if-table-lt-AREA_WORDS.false (holds _ _ c.holds_trace.ensures (ap not c.if-not-holds_trace.false)) _ _ _ own_size c.put_text-length.ensures _ c.if-out-length.false (rw c.copy_from_slice.ensures.after) refl in
    record { answer = answer; buffer = buffer; trip = trip }
