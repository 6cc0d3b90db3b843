-- `lines::quick_line` meets its contract: the first key stands there.
use Prim.Native.Nat.{◌+◌}
use mathlib.Core.Path.{refl}
use native.Mathlib.Omega.{arith}
use Rattle.text.specs.Bytes.{bytes_of}
use Rattle.text.specs.Inner.Blocks.{packed}
use Rattle.trace.specs.declared.Event.TheVariants.{Save, Done}
use Rattle.lines.specs.Line.{k_save, k_done}
use Rattle.lines.specs.Render.{render_event}
use Rattle.lines.proofs.Begun.{all_bytes, begun}
use Rattle.lines.proofs.Placing.{process_ends, process_from}
use Rattle.lines.proofs.quick_line.Goals as goal

pub quick_send-requires : goal.quick_send-requires
unfolding packed all_bytes
quick_send-requires c =
    (omega arith, begun _ _ (bytes_of "ev=send ") _ _ refl refl (λ i. omega (arith, c.type_inv.text i)) (omega arith) c.four.ensures c.if-four-ne-AT.false c.eight-key.ensures c.if-key-eq-SEND.true)

pub quick_recv-requires : goal.quick_recv-requires
unfolding packed all_bytes
quick_recv-requires c =
    (omega arith, begun _ _ (bytes_of "ev=recv ") _ _ refl refl (λ i. omega (arith, c.type_inv.text i)) (omega arith) c.four.ensures c.if-four-ne-AT.false c.eight-key.ensures c.if-key-eq-RECV.true)

pub returns-then-key-eq-SAVE : goal.returns-then-key-eq-SAVE
unfolding packed all_bytes render_event
returns-then-key-eq-SAVE c =
    let s = process_ends c.args.text.now (c.args.at + 11) _ _ c.quick_process.ensures c.in_ok-process.was in
    process_from c.args.text.now c.args.at _ _ s.0 k_save (Save _) refl (λ h. h)
    (begun _ _ (bytes_of "ev=save ") _ _ refl refl (λ i. omega (arith, c.type_inv.text i)) (omega arith) c.four.ensures c.if-four-ne-AT.false c.eight-key.ensures c.if-key-eq-SAVE.true)
    (omega (arith, s.0.2)) s.1

pub returns-then-key-eq-DONE : goal.returns-then-key-eq-DONE
unfolding packed all_bytes render_event
returns-then-key-eq-DONE c =
    let s = process_ends c.args.text.now (c.args.at + 11) _ _ c.quick_process-then-key-eq-DONE.ensures c.in_ok-process-2.was in
    process_from c.args.text.now c.args.at _ _ s.0 k_done (Done _) refl (λ h. h)
    (begun _ _ (bytes_of "ev=done ") _ _ refl refl (λ i. omega (arith, c.type_inv.text i)) (omega arith) c.four.ensures c.if-four-ne-AT.false c.eight-key.ensures c.if-key-eq-DONE.true)
    (omega (arith, s.0.2)) s.1
