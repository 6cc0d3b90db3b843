-- How long a report can be: 262,144 bytes hold every one.
use Prim.Native.Nat.{ℕ, zero, suc, ◌+◌, ◌*◌, ◌≤◌}
use mathlib.Core.List.{List, [], ◌∷◌, ◌++◌}
use native.Mathlib.Omega.{arith}
use lib.ListN.{length, length-append}
use Prim.Native.String.{String}
use Rattle.writer.proofs.Lengths.{pair_few}
use Rattle.theory.specs.Answers.{Listed, gather}
use Rattle.text.specs.Bytes.{bytes_of}
use Rattle.report.specs.Report.{given, Recovery, process_line_of, message_lines, printed_of, report_bytes}
use Rattle.printing.specs.Lines.{process_line, message_line, total_line, refusal_line, key_orphan, key_kept}

process_few : (z e r p : ℕ) → length (process_line z e r p) ≤ 116
unfolding process_line
process_few z e r p =
    let lf : List ℕ = 10 ∷ [] in
    let d = pair_few (bytes_of " phase=") lf p 1 (omega arith) in
    let c = pair_few (bytes_of " restart=") _ r 28 d in
    let b = pair_few (bytes_of " epoch=") _ e 57 c in
    pair_few (bytes_of "out=proc at=") _ z 84 b

message_few : (key : String) (from to number phase : ℕ) → length (bytes_of key) ≤ 16 → length (message_line key from to number phase) ≤ 112
unfolding message_line
message_few key from to number phase h =
    let lf : List ℕ = 10 ∷ [] in
    let d = pair_few (bytes_of " phase=") lf phase 1 (omega arith) in
    let c = pair_few (bytes_of " no=") _ number 28 d in
    let b = pair_few (bytes_of " to=") _ to 52 c in
    let a : length (message_line key from to number phase) ≤ length (bytes_of key) + 20 + 76 = pair_few (bytes_of key) _ from 76 b in
    omega arith

total_few : (a b c d : ℕ) → length (total_line a b c d) ≤ 118
unfolding total_line
total_few a b c d =
    let lf : List ℕ = 10 ∷ [] in
    let h = pair_few (bytes_of " steps=") lf d 1 (omega arith) in
    let g = pair_few (bytes_of " kept=") _ c 28 h in
    let f = pair_few (bytes_of " orphans=") _ b 54 g in
    pair_few (bytes_of "out=total back=") _ a 83 f

pub refusal_few : (n k : ℕ) → length (refusal_line n k) ≤ report_bytes
unfolding refusal_line
refusal_few n k =
    let lf : List ℕ = 10 ∷ [] in
    let g = pair_few (bytes_of " place=") lf k 1 (omega arith) in
    let f : length (refusal_line n k) ≤ 56 = pair_few (bytes_of "refused=") _ n 28 g in
    omega arith

lines_few : (f : ℕ → List ℕ) (n : ℕ) → ((z : ℕ) → length (f z) ≤ 116) → length (gather f n) ≤ 116 * n
unfolding gather
lines_few f zero h = omega arith
lines_few f (suc n) h = omega (arith, length-append (gather f n) (f n), lines_few f n h, h n)

messages_few : (key : String) (ms : List Listed) → length (bytes_of key) ≤ 16 → length (message_lines key ms) ≤ 112 * length ms
unfolding message_lines
messages_few key [] h = omega arith
messages_few key (m ∷ ms) h =
    let l = message_line key m.from m.to m.number m.phase in
    omega (arith, length-append l (message_lines key ms), message_few key m.from m.to m.number m.phase h, messages_few key ms h)

pub found_few : (r : Recovery) → r.restarted.line.count ≤ 64 → length r.orphans + length r.kept ≤ 2048 → length (printed_of (given r)) ≤ report_bytes
unfolding printed_of
found_few r p m =
    let n = r.restarted.line.count in
    let A = gather (process_line_of r.restarted) n in
    let B = message_lines key_orphan r.orphans in
    let C = message_lines key_kept r.kept in
    let D = total_line r.restarted.back (length r.orphans) (length r.kept) r.steps in
    let a = lines_few (process_line_of r.restarted) n (λ z. process_few z _ _ _) in
    let b = messages_few key_orphan r.orphans (omega arith) in
    let c = messages_few key_kept r.kept (omega arith) in
    let d = total_few r.restarted.back (length r.orphans) (length r.kept) r.steps in
    omega (arith, length-append (A ++ B ++ C) D, length-append (A ++ B) C, length-append A B)
