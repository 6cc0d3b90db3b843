-- How long a text can be: 131,072 bytes hold every one. A process has two digits, and a value 20 at most.
use Prim.Native.Nat.{ℕ, zero, suc, ◌+◌, ◌*◌, ◌<◌, ◌≤◌}
use mathlib.Core.Path.{◌≡◌}
use mathlib.Core.Bool.{true}
use mathlib.Core.List.{List, ◌∷◌, ◌++◌}
use native.Mathlib.Omega.{arith}
use lib.Dec.{eqb}
use lib.ListN.{length, length-append, get_or}
use Rattle.words.proofs.Cases.{by_bool}
use Rattle.text.specs.Number.{decimal}
use Rattle.trace.specs.declared.Event.TheVariants.{Send, Recv}
use Rattle.trace.specs.Table.{top_in, process_in, peer_in, event_base}
use Rattle.lines.specs.Line.{k_procs, k_send, k_to, k_val, k_recv, k_from, k_save, k_done}
use Rattle.lines.specs.Render.{render_event}
use Rattle.reader.specs.Render.{render_events, render}
use Rattle.table.specs.Held.{event_of, held_value, held_event, held_events, held, holds_trace}
use Rattle.table.proofs.Testing.{holds_facts}
use Rattle.writer.proofs.Lengths.{number_few, small_few}
use Rattle.rendering.specs.Write.{text_of, text_bytes}

-- a key and a number after what stands before them
after_few : (xs k d : List ℕ) (m n : ℕ) → length xs ≤ m → length d ≤ n → length (xs ++ k ++ d) ≤ m + length k + n
after_few xs k d m n h l = omega (arith, length-append (xs ++ k) d, length-append xs k)

send_few : (a b v : ℕ) → a < 100 → b < 100 → length (render_event (Send a b v)) ≤ 44
unfolding render_event
send_few a b v ha hb =
    let q = after_few (k_send ++ decimal a) k_to (decimal b) 13 2 (omega (arith, length-append k_send (decimal a), small_few a ha)) (small_few b hb) in
    after_few (k_send ++ decimal a ++ k_to ++ decimal b) k_val (decimal v) 19 20 q (number_few v)

recv_few : (a b : ℕ) → a < 100 → b < 100 → length (render_event (Recv a b)) ≤ 44
unfolding render_event
recv_few a b ha hb =
    let q : length (k_recv ++ decimal a ++ k_from ++ decimal b) ≤ 21 =
    after_few (k_recv ++ decimal a) k_from (decimal b) 13 2 (omega (arith, length-append k_recv (decimal a), small_few a ha)) (small_few b hb) in
    omega arith

process_few : (key : List ℕ) (a : ℕ) → length key ≤ 11 → a < 100 → length (key ++ decimal a) ≤ 44
process_few key a hk ha = omega (arith, length-append key (decimal a), small_few a ha)

event_few : (w v : ℕ) → length (render_event (event_of w v)) ≤ 44
unfolding event_of render_event
event_few w v =
    by_bool (eqb (top_in w) 1)
    (λ e. rw e (send_few (process_in w) (peer_in w) v (omega arith) (omega arith)))
    (λ e. by_bool (eqb (top_in w) 2)
    (λ f. rw (e, f) (recv_few (process_in w) (peer_in w) (omega arith) (omega arith)))
    (λ f. by_bool (eqb (top_in w) 3)
    (λ g. rw (e, f, g) (process_few k_save (process_in w) (omega arith) (omega arith)))
    (λ g. rw (e, f, g) (process_few k_done (process_in w) (omega arith) (omega arith)))))

events_few : (a : List ℕ) (i n : ℕ) → length (render_events (held_events a i n)) ≤ 45 * n
unfolding render_events held_events
events_few a i zero = omega arith
events_few a i (suc n) =
    let l = render_event (held_event a i) in
    let rest = render_events (held_events a (suc i) n) in
    omega (arith, length-append l (10 ∷ rest), event_few (get_or a (event_base + i) 0) (held_value a i), events_few a (suc i) n)

-- the text of an area that holds a trace
pub text_few : (a : List ℕ) → holds_trace a ≡ true → length (text_of a) ≤ text_bytes
unfolding text_of render held
text_few a h =
    let n = get_or a 1 0 in
    let es = render_events (held_events a 1 n) in
    let few = (holds_facts a h).few in
    omega (arith, length-append (k_procs ++ decimal (get_or a 0 0)) (10 ∷ es), length-append k_procs (decimal (get_or a 0 0)), number_few (get_or a 0 0), events_few a 1 n, few)
