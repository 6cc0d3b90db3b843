-- The words of a trace, cleared: an area that held no more is then clear.
use Prim.Native.Nat.{ℕ, ◌+◌, ◌-◌, ◌<◌, ◌≤◌}
use mathlib.Core.Path.{◌≡◌, sym, ap, ◌∙◌}
use mathlib.Core.Bool.{true}
use mathlib.Core.List.{List, ◌++◌, map}
use native.Mathlib.Omega.{arith}
use lib.ListN.{length, get_or, take, drop, replicate, length-drop, length-map, length-replicate, get_or-replicate, replicate-append-replicate, get_or-eq_default}
use lib.Seq.{get_or-take, get_or-drop, length-take-le, ext_get_or}
use Rattle.words.specs.Area.{area_words}
use Rattle.trace.specs.Table.{value_word}
use Rattle.trace.proofs.Places.{word_value}
use Rattle.table.specs.Held.{held, holds_trace}
use Rattle.columns.specs.Inner.Columns.{trace_words}
use Rattle.protocol.proofs.Passes.{held_long, held_few, held_word}
use Rattle.recovery.specs.Inner.Recovering.{TraceOnly}

-- the first n words cleared, in a list that is 0 after them
clear_rest : (n m : ℕ) (w : List ℕ) → n ≤ m → length w ≡ m → ((k : ℕ) → n ≤ k → k < m → get_or w k 0 ≡ 0) → replicate n 0 ++ drop n w ≡ replicate m 0
clear_rest n m w b e h =
    let l : length (drop n w) ≡ m - n = length-drop n w ∙ omega arith in
    ap (λ (x : List ℕ). replicate n 0 ++ x)
    (ext_get_or 0 (drop n w) (replicate (m - n) 0) (l ∙ sym (length-replicate (m - n) 0))
    (λ i d. get_or-drop n w i 0 ∙ h (n + i) (omega arith) (omega arith) ∙ sym (get_or-replicate (m - n) i 0 0 (omega arith))))
    ∙ replicate-append-replicate n (m - n) 0
    ∙ ap (λ (k : ℕ). replicate k 0) (let q : n + (m - n) ≡ m = omega arith in q)

pub trace_cleared : (w z : List ℕ) → TraceOnly w → z ≡ replicate (length (take trace_words w)) 0 → z ++ drop trace_words w ≡ replicate area_words 0
trace_cleared w z t q =
    let n : length (take 6163 w) ≡ 6163 = length-take-le 6163 w (omega (arith, t.0)) in
    rw (q, n) (clear_rest 6163 16384 w (omega arith) t.0 t.1)

-- a table that holds a trace holds no more
pub only_trace : (a : List ℕ) → holds_trace a ≡ true → TraceOnly (take area_words a)
only_trace a h = (length-take-le 16384 a (held_long a h), past)
  where
    past : (k : ℕ) → trace_words ≤ k → k < area_words → get_or (take area_words a) k 0 ≡ 0
    past k l b =
        get_or-take 16384 a k 0 b ∙ held_word a h k b
        ∙ word_value (held a) 1 (k - 4115) k (omega arith) (omega arith) (λ q. omega arith)
        ∙ get_or-eq_default (map (value_word 1) (held a).events) 0 (omega (arith, length-map (held a).events (value_word 1), held_few a h))
