-- Lines written one after another: what a loop has after each, and a whole report.
use Prim.Native.Nat.{ℕ, zero, suc, ◌+◌, ◌-◌}
use mathlib.Core.Path.{◌≡◌, ap, ◌∙◌}
use mathlib.Core.List.{List, [], ◌∷◌}
use native.Mathlib.Omega.{arith}
use native.Mathlib.Numerals.{add-one}
use lib.ListN.{length, get_or, take, drop, length-drop}
use lib.Seq.{slice, take-nil, length-take-le, get_or-take, get_or-drop}
use Rattle.theory.specs.Answers.{gather}
use Rattle.restart.specs.Restart.{RestartAnswer}
use Rattle.writer.specs.declared.Sink.{Sink}
use Rattle.writer.specs.Inner.Sinks.{Takes}
use Rattle.writer.proofs.Buffers.{takes_none, takes_then}
use Rattle.text.specs.Bytes.{bytes_of}
use Rattle.printing.specs.Lines.{total_line, key_orphan, key_kept}
use Rattle.report.specs.Report.{process_line_of}
use Rattle.report.specs.Inner.Rows.{Sends, event_rows, recovery_rows}

-- ---- Lines f 0, f 1, ..

pub lines_none : (f : ℕ → List ℕ) (s : Sink ℕ) → Takes (gather f 0) s s
unfolding gather
lines_none f s = takes_none s

pub lines_next : (f : ℕ → List ℕ) (z : ℕ) {s₀ s₁ s₂ : Sink ℕ} → Takes (gather f z) s₀ s₁ → Takes (f z) s₁ s₂ → Takes (gather f (z + 1)) s₀ s₂
unfolding gather
lines_next f z g h = rw (add-one z) (takes_then g h)

-- ---- A part of some events, as the code lends it

drop_take : (a n : ℕ) (l : List ℕ) → take n (drop a l) ≡ drop a (take (a + n) l)
drop_take zero n l = ap (λ (k : ℕ). take k l) (let q : n ≡ 0 + n = omega arith in q)
drop_take (suc a) n [] = rw (take-nil {A = ℕ} n, take-nil {A = ℕ} (suc a + n))
drop_take (suc a) n (x ∷ l) = drop_take a n l ∙ ap (λ (k : ℕ). drop (suc a) (take k (x ∷ l))) (let q : suc (a + n) ≡ suc a + n = omega arith in q)

middle : (a n : ℕ) (l : List ℕ) → take (a + n - a) (drop a l) ≡ slice a (a + n) l
middle a n l = let q : a + n - a ≡ n = omega arith in rw q (drop_take a n l)

-- its events are some of them
pub front_sends : (events : List ℕ) (a n : ℕ) → Sends events (a + n) → Sends (take a events) (length (take a events))
front_sends events a n s = (
  omega arith,
  λ i h. let k = length-take-le a events (omega (arith, s.0)) in
      rw (get_or-take a events i 0 (omega arith)) (s.1 i (omega arith)),
)

pub middle_sends : (events : List ℕ) (a n : ℕ) → Sends events (a + n) → Sends (take (a + n - a) (drop a events)) (length (take (a + n - a) (drop a events)))
middle_sends events a n s = (
  omega arith,
  λ i h. let q : a + n - a ≡ n = omega arith in
      let k : length (take (a + n - a) (drop a events)) ≡ n = rw q (length-take-le n (drop a events) (omega (arith, s.0, length-drop a events))) in
      let e : get_or (take (a + n - a) (drop a events)) i 0 ≡ get_or events (a + i) 0 = get_or-take (a + n - a) (drop a events) i 0 (omega arith) ∙ get_or-drop a events i 0 in
      rw e (s.1 (a + i) (omega arith)),
)

-- ---- The whole report of a recovery

pub recovery_put : (r : RestartAnswer) (full events : List ℕ) (orphans kept steps : ℕ) {s₀ s₁ s₂ s₃ s₄ : Sink ℕ}
    → Takes (gather (process_line_of r) r.line.count) s₀ s₁
    → Takes (event_rows (bytes_of key_orphan) full (take orphans events)) s₁ s₂
    → Takes (event_rows (bytes_of key_kept) full (take (orphans + kept - orphans) (drop orphans events))) s₂ s₃
    → Takes (total_line r.back orphans kept steps) s₃ s₄
    → Takes (recovery_rows r full events orphans kept steps) s₀ s₄
unfolding recovery_rows
recovery_put r full events orphans kept steps h₁ h₂ h₃ h₄ =
    takes_then (takes_then (takes_then h₁ h₂) (rw (middle orphans kept events) at h₃)) h₄
