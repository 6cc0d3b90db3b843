-- Lines put one after another are the text of a trace.
use Prim.Native.Nat.{ℕ, zero, suc, ◌+◌}
use mathlib.Core.Path.{◌≡◌, refl, sym, ap, ◌∙◌}
use mathlib.Core.List.{List, [], ◌∷◌, ◌++◌, append_assoc}
use native.Mathlib.Omega.{arith}
use Rattle.text.specs.Number.{decimal}
use Rattle.trace.specs.declared.Event.{Event}
use Rattle.lines.specs.Render.{render_event}
use Rattle.reader.specs.Render.{render_events}
use Rattle.table.specs.Held.{held_event, held_events}
use Rattle.writer.specs.declared.Sink.{Sink}
use Rattle.writer.specs.Inner.Puts.{Puts}
use Rattle.writer.specs.Inner.Sinks.{Takes}
use Rattle.writer.proofs.Buffers.{then, takes_none, takes_then, takes_same}

-- ---- One line

-- a key and a number after what stands before them
pub then_pair : {xs : List ℕ} {s₀ s₁ s₂ : Sink ℕ} (k d : List ℕ) → Takes xs s₀ s₁ → Takes (k ++ d) s₁ s₂ → Takes (xs ++ k ++ d) s₀ s₂
then_pair {xs} k d g h = takes_same (sym (append_assoc xs k d)) (takes_then g h)

-- a line with a process only, of a checkpoint or of the end of one, by its key
pub process_put : (key : List ℕ) (a : ℕ) (o₀ o₁ o₂ : List ℕ) (p₀ p₁ p₂ : ℕ)
    → Puts (key ++ decimal a) o₀ p₀ o₁ p₁ → Puts (10 ∷ []) o₁ p₁ o₂ p₂ → Puts ((key ++ decimal a) ++ 10 ∷ []) o₀ p₀ o₂ p₂
process_put key a o₀ o₁ o₂ p₀ p₁ p₂ ha he = then (key ++ decimal a) (10 ∷ []) o₀ o₁ o₂ p₀ p₁ p₂ ha he

-- ---- Line after line

events_snoc : (a : List ℕ) (i n : ℕ) → held_events a i (suc n) ≡ held_events a i n ++ held_event a (i + n) ∷ []
unfolding held_events
events_snoc a i zero = rw (let q : i + 0 ≡ i = omega arith in q)
events_snoc a i (suc n) =
    let q : suc i + n ≡ i + suc n = omega arith in
    ap (λ (es : List Event). held_event a i ∷ es) (events_snoc a (suc i) n ∙ rw q)

render_snoc : (es : List Event) (e : Event) → render_events (es ++ e ∷ []) ≡ render_events es ++ (render_event e ++ 10 ∷ [])
unfolding render_events
render_snoc [] e = refl
render_snoc (x ∷ es) e = rw (render_snoc es e) (sym (append_assoc (render_event x) (10 ∷ render_events es) (render_event e ++ 10 ∷ [])))

-- the lines of the events before e, and its own
pub lines_next : (a : List ℕ) (k e : ℕ) {s₀ s₁ s₂ : Sink ℕ} → e ≡ suc k → Takes (render_events (held_events a 1 k)) s₀ s₁
    → Takes (render_event (held_event a e) ++ 10 ∷ []) s₁ s₂ → Takes (render_events (held_events a 1 e)) s₀ s₂
lines_next a k e q g h =
    let r : 1 + k ≡ e = omega arith in
    let s : render_events (held_events a 1 (suc k)) ≡ render_events (held_events a 1 k) ++ (render_event (held_event a e) ++ 10 ∷ []) =
    rw (events_snoc a 1 k, r) (render_snoc (held_events a 1 k) (held_event a e)) in
    rw q (takes_same (sym s) (takes_then g h))

pub lines_none : (a : List ℕ) (s : Sink ℕ) → Takes (render_events (held_events a 1 0)) s s
unfolding render_events held_events
lines_none a s = takes_none s
