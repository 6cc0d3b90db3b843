-- What the check of a table area promises, over definitions alone: each claim under its sentence of the requirements.
use Prim.Native.Nat.{ℕ, ◌≤◌}
use mathlib.Core.Path.{◌≡◌, sym, subst, ◌∙◌}
use mathlib.Core.Logic.{◌↔◌}
use mathlib.Core.List.{List}
use mathlib.Core.Bool.{true, false}
use mathlib.Core.Option.{none, some}
use lib.ListN.{length, take, replicate}
use Rattle.words.specs.Area.{area_words, words_from}
use Rattle.trace.specs.Trace.{Trace}
use Rattle.trace.specs.Fit.{well_formed}
use Rattle.trace.specs.Table.{table_word}
use Rattle.reader.specs.Failure.{failing, last_failure, failure_area}
use Rattle.reader.specs.Verdict.{accepted, verdict}
use Rattle.reader.specs.Answer.{read_area}
use Rattle.reader.specs.Render.{render}
use Rattle.reader.proofs.Claims.{accepted_fit, fit_accepted, failing_fit}
use Rattle.table.specs.Held.{held, holds_trace}
use Rattle.table.specs.Inner.Held.{held_trace}
use Rattle.table.proofs.Holding.{words_of, held_of, told, held_self, rule_area, ruled_held, read_ruled, failing_ruled, ruled_same, same_front, same_held, zero_not_held}

-- An area holds a trace exactly if it has 16,384 words, the trace is well formed, and the first 16,384 words are those
-- of the trace.
pub held_iff : (a : List ℕ) (t : Trace)
    → (held_trace a ≡ some t) ↔ ((area_words ≤ length a) × (well_formed t ≡ true) × (take area_words a ≡ words_from (table_word t) 0 area_words))
held_iff a t = (λ h. words_of a t h, λ h. held_of a t h.0 h.1 h.2)

-- "reading .. leaves there": after a text is accepted, the area holds the trace that it was accepted as.
pub read_held : (text a : List ℕ) (t : Trace) → verdict text ≡ accepted t → area_words ≤ length a → held_trace (read_area text a) ≡ some t
read_held text a t e l = rw (read_ruled text a t e l) (ruled_held a t (accepted_fit text t e) l)

-- The same for a text that ends with a failure line.
pub failing_held : (text a : List ℕ) (t : Trace) (step set : ℕ) → last_failure text ≡ failing t step set → area_words ≤ length a
    → held_trace (failure_area text a) ≡ some t
failing_held text a t step set e l = rw (failing_ruled text a t step set e l) (ruled_held a t (failing_fit text t step set e) l)

-- 13: the area holds a trace exactly if its first 16,384 words are what reading some accepted trace leaves there, so
-- that the reading would change nothing.
pub check_13 : (a : List ℕ)
    → (holds_trace a ≡ true) ↔ ((text : List ℕ) × (t : Trace) × (verdict text ≡ accepted t) × (area_words ≤ length a) × (read_area text a ≡ a))
check_13 a = (to, from)
  where
    to : holds_trace a ≡ true → (text : List ℕ) × (t : Trace) × (verdict text ≡ accepted t) × (area_words ≤ length a) × (read_area text a ≡ a)
    to h =
        let (size, fit, words) = (held_iff a (held a)).0 (held_self a h) in
        let e = fit_accepted (held a) fit in
        (render (held a), held a, e, size, read_ruled (render (held a)) a (held a) e size ∙ ruled_same a (held a) words)

    from : (text : List ℕ) × (t : Trace) × (verdict text ≡ accepted t) × (area_words ≤ length a) × (read_area text a ≡ a) → holds_trace a ≡ true
    from (text, t, e, size, same) = (told a t (subst (λ (x : List ℕ). held_trace x ≡ some t) same (read_held text a t e size))).0

-- Words past 16,384 are never looked at: what an area holds is told by its first 16,384 words.
pub front_only : (a b : List ℕ) → area_words ≤ length a → area_words ≤ length b → take area_words a ≡ take area_words b → held_trace a ≡ held_trace b
front_only a b la lb e = same_held (held_trace a) (held_trace b) (same_front a b la lb e) (same_front b a lb la (sym e))

-- The zero area is no trace's area.
pub zero_refused : (a : List ℕ) → take area_words a ≡ replicate area_words 0 → (holds_trace a ≡ false) × (held_trace a ≡ none)
zero_refused a z = zero_not_held a z

-- No two traces have one area: well-formed traces with the same words are equal.
pub one_trace : (s t : Trace) → well_formed s ≡ true → well_formed t ≡ true
    → words_from (table_word s) 0 area_words ≡ words_from (table_word t) 0 area_words → s ≡ t
one_trace s t v w e =
    let x = words_from (table_word s) 0 area_words in
    let (size, all) = rule_area (table_word s) in
    let p : held_trace x ≡ some s = (held_iff x s).1 (size, v, all) in
    let q : held_trace x ≡ some t = (held_iff x t).1 (size, w, all ∙ e) in
    cc
