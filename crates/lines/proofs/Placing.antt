-- The line at a place of a text: one law for each way in which the code finds it, and what is known of one that was
-- found.
use Prim.Native.Nat.{ℕ, ◌+◌, ◌-◌, ◌<◌, ◌≤◌}
use mathlib.Core.Path.{◌≡◌, refl, sym, ap, subst, ◌∙◌}
use mathlib.Core.List.{List, ◌∷◌, ◌++◌}
use native.Mathlib.Omega.{arith}
use lib.ListN.{length, get_or, take, drop}
use lib.Seq.{take-append_seam}
use Rattle.std.specs.Prelude.{Option, Some, None, option_map}
use Rattle.text.specs.Number.{decimal}
use Rattle.text.specs.declared.Numeral.{Numeral}
use Rattle.text.specs.Inner.Line.{line_end, Ends}
use Rattle.text.specs.Inner.Standing.{Stands, NumberStands}
use Rattle.text.proofs.Lines.{line_ends}
use Rattle.text.proofs.Standing.{byte_stands, stands_then}
use Rattle.trace.specs.declared.Event.{Event}
use Rattle.trace.specs.declared.Event.TheVariants.{Send, Recv}
use Rattle.lines.specs.declared.Line.{Line}
use Rattle.lines.specs.Line.{k_send, k_to, k_val, k_recv, k_from, most, most_value, line_said}
use Rattle.lines.specs.Render.{render_event, KeysHold}
use Rattle.lines.specs.Inner.Placing.{next_line, ProcessEnds}
use Rattle.lines.proofs.OneLine.{line_for, event_line}
use Rattle.lines.proofs.Plain.{plain_end, plain_event}

-- a line was found, and where the next one begins
abbrev pub said : Line → ℕ → Option (Line × ℕ)
said l next = Some (l, next)

module _ (text : List ℕ) (at : ℕ) where
  pub end_within : (i : ℕ) → line_end text at ≡ Some i → (at ≤ i) × (i < length text)
  end_within i e = let f : Ends text at (Some i) = rw e at (line_ends text at) in (f.after, f.within)

  -- where the search for LF ends
  pub from_end : (i : ℕ) → line_end text at ≡ Some i → (l : Line) → l ≡ line_said (take (i - at) (drop at text)) → said l (i + 1) ≡ next_line text at
  unfolding next_line
  from_end i e l h = rw (e, h)

  pub from_none : line_end text at ≡ None → None ≡ next_line text at
  unfolding next_line
  from_none e = rw e

  -- and back
  pub said_at : (l : Line) (next : ℕ) → next_line text at ≡ said l next
      → (i : ℕ) × (line_end text at ≡ Some i) × (next ≡ i + 1) × (l ≡ line_said (take (i - at) (drop at text)))
  unfolding next_line
  said_at l next = by_end (line_end text at)
    where
      by_end : (e : Option ℕ) → option_map {U = Line × ℕ} (λ i. (line_said (take (i - at) (drop at text)), i + 1)) e ≡ said l next
          → (i : ℕ) × (e ≡ Some i) × (next ≡ i + 1) × (l ≡ line_said (take (i - at) (drop at text)))
      by_end (Some i) h =
          let same : ◌≡◌ {A = Line × ℕ} (line_said (take (i - at) (drop at text)), i + 1) (l, next) = cc in
          (i, refl, ap (λ (p : Line × ℕ). p.1) (sym same), ap (λ (p : Line × ℕ). p.0) (sym same))
      by_end None h = absurd (let z : ◌≡◌ {A = ℕ} 0 1 = cc in let w : ⊥ = omega arith in w)

  pub missing_at : next_line text at ≡ None → line_end text at ≡ None
  unfolding next_line
  missing_at = by_end (line_end text at)
    where
      by_end : (e : Option ℕ) → option_map {U = Line × ℕ} (λ i. (line_said (take (i - at) (drop at text)), i + 1)) e ≡ None → e ≡ None
      by_end (Some i) h = absurd (let z : ◌≡◌ {A = ℕ} 0 1 = cc in let w : ⊥ = omega arith in w)
      by_end None h = refl

  -- the process that a quick look found, over the answer that the code has
  pub process_ends : (r : Option Numeral) (n : Numeral) → ProcessEnds text at r → r ≡ Some n → NumberStands text at 99 2 n.value n.end × (get_or text n.end 0 ≡ 10)
  process_ends r n w e = subst (ProcessEnds text at) e w

  -- where an event's text stands, and LF behind it
  pub event_from : (e : Event) (i : ℕ) → KeysHold e → Stands text at (render_event e) i → i < length text → get_or text i 0 ≡ 10 → said (line_for e) (i + 1) ≡ next_line text at
  event_from e i k s h lf =
      let x = render_event e in
      let bytes : drop at text ≡ x ++ 10 ∷ drop (i + 1) text = s.bytes ∙ ap (λ (z : List ℕ). x ++ z) (byte_stands text i 10 h lf).bytes in
      let ends : line_end text at ≡ Some (at + length x) = rw bytes (plain_end at x (drop (i + 1) text) (plain_event e)) in
      let size : at + length x - at ≡ length x = omega arith in
      let same : at + length x + 1 ≡ i + 1 = omega (arith, s.size) in
      let says : line_for e ≡ line_said (take (at + length x - at) (drop at text)) =
      rw (size, bytes, take-append_seam x (10 ∷ drop (i + 1) text)) (sym (event_line e k)) in
      ap (said (line_for e)) (sym same) ∙ from_end (at + length x) ends (line_for e) says

  -- the lines of events, field by field: each number with what `short` and `long` say of it
  module _ (a p : ℕ) (sa : NumberStands text (at + 11) 99 2 a p) where
    pub process_from : (key : List ℕ) (e : Event) → render_event e ≡ key ++ decimal a → (a ≤ most → KeysHold e) → Stands text at key (at + 11)
        → p < length text → get_or text p 0 ≡ 10 → said (line_for e) (p + 1) ≡ next_line text at
    process_from key e r k s h lf = event_from e p (k (omega (arith, sa.1))) (rw r (stands_then text s sa.0)) h lf

    module _ (b q : ℕ) where
      pub recv_from_lem : Stands text at k_recv (at + 11) → Stands text p k_from (p + 6) → NumberStands text (p + 6) 99 2 b q
          → q < length text → get_or text q 0 ≡ 10 → said (line_for (Recv a b)) (q + 1) ≡ next_line text at
      unfolding render_event
      recv_from_lem s f sb h lf =
          event_from (Recv a b) q (omega (arith, sa.1), omega (arith, sb.1)) (stands_then text (stands_then text (stands_then text s sa.0) f) sb.0) h lf

      pub send_from : (v r : ℕ) → Stands text at k_send (at + 11) → Stands text p k_to (p + 4) → NumberStands text (p + 4) 99 2 b q
          → Stands text q k_val (q + 5) → NumberStands text (q + 5) most_value 20 v r
          → r < length text → get_or text r 0 ≡ 10 → said (line_for (Send a b v)) (r + 1) ≡ next_line text at
      unfolding render_event
      send_from v r s t sb u sv h lf =
          event_from (Send a b v) r (omega (arith, sa.1), omega (arith, sb.1), sv.1)
          (stands_then text (stands_then text (stands_then text (stands_then text (stands_then text s sa.0) t) sb.0) u) sv.0) h lf
