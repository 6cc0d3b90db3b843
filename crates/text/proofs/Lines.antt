-- Laws of `lf_from`: one for each way a turn of the search goes, and for several turns that find nothing.
use Prim.Native.Nat.{ℕ, suc, zero, ◌+◌, ◌-◌, ◌<◌, ◌≤◌}
use mathlib.Core.Path.{◌≡◌, refl, ◌∙◌, ap}
use mathlib.Core.List.{List, [], ◌∷◌}
use native.Mathlib.Omega.{arith}
use native.Mathlib.Nat.{add-zero}
use native.Mathlib.Numerals.{add-one}
use lib.ListN.{length, get_or, take, drop, length-drop, drop_of_length-le}
use lib.Seq.{drop-cons, take_all}
use borrow.Author.Tests.{eq-eqb, ne_eqb, lt-ltb, le-ltb}
use Rattle.words.proofs.Cases.{by_lt, by_eq}
use Rattle.std.specs.Prelude.{Option, Some, None, option_map, position, ◌==◌}
use Rattle.std.specs.List.{position_or_len}
use Rattle.text.specs.Inner.Line.{lf_from, line_end, Ends}
pub use Rattle.text.proofs.Here.{lf_here}

module _ (text : List ℕ) (at : ℕ) where
  pub lf_none : length text ≤ at → lf_from at (drop at text) ≡ None
  unfolding lf_from
  lf_none h = rw (drop_of_length-le text {i = at} h)

  pub lf_next : at < length text → (get_or text at 0 ≡ 10 → ⊥) → lf_from at (drop at text) ≡ lf_from (at + 1) (drop (at + 1) text)
  unfolding lf_from
  lf_next h n = rw (drop-cons text at 0 h, ne_eqb (get_or text at 0) 10 n, add-one at)

-- what is found byte by byte, from the front of the bytes
lf_position : (at : ℕ) (l : List ℕ) → lf_from at l ≡ option_map (λ (k : ℕ). at + k) (position (λ (b : ℕ). b == 10) l)
unfolding lf_from
lf_position at [] = refl
lf_position at (b ∷ l) =
    by_eq b 10
    (λ e. rw (eq-eqb b 10 e, lt-ltb 0 (suc (length l)) (omega arith)) (ap Some (omega arith)))
    (λ n.
    let k = position_or_len (λ (c : ℕ). c == 10) l in
    rw (ne_eqb b 10 n)
    (lf_position (at + 1) l
    ∙ by_lt k (length l)
    (λ h. rw (lt-ltb k (length l) h, lt-ltb (1 + k) (suc (length l)) (omega arith)) (ap Some (omega arith)))
    (λ g. rw (le-ltb k (length l) g, le-ltb (1 + k) (suc (length l)) (omega arith)))))

module _ (text : List ℕ) (at : ℕ) where
  rest : take (length text - at) (drop at text) ≡ drop at text
  rest = take_all (length text - at) (drop at text) (omega (arith, length-drop at text))

  pub lf_found : (r : Option ℕ) (k : ℕ) → r ≡ position (λ (b : ℕ). b == 10) (take (length text - at) (drop at text)) → r ≡ Some k → line_end text at ≡ Some (at + k)
  lf_found r k e f = lf_position at (drop at text) ∙ rw (← rest, ← e, f)

  pub lf_nowhere : (r : Option ℕ) → r ≡ position (λ (b : ℕ). b == 10) (take (length text - at) (drop at text)) → r ≡ None → line_end text at ≡ None
  lf_nowhere r e f = lf_position at (drop at text) ∙ rw (← rest, ← e, f)

-- the search comes past k bytes that are no LF
pub lf_past : (text : List ℕ) (at k : ℕ) → at + k ≤ length text → ((i : ℕ) → i < k → get_or text (at + i) 0 ≡ 10 → ⊥)
    → line_end text at ≡ line_end text (at + k)
lf_past text at zero h n = rw (add-zero at)
lf_past text at (suc k) h n =
    let e : at + k + 1 ≡ at + suc k = omega arith in
    lf_past text at k (omega arith) (λ i l. n i (omega arith))
    ∙ lf_next text (at + k) (omega arith) (n k (omega arith))
    ∙ ap (λ (i : ℕ). line_end text i) e

-- ---- What `line_end` says, for every text and place

module _ (text : List ℕ) where
  ends_next : (from : ℕ) (e : Option ℕ) → (get_or text from 0 ≡ 10 → ⊥) → Ends text (from + 1) e → Ends text from e
  ends_next from (Some k) n f =
      record {
        after = omega (arith, f.after);
        within = f.within;
        here = f.here;
        before = λ i g q. by_eq i from (λ e. rw e n) (λ d. f.before i (omega arith) q);
      }
  ends_next from None n b = λ i g q. by_eq i from (λ e. rw e n) (λ d. b i (omega arith) q)

  ends_none : (from : ℕ) → length text ≤ from → Ends text from (line_end text from)
  ends_none from h = rw (lf_none text from h) (λ i g q. absurd (let z : ⊥ = omega arith in z))

  ends : (room from : ℕ) → length text ≤ from + room → Ends text from (line_end text from)
  ends zero from h = ends_none from (omega arith)
  ends (suc room) from h =
      by_lt from (length text)
      (λ l.
      by_eq (get_or text from 0) 10
      (λ e.
      rw (lf_here text from l e)
      (record {
        after = omega arith;
        within = l;
        here = e;
        before = λ i g q. absurd (let z : ⊥ = omega arith in z);
      }))
      (λ n. rw (lf_next text from l n) (ends_next from (line_end text (from + 1)) n (ends room (from + 1) (omega arith)))))
      (ends_none from)

  pub line_ends : (from : ℕ) → Ends text from (line_end text from)
  line_ends from = ends (length text) from (omega arith)

  -- and nothing else can be said so
  ends_one : (from : ℕ) (e g : Option ℕ) → Ends text from e → Ends text from g → e ≡ g
  ends_one from (Some j) (Some k) f h =
      by_lt j k
      (λ l. absurd (h.before j f.after l f.here))
      (λ l.
      by_lt k j
      (λ m. absurd (f.before k h.after m h.here))
      (λ m. ap (λ (i : ℕ). Some i) (omega arith)))
  ends_one from (Some j) None f h = absurd (h j f.after f.within f.here)
  ends_one from None (Some k) f h = absurd (f k h.after h.within h.here)
  ends_one from None None f h = refl

  pub ends_only : (from : ℕ) (e : Option ℕ) → Ends text from e → e ≡ line_end text from
  ends_only from e h = ends_one from e (line_end text from) h (line_ends from)
