-- Bytes without LF: a rendered line has none, so that the search for LF comes past it. From the texts of lines.
use Prim.Native.Nat.{ℕ, zero, suc, ◌+◌, ◌/◌, ◌%◌}
use mathlib.Core.Path.{◌≡◌, refl, ap, ◌∙◌}
use mathlib.Core.List.{List, [], ◌∷◌, ◌++◌}
use mathlib.Core.Bool.{Bool, true, ◌&&◌, not}
use native.Mathlib.Omega.{arith}
use lib.Dec.{eqb}
use lib.ListN.{length}
use borrow.Author.Tests.{ne_eqb, not-true}
use Rattle.words.proofs.Cases.{by_lt, and_left, and_right, and_both}
use Rattle.text.specs.Number.{last_digits, decimal}
use Rattle.std.specs.Prelude.{Some}
use Rattle.text.specs.Inner.Line.{lf_from}
use Rattle.text.proofs.Numbers.{last_small, last_more}
use Rattle.trace.specs.declared.Event.{Event}
use Rattle.trace.specs.declared.Event.TheVariants.{Send, Recv, Save, Done}
use Rattle.lines.specs.Line.{k_procs}
use Rattle.lines.specs.Render.{render_event}
use Rattle.lines.proofs.Decimal.{last_none}
use Rattle.lines.proofs.OneLine.{failure_text, send_text, recv_text, save_text, done_text}

-- no byte is LF
unfoldable pub plain : List ℕ → Bool
plain [] = true
plain (b ∷ l) = not (eqb b 10) && plain l

-- the first LF behind bytes without one
pub plain_end : (at : ℕ) (l rest : List ℕ) → plain l ≡ true → lf_from at (l ++ 10 ∷ rest) ≡ Some (at + length l)
unfolding lf_from plain
plain_end at [] rest h = ap Some (omega arith)
plain_end at (b ∷ l) rest h =
    rw (not-true (eqb b 10) (and_left (not (eqb b 10)) (plain l) h))
    (plain_end (at + 1) l rest (and_right (not (eqb b 10)) (plain l) h) ∙ ap Some (omega arith))

plain_append : (a b : List ℕ) → plain a ≡ true → plain b ≡ true → plain (a ++ b) ≡ true
unfolding plain
plain_append [] b h k = k
plain_append (x ∷ a) b h k =
    and_both (not (eqb x 10)) (plain (a ++ b)) (and_left (not (eqb x 10)) (plain a) h) (plain_append a b (and_right (not (eqb x 10)) (plain a) h) k)

plain_digit : (d : ℕ) → plain ((48 + d) ∷ []) ≡ true
unfolding plain
plain_digit d = rw (ne_eqb (48 + d) 10 (λ e. omega arith))

plain_last : (room v : ℕ) → plain (last_digits room v) ≡ true
unfolding plain
plain_last zero v = rw last_none
plain_last (suc r) v =
    by_lt v 10
    (λ l. rw (last_small r v l) (plain_digit v))
    (λ g. rw (last_more r v g) (plain_append (last_digits r (v / 10)) ((48 + v % 10) ∷ []) (plain_last r (v / 10)) (plain_digit (v % 10))))

plain_decimal : (v : ℕ) (rest : List ℕ) → plain rest ≡ true → plain (decimal v ++ rest) ≡ true
plain_decimal v rest h = plain_append (decimal v) rest (plain_last 20 v) h

-- the bytes of the keys are seen to be no LF by computation
pub plain_procs : (n : ℕ) → plain (k_procs ++ decimal n) ≡ true
unfolding plain
plain_procs n = plain_last 20 n

pub plain_event : (e : Event) → plain (render_event e) ≡ true
unfolding plain
plain_event (Send a b v) = rw (send_text a b v) (plain_decimal a _ (plain_decimal b _ (plain_decimal v [] refl)))
plain_event (Recv a b) = rw (recv_text a b) (plain_decimal a _ (plain_decimal b [] refl))
plain_event (Save a) = rw (save_text a) (plain_decimal a [] refl)
plain_event (Done a) = rw (done_text a) (plain_decimal a [] refl)

pub plain_failure : (step set : ℕ) → plain (failure_text step set) ≡ true
unfolding plain
plain_failure step set = plain_decimal step _ (plain_decimal set [] refl)
