-- The first line: a process count where its key stands, and no other line is one.
use Prim.Native.Nat.{ℕ}
use mathlib.Core.Path.{◌≡◌, refl, sym, ◌∙◌}
use mathlib.Core.List.{List, [], ◌∷◌}
use mathlib.Core.Bool.{Bool, true, false, cond}
use native.Mathlib.Omega.{arith}
use lib.Dec.{eqb}
use lib.ListN.{length}
use borrow.Author.Tests.{eqb-true, ne_eqb}
use Rattle.words.proofs.Cases.{and_left}
use Rattle.std.specs.Prelude.{Option, Some, None}
use Rattle.text.specs.declared.Numeral.{Numeral}
use Rattle.text.specs.Bytes.{bytes_of}
use Rattle.text.specs.Number.{number_at}
use Rattle.text.specs.Key.{key_at, starts_with, field_at}
use Rattle.lines.specs.declared.Line.{Line}
use Rattle.lines.specs.declared.Line.TheVariants.{Procs, Send, Recv, Save, Done, Failure, Malformed}
use Rattle.lines.specs.Line.{k_send, k_to, k_val, k_recv, k_from, k_save, k_done, k_procs, k_fail, k_set, most, most_value, most_set, then_line, when_end, procs_said, send_said, recv_said, process_said, fail_said, line_said}
use Rattle.reader.specs.Inner.Reading.{count_only}

-- two keys that differ in their first byte do not stand in the same place
other_key : (l : List ℕ) (a b : ℕ) (k m : List ℕ) → (a ≡ b → ⊥) → starts_with l (a ∷ k) ≡ true → starts_with l (b ∷ m) ≡ false
unfolding starts_with
other_key [] a b k m n h = refl
other_key (x ∷ l) a b k m n h =
    let e : x ≡ a = eqb-true x a (and_left (eqb x a) (starts_with l k) h) in rw (ne_eqb x b (λ q. n (sym e ∙ q)))

-- a line that is no process count
record NoCount (l : Line) : Type 0 where
  is : count_only l ≡ Malformed

module _ (next : ℕ → ℕ → Line) (h : (v p : ℕ) → NoCount (next v p)) where
  no_count : (n : Option Numeral) → NoCount (then_line n next)
  unfolding count_only
  no_count (Some n) = h n.value n.end
  no_count None = record { is = refl }

no_end : (b : Bool) (l : Line) → NoCount l → NoCount (when_end b l)
unfolding count_only
no_end true l h = h
no_end false l h = record { is = refl }

no_send : (l : List ℕ) → NoCount (send_said l)
unfolding send_said count_only
no_send l =
    no_count _
    (λ a p.
    no_count _
    (λ b q.
    no_count _ (λ v r. no_end (eqb r (length l)) (Send a b v) (record { is = refl })) (field_at l q k_val most_value))
    (field_at l p k_to most))
    (number_at l (length k_send) most)

no_recv : (l : List ℕ) → NoCount (recv_said l)
unfolding recv_said count_only
no_recv l =
    no_count _
    (λ a p. no_count _ (λ b q. no_end (eqb q (length l)) (Recv a b) (record { is = refl })) (field_at l p k_from most))
    (number_at l (length k_recv) most)

no_process : (key : List ℕ) (says : ℕ → Line) → ((a : ℕ) → NoCount (says a)) → (l : List ℕ) → NoCount (process_said key says l)
unfolding process_said
no_process key says h l = no_count _ (λ a p. no_end (eqb p (length l)) (says a) (h a)) (number_at l (length key) most)

no_fail : (l : List ℕ) → NoCount (fail_said l)
unfolding fail_said count_only
no_fail l =
    no_count _
    (λ k p. no_count _ (λ m q. no_end (eqb q (length l)) (Failure k m) (record { is = refl })) (field_at l p k_set most_set))
    (number_at l (length k_fail) most)

end_count : (b : Bool) (n : ℕ) → count_only (when_end b (Procs n)) ≡ when_end b (Procs n)
unfolding count_only
end_count true n = refl
end_count false n = refl

then_count : (l : List ℕ) (n : Option Numeral)
    → count_only (then_line n (λ m p. when_end (eqb p (length l)) (Procs m))) ≡ then_line n (λ m p. when_end (eqb p (length l)) (Procs m))
unfolding count_only
then_count l (Some n) = end_count (eqb n.end (length l)) n.value
then_count l None = refl

count_count : (l : List ℕ) → count_only (procs_said l) ≡ procs_said l
unfolding procs_said
count_count l = then_count l (number_at l (length k_procs) most)

-- a form that is no process count, or the rest
no_form : (b : Bool) (l rest : Line) → NoCount l → NoCount rest → NoCount (cond b l rest)
no_form true l rest h g = h
no_form false l rest h g = g

-- each way out of `first_line`, over the test that the code has
module _ (l : List ℕ) (b : Bool) (e : b ≡ key_at l 0 k_procs) where
  pub first_procs : b ≡ true → procs_said l ≡ count_only (line_said l)
  unfolding line_said
  first_procs t =
      let k : starts_with l k_procs ≡ true = sym e ∙ t in
      rw (other_key l 112 101 _ (bytes_of "v=send at=") (λ q. omega arith) k, other_key l 112 101 _ (bytes_of "v=recv at=") (λ q. omega arith) k, other_key l 112 101 _ (bytes_of "v=save at=") (λ q. omega arith) k, other_key l 112 101 _ (bytes_of "v=done at=") (λ q. omega arith) k, k)
      (sym (count_count l))

  pub first_none : b ≡ false → Malformed ≡ count_only (line_said l)
  unfolding line_said count_only
  first_none t =
      let rest : NoCount (cond (key_at l 0 k_procs) (procs_said l) (cond (key_at l 0 k_fail) (fail_said l) Malformed)) =
      rw (sym e ∙ t) (no_form (key_at l 0 k_fail) _ _ (no_fail l) (record { is = refl })) in
      sym
      (no_form (key_at l 0 k_send) _ _ (no_send l)
      (no_form (key_at l 0 k_recv) _ _ (no_recv l)
      (no_form (key_at l 0 k_save) _ _ (no_process k_save Save (λ a. record { is = refl }) l)
      (no_form (key_at l 0 k_done) _ _ (no_process k_done Done (λ a. record { is = refl }) l) rest)))).is
