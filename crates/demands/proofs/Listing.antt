-- What `messages` answers and leaves, by its definitions: the promises of its contract.
use Prim.Native.Nat.{ℕ, ◌+◌, ◌≤◌}
use mathlib.Core.Path.{◌≡◌, refl, sym, subst, ◌∙◌}
use mathlib.Core.List.{List, ◌++◌}
use native.Mathlib.Omega.{arith}
use lib.ListN.{length, drop}
use borrow.Author.Tests.{ne_eqb}
use Rattle.words.specs.Area.{area_words, words_from}
use Rattle.words.proofs.Cases.{by_eq}
use Rattle.table.specs.Held.{held}
use Rattle.theory.specs.Epochs.{rule_of}
use Rattle.theory.specs.Line.{Run}
use Rattle.theory.specs.Answers.{orphans, kept_ones, lost_ones}
use Rattle.theory.specs.Inner.Laws.{Laws}
use Rattle.theory.proofs.Epochs.{laws}
use Rattle.protocol.proofs.Passes.{held_valid, held_few}
use Rattle.recovery_line.specs.declared.Line.{Line}
use Rattle.recovery_line.specs.Given.{line_in}
use Rattle.listing.specs.Listing.{list_word}
use Rattle.preparing.specs.Faults.{run_of, line_fault_of}
use Rattle.messages.specs.Messages.{counts_of, messages_refusal, messages_answer, messages_area}
use Rattle.messages.proofs.Listing.{Listed, refuses_messages, lists}
use Rattle.demands.proofs.Numbers.{left_iff, line_accepts, messages_number}
use Rattle.demands.proofs.Few.{messages_few}

module _ (a area : List ℕ) (step set : ℕ) (l : Line) where
  abbrev R : Run
  R = run_of a step l

  abbrev fault : ℕ
  fault = line_fault_of a (length area) step set l

  counts_fit : fault ≡ 0 → messages_answer a area step set l ≡ counts_of R
  unfolding messages_answer
  counts_fit z = rw z

  area_fit : fault ≡ 0 → messages_area a area step set l ≡ words_from (list_word R) 0 area_words ++ drop area_words area
  unfolding messages_area
  area_fit z = rw z

  counts_unfit : (fault ≡ 0 → ⊥) → messages_answer a area step set l ≡ messages_refusal fault
  unfolding messages_answer
  counts_unfit z = rw (ne_eqb fault 0 z)

  area_unfit : (fault ≡ 0 → ⊥) → messages_area a area step set l ≡ area
  unfolding messages_area
  area_unfit z = rw (ne_eqb fault 0 z)

  -- what the contract of `messages` promises, of the definitions and for every input
  pub messages_promised : Listed a area step set l (messages_answer a area step set l) (messages_area a area step set l)
  messages_promised = by_eq fault 0
      (λ z.
      let F = (line_accepts a (length area) step set l).0 z in
      let h = (left_iff a).1 F.0.0 in
      let L : Laws R = laws (held a) (rule_of (held a)) (held_valid a h) step (line_in l) F.1.failure.step_most in
      let few : length (orphans R) + (length (kept_ones R) + length (lost_ones R)) ≤ 2048 = omega (arith, messages_few R L, held_few a h) in
      let room : (messages_answer a area step set l).orphans + ((messages_answer a area step set l).kept + (messages_answer a area step set l).lost) ≤ 2048 = rw (counts_fit z) few in
      subst (Listed a area step set l (messages_answer a area step set l)) (sym (area_fit z))
      (lists a area step set l L (messages_answer a area step set l) (words_from (list_word R) 0 area_words) (sym z) (counts_fit z) refl room))
      (λ z. subst (Listed a area step set l (messages_answer a area step set l)) (sym (area_unfit z))
      (refuses_messages a area step set l fault (messages_answer a area step set l) refl z (counts_unfit z)))

  pub counts_are : (messages_answer a area step set l).number ≡ 0 → messages_answer a area step set l ≡ counts_of R
  counts_are h = counts_fit (sym (messages_number a area step set l) ∙ h)
