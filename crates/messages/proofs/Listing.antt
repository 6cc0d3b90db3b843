-- The list of the messages, from a full table and gates to the run area.
use Prim.Native.Nat.{ℕ, ◌+◌, ◌<◌, ◌≤◌}
use mathlib.Core.Path.{◌≡◌, refl, sym, ap, ◌∙◌}
use mathlib.Core.Logic.{◌↔◌}
use mathlib.Core.List.{List, ◌++◌}
use native.Mathlib.Omega.{arith}
use lib.ListN.{length, get_or, take, drop, replicate, get_or-append}
use lib.Seq.{length-take-le}
use borrow.Author.Tests.{ne_eqb}
use Rattle.words.specs.Area.{area_words, words_from}
use Rattle.words.proofs.Area.{length_words, words_at_lem}
use Rattle.theory.specs.Line.{Run}
use Rattle.theory.specs.Answers.{orphans, kept_ones, lost_ones}
use Rattle.theory.specs.Inner.Laws.{Laws}
use Rattle.listing.specs.Listing.{list_word}
use Rattle.listing.proofs.Whole.{rows_few}
use Rattle.recovery_line.specs.declared.Line.{Line}
use Rattle.columns.specs.Inner.Given.{Given}
use Rattle.std.specs.Prelude.{Result, Ok, Err}
use Rattle.refusal.specs.declared.Refused.{Refused}
use Rattle.refusal.proofs.Refusals.{no_number_0}
use Rattle.preparing.specs.Faults.{run_of, line_fault_of}
use Rattle.messages.specs.declared.Counted.{Counted}
use Rattle.messages.specs.Messages.{counts_of, MessagesAnswer, messages_refusal, messages_answer, messages_area, messages_answered}
use Rattle.messages.specs.Meaning.{Lists}
use Rattle.messages.specs.Inner.Promise.{MessagesPromise}
use Rattle.messages.proofs.Meaning.{lists_mean}

-- ---- Words that are cleared

-- an area whose first 16,384 words were cleared
pub front : (area z : List ℕ) → area_words ≤ length area → z ≡ replicate (length (take area_words area)) 0 → z ≡ replicate area_words 0
front area z n q = q ∙ ap (λ (k : ℕ). replicate k 0) (length-take-le area_words area n)

-- ---- The list

module _ (R : Run) (cut : ℕ) (full gates : List ℕ) (G : Given R cut full gates) (w : List ℕ) (e : w ≡ words_from (list_word R) 0 area_words) where
  word_is : (k : ℕ) → k < 16384 → get_or w k 0 ≡ list_word R k
  word_is k h = ap (λ (x : List ℕ). get_or x k 0) e ∙ words_at_lem (list_word R) 16384 k h

  -- the counts, as they stand in the list
  pub counted : record { number = 0; place = 0; orphans = get_or w 0 0; kept = get_or w 1 0; lost = get_or w 2 0 } ≡ counts_of R
  unfolding list_word
  counted = rw (word_is 0 (omega arith), word_is 1 (omega arith), word_is 2 (omega arith))

  pub few_counted : get_or w 0 0 + (get_or w 1 0 + get_or w 2 0) ≤ 2048
  unfolding list_word
  few_counted = rw (word_is 0 (omega arith), word_is 1 (omega arith), word_is 2 (omega arith)) (rows_few R cut full gates G)

module _ (a area : List ℕ) (step set : ℕ) (l : Line) where
  -- what the contract promises, of the answer that a result stands for
  abbrev pub Listed : MessagesAnswer → List ℕ → Type 0
  Listed r w =
      (r ≡ messages_answer a area step set l)
      × ((w ≡ messages_area a area step set l)
      × ((r.orphans + (r.kept + r.lost) ≤ 2048) × (r.number ≡ 0 → Lists (run_of a step l) r.orphans r.kept r.lost w)))

  pub listed : (x : Result Counted Refused) (w : List ℕ) → MessagesPromise a area step set l x w ↔ Listed (messages_answered x) w
  listed (Ok c) w = (
    λ p. (p.answer, (p.words, (omega (arith, p.few), λ _. p.means))),
    λ q. record { answer = q.0; words = q.1.0; few = omega (arith, q.1.1.0); means = q.1.1.1 refl },
  )
  listed (Err e) w = (
    λ p. (p.answer, (p.words, (omega arith, λ h. absurd (no_number_0 e.refusal h)))),
    λ q. record { answer = q.0; words = q.1.0; few = tt; means = tt },
  )

  -- a refusal leaves the area as it was
  pub refuses_messages : (n : ℕ) (r : MessagesAnswer) → n ≡ line_fault_of a (length area) step set l → (n ≡ 0 → ⊥) → r ≡ messages_refusal n → Listed r area
  unfolding messages_answer messages_area
  refuses_messages n r f z e =
      (e ∙ rw (← f, ne_eqb n 0 z), (rw (← f, ne_eqb n 0 z), (rw e (omega arith), λ h. absurd (z (sym (ap (λ (x : MessagesAnswer). x.number) e) ∙ h)))))

  -- the words of the list, in the area
  listed_front : (w : List ℕ) → w ≡ words_from (list_word (run_of a step l)) 0 area_words
      → (k : ℕ) → k < 16384 → get_or (w ++ drop area_words area) k 0 ≡ list_word (run_of a step l) k
  listed_front w e k h =
      let g = list_word (run_of a step l) in
      ap (λ (x : List ℕ). get_or (x ++ drop 16384 area) k 0) e ∙ get_or-append (words_from g 0 16384) (drop 16384 area) 0 k (rw (length_words g 0 16384) h)
      ∙ words_at_lem g 16384 k h

  pub lists : Laws (run_of a step l) → (r : MessagesAnswer) (w : List ℕ) → 0 ≡ line_fault_of a (length area) step set l → r ≡ counts_of (run_of a step l)
      → w ≡ words_from (list_word (run_of a step l)) 0 area_words → r.orphans + (r.kept + r.lost) ≤ 2048 → Listed r (w ++ drop area_words area)
  unfolding messages_answer messages_area
  lists L r w f e q few =
      let R = run_of a step l in
      let room : length (orphans R) + (length (kept_ones R) + length (lost_ones R)) ≤ 2048 = rw e at few in
      (e ∙ rw (← f), (ap (λ (x : List ℕ). x ++ drop 16384 area) q ∙ rw (← f), (few, λ _. rw e (lists_mean R L (w ++ drop 16384 area) (listed_front w q) room))))

  -- what `messages` answers and leaves where nothing is wrong
  module _ (ok : line_fault_of a (length area) step set l ≡ 0) where
    pub counts_are : (c : MessagesAnswer) → c ≡ messages_answer a area step set l → c ≡ counts_of (run_of a step l)
    unfolding messages_answer
    counts_are c e = e ∙ rw ok

    pub listed_at : (w : List ℕ) → w ≡ messages_area a area step set l → (k : ℕ) → k < 16384 → get_or w k 0 ≡ list_word (run_of a step l) k
    unfolding messages_area
    listed_at w e k h =
        let g = list_word (run_of a step l) in
        let q : w ≡ words_from g 0 16384 ++ drop 16384 area = e ∙ rw ok in
        ap (λ (x : List ℕ). get_or x k 0) q ∙ listed_front (words_from g 0 16384) refl k h
