-- What `messages` answers and leaves: the classes of MANUAL 4.4, each counted and listed if and only if its definition
-- holds. Quotations are from the requirements.
use Rattle.std.specs.Prelude.{ℕ, List, ◌++◌, length, drop, eqb, cond, Result, Ok, Err}
use Rattle.words.specs.Area.{area_words, words_from}
use Rattle.theory.specs.Line.{Run}
use Rattle.theory.specs.Answers.{orphans, kept_ones, lost_ones}
use Rattle.listing.specs.Listing.{list_word}
use Rattle.recovery_line.specs.declared.Line.{Line}
use Rattle.refusal.specs.declared.Refused.{Refused}
use Rattle.refusal.specs.Refusals.{number_of_refusal}
use Rattle.messages.specs.declared.Counted.{Counted}
use Rattle.preparing.specs.Faults.{run_of, line_fault_of}

-- What is answered, refused or not: the number of the refusal, or 0, its place, and how many messages of each class.
pub record MessagesAnswer : Type 0 where
  pub number : ℕ
  pub place : ℕ
  pub orphans : ℕ
  pub kept : ℕ
  pub lost : ℕ

abbrev pub messages_refusal : ℕ → MessagesAnswer
messages_refusal n = record { number = n; place = 0; orphans = 0; kept = 0; lost = 0 }

-- how many orphans, kept and lost messages a run has
abbrev pub counts_of : Run → MessagesAnswer
counts_of R = record { number = 0; place = 0; orphans = length (orphans R); kept = length (kept_ones R); lost = length (lost_ones R) }

unfoldable pub messages_answer : List ℕ → List ℕ → ℕ → ℕ → Line → MessagesAnswer
messages_answer a area step set l =
    cond (eqb (line_fault_of a (length area) step set l) 0) (counts_of (run_of a step l)) (messages_refusal (line_fault_of a (length area) step set l))

unfoldable pub messages_area : List ℕ → List ℕ → ℕ → ℕ → Line → List ℕ
messages_area a area step set l =
    cond (eqb (line_fault_of a (length area) step set l) 0) (words_from (list_word (run_of a step l)) 0 area_words ++ drop area_words area) area

-- the answer that a `Result` of the code stands for: its value, or the refusal's number and place, and 0 for the rest
abbrev pub messages_found : Counted → MessagesAnswer
messages_found c = record { number = 0; place = 0; orphans = c.orphans; kept = c.kept; lost = c.lost }

abbrev pub messages_answered : Result Counted Refused → MessagesAnswer
messages_answered (Ok c) = messages_found c
messages_answered (Err e) = record { number = number_of_refusal e.refusal; place = e.place; orphans = 0; kept = 0; lost = 0 }
