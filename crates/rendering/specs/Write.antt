-- What writing the trace of a table area answers, and what it leaves in the byte buffer (MANUAL 7.3; quotations are
-- from the requirements): "From a table area we need the text, in a lent byte buffer, and its length in the answer".
use Rattle.std.specs.Prelude.{ℕ, not, cond, List, ◌++◌, length, drop, ltb, eqb, Result, Ok, Err}
use Rattle.words.specs.Area.{area_words}
use Rattle.reader.specs.Render.{render}
use Rattle.table.specs.Held.{held, holds_trace}
use Rattle.refusal.specs.Refusals.{number_of_refusal}
use Rattle.refusal.specs.declared.Refused.{Refused}

-- an answer: the number of the refusal, 0 if accepted; a place, which is always 0; and how many bytes the text has,
-- 0 in a refusal
pub record WriteAnswer : Type 0 where
  pub number : ℕ
  pub place : ℕ
  pub length : ℕ

-- what the function answers, as these numbers
abbrev pub write_answered : Result ℕ Refused → WriteAnswer
write_answered (Ok n) = record { number = 0; place = 0; length = n }
write_answered (Err e) = record { number = number_of_refusal e.refusal; place = e.place; length = 0 }

-- the text of the trace that a table area holds
unfoldable pub text_of : List ℕ → List ℕ
text_of a = render (held a)

-- what is wrong with a table area, and with a buffer of n bytes: 12, 13, "14 when the byte buffer is shorter than the
-- text, checked after 13", or 0
unfoldable pub write_fault : List ℕ → ℕ → ℕ
write_fault a n = cond (ltb (length a) area_words) 12 (cond (not (holds_trace a)) 13 (cond (ltb n (length (text_of a))) 14 0))

-- "its length in the answer"; "In a refused answer every other number is 0"
unfoldable pub write_answer : List ℕ → ℕ → WriteAnswer
write_answer a n = record { number = write_fault a n; place = 0; length = cond (eqb (write_fault a n) 0) (length (text_of a)) 0 }

-- the buffer afterwards: "Bytes past the text stay untouched"; 14 "changes nothing", nor does any other refusal
unfoldable pub write_buffer : List ℕ → List ℕ → List ℕ
write_buffer a out = cond (eqb (write_fault a (length out)) 0) (text_of a ++ drop (length (text_of a)) out) out

-- a buffer of so many bytes holds every text
abbrev pub text_bytes : ℕ
text_bytes = 131072
