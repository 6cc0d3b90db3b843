-- What reading a text answers, and what it leaves in the table area. Quotations are from the requirements (MANUAL 6.2
-- to 6.4).
use Rattle.std.specs.Prelude.{ℕ, List, cond, length, ltb, Result, Ok, Err}
use Rattle.words.specs.Area.{area_words, ruled}
use Rattle.trace.specs.Table.{table_word}
use Rattle.refusal.specs.declared.Refused.{Refused}
use Rattle.refusal.specs.Refusals.{number_of_refusal}
use Rattle.reader.specs.Verdict.{Verdict, refused, accepted, verdict}

-- the answer of a reading: the number of the refusal, 0 if accepted, and the line that it is for, from 1
pub record ReadAnswer : Type 0 where
  pub number : ℕ
  pub place : ℕ

-- the same of what `read` gives
abbrev pub read_answered : Result Unit Refused → ReadAnswer
read_answered (Ok u) = record { number = 0; place = 0 }
read_answered (Err r) = record { number = number_of_refusal r.refusal; place = r.place }

abbrev pub verdict_answer : Verdict → ReadAnswer
verdict_answer (refused n k) = record { number = n; place = k }
verdict_answer (accepted t) = record { number = 0; place = 0 }

-- "After 1 to 7 the first 16,384 words of the table area are zero"; of 15, "place and table area are as for 1 to 7";
-- accepted: the trace's words
abbrev pub verdict_word : Verdict → ℕ → ℕ
verdict_word (refused n k) i = 0
verdict_word (accepted t) i = table_word t i

-- 12, "a table or run area is under 16,384 words", comes first and changes nothing; words past 16,384 are as they were
unfoldable pub read_answer : List ℕ → List ℕ → ReadAnswer
read_answer text a = cond (ltb (length a) area_words) (record { number = 12; place = 0 }) (verdict_answer (verdict text))

unfoldable pub read_area : List ℕ → List ℕ → List ℕ
read_area text a = cond (ltb (length a) area_words) a (ruled (verdict_word (verdict text)) area_words a)
