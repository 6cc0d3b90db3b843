-- What a check answers, as a number, and a refusal that has no place. No contract of a function that users call reaches
-- these.
use Rattle.std.specs.Prelude.{ℕ, Result, Ok, Err}
use Rattle.refusal.specs.declared.Refusal.{Refusal}
use Rattle.refusal.specs.declared.Refused.{Refused}
use Rattle.refusal.specs.Refusals.{number_of_refusal}

-- the number that a check stands for: 0 where nothing is wrong
abbrev pub number_of_check : {A : Type 0} → Result A Refusal → ℕ
number_of_check (Ok v) = 0
number_of_check (Err r) = number_of_refusal r

-- a refusal without a place
abbrev pub at_no_place : Refusal → Refused
at_no_place r = record { refusal = r; place = 0 }
