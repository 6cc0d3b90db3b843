-- The numbers of MANUAL 6.2, once for all promises.
use Rattle.std.specs.Prelude.{ℕ}
use Rattle.refusal.specs.declared.Refusal.{Refusal}
use Rattle.refusal.specs.declared.Refusal.TheVariants.{
  Malformed,
  ProcessCount,
  NoProcess,
  Itself,
  NothingInTransit,
  TooManySaves,
  TooManyEvents,
  Step,
  Set,
  Line,
  Choice,
  ShortArea,
  NoTrace,
  ShortBuffer,
  NothingToFinish,
}

-- the number of each cause
abbrev pub number_of_refusal : Refusal → ℕ
number_of_refusal Malformed = 1
number_of_refusal ProcessCount = 2
number_of_refusal NoProcess = 3
number_of_refusal Itself = 4
number_of_refusal NothingInTransit = 5
number_of_refusal TooManySaves = 6
number_of_refusal TooManyEvents = 7
number_of_refusal Step = 8
number_of_refusal Set = 9
number_of_refusal Line = 10
number_of_refusal Choice = 11
number_of_refusal ShortArea = 12
number_of_refusal NoTrace = 13
number_of_refusal ShortBuffer = 14
number_of_refusal NothingToFinish = 15
