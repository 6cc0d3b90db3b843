-- No refusal has the number 0.
use Rattle.std.proofs.Common.{◌≡◌, arith, ap, Result, Ok, Err}
use Rattle.std.specs.Result.{IsErrAnd}
use Rattle.refusal.specs.declared.Refused.{Refused}
use Rattle.refusal.specs.declared.Refusal.{Refusal}
use Rattle.refusal.specs.declared.Refusal.TheVariants.{
  Malformed,
  ProcessCount,
  NoProcess,
  Itself,
  NothingInTransit,
  TooManySaves,
  TooManyEvents,
  Step,
  Set,
  Line,
  Choice,
  ShortArea,
  NoTrace,
  ShortBuffer,
  NothingToFinish,
}
use Rattle.refusal.specs.Refusals.{number_of_refusal}
use Rattle.refusal.specs.Inner.Checks.{number_of_check, at_no_place}

pub no_number_0 : (r : Refusal) → number_of_refusal r ≡ 0 → ⊥
no_number_0 Malformed h = omega arith
no_number_0 ProcessCount h = omega arith
no_number_0 NoProcess h = omega arith
no_number_0 Itself h = omega arith
no_number_0 NothingInTransit h = omega arith
no_number_0 TooManySaves h = omega arith
no_number_0 TooManyEvents h = omega arith
no_number_0 Step h = omega arith
no_number_0 Set h = omega arith
no_number_0 Line h = omega arith
no_number_0 Choice h = omega arith
no_number_0 ShortArea h = omega arith
no_number_0 NoTrace h = omega arith
no_number_0 ShortBuffer h = omega arith
no_number_0 NothingToFinish h = omega arith

-- what the exit of a `?` gives: a refusal is handed on, or gets no place
module _ {A : Type 0} where
  pub handed_on : (r : Result A Refusal) (e : Refusal) → IsErrAnd r (λ x. x ≡ e) → number_of_check r ≡ number_of_refusal e
  handed_on (Ok v) e h = absurd h
  handed_on (Err x) e h = ap number_of_refusal h

  pub placeless : (r : Result A Refused) (e : Refusal) → IsErrAnd r (λ x. x ≡ at_no_place e) → r ≡ Err (at_no_place e)
  placeless (Ok v) e h = absurd h
  placeless (Err x) e h = ap Err h
