-- What reading promises, of the numbers in the slice.
use Prim.Native.Nat.{ℕ}
use native.Mathlib.Omega.{arith}
use mathlib.Core.Path.{◌≡◌, sym, ◌∙◌}
use mathlib.Core.List.{List, [], ◌∷◌}
use Rattle.reader.specs.Answer.{ReadAnswer}
use Rattle.reader.specs.Failure.{FailureAnswer}
use Rattle.reader.specs.Meaning.{ReadRefuses, FailureTold, FailureRefuses}
use Rattle.writer.specs.Buffer.{room, written}
use Rattle.capi.specs.Answers.{read_numbers, failure_numbers}
use Rattle.capi.specs.Reads.{ReadRefusesIn, FailureToldIn, FailureRefusesIn}

-- a slice that begins with some numbers has those that were written
one_is : (p : ℕ) (before : List ℕ) (q : ℕ) (rest : List ℕ) → q ∷ rest ≡ written (p ∷ []) before → q ≡ p
unfolding written room
one_is p [] q rest h = absurd (let z : ◌≡◌ {A = ℕ} 0 1 = cc in omega arith)
one_is p (x ∷ bs) q rest h = cc

three_are : (a b c : ℕ) (before : List ℕ) (p q r : ℕ) (rest : List ℕ) → p ∷ q ∷ r ∷ rest ≡ written (a ∷ b ∷ c ∷ []) before → (p ≡ a) × (q ≡ b) × (r ≡ c)
unfolding written room
three_are a b c [] p q r rest h = absurd (let z : ◌≡◌ {A = ℕ} 0 1 = cc in let w : ⊥ = omega arith in w)
three_are a b c (x ∷ []) p q r rest h = absurd (let z : ◌≡◌ {A = ℕ} 0 1 = cc in let w : ⊥ = omega arith in w)
three_are a b c (x ∷ y ∷ []) p q r rest h = absurd (let z : ◌≡◌ {A = ℕ} 0 1 = cc in let w : ⊥ = omega arith in w)
three_are a b c (x ∷ y ∷ z ∷ bs) p q r rest h = (cc, cc, cc)

pub read_in : (text : List ℕ) (size : ℕ) (r : ReadAnswer) (before answer : List ℕ) → answer ≡ written (read_numbers r) before → ReadRefuses text size r
    → ReadRefusesIn text size r.number answer
read_in text size r before answer w h place rest e = let q = one_is r.place before place rest (sym e ∙ w) in rw q h

module _ (text : List ℕ) (r : FailureAnswer) (before answer : List ℕ) (w : answer ≡ written (failure_numbers r) before) where
  pub failure_told_in : FailureTold text r → FailureToldIn text r.number answer
  failure_told_in h place step set rest e =
      let (p, s, m) = three_are r.place r.step r.set before place step set rest (sym e ∙ w) in rw (s, m) h

  pub failure_refuses_in : (size : ℕ) → FailureRefuses text size r → FailureRefusesIn text size r.number answer
  failure_refuses_in size h place step set rest e =
      let (p, s, m) = three_are r.place r.step r.set before place step set rest (sym e ∙ w) in rw (p, s, m) h
