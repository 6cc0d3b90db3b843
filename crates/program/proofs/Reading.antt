-- What was read of an input, and what a buffer of a byte more than a limit tells of it.
use Prim.Native.Nat.{ℕ, ◌+◌, ◌<◌, ◌≤◌}
use mathlib.Core.Path.{◌≡◌, sym, ap, ◌∙◌}
use mathlib.Core.List.{List, ◌++◌}
use native.Mathlib.Omega.{arith}
use native.Mathlib.Nat.{min-le_right}
use lib.ListN.{length, take, length-take}
use lib.Seq.{take_all, length-take-le, take-append_seam}
use Rattle.words.proofs.Cases.{by_lt}
use Rattle.program.specs.Program.{ReadFrom}

-- ---- What `ReadFrom` speaks of: every input, and whatever a buffer holds

-- the first m bytes of an input, or all where there are fewer, at the front of a buffer of m bytes
pub any_input : (input rest : List ℕ) (m : ℕ) → length (take m input ++ rest) ≡ m → ReadFrom input (take m input ++ rest) (length (take m input))
any_input input rest m h = take-append_seam (take m input) rest ∙ ap (λ (k : ℕ). take k input) (sym h)

-- of some input they always are the first: of themselves
pub own_input : (buffer : List ℕ) (count : ℕ) → ReadFrom (take count buffer) buffer count
own_input buffer count =
    sym (take_all (length buffer) (take count buffer) (omega (arith, length-take count buffer, min-le_right count (length buffer))))

-- ---- What a buffer of a byte more than a limit tells

module _ (input buffer : List ℕ) (count most : ℕ) (longer : length buffer ≡ most + 1) (read : ReadFrom input buffer count) where
  -- the buffer is full: the input is longer than the limit
  pub too_long : most < count → most < length input
  too_long h =
      by_lt most (length input) (λ l. l)
      (λ short.
      let same : buffer ≡ input = sym (take_all count buffer (omega arith)) ∙ read ∙ take_all (length buffer) input (omega arith) in
      let n = ap length same in
      omega arith)

  -- it is not: the whole input was read
  pub whole_read : count ≤ most → take count buffer ≡ input
  whole_read h =
      by_lt (length input) (length buffer) (λ l. read ∙ take_all (length buffer) input (omega arith))
      (λ long.
      let e = sym (length-take-le count buffer (omega arith)) ∙ ap length read ∙ length-take-le (length buffer) input long in
      absurd (let z : ⊥ = omega arith in z))
