-- What a function puts, number by number, is its answer's list of numbers. (A file of their own, for the edits that fit
-- these to another list: what is promised of the answer is in proofs/Giving, which they leave as it is.)
use Prim.Native.Nat.{ℕ}
use mathlib.Core.Path.{◌≡◌, refl}
use mathlib.Core.Bool.{Bool, true, false, cond}
use mir.Val.{bool_byte}
use mathlib.Core.List.{List, [], ◌∷◌, ◌++◌}
use lib.ListN.{replicate}
use Rattle.orders.specs.Answer.{Answered}
use Rattle.messages.specs.Messages.{MessagesAnswer}
use Rattle.refusal.specs.declared.Refused.{Refused}
use Rattle.restart.specs.Restart.{RestartAnswer, restart_answered}
use Rattle.std.specs.Prelude.{Err}
use Rattle.writer.specs.Inner.Puts.{Puts}
use Rattle.writer.proofs.Buffers.{then}
use Rattle.capi.specs.Answers.{messages_numbers, replay_numbers, restart_numbers}

pub restart_put : (r : RestartAnswer) (back : ℕ) (o₀ o₁ o₂ o₃ o₄ : List ℕ) (p₁ p₂ p₃ p₄ : ℕ) → back ≡ r.back
    → Puts (r.place ∷ r.line.count ∷ back ∷ r.going ∷ []) o₀ 0 o₁ p₁ → Puts r.line.epochs o₁ p₁ o₂ p₂ → Puts r.epochs o₂ p₂ o₃ p₃
    → Puts r.phases o₃ p₃ o₄ p₄ → Puts (restart_numbers r) o₀ 0 o₄ p₄
restart_put r back o₀ o₁ o₂ o₃ o₄ p₁ p₂ p₃ p₄ e h₁ h₂ h₃ h₄ =
    let four : List ℕ = r.place ∷ r.line.count ∷ r.back ∷ r.going ∷ [] in
    let g₁ : Puts four o₀ 0 o₁ p₁ = rw (← e) h₁ in
    let g₂ = then four r.line.epochs o₀ o₁ o₂ 0 p₁ p₂ g₁ h₂ in
    let g₃ = then (four ++ r.line.epochs) r.epochs o₀ o₂ o₃ 0 p₂ p₃ g₂ h₃ in
    then (four ++ r.line.epochs ++ r.epochs) r.phases o₀ o₃ o₄ 0 p₃ p₄ g₃ h₄

pub messages_are : (c d : MessagesAnswer) (orphans kept lost : ℕ) → orphans ≡ c.orphans → kept ≡ c.kept → lost ≡ c.lost → c ≡ d
    → (c.place ∷ orphans ∷ kept ∷ lost ∷ []) ≡ messages_numbers d
messages_are c d orphans kept lost a b e h = rw (a, b, e, ← h)

pub replay_is : (r : Answered) (complete : ℕ) → complete ≡ cond r.complete 1 0 → (r.place ∷ r.steps ∷ complete ∷ []) ≡ replay_numbers r
replay_is r complete e = rw e

-- a yes or no as the code turns it into a number
pub byte_is : (b : Bool) → bool_byte b ≡ cond b 1 0
byte_is true = refl
byte_is false = refl

-- a refusal's place, and zeros
pub restart_refused : (e : Refused) → (e.place ∷ replicate 195 0) ≡ restart_numbers (restart_answered (Err e))
restart_refused e = refl
