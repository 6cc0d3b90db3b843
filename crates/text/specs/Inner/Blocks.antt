-- Several bytes looked at together, as one number. No contract of a function that users call cites these. Quotations
-- are from the requirements.
use Rattle.std.specs.Prelude.{ℕ, suc, zero, ◌+◌, ◌*◌, ◌/◌, ◌%◌, ◌^◌, ◌<◌, ◌≡◌, List, [], ◌∷◌, cond, eqb}

-- the first k bytes as one number, the first of them lowest ("eight bytes into one 64-bit number")
unfoldable pub packed : ℕ → List ℕ → ℕ
packed zero bs = 0
packed (suc k) [] = 0
packed (suc k) (b ∷ bs) = b + 256 * packed k bs

-- byte i of a number, the lowest being byte 0
unfoldable pub byte_of : ℕ → ℕ → ℕ
byte_of w i = w / 256 ^ i % 256

-- one of the k lowest bytes of a number is LF ("exactly when one of the eight is LF")
abbrev pub AnyLf : ℕ → ℕ → Type 0
AnyLf k w = (i : ℕ) × (i < k) × (byte_of w i ≡ 10)

-- byte i is the first LF of the k lowest bytes of a number
pub record FirstLf (k w i : ℕ) : Type 0 where
  pub within : i < k
  pub here : byte_of w i ≡ 10
  pub before : (j : ℕ) → j < i → byte_of w j ≡ 10 → ⊥

-- of the k lowest bytes of a number, 128 for each that is LF and 0 for each other, in its place
unfoldable pub marks : ℕ → ℕ → ℕ
marks zero w = 0
marks (suc k) w = cond (eqb (w % 256) 10) 128 0 + 256 * marks k (w / 256)
