-- Where a line ends: "Lines end with LF (byte 10)" (the requirements; MANUAL 2.1).
use Rattle.std.specs.Prelude.{ℕ, ◌+◌, ◌<◌, ◌≤◌, ◌≡◌, List, [], ◌∷◌, cond, length, get_or, drop, eqb, Option, Some, None}

-- the first LF of the bytes, whose own first byte stands at a place
unfoldable pub lf_from : ℕ → List ℕ → Option ℕ
lf_from at [] = None
lf_from at (b ∷ bs) = cond (eqb b 10) (Some at) (lf_from (at + 1) bs)

-- the first LF of a text at or after a place
abbrev pub line_end : List ℕ → ℕ → Option ℕ
line_end text at = lf_from at (drop at text)

-- what `line_end` says of a text from a place on ("the search finds the first LF or that there is none"): LF stands at
-- place k and, from the start on, nowhere before it; or nowhere at all. By claim `line_ends` it says so, and by
-- `ends_only` nothing else does.
pub record FirstAt (text : List ℕ) (from k : ℕ) : Type 0 where
  pub after : from ≤ k
  pub within : k < length text
  pub here : get_or text k 0 ≡ 10
  pub before : (i : ℕ) → from ≤ i → i < k → get_or text i 0 ≡ 10 → ⊥

abbrev pub Ends : List ℕ → ℕ → Option ℕ → Type 0
Ends text from (Some k) = FirstAt text from k
Ends text from None = (i : ℕ) → from ≤ i → i < length text → get_or text i 0 ≡ 10 → ⊥
