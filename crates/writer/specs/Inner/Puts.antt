-- Items laid down one after another, from any place of a buffer on: bytes, or numbers.
use Rattle.std.specs.Prelude.{ℕ, ◌+◌, ◌≡◌, cond, List, [], ◌∷◌, ltb, length, set}

-- a buffer, and the place of the next item
pub record Laid (A : Type 0) : Type 0 where
  pub bytes : List A
  pub next : ℕ

module _ {A : Type 0} where
  unfoldable pub put_one : A → Laid A → Laid A
  put_one b s = cond (ltb s.next (length s.bytes)) (record { bytes = set s.bytes s.next b; next = s.next + 1 }) s

  unfoldable pub puts : List A → Laid A → Laid A
  puts [] s = s
  puts (b ∷ bs) s = puts bs (put_one b s)

  -- these items, from a place of a buffer on, leave that buffer and that next place
  pub record Puts (bs before : List A) (at : ℕ) (after : List A) (next : ℕ) : Type 0 where
    pub is : record { bytes = after; next = next } ≡ puts bs (record { bytes = before; next = at })
