-- Laws of mapped lists: two put together, and one with an element more, place by place.
use Prim.Native.Nat.{ℕ, zero, suc}
use mathlib.Core.Path.{◌≡◌, refl, ap}
use mathlib.Core.List.{List, [], ◌∷◌, ◌++◌, map}
use lib.ListN.{length, get_or}

pub map_append : {A B : Type 0} (f : A → B) (xs ys : List A) → map f (xs ++ ys) ≡ map f xs ++ map f ys
map_append f [] ys = refl
map_append f (x ∷ xs) ys = ap (λ (r : List _). f x ∷ r) (map_append f xs ys)

-- with one element more: its own place, and the others
module _ {A : Type 0} (f : A → ℕ) where
  pub last_mapped : (xs : List A) (x : A) → get_or (map f (xs ++ x ∷ [])) (length xs) 0 ≡ f x
  last_mapped [] x = refl
  last_mapped (y ∷ xs) x = last_mapped xs x

  pub other_mapped : (xs : List A) (x : A) (i : ℕ) → (i ≡ length xs → ⊥) → get_or (map f (xs ++ x ∷ [])) i 0 ≡ get_or (map f xs) i 0
  other_mapped [] x zero h = absurd (h refl)
  other_mapped [] x (suc i) h = refl
  other_mapped (y ∷ xs) x zero h = refl
  other_mapped (y ∷ xs) x (suc i) h = other_mapped xs x i (λ e. h (ap suc e))
