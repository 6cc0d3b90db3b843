-- Small tools: numbers in a row, what a test keeps or counts of them, sums, one place of a function
-- changed.
use Rattle.std.specs.Prelude.{Bool, true, ◌&&◌, not, cond, List, [], ◌∷◌, ℕ, zero, suc, ◌+◌, eqb}
use Rattle.std.proofs.Math.Option.{Option, none, some}

-- the numbers x + 1 .. x + d, ascending
unfoldable pub iv : ℕ → ℕ → List ℕ
iv x zero = []
iv x (suc d) = suc x ∷ iv (suc x) d

-- the numbers of a list that pass a test
unfoldable pub keep : (ℕ → Bool) → List ℕ → List ℕ
keep f [] = []
keep f (x ∷ xs) = cond (f x) (x ∷ keep f xs) (keep f xs)

-- how many of 1 .. x pass a test
unfoldable pub cnt : (ℕ → Bool) → ℕ → ℕ
cnt f zero = zero
cnt f (suc x) = cond (f (suc x)) (suc (cnt f x)) (cnt f x)

-- the k-th of 1 .. x that passes a test; 0 where there is none
unfoldable pub place : (ℕ → Bool) → ℕ → ℕ → ℕ
place f k zero = 0
place f k (suc x) = cond (f (suc x) && eqb (cnt f (suc x)) k) (suc x) (place f k x)

-- the last of 1 .. x that passes a test; 0 where there is none
unfoldable pub last_of : (ℕ → Bool) → ℕ → ℕ
last_of f zero = 0
last_of f (suc x) = cond (f (suc x)) (suc x) (last_of f x)

-- does no number of a list pass a test; do all numbers below n
unfoldable pub no_one : (ℕ → Bool) → List ℕ → Bool
no_one f [] = true
no_one f (x ∷ xs) = not (f x) && no_one f xs

unfoldable pub all_below : ℕ → (ℕ → Bool) → Bool
all_below zero f = true
all_below (suc n) f = f n && all_below n f

-- f 0 + .. + f (n - 1)
unfoldable pub sum : ℕ → (ℕ → ℕ) → ℕ
sum zero f = 0
sum (suc n) f = f n + sum n f

-- what f makes of the value that is there, or else b
abbrev pub if_some : {A B : Type 0} → Option A → B → (A → B) → B
if_some none b f = b
if_some (some a) b f = f a

-- the first of two that is there; the first of f 0 .. f (n - 1) that is there
abbrev pub or_else : {A : Type 0} → Option A → Option A → Option A
or_else none b = b
or_else (some a) b = some a

unfoldable pub first : {A : Type 0} → (ℕ → Option A) → ℕ → Option A
first f zero = none
first f (suc n) = or_else (first f n) (f n)

-- a function with another value at one place; at one pair of places; at one triple
abbrev pub put {ℓ} : {A : Type ℓ} → (ℕ → A) → ℕ → A → ℕ → A
put f z v x = cond (eqb x z) v (f x)

abbrev pub put2 {ℓ} : {A : Type ℓ} → (ℕ → ℕ → A) → ℕ → ℕ → A → ℕ → ℕ → A
put2 f p q v x y = cond (eqb x p && eqb y q) v (f x y)

abbrev pub put3 {ℓ} : {A : Type ℓ} → (ℕ → ℕ → ℕ → A) → ℕ → ℕ → ℕ → A → ℕ → ℕ → ℕ → A
put3 f p q k v x y j = cond (eqb x p && (eqb y q && eqb j k)) v (f x y j)
