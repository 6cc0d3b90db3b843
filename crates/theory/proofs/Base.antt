-- Laws of the tools of specs/Lists: lists of numbers, intervals, counts, sums, bounded search. From nothing.
use mathlib.Core.Path.{◌≡◌, refl, sym, ◌∙◌, ap}
use mathlib.Core.Logic.{◌⊎◌, inl, inr, ◌≢◌}
use mathlib.Core.Bool.{Bool, true, false, ◌&&◌, ◌||◌, not}
use mathlib.Core.List.{List, [], ◌∷◌, ◌++◌, map}
use mathlib.Core.Option.{Option, none, some, none-ne-some}
use Prim.Native.Nat.{ℕ, zero, suc, ◌+◌, ◌-◌, ◌≤◌, ◌<◌}
use native.Mathlib.Omega.{arith}
use lib.ListN.{length}
use lib.Dec.{leb, ltb, eqb}
use borrow.Author.Tests.{leb-true, leb-false, ltb-true, eqb-true, eqb-false, lt-ltb, le-ltb, le-leb, eq-eqb, ne_eqb}
use Rattle.theory.specs.Lists.{iv, keep, cnt, place, last_of, no_one, all_below, sum, or_else, first}
use Rattle.theory.specs.Inner.Lists.{has}
use Rattle.theory.specs.Inner.Flow.{Each}
pub use Rattle.words.proofs.Cases.{by_bool as by, clash, same_bool}

-- ---- Cases

unfoldable pub on {ℓ} : {A B : Type 0} {C : Type ℓ} → A ⊎ B → (A → C) → (B → C) → C
on (inl a) f g = f a
on (inr b) f g = g b

unfoldable pub le? : (a b : ℕ) → (a ≤ b) ⊎ (b < a)
le? a b = by (leb a b) (λ e. inl (leb-true a b e)) (λ e. inr (leb-false a b e))

pub both : (a b : Bool) → (a && b) ≡ true → (a ≡ true) × (b ≡ true)
both true b e = (refl, e)
both false b e = clash {b = true} refl (sym e)

pub same2 : (a b c d : ℕ) → (eqb a b && eqb c d) ≡ true → (a ≡ b) × (c ≡ d)
same2 a b c d e = let r = both (eqb a b) (eqb c d) e in (eqb-true a b r.0, eqb-true c d r.1)

pub eqb_self : (a : ℕ) → eqb a a ≡ true
eqb_self a = eq-eqb a a refl

pub or_right : (a b : Bool) → b ≡ true → (a || b) ≡ true
or_right true b h = refl
or_right false b h = h

pub false_or : (a b : Bool) → (a || b) ≡ false → a ≡ false
false_or true b e = e
false_or false b e = refl

-- ---- Lists and intervals

pub keep_append : (f : ℕ → Bool) (xs ys : List ℕ) → keep f (xs ++ ys) ≡ keep f xs ++ keep f ys
unfolding keep
keep_append f [] ys = refl
keep_append f (x ∷ xs) ys =
    by (f x) (λ e. rw e (ap (λ r. x ∷ r) (keep_append f xs ys))) (λ e. rw e (keep_append f xs ys))

pub keep_keep : (f g : ℕ → Bool) (l : List ℕ) → keep f (keep g l) ≡ keep (λ x. g x && f x) l
unfolding keep
keep_keep f g [] = refl
keep_keep f g (x ∷ xs) =
    by (g x) (λ e. rw e (by (f x) (λ e'. rw e' (ap (λ r. x ∷ r) (keep_keep f g xs))) (λ e'. rw e' (keep_keep f g xs)))) (λ e. rw e (keep_keep f g xs))

pub keep_length : (f : ℕ → Bool) (l : List ℕ) → length (keep f l) ≤ length l
unfolding keep
keep_length f [] = omega arith
keep_length f (x ∷ xs) =
    let ih = keep_length f xs in
    by (f x) (λ e. rw e (omega arith)) (λ e. rw e (omega arith))

pub length_iv : (x d : ℕ) → length (iv x d) ≡ d
unfolding iv
length_iv x zero = refl
length_iv x (suc d) = ap suc (length_iv (suc x) d)

pub iv_append : (x a b : ℕ) → iv x (a + b) ≡ iv x a ++ iv (x + a) b
unfolding iv
iv_append x zero b = let h : zero + b ≡ b = omega arith in let k : x + zero ≡ x = omega arith in rw (h, k)
iv_append x (suc a) b =
    let h : suc a + b ≡ suc (a + b) = omega arith in
    let k : x + suc a ≡ suc x + a = omega arith in
    rw (h, k) (ap (λ r. suc x ∷ r) (iv_append (suc x) a b))

pub iv_split : (x a b : ℕ) → a ≤ b → iv x b ≡ iv x a ++ iv (x + a) (b - a)
iv_split x a b h = let e : b ≡ a + (b - a) = omega arith in ap (iv x) e ∙ iv_append x a (b - a)

pub keep_iv_cong : (f g : ℕ → Bool) (x d : ℕ) → ((y : ℕ) → x < y → y ≤ x + d → f y ≡ g y) → keep f (iv x d) ≡ keep g (iv x d)
unfolding iv keep
keep_iv_cong f g x zero h = refl
keep_iv_cong f g x (suc d) h =
    let ih = keep_iv_cong f g (suc x) d (λ y a b. h y (omega arith) (omega arith)) in
    rw (h (suc x) (omega arith) (omega arith), ih)

pub keep_iv_all : (f : ℕ → Bool) (x d : ℕ) → ((y : ℕ) → x < y → y ≤ x + d → f y ≡ true) → keep f (iv x d) ≡ iv x d
unfolding iv keep
keep_iv_all f x zero h = refl
keep_iv_all f x (suc d) h =
    let ih = keep_iv_all f (suc x) d (λ y a b. h y (omega arith) (omega arith)) in
    rw (h (suc x) (omega arith) (omega arith), ih)

pub keep_iv_none : (f : ℕ → Bool) (x d : ℕ) → ((y : ℕ) → x < y → y ≤ x + d → f y ≡ false) → keep f (iv x d) ≡ []
unfolding iv keep
keep_iv_none f x zero h = refl
keep_iv_none f x (suc d) h =
    let ih = keep_iv_none f (suc x) d (λ y a b. h y (omega arith) (omega arith)) in
    rw (h (suc x) (omega arith) (omega arith), ih)

-- of 1 .. d, those above a
pub keep_above : (a d : ℕ) → keep (λ y. ltb a y) (iv 0 d) ≡ iv a (d - a)
unfolding iv
keep_above a d = on (le? a d) (λ h. let e : d ≡ a + (d - a) = omega arith in
    let e' : 0 + a ≡ a = omega arith in
    ap (λ k. keep (λ y. ltb a y) (iv 0 k)) e ∙ ap (keep (λ y. ltb a y)) (iv_append 0 a (d - a)) ∙ keep_append _ (iv 0 a) _
    ∙ rw (keep_iv_none (λ y. ltb a y) 0 a (λ y b c. le-ltb a y (omega arith)), e') (keep_iv_all (λ y. ltb a y) a (d - a) (λ y b c. lt-ltb a y b))) (λ h. let e : d - a ≡ 0 = omega arith in
    rw e (keep_iv_none (λ y. ltb a y) 0 d (λ y b c. le-ltb a y (omega arith))))

pub cnt_iv : (f : ℕ → Bool) (x d : ℕ) → cnt f (x + d) ≡ cnt f x + length (keep f (iv x d))
unfolding cnt iv keep
cnt_iv f x zero = let h : x + zero ≡ x = omega arith in rw h (omega arith)
cnt_iv f x (suc d) =
    let h : x + suc d ≡ suc x + d = omega arith in
    let ih = cnt_iv f (suc x) d in
    rw (h, ih) (by (f (suc x)) (λ e. rw e (omega arith)) (λ e. rw e (omega arith)))

pub map_cnt : (f : ℕ → Bool) (x d : ℕ) → map (cnt f) (keep f (iv x d)) ≡ iv (cnt f x) (length (keep f (iv x d)))
unfolding cnt iv keep
map_cnt f x zero = refl
map_cnt f x (suc d) =
    let ih = map_cnt f (suc x) d in
    by (f (suc x)) (λ e. rw (e, e, rw e at ih)) (λ e. rw (e, rw e at ih))

pub iv_prefix : (xs ys : List ℕ) (a d : ℕ) → xs ++ ys ≡ iv a d → xs ≡ iv a (length xs)
unfolding iv
iv_prefix [] ys a d e = refl
iv_prefix (x ∷ xs) ys a zero e = absurd (let z : ◌≡◌ {A = ℕ} 0 1 = cc in omega arith)
iv_prefix (x ∷ xs) ys a (suc d) e =
    let e₁ : x ≡ suc a = cc in
    let e₂ : xs ++ ys ≡ iv (suc a) d = cc in
    let ih = iv_prefix xs ys (suc a) d e₂ in
    rw (e₁, ← ih)

pub iv_at : (xs : List ℕ) (m : ℕ) (ys : List ℕ) (a d : ℕ) → xs ++ m ∷ ys ≡ iv a d → m ≡ suc (a + length xs)
unfolding iv
iv_at [] m ys a zero e = absurd (let z : ◌≡◌ {A = ℕ} 0 1 = cc in omega arith)
iv_at [] m ys a (suc d) e = let e₁ : m ≡ suc a = cc in omega arith
iv_at (x ∷ xs) m ys a zero e = absurd (let z : ◌≡◌ {A = ℕ} 0 1 = cc in omega arith)
iv_at (x ∷ xs) m ys a (suc d) e =
    let e₂ : xs ++ m ∷ ys ≡ iv (suc a) d = cc in
    let ih = iv_at xs m ys (suc a) d e₂ in
    omega arith

pub cnt_mono : (f : ℕ → Bool) (x d : ℕ) → cnt f x ≤ cnt f (x + d)
cnt_mono f x d = omega (arith, cnt_iv f x d)

pub cnt_le : (f : ℕ → Bool) (x y : ℕ) → x ≤ y → cnt f x ≤ cnt f y
cnt_le f x y h = let e : y ≡ x + (y - x) = omega arith in rw e (cnt_mono f x (y - x))

pub cnt_lt : (f : ℕ → Bool) (x e : ℕ) → f e ≡ true → x < e → cnt f x < cnt f e
unfolding cnt
cnt_lt f x zero t h = absurd (omega arith)
cnt_lt f x (suc e) t h = rw t (let m = cnt_le f x e (omega arith) in omega arith)

pub cnt_find : (f : ℕ → Bool) (k x : ℕ) → 0 < k → k ≤ cnt f x → (i : ℕ) × (0 < i) × (i ≤ x) × (f i ≡ true) × (cnt f i ≡ k)
unfolding cnt
cnt_find f k zero p h = absurd (omega arith)
cnt_find f k (suc x) p h = by (f (suc x)) (λ e. let h₁ : k ≤ suc (cnt f x) = rw e at h in
    on (le? k (cnt f x)) (λ l. up (cnt_find f k x p l)) (λ l. (suc x, omega arith, omega arith, e, rw e (omega arith)))) (λ e. up (cnt_find f k x p (rw e at h)))
  where
    up : (i : ℕ) × (0 < i) × (i ≤ x) × (f i ≡ true) × (cnt f i ≡ k) → (i : ℕ) × (0 < i) × (i ≤ suc x) × (f i ≡ true) × (cnt f i ≡ k)
    up r = (r.0, r.1, omega (arith, r.2), r.3, r.4)

-- the first that a test keeps of an interval, and the rest
pub keep_head : (f : ℕ → Bool) (x d e : ℕ) (es : List ℕ) → keep f (iv x d) ≡ e ∷ es
    → (x < e) × (e ≤ x + d) × (f e ≡ true) × (es ≡ keep f (iv e (x + d - e)))
unfolding keep iv
keep_head f x zero e es h = absurd (let z : ◌≡◌ {A = ℕ} 0 1 = cc in omega arith)
keep_head f x (suc d) e es h = by (f (suc x)) (λ t. let h₁ : suc x ∷ keep f (iv (suc x) d) ≡ e ∷ es = rw t at h in
    let e₁ : e ≡ suc x = cc in
    let e₂ : es ≡ keep f (iv (suc x) d) = cc in
    let e₃ : x + suc d - suc x ≡ d = omega arith in
    (omega arith, omega arith, rw e₁ t, rw (e₁, e₃) e₂)) (λ t. let ih = keep_head f (suc x) d e es (rw t at h) in
    let k : suc x + d ≡ x + suc d = omega arith in
    (omega (arith, ih.0), omega (arith, ih.1), ih.2, rw k at ih.3))

pub each_map : (P Q : ℕ → Type 0) → ((x : ℕ) → P x → Q x) → (l : List ℕ) → Each P l → Each Q l
each_map P Q h [] t = tt
each_map P Q h (x ∷ xs) t = (h x t.0, each_map P Q h xs t.1)

pub each_keep_iv : (f : ℕ → Bool) (x d : ℕ) → Each (λ y. (x < y) × (y ≤ x + d) × (f y ≡ true)) (keep f (iv x d))
unfolding keep iv
each_keep_iv f x zero = tt
each_keep_iv f x (suc d) =
    let ih : Each (λ y. (x < y) × (y ≤ x + suc d) × (f y ≡ true)) (keep f (iv (suc x) d))
    = each_map (λ y. (suc x < y) × (y ≤ suc x + d) × (f y ≡ true)) (λ y. (x < y) × (y ≤ x + suc d) × (f y ≡ true)) (λ y t. (omega (arith, t.0), omega (arith, t.1), t.2)) (keep f (iv (suc x) d)) (each_keep_iv f (suc x) d) in
    by (f (suc x)) (λ e. rw e ((omega arith, omega arith, e), ih)) (λ e. rw e ih)

pub has_append : (k : ℕ) (xs ys : List ℕ) → has k (xs ++ ys) ≡ (has k xs || has k ys)
unfolding has
has_append k [] ys = refl
has_append k (x ∷ xs) ys = by (eqb k x) (λ e. rw e) (λ e. rw e (has_append k xs ys))

pub has_keep_is : (k : ℕ) (f : ℕ → Bool) (l : List ℕ) → has k (keep f l) ≡ (f k && has k l)
unfolding has keep
has_keep_is k f [] = by (f k) (λ u. rw u) (λ u. rw u)
has_keep_is k f (x ∷ xs) =
    let ih = has_keep_is k f xs in
    by (eqb k x)
    (λ u. let e : x ≡ k = sym (eqb-true k x u) in
    by (f k) (λ v. let w : f x ≡ true = rw e v in rw (w, u, v)) (λ v. let w : f x ≡ false = rw e v in rw (w, ih, v)))
    (λ u. by (f x) (λ v. rw (v, u) ih) (λ v. rw (v, u) ih))

pub has_keep : (k : ℕ) (f : ℕ → Bool) (l : List ℕ) → has k l ≡ false → has k (keep f l) ≡ false
has_keep k f l h = has_keep_is k f l ∙ by (f k) (λ u. rw (u, h)) (λ u. rw u)

pub has_keep_not : (k : ℕ) (f : ℕ → Bool) (l : List ℕ) → f k ≡ false → has k (keep f l) ≡ false
has_keep_not k f l h = has_keep_is k f l ∙ rw h

pub has_iv_not : (k x d : ℕ) → (k ≤ x) ⊎ (x + d < k) → has k (iv x d) ≡ false
unfolding has iv
has_iv_not k x zero h = refl
has_iv_not k x (suc d) (inl h) = rw (ne_eqb k (suc x) (λ q. omega arith), has_iv_not k (suc x) d (inl (omega arith)))
has_iv_not k x (suc d) (inr h) = rw (ne_eqb k (suc x) (λ q. omega arith), has_iv_not k (suc x) d (inr (omega arith)))

pub has_iv : (k x d : ℕ) → x < k → k ≤ x + d → has k (iv x d) ≡ true
unfolding has iv
has_iv k x zero p q = absurd (omega arith)
has_iv k x (suc d) p q = by (eqb k (suc x)) (λ e. rw e) (λ e. rw e (has_iv k (suc x) d (omega (arith, eqb-false k (suc x) e)) (omega arith)))

-- a number that passes the test is not before the first that is kept
abbrev pub Begins : ℕ → List ℕ → Type 0
Begins e l = (h : ℕ) × (t : List ℕ) × (l ≡ h ∷ t) × (h ≤ e)

begins_skip : (f : ℕ → Bool) (x d e : ℕ) → f (suc x) ≡ false → Begins e (keep f (iv (suc x) d)) → Begins e (keep f (iv x (suc d)))
unfolding keep iv
begins_skip f x d e u r = rw u r

pub keep_some : (f : ℕ → Bool) (x d e : ℕ) → f e ≡ true → x < e → e ≤ x + d → Begins e (keep f (iv x d))
unfolding keep iv
keep_some f x zero e t a b = absurd (omega arith)
keep_some f x (suc d) e t a b = by (f (suc x))
    (λ u. (suc x, keep f (iv (suc x) d), rw u, omega arith))
    (λ u. let n : e ≢ suc x = λ q. clash (rw q at t) u in
    begins_skip f x d e u (keep_some f (suc x) d e t (omega arith) (omega arith)))

-- ---- Counts and places

pub cnt_suc : (f : ℕ → Bool) (x : ℕ) → f (suc x) ≡ true → cnt f (suc x) ≡ suc (cnt f x)
unfolding cnt
cnt_suc f x t = rw t

pub cnt_skip : (f : ℕ → Bool) (x : ℕ) → f (suc x) ≡ false → cnt f (suc x) ≡ cnt f x
unfolding cnt
cnt_skip f x t = rw t

pub cnt_none : (f : ℕ → Bool) (x : ℕ) → ((e : ℕ) → f e ≡ false) → cnt f x ≡ 0
unfolding cnt
cnt_none f zero h = refl
cnt_none f (suc x) h = cnt_skip f x (h (suc x)) ∙ cnt_none f x h

pub cnt_bound : (f : ℕ → Bool) (x : ℕ) → cnt f x ≤ x
unfolding cnt
cnt_bound f zero = omega arith
cnt_bound f (suc x) = let h = cnt_bound f x in by (f (suc x)) (λ t. rw t (omega arith)) (λ t. rw t (omega arith))

pub place_le : (f : ℕ → Bool) (k x : ℕ) → place f k x ≤ x
unfolding place
place_le f k zero = omega arith
place_le f k (suc x) = by (f (suc x) && eqb (cnt f (suc x)) k) (λ t. rw t (omega arith)) (λ t. rw t (omega (arith, place_le f k x)))

pub place_is : (f : ℕ → Bool) (k x : ℕ) → (place f k x ≡ 0) ⊎ (f (place f k x) ≡ true)
unfolding place
place_is f k zero = inl refl
place_is f k (suc x) = by (f (suc x) && eqb (cnt f (suc x)) k)
    (λ t. rw t (inr (both (f (suc x)) (eqb (cnt f (suc x)) k) t).0))
    (λ t. rw t (place_is f k x))

-- a place that is there is that of the k-th
pub place_there : (f : ℕ → Bool) (k x : ℕ) → 0 < place f k x → (f (place f k x) ≡ true) × (cnt f (place f k x) ≡ k)
unfolding place
place_there f k zero h = absurd (omega arith)
place_there f k (suc x) h = by (f (suc x) && eqb (cnt f (suc x)) k)
    (λ t. let r = both (f (suc x)) (eqb (cnt f (suc x)) k) t in rw t (r.0, eqb-true (cnt f (suc x)) k r.1))
    (λ t. rw t (place_there f k x (rw t at h)))

-- and the k-th has its place
pub place_at : (f : ℕ → Bool) (e x : ℕ) → f e ≡ true → 0 < e → e ≤ x → place f (cnt f e) x ≡ e
unfolding place
place_at f e zero t a b = absurd (omega arith)
place_at f e (suc x) t a b = by (eqb e (suc x))
    (λ u. let i : e ≡ suc x = eqb-true e (suc x) u in
    let v : f (suc x) ≡ true = rw i at t in
    rw (i, v, eqb_self (cnt f (suc x))))
    (λ u. let l : e ≤ x = omega (arith, eqb-false e (suc x) u) in
    by (f (suc x))
    (λ v. let n : eqb (cnt f (suc x)) (cnt f e) ≡ false = ne_eqb (cnt f (suc x)) (cnt f e) (λ q. omega (arith, cnt_lt f e (suc x) v (omega arith))) in
    rw (v, n) (place_at f e x t a l))
    (λ v. rw v (place_at f e x t a l)))

pub place_zero : (f : ℕ → Bool) (x : ℕ) → place f 0 x ≡ 0
place_zero f x = on (le? (place f 0 x) 0) (λ h. omega arith)
    (λ h. let r = place_there f 0 x h in absurd (omega (arith, cnt_lt f 0 (place f 0 x) r.0 h, r.1)))

pub place_cnt : (f : ℕ → Bool) (k x : ℕ) → 0 < k → k ≤ cnt f x → (f (place f k x) ≡ true) × (cnt f (place f k x) ≡ k)
place_cnt f k x a b =
    let d = cnt_find f k x a b in
    let e : place f k x ≡ d.0 = ap (λ j. place f j x) (sym d.4) ∙ place_at f d.0 x d.3 d.1 d.2 in
    rw e (d.3, d.4)

pub place_mono : (f : ℕ → Bool) (j k x : ℕ) → j ≤ k → k ≤ cnt f x → place f j x ≤ place f k x
place_mono f zero k x a b = rw (place_zero f x) (omega arith)
place_mono f (suc j) k x a b =
    let u = place_cnt f (suc j) x (omega arith) (omega arith) in
    let v = place_cnt f k x (omega arith) b in
    on (le? (place f (suc j) x) (place f k x)) (λ l. l)
    (λ l. absurd (omega (arith, cnt_lt f (place f k x) (place f (suc j) x) u.0 l, u.1, v.1)))

-- the k-th of 1 .. x is at most y exactly if y has k of them
pub place_by : (f : ℕ → Bool) (k x y : ℕ) → y ≤ x → (ltb 0 (place f k x) && leb (place f k x) y) ≡ (ltb 0 k && leb k (cnt f y))
place_by f k x y h = same_bool _ _
    (λ t. let b = both (ltb 0 (place f k x)) (leb (place f k x) y) t in
    let a = ltb-true 0 (place f k x) b.0 in
    let r = place_there f k x a in
    let u : ltb 0 k ≡ true = lt-ltb 0 k (omega (arith, cnt_lt f 0 (place f k x) r.0 a, r.1)) in
    let v : leb k (cnt f y) ≡ true = le-leb k (cnt f y) (omega (arith, cnt_le f (place f k x) y (leb-true (place f k x) y b.1), r.1)) in
    rw (u, v))
    (λ t. let b = both (ltb 0 k) (leb k (cnt f y)) t in
    let d = cnt_find f k y (ltb-true 0 k b.0) (leb-true k (cnt f y) b.1) in
    let e : place f k x ≡ d.0 = ap (λ j. place f j x) (sym d.4) ∙ place_at f d.0 x d.3 d.1 (omega (arith, d.2)) in
    let u : ltb 0 d.0 ≡ true = lt-ltb 0 d.0 d.1 in
    let v : leb d.0 y ≡ true = le-leb d.0 y d.2 in
    rw (e, u, v))

pub last_of_le : (f : ℕ → Bool) (x : ℕ) → last_of f x ≤ x
unfolding last_of
last_of_le f zero = omega arith
last_of_le f (suc x) = by (f (suc x)) (λ t. rw t (omega arith)) (λ t. rw t (omega (arith, last_of_le f x)))

-- it is the last that passes the test
pub last_of_top : (f : ℕ → Bool) (x y : ℕ) → f y ≡ true → 0 < y → y ≤ x → (y ≤ last_of f x) × (f (last_of f x) ≡ true)
unfolding last_of
last_of_top f zero y t a b = absurd (omega arith)
last_of_top f (suc x) y t a b = by (f (suc x))
    (λ u. rw u (b, u))
    (λ u. let n : y ≢ suc x = λ q. clash (rw q at t) u in
    rw u (last_of_top f x y t a (omega arith)))

-- ---- Sums over the processes

pub sum_cong : (n : ℕ) (f g : ℕ → ℕ) → ((x : ℕ) → x < n → f x ≡ g x) → sum n f ≡ sum n g
unfolding sum
sum_cong zero f g h = refl
sum_cong (suc n) f g h = rw (h n (omega arith)) (ap (λ k. g n + k) (sum_cong n f g (λ x l. h x (omega arith))))

pub sum_zero : (n : ℕ) (f : ℕ → ℕ) → ((x : ℕ) → x < n → f x ≡ 0) → sum n f ≡ 0
unfolding sum
sum_zero zero f h = refl
sum_zero (suc n) f h = omega (arith, h n (omega arith), sum_zero n f (λ x l. h x (omega arith)))

pub sum_le : (n : ℕ) (f g : ℕ → ℕ) → ((x : ℕ) → x < n → f x ≤ g x) → sum n f ≤ sum n g
unfolding sum
sum_le zero f g h = omega arith
sum_le (suc n) f g h = omega (arith, h n (omega arith), sum_le n f g (λ x l. h x (omega arith)))

pub sum_add : (n : ℕ) (f g : ℕ → ℕ) → sum n (λ x. f x + g x) ≡ sum n f + sum n g
unfolding sum
sum_add zero f g = omega arith
sum_add (suc n) f g = omega (arith, sum_add n f g)

-- one place goes down by one; one place goes down
pub sum_down : (n z : ℕ) (f g : ℕ → ℕ) → z < n → ((x : ℕ) → x ≢ z → f x ≡ g x) → f z ≡ suc (g z) → sum n f ≡ suc (sum n g)
unfolding sum
sum_down zero z f g l h k = absurd (omega arith)
sum_down (suc n) z f g l h k = by (eqb z n)
    (λ t. let e : z ≡ n = eqb-true z n t in
    let k' : f n ≡ suc (g n) = rw e at k in
    let r : sum n f ≡ sum n g = sum_cong n f g (λ x a. h x (omega arith)) in
    omega arith)
    (λ t. let e : z ≢ n = eqb-false z n t in
    let r = sum_down n z f g (omega arith) h k in
    omega (arith, h n (λ q. e (sym q))))

pub sum_lt : (n z : ℕ) (f g : ℕ → ℕ) → z < n → ((x : ℕ) → x ≢ z → g x ≡ f x) → g z < f z → sum n g < sum n f
unfolding sum
sum_lt zero z f g l h k = absurd (omega arith)
sum_lt (suc n) z f g l h k = by (eqb z n)
    (λ t. let e : z ≡ n = eqb-true z n t in
    let k' : g n < f n = rw e at k in
    omega (arith, sum_cong n g f (λ x a. h x (omega arith))))
    (λ t. let e : z ≢ n = eqb-false z n t in
    omega (arith, sum_lt n z f g (omega arith) h k, h n (λ q. e (sym q))))

-- ---- Bounded search

pub all_true : (n : ℕ) (f : ℕ → Bool) → ((z : ℕ) → z < n → f z ≡ true) → all_below n f ≡ true
unfolding all_below
all_true zero f h = refl
all_true (suc n) f h = rw (h n (omega arith)) (all_true n f (λ z l. h z (omega arith)))

pub all_same : (n : ℕ) (f g : ℕ → Bool) → ((z : ℕ) → z < n → f z ≡ g z) → all_below n f ≡ all_below n g
unfolding all_below
all_same zero f g h = refl
all_same (suc n) f g h = rw (h n (omega arith), all_same n f g (λ z l. h z (omega arith)))

pub all_at : (n : ℕ) (f : ℕ → Bool) → all_below n f ≡ true → (z : ℕ) → z < n → f z ≡ true
unfolding all_below
all_at zero f h z l = absurd (omega arith)
all_at (suc n) f h z l =
    let b = both (f n) (all_below n f) h in
    on (le? n z) (λ a. let e : z ≡ n = omega arith in rw e b.0) (λ a. all_at n f b.1 z a)

pub no_one_at : (f : ℕ → Bool) (l : List ℕ) (k : ℕ) → no_one f l ≡ true → has k l ≡ true → f k ≡ false
unfolding no_one has
no_one_at f [] k h u = clash {b = false} u refl
no_one_at f (x ∷ xs) k h u =
    let b = both (not (f x)) (no_one f xs) h in
    by (eqb k x)
    (λ v. let e : k ≡ x = eqb-true k x v in rw e (by (f x) (λ w. clash {b = false} (rw w at b.0) refl) (λ w. w)))
    (λ v. no_one_at f xs k b.1 (rw v at u))

pub no_one_all : (f : ℕ → Bool) (l : List ℕ) → ((x : ℕ) → f x ≡ false) → no_one f l ≡ true
unfolding no_one
no_one_all f [] h = refl
no_one_all f (x ∷ xs) h = rw (h x) (no_one_all f xs h)

pub find_has : (f : ℕ → Bool) (l : List ℕ) → no_one f l ≡ false → (e : ℕ) × (has e l ≡ true) × (f e ≡ true)
unfolding no_one has
find_has f [] h = clash {b = true} refl h
find_has f (x ∷ xs) h = by (f x)
    (λ u. (x, rw (eqb_self x), u))
    (λ u. let r = find_has f xs (rw u at h) in (r.0, or_right (eqb r.0 x) (has r.0 xs) r.1, r.2))

pub find_below : (n : ℕ) (f : ℕ → Bool) → all_below n f ≡ false → (z : ℕ) × (z < n) × (f z ≡ false)
unfolding all_below
find_below zero f h = clash {b = true} refl h
find_below (suc n) f h = by (f n)
    (λ u. let r = find_below n f (rw u at h) in (r.0, omega (arith, r.1), r.2))
    (λ u. (n, omega arith, u))

pub or_none_lem : {A : Type 0} (a b : Option A) → or_else a b ≡ none → (a ≡ none) × (b ≡ none)
or_none_lem none b e = (refl, e)
or_none_lem (some a) b e = absurd (none-ne-some a (sym e))

pub or_some : {A : Type 0} (a b : Option A) (r : A) → or_else a b ≡ some r → (a ≡ some r) ⊎ ((a ≡ none) × (b ≡ some r))
or_some none b r e = inr (refl, e)
or_some (some a) b r e = inl e

pub first_none : {A : Type 0} (f : ℕ → Option A) (n : ℕ) → first f n ≡ none → (x : ℕ) → x < n → f x ≡ none
unfolding first
first_none f zero e x h = absurd (omega arith)
first_none f (suc n) e x h =
    let o = or_none_lem (first f n) (f n) e in
    on (le? n x) (λ l. let q : x ≡ n = omega arith in rw q o.1) (λ l. first_none f n o.0 x l)

-- the first that is there: none is before it
pub first_some : {A : Type 0} (f : ℕ → Option A) (n : ℕ) (r : A) → first f n ≡ some r
    → (x : ℕ) × (x < n) × (f x ≡ some r) × ((y : ℕ) → y < x → f y ≡ none)
unfolding first
first_some f zero r e = absurd (none-ne-some r e)
first_some f (suc n) r e = on (or_some (first f n) (f n) r e)
    (λ u. let s = first_some f n r u in (s.0, omega (arith, s.1), s.2, s.3))
    (λ u. (n, omega arith, u.1, λ y l. first_none f n u.0 y l))
