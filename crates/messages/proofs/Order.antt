-- The order of a list of messages: by sender, receiver, number, strictly; and what each of them is.
use Prim.Native.Nat.{ℕ, zero, suc, ◌+◌, ◌-◌, ◌<◌}
use mathlib.Core.Path.{◌≡◌, refl, sym, ◌∙◌}
use mathlib.Core.Logic.{inl, inr}
use mathlib.Core.Bool.{Bool, true, false, ◌&&◌}
use mathlib.Core.List.{List, [], ◌∷◌, ◌++◌, map}
use native.Mathlib.Omega.{arith}
use lib.ListN.{length, get_or, length-append, get_or-append}
use lib.Seq.{get_or-append-add}
use lib.Dec.{eqb}
use borrow.Author.Tests.{eqb-true}
use Rattle.theory.specs.Lists.{iv, keep}
use Rattle.theory.specs.Events.{size, sent}
use Rattle.theory.specs.Line.{Run}
use Rattle.theory.specs.Answers.{Listed, gather, messages}
use Rattle.theory.specs.Inner.Tests.{names}
use Rattle.theory.proofs.Base.{by, on, le?, both, clash}
use Rattle.messages.specs.Meaning.{Precedes}
use Rattle.messages.proofs.Rows.{blank}

-- ---- Every message of a list

abbrev pub Every : (Listed → Type 0) → List Listed → Type 0
Every P l = (i : ℕ) → i < length l → P (get_or l i blank)

-- place i of two lists, one after the other
at_append : (P : Listed → Type 0) (xs ys : List Listed) (i : ℕ) → i < length (xs ++ ys)
    → (i < length xs → P (get_or xs i blank)) → ((j : ℕ) → i ≡ length xs + j → j < length ys → P (get_or ys j blank)) → P (get_or (xs ++ ys) i blank)
at_append P xs ys i h f g = on (le? (length xs) i)
    (λ l. let j = i - length xs in
    let e : i ≡ length xs + j = omega arith in
    rw (e, get_or-append-add xs ys j blank) (g j e (omega (arith, length-append xs ys))))
    (λ l. rw (get_or-append xs ys blank i l) (f l))

every_append : (P : Listed → Type 0) (xs ys : List Listed) → Every P xs → Every P ys → Every P (xs ++ ys)
every_append P xs ys a b i h = at_append P xs ys i h (a i) (λ j e l. b j l)

every_gather : (P : Listed → Type 0) (f : ℕ → List Listed) (n : ℕ) → ((x : ℕ) → x < n → Every P (f x)) → Every P (gather f n)
unfolding gather
every_gather P f zero h = λ i l. absurd (let y : ⊥ = omega arith in y)
every_gather P f (suc n) h = every_append P (gather f n) (f n) (every_gather P f n (λ x l. h x (omega arith))) (h n (omega arith))

-- ---- Ascending lists

abbrev pub Ascending : List Listed → Type 0
Ascending l = (i j : ℕ) → i < j → j < length l → Precedes (get_or l i blank) (get_or l j blank)

-- every message of one list comes before every message of another
abbrev Before : List Listed → List Listed → Type 0
Before xs ys = Every (λ m. Every (λ n. Precedes m n) ys) xs

ascending_append : (xs ys : List Listed) → Ascending xs → Ascending ys → Before xs ys → Ascending (xs ++ ys)
ascending_append xs ys a b c i j h l =
    at_append (λ n. Precedes (get_or (xs ++ ys) i blank) n) xs ys j l
    (λ u. let v : i < length xs = omega arith in rw (get_or-append xs ys blank i v) (a i j h u))
    (λ y e u. at_append (λ m. Precedes m (get_or ys y blank)) xs ys i (omega (arith, length-append xs ys))
    (λ v. c i v y u)
    (λ x f v. b x y (omega arith) u))

ascending_gather : (f : ℕ → List Listed) (n : ℕ) → ((x : ℕ) → x < n → Ascending (f x)) → ((x y : ℕ) → x < y → y < n → Before (f x) (f y)) → Ascending (gather f n)
unfolding gather
ascending_gather f zero h c = λ i j l k. absurd (let y : ⊥ = omega arith in y)
ascending_gather f (suc n) h c =
    ascending_append (gather f n) (f n) (ascending_gather f n (λ x l. h x (omega arith)) (λ x y l k. c x y l (omega arith))) (h n (omega arith))
    (every_gather (λ m. Every (λ o. Precedes m o) (f n)) f n (λ x l. c x n l (omega arith)))

-- ---- The numbers of a channel that pass a test

at_cons : (P : ℕ → Type 0) (x : ℕ) (xs : List ℕ) (i : ℕ) → i < suc (length xs) → P x → ((j : ℕ) → j < length xs → P (get_or xs j 0)) → P (get_or (x ∷ xs) i 0)
at_cons P x xs zero l a b = a
at_cons P x xs (suc i) l a b = b i (omega arith)

rises_cons : (x : ℕ) (xs : List ℕ) → ((j : ℕ) → j < length xs → x < get_or xs j 0) → ((i j : ℕ) → i < j → j < length xs → get_or xs i 0 < get_or xs j 0)
    → (i j : ℕ) → i < j → j < suc (length xs) → get_or (x ∷ xs) i 0 < get_or (x ∷ xs) j 0
rises_cons x xs a b i zero l k = absurd (let y : ⊥ = omega arith in y)
rises_cons x xs a b zero (suc j) l k = a j (omega arith)
rises_cons x xs a b (suc i) (suc j) l k = b i j (omega arith) (omega arith)

passes : (f : ℕ → Bool) (l : List ℕ) (i : ℕ) → i < length (keep f l) → f (get_or (keep f l) i 0) ≡ true
unfolding keep
passes f [] i h = absurd (let y : ⊥ = omega arith in y)
passes f (x ∷ l) i h = by (f x)
    (λ u. rw u (at_cons (λ y. f y ≡ true) x (keep f l) i (rw u at h) u (λ j k. passes f l j k)))
    (λ u. rw u (passes f l i (rw u at h)))

over : (f : ℕ → Bool) (x d i : ℕ) → i < length (keep f (iv x d)) → x < get_or (keep f (iv x d)) i 0
unfolding keep iv
over f x zero i h = absurd (let y : ⊥ = omega arith in y)
over f x (suc d) i h = by (f (suc x))
    (λ u. rw u (at_cons (λ y. x < y) (suc x) (keep f (iv (suc x) d)) i (rw u at h) (omega arith) (λ j k. omega (arith, over f (suc x) d j k))))
    (λ u. rw u (omega (arith, over f (suc x) d i (rw u at h))))

rises : (f : ℕ → Bool) (x d i j : ℕ) → i < j → j < length (keep f (iv x d)) → get_or (keep f (iv x d)) i 0 < get_or (keep f (iv x d)) j 0
unfolding keep iv
rises f x zero i j l h = absurd (let y : ⊥ = omega arith in y)
rises f x (suc d) i j l h = by (f (suc x))
    (λ u. rw u (rises_cons (suc x) (keep f (iv (suc x) d)) (over f (suc x) d) (λ a b c k. rises f (suc x) d a b c k) i j l (rw u at h)))
    (λ u. rw u (rises f (suc x) d i j l (rw u at h)))

-- ---- The messages of a run that pass a test

module _ (R : Run) (f : ℕ → ℕ → ℕ → Bool) (ph : ℕ → ℕ → ℕ → ℕ) where
  abbrev item : ℕ → ℕ → ℕ → Listed
  item p q k = record { from = p; to = q; number = k; phase = ph p q k }

  abbrev numbers : ℕ → ℕ → List ℕ
  numbers p q = keep (f p q) (iv 0 (sent R.trace p q (size R.trace)))

  abbrev channel : ℕ → ℕ → List Listed
  channel p q = map (item p q) (numbers p q)

  item_at : (p q i : ℕ) → i < length (channel p q) → (i < length (numbers p q)) × (get_or (channel p q) i blank ≡ item p q (get_or (numbers p q) i 0))
  item_at p q i h = go (numbers p q) i h
    where
      go : (l : List ℕ) (i : ℕ) → i < length (map (item p q) l) → (i < length l) × (get_or (map (item p q) l) i blank ≡ item p q (get_or l i 0))
      go [] i h = absurd (let y : ⊥ = omega arith in y)
      go (x ∷ l) zero h = (omega arith, refl)
      go (x ∷ l) (suc i) h = let r = go l i (omega arith) in (omega (arith, r.0), r.1)

  -- what each of them is
  pub record Is (m : Listed) : Type 0 where
    pub sender : m.from < R.trace.procs
    pub receiver : m.to < R.trace.procs
    pub test : f m.from m.to m.number ≡ true
    pub phase_is : m.phase ≡ ph m.from m.to m.number

  channel_each : (p q : ℕ) → p < R.trace.procs → q < R.trace.procs → Every Is (channel p q)
  channel_each p q a b i h =
      let r = item_at p q i h in
      rw r.1 (record { sender = a; receiver = b; test = passes (f p q) _ i r.0; phase_is = refl })

  pub each_is : Every Is (messages R f ph)
  unfolding messages
  each_is =
      let n = R.trace.procs in
      every_gather Is _ n (λ p a. every_gather Is _ n (λ q b. channel_each p q a b))

  channel_ascends : (p q : ℕ) → Ascending (channel p q)
  channel_ascends p q i j l h =
      let x = item_at p q i (omega arith) in
      let y = item_at p q j h in
      rw (x.1, y.1) (inr (refl, inr (refl, rises (f p q) 0 _ i j l y.0)))

  from_is : (p q : ℕ) → Every (λ m. m.from ≡ p) (channel p q)
  from_is p q i h = rw (item_at p q i h).1

  to_is : (p q : ℕ) → Every (λ m. m.to ≡ q) (channel p q)
  to_is p q i h = rw (item_at p q i h).1

  -- strictly ascending
  pub ascends : Ascending (messages R f ph)
  unfolding messages
  ascends =
      let n = R.trace.procs in
      ascending_gather _ n
      (λ p a. ascending_gather (channel p) n (λ q b. channel_ascends p q)
      (λ x y l k i h j g. inr (from_is p x i h ∙ sym (from_is p y j g), inl (rw (to_is p x i h, to_is p y j g) l))))
      (λ x y l k i h j g. inl (rw (every_gather (λ m. m.from ≡ x) (channel x) n (λ q b. from_is x q) i h, every_gather (λ m. m.from ≡ y) (channel y) n (λ q b. from_is y q) j g) l))

-- ---- A list that names a message has it

pub named_at : (p q k : ℕ) (ms : List Listed) → names p q k ms ≡ true
    → (i : ℕ) × (i < length ms) × ((get_or ms i blank).from ≡ p) × ((get_or ms i blank).to ≡ q) × ((get_or ms i blank).number ≡ k)
unfolding names
named_at p q k [] h = clash {b = false} h refl
named_at p q k (m ∷ ms) h = by (eqb p m.from && (eqb q m.to && eqb k m.number))
    (λ u. let a = both (eqb p m.from) _ u in
    let b = both (eqb q m.to) (eqb k m.number) a.1 in
    (0, omega arith, sym (eqb-true p m.from a.0), sym (eqb-true q m.to b.0), sym (eqb-true k m.number b.1)))
    (λ u. let r = named_at p q k ms (rw u at h) in (suc r.0, omega (arith, r.1), r.2, r.3, r.4))
