-- The lowest allowed choice by words is the theory's, where none before it is allowed, and the order of lowest choices
-- is carried out step for step, for every run that the words stand for.
use mathlib.Core.Path.{◌≡◌, refl, sym, ◌∙◌, ap}
use mathlib.Core.Bool.{true, false}
use mathlib.Core.List.{List, [], ◌∷◌}
use mathlib.Core.Option.{Option, none, some, some-injective, none-ne-some}
use Prim.Native.Nat.{ℕ, zero, suc, ◌+◌, ◌-◌, ◌≤◌, ◌<◌}
use native.Mathlib.Omega.{arith}
use Rattle.std.specs.Prelude.{Ok}
use lib.ListN.{length, get_or}
use Rattle.words.specs.Area.{area_words}
use Rattle.theory.specs.Events.{size}
use Rattle.theory.specs.Line.{Run}
use Rattle.theory.specs.Replay.{State, start}
use Rattle.theory.specs.Order.{carried_out, choose, carry, run, lowest, lowest_from, lowest_order}
use Rattle.theory.specs.Inner.Flow.{Inv}
use Rattle.theory.proofs.Base.{on, le?, clash}
use Rattle.theory.proofs.Loss.{inv_start}
use Rattle.theory.proofs.Orders.{none_high, choose_none, complete_iff}
use Rattle.theory.proofs.Lowest.{lowest_none, lowest_some, lowest_iff, lowest_order_lem}
use Rattle.machine.specs.Inner.Words.{current_base, low_place, allowed_w, apply_w, Bounded}
use Rattle.machine.specs.Inner.Related.{Rel, Started}
use Rattle.machine.proofs.Choices.{Agrees, refuses, allows, choice_agrees}
use Rattle.orders.proofs.Orders.{rel_bounded, record_left}
use Rattle.orders.specs.declared.Replayed.{Replayed}
use Rattle.orders.specs.Answer.{answer_of, words_of}
use Rattle.orders.specs.Answer.{answered}
use Rattle.search.specs.Inner.Looking.{Going}
use Rattle.search.specs.Inner.Lowest.{no_choice, NoneBefore, LowestDone}

-- ---- The lowest choice

module _ (R : Run) (t l g a₀ : List ℕ) (S : Started R t l g a₀) where
  module _ (a : List ℕ) (s : State) (r : Rel R a s) (i : Inv R s) where
    agrees : (c : ℕ) → Agrees R S.laws t l g S.cols (allowed_w t g a c) (apply_w t l a c) (choose R s c)
    agrees c = choice_agrees R S.laws t l g S.cols a s r i c

    not_allowed : (c : ℕ) → allowed_w t g a c ≡ false → choose R s c ≡ none
    not_allowed c h = go (choose R s c) refl (agrees c)
      where
        go : (o : Option State) → choose R s c ≡ o → Agrees R S.laws t l g S.cols (allowed_w t g a c) (apply_w t l a c) o → choose R s c ≡ none
        go none e v = e
        go (some u) e (allows v y r' j) = clash y h

    unfoldable pub Next : ℕ → State → Type 0
    Next c u = Rel R (apply_w t l a c) u × Inv R u × (choose R s c ≡ some u)

    pub is_allowed : (c : ℕ) → allowed_w t g a c ≡ true → (u : State) × Next c u
    unfolding Next
    is_allowed c h = go (choose R s c) refl (agrees c)
      where
        go : (o : Option State) → choose R s c ≡ o → Agrees R S.laws t l g S.cols (allowed_w t g a c) (apply_w t l a c) o → (u : State) × Next c u
        go none e (refuses y) = clash h y
        go (some u) e (allows v y r' j) = (u, (r', j, e))

    pub none_lowest : NoneBefore t g a no_choice → lowest R s ≡ none
    unfolding NoneBefore
    none_lowest h = (lowest_iff R S.laws s i).1 (λ c. on (le? no_choice c) (λ k. choose_none R s c (none_high c k)) (λ k. not_allowed c (h c k)))

    pub some_lowest : (c : ℕ) → NoneBefore t g a c → allowed_w t g a c ≡ true
        → (u : State) × (lowest R s ≡ some (c, u)) × Rel R (apply_w t l a c) u × Inv R u × (choose R s c ≡ some u)
    unfolding NoneBefore Next
    some_lowest c n h = go (lowest R s) refl
      where
        w : (u : State) × Next c u
        w = is_allowed c h

        same : (v : ℕ × State) → lowest R s ≡ some v → c ≡ v.0
        same v e = on (le? c v.0) (λ k. on (le? v.0 c) (λ m. omega arith) (λ m. absurd (none-ne-some w.0 (sym ((lowest_some R S.laws s i v e).1 c m) ∙ w.1.2))))
            (λ k. absurd (none-ne-some v.1 (sym (not_allowed v.0 (n v.0 k)) ∙ (lowest_some R S.laws s i v e).0)))

        go : (o : Option (ℕ × State)) → lowest R s ≡ o → (u : State) × (lowest R s ≡ some (c, u)) × Rel R (apply_w t l a c) u × Inv R u × (choose R s c ≡ some u)
        go none e = absurd (none-ne-some w.0 (sym (lowest_none R S.laws s i e c) ∙ w.1.2))
        go (some v) e =
            let q = same v e in
            let f : w.0 ≡ v.1 = some-injective w.0 v.1 (sym w.1.2 ∙ ap (choose R s) q ∙ (lowest_some R S.laws s i v e).0) in
            (w.0, e ∙ ap (λ x. some (x, v.1)) (sym q) ∙ ap (λ x. some (c, x)) (sym f), w.1.0, w.1.1, w.1.2)

  -- ---- The order of the lowest choices, i of them done
  module _ (most : ℕ) where
    abbrev order : List ℕ
    order = lowest_from R most (start R)

    pub going_start : Going R most a₀ 0
    unfolding run
    going_start =
        let e : most - 0 ≡ most = omega arith in
        let q : 0 + length order ≡ length order = omega arith in
        record { state = start R; rel = S.rel; inv = inv_start R S.laws; rest = rw e; steps = rw e q }

    from_none : (d : ℕ) (s : State) → lowest R s ≡ none → lowest_from R d s ≡ []
    unfolding lowest_from
    from_none zero s e = refl
    from_none (suc d) s e = rw e

    from_some : (d c : ℕ) (s u : State) → lowest R s ≡ some (c, u) → lowest_from R (suc d) s ≡ c ∷ lowest_from R d u
    unfolding lowest_from
    from_some d c s u e = rw e

    from_zero : (s : State) → lowest_from R 0 s ≡ []
    unfolding lowest_from
    from_zero s = refl

    carry_none : (s : State) (i : ℕ) → carry R s i [] ≡ carried_out s
    unfolding carry
    carry_none s i = refl

    carry_some : (s u : State) (i c : ℕ) (cs : List ℕ) → choose R s c ≡ some u → carry R s i (c ∷ cs) ≡ carry R u (suc i) cs
    unfolding carry
    carry_some s u i c cs e = rw e

    ended : (a : List ℕ) (i : ℕ) (v : Going R most a i) → lowest_from R (most - i) v.state ≡ [] → LowestDone R a most i
    ended a i v e =
        let q : length (lowest_from R (most - i) v.state) ≡ 0 = ap length e in record {
          state = v.state;
          rel = v.rel;
          inv = v.inv;
          carried = sym v.rest ∙ ap (carry R v.state (suc i)) e ∙ carry_none v.state (suc i);
          steps = omega (arith, v.steps, q);
        }

    pub going_bound : (a : List ℕ) (i : ℕ) → Going R most a i → Bounded a
    going_bound a i v = rel_bounded R S.laws t l g S.cols a v.state v.rel v.inv

    -- no choice is left
    pub going_end : (a : List ℕ) (i : ℕ) → Going R most a i → NoneBefore t g a no_choice → LowestDone R a most i
    going_end a i v h = ended a i v (from_none (most - i) v.state (none_lowest a v.state v.rel v.inv h))

    -- as many as there may be are done
    pub going_out : (a : List ℕ) (i : ℕ) → Going R most a i → most ≤ i → LowestDone R a most i
    going_out a i v h = ended a i v (let e : most - i ≡ 0 = omega arith in rw e (from_zero v.state))

    pub going_next : (a b : List ℕ) (i c : ℕ) → Going R most a i → i < most → NoneBefore t g a c → allowed_w t g a c ≡ true → b ≡ apply_w t l a c → Going R most b (i + 1)
    going_next a b i c v l n h eb =
        let w = some_lowest a v.state v.rel v.inv c n h in
        let d : most - i ≡ suc (most - (i + 1)) = omega arith in
        let f : lowest_from R (most - i) v.state ≡ c ∷ lowest_from R (most - (i + 1)) w.0 =
        ap (λ k. lowest_from R k v.state) d ∙ from_some (most - (i + 1)) c v.state w.0 w.1 in
        let len : i + length (c ∷ lowest_from R (most - (i + 1)) w.0) ≡ length order = ap (λ (x : List ℕ). i + length x) (sym f) ∙ v.steps in
        let car : carry R v.state (suc i) (c ∷ lowest_from R (most - (i + 1)) w.0) ≡ run R order = ap (carry R v.state (suc i)) (sym f) ∙ v.rest in
        let one : suc i ≡ i + 1 = omega arith in record {
          state = w.0;
          rel = rw eb w.2;
          inv = w.3;
          rest = ap (λ k. carry R w.0 k (lowest_from R (most - (i + 1)) w.0)) (ap suc (sym one)) ∙ sym (carry_some v.state w.0 (suc i) c _ w.4) ∙ car;
          steps = omega (arith, len);
        }

    -- ---- The answer
    module _ (all : most ≡ size R.trace + size R.trace) where
      whole : order ≡ lowest_order R
      whole = ap (λ m. lowest_from R m (start R)) all

      pub lowered_answer : (a : List ℕ) (n : ℕ) (x : Replayed) → LowestDone R a most n → x ≡ (record { steps = n; complete = true })
          → answered (Ok x) ≡ answer_of R (run R (lowest_order R)) (length (lowest_order R))
      unfolding answer_of
      lowered_answer a n x v e =
          let o = lowest_order_lem R S.laws in
          ap (λ (r : Replayed). answered (Ok r)) e ∙ rw (o.1, (complete_iff R o.0).1 o.2, v.steps ∙ ap length whole)

      pub lowered_words : (a b : List ℕ) (n : ℕ) → LowestDone R a most n → length b ≡ area_words
          → ((k : ℕ) → (current_base ≤ k → low_place < k) → get_or b k 0 ≡ get_or a k 0) → ((k : ℕ) → current_base ≤ k → k ≤ low_place → get_or b k 0 ≡ 0) → b ≡ words_of R (run R (lowest_order R))
      unfolding words_of
      lowered_words a b n v j others zeros = rw (← whole, v.carried) (record_left R S.laws t l g S.cols a b v.state v.rel j others zeros)
