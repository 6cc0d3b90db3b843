-- The order that always picks the lowest allowed choice: its choices are the lowest, and it is complete; so every line
-- has a complete order. From Orders and the work that is left (Steps).
use mathlib.Core.Path.{◌≡◌, refl, sym, ◌∙◌, ap, subst}
use mathlib.Core.Logic.{◌↔◌}
use mathlib.Core.List.{[], ◌∷◌}
use mathlib.Core.Option.{Option, none, some, some-injective, none-ne-some}
use Prim.Native.Nat.{ℕ, zero, suc, ◌+◌, ◌*◌, ◌≤◌, ◌<◌}
use native.Mathlib.Omega.{arith}
use Rattle.theory.specs.Lists.{if_some, first}
use Rattle.theory.specs.Events.{size}
use Rattle.theory.specs.Line.{Run}
use Rattle.theory.specs.Replay.{Choice, process, hand, State, start, step}
use Rattle.theory.specs.Order.{choice_of, carried_out, choose, carry, run, Complete, named, lowest, lowest_from, lowest_order}
use Rattle.theory.specs.Inner.Laws.{Laws}
use Rattle.theory.proofs.Base.{on, le?, or_none_lem, or_some, first_none, first_some}
use Rattle.theory.proofs.Flow.{view, inv_step}
use Rattle.theory.specs.Inner.Flow.{Inv}
use Rattle.theory.proofs.Loss.{inv_start}
use Rattle.theory.proofs.Orders.{number_of, choice_is, choose_is, InRange, in_range}
use Rattle.theory.proofs.Steps.{work, step_work, work_bound}

module _ (R : Run) where
  named_none : (c : ℕ) (o : Option State) → named R c o ≡ none → o ≡ none
  named_none c none e = refl
  named_none c (some t) e = absurd (none-ne-some (c, t) (sym e))

  named_some : (c : ℕ) (o : Option State) (r : ℕ × State) → named R c o ≡ some r → (c ≡ r.0) × (o ≡ some r.1)
  named_some c none r e = absurd (none-ne-some r e)
  named_some c (some t) r e = let q = some-injective (c, t) r e in (ap (λ x. x.0) q, ap (λ x. some x.1) q)

  -- the processes, the channels of one sender, of all senders
  abbrev of_process : State → ℕ → Option (ℕ × State)
  of_process s z = named R z (choose R s z)

  abbrev of_channel : State → ℕ → ℕ → Option (ℕ × State)
  of_channel s p q = named R (64 + 64 * p + q) (choose R s (64 + 64 * p + q))

  abbrev of_sender : State → ℕ → Option (ℕ × State)
  of_sender s p = first (of_channel s p) R.trace.procs

  module _ (L : Laws R) (s : State) (i : Inv R s) where
    -- an allowed number is that of a process or a channel of the run
    data Numbered : ℕ → Type 0 where
      of_process_lem : (z : ℕ) → z < R.trace.procs → Numbered z
      of_channel_lem : (p q : ℕ) → p < R.trace.procs → q < R.trace.procs → Numbered (64 + 64 * p + q)

    numbered : (c : ℕ) (t : State) → choose R s c ≡ some t → Numbered c
    unfolding number_of
    numbered c t h = go d.0 (choice_is c d.0 d.1) (in_range R L s t d.0 i (view R s t d.0 d.2))
      where
        d : (k : Choice) × (choice_of c ≡ some k) × (step R s k ≡ some t)
        d = choose_is R s t c h

        go : (k : Choice) → c ≡ number_of k → InRange R L k → Numbered c
        go (process z) e r = subst Numbered (sym e) (of_process_lem z r)
        go (hand p q) e r = subst Numbered (sym e) (of_channel_lem p q r.0 r.1)

    -- so a number is not allowed if none of the run's numbers up to it is
    not_allowed : (c : ℕ) → (Numbered c → choose R s c ≡ none) → choose R s c ≡ none
    not_allowed c f = go (choose R s c) refl
      where
        go : (o : Option State) → choose R s c ≡ o → choose R s c ≡ none
        go none e = e
        go (some t) e = f (numbered c t e)

    by_process : (n z : ℕ) → first (of_process s) n ≡ none → z < n → choose R s z ≡ none
    by_process n z h l = named_none z (choose R s z) (first_none (of_process s) n h z l)

    by_sender : (p q : ℕ) → of_sender s p ≡ none → q < R.trace.procs → choose R s (64 + 64 * p + q) ≡ none
    by_sender p q h l = named_none (64 + 64 * p + q) (choose R s (64 + 64 * p + q)) (first_none (of_channel s p) R.trace.procs h q l)

    pub lowest_none : lowest R s ≡ none → Complete R s
    unfolding lowest
    lowest_none h c = not_allowed c (go c)
      where
        o : (first (of_process s) R.trace.procs ≡ none) × (first (of_sender s) R.trace.procs ≡ none)
        o = or_none_lem (first (of_process s) R.trace.procs) (first (of_sender s) R.trace.procs) h

        go : (c : ℕ) → Numbered c → choose R s c ≡ none
        go c (of_process_lem z l) = by_process R.trace.procs z o.0 l
        go c (of_channel_lem p q l m) = by_sender p q (first_none (of_sender s) R.trace.procs o.1 p l) m

    pub lowest_some : (r : ℕ × State) → lowest R s ≡ some r → (choose R s r.0 ≡ some r.1) × ((c : ℕ) → c < r.0 → choose R s c ≡ none)
    unfolding lowest
    lowest_some r h = on (or_some (first (of_process s) R.trace.procs) (first (of_sender s) R.trace.procs) r h)
        (λ u. let f = first_some (of_process s) R.trace.procs r u in
        let z = f.0 in
        let g = named_some z (choose R s z) r f.2 in
        (rw g.0 at g.1, λ c l. not_allowed c (before_process z f.1 f.3 c (omega (arith, g.0)))))
        (λ u. let f = first_some (of_sender s) R.trace.procs r u.1 in
        let p = f.0 in
        let e = first_some (of_channel s p) R.trace.procs r f.2 in
        let q = e.0 in
        let g = named_some (64 + 64 * p + q) (choose R s (64 + 64 * p + q)) r e.2 in
        (rw g.0 at g.1, λ c l. not_allowed c (before_channel p q e.1 u.0 f.3 e.3 c (omega (arith, g.0)))))
      where
        before_process : (z : ℕ) → z < R.trace.procs → ((y : ℕ) → y < z → of_process s y ≡ none) → (c : ℕ) → c < z → Numbered c → choose R s c ≡ none
        before_process z l f c h (of_process_lem y k) = named_none y (choose R s y) (f y h)
        before_process z l f c h (of_channel_lem p q k m) = absurd (omega (arith, L.few))

        before_channel : (p q : ℕ) → q < R.trace.procs → first (of_process s) R.trace.procs ≡ none → ((y : ℕ) → y < p → of_sender s y ≡ none)
            → ((y : ℕ) → y < q → of_channel s p y ≡ none) → (c : ℕ) → c < 64 + 64 * p + q → Numbered c → choose R s c ≡ none
        before_channel p q l o f g c h (of_process_lem y k) = by_process R.trace.procs y o k
        before_channel p q l o f g c h (of_channel_lem a b k m) = on (le? p a)
            (λ u. let e : a ≡ p = omega (arith, L.few) in
            subst (λ x. choose R s (64 + 64 * x + b) ≡ none) (sym e) (named_none (64 + 64 * p + b) (choose R s (64 + 64 * p + b)) (g b (omega (arith, L.few)))))
            (λ u. by_sender a b (f a u) m)

    pub lowest_iff : (lowest R s ≡ none) ↔ Complete R s
    lowest_iff = (lowest_none, λ c. go c (lowest R s) refl)
      where
        go : Complete R s → (o : Option (ℕ × State)) → lowest R s ≡ o → lowest R s ≡ none
        go c none e = e
        go c (some r) e = absurd (none-ne-some r.1 (sym (c r.0) ∙ (lowest_some r e).0))

  module _ (L : Laws R) where
    lowest_complete : (n j : ℕ) (s : State) → Inv R s → work R s ≤ n → (t : State) × (carry R s j (lowest_from R n s) ≡ carried_out t) × Complete R t
    unfolding lowest_from carry
    lowest_complete zero j s i h = go (lowest R s) refl
      where
        go : (o : Option (ℕ × State)) → lowest R s ≡ o → (t : State) × (carry R s j [] ≡ carried_out t) × Complete R t
        go none e = (s, refl, lowest_none L s i e)
        go (some r) e =
            let d = choose_is R s r.1 r.0 (lowest_some L s i r e).0 in
            absurd (omega (arith, step_work R L s r.1 d.0 i (view R s r.1 d.0 d.2)))
    lowest_complete (suc n) j s i h = go (lowest R s) refl (λ t k l. lowest_complete n (suc j) t k l)
      where
        go : (o : Option (ℕ × State)) → lowest R s ≡ o
            → ((t : State) → Inv R t → work R t ≤ n → (u : State) × (carry R t (suc j) (lowest_from R n t) ≡ carried_out u) × Complete R u)
            → (t : State) × (carry R s j (if_some o [] (λ r. r.0 ∷ lowest_from R n r.1)) ≡ carried_out t) × Complete R t
        go none e f = (s, refl, lowest_none L s i e)
        go (some r) e f =
            let k = (lowest_some L s i r e).0 in
            let d = choose_is R s r.1 r.0 k in
            let w = step_work R L s r.1 d.0 i (view R s r.1 d.0 d.2) in
            let g = f r.1 (inv_step R s r.1 d.0 d.2 i) (omega arith) in
            (g.0, rw k g.1, g.2)

    pub lowest_order_lem : (s : State) × (run R (lowest_order R) ≡ carried_out s) × Complete R s
    unfolding run
    lowest_order_lem = lowest_complete (size R.trace + size R.trace) 1 (start R) (inv_start R L) (work_bound R L)
