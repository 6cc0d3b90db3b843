-- Orders of choice numbers: what they reach, when they are complete, and the theorem: a complete order leaves the
-- record of the run without failure exactly where the line loses no message. From the laws of the run, by Loss, Ready
-- and Steps.
use mathlib.Core.Path.{◌≡◌, refl, sym, ◌∙◌, ap, subst}
use mathlib.Core.Logic.{◌↔◌, ◌≢◌}
use mathlib.Core.Bool.{true, false}
use mathlib.Core.List.{List, [], ◌∷◌, map}
use mathlib.Core.Option.{Option, none, some, bind, some-injective, none-ne-some}
use Prim.Native.Nat.{ℕ, zero, suc, ◌+◌, ◌-◌, ◌*◌, ◌/◌, ◌%◌, ◌≤◌, ◌<◌}
use native.Mathlib.Omega.{arith}
use lib.ListN.{length, get_or, take}
use lib.Dec.{ltb}
use lib.Arith.{digits_div, digits_mod}
use borrow.Author.Tests.{lt-ltb, le-ltb, ltb-false}
use Rattle.theory.specs.Lists.{keep, if_some}
use Rattle.theory.specs.Events.{size, sent, rcvd}
use Rattle.theory.specs.Line.{Run, lost, LossFree}
use Rattle.theory.specs.Replay.{Choice, process, hand, State, taken_by, start, step}
use Rattle.theory.specs.Record.{entry, delivered, faultless, SameRecord}
use Rattle.theory.specs.Order.{choice_of, Outcome, carried_out, refused, is_none, choose, carry, run, steps, Complete, complete, most_steps}
use Rattle.theory.specs.Inner.Orders.{Allowed}
use Rattle.theory.specs.Inner.Laws.{Laws}
use Rattle.theory.proofs.Base.{by, on, clash, le?, iv_prefix, all_true, all_at}
use Rattle.theory.proofs.Classes.{NoLoss, no_loss, loss_free_lem, lost_is}
use Rattle.theory.proofs.Flow.{Did, did_other, did_send, did_recv, did_hand, view, Reach, here, next}
use Rattle.theory.specs.Inner.Flow.{number_to_take, Inv}
use Rattle.theory.proofs.Loss.{taken_iv, inv, flow_all, same_no_loss, same_no_loss_at}
use Rattle.theory.proofs.Progress.{CanStep}
use Rattle.theory.proofs.Ready.{progress, all_done}
use Rattle.theory.proofs.Steps.{work, process_in_lem, hand_in, reach_work, reach_bound}

-- ---- Choice numbers

unfoldable pub number_of : Choice → ℕ
number_of (process z) = z
number_of (hand p q) = 64 + 64 * p + q

pub choice_process : (z : ℕ) → z < 64 → choice_of z ≡ some (process z)
unfolding choice_of
choice_process z h = let t : ltb z 64 ≡ true = lt-ltb z 64 h in rw t

pub choice_hand : (p q : ℕ) → p < 64 → q < 64 → choice_of (64 + 64 * p + q) ≡ some (hand p q)
unfolding choice_of
choice_hand p q a b =
    let t : ltb (64 + 64 * p + q) 64 ≡ false = le-ltb (64 + 64 * p + q) 64 (omega arith) in
    let u : ltb (64 + 64 * p + q) 4160 ≡ true = lt-ltb (64 + 64 * p + q) 4160 (omega arith) in
    let e : 64 + 64 * p + q - 64 ≡ p * 64 + q = omega arith in
    rw (t, u, e, digits_div p b, digits_mod p b)

-- a choice's number, and both ways between the two
pub choice_is : (c : ℕ) (k : Choice) → choice_of c ≡ some k → c ≡ number_of k
unfolding choice_of number_of
choice_is c k h = by (ltb c 64)
    (λ t. let e : process c ≡ k = some-injective _ _ (rw t at h) in rw (← e))
    (λ t. by (ltb c 4160)
    (λ u. let e : hand ((c - 64) / 64) ((c - 64) % 64) ≡ k = some-injective _ _ (rw (t, u) at h) in rw (← e) (omega (arith, ltb-false c 64 t)))
    (λ u. absurd (none-ne-some k (rw (t, u) at h))))

pub none_high : (c : ℕ) → 4160 ≤ c → choice_of c ≡ none
unfolding choice_of
none_high c h =
    let t : ltb c 64 ≡ false = le-ltb c 64 (omega arith) in
    let u : ltb c 4160 ≡ false = le-ltb c 4160 h in
    rw (t, u)

is_none_is : {A : Type 0} (o : Option A) → is_none o ≡ true → o ≡ none
is_none_is none h = refl
is_none_is (some a) h = clash {b = false} h refl

module _ (R : Run) where
  pub choose_is : (s t : State) (c : ℕ) → choose R s c ≡ some t → (k : Choice) × (choice_of c ≡ some k) × (step R s k ≡ some t)
  unfolding choose bind
  choose_is s t c h = go (choice_of c) refl h
    where
      go : (o : Option Choice) → choice_of c ≡ o → bind o (step R s) ≡ some t → (k : Choice) × (choice_of c ≡ some k) × (step R s k ≡ some t)
      go none e k = absurd (none-ne-some t k)
      go (some k) e l = (k, e, l)

  pub choose_of : (s : State) (c : ℕ) (k : Choice) → choice_of c ≡ some k → choose R s c ≡ step R s k
  unfolding choose bind
  choose_of s c k e = rw e

  pub choose_none : (s : State) (c : ℕ) → choice_of c ≡ none → choose R s c ≡ none
  unfolding choose bind
  choose_none s c e = rw e

  -- ---- An order that is carried out reaches a state in as many steps as it is long

  reaches : (s t : State) (m i : ℕ) (ns : List ℕ) → Reach R s m → carry R s i ns ≡ carried_out t → Reach R t (m + length ns)
  unfolding carry
  reaches s t m i [] r h =
      let e : s ≡ t = cc in
      let j : m + 0 ≡ m = omega arith in
      rw j (subst (λ u. Reach R u m) e r)
  reaches s t m i (c ∷ ns) r h = go (choose R s c) refl h (λ u k j. reaches u t (suc m) (suc i) ns k j)
    where
      go : (o : Option State) → choose R s c ≡ o → if_some o (refused i) (λ u. carry R u (suc i) ns) ≡ carried_out t
          → ((u : State) → Reach R u (suc m) → carry R u (suc i) ns ≡ carried_out t → Reach R t (suc m + length ns)) → Reach R t (m + suc (length ns))
      go none e k f = absurd (let z : ◌≡◌ {A = ℕ} 0 1 = cc in omega arith)
      go (some u) e k f =
          let d = choose_is s u c e in
          let j : m + suc (length ns) ≡ suc m + length ns = omega arith in
          rw j (f u (next d.0 r d.2) k)

  pub run_reaches : (order : List ℕ) (s : State) → run R order ≡ carried_out s → Reach R s (length order)
  unfolding run
  run_reaches order s h =
      let e : 0 + length order ≡ length order = omega arith in
      rw e at (reaches (start R) s 0 1 order here h)

  -- an order that is refused at place i: the choices before it are carried out, and choice i is not allowed in what
  -- they leave
  refused_at : (s : State) (i j : ℕ) (ns : List ℕ) → carry R s i ns ≡ refused j
      → (m : ℕ) × (u : State) × (j ≡ i + m) × (m < length ns) × (carry R s i (take m ns) ≡ carried_out u) × (choose R u (get_or ns m 0) ≡ none)
  unfolding carry
  refused_at s i j [] h = absurd (let z : ◌≡◌ {A = ℕ} 0 1 = cc in omega arith)
  refused_at s i j (c ∷ ns) h = go (choose R s c) refl h (λ u k. refused_at u (suc i) j ns k)
    where
      go : (o : Option State) → choose R s c ≡ o → if_some o (refused i) (λ u. carry R u (suc i) ns) ≡ refused j
          → ((u : State) → carry R u (suc i) ns ≡ refused j
          → (m : ℕ) × (v : State) × (j ≡ suc i + m) × (m < length ns) × (carry R u (suc i) (take m ns) ≡ carried_out v) × (choose R v (get_or ns m 0) ≡ none))
          → (m : ℕ) × (v : State) × (j ≡ i + m) × (m < suc (length ns)) × (carry R s i (take m (c ∷ ns)) ≡ carried_out v) × (choose R v (get_or (c ∷ ns) m 0) ≡ none)
      go none e k f = let q : j ≡ i = cc in (0, s, omega arith, omega arith, refl, e)
      go (some u) e k f =
          let r = f u k in
          (suc r.0, r.1, omega (arith, r.2), omega (arith, r.3), rw e r.4, r.5)

  pub run_refused : (order : List ℕ) (i : ℕ) → run R order ≡ refused i
      → (m : ℕ) × (s : State) × (i ≡ suc m) × (m < length order) × (run R (take m order) ≡ carried_out s) × (choose R s (get_or order m 0) ≡ none)
  unfolding run
  run_refused order i h = let r = refused_at (start R) 1 i order h in (r.0, r.1, omega (arith, r.2), r.3, r.4, r.5)

  -- an order that is carried out: each choice is allowed in what those before it leave, and does its step
  abbrev Steps : State → ℕ → List ℕ → ℕ → Type 0
  Steps s i ns m =
      (u v : State) × (carry R s i (take m ns) ≡ carried_out u) × (choose R u (get_or ns m 0) ≡ some v) × (carry R s i (take (suc m) ns) ≡ carried_out v)

  steps_at : (s t : State) (i : ℕ) (ns : List ℕ) → carry R s i ns ≡ carried_out t → (m : ℕ) → m < length ns → Steps s i ns m
  unfolding carry
  steps_at s t i [] h m l = absurd (let z : ⊥ = omega arith in z)
  steps_at s t i (c ∷ ns) h m l = go (choose R s c) refl h m l (λ u k. steps_at u t (suc i) ns k)
    where
      go : (o : Option State) → choose R s c ≡ o → if_some o (refused i) (λ u. carry R u (suc i) ns) ≡ carried_out t → (m : ℕ) → m < suc (length ns)
          → ((u : State) → carry R u (suc i) ns ≡ carried_out t → (m : ℕ) → m < length ns → Steps u (suc i) ns m) → Steps s i (c ∷ ns) m
      go none e k m l f = absurd (let z : ◌≡◌ {A = ℕ} 0 1 = cc in omega arith)
      go (some u) e k zero l f = (s, u, refl, e, rw e)
      go (some u) e k (suc m) l f = let r = f u k m (omega arith) in (r.0, r.1, rw e r.2, r.3, rw e r.4)

  pub run_steps : (order : List ℕ) (s : State) → run R order ≡ carried_out s → (m : ℕ) → m < length order
      → (u v : State) × (run R (take m order) ≡ carried_out u) × (choose R u (get_or order m 0) ≡ some v) × (run R (take (suc m) order) ≡ carried_out v)
  unfolding run
  run_steps order s h m l = steps_at (start R) s 1 order h m l

  pub run_each : (order : List ℕ) → ((s : State) × (run R order ≡ carried_out s))
      ↔ ((m : ℕ) → m < length order → (s : State) × (run R (take m order) ≡ carried_out s) × Allowed R s (get_or order m 0))
  run_each order = (
    λ r m l. let g = run_steps order r.0 r.1 m l in (g.0, g.2, (g.1, g.3)),
    λ f. go f (run R order) refl,
  )
    where
      go : ((m : ℕ) → m < length order → (s : State) × (run R (take m order) ≡ carried_out s) × Allowed R s (get_or order m 0))
          → (o : Outcome) → run R order ≡ o → (s : State) × (run R order ≡ carried_out s)
      go f (carried_out s) e = (s, e)
      go f (refused i) e =
          let r = run_refused order i e in
          let g = f r.0 r.3 in
          let same : r.1 ≡ g.0 = cc in
          let no : choose R g.0 (get_or order r.0 0) ≡ none = subst (λ (u : State). choose R u (get_or order r.0 0) ≡ none) same r.5 in
          absurd (none-ne-some g.2.0 (sym no ∙ g.2.1))

  -- ---- Complete, as it can be tested

  pub complete_iff : (s : State) → (complete R s ≡ true) ↔ Complete R s
  unfolding complete
  complete_iff s = (
    λ h c. on (le? 4160 c) (λ l. choose_none s c (none_high c l)) (λ l. is_none_is (choose R s c) (all_at 4160 (λ c. is_none (choose R s c)) h c l)),
    λ h. all_true 4160 (λ c. is_none (choose R s c)) (λ c l. rw (h c)),
  )

  module _ (L : Laws R) where
    abbrev pub InRange : Choice → Type 0
    InRange (process z) = z < R.trace.procs
    InRange (hand p q) = (p < R.trace.procs) × (q < R.trace.procs)

    pub in_range : (s t : State) (c : Choice) → Inv R s → Did R s c t → InRange c
    in_range s t c i (did_other {z = z} {e = e} {es = es} h k) = process_in_lem R L s i z e es h
    in_range s t c i (did_send {z = z} {e = e} {q = r} {es = es} h k l) = process_in_lem R L s i z e es h
    in_range s t c i (did_recv {z = z} {e = e} {p = r} {m = m} {es = es} {ms = ms} h k l) = process_in_lem R L s i z e es h
    in_range s t c i (did_hand {p = p} {q = q} {m = m} {ms = ms} h) = hand_in R L p q m (rw h at (i.lefts p q)).0

    number_choice : (k : Choice) → InRange k → choice_of (number_of k) ≡ some k
    unfolding number_of
    number_choice (process z) h = choice_process z (omega (arith, L.few))
    number_choice (hand p q) h = choice_hand p q (omega (arith, h.0, L.few)) (omega (arith, h.1, L.few))

    -- an allowed choice has an allowed number
    number_allowed : (s : State) → Inv R s → CanStep R s → (c : ℕ) × Allowed R s c
    number_allowed s i a =
        let k = a.0 in
        (number_of k, (a.1, choose_of s (number_of k) k (number_choice k (in_range s a.1 k i (view R s a.1 k a.2))) ∙ a.2))

    -- no number is allowed: no choice is
    pub stuck : (s : State) → Inv R s → Complete R s → (k : Choice) → step R s k ≡ none
    stuck s i h k = go (step R s k) refl
      where
        go : (o : Option State) → step R s k ≡ o → step R s k ≡ none
        go none e = e
        go (some t) e = sym (choose_of s (number_of k) k (number_choice k (in_range s t k i (view R s t k e)))) ∙ h (number_of k)

    full : NoLoss R → (s : State) → Inv R s → ((k : Choice) → step R s k ≡ none) → (p q : ℕ) → s.got p q ≡ taken_by R p q (size R.trace)
    unfolding number_to_take keep
    full N s i c p q =
        let n = size R.trace in
        let d = all_done R L N s i c q in
        let a : length (s.got p q) + 0 ≡ rcvd R.trace p q n = rw d at (i.taken p q) in
        let b : length (s.got p q) ≡ rcvd R.trace p q n = omega arith in
        iv_prefix (s.got p q) _ 0 (sent R.trace p q n) (i.flows p q ∙ flow_all R L N p q) ∙ rw b (sym (taken_iv R p q n))

    -- ---- The theorems

    module _ (order : List ℕ) (s : State) (h : run R order ≡ carried_out s) where
      i : Inv R s
      i = inv R L s (length order) (run_reaches order s h)

      pub order_iff : Complete R s → SameRecord R s ↔ LossFree R
      unfolding delivered faultless
      order_iff c = (
        λ e. loss_free_lem R L (same_no_loss R L s i e),
        λ f p q. ap (map (entry R p q)) (full (no_loss R L f) s i (stuck s i c) p q),
      )

      pub order_differs : (p q k : ℕ) → lost R p q k ≡ true → delivered R s p q ≢ faultless R p q
      order_differs p q k l e = same_no_loss_at R L s i p q e k (lost_is R L p q k l)

      pub order_progress : LossFree R → (z e : ℕ) (es : List ℕ) → s.todo z ≡ e ∷ es → (c : ℕ) × Allowed R s c
      order_progress f z e es k = number_allowed s i (progress R L (no_loss R L f) s i z e es k)

      pub order_done : LossFree R → Complete R s → (z : ℕ) → s.todo z ≡ []
      order_done f c z = all_done R L (no_loss R L f) s i (stuck s i c) z

      pub order_work : work R (start R) ≡ steps order + work R s
      order_work = reach_work R L s (length order) (run_reaches order s h)

      pub order_bound : steps order ≤ most_steps R.trace
      order_bound = reach_bound R L s (length order) (run_reaches order s h)
