-- What a fit event has, one law for each way out of the functions that judge an event by counters, and that these judge
-- by the events counted.
use Prim.Native.Nat.{ℕ, ◌+◌, ◌*◌, ◌<◌, ◌≤◌}
use mathlib.Core.Path.{◌≡◌, refl, ◌∙◌}
use mathlib.Core.List.{List, []}
use mathlib.Core.Bool.{Bool, true, false, cond}
use native.Mathlib.Omega.{arith}
use lib.Dec.{leb, eqb}
use lib.ListN.{get_or}
use borrow.Author.Tests.{leb-false, eqb-false, le-leb, lt-leb, eq-eqb, ne_eqb}
use Rattle.trace.specs.declared.Event.{Event}
use Rattle.trace.specs.declared.Event.TheVariants.{Send, Recv, Save, Done}
use Rattle.trace.specs.Trace.{sends_in, recvs_in, saves_in, dones_in}
use Rattle.trace.specs.Fit.{event_fault}
use Rattle.trace.specs.Inner.Tally.{Tally, fault_by, number_of}
use Rattle.trace.specs.declared.Unfit.{Unfit}
use Rattle.trace.specs.declared.Unfit.TheVariants.{NoProcess, Itself, NothingInTransit, TooManySaves, NothingToFinish}
use Rattle.words.proofs.Cases.{by_lt, by_eq}

-- what is wrong has a number
pub unfit_some : (u : Unfit) → number_of u ≡ 0 → ⊥
unfit_some NoProcess e = omega arith
unfit_some Itself e = omega arith
unfit_some NothingInTransit e = omega arith
unfit_some TooManySaves e = omega arith
unfit_some NothingToFinish e = omega arith

-- no test said yes
pub or_zero : (b : Bool) (k rest : ℕ) → 0 < k → cond b k rest ≡ 0 → (b ≡ false) × (rest ≡ 0)
or_zero true k rest h e = absurd (let z : ⊥ = omega arith in z)
or_zero false k rest h e = (refl, e)

module _ (n : ℕ) (es : List Event) (a b : ℕ) where
  pub send_fit : (v : ℕ) → event_fault n es (Send a b v) ≡ 0 → (a < n) × (b < n) × (a ≡ b → ⊥)
  unfolding event_fault
  send_fit v e =
      let x = or_zero (leb n a) 3 (cond (leb n b) 3 (cond (eqb a b) 4 0)) (omega arith) e in
      let y = or_zero (leb n b) 3 (cond (eqb a b) 4 0) (omega arith) x.1 in
      let z = or_zero (eqb a b) 4 0 (omega arith) y.1 in
      (leb-false n a x.0, leb-false n b y.0, eqb-false a b z.0)

  pub recv_fit : event_fault n es (Recv a b) ≡ 0 → (a < n) × (b < n) × (a ≡ b → ⊥) × (recvs_in b a es < sends_in b a es)
  unfolding event_fault
  recv_fit e =
      let w : ℕ = cond (leb (sends_in b a es) (recvs_in b a es)) 5 0 in
      let x = or_zero (leb n a) 3 (cond (leb n b) 3 (cond (eqb a b) 4 w)) (omega arith) e in
      let y = or_zero (leb n b) 3 (cond (eqb a b) 4 w) (omega arith) x.1 in
      let z = or_zero (eqb a b) 4 w (omega arith) y.1 in
      let u = or_zero (leb (sends_in b a es) (recvs_in b a es)) 5 0 (omega arith) z.1 in
      (leb-false n a x.0, leb-false n b y.0, eqb-false a b z.0, leb-false (sends_in b a es) (recvs_in b a es) u.0)

module _ (n : ℕ) (es : List Event) (a : ℕ) where
  pub save_fit : event_fault n es (Save a) ≡ 0 → (a < n) × (saves_in a es < 30)
  unfolding event_fault
  save_fit e =
      let x = or_zero (leb n a) 3 (cond (leb 30 (saves_in a es)) 6 0) (omega arith) e in
      let y = or_zero (leb 30 (saves_in a es)) 6 0 (omega arith) x.1 in
      (leb-false n a x.0, leb-false 30 (saves_in a es) y.0)

  pub done_fit : event_fault n es (Done a) ≡ 0 → (a < n) × (dones_in a es < saves_in a es)
  unfolding event_fault
  done_fit e =
      let x = or_zero (leb n a) 3 (cond (leb (saves_in a es) (dones_in a es)) 15 0) (omega arith) e in
      let y = or_zero (leb (saves_in a es) (dones_in a es)) 15 0 (omega arith) x.1 in
      (leb-false n a x.0, leb-false (saves_in a es) (dones_in a es) y.0)

-- ---- The ways out of the functions that judge an event by counters

module _ (n : ℕ) (counts : List ℕ) (a b : ℕ) where
  -- `recv_fault`: f is what is wrong with the pair
  pub recv_1 : (f : ℕ) → f ≡ fault_by n counts (Send a b 0) → (f ≡ 0 → ⊥) → f ≡ fault_by n counts (Recv a b)
  unfolding fault_by
  recv_1 f e h = e ∙ pick (leb n a) (leb n b) (eqb a b) (λ q. h (e ∙ q))
    where
      pick : (x y z : Bool) → (cond {A = ℕ} x 3 (cond y 3 (cond z 4 0)) ≡ 0 → ⊥)
          → cond {A = ℕ} x 3 (cond y 3 (cond z 4 0)) ≡ cond x 3 (cond y 3 (cond z 4 (cond (eqb (get_or counts (64 * b + a) 0) 0) 5 0)))
      pick true y z k = refl
      pick false true z k = refl
      pick false false true k = refl
      pick false false false k = absurd (k refl)

  pub pair_fit : fault_by n counts (Send a b 0) ≡ 0 → (a < n) × (b < n) × (a ≡ b → ⊥)
  pair_fit f = send_fit n [] a b 0 (f_same ∙ f)
    where
      f_same : event_fault n [] (Send a b 0) ≡ fault_by n counts (Send a b 0)
      f_same = unfold event_fault in unfold fault_by in refl

  module _ (f : fault_by n counts (Send a b 0) ≡ 0) where
    pub recv_2 : get_or counts (64 * b + a) 0 ≡ 0 → 5 ≡ fault_by n counts (Recv a b)
    unfolding fault_by
    recv_2 z = let p = pair_fit f in rw (lt-leb n a p.0, lt-leb n b p.1, ne_eqb a b p.2, eq-eqb (get_or counts (64 * b + a) 0) 0 z)

    pub recv_3 : (get_or counts (64 * b + a) 0 ≡ 0 → ⊥) → 0 ≡ fault_by n counts (Recv a b)
    unfolding fault_by
    recv_3 z = let p = pair_fit f in rw (lt-leb n a p.0, lt-leb n b p.1, ne_eqb a b p.2, ne_eqb (get_or counts (64 * b + a) 0) 0 z)

-- ---- What the counters say is what the events that were counted say

module _ (n : ℕ) (small : n ≤ 64) (counts : List ℕ) (es : List Event) (t : Tally counts es) where
  pub fault_counted : (e : Event) → fault_by n counts e ≡ event_fault n es e
  unfolding fault_by event_fault
  fault_counted (Send a b v) = refl
  fault_counted (Recv a b) = by_lt a n
      (λ l. by_lt b n
      (λ m. let q = t.transit b a (omega arith) (omega arith) in
      by_eq (get_or counts (64 * b + a) 0) 0
      (λ z. rw (eq-eqb (get_or counts (64 * b + a) 0) 0 z, le-leb (sends_in b a es) (recvs_in b a es) (omega (arith, q, z))))
      (λ z. rw (ne_eqb (get_or counts (64 * b + a) 0) 0 z, lt-leb (sends_in b a es) (recvs_in b a es) (omega (arith, q, z)))))
      (λ m. rw (le-leb n b m)))
      (λ l. rw (le-leb n a l))
  fault_counted (Save a) = by_lt a n (λ l. rw (t.saved a (omega arith))) (λ l. rw (le-leb n a l))
  fault_counted (Done a) = by_lt a n (λ l. rw (t.saved a (omega arith), t.finished a (omega arith))) (λ l. rw (le-leb n a l))
