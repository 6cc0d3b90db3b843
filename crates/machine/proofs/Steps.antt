-- One law for each way out of the functions that test a choice or take it, over the values that the code has there.
use mathlib.Core.Path.{◌≡◌, refl, sym, ◌∙◌}
use mathlib.Core.Bool.{Bool, true, false, not}
use mathlib.Core.List.{List}
use Prim.Native.Nat.{ℕ, ◌+◌, ◌-◌, ◌*◌, ◌/◌, ◌≤◌, ◌<◌}
use native.Mathlib.Omega.{arith}
use native.Mathlib.Numerals.{add-one}
use lib.ListN.{get_or}
use lib.Dec.{ltb, eqb}
use borrow.Author.Tests.{lt-ltb, le-ltb, eq-eqb, ne_eqb}
use Rattle.words.proofs.Cases.{by_bool}
use Rattle.trace.specs.Kind.{number_of_kind}
use Rattle.trace.specs.declared.kinds.Kind.{Kind}
use Rattle.trace.specs.declared.kinds.Kind.TheVariants.{Done, Send, Receive, Save}
use Rattle.machine.specs.Inner.Words.{kept_phase, current_base, low_place, no_phase, cur_w, orp_w, take_w, put_w, low_w, send_ok, event_ok, process_ok, hand_ok, allowed_w, least_with, low_of, Bounded}
use Rattle.columns.specs.Inner.Full.{kind_w, peer_w, phase_w}

pub bound : (a : List ℕ) (k : ℕ) → Bounded a → current_base ≤ k → k < low_place → get_or a k 0 < 2049
unfolding Bounded
bound a k b h j = b k h j

-- a kind by its number
pub kind_send : (k : Kind) → number_of_kind k ≡ 1 → k ≡ Send
kind_send Done h = absurd (omega (arith, h))
kind_send Send h = refl
kind_send Receive h = absurd (omega (arith, h))
kind_send Save h = absurd (omega (arith, h))

pub kind_receive : (k : Kind) → number_of_kind k ≡ 2 → k ≡ Receive
kind_receive Done h = absurd (omega (arith, h))
kind_receive Send h = absurd (omega (arith, h))
kind_receive Receive h = refl
kind_receive Save h = absurd (omega (arith, h))

module _ (t g a : List ℕ) (z e k p : ℕ) (ek : k ≡ kind_w t e) (ep : p ≡ peer_w t e) where
  pub event_send : (m : ℕ) (r : Bool) → k ≡ 1 → m ≡ put_w a (64 * z + p) → r ≡ send_ok (get_or g (64 + z) 0) m → r ≡ event_ok t g a z e
  unfolding event_ok
  event_send m r h em er = rw (← ek, ← ep, eq-eqb k 1 h) (rw em at er)

  pub event_recv : (k ≡ 1 → ⊥) → k ≡ 2 → not (eqb (take_w a (64 * p + z)) (put_w a (64 * p + z))) ≡ event_ok t g a z e
  unfolding event_ok
  event_recv n h = rw (← ek, ← ep, ne_eqb k 1 n, eq-eqb k 2 h)

  pub event_other : (k ≡ 1 → ⊥) → (k ≡ 2 → ⊥) → true ≡ event_ok t g a z e
  unfolding event_ok
  event_other n h = rw (← ek, ne_eqb k 1 n, ne_eqb k 2 h)

module _ (t g a : List ℕ) (z e : ℕ) (ee : e ≡ cur_w a z) where
  pub process_none : e ≡ 0 → false ≡ process_ok t g a z
  unfolding process_ok
  process_none h = rw (eq-eqb (cur_w a z) 0 (sym ee ∙ h))

  pub process_shut : (e ≡ 0 → ⊥) → low_w a ≤ get_or g z 0 → false ≡ process_ok t g a z
  unfolding process_ok
  process_shut n h = rw (ne_eqb (cur_w a z) 0 (λ q. n (ee ∙ q)), le-ltb (get_or g z 0) (low_w a) h)

  pub process_open : (e ≡ 0 → ⊥) → get_or g z 0 < low_w a → (r : Bool) → r ≡ event_ok t g a z e → r ≡ process_ok t g a z
  unfolding process_ok
  process_open n h r er = rw (ne_eqb (cur_w a z) 0 (λ q. n (ee ∙ q)), lt-ltb (get_or g z 0) (low_w a) h, ← ee) er

module _ (t g a : List ℕ) (p c m : ℕ) (r : Bool) (em : m ≡ put_w a c) (er : r ≡ send_ok (get_or g (64 + p) 0) m) where
  pub kept_none : r ≡ true → no_phase ≡ kept_phase t g a p c
  unfolding kept_phase
  kept_none h = rw (← em, ← er, h)

  pub kept_some : r ≡ false → phase_w t m ≡ kept_phase t g a p c
  unfolding kept_phase
  kept_some h = rw (← em, ← er, h)

-- a kept message is ready exactly where its phase is below the least of an orphan not sent again
pub hand_kept : (t g a : List ℕ) (p c f : ℕ) → low_w a ≤ no_phase → f ≡ kept_phase t g a p c → ltb f (low_w a) ≡ hand_ok t g a p c
unfolding kept_phase hand_ok
hand_kept t g a p c f h e = by_bool (send_ok (get_or g (64 + p) 0) (put_w a c))
    (λ k. let n : f ≡ no_phase = e ∙ rw k in rw (k, n, le-ltb no_phase (low_w a) h))
    (λ k. let n : f ≡ phase_w t (put_w a c) = e ∙ rw k in rw (k, n))

module _ (t g a : List ℕ) (c : ℕ) where
  pub allowed_process : c < 64 → (r : Bool) → r ≡ process_ok t g a c → r ≡ allowed_w t g a c
  unfolding allowed_w
  allowed_process h r er = rw (lt-ltb c 64 h) er

  pub allowed_hand : 64 ≤ c → c < 4160 → (r : Bool) → r ≡ hand_ok t g a ((c - 64) / 64) (c - 64) → r ≡ allowed_w t g a c
  unfolding allowed_w
  allowed_hand h k r er = rw (le-ltb c 64 h, lt-ltb c 4160 k) er

  pub allowed_none : 4160 ≤ c → false ≡ allowed_w t g a c
  unfolding allowed_w
  allowed_none k = rw (le-ltb c 64 (omega arith), le-ltb c 4160 k)

-- the loop over the processes
pub low_next : (t a : List ℕ) (z o low r : ℕ) → o ≡ orp_w a z → low ≡ low_of t a z → r ≡ least_with t o low → r ≡ low_of t a (z + 1)
unfolding low_of
low_next t a z o low r eo el er = rw (add-one z, ← eo, ← el) er
