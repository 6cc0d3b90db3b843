-- The numbers of the columns are small: an event's number is at most 2,048, a phase at most one more than the events so
-- far.
use Prim.Native.Nat.{ℕ, zero, suc, ◌<◌, ◌≤◌}
use mathlib.Core.Path.{◌≡◌, refl}
use mathlib.Core.Bool.{Bool, true, false, ◌&&◌}
use native.Mathlib.Omega.{arith}
use lib.Dec.{ltb, leb}
use Rattle.words.proofs.Cases.{by_eq, by_lt, and_left, and_right}
use Rattle.trace.specs.declared.Event.{Event}
use Rattle.trace.specs.declared.Event.TheVariants.{Send, Recv, Save, Done}
use Rattle.trace.specs.Trace.{Trace}
use Rattle.theory.specs.Events.{size, event_at, send_of}
use Rattle.theory.specs.Epochs.{joined, notes, epoch_at, phase_at, rule_of}
use Rattle.theory.proofs.Base.{place_le}
use Rattle.theory.proofs.WellFormed.{Valid}
use Rattle.theory.proofs.Events.{partner}
use Rattle.theory.proofs.Epochs.{epoch_is}
use Rattle.columns.proofs.Moves.{Local, send_phase, recv_here, recv_phase_lem, recv_phase_other, save_local, done_local, local_phase, local_phase_other}
use mathlib.Core.List.{[]}
use borrow.Author.Tests.{leb-true}
use Rattle.trace.specs.Fit.{all_fit, well_formed}

joined_most : (b : Bool) (f m n : ℕ) → f ≤ n → m < n → joined b f m ≤ n
joined_most true f m n h k = omega arith
joined_most false f m n h k = omega arith

module _ (t : Trace) (A : Valid t) where
  pub send_of_most : (p q k : ℕ) → send_of t p q k ≤ size t
  unfolding send_of
  send_of_most p q k = place_le _ k (size t)

  phase_start : (z : ℕ) → phase_at t (rule_of t) z 0 ≤ 1
  unfolding notes
  phase_start z = omega arith

  -- the phases after event x + 1, from those up to x
  local_next : (x : ℕ) → ((y : ℕ) → y ≤ x → (z : ℕ) → phase_at t (rule_of t) z y ≤ suc y) → (z a u : ℕ) → u ≤ 1 → Local t x a u
      → phase_at t (rule_of t) z (suc x) ≤ suc (suc x)
  local_next x ih z a u few v =
      by_eq z a
      (λ h. rw h (omega (arith, local_phase t x a u v, ih x (omega arith) a)))
      (λ n. omega (arith, local_phase_other t x a u v z n, ih x (omega arith) z))

  phase_next : (x : ℕ) → suc x ≤ size t → ((y : ℕ) → y ≤ x → (z : ℕ) → phase_at t (rule_of t) z y ≤ suc y) → (z : ℕ) (v : Event) → event_at t (suc x) ≡ v
      → phase_at t (rule_of t) z (suc x) ≤ suc (suc x)
  phase_next x l ih z (Send a b v) e = omega (arith, send_phase t x a b v e z, ih x (omega arith) z)
  phase_next x l ih z (Recv a b) e =
      by_eq z a
      (λ h. let p = partner t A.causal b a (suc x) (recv_here t x a b e) (omega arith) l in
      rw (h, recv_phase_lem t x a b e l p.0 p.3 p.1 (omega (arith, p.2)) p.4 A)
      (joined_most (ltb (epoch_at t (rule_of t) b p.0) (epoch_at t (rule_of t) a x)) (phase_at t (rule_of t) a x) (phase_at t (rule_of t) b p.0) (suc (suc x)) (omega (arith, ih x (omega arith) a)) (omega (arith, ih p.0 (omega (arith, p.2)) b, p.2))))
      (λ n. omega (arith, recv_phase_other t x a b e z n, ih x (omega arith) z))
  phase_next x l ih z (Save a) e = local_next x ih z a 1 (omega arith) (save_local t x a e)
  phase_next x l ih z (Done a) e = local_next x ih z a 0 (omega arith) (done_local t x a e)

  phases_most : (x : ℕ) → x ≤ size t → (y : ℕ) → y ≤ x → (z : ℕ) → phase_at t (rule_of t) z y ≤ suc y
  phases_most zero l y h z = let e : y ≡ 0 = omega arith in rw e (phase_start z)
  phases_most (suc x) l y h z =
      by_lt y (suc x)
      (λ g. phases_most x (omega arith) y (omega arith) z)
      (λ g. let e : y ≡ suc x = omega arith in rw e (phase_next x l (λ w k v. phases_most x (omega arith) w k v) z (event_at t (suc x)) refl))

  pub phase_most : (z x : ℕ) → x ≤ size t → phase_at t (rule_of t) z x ≤ suc x
  phase_most z x l = phases_most x l x (omega arith) z

  pub epoch_most : (z x : ℕ) → x ≤ size t → epoch_at t (rule_of t) z x ≤ 31
  epoch_most z x l = omega (arith, epoch_is t (rule_of t) x z, A.checkpoints_few z x l)

-- what a well-formed trace has
module _ (t : Trace) (w : well_formed t ≡ true) where
  sized_fit : leb (size t) 2048 && all_fit t.procs [] t.events ≡ true
  unfolding well_formed
  sized_fit = and_right (leb t.procs 64) _ (and_right (leb 2 t.procs) _ w)

  pub well_few : size t ≤ 2048
  well_few = leb-true (size t) 2048 (and_left (leb (size t) 2048) _ sized_fit)

  pub well_fit : all_fit t.procs [] t.events ≡ true
  well_fit = and_right (leb (size t) 2048) _ sized_fit
