-- The events after the restart of their process, counted in one pass: as many as all processes have listed events.
use Prim.Native.Nat.{ℕ, zero, suc, ◌+◌, ◌-◌, ◌≤◌, ◌<◌}
use mathlib.Core.Path.{◌≡◌, refl, sym, ap, ◌∙◌}
use mathlib.Core.Logic.{◌≢◌}
use mathlib.Core.Bool.{Bool, false, ◌&&◌, and-true, and-false}
use mathlib.Core.List.{List}
use native.Mathlib.Omega.{arith}
use native.Mathlib.Numerals.{add-one}
use lib.Dec.{ltb, eqb}
use lib.ListN.{length, get_or}
use borrow.Author.Tests.{ne_eqb, lt-ltb, le-ltb}
use Rattle.words.proofs.Cases.{by_bool, by_eq}
use Rattle.theory.specs.Lists.{iv, keep, cnt, sum}
use Rattle.theory.specs.Events.{size, at}
use Rattle.theory.specs.Line.{Run, LossFree}
use Rattle.theory.specs.Order.{steps, lowest_order}
use Rattle.theory.specs.Answers.{kept_ones, exact_steps}
use Rattle.theory.specs.Replay.{listed}
use Rattle.theory.specs.Inner.Laws.{Laws}
use Rattle.theory.proofs.Base.{keep_above, keep_keep, cnt_iv, cnt_suc, cnt_skip, eqb_self, sum_cong, sum_zero, sum_down}
use Rattle.theory.proofs.Exact.{exact_steps_lem}
use Rattle.theory.proofs.Lowest.{lowest_order_lem}
use Rattle.columns.specs.Inner.Full.{events_w, at_w}
use Rattle.columns.specs.Inner.Given.{Tells, Gated}
use Rattle.columns.proofs.Full.{size_is, at_is}
use Rattle.steps.specs.Inner.Steps.{listed_events, after_restart_w}

cnt_all : (f : ℕ → Bool) (x : ℕ) → cnt f x ≡ length (keep f (iv 0 x))
unfolding cnt
cnt_all f x = let q : 0 + x ≡ x = omega arith in omega (arith, rw q at (cnt_iv f 0 x))

module _ (R : Run) (L : Laws R) where
  -- is event e after the restart of its process; is it one of process z after that one's restart
  abbrev after_own : ℕ → Bool
  after_own e = ltb (R.restart (at R.trace e)) e

  abbrev after_of : ℕ → ℕ → Bool
  after_of z e = ltb (R.restart z) e && eqb z (at R.trace e)

  listed_counted : (z : ℕ) → length (listed R z (R.restart z)) ≡ cnt (after_of z) (size R.trace)
  unfolding listed
  listed_counted z =
      let n = size R.trace in
      ap (λ (l : List ℕ). length (keep (λ e. eqb z (at R.trace e)) l)) (sym (keep_above (R.restart z) n))
      ∙ ap length (keep_keep (λ e. eqb z (at R.trace e)) (λ y. ltb (R.restart z) y) (iv 0 n))
      ∙ sym (cnt_all (after_of z) n)

  -- an event is one of its own process and of no other
  own_process : (e : ℕ) → after_of (at R.trace e) e ≡ after_own e
  own_process e = rw (eqb_self (at R.trace e)) (and-true (after_own e))

  other_process : (z e : ℕ) → z ≢ at R.trace e → after_of z e ≡ false
  other_process z e n = rw (ne_eqb z (at R.trace e) n) (and-false (ltb (R.restart z) e))

  in_one_pass : (x : ℕ) → x ≤ size R.trace → sum R.trace.procs (λ z. cnt (after_of z) x) ≡ cnt after_own x
  in_one_pass zero h = unfold cnt in sum_zero R.trace.procs (λ z. cnt (after_of z) 0) (λ z l. refl)
  in_one_pass (suc x) h =
      let N = R.trace.procs in
      let p = at R.trace (suc x) in
      let ih = in_one_pass x (omega arith) in
      let others : (z : ℕ) → z ≢ p → cnt (after_of z) (suc x) ≡ cnt (after_of z) x = λ z n. cnt_skip (after_of z) x (other_process z (suc x) n) in
      by_bool (after_own (suc x))
      (λ t. sum_down N p (λ z. cnt (after_of z) (suc x)) (λ z. cnt (after_of z) x) (L.process_lt (suc x) (omega arith) h) others (cnt_suc (after_of p) x (own_process (suc x) ∙ t))
      ∙ ap suc ih ∙ sym (cnt_suc after_own x t))
      (λ f. sum_cong N (λ z. cnt (after_of z) (suc x)) (λ z. cnt (after_of z) x) (λ z l. by_eq z p (λ e. cnt_skip (after_of z) x (rw e (own_process (suc x) ∙ f))) (others z))
      ∙ ih ∙ sym (cnt_skip after_own x f))

  listed_in_all : listed_events R ≡ cnt after_own (size R.trace)
  listed_in_all =
      sum_cong R.trace.procs (λ z. length (listed R z (R.restart z))) (λ z. cnt (after_of z) (size R.trace)) (λ z l. listed_counted z)
      ∙ in_one_pass (size R.trace) (omega arith)

cnt_same : (f g : ℕ → Bool) (x : ℕ) → ((e : ℕ) → 0 < e → e ≤ x → f e ≡ g e) → cnt f x ≡ cnt g x
unfolding cnt
cnt_same f g zero h = refl
cnt_same f g (suc x) h = rw (h (suc x) (omega arith) (omega arith), cnt_same f g x (λ e a b. h e a (omega arith)))

-- counted by words it is the same
pub counted_listed : (R : Run) (full gates : List ℕ) → Tells R full → Gated R gates → cnt (after_restart_w full gates) (events_w full) ≡ listed_events R
counted_listed R full gates T G =
    rw (size_is R.trace full T.tabled)
    (cnt_same (after_restart_w full gates) (after_own R T.laws) (size R.trace)
    (λ e a b. rw (at_is R.trace full T.tabled e a b, G.places (at R.trace e) (T.laws.process_lt e a b)))
    ∙ sym (listed_in_all R T.laws))

-- The lowest order from a line that loses no message: it is complete, so that it has as many steps as there are listed
-- events and kept messages.
pub lowest_steps : (R : Run) → Laws R → LossFree R → (events kept : ℕ) → events ≡ listed_events R → kept ≡ length (kept_ones R) → events + kept ≡ steps (lowest_order R)
unfolding exact_steps
lowest_steps R L f events kept e k =
    let (s, c, d) = lowest_order_lem R L in
    rw (e, k) (sym (exact_steps_lem R L (lowest_order R) s c f d))

-- ---- A turn of the loop: event e, of process z, which restarts after event r

module _ (full gates : List ℕ) (count e z r : ℕ) (h : 0 < e) (so_far : count ≡ cnt (after_restart_w full gates) (e - 1)) (own : z ≡ at_w full e) (there : r ≡ get_or gates (64 + z) 0) where
  this : e ≡ suc (e - 1)
  this = omega (arith, h)

  next : e + 1 - 1 ≡ suc (e - 1)
  next = omega (arith, h)

  restart_is : r ≡ get_or gates (64 + at_w full (suc (e - 1))) 0
  restart_is = there ∙ ap (λ (y : ℕ). get_or gates (64 + y) 0) (own ∙ ap (λ (y : ℕ). at_w full y) this)

  pub turn_more : r < e → count + 1 ≡ cnt (after_restart_w full gates) (e + 1 - 1)
  turn_more l =
      rw (next, add-one count, so_far)
      (sym (cnt_suc (after_restart_w full gates) (e - 1) (lt-ltb _ (suc (e - 1)) (omega (arith, restart_is, l)))))

  pub turn_none : e ≤ r → count ≡ cnt (after_restart_w full gates) (e + 1 - 1)
  turn_none l =
      rw (next, so_far)
      (sym (cnt_skip (after_restart_w full gates) (e - 1) (le-ltb _ (suc (e - 1)) (omega (arith, restart_is, l)))))

-- what is counted at the end
pub at_end : (R : Run) (full gates : List ℕ) (count n : ℕ) → Tells R full → Gated R gates → count ≡ cnt (after_restart_w full gates) n → n ≡ events_w full → count ≡ listed_events R
at_end R full gates count n T G c e = c ∙ ap (λ (m : ℕ). cnt (after_restart_w full gates) m) e ∙ counted_listed R full gates T G
