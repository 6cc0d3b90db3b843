-- Laws of `judge`: one for each way out of the functions that judge a line, and what a line that is judged fit has.
use Prim.Native.Nat.{ℕ, ◌<◌, ◌≤◌}
use mathlib.Core.Path.{◌≡◌, refl, sym, ap, subst, ◌∙◌}
use mathlib.Core.Logic.{inl, inr}
use mathlib.Core.List.{List}
use mathlib.Core.Bool.{Bool, true, false, cond}
use native.Mathlib.Omega.{arith}
use lib.Dec.{leb, eqb}
use lib.ListN.{length}
use borrow.Author.Tests.{leb-false, le-leb, lt-leb, eq-eqb, ne_eqb}
use Rattle.trace.specs.declared.Event.{Event}
use Rattle.trace.specs.declared.Event.TheVariants.{Send, Recv, Save, Done}
use Rattle.trace.specs.Trace.{Trace, sends_in, recvs_in, saves_in, dones_in}
use Rattle.trace.specs.Fit.{event_fault}
use Rattle.words.proofs.Cases.{by_eq}
use Rattle.lines.specs.declared.Line.{Line}
use Rattle.reader.specs.Verdict.{Judged, Fit, Fails, Unfit, fault_here, judge_event, judge}
use Rattle.reader.specs.Meaning.{TextNumber}
use Rattle.trace.proofs.Faults.{or_zero}
use Rattle.lines.specs.declared.Line as line

-- each way out of `fault`
module _ (t : Trace) (e : Event) where
  pub fault_1 : 2048 ≤ length t.events → 7 ≡ fault_here t e
  unfolding fault_here
  fault_1 h = rw (le-leb 2048 (length t.events) h)

  pub fault_2 : length t.events < 2048 → event_fault t.procs t.events e ≡ fault_here t e
  unfolding fault_here
  fault_2 h = rw (lt-leb 2048 (length t.events) h)

-- each way out of `judge_event`: f is what is wrong with the event
module _ (t : Trace) (e : Event) (f : ℕ) (h : f ≡ fault_here t e) where
  pub judge_fit : f ≡ 0 → Fit e ≡ judge_event t e
  unfolding judge_event
  judge_fit z = rw (← h, eq-eqb f 0 z)

  pub judge_unfit : (f ≡ 0 → ⊥) → Unfit f ≡ judge_event t e
  unfolding judge_event
  judge_unfit z = rw (← h, ne_eqb f 0 z)

-- a line that is judged fit is a fit event
pub fit_here : (t : Trace) (e d : Event) → judge_event t e ≡ Fit d → (e ≡ d) × (fault_here t e ≡ 0)
unfolding judge_event
fit_here t e d h =
    by_eq (fault_here t e) 0
    (λ z. let q : Fit e ≡ Fit d = rw (eq-eqb (fault_here t e) 0 z) at h in (cc, z))
    (λ n. let q : Unfit (fault_here t e) ≡ Fit d = rw (ne_eqb (fault_here t e) 0 n) at h in
    let z : ◌≡◌ {A = ℕ} 0 1 = cc in absurd (let w : ⊥ = omega arith in w))

fit_line : (t : Trace) (l : Line) (d : Event) → judge t l ≡ Fit d → fault_here t d ≡ 0
unfolding judge
fit_line t (line.TheVariants.Procs n) d h = let z : ◌≡◌ {A = ℕ} 0 1 = cc in omega arith
fit_line t (line.TheVariants.Send a b v) d h = let q = fit_here t (Send a b v) d h in rw q.0 at q.1
fit_line t (line.TheVariants.Recv a b) d h = let q = fit_here t (Recv a b) d h in rw q.0 at q.1
fit_line t (line.TheVariants.Save a) d h = let q = fit_here t (Save a) d h in rw q.0 at q.1
fit_line t (line.TheVariants.Done a) d h = let q = fit_here t (Done a) d h in rw q.0 at q.1
fit_line t (line.TheVariants.Failure k m) d h = let z : ◌≡◌ {A = ℕ} 0 1 = cc in omega arith
fit_line t line.TheVariants.Malformed d h = let z : ◌≡◌ {A = ℕ} 0 1 = cc in omega arith

-- a fit event comes after fewer than 2,048 and has nothing wrong with it
pub fit_few : (t : Trace) (e : Event) → fault_here t e ≡ 0 → (length t.events < 2048) × (event_fault t.procs t.events e ≡ 0)
unfolding fault_here
fit_few t e h = let x = or_zero (leb 2048 (length t.events)) 7 (event_fault t.procs t.events e) (omega arith) h in (leb-false 2048 (length t.events) x.0, x.1)

pub fit_judged : (t : Trace) (l : Line) (j : Judged) (d : Event) → j ≡ judge t l → j ≡ Fit d
    → (length t.events < 2048) × (event_fault t.procs t.events d ≡ 0)
fit_judged t l j d said fit = fit_few t d (fit_line t l d (sym said ∙ fit))

-- ---- The numbers

-- neither 0 nor 12
pub text_number : (n : ℕ) → TextNumber n → (1 ≤ n) × (n ≡ 12 → ⊥)
text_number n (inl r) = (r.0, λ e. omega (arith, r.1))
text_number n (inr r) = (omega arith, λ e. omega arith)

-- 0, or 3 to 7 or 15
abbrev pub Ranged : ℕ → Type 0
Ranged n = (n ≡ 0 → ⊥) → (3 ≤ n) × TextNumber n

or_range : (b : Bool) (k rest : ℕ) → 3 ≤ k → k ≤ 7 → Ranged rest → Ranged (cond b k rest)
or_range true k rest l h r = λ z. (l, inl (omega arith, h))
or_range false k rest l h r = r

done_range : (b : Bool) → Ranged (cond b 15 0)
done_range true = λ z. (omega arith, inr refl)
done_range false = λ z. absurd (z refl)

event_range : (n : ℕ) (es : List Event) (e : Event) → Ranged (event_fault n es e)
unfolding event_fault
event_range n es (Send a b v) =
    or_range (leb n a) 3 _ (omega arith) (omega arith) (
    or_range (leb n b) 3 _ (omega arith) (omega arith) (
    or_range (eqb a b) 4 0 (omega arith) (omega arith) (λ z. absurd (z refl))))
event_range n es (Recv a b) =
    or_range (leb n a) 3 _ (omega arith) (omega arith) (
    or_range (leb n b) 3 _ (omega arith) (omega arith) (
    or_range (eqb a b) 4 _ (omega arith) (omega arith) (
    or_range (leb (sends_in b a es) (recvs_in b a es)) 5 0 (omega arith) (omega arith) (λ z. absurd (z refl)))))
event_range n es (Save a) =
    or_range (leb n a) 3 _ (omega arith) (omega arith) (
    or_range (leb 30 (saves_in a es)) 6 0 (omega arith) (omega arith) (λ z. absurd (z refl)))
event_range n es (Done a) = or_range (leb n a) 3 _ (omega arith) (omega arith) (done_range (leb (saves_in a es) (dones_in a es)))

pub fault_range : (t : Trace) (e : Event) → Ranged (fault_here t e)
unfolding fault_here
fault_range t e = or_range (leb 2048 (length t.events)) 7 _ (omega arith) (omega arith) (event_range t.procs t.events e)

-- the number of a judged line: 0 of a fit event; 1 of a failure line where none is due ("The library's reader takes the
-- text without a failure line"); else what is wrong
abbrev pub judged_number : Judged → ℕ
judged_number (Fit e) = 0
judged_number (Fails step set) = 1
judged_number (Unfit n) = n

-- the number of an event's line is what is wrong with the event
pub event_number : (t : Trace) (e : Event) → judged_number (judge_event t e) ≡ fault_here t e
unfolding judge_event
event_number t e =
    by_eq (fault_here t e) 0
    (λ z. rw (eq-eqb (fault_here t e) 0 z) (sym z))
    (λ n. rw (ne_eqb (fault_here t e) 0 n))

unfit_event : (t : Trace) (e : Event) (n : ℕ) → judge_event t e ≡ Unfit n → TextNumber n
unfolding judge_event
unfit_event t e n h =
    by_eq (fault_here t e) 0
    (λ z. let q : Fit e ≡ Unfit n = rw (eq-eqb (fault_here t e) 0 z) at h in let w : ◌≡◌ {A = ℕ} 0 1 = cc in absurd (let y : ⊥ = omega arith in y))
    (λ z. let q : Unfit (fault_here t e) ≡ Unfit n = rw (ne_eqb (fault_here t e) 0 z) at h in
    let m : fault_here t e ≡ n = cc in
    subst TextNumber m (fault_range t e z).1)

-- an unfit line's number is 1 to 7 or 15
pub unfit_number : (t : Trace) (x : Line) (n : ℕ) → judge t x ≡ Unfit n → TextNumber n
unfolding judge
unfit_number t (line.TheVariants.Procs m) n h = let q = ap judged_number h in inl (omega (arith, q), omega (arith, q))
unfit_number t (line.TheVariants.Send a b v) n h = unfit_event t (Send a b v) n h
unfit_number t (line.TheVariants.Recv a b) n h = unfit_event t (Recv a b) n h
unfit_number t (line.TheVariants.Save a) n h = unfit_event t (Save a) n h
unfit_number t (line.TheVariants.Done a) n h = unfit_event t (Done a) n h
unfit_number t (line.TheVariants.Failure k m) n h = let z : ◌≡◌ {A = ℕ} 0 1 = cc in absurd (let y : ⊥ = omega arith in y)
unfit_number t line.TheVariants.Malformed n h = let q = ap judged_number h in inl (omega (arith, q), omega (arith, q))
