-- What the numbers 8, 9 and 10 say, each exactly, and that 0 says that failure and line are fit.
use mathlib.Core.Path.{◌≡◌, refl, sym, ◌∙◌}
use mathlib.Core.Logic.{◌⊎◌, inl, inr, ◌↔◌}
use mathlib.Core.Bool.{Bool, true, false, ◌&&◌, ◌||◌, not, cond}
use Prim.Native.Nat.{ℕ, zero, suc, ◌+◌, ◌-◌, ◌*◌, ◌/◌, ◌%◌, ◌^◌, ◌≤◌, ◌<◌}
use native.Mathlib.Omega.{arith}
use native.Mathlib.Nat.{div-eq_of_lt, mod-lt, pow-suc}
use lib.Dec.{leb, ltb, eqb}
use lib.Pow.{pow_pos, pow_mono, pow-lt, split, high}
use lib.Count.{leading_top}
use borrow.Author.Tests.{leb-true, leb-false, ltb-true, ltb-false, eqb-true, eqb-false, lt-ltb, le-ltb, le-leb, lt-leb, eq-eqb, ne_eqb}
use Rattle.trace.specs.Trace.{Trace, started}
use Rattle.theory.specs.Events.{size}
use Rattle.theory.specs.Epochs.{Rule, rule_of}
use Rattle.theory.specs.Line.{in_set, Permitted, usable_at}
use Rattle.theory.specs.Refusals.{step_or, set_or, failure_fault, permits, line_fault}
use Rattle.theory.specs.Inner.Refusals.{FitFailure, FitLine}
use Rattle.theory.proofs.Base.{by, on, clash, le?, both, or_right, all_true, all_at}

-- ---- Rows: of two processes and no event, the sets that name 2; none; 0 and 1; the step 1, with the set that names
-- none

pub rows : (failure_fault (started 2) 0 4 ≡ 9) × (failure_fault (started 2) 0 0 ≡ 9) × (failure_fault (started 2) 0 3 ≡ 0) × (failure_fault (started 2) 1 0 ≡ 8)
unfolding failure_fault
rows = (refl, refl, refl, refl)

-- ---- Sets of processes

below_pow : (m : ℕ) → m < 2 ^ m
below_pow zero = omega arith
below_pow (suc m) = let h : 2 ^ m < 2 ^ suc m = pow-lt (omega arith) in omega (arith, below_pow m, h)

-- the highest process that a set names
top_named : (m : ℕ) → 0 < m → (z : ℕ) × (2 ^ z ≤ m) × (m < 2 ^ suc z) × (in_set m z ≡ true)
top_named m h =
    let r = leading_top m m h (below_pow m) in
    let z = r.0 in
    let two : 2 ^ suc z ≡ 2 ^ z * 2 = pow-suc 2 z in
    let lo : m - 2 ^ z < 2 ^ z = omega (arith, r.2, r.3, two) in
    let e : 1 * 2 ^ z + (m - 2 ^ z) ≡ m = omega (arith, r.2) in
    let d : m / 2 ^ z ≡ 1 = rw e at (high 1 z lo) in
    (z, r.2, r.3, rw d refl)

none_above : (m z : ℕ) → m < 2 ^ z → in_set m z ≡ false
none_above m z h = let d : m / 2 ^ z ≡ 0 = div-eq_of_lt h in rw d refl

-- a set is not empty exactly if it names a process; it is below 2 to the n exactly if it names none but those below n
pub set_named : (m : ℕ) → (0 < m) ↔ ((z : ℕ) × (in_set m z ≡ true))
set_named m = (
  λ h. let r = top_named m h in (r.0, r.3),
  λ r. on (le? m 0) (λ l. let e : m ≡ 0 = omega arith in
      clash r.1 (none_above m r.0 (omega (arith, pow_pos r.0)))) (λ l. l),
)

pub set_below : (n m : ℕ) → (m < 2 ^ n) ↔ ((z : ℕ) → in_set m z ≡ true → z < n)
set_below n m = (
  λ h z i. on (le? n z) (λ l. clash i (none_above m z (omega (arith, pow_mono l)))) (λ l. l),
  λ f. on (le? (2 ^ n) m) (λ l. let r = top_named m (omega (arith, pow_pos n)) in
      let k : suc r.0 ≤ n = f r.0 r.3 in
      absurd (omega (arith, pow_mono k, r.2))) (λ l. l),
)

-- a set that names a process n or more
pub set_beyond : (n m : ℕ) → (2 ^ n ≤ m) ↔ ((z : ℕ) × (n ≤ z) × (in_set m z ≡ true))
set_beyond n m = (
  λ h. let r = top_named m (omega (arith, pow_pos n)) in
      (r.0, on (le? n r.0) (λ l. l) (λ l. let k : suc r.0 ≤ n = l in absurd (omega (arith, pow_mono k, r.2))), r.3),
  λ r. on (le? (2 ^ n) m) (λ l. l) (λ l. absurd (omega (arith, (set_below n m).0 l r.0 r.2, r.1))),
)

-- the same, as code can test it: a shift by n leaves something
pub set_shifted : (n m : ℕ) → leb (2 ^ n) m ≡ not (eqb (m / 2 ^ n) 0)
set_shifted n m =
    on (le? (2 ^ n) m)
    (λ l. let a : leb (2 ^ n) m ≡ true = le-leb _ _ l in
    let b : eqb (m / 2 ^ n) 0 ≡ false = ne_eqb (m / 2 ^ n) 0 (λ e. let q : 0 * 2 ^ n + m % 2 ^ n ≡ m = rw e at (split m n) in
    omega (arith, q, mod-lt m (pow_pos n))) in
    rw (a, b) refl)
    (λ l. let a : leb (2 ^ n) m ≡ false = lt-leb _ _ l in let b : m / 2 ^ n ≡ 0 = div-eq_of_lt l in rw (a, b) refl)

-- ---- The numbers

pub neither : (a b : Bool) → (a || b) ≡ false → (a ≡ false) × (b ≡ false)
neither true b e = clash {b = true} refl e
neither false b e = (refl, e)

-- a number that is not the first test's is the rest's
or_next : (b : Bool) (k rest n : ℕ) → (n ≡ k → ⊥) → cond b k rest ≡ n → (b ≡ false) × (rest ≡ n)
or_next true k rest n h e = absurd (h (sym e))
or_next false k rest n h e = (refl, e)

module _ (t : Trace) (step set : ℕ) where
  -- where no number is given for the failure, what is looked for next decides
  failure_rest : (rest : ℕ) → FitFailure t step set → step_or t step (set_or t set rest) ≡ rest
  failure_rest rest f =
      let a : ltb (size t) step ≡ false = le-ltb _ _ f.step_most in
      let n : 0 < set = (set_named set).1 f.set_some in
      let b : eqb set 0 ≡ false = ne_eqb set 0 (λ e. omega arith) in
      let c : leb (2 ^ t.procs) set ≡ false = lt-leb _ _ ((set_below t.procs set).1 f.set_within) in
      simp (a, b, c) refl

  -- and a number that is neither 8 nor 9 is the rest's
  failure_else : (rest n : ℕ) → (n ≡ 8 → ⊥) → (n ≡ 9 → ⊥) → step_or t step (set_or t set rest) ≡ n → FitFailure t step set × (rest ≡ n)
  failure_else rest m n8 n9 e =
      let x = or_next (ltb (size t) step) 8 (cond (eqb set 0 || leb (2 ^ t.procs) set) 9 rest) m n8 e in
      let y = or_next (eqb set 0 || leb (2 ^ t.procs) set) 9 rest m n9 x.1 in
      let s = neither (eqb set 0) (leb (2 ^ t.procs) set) y.0 in
      let n : set ≡ 0 → ⊥ = eqb-false set 0 s.0 in (
        record {
          step_most = ltb-false (size t) step x.0;
          set_some = (set_named set).0 (on (le? set 0) (λ l. absurd (n (omega arith))) (λ l. l));
          set_within = (set_below t.procs set).0 (leb-false _ _ s.1);
        },
        y.1,
      )

  pub failure_fit : (failure_fault t step set ≡ 0) ↔ FitFailure t step set
  unfolding failure_fault
  failure_fit = (λ e. (failure_else 0 0 (λ z. omega arith) (λ z. omega arith) e).0, failure_rest 0)

  -- 8 and 9, whatever is looked for next
  or_8 : (rest : ℕ) → (rest ≡ 8 → ⊥) → (step_or t step (set_or t set rest) ≡ 8) ↔ (size t < step)
  or_8 rest n = (
    λ e. by (ltb (size t) step) (λ a. ltb-true _ _ a) (λ a. by (eqb set 0 || leb (2 ^ t.procs) set)
        (λ b. absurd (let z : 9 ≡ 8 = rw (a, b) at e in omega arith))
        (λ b. absurd (n (rw (a, b) at e)))),
    λ l. let a : ltb (size t) step ≡ true = lt-ltb _ _ l in rw a refl,
  )

  abbrev Beyond : Type 0
  Beyond = (set ≡ 0) ⊎ ((z : ℕ) × (t.procs ≤ z) × (in_set set z ≡ true))

  or_9 : (rest : ℕ) → (rest ≡ 9 → ⊥) → (step_or t step (set_or t set rest) ≡ 9) ↔ ((step ≤ size t) × Beyond)
  or_9 rest n = (
    λ e. by (ltb (size t) step) (λ a. absurd (let z : 8 ≡ 9 = rw a at e in omega arith)) (λ a. (
      ltb-false _ _ a,
      by (eqb set 0)
          (λ b. inl (eqb-true set 0 b))
          (λ b. by (leb (2 ^ t.procs) set) (λ c. inr ((set_beyond t.procs set).0 (leb-true _ _ c))) (λ c. absurd (n (rw (a, b, c) at e)))),
    )),
    λ r. let a : ltb (size t) step ≡ false = le-ltb _ _ r.0 in
        on r.1
        (λ z. let b : eqb set 0 ≡ true = eq-eqb set 0 z in rw (a, b) refl)
        (λ z. let c : leb (2 ^ t.procs) set ≡ true = le-leb _ _ ((set_beyond t.procs set).1 z) in
        let b : (eqb set 0 || leb (2 ^ t.procs) set) ≡ true = or_right (eqb set 0) _ c in
        rw (a, b) refl),
  )

  pub failure_8 : (failure_fault t step set ≡ 8) ↔ (size t < step)
  unfolding failure_fault
  failure_8 = or_8 0 (λ e. omega arith)

  pub failure_9 : (failure_fault t step set ≡ 9) ↔ ((step ≤ size t) × ((set ≡ 0) ⊎ ((z : ℕ) × (t.procs ≤ z) × (in_set set z ≡ true))))
  unfolding failure_fault
  failure_9 = or_9 0 (λ e. omega arith)

pub permits_iff : (t : Trace) (rule : Rule) (cut : ℕ) (usable : ℕ → ℕ → Bool) (failed : ℕ → Bool) (line : ℕ → ℕ)
    → (permits t usable failed line ≡ true) ↔ Permitted t rule cut usable failed line
unfolding permits
permits_iff t rule cut usable failed line = (all_at t.procs _, all_true t.procs _)

module _ (t : Trace) (step set count : ℕ) (line : ℕ → ℕ) where
  abbrev fits : Bool
  fits = eqb count t.procs && permits t (usable_at t step) (in_set set) line

  fits_iff : (fits ≡ true) ↔ ((count ≡ t.procs) × Permitted t (rule_of t) step (usable_at t step) (in_set set) line)
  fits_iff =
      let p = permits_iff t (rule_of t) step (usable_at t step) (in_set set) line in (
        λ e. let b = both (eqb count t.procs) _ e in (eqb-true _ _ b.0, p.0 b.1),
        λ r. let a : eqb count t.procs ≡ true = eq-eqb _ _ r.0 in rw a (p.1 r.1),
      )

  rest_not : (n : ℕ) → (n ≡ 0 → ⊥) → (n ≡ 10 → ⊥) → cond (not fits) 10 0 ≡ n → ⊥
  rest_not n a b e = by fits (λ f. a (sym (rw f at e))) (λ f. b (sym (rw f at e)))

  pub line_fit : (line_fault t step set count line ≡ 0) ↔ FitLine t step set count line
  unfolding line_fault
  line_fit = (
    λ e. let r = failure_else t step set (cond (not fits) 10 0) 0 (λ z. omega arith) (λ z. omega arith) e in
        by fits
        (λ f. let x = fits_iff.0 f in record { failure = r.0; count_is = x.0; permitted = x.1 })
        (λ f. absurd (let z : 10 ≡ 0 = rw f at r.1 in omega arith)),
    λ r. let f : fits ≡ true = fits_iff.1 (r.count_is, r.permitted) in
        failure_rest t step set (cond (not fits) 10 0) r.failure ∙ rw f refl,
  )

  pub line_8 : (line_fault t step set count line ≡ 8) ↔ (size t < step)
  unfolding line_fault
  line_8 = or_8 t step set (cond (not fits) 10 0) (rest_not 8 (λ e. omega arith) (λ e. omega arith))

  pub line_9 : (line_fault t step set count line ≡ 9) ↔ ((step ≤ size t) × ((set ≡ 0) ⊎ ((z : ℕ) × (t.procs ≤ z) × (in_set set z ≡ true))))
  unfolding line_fault
  line_9 = or_9 t step set (cond (not fits) 10 0) (rest_not 9 (λ e. omega arith) (λ e. omega arith))

  pub line_10 : (line_fault t step set count line ≡ 10)
      ↔ (FitFailure t step set × (((count ≡ t.procs) × Permitted t (rule_of t) step (usable_at t step) (in_set set) line) → ⊥))
  unfolding line_fault
  line_10 = (
    λ e. let r = failure_else t step set (cond (not fits) 10 0) 10 (λ z. omega arith) (λ z. omega arith) e in
        (r.0, λ q. let f : fits ≡ true = fits_iff.1 q in absurd (let z : 0 ≡ 10 = rw f at r.1 in omega arith)),
    λ r. failure_rest t step set (cond (not fits) 10 0) r.0 ∙ by fits (λ f. absurd (r.1 (fits_iff.0 f))) (λ f. rw f refl),
  )
