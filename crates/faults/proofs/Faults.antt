-- The numbers 8, 9 and 10 by the words of the table and of the line.
use mathlib.Core.Path.{◌≡◌, refl, sym, ◌∙◌, ap, ap₂}
use mathlib.Core.Bool.{Bool, true, false, ◌&&◌, not}
use mathlib.Core.List.{List}
use Prim.Native.Nat.{ℕ, ◌+◌, ◌/◌, ◌^◌, ◌≤◌, ◌<◌}
use native.Mathlib.Omega.{arith}
use native.Mathlib.Numerals.{add-one}
use lib.ListN.{get_or}
use lib.Dec.{leb, ltb, eqb}
use borrow.Author.Tests.{lt-ltb, le-ltb, eq-eqb, ne_eqb}
use Rattle.trace.specs.Trace.{Trace}
use Rattle.theory.specs.Lists.{all_below}
use Rattle.theory.specs.Events.{size}
use Rattle.theory.specs.Line.{in_set, may, usable_at}
use Rattle.theory.specs.Refusals.{failure_fault, permits, numbers_fault}
use Rattle.theory.proofs.Base.{all_same}
use Rattle.theory.proofs.Refusals.{set_shifted}
use Rattle.columns.specs.Inner.Columns.{Tabled}
use Rattle.columns.specs.Inner.Full.{procs_w, events_w}
use Rattle.positions.specs.Inner.Positions.{FinishedEpochs}
use Rattle.faults.specs.Inner.Permitted.{may_w}
use Rattle.columns.proofs.Full.{fit, procs_is, size_is}

-- ---- `names_beyond`

pub beyond_some : (set count : ℕ) → not (eqb (set / 2 ^ count) 0) ≡ leb (2 ^ count) set
beyond_some set count = sym (set_shifted count set)

-- ---- `permitted`

pub all_none : (f : ℕ → Bool) → true ≡ all_below 0 f
unfolding all_below
all_none f = refl

pub all_next : (f : ℕ → Bool) (z : ℕ) (one all : Bool) → one ≡ f z → all ≡ all_below z f → (all && one) ≡ all_below (z + 1) f
unfolding all_below
all_next f z one all a b = swapped one all ∙ ap₂ (λ (x y : Bool). x && y) a b ∙ rw (add-one z)
  where
    swapped : (one all : Bool) → (all && one) ≡ (one && all)
    swapped true true = refl
    swapped true false = refl
    swapped false true = refl
    swapped false false = refl

-- ---- `failure_fault`

module _ (t : Trace) (full : List ℕ) (G : Tabled t full) (step set : ℕ) where
  pub fault_8 : events_w full < step → 8 ≡ failure_fault t step set
  unfolding failure_fault
  fault_8 h = let s : ltb (size t) step ≡ true = lt-ltb (size t) step (omega (arith, size_is t full G)) in rw s

  module _ (h : step ≤ events_w full) where
    in_time : ltb (size t) step ≡ false
    in_time = le-ltb (size t) step (omega (arith, size_is t full G))

    pub fault_empty : set ≡ 0 → 9 ≡ failure_fault t step set
    unfolding failure_fault
    fault_empty e = rw (in_time, eq-eqb set 0 e)

    module _ (n : set ≡ 0 → ⊥) (count : ℕ) (ec : count ≡ procs_w full) (r : Bool) (er : r ≡ leb (2 ^ count) set) where
      beyond : leb (2 ^ t.procs) set ≡ r
      beyond = ap (λ (c : ℕ). leb (2 ^ c) set) (sym (ec ∙ procs_is t full G)) ∙ sym er

      pub fault_beyond : r ≡ true → 9 ≡ failure_fault t step set
      unfolding failure_fault
      fault_beyond q = rw (in_time, ne_eqb set 0 n, beyond, q)

      pub fault_none : r ≡ false → 0 ≡ failure_fault t step set
      unfolding failure_fault
      fault_none q = rw (in_time, ne_eqb set 0 n, beyond, q)

-- ---- `line_fault`

module _ (t : Trace) (full : List ℕ) (G : Tabled t full) (cut : ℕ) (cl : cut ≤ size t) (set n : ℕ) (line : ℕ → ℕ) (count : ℕ) (ec : count ≡ procs_w full) where
  count_is : count ≡ t.procs
  count_is = ec ∙ procs_is t full G

  pub fault_count : (n ≡ count → ⊥) → 10 ≡ numbers_fault t cut set n line
  fault_count h = let s : eqb n t.procs ≡ false = ne_eqb n t.procs (λ q. h (q ∙ sym count_is)) in rw s

  module _ (en : n ≡ count) (finished numbers : List ℕ) (N : FinishedEpochs full cut finished)
      (ln : (z : ℕ) → z < t.procs → line z ≡ get_or numbers z 0) (r : Bool) (er : r ≡ all_below count (may_w set finished numbers)) where
    n_is : eqb n t.procs ≡ true
    n_is = eq-eqb n t.procs (en ∙ count_is)

    permits_is : permits t (usable_at t cut) (in_set set) line ≡ r
    unfolding permits
    permits_is =
        all_same t.procs (λ z. may (usable_at t cut) (in_set set) z (line z)) (may_w set finished numbers)
        (λ z l. rw (ln z l, N.counts t G cl z (omega (arith, (fit t full G).few))))
        ∙ ap (λ (c : ℕ). all_below c (may_w set finished numbers)) (sym count_is) ∙ sym er

    pub fault_fit : r ≡ true → 0 ≡ numbers_fault t cut set n line
    fault_fit q = rw (n_is, permits_is, q)

    pub fault_10 : r ≡ false → 10 ≡ numbers_fault t cut set n line
    fault_10 q = rw (n_is, permits_is, q)
