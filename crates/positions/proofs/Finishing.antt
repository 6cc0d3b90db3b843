-- The latest finished epochs, counted one event after another: `finished_at`.
use mathlib.Core.Path.{◌≡◌, sym, ap, ◌∙◌}
use mathlib.Core.Bool.{true, false}
use mathlib.Core.List.{List}
use Prim.Native.Nat.{ℕ, suc, ◌+◌, ◌-◌, ◌≤◌, ◌<◌}
use native.Mathlib.Omega.{arith}
use native.Mathlib.Numerals.{add-one}
use lib.ListN.{length, get_or, set, replicate, length-replicate, get_or-replicate}
use lib.Seq.{get_or-set_same, get_or-set_other}
use lib.Dec.{eqb}
use borrow.Author.Tests.{eq-eqb, ne_eqb}
use Rattle.words.proofs.Cases.{by_eq}
use Rattle.trace.specs.Trace.{Trace}
use Rattle.theory.specs.Lists.{cnt}
use Rattle.theory.specs.Events.{size, finishes}
use Rattle.theory.proofs.Base.{cnt_suc, cnt_skip, cnt_bound}
use Rattle.columns.specs.Inner.Columns.{Tabled}
use Rattle.columns.specs.Inner.Full.{at_w, kind_w}
use Rattle.columns.proofs.Full.{few, finishes_is}
use Rattle.positions.specs.Inner.Positions.{Uncounted, FinishedEpochs}

pub none_finished : (full f : List ℕ) → ((z : ℕ) → z < 64 → get_or f z 0 ≡ 1) → FinishedEpochs full 0 f
unfolding cnt
none_finished full f h = record { counts = λ t G l z lz. h z lz }

-- what is counted on begins with 1 for each process
pub uncounted : (t : Trace) (full : List ℕ) (cut : ℕ) → Tabled t full → cut ≤ size t → Uncounted t full cut (replicate 64 1)
uncounted t full cut G l = record {
  tabled = G;
  within = l;
  wide = length-replicate {A = ℕ} 64 1;
  ones = λ z h. get_or-replicate {A = ℕ} 64 z 1 0 h;
}

-- the events up to the cut are in their range
pub cut_few : (t : Trace) (full : List ℕ) (cut : ℕ) (f : List ℕ) → Uncounted t full cut f → cut ≤ 2048
cut_few t full cut f U = omega (arith, U.within, few t full U.tabled)

-- no count is past its range
pub finished_most : (t : Trace) (full : List ℕ) (G : Tabled t full) (x : ℕ) (f : List ℕ) → FinishedEpochs full x f → x ≤ size t → (z : ℕ) → z < 64 → get_or f z 0 ≤ 2049
finished_most t full G x f F l z lz = omega (arith, F.counts t G l z lz, cnt_bound (finishes t z) x, few t full G)

module _ (full : List ℕ) (x : ℕ) (f : List ℕ) (F : FinishedEpochs full x f) (k : ℕ) (ek : k ≡ kind_w full (x + 1)) where
  -- an event that finishes no checkpoint
  pub next_unfinished : (k ≡ 0 → ⊥) → FinishedEpochs full (x + 1) f
  next_unfinished n = record {
    counts = λ t G l z lz.
        let no : eqb (kind_w full (x + 1)) 0 ≡ false = ne_eqb (kind_w full (x + 1)) 0 (λ q. n (ek ∙ q)) in
        let s : finishes t z (suc x) ≡ false = rw (← add-one x) (finishes_is t full G (x + 1) (omega arith) l z ∙ rw no) in
        rw (add-one x) (omega (arith, F.counts t G (omega arith) z lz, cnt_skip (finishes t z) x s));
  }

  -- one that finishes a checkpoint of y
  pub next_finished : k ≡ 0 → (y : ℕ) → y ≡ at_w full (x + 1) → length f ≡ 64 → FinishedEpochs full (x + 1) (set f y (get_or f y 0 + 1))
  next_finished e y ey len = record {
    counts = λ t G l z lz.
        let yes : eqb (kind_w full (x + 1)) 0 ≡ true = eq-eqb (kind_w full (x + 1)) 0 (sym ek ∙ e) in
        let s : finishes t z (suc x) ≡ eqb z y = rw (← add-one x) (finishes_is t full G (x + 1) (omega arith) l z ∙ rw (yes, ← ey)) in
        by_eq z y
        (λ i. let v : finishes t z (suc x) ≡ true = s ∙ eq-eqb z y i in
        rw (← i, get_or-set_same f z (get_or f z 0 + 1) 0 (omega (arith, len)), add-one x) (omega (arith, F.counts t G (omega arith) z lz, cnt_suc (finishes t z) x v)))
        (λ n. let v : finishes t z (suc x) ≡ false = s ∙ ne_eqb z y n in
        rw (get_or-set_other f y z (get_or f y 0 + 1) 0 n, add-one x) (omega (arith, F.counts t G (omega arith) z lz, cnt_skip (finishes t z) x v)));
  }

-- ---- A turn of the loop, at event e

module _ (full : List ℕ) (e : ℕ) (p : 0 < e) (f : List ℕ) (F : FinishedEpochs full (e - 1) f) (k : ℕ) (ek : k ≡ kind_w full e) where
  before : e - 1 + 1 ≡ e
  before = omega (arith, p)

  next : e + 1 - 1 ≡ e
  next = omega arith

  kind_before : k ≡ kind_w full (e - 1 + 1)
  kind_before = ek ∙ ap (λ (x : ℕ). kind_w full x) (sym before)

  pub turn_unfinished : (k ≡ 0 → ⊥) → FinishedEpochs full (e + 1 - 1) f
  turn_unfinished n = rw next (rw before at (next_unfinished full (e - 1) f F k kind_before n))

  pub turn_finished : k ≡ 0 → (y : ℕ) → y ≡ at_w full e → length f ≡ 64 → FinishedEpochs full (e + 1 - 1) (set f y (get_or f y 0 + 1))
  turn_finished z y ey len = rw next (rw before at (next_finished full (e - 1) f F k kind_before z y (ey ∙ ap (λ (x : ℕ). at_w full x) (sym before)) len))
