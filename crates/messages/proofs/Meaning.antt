-- The list that `messages` leaves means what specs/Meaning says: from where each message stands in it.
use Prim.Native.Nat.{ℕ, suc, ◌+◌, ◌-◌, ◌*◌, ◌/◌, ◌%◌, ◌<◌, ◌≤◌}
use mathlib.Core.Path.{◌≡◌, refl, sym, ap, subst, ◌∙◌}
use mathlib.Core.Logic.{◌↔◌}
use mathlib.Core.Bool.{Bool, true}
use mathlib.Core.List.{List, [], ◌∷◌}
use native.Mathlib.Omega.{arith}
use native.Mathlib.Nat.{zero-add}
use lib.ListN.{length, get_or}
use Rattle.theory.specs.Line.{Run, lost, orphan, kept, orphan_phase}
use Rattle.theory.specs.Answers.{Listed, messages, orphans, kept_ones, lost_ones}
use Rattle.theory.specs.Inner.Laws.{Laws}
use Rattle.theory.specs.Inner.Tests.{names}
use Rattle.theory.proofs.Answers.{orphans_name, kept_name, lost_name, lost_none}
use Rattle.listing.specs.Listing.{row_of, list_word}
use Rattle.messages.specs.Meaning.{row_in, class_in, Precedes, RowsOf, Lists}
use Rattle.messages.proofs.Rows.{blank, At, orphans_at, kept_at, lost_at}
use Rattle.messages.proofs.Order.{each_is, ascends, named_at}

-- a word of a row, taken apart
apart : (w class : ℕ) (m : Listed) → m.from < 64 → m.to < 64 → w ≡ (row_of class m).word → (w % 64 ≡ m.from) × (w / 64 % 64 ≡ m.to) × (w / 4096 ≡ class)
apart w class m a b e =
    let q : w / 64 ≡ m.to + 64 * class = omega arith in
    (omega arith, rw q (omega arith), omega arith)

module _ (R : Run) (small : R.trace.procs ≤ 64) (w : List ℕ) (first class : ℕ) (f : ℕ → ℕ → ℕ → Bool) (ph : ℕ → ℕ → ℕ → ℕ)
    (named : (p q k : ℕ) → names p q k (messages R f ph) ≡ f p q k) (A : At w first class (messages R f ph)) where
  abbrev ms : List Listed
  ms = messages R f ph

  -- row first + 1 + i is message i
  row_is : (i : ℕ) → i < length ms → (row_in w (first + suc i) ≡ get_or ms i blank) × (class_in w (first + suc i) ≡ class)
  row_is i h =
      let e = each_is R f ph i h in
      let m = get_or ms i blank in
      let j : 16 + (first + suc i) ≡ 17 + (first + i) = omega arith in
      let k : 2065 + (first + suc i) ≡ 2066 + (first + i) = omega arith in
      let l : 4114 + (first + suc i) ≡ 4115 + (first + i) = omega arith in
      let s : m.from < 64 = omega (arith, e.sender) in
      let t : m.to < 64 = omega (arith, e.receiver) in
      let d = apart (get_or w (17 + (first + i)) 0) class m s t (A.word i h) in
      (rw (j, k, l, d.0, d.1, A.number i h, A.phase i h), rw j d.2)

  -- row i, from its place in the list
  pub record Stands (i : ℕ) : Type 0 where
    pub at : ℕ
    pub within : at < length ms
    pub place : first + suc at ≡ i
    pub row : row_in w i ≡ get_or ms at blank
    pub class_is : class_in w i ≡ class

  stands : (i : ℕ) → first < i → i ≤ first + length ms → Stands i
  stands i a b =
      let j = i - suc first in
      let l : j < length ms = omega arith in
      let e : first + suc j ≡ i = omega arith in
      let r = row_is j l in
      record {
        at = j;
        within = l;
        place = e;
        row = subst (λ (x : ℕ). row_in w x ≡ get_or ms j blank) e r.0;
        class_is = subst (λ (x : ℕ). class_in w x ≡ class) e r.1;
      }

  abbrev OfClass : Listed → Type 0
  OfClass m = (f m.from m.to m.number ≡ true) × (m.phase ≡ ph m.from m.to m.number)

  of_class_lem : (i : ℕ) → Stands i → OfClass (row_in w i)
  of_class_lem i S = let m = each_is R f ph S.at S.within in subst OfClass (sym S.row) (m.test, m.phase_is)

  message_is : (m : Listed) (p q k : ℕ) → m.from ≡ p → m.to ≡ q → m.number ≡ k → m.phase ≡ ph m.from m.to m.number
      → m ≡ record { from = p; to = q; number = k; phase = ph p q k }
  message_is m p q k a b c d =
      let e : m.phase ≡ ph p q k = d ∙ rw (a, b, c) in
      rw (← a, ← b, ← c, ← d)

  pub rows_of : RowsOf w first (first + length ms) class f ph
  rows_of = record {
    no_other = λ i a b. let S = stands i a b in let m = of_class_lem i S in (m.0, m.1, S.class_is);
    each = λ p q k h.
        let (j, l, a, b, c) = named_at p q k ms (named p q k ∙ h) in
        (first + suc j, omega arith, omega arith, (row_is j l).0 ∙ message_is (get_or ms j blank) p q k a b c (each_is R f ph j l).phase_is);
    ascending = λ i j a b c.
        let S = stands i a (omega arith) in
        let T = stands j (omega arith) c in
        let o = ascends R f ph S.at T.at (omega (arith, S.place, T.place)) T.within in
        subst (λ (m : Listed). Precedes m (row_in w j)) (sym S.row) (subst (λ (m : Listed). Precedes (get_or ms S.at blank) m) (sym T.row) o);
  }

no_length : {A : Type 0} (l : List A) → (length l ≡ 0) ↔ (l ≡ [])
no_length [] = (λ h. refl, λ h. refl)
no_length (x ∷ l) = (λ h. absurd (let y : ⊥ = omega arith in y), λ h. ap length h)

module _ (R : Run) (L : Laws R) (w : List ℕ) (words : (k : ℕ) → k < 16384 → get_or w k 0 ≡ list_word R k)
    (room : length (orphans R) + (length (kept_ones R) + length (lost_ones R)) ≤ 2048) where
  pub lists_mean : Lists R (length (orphans R)) (length (kept_ones R)) (length (lost_ones R)) w
  unfolding list_word
  lists_mean = record {
    orphan_rows =
        subst (λ (n : ℕ). RowsOf w 0 n 1 (orphan R) (orphan_phase R)) (zero-add (length (orphans R)))
        (rows_of R L.few w 0 1 (orphan R) (orphan_phase R) (orphans_name R L) (orphans_at R w words room));
    kept_rows = rows_of R L.few w (length (orphans R)) 2 (kept R) R.carries (kept_name R L) (kept_at R w words room);
    lost_rows = rows_of R L.few w (length (orphans R) + length (kept_ones R)) 3 (lost R) R.carries (lost_name R L) (lost_at R w words room);
    counts_are = (words 0 (omega arith), words 1 (omega arith), words 2 (omega arith));
    none_lost = (
      λ h. (lost_none R L).0 ((no_length (lost_ones R)).0 h),
      λ h. (no_length (lost_ones R)).1 ((lost_none R L).1 h),
    );
  }
