-- The lists of a run's messages have room in the run area: no message is of two classes, and there are no more messages
-- than events.
use Prim.Native.Nat.{ℕ, ◌+◌, ◌≤◌}
use mathlib.Core.Path.{◌≡◌, refl, sym, ◌∙◌}
use mathlib.Core.Bool.{Bool, true, false}
use mathlib.Core.List.{List, [], ◌∷◌}
use native.Mathlib.Omega.{arith}
use lib.ListN.{length, length-map}
use lib.Dec.{leb, ltb}
use borrow.Author.Tests.{leb-true, ltb-true}
use Rattle.theory.specs.Lists.{iv, keep, sum}
use Rattle.theory.specs.Events.{size, sent}
use Rattle.theory.specs.Line.{Run, lost, orphan, kept, orphan_phase}
use Rattle.theory.specs.Answers.{messages, orphans, kept_ones, lost_ones}
use Rattle.theory.specs.Inner.Laws.{Laws}
use Rattle.theory.specs.Inner.Flow.{r_before, r_cut, s_before}
use Rattle.theory.proofs.Base.{by, both, clash, length_iv, sum_cong, sum_le, sum_add}
use Rattle.theory.proofs.Classes.{lost_counts, orphan_counts, kept_counts}
use Rattle.theory.proofs.Answers.{gather_length}
use Rattle.theory.proofs.Steps.{sent_few}

-- what three tests keep of a list, where no two of them hold of one number
apart : (f g h : ℕ → Bool) → ((k : ℕ) → f k ≡ true → g k ≡ false) → ((k : ℕ) → f k ≡ true → h k ≡ false) → ((k : ℕ) → g k ≡ true → h k ≡ false)
    → (l : List ℕ) → length (keep f l) + (length (keep g l) + length (keep h l)) ≤ length l
unfolding keep
apart f g h a b c [] = omega arith
apart f g h a b c (x ∷ l) =
    let i = apart f g h a b c l in
    by (f x)
    (λ u. rw (u, a x u, b x u) (omega arith))
    (λ u. by (g x) (λ v. rw (u, v, c x v) (omega arith)) (λ v. by (h x) (λ w. rw (u, v, w) (omega arith)) (λ w. rw (u, v, w) (omega arith))))

module _ (R : Run) (L : Laws R) where
  abbrev N : ℕ
  N = R.trace.procs

  abbrev all : ℕ → ℕ → List ℕ
  all p q = iv 0 (sent R.trace p q (size R.trace))

  length_messages : (f : ℕ → ℕ → ℕ → Bool) (ph : ℕ → ℕ → ℕ → ℕ) → length (messages R f ph) ≡ sum N (λ p. sum N (λ q. length (keep (f p q) (all p q))))
  unfolding messages
  length_messages f ph =
      gather_length _ N ∙ sum_cong N _ _ (λ p a. gather_length _ N ∙ sum_cong N _ _ (λ q b. length-map (keep (f p q) (all p q)) _))

  -- an orphan is sent after its sender's restart, a kept and a lost message before it; a lost one is not logged
  orphan_not_kept : (p q k : ℕ) → orphan R p q k ≡ true → kept R p q k ≡ false
  orphan_not_kept p q k h =
      let a = both (ltb (s_before R p q) k) _ (sym (orphan_counts R L p q k) ∙ h) in
      by (kept R p q k)
      (λ u. let b = both (leb k (s_before R p q)) _ (sym (kept_counts R L p q k) ∙ u) in absurd (let z : ⊥ = omega (arith, ltb-true (s_before R p q) k a.0, leb-true k (s_before R p q) b.0) in z))
      (λ u. u)

  orphan_not_lost : (p q k : ℕ) → orphan R p q k ≡ true → lost R p q k ≡ false
  orphan_not_lost p q k h =
      let a = both (ltb (s_before R p q) k) _ (sym (orphan_counts R L p q k) ∙ h) in
      by (lost R p q k)
      (λ u. let b = both (ltb (r_before R p q) k) _ (sym (lost_counts R L p q k) ∙ u) in
      let c = both (leb k (r_cut R p q)) _ b.1 in
      let d = both (leb k (s_before R p q)) _ c.1 in
      absurd (let z : ⊥ = omega (arith, ltb-true (s_before R p q) k a.0, leb-true k (s_before R p q) d.0) in z))
      (λ u. u)

  kept_not_lost : (p q k : ℕ) → kept R p q k ≡ true → lost R p q k ≡ false
  kept_not_lost p q k h =
      let a = both (leb k (s_before R p q)) _ (sym (kept_counts R L p q k) ∙ h) in
      let b = both (ltb (r_before R p q) k) _ a.1 in
      by (lost R p q k)
      (λ u. let c = both (ltb (r_before R p q) k) _ (sym (lost_counts R L p q k) ∙ u) in
      let d = both (leb k (r_cut R p q)) _ c.1 in
      let e = both (leb k (s_before R p q)) _ d.1 in
      by (ltb (r_cut R p q) k)
      (λ v. absurd (let z : ⊥ = omega (arith, ltb-true (r_cut R p q) k v, leb-true k (r_cut R p q) d.0) in z))
      (λ v. let w : R.logged p q k ≡ true = rw v at b.1 in clash {b = false} (rw w at e.1) refl))
      (λ u. u)

  pub messages_few : length (orphans R) + (length (kept_ones R) + length (lost_ones R)) ≤ size R.trace
  messages_few =
      let o : ℕ → ℕ → ℕ = λ p q. length (keep (orphan R p q) (all p q)) in
      let k : ℕ → ℕ → ℕ = λ p q. length (keep (kept R p q) (all p q)) in
      let l : ℕ → ℕ → ℕ = λ p q. length (keep (lost R p q) (all p q)) in
      let each : (p q : ℕ) → o p q + (k p q + l p q) ≤ sent R.trace p q (size R.trace) = λ p q.
      omega (arith, apart (orphan R p q) (kept R p q) (lost R p q) (orphan_not_kept p q) (orphan_not_lost p q) (kept_not_lost p q) (all p q), length_iv 0 (sent R.trace p q (size R.trace))) in
      let row : (p : ℕ) → sum N (o p) + (sum N (k p) + sum N (l p)) ≤ sum N (λ q. sent R.trace p q (size R.trace)) = λ p.
      omega (arith, sum_add N (o p) (λ q. k p q + l p q), sum_add N (k p) (l p), sum_le N (λ q. o p q + (k p q + l p q)) (λ q. sent R.trace p q (size R.trace)) (λ q a. each p q)) in
      omega (
        arith,
        length_messages (orphan R) (orphan_phase R),
        length_messages (kept R) R.carries,
        length_messages (lost R) R.carries,
        sum_add N (λ p. sum N (o p)) (λ p. sum N (k p) + sum N (l p)),
        sum_add N (λ p. sum N (k p)) (λ p. sum N (l p)),
        sum_le N (λ p. sum N (o p) + (sum N (k p) + sum N (l p))) (λ p. sum N (λ q. sent R.trace p q (size R.trace))) (λ p a. row p),
        sent_few R L,
      )
