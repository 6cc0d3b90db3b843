-- Lowering gives the greatest line without loss, and it is the only one; and the floor. For any usable checkpoints, and
-- any rule (the floor: `past`). From the step of lowering (Lines).
use mathlib.Core.Path.{◌≡◌, refl, sym, subst}
use mathlib.Core.Logic.{◌⊎◌}
use mathlib.Core.Bool.{Bool, true, false, cond}
use mathlib.Core.Option.{Option, none, some, none-ne-some}
use Prim.Native.Nat.{ℕ, zero, suc, ◌*◌, ◌≤◌, ◌<◌}
use native.Mathlib.Omega.{arith}
use lib.Dec.{eqb}
use borrow.Author.Tests.{eqb-true, ne_eqb}
use Rattle.words.proofs.Cases.{cond_some}
use Rattle.trace.specs.Trace.{Trace}
use Rattle.theory.specs.Lists.{if_some, first, sum}
use Rattle.theory.specs.Events.{size}
use Rattle.theory.specs.Epochs.{Rule, epoch_at, rule_of}
use Rattle.theory.specs.Line.{lost, LossFree, recorded, current, Permitted, Greatest, highest, lower, lower_if, lowered, lowering, greatest_line, run_at}
use Rattle.theory.specs.Inner.Lines.{Usable, Above}
use Rattle.theory.proofs.Base.{by, on, clash, eqb_self, last_of_top, first_none, first_some, sum_lt}
use Rattle.theory.proofs.WellFormed.{Valid}
use Rattle.theory.proofs.Lines.{may_is, may_restart, may_stay, now_is, now_few, number_of, lost_epochs, epoch_le, lost_in, lower_usable, lower_less, lower_over, past_unlogged}

sum_32 : (n : ℕ) (f : ℕ → ℕ) → ((x : ℕ) → x < n → f x ≤ 32) → sum n f ≤ 32 * n
unfolding sum
sum_32 zero f h = omega arith
sum_32 (suc n) f h = omega (arith, h n (omega arith), sum_32 n f (λ x l. h x (omega arith)))

module _ (t : Trace) (rule : Rule) (A : Valid t) (cut : ℕ) (cl : cut ≤ size t) (usable : ℕ → ℕ → Bool) (U : Usable t rule cut usable) (failed : ℕ → Bool) where
  pub highest_above : Above t rule cut usable failed (highest t rule cut usable failed)
  unfolding highest
  highest_above = record {
    permitted = λ z h. by (failed z)
        (λ u. may_restart usable failed z _ (rw u (last_of_top (usable z) (current t rule cut z) 1 (U.start z) (omega arith) (omega (arith, now_is t rule A cut cl z))).1))
        (λ u. may_stay usable failed z _ (rw u) u);
    top = λ l b n z h. on (may_is usable failed z (l z) (b z h))
        (λ u. let w = U.within z (l z) u in
        by (failed z) (λ v. rw v (last_of_top (usable z) (current t rule cut z) (l z) u w.0 w.1).0) (λ v. rw v (omega (arith, w.1, now_few t rule A cut cl z))))
        (λ u. rw u.1 (omega (arith, u.0)));
  }

  -- one lowering keeps that, and makes the line's numbers fewer
  module _ (m : ℕ → ℕ) (a : Above t rule cut usable failed m) (p q k : ℕ) (h : lost (recorded t rule cut m) p q k ≡ true) where
    pub below_above : Above t rule cut usable failed (lower t rule cut usable m p q k)
    below_above = record {
      permitted = λ z l. by (eqb z p)
          (λ u. let i : z ≡ p = eqb-true z p u in may_restart usable failed z _ (rw (u, i) (lower_usable t rule A cut cl usable U failed m a.permitted p q k h)))
          (λ u. rw u (a.permitted z l));
      top = λ l b n z o. by (eqb z p)
          (λ u. let i : z ≡ p = eqb-true z p u in rw (u, i) (lower_over t rule A cut cl usable U failed m a.permitted p q k h l b n (a.top l b n)))
          (λ u. rw u (a.top l b n z o));
    }

    below_sum : sum t.procs (lower t rule cut usable m p q k) < sum t.procs m
    below_sum = sum_lt t.procs p m (lower t rule cut usable m p q k) (lost_in t rule A cut cl m p q k h).0
        (λ x n. let u : eqb x p ≡ false = ne_eqb x p n in rw u)
        (rw (eqb_self p) (lower_less t rule A cut cl usable U failed m a.permitted p q k h))

  pick_none : (b : Bool) (f : ℕ → ℕ) → cond b (some f) none ≡ none → b ≡ false
  pick_none true f h = absurd (none-ne-some f (sym h))
  pick_none false f h = refl

  -- nothing left to lower: nothing is lost
  lowered_none : (m : ℕ → ℕ) → lowered t rule cut usable m ≡ none → LossFree (recorded t rule cut m)
  unfolding lowered
  lowered_none m h p q k = by (lost (recorded t rule cut m) p q k)
      (λ u. let i = lost_in t rule A cut cl m p q k u in
      let a = first_none (λ p. first (λ q. first (λ k. lower_if t rule cut usable m p q k) (suc (size t))) t.procs) t.procs h p i.0 in
      let b = first_none (λ q. first (λ k. lower_if t rule cut usable m p q k) (suc (size t))) t.procs a q i.1 in
      pick_none (lost (recorded t rule cut m) p q k) _ (first_none (λ k. lower_if t rule cut usable m p q k) (suc (size t)) b k i.2))
      (λ u. u)

  lowered_some : (m n : ℕ → ℕ) → lowered t rule cut usable m ≡ some n
      → (p : ℕ) × (q : ℕ) × (k : ℕ) × (lost (recorded t rule cut m) p q k ≡ true) × (lower t rule cut usable m p q k ≡ n)
  unfolding lowered
  lowered_some m n h =
      let a = first_some (λ p. first (λ q. first (λ k. lower_if t rule cut usable m p q k) (suc (size t))) t.procs) t.procs n h in
      let b = first_some (λ q. first (λ k. lower_if t rule cut usable m a.0 q k) (suc (size t))) t.procs n a.2 in
      let c = first_some (λ k. lower_if t rule cut usable m a.0 b.0 k) (suc (size t)) n b.2 in
      let d = cond_some (lost (recorded t rule cut m) a.0 b.0 c.0) _ n c.2 in
      (a.0, b.0, c.0, d.0, d.1)

  lowering_greatest : (c : ℕ) (m : ℕ → ℕ) → Above t rule cut usable failed m → sum t.procs m ≤ c → Greatest t rule cut usable failed (lowering t rule cut usable c m)
  unfolding lowering
  lowering_greatest zero m a h = go (lowered t rule cut usable m) refl
    where
      go : (o : Option (ℕ → ℕ)) → lowered t rule cut usable m ≡ o → Greatest t rule cut usable failed m
      go none e = record { permitted = a.permitted; loss_free = lowered_none m e; top = a.top }
      go (some n) e = let r = lowered_some m n e in absurd (omega (arith, below_sum m a r.0 r.1 r.2 r.3))
  lowering_greatest (suc c) m a h = go (lowered t rule cut usable m) refl (λ n b l. lowering_greatest c n b l)
    where
      go : (o : Option (ℕ → ℕ)) → lowered t rule cut usable m ≡ o
          → ((n : ℕ → ℕ) → Above t rule cut usable failed n → sum t.procs n ≤ c → Greatest t rule cut usable failed (lowering t rule cut usable c n))
          → Greatest t rule cut usable failed (if_some o m (λ n. lowering t rule cut usable c n))
      go none e f = record { permitted = a.permitted; loss_free = lowered_none m e; top = a.top }
      go (some n) e f =
          let r = lowered_some m n e in
          let s = below_sum m a r.0 r.1 r.2 r.3 in
          f n (subst (Above t rule cut usable failed) r.4 (below_above m a r.0 r.1 r.2 r.3)) (subst (λ g. sum t.procs g ≤ c) r.4 (omega arith))

  pub greatest_is : Greatest t rule cut usable failed (greatest_line t rule cut usable failed)
  unfolding greatest_line
  greatest_is = lowering_greatest (32 * t.procs) (highest t rule cut usable failed) highest_above
      (sum_32 t.procs (highest t rule cut usable failed) (λ z h. on (may_is usable failed z _ (highest_above.permitted z h))
      (λ u. omega (arith, (U.within z _ u).1, now_few t rule A cut cl z)) (λ u. omega (arith, u.0))))

  pub greatest_unique : (l m : ℕ → ℕ) → Greatest t rule cut usable failed l → Greatest t rule cut usable failed m → (z : ℕ) → z < t.procs → l z ≡ m z
  greatest_unique l m a b z h = omega (arith, a.top m b.permitted b.loss_free z h, b.top l a.permitted a.loss_free z h)

-- ---- The floor, for the requirements' rule

module _ (t : Trace) (A : Valid t) (cut : ℕ) (cl : cut ≤ size t) (usable : ℕ → ℕ → Bool) (U : Usable t (rule_of t) cut usable) (failed : ℕ → Bool) where
  module _ (f : ℕ) (small : f ≤ 32)
      (at_f : (z : ℕ) → z < t.procs → (usable z f ≡ true) ⊎ ((failed z ≡ false) × (current t (rule_of t) cut z < f))) where
    -- each process that can at f, the others stay
    floor_line : ℕ → ℕ
    floor_line z = cond (usable z f) f 32

    floor_permitted : Permitted t (rule_of t) cut usable failed floor_line
    unfolding floor_line
    floor_permitted z h = by (usable z f)
        (λ u. may_restart usable failed z _ (rw (u, u)))
        (λ u. on (at_f z h) (λ v. clash v u) (λ v. may_stay usable failed z _ (rw u) v.0))

    floor_in : (z : ℕ) → usable z f ≡ true → floor_line z ≡ f
    unfolding floor_line
    floor_in z h = rw h

    floor_out : (z : ℕ) → usable z f ≡ false → floor_line z ≡ 32
    unfolding floor_line
    floor_out z h = rw h

    floor_keeps : (p q k : ℕ) → lost (run_at t cut floor_line) p q k ≡ true → ⊥
    floor_keeps p q k h =
        let i = lost_in t (rule_of t) A cut cl floor_line p q k h in
        let n = number_of t (rule_of t) A cut cl usable U failed floor_line floor_permitted in
        let x = lost_epochs t (rule_of t) A cut cl floor_line p q k (n p i.0) (n q i.1) h in
        let hp : epoch_at t (rule_of t) p x.d < f = by (usable p f)
        (λ u. omega (arith, x.below, floor_in p u))
        (λ u. on (at_f p i.0) (λ v. clash v u) (λ v. omega (arith, v.1, epoch_le t (rule_of t) A cut cl p x.d x.d_cut))) in
        let hq : f ≤ epoch_at t (rule_of t) q x.e = by (usable q f)
        (λ u. omega (arith, x.above, floor_in q u))
        (λ u. absurd (omega (arith, x.above, floor_out q u, epoch_le t (rule_of t) A cut cl q x.e x.e_cut, now_few t (rule_of t) A cut cl q))) in
        omega (arith, past_unlogged t A cut cl floor_line p q k x)

    -- so in the greatest line no process restarts below f
    pub floor_below : (l : ℕ → ℕ) → Greatest t (rule_of t) cut usable failed l → (z : ℕ) → z < t.procs → f ≤ l z
    floor_below l g z h =
        let o = g.top floor_line floor_permitted (λ p q k. by (lost (run_at t cut floor_line) p q k) (λ u. absurd (floor_keeps p q k u)) (λ u. u)) z h in
        by (usable z f) (λ u. omega (arith, floor_in z u)) (λ u. omega (arith, floor_out z u))
