-- The work of `lower`: each undone event is looked at once, from the newest event of its process back, and where none
-- is left no receive up to the cut is lost.
use mathlib.Core.Path.{◌≡◌, refl, sym, ◌∙◌, ap, subst}
use mathlib.Core.Bool.{true, false, ◌&&◌, not}
use mathlib.Core.List.{List, [], ◌∷◌}
use Prim.Native.Nat.{ℕ, zero, suc, ◌+◌, ◌-◌, min, ◌^◌, ◌≤◌, ◌<◌}
use native.Mathlib.Omega.{arith}
use lib.ListN.{length, get_or, set, length-set}
use lib.Seq.{get_or-set_same, get_or-set_other}
use lib.Dec.{leb, ltb, eqb}
use borrow.Author.Tests.{ltb-true, leb-true, le-leb, lt-ltb}
use Rattle.words.proofs.Cases.{by_bool, by_lt, by_eq, clash, and_left, and_right, and_both}
use Rattle.theory.specs.Line.{in_set}
use Rattle.sets.specs.Inner.Sets.{first_in, Outside}
use Rattle.sets.proofs.Sets.{none_in, first_in_lem, with_out, with_lt}
use Rattle.columns.specs.Inner.Full.{at_w, peer_w, kind_w, epoch_w, match_w, logged_w}
use Rattle.recovery_line.specs.Inner.Words.{Sized}
use Rattle.lowering.specs.Inner.Lowering.{lost_e, lost_w, lower_at, Lowerable, Lowers, Lowered, undone_w, joined_by}
use Rattle.positions.specs.Inner.Positions.{Newest, Linked, NewestRanged, Before}
use Rattle.lowering.specs.Inner.Lowering.Lowers.{more}
use Rattle.lowering.proofs.Laws.{no_receive, received_early, sent_late, is_logged, is_lost}

-- ---- Lowering at an event

lost_below : (t m : List ℕ) (e : ℕ) → lost_w t m e ≡ true → epoch_w t (match_w t e) < get_or m (peer_w t e) 0
unfolding lost_w lost_e
lost_below t m e h =
    by_bool (eqb (kind_w t e) 2)
    (λ k. let l : lost_e t m (peer_w t e) (at_w t e) (match_w t e) e ≡ true = rw k at h in
    let n = not (eqb (logged_w t e) 1) in
    let b = ltb (epoch_w t (match_w t e)) (get_or m (peer_w t e) 0) in
    ltb-true (epoch_w t (match_w t e)) (get_or m (peer_w t e) 0) (and_left b n (and_right (leb (get_or m (at_w t e) 0) (epoch_w t e)) (b && n) l)))
    (λ k. clash {b = false} (rw k at h) refl)

pub length_lower : (t f m : List ℕ) (e : ℕ) → length (lower_at t f m e) ≡ length m
unfolding lower_at
length_lower t f m e = by_bool (lost_w t m e) (λ k. rw (k, length-set)) (λ k. rw k)

-- no number rises
lower_falls : (t f m : List ℕ) (e z : ℕ) → length m ≡ 64 → get_or (lower_at t f m e) z 0 ≤ get_or m z 0
unfolding lower_at
lower_falls t f m e z len =
    by_bool (lost_w t m e)
    (λ k. let d = min (epoch_w t (match_w t e)) (get_or f (peer_w t e) 0) in
    by_eq z (peer_w t e)
    (λ i. rw (k, i, get_or-set_same m (peer_w t e) d 0 (omega (arith, len))) (omega (arith, lost_below t m e k)))
    (λ n. rw (k, get_or-set_other m (peer_w t e) z d 0 n) (omega arith)))
    (λ k. rw k (omega arith))

-- The message that event e receives is not lost, whatever becomes of its receiver: it is logged, or its sender restarts
-- no later than the send.
abbrev Settled : List ℕ → List ℕ → ℕ → Type 0
Settled t m e = kind_w t e ≡ 2 → (logged_w t e ≡ 1 → ⊥) → get_or m (peer_w t e) 0 ≤ epoch_w t (match_w t e)

settled_stays : (t f m : List ℕ) (e x : ℕ) → length m ≡ 64 → Settled t m x → Settled t (lower_at t f m e) x
settled_stays t f m e x len s k l = omega (arith, s k l, lower_falls t f m e (peer_w t x) len)

settled_safe : (t m : List ℕ) (e : ℕ) → Settled t m e → lost_w t m e ≡ false
settled_safe t m e s =
    by_eq (kind_w t e) 2
    (λ k. by_eq (logged_w t e) 1
    (λ l. is_logged t m e _ refl k l)
    (λ l. sent_late t m e _ refl k _ _ _ refl refl refl (s k l)))
    (λ n. no_receive t m e _ refl n)

-- a receive before the restart of its process is not undone
early_safe : (t m : List ℕ) (e : ℕ) → epoch_w t e < get_or m (at_w t e) 0 → lost_w t m e ≡ false
early_safe t m e h =
    by_eq (kind_w t e) 2 (λ k. received_early t m e _ refl k _ refl h) (λ n. no_receive t m e _ refl n)

-- lowering at an undone event settles it
lower_settles : (t f m : List ℕ) (e : ℕ) → length m ≡ 64 → get_or m (at_w t e) 0 ≤ epoch_w t e → Settled t (lower_at t f m e) e
unfolding lower_at
lower_settles t f m e len u k l =
    let d = epoch_w t (match_w t e) in
    by_lt d (get_or m (peer_w t e) 0)
    (λ h. rw (is_lost t m e _ refl k _ _ _ refl refl refl l u h, get_or-set_same m (peer_w t e) (min d (get_or f (peer_w t e) 0)) 0 (omega (arith, len))) (omega arith))
    (λ h. rw (sent_late t m e _ refl k _ _ _ refl refl refl h) h)

-- ---- `lower`

-- What is known between two looks: the events after `latest` are undone and settled.
pub record Looking (t : List ℕ) (cut : ℕ) (m latest : List ℕ) : Type 0 where
  pub long : length m ≡ 64
  pub wide : length latest ≡ 64
  pub within : (z : ℕ) → z < 64 → get_or latest z 0 ≤ cut
  pub own : (z : ℕ) → z < 64 → 0 < get_or latest z 0 → at_w t (get_or latest z 0) ≡ z
  pub undone : (e : ℕ) → 0 < e → e ≤ cut → get_or latest (at_w t e) 0 < e → get_or m (at_w t e) 0 ≤ epoch_w t e
  pub looked : (e : ℕ) → 0 < e → e ≤ cut → get_or latest (at_w t e) 0 < e → Settled t m e

pub looking_begins : (t : List ℕ) (cut : ℕ) (m earlier latest : List ℕ) → length m ≡ 64 → Linked t cut earlier latest → Looking t cut m latest
looking_begins t cut m earlier latest len L = record {
  long = len;
  wide = L.wide;
  within = λ z l. (L.last z l).within;
  own = λ z l. (L.last z l).own;
  undone = λ e a b h. absurd ((L.last (at_w t e) (omega arith)).others e h b refl);
  looked = λ e a b h. absurd ((L.last (at_w t e) (omega arith)).others e h b refl);
}

-- the same, and where it comes from; no process that is not pending has an undone event that was not looked at
pub record Working (t f : List ℕ) (cut : ℕ) (l m latest : List ℕ) (pending : ℕ) : Type 0 where
  pub lowers : Lowers t f cut l m
  pub looking : Looking t cut m latest
  pub idle : Outside (λ z. undone_w t m latest z ≡ false) pending

pub working_ends : (t f : List ℕ) (cut : ℕ) (l m latest : List ℕ) (pending : ℕ) → Working t f cut l m latest pending → pending ≡ 0
    → (z : ℕ) → z < 64 → undone_w t m latest z ≡ false
working_ends t f cut l m latest pending W e z h = W.idle z h (rw e (none_in z))

pub joined_lt : (t m : List ℕ) (e pending after : ℕ) → after ≡ joined_by t m e pending → pending < 2 ^ 64 → after < 2 ^ 64
joined_lt t m e pending after i h = by_bool (lost_w t m e) (λ k. rw (i, k) (with_lt pending (peer_w t e) h)) (λ k. rw (i, k) h)

-- looking takes from the sum of `latest`
unfoldable pub sum_l : List ℕ → ℕ
sum_l [] = 0
sum_l (x ∷ xs) = x + sum_l xs

sum_set : (m : List ℕ) (i v : ℕ) → i < length m → v < get_or m i 0 → sum_l (set m i v) < sum_l m
unfolding sum_l
sum_set [] i v h k = absurd (let z : ⊥ = omega arith in z)
sum_set (x ∷ xs) zero v h k = omega arith
sum_set (x ∷ xs) (suc i) v h k = omega (arith, sum_set xs i v (omega arith) k)

module _ (t : List ℕ) (cut : ℕ) (m latest : List ℕ) (L : Looking t cut m latest) where
  pub ranged : Sized t cut → NewestRanged t m latest
  ranged S = record {
    whole = S.whole;
    long = L.long;
    wide = L.wide;
    few = λ z l. omega (arith, L.within z l, S.cut_few);
  }

  -- where the line undoes none of the newest events that are left, they are those before the restarts
  pub looking_stops : ((z : ℕ) → z < 64 → undone_w t m latest z ≡ false) → Before t cut m latest
  looking_stops none = record {
    within = L.within;
    own = L.own;
    done = λ z l p. by_lt (epoch_w t (get_or latest z 0)) (get_or m z 0) (λ h. h)
        (λ h. let e = get_or latest z 0 in
        clash (and_both (ltb 0 e) (leb (get_or m z 0) (epoch_w t e)) (lt-ltb 0 e p) (le-leb (get_or m z 0) (epoch_w t e) h)) (none z l));
    undone = L.undone;
  }

  -- and nothing is lost: an event not looked at is no newer than one before its process's restart
  pub looking_ends : (f l : List ℕ) → Lowers t f cut l m → Before t cut m latest → Lowered t f cut l m
  looking_ends f l s B = record {
    steps = s;
    none_lost = λ R e a b.
        let q = at_w t e in
        let x = get_or latest q 0 in
        let ql : q < 64 = omega arith in
        by_lt x e
        (λ h. settled_safe t m e (L.looked e a b h))
        (λ h. let p : 0 < x = omega arith in
        early_safe t m e (omega (arith, R e x a h (L.within q ql) (sym (L.own q ql p)), B.done q ql p)));
  }

  -- a look at process z
  module _ (earlier latest₀ : List ℕ) (z : ℕ) (S : Sized t cut) (K : Linked t cut earlier latest₀) (lz : z < 64) (u : undone_w t m latest z ≡ true) where
    -- its newest event that was not looked at yet, and the one before that
    abbrev e : ℕ
    e = get_or latest z 0

    abbrev d : ℕ
    d = get_or earlier e 0

    some : 0 < e
    some = ltb-true 0 e (and_left (ltb 0 e) (leb (get_or m z 0) (epoch_w t e)) u)

    undone_e : get_or m z 0 ≤ epoch_w t e
    undone_e = leb-true (get_or m z 0) (epoch_w t e) (and_right (ltb 0 e) (leb (get_or m z 0) (epoch_w t e)) u)

    in_cut : e ≤ cut
    in_cut = L.within z lz

    own_e : at_w t e ≡ z
    own_e = L.own z lz some

    newest : Newest t z (e - 1) d
    newest = subst (λ (y : ℕ). Newest t y (e - 1) d) own_e (K.before e some in_cut)

    pub look_fits : (f : List ℕ) → length f ≡ 64 → Lowerable t f m e
    look_fits f lf = record {
      whole = S.whole;
      finished = lf;
      long = L.long;
      few = omega (arith, in_cut, S.cut_few);
      matched = S.matched e some in_cut;
    }

    module _ (f n rest : List ℕ) (en : n ≡ lower_at t f m e) (er : rest ≡ set latest z d) where
      pub look_less : sum_l rest < sum_l latest
      look_less = rw er (sum_set latest z d (omega (arith, L.wide)) (omega (arith, newest.within, some)))

      pub look_lowers : (l : List ℕ) → Lowers t f cut l m → Lowers t f cut l n
      look_lowers l s = rw en (more e some in_cut s)

      at_z : get_or rest z 0 ≡ d
      at_z = rw er (get_or-set_same latest z d 0 (omega (arith, L.wide)))

      other : (y : ℕ) → (y ≡ z → ⊥) → get_or rest y 0 ≡ get_or latest y 0
      other y h = rw er (get_or-set_other latest z y d 0 h)

      -- what was settled stays so
      still : (x : ℕ) → Settled t m x → Settled t n x
      still x s = rw en (settled_stays t f m e x L.long s)

      falls : (x : ℕ) → get_or m (at_w t x) 0 ≤ epoch_w t x → get_or n (at_w t x) 0 ≤ epoch_w t x
      falls x h = rw en (omega (arith, lower_falls t f m e (at_w t x) L.long, h))

      now_settled : Settled t n e
      now_settled = rw en (lower_settles t f m e L.long (rw own_e undone_e))

      pub looking_next : Looking t cut n rest
      looking_next = record {
        long = ap length en ∙ length_lower t f m e ∙ L.long;
        wide = ap length er ∙ simp length-set L.wide;
        within = λ y l. by_eq y z (λ i. rw (i, at_z) (omega (arith, newest.within, in_cut))) (λ h. rw (other y h) (L.within y l));
        own = λ y l. by_eq y z (λ i. rw (i, at_z) newest.own) (λ h. rw (other y h) (L.own y l));
        undone = λ x a b h. by_eq (at_w t x) z
            (λ i. by_eq x e
            (λ j. falls x (rw (j, own_e) undone_e))
            (λ g. by_lt e x
            (λ l. falls x (L.undone x a b (rw i l)))
            (λ l. absurd (newest.others x (rw (i, at_z) at h) (omega arith) i))))
            (λ g. falls x (L.undone x a b (rw (other (at_w t x) g) at h)));
        looked = λ x a b h. by_eq (at_w t x) z
            (λ i. by_eq x e
            (λ j. rw j now_settled)
            (λ g. by_lt e x
            (λ l. still x (L.looked x a b (rw i l)))
            (λ l. absurd (newest.others x (rw (i, at_z) at h) (omega arith) i))))
            (λ g. still x (L.looked x a b (rw (other (at_w t x) g) at h)));
      }

      -- a process that is not pending has no undone event left: its number and its newest event are what they were
      pub look_idle : (pending after : ℕ) → z ≡ first_in pending → 0 < pending → pending < 2 ^ 64 → after ≡ joined_by t m e pending
          → Outside (λ y. undone_w t m latest y ≡ false) pending → Outside (λ y. undone_w t n rest y ≡ false) after
      unfolding lower_at
      look_idle pending after ez p l ea w y ly o =
          by_bool (lost_w t m e)
          (λ h. let v = with_out pending (peer_w t e) y (omega arith) (rw (ea, h) at o) in
          let i : y ≡ z → ⊥ = λ i. clash (rw (← ez, ← i) at (first_in_lem pending p l)) v.0 in
          rw (other y i, en, h, get_or-set_other m (peer_w t e) y (min (epoch_w t (match_w t e)) (get_or f (peer_w t e) 0)) 0 v.1) (w y ly v.0))
          (λ h. let v : in_set pending y ≡ false = rw (ea, h) at o in
          let i : y ≡ z → ⊥ = λ i. clash (rw (← ez, ← i) at (first_in_lem pending p l)) v in
          rw (other y i, en, h) (w y ly v))
