-- What the tests of the pass mean: which classes of messages go through their channels, which is an orphan's, and the
-- record at the start. From the laws of the run, by counts.
use mathlib.Core.Path.{◌≡◌, refl, sym, ◌∙◌, ap}
use mathlib.Core.Bool.{true, false, ◌&&◌, ◌||◌, or-false, cond}
use mathlib.Core.List.{List, [], ◌∷◌, map}
use Prim.Native.Nat.{ℕ, zero, suc, ◌+◌, ◌-◌, ◌≤◌, ◌<◌}
use native.Mathlib.Omega.{arith}
use lib.ListN.{length, length-map, get_or}
use lib.Dec.{leb, ltb}
use borrow.Author.Tests.{leb-true, leb-false, lt-ltb, le-ltb, le-leb, lt-leb}
use Rattle.theory.specs.Lists.{iv}
use Rattle.theory.specs.Events.{send, size, kind, sends, recvs, sent, rcvd, send_of, recv_of, value}
use Rattle.theory.specs.Line.{Run, sent_before, received_before, orphan, kept}
use Rattle.theory.specs.Replay.{taken_by}
use Rattle.theory.specs.Inner.Laws.{Laws}
use Rattle.theory.proofs.Base.{by, on, le?, length_iv, place_by}
use Rattle.theory.proofs.Events.{sent_le, sent_lt, rcvd_le, rcvd_lt, send_of_at}
use Rattle.theory.proofs.Classes.{restart_n, orphan_counts}
use Rattle.theory.specs.Inner.Flow.{r_before, s_before}
use Rattle.theory.proofs.Loss.{taken_iv}
use Rattle.machine.specs.Inner.Related.{goes, drops, orph}
use Rattle.classes.specs.Inner.Classes.{upcoming}

pub get_d_iv : (x r k : ℕ) → k < r → get_or (iv x r) k 0 ≡ suc (x + k)
unfolding iv
get_d_iv x zero k h = absurd (omega arith)
get_d_iv x (suc r) zero h = omega arith
get_d_iv x (suc r) (suc k) h = get_d_iv (suc x) r k (omega arith) ∙ omega arith

pub get_d_map : (f : ℕ → ℕ) (l : List ℕ) (k : ℕ) → k < length l → get_or (map f l) k 0 ≡ f (get_or l k 0)
get_d_map f [] k h = absurd (omega arith)
get_d_map f (x ∷ xs) zero h = refl
get_d_map f (x ∷ xs) (suc k) h = get_d_map f xs k (omega arith)

pub get_d_past : (l : List ℕ) (k : ℕ) → length l ≤ k → get_or l k 0 ≡ 0
get_d_past [] k h = refl
get_d_past (x ∷ xs) zero h = absurd (omega arith)
get_d_past (x ∷ xs) (suc k) h = get_d_past xs k (omega arith)

module _ (R : Run) (L : Laws R) where
  -- of a send on the channel
  module _ (z q e : ℕ) (s : sends R.trace z q e ≡ true) (h : 0 < e) (n : e ≤ size R.trace) where
    abbrev k : ℕ
    k = sent R.trace z q e

    -- its message has a number
    numbered : 0 < k
    numbered = omega (arith, sent_lt R.trace z q 0 e s h)

    at_e : send_of R.trace z q k ≡ e
    at_e = send_of_at R.trace z q e s h n

    back_is : received_before R z q k ≡ leb k (r_before R z q)
    unfolding received_before recv_of rcvd
    back_is = place_by (recvs R.trace z q) k (size R.trace) (R.restart q) (restart_n R L q) ∙ rw (lt-ltb 0 k numbered)

    -- does its message go through the channel
    pub goes_test : goes R z q e ≡ (kept R z q k || upcoming R z q k)
    unfolding goes upcoming
    goes_test = rw (s, at_e, back_is) (by (leb e (R.restart z))
        (λ u. rw (u, le-ltb (R.restart z) e (leb-true e (R.restart z) u)) (sym (or-false (kept R z q k))))
        (λ u. rw (u, lt-ltb (R.restart z) e (leb-false e (R.restart z) u), not_kept u) (by (leb k (r_before R z q))
        (λ v. rw (v, le-ltb (r_before R z q) k (leb-true k (r_before R z q) v)))
        (λ v. rw (v, lt-ltb (r_before R z q) k (leb-false k (r_before R z q) v))))))
      where
        not_kept : leb e (R.restart z) ≡ false → kept R z q k ≡ false
        not_kept u = unfold kept in unfold sent_before in rw (at_e, lt-ltb 0 e h, u)

    -- is it an orphan's, sent again
    pub orphan_test : kind R.trace e ≡ send q → orphan R z q k ≡ (ltb (R.restart z) e && orph R z e)
    unfolding drops
    orphan_test c = orphan_counts R L z q k ∙ rw c (on (le? e (R.restart z))
        (λ u. rw (le-ltb (R.restart z) e u, le-ltb (s_before R z q) k (sent_le R.trace z q e (R.restart z) u)))
        (λ u. rw (lt-ltb (R.restart z) e u, lt-ltb (s_before R z q) k (sent_lt R.trace z q (R.restart z) e s u))))

  -- the record slot of a receive at the start: its own message where it is before the restart, else nothing
  pub slot_start : (p z e : ℕ) → 0 < e → recvs R.trace p z e ≡ true
      → (cond (leb e (R.restart z)) (rcvd R.trace p z e) 0 ≡ get_or (taken_by R p z (R.restart z)) (rcvd R.trace p z e - 1) 0)
      × (cond (leb e (R.restart z)) (value R.trace p z (rcvd R.trace p z e)) 0
      ≡ get_or (map (value R.trace p z) (taken_by R p z (R.restart z))) (rcvd R.trace p z e - 1) 0)
  slot_start p z e h t =
      let k = rcvd R.trace p z e in
      let r = rcvd R.trace p z (R.restart z) in
      let f = value R.trace p z in
      let k_pos : 0 < k = omega (arith, rcvd_lt R.trace p z 0 e t h) in
      let li : length (iv 0 r) ≡ r = length_iv 0 r in
      rw (taken_iv R) (on (le? e (R.restart z))
      (λ u. let a : k ≤ r = rcvd_le R.trace p z e (R.restart z) u in
      let g : get_or (iv 0 r) (k - 1) 0 ≡ k = get_d_iv 0 r (k - 1) (omega arith) ∙ omega arith in
      rw (le-leb e (R.restart z) u) (sym g, sym (get_d_map f (iv 0 r) (k - 1) (omega (arith, li)) ∙ ap f g)))
      (λ u. let a : r < k = rcvd_lt R.trace p z (R.restart z) e t u in
      rw (lt-leb e (R.restart z) u) (sym (get_d_past (iv 0 r) (k - 1) (omega (arith, li))), sym (get_d_past (map f (iv 0 r)) (k - 1) (omega (arith, li, length-map (iv 0 r) f))))))
