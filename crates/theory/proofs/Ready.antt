-- From a line without loss a choice is allowed until every process has done all its events. From the laws on phases, by
-- Progress. How: a phase r that is not ready waits for an orphan whose send is up to the cut and of phase r or less.
-- Among such events Progress meets only gates and kept messages of a phase below r (a process that goes back has its
-- gate below its events, a kept message that a receive wants is logged): so by recursion on r a choice is allowed. With
-- that, all events serve.
use mathlib.Core.Path.{◌≡◌, refl, sym, ◌∙◌, ap, subst}
use mathlib.Core.Logic.{◌≢◌}
use mathlib.Core.Bool.{true, false}
use mathlib.Core.List.{List, [], ◌∷◌}
use mathlib.Core.Option.{none, none-ne-some}
use Prim.Native.Nat.{ℕ, zero, suc, ◌+◌, ◌-◌, ◌≤◌, ◌<◌}
use native.Mathlib.Omega.{arith}
use Rattle.std.proofs.lemmas.Bool.{cond-false}
use lib.Dec.{leb, ltb}
use borrow.Author.Tests.{leb-true, lt-ltb, le-ltb}
use Rattle.theory.specs.Lists.{no_one}
use Rattle.theory.specs.Events.{size, at, kind, sends, recvs, checkpoints, sent, rcvd, send_of}
use Rattle.theory.specs.Line.{Run, sent_after, received_before, orphan, orphan_phase}
use Rattle.theory.specs.Replay.{Choice, State, resends, ready, gate, step}
use Rattle.theory.specs.Inner.Laws.{Laws}
use Rattle.theory.proofs.Base.{by, on, both, find_has, find_below}
use Rattle.theory.proofs.Events.{sends_is, recvs_is, checkpoints_is, sends_of, send_not_other, rcvd_le, rcvd_lt, send_of_lem, send_of_at}
use Rattle.theory.proofs.Classes.{NoLoss}
use Rattle.theory.specs.Inner.Flow.{r_before, r_cut, keptb, Kept, Inv}
use Rattle.theory.proofs.Flow.{todo_at, resends_of}
use Rattle.theory.proofs.Progress.{CanStep, Pass, Go, go, go_head}

module _ (R : Run) where
  -- the phase of an event's process after it
  abbrev ph : ℕ → ℕ
  ph e = R.phase (at R.trace e) e

  ph_at : (z e : ℕ) → at R.trace e ≡ z → ph e ≡ R.phase z e
  ph_at z e a = ap (λ y. R.phase y e) a

  module _ (L : Laws R) where
    phase_add : (z x d : ℕ) → R.phase z x ≤ R.phase z (x + d)
    phase_add z x zero = let e : x + zero ≡ x = omega arith in rw e (omega arith)
    phase_add z x (suc d) = let e : x + suc d ≡ suc (x + d) = omega arith in rw e (omega (arith, phase_add z x d, L.phase_up z (x + d)))

    pub phase_le : (z x y : ℕ) → x ≤ y → R.phase z x ≤ R.phase z y
    phase_le z x y h = let e : y ≡ x + (y - x) = omega arith in rw e (phase_add z x (y - x))

    restart_pos : (z : ℕ) → 0 < R.phase z (R.restart z)
    restart_pos z = omega (arith, L.phase_pos z, phase_le z 0 (R.restart z) (omega arith))

    -- what a process that goes back sent before its restart has a lower phase than the restart
    back_before : (z q e : ℕ) → R.stays z ≡ false → sends R.trace z q e ≡ true → 0 < e → e ≤ R.restart z → R.phase z e < R.phase z (R.restart z)
    back_before z q e t u a b = on (L.back z t) (λ r. absurd (omega arith)) (λ r. below (R.restart z) r b)
      where
        below : (x : ℕ) → checkpoints R.trace z x ≡ true → e ≤ x → R.phase z e < R.phase z x
        below zero r l = absurd (omega arith)
        below (suc x) r l =
            let n : e ≢ suc x = send_not_other R.trace z q e (suc x) u (checkpoints_is R.trace z (suc x) r).1 in
            omega (arith, phase_le z e x (omega arith), L.phase_checkpoint z x r)

  module _ (L : Laws R) (N : NoLoss R) (s : State) (i : Inv R s) where
    abbrev Waits : ℕ → ℕ → ℕ → Type 0
    Waits r z e = (at R.trace e ≡ z) × (i.cursors.up_to z < e) × (e ≤ size R.trace) × (e ≤ R.cut) × (ph e ≤ r)

    -- a phase that is not ready: the orphan that it waits for. Its send is one of before the cut, and its phase is its
    -- sender's
    waits : (r : ℕ) → ready R s r ≡ false → (z : ℕ) × (e : ℕ) × Waits r z e
    unfolding ready orphan sent_after orphan_phase
    waits r h =
        let zz = find_below R.trace.procs (λ z. no_one (λ e. resends R r z e (kind R.trace e)) (s.todo z)) h in
        let z = zz.0 in
        let f = find_has (λ e. resends R r z e (kind R.trace e)) (s.todo z) zz.2 in
        let e = f.0 in
        let a = todo_at R s i.cursors z e f.1 in
        let o = resends_of R r z e (kind R.trace e) f.2 in
        let q = o.0 in
        let n = sent R.trace z q e in
        let t = sends_of R.trace z q e a.2 o.1 in
        let c = both (sent_after R z q n) (received_before R z q n) o.2 in
        let d = both (ltb (R.restart z) (send_of R.trace z q n)) (leb (send_of R.trace z q n) R.cut) c.0 in
        let w = send_of_at R.trace z q e t (omega (arith, a.0)) a.1 in
        let p = L.carries_send z q e t (omega (arith, a.0)) a.1 in
        (z, e, (a.2, a.0, a.1, omega (arith, leb-true (send_of R.trace z q n) R.cut d.1), omega (arith, o.3, ph_at z e a.2)))

    kept_logged : (p q k : ℕ) → r_before R p q < k → k ≤ r_cut R p q → keptb R p q k ≡ true → R.logged p q k ≡ true
    unfolding keptb
    kept_logged p q k a b h =
        let x : ltb (r_before R p q) k ≡ true = lt-ltb (r_before R p q) k a in
        let w : ltb (r_cut R p q) k ≡ false = le-ltb (r_cut R p q) k b in
        rw (x, w) at h

    abbrev Low : ℕ → ℕ → Type 0
    Low r e = (e ≤ R.cut) × (ph e ≤ r)

    -- the events up to the cut of phase r or less, where a phase below r that is not ready makes a choice allowed
    module _ (r : ℕ) (ih : (q : ℕ) → q < r → ready R s q ≡ false → CanStep R s) where
      going_back : (z e : ℕ) → R.restart z < e → Low r e → R.stays z ≡ false
      going_back z e a c = by (R.stays z) (λ t. absurd (omega (arith, L.stay z t, c.0))) (λ t. t)

      low_at : (z e : ℕ) → at R.trace e ≡ z → Low r e → R.phase z e ≤ r
      low_at z e a c = omega (arith, c.1, ph_at z e a)

      low_gated : (z e : ℕ) → at R.trace e ≡ z → R.restart z < e → e ≤ size R.trace → Low r e → ready R s (gate R z) ≡ false → CanStep R s
      unfolding gate
      low_gated z e a b c k f =
          let t = going_back z e b k in
          let g : gate R z ≡ R.phase z (R.restart z) - 1 = omega (arith, cond-false (R.stays z) (R.phase z (R.restart z)) (R.phase z (R.restart z) - 1) t) in
          ih (R.phase z (R.restart z) - 1) (omega (arith, phase_le L z (R.restart z) e (omega arith), low_at z e a k, restart_pos L z)) (subst (λ n. ready R s n ≡ false) g f)

      low_send : (z q e m : ℕ) → at R.trace e ≡ z → R.restart z < e → e ≤ size R.trace → Low r e → Kept R z q m
          → ready R s (R.carries z q m) ≡ false → CanStep R s
      low_send z q e m a b c k l f =
          let t = going_back z e b k in
          let d = send_of_lem R.trace z q m (R.restart z) l.0 l.1 in
          let x = back_before L z q d.0 t d.3 d.1 d.2 in
          let y : R.carries z q m ≡ R.phase z d.0 = ap (R.carries z q) (sym d.4) ∙ L.carries_send z q d.0 d.3 d.1 (omega (arith, d.2)) in
          ih (R.carries z q m) (omega (arith, phase_le L z (R.restart z) e (omega arith), low_at z e a k)) f

      low_recv : (p z e : ℕ) → recvs R.trace p z e ≡ true → R.restart z < e → e ≤ size R.trace → Low r e → Kept R p z (rcvd R.trace p z e)
          → ready R s (R.carries p z (rcvd R.trace p z e)) ≡ false → CanStep R s
      low_recv p z e a b c k l f =
          let x = rcvd_lt R.trace p z (R.restart z) e a b in
          let g = kept_logged p z (rcvd R.trace p z e) x (rcvd_le R.trace p z e R.cut k.0) l.2 in
          ih (R.carries p z (rcvd R.trace p z e))
          (omega (arith, L.carries_logged p z e a (omega arith) c g, low_at z e (recvs_is R.trace p z e a).0 k)) f

      low : Pass R L N s i (Low r)
      low = record {
        down = λ d e a b c h k. (omega (arith, k.0), omega (arith, k.1, phase_le L (at R.trace e) d e b, ph_at (at R.trace e) d h));
        pair = λ p q d e a b c h k l m. (omega (arith, m.0), low_pair p q d e a b c h k l m);
        gated = low_gated;
        send_left = low_send;
        recv_left = low_recv;
      }
        where
          low_pair : (p q d e : ℕ) → sends R.trace p q d ≡ true → recvs R.trace p q e ≡ true → 0 < d → d < e → e ≤ size R.trace
              → sent R.trace p q d ≡ rcvd R.trace p q e → Low r e → ph d ≤ r
          low_pair p q d e a b c h k l m =
              omega (
                arith,
                ph_at p d (sends_is R.trace p q d a).0,
                low_at q e (recvs_is R.trace p q e b).0 m,
                L.carries_send p q d a c (omega arith),
                L.carries_recv p q e b (omega arith) k,
                ap (R.carries p q) l,
              )

    unready : (b r : ℕ) → r ≤ b → ready R s r ≡ false → CanStep R s
    unfolding Go
    unready zero r le h =
        let w = waits r h in
        let e = w.1 in
        let v = w.2 in
        go R L N s i (Low r) (low r (λ q a. absurd (omega arith))) e e (omega arith) w.0 v.0 v.1 v.2 (v.3, v.4)
    unready (suc b) r le h =
        let w = waits r h in
        let e = w.1 in
        let v = w.2 in
        go R L N s i (Low r) (low r (λ q a k. unready b q (omega arith) k)) e e (omega arith) w.0 v.0 v.1 v.2 (v.3, v.4)

    every : Pass R L N s i (λ _. Unit {0})
    every = record {
      down = λ d e a b c h k. tt;
      pair = λ p q d e a b c h k l m. tt;
      gated = λ z e a b c k f. unready (gate R z) (gate R z) (omega arith) f;
      send_left = λ z q e m a b c k l f. unready (R.carries z q m) (R.carries z q m) (omega arith) f;
      recv_left = λ p z e a b c k l f. unready (R.carries p z (rcvd R.trace p z e)) (R.carries p z (rcvd R.trace p z e)) (omega arith) f;
    }

    -- a process that has an event to do: a choice is allowed
    pub progress : (z e : ℕ) (es : List ℕ) → s.todo z ≡ e ∷ es → CanStep R s
    progress z e es h = go_head R L N s i (λ _. Unit {0}) every e (go R L N s i (λ _. Unit {0}) every e) z e es (omega arith) h tt

    pub all_done : ((c : Choice) → step R s c ≡ none) → (z : ℕ) → s.todo z ≡ []
    all_done c z = pick_todo (s.todo z) refl
      where
        pick_todo : (l : List ℕ) → s.todo z ≡ l → s.todo z ≡ []
        pick_todo [] h = h
        pick_todo (e ∷ es) h = let a = progress z e es h in absurd (none-ne-some a.1 (sym (c a.0) ∙ a.2))
