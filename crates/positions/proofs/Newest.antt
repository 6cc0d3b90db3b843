-- The epochs at the cut and the phases at the restarts, from the newest events of the processes.
use mathlib.Core.Path.{◌≡◌, refl, sym, ◌∙◌, ap}
use mathlib.Core.Bool.{true, false, cond}
use mathlib.Core.Logic.{⊎_elim}
use mathlib.Core.List.{List}
use Prim.Native.Nat.{ℕ, zero, suc, ◌+◌, ◌-◌, ◌≤◌, ◌<◌}
use native.Mathlib.Omega.{arith}
use lib.ListN.{length, get_or}
use lib.Dec.{ltb, eqb}
use borrow.Author.Tests.{lt-ltb, le-ltb, eq-eqb, ne_eqb, eqb-true}
use Rattle.words.specs.Area.{words_from}
use Rattle.words.proofs.Area.{words_ext}
use Rattle.words.proofs.Cases.{by_eq, by_lt, clash}
use Rattle.trace.specs.declared.Event.{Event}
use Rattle.trace.specs.declared.Event.TheVariants.{Send, Recv, Save, Done}
use Rattle.trace.specs.Trace.{Trace}
use Rattle.theory.specs.Lists.{cnt}
use Rattle.theory.specs.Events.{size, event_at, at, checkpoints}
use Rattle.theory.specs.Epochs.{notes, epoch_at, phase_at, rule_of}
use Rattle.theory.specs.Line.{restart_in, current}
use Rattle.theory.proofs.Base.{cnt_le, cnt_lt, cnt_suc}
use Rattle.theory.proofs.Events.{checkpoints_is}
use Rattle.theory.proofs.Epochs.{epoch_is, restart_cut}
use Rattle.theory.proofs.Lines.{Number}
use Rattle.theory.proofs.Claims.{restart_back, restart_stays}
use Rattle.columns.specs.Inner.Columns.{epoch_base, phase_base, Tabled}
use Rattle.columns.proofs.Bounds.{epoch_most, phase_most}
use Rattle.columns.proofs.Moves.{save_local, local_phase}
use Rattle.recovery_line.specs.Given.{each, restart_phase_in}
use Rattle.columns.specs.Inner.Full.{at_w, epoch_w, phase_w}
use Rattle.columns.proofs.Full.{fit, few, procs_is, at_is, else_same}
use Rattle.positions.specs.Inner.Positions.{Linked, Before, PhasesFew, after_w, restart_phase, restart_event}

-- while a process does nothing, its epoch and its phase stay
idle_same : (t : Trace) (z x y : ℕ) → x ≤ y → ((w : ℕ) → x < w → w ≤ y → at t w ≡ z → ⊥)
    → (epoch_at t (rule_of t) z y ≡ epoch_at t (rule_of t) z x) × (phase_at t (rule_of t) z y ≡ phase_at t (rule_of t) z x)
idle_same t z x zero l h = let e : x ≡ 0 = omega arith in rw e (refl, refl)
idle_same t z x (suc y) l h = by_eq x (suc y)
    (λ e. rw e (refl, refl))
    (λ n. let s = else_same t y z (λ i. h (suc y) (omega arith) (omega arith) (sym i)) in
    let r = idle_same t z x y (omega arith) (λ w a b. h w a (omega arith)) in
    (s.0 ∙ r.0, s.1 ∙ r.1))

-- a checkpoint raises the phase by one
raised : (t : Trace) (z y : ℕ) (v : Event) → event_at t (suc y) ≡ v → checkpoints t z (suc y) ≡ true → phase_at t (rule_of t) z (suc y) ≡ suc (phase_at t (rule_of t) z y)
unfolding checkpoints
raised t z y (Send a b v) e h = clash {b = false} (rw e at h) refl
raised t z y (Recv a b) e h = clash {b = false} (rw e at h) refl
raised t z y (Save a) e h = let i : z ≡ a = eqb-true z a (rw e at h) in rw i (omega (arith, local_phase t y a 1 (save_local t y a e)))
raised t z y (Done a) e h = clash {b = false} (rw e at h) refl

module _ (t : Trace) (full : List ℕ) (G : Tabled t full) (cut : ℕ) (cl : cut ≤ size t) (z x : ℕ) (xl : x ≤ cut) (own : 0 < x → at_w full x ≡ z) where
  -- ---- What is read at the newest event

  own_is : 0 < x → at t x ≡ z
  own_is p = sym (at_is t full G x p (omega arith)) ∙ own p

  own_epoch : 0 < x → epoch_w full x ≡ epoch_at t (rule_of t) z x
  own_epoch p = G.columns.epoch x p (omega arith) ∙ ap (λ (w : ℕ). epoch_at t (rule_of t) w x) (own_is p)

  own_phase : 0 < x → phase_w full x ≡ phase_at t (rule_of t) z x
  own_phase p = G.columns.phase x p (omega arith) ∙ ap (λ (w : ℕ). phase_at t (rule_of t) w x) (own_is p)

  -- by the column's base and what its words mean
  there : (base : ℕ) (f : ℕ → ℕ) → f 0 ≡ 1 → (0 < x → get_or full (base + x) 0 ≡ f x) → after_w full base x ≡ f x
  there base f start h = by_eq x 0 (λ e. rw (eq-eqb x 0 e, e) (sym start)) (λ n. rw (ne_eqb x 0 n) (h (omega arith)))

  epoch_there : after_w full epoch_base x ≡ epoch_at t (rule_of t) z x
  unfolding notes
  epoch_there = there epoch_base (epoch_at t (rule_of t) z) refl own_epoch

  phase_there : after_w full phase_base x ≡ phase_at t (rule_of t) z x
  unfolding notes
  phase_there = there phase_base (phase_at t (rule_of t) z) refl own_phase

  -- ---- The epoch at the cut

  epoch_newest : ((y : ℕ) → x < y → y ≤ cut → at_w full y ≡ z → ⊥) → after_w full epoch_base x ≡ current t (rule_of t) cut z
  epoch_newest h =
      epoch_there ∙ sym (idle_same t z x cut xl (λ w a b i. h w a b (at_is t full G w (omega arith) (omega arith) ∙ i))).0

  -- ---- The phase at the restart

  module _ (line : ℕ → ℕ) (done : 0 < x → epoch_w full x < line z) (undone : (e : ℕ) → x < e → e ≤ cut → at_w full e ≡ z → line z ≤ epoch_w full e) where
    -- the events after x have no epoch before the line's
    later : (w : ℕ) → x < w → w ≤ cut → at t w ≡ z → line z ≤ epoch_at t (rule_of t) z w
    later w a b i =
        let e : epoch_w full w ≡ epoch_at t (rule_of t) z w = G.columns.epoch w (omega arith) (omega arith) ∙ ap (λ (y : ℕ). epoch_at t (rule_of t) y w) i in
        omega (arith, e, undone w a b (at_is t full G w (omega arith) (omega arith) ∙ i))

    stays_phase : line z ≡ 32 → after_w full phase_base x ≡ restart_phase_in t cut line z
    stays_phase h =
        phase_there
        ∙ sym (idle_same t z x cut xl (λ w a b i. let u = later w a b i in omega (arith, u, h, epoch_most t (fit t full G) z w (omega arith)))).1
        ∙ ap (phase_at t (rule_of t) z) (sym (restart_stays t G.formed (rule_of t) cut cl line z h))

    -- the restart s, and what holds of it
    module _ (a : 1 ≤ line z) (b : line z ≤ current t (rule_of t) cut z) where
      abbrev s : ℕ
      s = restart_in t cut line z

      epoch_s : epoch_at t (rule_of t) z s ≡ line z
      epoch_s = (restart_back t G.formed (rule_of t) cut cl line z a b).0

      s_cut : s ≤ cut
      s_cut = restart_cut t cut line z

      before_s : x ≤ s
      before_s = by_lt s x
          (λ h. let p : 0 < x = omega arith in
          absurd (let y : ⊥ = omega (arith, own_epoch p, done p, epoch_s, epoch_is t (rule_of t) s z, epoch_is t (rule_of t) x z, cnt_le (checkpoints t z) s x (omega arith)) in y))
          (λ h. h)

      start_phase : s ≡ 0 → after_w full phase_base x ≡ phase_at t (rule_of t) z s
      start_phase h = phase_there ∙ ap (phase_at t (rule_of t) z) (let e : x ≡ s = omega (arith, before_s) in e)

      -- the restart itself is undone
      before_some : 0 < s → x < s
      before_some q = by_eq x s
          (λ i. let p : 0 < x = omega arith in
          let v : epoch_at t (rule_of t) z x ≡ line z = ap (epoch_at t (rule_of t) z) i ∙ epoch_s in
          absurd (let q : ⊥ = omega (arith, own_epoch p, v, done p) in q))
          (λ i. omega (arith, before_s, i))

      back_phase : (y : ℕ) → s ≡ suc y → checkpoints t z s ≡ true → after_w full phase_base x + 1 ≡ phase_at t (rule_of t) z s
      back_phase y e c =
          let cy : checkpoints t z (suc y) ≡ true = rw e at c in
          let ey : epoch_at t (rule_of t) z (suc y) ≡ line z = rw e at epoch_s in
          let n = cnt_suc (checkpoints t z) y cy in
          let i = idle_same t z x y (omega (arith, before_some (omega arith), e))
          (λ w k l j. let u = later w k (omega (arith, s_cut, e)) j in
          omega (arith, u, ey, epoch_is t (rule_of t) w z, epoch_is t (rule_of t) (suc y) z, n, cnt_le (checkpoints t z) w y l)) in
          let r = raised t z y (event_at t (suc y)) refl cy in
          ap (λ (w : ℕ). w + 1) (phase_there ∙ sym i.1) ∙ omega (arith, r, ap (phase_at t (rule_of t) z) e)

      -- a restart in epoch 1 is the start, and no other is
      first_epoch : s ≡ 0 → line z ≡ 1
      unfolding cnt
      first_epoch h = sym epoch_s ∙ ap (epoch_at t (rule_of t) z) h ∙ epoch_is t (rule_of t) 0 z

      saved : 0 < s → checkpoints t z s ≡ true
      saved p = ⊎_elim (λ e. absurd (let y : ⊥ = omega arith in y)) (λ c. c) (restart_back t G.formed (rule_of t) cut cl line z a b).1

      later_epoch : 0 < s → 2 ≤ line z
      later_epoch p = omega (arith, epoch_s, epoch_is t (rule_of t) s z, cnt_lt (checkpoints t z) 0 s (saved p) p)

      gone_back : restart_phase full (line z) x ≡ phase_at t (rule_of t) z s
      gone_back =
          let n : eqb (line z) 32 ≡ false = ne_eqb (line z) 32 (λ h. omega (arith, b, h, epoch_most t (fit t full G) z cut cl)) in
          by_eq s 0
          (λ h. rw (n, eq-eqb (line z) 1 (first_epoch h)) (omega (arith, start_phase h)))
          (λ h. let p : 0 < s = omega arith in
          let m : eqb (line z) 1 ≡ false = ne_eqb (line z) 1 (λ i. omega (arith, later_epoch p, i)) in
          rw (n, m) (back_phase (s - 1) (omega arith) (saved p)))

    -- the first event after x, where there is one, is the checkpoint that the process goes back to
    module _ (f : ℕ) (fo : 0 < f → (x < f) × (f ≤ cut) × (at_w full f ≡ z)) (fa : (y : ℕ) → x < y → y ≤ cut → at_w full y ≡ z → (0 < f) × (f ≤ y)) where
      restart_first : (a : 1 ≤ line z) (b : line z ≤ current t (rule_of t) cut z) → 0 < s a b → f ≡ s a b
      restart_first a b p =
          let c = saved a b p in
          let sz : at_w full (s a b) ≡ z = at_is t full G (s a b) p (omega (arith, s_cut a b)) ∙ (checkpoints_is t z (s a b) c).0 in
          let q = fa (s a b) (before_some a b p) (s_cut a b) sz in
          let o = fo q.0 in
          by_lt f (s a b)
          (λ l. let u = later f o.0 o.1 (sym (at_is t full G f q.0 (omega (arith, o.1))) ∙ o.2) in
          absurd (let r : ⊥ = omega (arith, u, epoch_s a b, epoch_is t (rule_of t) f z, epoch_is t (rule_of t) (s a b) z, cnt_lt (checkpoints t z) f (s a b) c l) in r))
          (λ l. omega (arith, q.1))

      pub restart_event_lem : Number t (rule_of t) cut z (line z) → restart_event (line z) cut f ≡ restart_in t cut line z
      restart_event_lem k = ⊎_elim
          (λ h. rw (eq-eqb (line z) 32 h) (sym (restart_stays t G.formed (rule_of t) cut cl line z h)))
          (λ h. let a = h.0 in
          let b = h.1 in
          let n : eqb (line z) 32 ≡ false = ne_eqb (line z) 32 (λ w. omega (arith, b, w, epoch_most t (fit t full G) z cut cl)) in
          by_eq (s a b) 0
          (λ w. rw (n, eq-eqb (line z) 1 (first_epoch a b w)) (sym w))
          (λ w. let p : 0 < s a b = omega arith in
          rw (n, ne_eqb (line z) 1 (λ i. omega (arith, later_epoch a b p, i))) (restart_first a b p)))
          k

    pub phase_newest : Number t (rule_of t) cut z (line z) → restart_phase full (line z) x ≡ restart_phase_in t cut line z
    phase_newest k = ⊎_elim
        (λ h. rw (eq-eqb (line z) 32 h) (omega (arith, stays_phase h)))
        (λ h. gone_back h.0 h.1)
        k

-- ---- The words of all processes

module _ (t : Trace) (full : List ℕ) (G : Tabled t full) (cut : ℕ) (cl : cut ≤ size t) (count : ℕ) (ec : count ≡ get_or full 0 0) where
  -- a rule of the first processes, 0 past the last
  each_is : (f g : ℕ → ℕ) → ((z : ℕ) → z < t.procs → f z ≡ g z) → (z : ℕ) → cond (ltb z count) (f z) 0 ≡ each t g z
  each_is f g h z =
      let c : count ≡ t.procs = ec ∙ procs_is t full G in
      by_lt z t.procs
      (λ l. let s : ltb z t.procs ≡ true = lt-ltb z t.procs l in rw (c, s) (h z l))
      (λ l. let s : ltb z t.procs ≡ false = le-ltb z t.procs l in rw (c, s))

  few_procs : (z : ℕ) → z < t.procs → z < 64
  few_procs z l = omega (arith, (fit t full G).few)

  pub epochs_made : (earlier latest d : List ℕ) → Linked full cut earlier latest → length d ≡ 64
      → ((z : ℕ) → z < 64 → get_or d z 0 ≡ cond (ltb z count) (after_w full epoch_base (get_or latest z 0)) 0) → d ≡ words_from (each t (current t (rule_of t) cut)) 0 64
  epochs_made earlier latest d L len h =
      words_ext (each t (current t (rule_of t) cut)) 64 d len
      (λ z b. h z b ∙ each_is (λ z. after_w full epoch_base (get_or latest z 0)) (current t (rule_of t) cut)
      (λ z l. let n = L.last z (few_procs z l) in epoch_newest t full G cut cl z (get_or latest z 0) n.within n.own n.others) z)

  pub phases_made : (r latest p : List ℕ) (line : ℕ → ℕ) → ((z : ℕ) → z < t.procs → line z ≡ get_or r z 0) → ((z : ℕ) → z < t.procs → Number t (rule_of t) cut z (line z))
      → Before full cut r latest → length p ≡ 64
      → ((z : ℕ) → z < 64 → get_or p z 0 ≡ cond (ltb z count) (restart_phase full (get_or r z 0) (get_or latest z 0)) 0)
      → p ≡ words_from (each t (restart_phase_in t cut line)) 0 64
  phases_made r latest p line same k B len h =
      words_ext (each t (restart_phase_in t cut line)) 64 p len
      (λ z b. h z b ∙ each_is (λ z. restart_phase full (get_or r z 0) (get_or latest z 0)) (restart_phase_in t cut line)
      (λ z l. let q = few_procs z l in
      ap (λ (n : ℕ). restart_phase full n (get_or latest z 0)) (sym (same z l))
      ∙ phase_newest t full G cut cl z (get_or latest z 0) (B.within z q) (B.own z q) line
      (λ a. rw (same z l) (B.done z q a))
      (λ e a c i. rw (same z l, ← i) (B.undone e (omega arith) c (rw i a)))
      (k z l)) z)

  -- no phase is past its range
  pub phases_few : (r latest : List ℕ) → Before full cut r latest → PhasesFew full latest
  phases_few r latest B z l p =
      let x = get_or latest z 0 in
      let b : x ≤ size t = omega (arith, B.within z l) in
      omega (arith, G.columns.phase x p b, phase_most t (fit t full G) (at t x) x b, few t full G)
