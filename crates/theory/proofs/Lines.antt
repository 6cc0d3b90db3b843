-- Lines by epochs: when a permitted line loses a message, how far a line without loss lies below one that loses it, and
-- the floor. For any rule and any set of usable checkpoints. From the laws of Epochs and the counting form of Classes.
use mathlib.Core.Path.{◌≡◌, refl, sym, ◌∙◌, ap, subst}
use mathlib.Core.Logic.{◌⊎◌, inl, inr, ◌≢◌}
use mathlib.Core.Bool.{Bool, true, false, not}
use Prim.Native.Nat.{ℕ, suc, ◌-◌, ◌≤◌, ◌<◌}
use native.Mathlib.Omega.{arith}
use lib.Dec.{leb, eqb}
use borrow.Author.Tests.{leb-true, ltb-false, eqb-true, le-leb, eq-eqb, ne_eqb}
use Rattle.trace.specs.Trace.{Trace}
use Rattle.theory.specs.Lists.{cnt, place, last_of}
use Rattle.theory.specs.Events.{size, sends, recvs, checkpoints, sent, rcvd}
use Rattle.theory.specs.Epochs.{Rule, epoch_at, epoch_of, logged_by, finished_at, rule_of}
use Rattle.theory.specs.Line.{may, sent_before, received, received_before, undone, lost, LossFree, restart_in, recorded, current, Permitted, usable_at}
use Rattle.theory.specs.Inner.Lines.{Usable}
use Rattle.theory.specs.Inner.Laws.{Laws}
use Rattle.theory.proofs.Base.{by, on, clash, le?, both, cnt_le, cnt_lt, cnt_bound, place_zero, place_cnt, place_mono, last_of_le, last_of_top}
use Rattle.theory.proofs.Events.{sends_is, send_no_checkpoint, recv_no_checkpoint, sent_le, rcvd_le, rcvd_lt, send_of_lem, recv_of_lem}
use Rattle.theory.proofs.WellFormed.{Valid}
use Rattle.theory.proofs.Classes.{lost_is, is_lost}
use Rattle.theory.proofs.Epochs.{restart_cut, epoch_is, epoch_of_at, logged_is, laws}

module _ (usable : ℕ → ℕ → Bool) (failed : ℕ → Bool) (z n : ℕ) where
  pub may_is : may usable failed z n ≡ true → (usable z n ≡ true) ⊎ ((n ≡ 32) × (failed z ≡ false))
  may_is h = by (usable z n) (λ u. inl u)
      (λ u. let b = both (eqb n 32) (not (failed z)) (rw u at h) in
      inr (eqb-true n 32 b.0, by (failed z) (λ v. clash {b = false} (rw v at b.1) refl) (λ v. v)))

  pub may_restart : usable z n ≡ true → may usable failed z n ≡ true
  may_restart h = rw h

  pub may_stay : n ≡ 32 → failed z ≡ false → may usable failed z n ≡ true
  may_stay h k = let e : eqb n 32 ≡ true = eq-eqb n 32 h in by (usable z n) (λ u. rw u) (λ u. rw (u, e, k))

module _ (t : Trace) (rule : Rule) (cut : ℕ) where
  -- a number that a line may hold for a process: 32, or an epoch that it has reached
  abbrev pub Number : ℕ → ℕ → Type 0
  Number z n = (n ≡ 32) ⊎ ((1 ≤ n) × (n ≤ current t rule cut z))

  -- a message that is lost, by the epochs of its send d and its receive e
  pub record ByEpochs (l : ℕ → ℕ) (p q k : ℕ) : Type 0 where
    pub d : ℕ
    pub e : ℕ
    pub d_pos : 0 < d
    pub d_cut : d ≤ cut
    pub d_send : sends t p q d ≡ true
    pub d_is : sent t p q d ≡ k
    pub e_pos : 0 < e
    pub e_cut : e ≤ cut
    pub e_recv : recvs t p q e ≡ true
    pub e_is : rcvd t p q e ≡ k
    pub unlogged : logged_by t rule p q k ≡ false
    pub below : epoch_at t rule p d < l p
    pub above : l q ≤ epoch_at t rule q e

module _ (t : Trace) (rule : Rule) (A : Valid t) (cut : ℕ) (cl : cut ≤ size t) where
  abbrev E : ℕ → ℕ → ℕ
  E z x = epoch_at t rule z x

  pub now_is : (z : ℕ) → current t rule cut z ≡ suc (cnt (checkpoints t z) cut)
  now_is z = epoch_is t rule cut z

  pub now_few : (z : ℕ) → current t rule cut z < 32
  now_few z = omega (arith, now_is z, A.checkpoints_few z cut cl)

  pub epoch_le : (z x : ℕ) → x ≤ cut → E z x ≤ current t rule cut z
  epoch_le z x h = omega (arith, now_is z, epoch_is t rule x z, cnt_le (checkpoints t z) x cut h)

  pub stays_at : (l : ℕ → ℕ) (z : ℕ) → l z ≡ 32 → restart_in t cut l z ≡ cut
  unfolding restart_in
  stays_at l z h = let u : eqb (l z) 32 ≡ true = eq-eqb (l z) 32 h in rw u

  back_at : (l : ℕ → ℕ) (z : ℕ) → l z < 32 → restart_in t cut l z ≡ place (checkpoints t z) (l z - 1) cut
  unfolding restart_in
  back_at l z h = let u : eqb (l z) 32 ≡ false = ne_eqb (l z) 32 (λ q. omega arith) in rw u

  -- a restart in an epoch is the start or right after a checkpoint, in that epoch
  pub restart_epoch : (l : ℕ → ℕ) (z : ℕ) → 1 ≤ l z → l z ≤ current t rule cut z
      → (E z (restart_in t cut l z) ≡ l z) × ((restart_in t cut l z ≡ 0) ⊎ (checkpoints t z (restart_in t cut l z) ≡ true))
  restart_epoch l z a b = rw (back_at l z (omega (arith, now_few z))) (on (le? (l z) 1)
      (λ o. let w : l z - 1 ≡ 0 = omega arith in
      let i = place_zero (checkpoints t z) cut in
      rw (w, i) (omega (arith, epoch_is t rule 0 z, cnt_bound (checkpoints t z) 0), inl refl))
      (λ o. let c = place_cnt (checkpoints t z) (l z - 1) cut (omega arith) (omega (arith, now_is z)) in
      (omega (arith, epoch_is t rule (place (checkpoints t z) (l z - 1) cut) z, c.1), inr c.0)))

  -- a lower number restarts no later
  pub restart_mono : (l m : ℕ → ℕ) (z : ℕ) → Number t rule cut z (m z) → l z ≤ m z → restart_in t cut l z ≤ restart_in t cut m z
  restart_mono l m z n h = on n
      (λ u. rw (stays_at m z u) (restart_cut t cut l z))
      (λ u. let e : m z < 32 = omega (arith, u.1, now_few z) in
      rw (back_at l z (omega arith), back_at m z e)
      (place_mono (checkpoints t z) (l z - 1) (m z - 1) cut (omega arith) (omega (arith, u.1, now_is z))))

  -- an event that is no checkpoint is before the checkpoint that raises to epoch n exactly if its own epoch is below n
  module _ (z x n : ℕ) (a : 0 < x) (ns : checkpoints t z x ≡ false) (one : 1 ≤ n) (up : n ≤ current t rule cut z) where
    place_after : x ≤ place (checkpoints t z) (n - 1) cut → E z x < n
    place_after h = on (le? n 1)
        (λ o. let w : n - 1 ≡ 0 = omega arith in absurd (omega (arith, rw (w, place_zero (checkpoints t z) cut) at h)))
        (λ o. let c = place_cnt (checkpoints t z) (n - 1) cut (omega arith) (omega (arith, now_is z)) in
        let d : x ≢ place (checkpoints t z) (n - 1) cut = λ i. clash (subst (λ y. checkpoints t z y ≡ true) (sym i) c.0) ns in
        omega (arith, cnt_lt (checkpoints t z) x (place (checkpoints t z) (n - 1) cut) c.0 (omega arith), c.1, epoch_is t rule x z))

    place_before : place (checkpoints t z) (n - 1) cut < x → n ≤ E z x
    place_before h = on (le? n 1) (λ o. omega (arith, epoch_is t rule x z))
        (λ o. let c = place_cnt (checkpoints t z) (n - 1) cut (omega arith) (omega (arith, now_is z)) in
        omega (arith, cnt_le (checkpoints t z) (place (checkpoints t z) (n - 1) cut) x (omega arith), c.1, epoch_is t rule x z))

  -- so it is at or before the restart exactly if its epoch is below the line's number
  before_restart : (l : ℕ → ℕ) (z x : ℕ) → Number t rule cut z (l z) → 0 < x → checkpoints t z x ≡ false → x ≤ restart_in t cut l z → E z x < l z
  before_restart l z x n a ns h = on n
      (λ u. omega (arith, epoch_le z x (omega (arith, restart_cut t cut l z)), now_few z))
      (λ u. let r : x ≤ place (checkpoints t z) (l z - 1) cut = rw (back_at l z (omega (arith, u.1, now_few z))) at h in
      place_after z x (l z) a ns u.0 u.1 r)

  after_restart : (l : ℕ → ℕ) (z x : ℕ) → Number t rule cut z (l z) → 0 < x → x ≤ cut → checkpoints t z x ≡ false → restart_in t cut l z < x → l z ≤ E z x
  after_restart l z x n a b ns h = on n
      (λ u. absurd (omega (arith, stays_at l z u)))
      (λ u. let r : place (checkpoints t z) (l z - 1) cut < x = rw (back_at l z (omega (arith, u.1, now_few z))) at h in
      place_before z x (l z) a ns u.0 u.1 r)

  module _ (l : ℕ → ℕ) (p q k : ℕ) (np : Number t rule cut p (l p)) (nq : Number t rule cut q (l q)) where
    L : Laws (recorded t rule cut l)
    L = laws t rule A cut l cl

    pub lost_epochs : lost (recorded t rule cut l) p q k ≡ true → ByEpochs t rule cut l p q k
    lost_epochs h =
        let x = lost_is (recorded t rule cut l) L p q k h in
        let z : 0 < k = omega (arith, x.after) in
        let f = send_of_lem t p q k (restart_in t cut l p) z x.before in
        let g = recv_of_lem t p q k cut z x.by_cut in
        let u : restart_in t cut l q < g.0 = on (le? g.0 (restart_in t cut l q))
        (λ a. absurd (omega (arith, rcvd_le t p q g.0 (restart_in t cut l q) a, g.4, x.after))) (λ a. a) in
        record {
          d = f.0;
          e = g.0;
          d_pos = f.1;
          d_cut = omega (arith, f.2, restart_cut t cut l p);
          d_send = f.3;
          d_is = f.4;
          e_pos = g.1;
          e_cut = g.2;
          e_recv = g.3;
          e_is = g.4;
          unlogged = x.unlogged;
          below = before_restart l p f.0 np f.1 (send_no_checkpoint t p q f.0 f.3) f.2;
          above = after_restart l q g.0 nq g.1 g.2 (recv_no_checkpoint t p q g.0 g.3) u;
        }

    pub epochs_lost : ByEpochs t rule cut l p q k → lost (recorded t rule cut l) p q k ≡ true
    epochs_lost x = is_lost (recorded t rule cut l) L p q k (record {
      after = on (le? x.e (restart_in t cut l q))
          (λ a. absurd (omega (arith, before_restart l q x.e nq x.e_pos (recv_no_checkpoint t p q x.e x.e_recv) a, x.above)))
          (λ a. omega (arith, rcvd_lt t p q (restart_in t cut l q) x.e x.e_recv a, x.e_is));
      by_cut = omega (arith, rcvd_le t p q x.e cut x.e_cut, x.e_is);
      before = on (le? x.d (restart_in t cut l p))
          (λ a. omega (arith, sent_le t p q x.d (restart_in t cut l p) a, x.d_is))
          (λ a. absurd (omega (arith, after_restart l p x.d np x.d_pos x.d_cut (send_no_checkpoint t p q x.d x.d_send) a, x.below)));
      unlogged = x.unlogged;
    })

  pub epoch_of_lem : (l : ℕ → ℕ) (p q k : ℕ) (x : ByEpochs t rule cut l p q k) → epoch_of t rule p q k ≡ E p x.d
  epoch_of_lem l p q k x = ap (epoch_of t rule p q) (sym x.d_is) ∙ epoch_of_at t rule p q x.d x.d_send x.d_pos (omega (arith, x.d_cut))

  -- a lost message is one between processes of the trace, with a number of at most the events
  pub lost_in : (l : ℕ → ℕ) (p q k : ℕ) → lost (recorded t rule cut l) p q k ≡ true → (p < t.procs) × (q < t.procs) × (k < suc (size t))
  unfolding sent
  lost_in l p q k h =
      let x = lost_is (recorded t rule cut l) (laws t rule A cut l cl) p q k h in
      let f = send_of_lem t p q k (restart_in t cut l p) (omega (arith, x.after)) x.before in
      let w = sends_is t p q f.0 f.3 in
      let n : f.0 ≤ size t = omega (arith, f.2, restart_cut t cut l p) in
      (omega (arith, A.process_lt f.0 f.1 n, w.0), A.peer_lt f.0 q f.1 n w.1, omega (arith, cnt_bound (sends t p q) f.0, f.4))

  -- what a line loses depends on its numbers for the processes of the trace, and on no other
  lost_same : (l m : ℕ → ℕ) (p q k : ℕ) → l p ≡ m p → l q ≡ m q → lost (recorded t rule cut l) p q k ≡ lost (recorded t rule cut m) p q k
  unfolding lost undone received received_before sent_before restart_in
  lost_same l m p q k a b = rw (a, b)

  pub loss_same : (l m : ℕ → ℕ) → ((z : ℕ) → z < t.procs → l z ≡ m z) → LossFree (recorded t rule cut l) → LossFree (recorded t rule cut m)
  loss_same l m e f p q k = by (lost (recorded t rule cut m) p q k)
      (λ h. let n = lost_in m p q k h in clash (lost_same l m p q k (e p n.0) (e q n.1) ∙ h) (f p q k))
      (λ h. h)

  -- ---- Usable checkpoints

  -- a finished epoch is one that the process has reached
  pub finished_le : (z : ℕ) → finished_at t z cut ≤ current t rule cut z
  finished_le z = omega (arith, now_is z, A.finished_few z cut cl)

  pub usable_finished : Usable t rule cut (usable_at t cut)
  usable_finished = record {
    start = λ z. le-leb 1 (finished_at t z cut) (omega arith);
    within = λ z e h.
        let b = both (leb 1 e) (leb e (finished_at t z cut)) h in
        (leb-true 1 e b.0, omega (arith, leb-true e (finished_at t z cut) b.1, finished_le z));
  }

  module _ (usable : ℕ → ℕ → Bool) (U : Usable t rule cut usable) (failed : ℕ → Bool) where
    pub number_of : (l : ℕ → ℕ) → Permitted t rule cut usable failed l → (z : ℕ) → z < t.procs → Number t rule cut z (l z)
    number_of l b z h = on (may_is usable failed z (l z) (b z h)) (λ u. inr (U.within z (l z) u)) (λ u. inl u.0)

    -- The step of lowering. A message lost under line m: a line without loss that is not above m has its sender at most
    -- in the last usable epoch that is not above the epoch of the send; and that is below m.
    module _ (m : ℕ → ℕ) (b : Permitted t rule cut usable failed m) (p q k : ℕ) (h : lost (recorded t rule cut m) p q k ≡ true) where
      x : ByEpochs t rule cut m p q k
      x = lost_epochs m p q k (number_of m b p (lost_in m p q k h).0) (number_of m b q (lost_in m p q k h).1) h

      e_is : epoch_of t rule p q k ≡ E p x.d
      e_is = epoch_of_lem m p q k x

      last : (1 ≤ last_of (usable p) (epoch_of t rule p q k)) × (usable p (last_of (usable p) (epoch_of t rule p q k)) ≡ true)
      last = last_of_top (usable p) (epoch_of t rule p q k) 1 (U.start p) (omega arith) (omega (arith, e_is, epoch_is t rule x.d p))

      pub lower_usable : usable p (last_of (usable p) (epoch_of t rule p q k)) ≡ true
      lower_usable = last.1

      pub lower_less : last_of (usable p) (epoch_of t rule p q k) < m p
      lower_less = omega (arith, last_of_le (usable p) (epoch_of t rule p q k), e_is, x.below)

      pub lower_over : (l : ℕ → ℕ) → Permitted t rule cut usable failed l → LossFree (recorded t rule cut l) → ((z : ℕ) → z < t.procs → l z ≤ m z)
          → l p ≤ last_of (usable p) (epoch_of t rule p q k)
      lower_over l c f o =
          let pz = (lost_in m p q k h).0 in
          let qz = (lost_in m p q k h).1 in
          let low : l p ≤ E p x.d = on (le? (l p) (E p x.d)) (λ a. a)
          (λ a. clash (epochs_lost l p q k (number_of l c p pz) (number_of l c q qz) (same l a (omega (arith, o q qz, x.above)))) (f p q k)) in
          on (may_is usable failed p (l p) (c p pz))
          (λ u. (last_of_top (usable p) (epoch_of t rule p q k) (l p) u (U.within p (l p) u).0 (omega (arith, e_is))).0)
          (λ u. absurd (omega (arith, u.0, epoch_le p x.d x.d_cut, now_few p)))
        where
          same : (l : ℕ → ℕ) → E p x.d < l p → l q ≤ E q x.e → ByEpochs t rule cut l p q k
          same l a c = record {
            d = x.d;
            e = x.e;
            d_pos = x.d_pos;
            d_cut = x.d_cut;
            d_send = x.d_send;
            d_is = x.d_is;
            e_pos = x.e_pos;
            e_cut = x.e_cut;
            e_recv = x.e_recv;
            e_is = x.e_is;
            unlogged = x.unlogged;
            below = a;
            above = c;
          }

-- under the requirements' rule a message that is not logged is received in no later epoch than it is sent in
pub past_unlogged : (t : Trace) (A : Valid t) (cut : ℕ) (cl : cut ≤ size t) (l : ℕ → ℕ) (p q k : ℕ) (x : ByEpochs t (rule_of t) cut l p q k)
    → epoch_at t (rule_of t) q x.e ≤ epoch_at t (rule_of t) p x.d
past_unlogged t A cut cl l p q k x =
    let n : (y : ℕ) → y ≤ cut → y ≤ size t = λ y h. omega arith in
    let u = logged_is t (rule_of t) p q x.d x.e x.d_send x.e_recv x.d_pos x.e_pos (n x.d x.d_cut) (n x.e x.e_cut) (x.d_is ∙ sym x.e_is) in
    omega (arith, ltb-false _ _ (sym u ∙ rw x.d_is x.unlogged))
