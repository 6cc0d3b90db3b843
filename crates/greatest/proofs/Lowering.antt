-- The words of a line, lowered at one event after another, become the greatest line without a lost message:
-- `greatest_words`, whatever the rule by which messages are marked as logged.
use mathlib.Core.Path.{◌≡◌, refl, sym, ◌∙◌, ap, subst, fun_ext}
use mathlib.Core.Bool.{Bool, true, false, ◌&&◌, not, cond}
use mathlib.Core.List.{List}
use Prim.Native.Nat.{ℕ, ◌+◌, min, ◌≤◌, ◌<◌}
use native.Mathlib.Omega.{arith}
use lib.ListN.{length, get_or, set, get_or-eq_default}
use lib.Seq.{get_or-set_same, get_or-set_other}
use lib.Dec.{leb, ltb, eqb}
use borrow.Author.Tests.{leb-true, ltb-true, lt-ltb, le-ltb, le-leb, eq-eqb, eqb-true, eqb-false}
use Rattle.words.specs.Area.{words_from}
use Rattle.words.proofs.Area.{length_words, get_d_words, words_ext}
use Rattle.words.proofs.Cases.{by_bool, by_lt, clash, and_left, and_right}
use Rattle.trace.specs.Trace.{Trace}
use Rattle.theory.specs.Lists.{last_of}
use Rattle.theory.specs.Events.{size, at, sends, recvs, sent, rcvd, send_of}
use Rattle.theory.specs.Epochs.{Rule, epoch_at, epoch_of, logged_by, rule_of, finished_at}
use Rattle.theory.specs.Line.{in_set, lost, LossFree, recorded, current, Greatest, lower, highest, greatest_line, usable_at}
use Rattle.theory.specs.Inner.Lines.{Usable, Above}
use Rattle.theory.specs.Answers.{line_of}
use Rattle.theory.proofs.Base.{last_of_le, last_of_top}
use Rattle.theory.proofs.Events.{sends_is, recvs_is, send_of_at}
use Rattle.theory.proofs.Epochs.{epoch_of_at, epoch_same}
use Rattle.theory.proofs.Lines.{Number, ByEpochs, epoch_le, finished_le, number_of, lost_in, lost_epochs, epochs_lost}
use Rattle.theory.proofs.Claims.{epoch_counts, finished_usable, lowering_begins, lowering_goes_on, lowering_ends, greatest_line_lem, greatest_only}
use Rattle.recovery_line.specs.declared.Line.{Line}
use Rattle.columns.specs.Inner.Columns.{Tabled, Flagged}
use Rattle.recovery_line.specs.Given.{each, line_in, line_to}
use Rattle.columns.specs.Inner.Full.{procs_w, at_w, peer_w, kind_w, epoch_w, match_w, logged_w}
use Rattle.positions.specs.Inner.Positions.{FinishedEpochs}
use Rattle.lowering.specs.Inner.Lowering.{lost_e, lost_w, lower_at, Lowers, Rising, Lowered}
use Rattle.lowering.specs.Inner.Lowering.Lowers.{same, more}
use Rattle.columns.proofs.Full.{fit, procs_is, at_is, kind_receive, receive_kind, recv_match}
use Rattle.columns.specs.Inner.Given.{Marked}
use Rattle.greatest.specs.Inner.Line.{line_by}
use Rattle.lowering.proofs.Worklist.{length_lower}

not_true : (b : Bool) → not b ≡ true → b ≡ false
not_true true h = clash {b = false} h refl
not_true false h = refl

module _ (t : Trace) (full : List ℕ) (G : Tabled t full) (rule : Rule) (F : Flagged t (logged_by t rule) full) (cut : ℕ) (cl : cut ≤ size t)
    (f : List ℕ) (N : FinishedEpochs full cut f) where
  -- ---- A receive up to the cut, by words

  module _ (e p q : ℕ) (a : 0 < e) (b : e ≤ cut) (r : recvs t p q e ≡ true) where
    in_trace : e ≤ size t
    in_trace = omega arith

    -- the send of its message
    abbrev d : ℕ
    d = match_w full e

    X : (0 < d) × (d < e) × (sends t p q d ≡ true) × (sent t p q d ≡ rcvd t p q e)
    X = recv_match t full G p q e r a in_trace

    d_in : d ≤ size t
    d_in = omega (arith, X.1)

    d_at : at t d ≡ p
    d_at = (sends_is t p q d X.2).0

    e_at : at t e ≡ q
    e_at = (recvs_is t p q e r).0

    sender_in : p < t.procs
    sender_in = omega (arith, d_at, (fit t full G).process_lt d X.0 d_in)

    receiver_in : q < t.procs
    receiver_in = omega (arith, e_at, (fit t full G).process_lt e a in_trace)

    sent_epoch : epoch_w full d ≡ epoch_at t rule p d
    sent_epoch = G.columns.epoch d X.0 d_in ∙ ap (λ (z : ℕ). epoch_at t (rule_of t) z d) d_at ∙ epoch_same t (rule_of t) rule p d

    taken_epoch : epoch_w full e ≡ epoch_at t rule q e
    taken_epoch = G.columns.epoch e a in_trace ∙ ap (λ (z : ℕ). epoch_at t (rule_of t) z e) e_at ∙ epoch_same t (rule_of t) rule q e

    flag_is : eqb (logged_w full e) 1 ≡ logged_by t rule p q (rcvd t p q e)
    flag_is = ap (λ (w : ℕ). eqb w 1) (F p q e r a in_trace) ∙ by_bool (logged_by t rule p q (rcvd t p q e)) (λ l. rw l) (λ l. rw l)

    -- lost by the words is lost by the epochs
    by_words : (m : List ℕ) → lost_e full m p q (match_w full e) e ≡ true → ByEpochs t rule cut (line_of m) p q (rcvd t p q e)
    unfolding lost_e
    by_words m h =
        let u = leb (get_or m q 0) (epoch_w full e) in
        let v = ltb (epoch_w full d) (get_or m p 0) in
        let w = eqb (logged_w full e) 1 in
        let h1 : u ≡ true = and_left u (v && not w) h in
        let h2 : v ≡ true = and_left v (not w) (and_right u (v && not w) h) in
        let h3 : w ≡ false = not_true w (and_right v (not w) (and_right u (v && not w) h)) in
        record {
          d = d;
          e = e;
          d_pos = X.0;
          d_cut = omega (arith, X.1);
          d_send = X.2;
          d_is = X.3;
          e_pos = a;
          e_cut = b;
          e_recv = r;
          e_is = refl;
          unlogged = sym flag_is ∙ h3;
          below = omega (arith, sent_epoch, ltb-true (epoch_w full d) (get_or m p 0) h2);
          above = omega (arith, taken_epoch, leb-true (get_or m q 0) (epoch_w full e) h1);
        }

  -- and the other way round
  by_epochs : (m : List ℕ) (p q k : ℕ) (x : ByEpochs t rule cut (line_of m) p q k) → lost_e full m p q (match_w full x.e) x.e ≡ true
  unfolding lost_e
  by_epochs m p q k x =
      let e = x.e in
      let y = X e p q x.e_pos x.e_cut x.e_recv in
      let same : match_w full e ≡ x.d =
      sym (send_of_at t p q (match_w full e) y.2 y.0 (omega (arith, y.1, x.e_cut)))
      ∙ ap (send_of t p q) (y.3 ∙ x.e_is ∙ sym x.d_is)
      ∙ send_of_at t p q x.d x.d_send x.d_pos (omega (arith, x.d_cut)) in
      let s : epoch_w full (match_w full e) ≡ epoch_at t rule p x.d =
      sent_epoch e p q x.e_pos x.e_cut x.e_recv ∙ ap (λ (w : ℕ). epoch_at t rule p w) same in
      let r = taken_epoch e p q x.e_pos x.e_cut x.e_recv in
      let h1 : leb (get_or m q 0) (epoch_w full e) ≡ true = le-leb (get_or m q 0) (epoch_w full e) (omega (arith, r, x.above)) in
      let h2 : ltb (epoch_w full (match_w full e)) (get_or m p 0) ≡ true = lt-ltb (epoch_w full (match_w full e)) (get_or m p 0) (omega (arith, s, x.below)) in
      let h3 : eqb (logged_w full e) 1 ≡ false =
      flag_is e p q x.e_pos x.e_cut x.e_recv ∙ ap (logged_by t rule p q) x.e_is ∙ x.unlogged in
      rw (h1, h2, h3)

  -- no event lowers the epoch of a process
  rising : Rising full cut
  rising x y a l b i =
      let z = at t y in
      let j : at t x ≡ z = sym (at_is t full G x a (omega arith)) ∙ i ∙ at_is t full G y (omega arith) (omega arith) in
      let ex : epoch_w full x ≡ epoch_at t (rule_of t) z x = G.columns.epoch x a (omega arith) ∙ ap (λ (w : ℕ). epoch_at t (rule_of t) w x) j in
      omega (arith, ex, G.columns.epoch y (omega arith) (omega arith), epoch_le t (rule_of t) (fit t full G) y (omega arith) z x l)

  -- ---- Lowering

  abbrev U : Usable t rule cut (usable_at t cut)
  U = finished_usable t G.formed rule cut cl

  -- the last finished epoch that is not above one
  last_finished : (p x : ℕ) → 1 ≤ x → last_of (usable_at t cut p) x ≡ min x (finished_at t p cut)
  last_finished p x a =
      let n = min x (finished_at t p cut) in
      let h1 : leb 1 n ≡ true = le-leb 1 n (omega arith) in
      let h2 : leb n (finished_at t p cut) ≡ true = le-leb n (finished_at t p cut) (omega arith) in
      let h : usable_at t cut p n ≡ true = rw (h1, h2) in
      let top = last_of_top (usable_at t cut p) x n h (omega arith) (omega arith) in
      let l = last_of (usable_at t cut p) x in
      let u : l ≤ finished_at t p cut = leb-true l (finished_at t p cut) (and_right (leb 1 l) (leb l (finished_at t p cut)) top.1) in
      omega (arith, last_of_le (usable_at t cut p) x, top.0, u)

  module _ (failed : ℕ → Bool) where
    abbrev Over : (ℕ → ℕ) → Type 0
    Over l = Above t rule cut (usable_at t cut) failed l

    above_same : (f g : ℕ → ℕ) → ((z : ℕ) → z < t.procs → f z ≡ g z) → Over f → Over g
    above_same f g h a = record {
      permitted = λ z l. rw (← h z l) (a.permitted z l);
      top = λ m b n z l. rw (← h z l) (a.top m b n z l);
    }

    number : (m : List ℕ) → Over (line_of m) → (z : ℕ) → z < t.procs → Number t rule cut z (get_or m z 0)
    number m v z l = number_of t rule (fit t full G) cut cl (usable_at t cut) U failed (line_of m) v.permitted z l

    module _ (m : List ℕ) (e p q : ℕ) (v : Over (line_of m)) (len : length m ≡ 64) (a : 0 < e) (b : e ≤ cut) (r : recvs t p q e ≡ true)
        (h : lost_e full m p q (match_w full e) e ≡ true) where
      low_by : ByEpochs t rule cut (line_of m) p q (rcvd t p q e)
      low_by = by_words e p q a b r m h

      low_lost : lost (recorded t rule cut (line_of m)) p q (rcvd t p q e) ≡ true
      low_lost =
          epochs_lost t rule (fit t full G) cut cl (line_of m) p q (rcvd t p q e)
          (number m v p (sender_in e p q a b r)) (number m v q (receiver_in e p q a b r)) low_by

      low_to : last_of (usable_at t cut p) (epoch_of t rule p q (rcvd t p q e)) ≡ min (epoch_w full (match_w full e)) (get_or f p 0)
      low_to =
          let x = X e p q a b r in
          let d = match_w full e in
          let i : epoch_of t rule p q (rcvd t p q e) ≡ epoch_at t rule p d =
          ap (epoch_of t rule p q) (sym x.3) ∙ epoch_of_at t rule p q d x.2 x.0 (d_in e p q a b r) in
          let c = epoch_counts t G.formed rule p d in
          ap (λ (y : ℕ). last_of (usable_at t cut p) y) i
          ∙ last_finished p (epoch_at t rule p d) (omega (arith, c))
          ∙ rw (sent_epoch e p q a b r, N.counts t G cl p (omega (arith, sender_in e p q a b r, (fit t full G).few)))

      pub low_above : Over (line_of (set m p (min (epoch_w full (match_w full e)) (get_or f p 0))))
      low_above =
          let w = lowering_goes_on t G.formed rule cut cl (usable_at t cut) U failed (line_of m) v p q (rcvd t p q e) low_lost in
          let s = sender_in e p q a b r in
          let n = min (epoch_w full (match_w full e)) (get_or f p 0) in
          above_same (lower t rule cut (usable_at t cut) (line_of m) p q (rcvd t p q e)) (line_of (set m p n))
          (λ z l. by_bool (eqb z p)
          (λ y. let i : z ≡ p = eqb-true z p y in
          rw (y, i, get_or-set_same m p n 0 (omega (arith, len, (fit t full G).few))) low_to)
          (λ y. rw (y, get_or-set_other m p z n 0 (eqb-false z p y))))
          w.0

    -- what one event does to a line that is above: it stays so, and places past the processes stay as they are
    lower_above : (m : List ℕ) (e : ℕ) → length m ≡ 64 → 0 < e → e ≤ cut → Over (line_of m)
        → Over (line_of (lower_at full f m e)) × ((z : ℕ) → t.procs ≤ z → get_or (lower_at full f m e) z 0 ≡ get_or m z 0)
    unfolding lower_at lost_w
    lower_above m e len a b v = by_bool (eqb (kind_w full e) 2)
        (λ k.
        let r = kind_receive t full G e a (omega arith) (eqb-true (kind_w full e) 2 k) in
        let p = peer_w full e in
        let q = at_w full e in
        by_bool (lost_e full m p q (match_w full e) e)
        (λ h. let s = sender_in e p q a b r in
        rw (k, h) (low_above m e p q v len a b r h, λ z l. get_or-set_other m p z (min (epoch_w full (match_w full e)) (get_or f p 0)) 0 (λ i. omega arith)))
        (λ h. rw (k, h) (v, λ z l. refl)))
        (λ k. rw k (v, λ z l. refl))

    -- and any number of events: the same
    lowers_above : (m r : List ℕ) → Lowers full f cut m r → length m ≡ 64 → Over (line_of m)
        → Over (line_of r) × ((z : ℕ) → t.procs ≤ z → get_or r z 0 ≡ get_or m z 0) × (length r ≡ 64)
    lowers_above m r same len v = (v, λ z l. refl, len)
    lowers_above m r (more {r = x} e a b s) len v =
        let ih = lowers_above m x s len v in
        let w = lower_above x e ih.2 a b ih.0 in
        (w.0, λ z l. w.1 z l ∙ ih.1 z l, length_lower full f x e ∙ ih.2)

    -- no event up to the cut receives a lost message: none is lost
    none_lost : (m : List ℕ) → Over (line_of m) → ((e : ℕ) → 0 < e → e ≤ cut → lost_w full m e ≡ false) → LossFree (recorded t rule cut (line_of m))
    unfolding lost_w
    none_lost m v f p q k = by_bool (lost (recorded t rule cut (line_of m)) p q k)
        (λ h.
        let i = lost_in t rule (fit t full G) cut cl (line_of m) p q k h in
        let x = lost_epochs t rule (fit t full G) cut cl (line_of m) p q k (number m v p i.0) (number m v q i.1) h in
        let w = receive_kind t full G x.e x.e_pos (omega (arith, x.e_cut)) p q x.e_recv in
        let n : cond (eqb (kind_w full x.e) 2) (lost_e full m (peer_w full x.e) (at_w full x.e) (match_w full x.e) x.e) false ≡ false =
        f x.e x.e_pos x.e_cut in
        let g : lost_e full m p q (match_w full x.e) x.e ≡ false = rw (eq-eqb (kind_w full x.e) 2 w.0, w.1, w.2) at n in
        clash (by_epochs m p q k x) g)
        (λ h. h)

    -- ---- The whole

    -- the first line: "Failed zones may not stay", all others do
    first_above : (m : List ℕ) → ((z : ℕ) → z < t.procs → get_or m z 0 ≡ cond (failed z) (get_or f z 0) 32) → Over (line_of m)
    unfolding highest
    first_above m h =
        above_same (highest t rule cut (usable_at t cut) failed) (line_of m)
        (λ z l. let c = epoch_counts t G.formed rule z cut in
        let n : min (current t rule cut z) (finished_at t z cut) ≡ get_or f z 0 =
        omega (arith, finished_le t rule (fit t full G) cut cl z, N.counts t G cl z (omega (arith, (fit t full G).few))) in
        ap (λ (y : ℕ). cond (failed z) y 32) (last_finished z (current t rule cut z) (omega (arith, c)) ∙ n) ∙ sym (h z l))
        (lowering_begins t G.formed rule cut cl (usable_at t cut) U failed)

    module _ (m r : List ℕ) (len : length m ≡ 64) (h : (z : ℕ) → z < t.procs → get_or m z 0 ≡ cond (failed z) (get_or f z 0) 32)
        (past_zero : (z : ℕ) → t.procs ≤ z → get_or m z 0 ≡ 0) (L : Lowered full f cut m r) where
      all : Over (line_of r) × ((z : ℕ) → t.procs ≤ z → get_or r z 0 ≡ get_or m z 0) × (length r ≡ 64)
      all = lowers_above m r L.steps len (first_above m h)

      greatest_words : Greatest t rule cut (usable_at t cut) failed (line_of r)
      greatest_words = lowering_ends t G.formed rule cut cl (usable_at t cut) U failed (line_of r) all.0 (none_lost r all.0 (L.none_lost rising))

      -- the words are those of the theory's line
      pub greatest_list : r ≡ words_from (each t (greatest_line t rule cut (usable_at t cut) failed)) 0 64
      greatest_list =
          words_ext (each t (greatest_line t rule cut (usable_at t cut) failed)) 64 r all.2
          (λ z h. by_lt z t.procs
          (λ l. greatest_only t G.formed rule cut cl (usable_at t cut) U failed (line_of r) (greatest_line t rule cut (usable_at t cut) failed) greatest_words
          (greatest_line_lem t G.formed rule cut cl (usable_at t cut) U failed) z l
          ∙ rw (lt-ltb z t.procs l))
          (λ l. all.1 z l ∙ past_zero z l ∙ rw (le-ltb z t.procs l)))

-- ---- `greatest`: the latest finished epochs f, the first line m, the last line r

module _ (t : Trace) (rule : Rule) (full : List ℕ) (cut set count : ℕ) (f m r : List ℕ) (M : Marked t rule full) (cl : cut ≤ size t) (ec : count ≡ procs_w full)
    (N : FinishedEpochs full cut f) (len : length m ≡ 64)
    (below : (z : ℕ) → z < count → get_or m z 0 ≡ cond (in_set set z) (get_or f z 0) 32) (others : (z : ℕ) → count ≤ z → get_or m z 0 ≡ 0) (L : Lowered full f cut m r) where
  count_is : count ≡ t.procs
  count_is = ec ∙ procs_is t full M.tabled

  first_is : (z : ℕ) → z < t.procs → get_or m z 0 ≡ cond (in_set set z) (get_or f z 0) 32
  first_is z h = below z (omega (arith, count_is))

  past_is : (z : ℕ) → t.procs ≤ z → get_or m z 0 ≡ 0
  past_is z h = others z (omega (arith, count_is))

  abbrev made : Line
  made = record { epochs = r; count = count }

  r_is : r ≡ words_from (each t (line_by t rule cut set)) 0 64
  r_is = greatest_list t full M.tabled rule M.flags cut cl f N (in_set set) m r len first_is past_is L

  pub greatest_made : made ≡ line_to t (line_by t rule cut set)
  greatest_made = ap (λ (x : List ℕ). record { epochs = x; count = count }) r_is ∙ ap (λ (x : ℕ). record { epochs = words_from (each t (line_by t rule cut set)) 0 64; count = x }) count_is

  r_past : (z : ℕ) → count ≤ z → get_or r z 0 ≡ 0
  r_past z h =
      by_lt z 64
      (λ l. ap (λ (x : List ℕ). get_or x z 0) r_is ∙ get_d_words (each t (line_by t rule cut set)) 0 64 z l
      ∙ (let s : ltb (0 + z) t.procs ≡ false = le-ltb (0 + z) t.procs (omega (arith, count_is)) in rw s))
      (λ l. get_or-eq_default r 0 {n = z} (omega (arith, ap length r_is, length_words (each t (line_by t rule cut set)) 0 64)))

  numbers_same : (z : ℕ) → line_of r z ≡ line_in made z
  numbers_same z =
      by_lt z count
      (λ l. rw (lt-ltb z count l))
      (λ l. rw (le-ltb z count l) (r_past z l))

  pub greatest_means : Greatest t rule cut (usable_at t cut) (in_set set) (line_in made)
  greatest_means =
      subst (Greatest t rule cut (usable_at t cut) (in_set set)) (fun_ext numbers_same)
      (greatest_words t full M.tabled rule M.flags cut cl f N (in_set set) m r len first_is past_is L)
