-- What the requirements promise of recovery (MANUAL 3 to 5), of its steps (5.8) and of unfinished saves (3.4, 4.6),
-- each claim under its sentence, which is a quotation. Read this file first, with the definitions of specs/; the other
-- files of proofs/ say why. `demand_3` is demand 3 whole. All claims hold for every well-formed trace (crate trace),
-- every cut, and, where `rule` and `usable` are named, for every rule of logging and every set of usable checkpoints;
-- the requirements' own are `rule_of` and `usable_at`.
use mathlib.Core.Path.{◌≡◌, sym, ◌∙◌, ap}
use mathlib.Core.Logic.{◌⊎◌, inl, inr, ◌↔◌, ◌≢◌}
use mathlib.Core.Bool.{Bool, true, false, ◌&&◌, ◌||◌, not}
use mathlib.Core.List.{List, [], ◌∷◌}
use mathlib.Core.Option.{none, some}
use Prim.Native.Nat.{ℕ, suc, ◌≤◌, ◌<◌}
use native.Mathlib.Omega.{arith}
use lib.ListN.{length, get_or, take}
use lib.Dec.{leb, ltb}
use borrow.Author.Tests.{leb-true, ltb-true, le-leb, lt-ltb, eq-eqb}
use Rattle.trace.specs.Trace.{Trace}
use Rattle.trace.specs.Fit.{well_formed}
use Rattle.theory.specs.Lists.{cnt, last_of}
use Rattle.theory.specs.Events.{size, sends, recvs, checkpoints, finishes, sent, rcvd}
use Rattle.theory.specs.Epochs.{Rule, joined, epoch_at, phase_at, epoch_of, phase_of, logged_by, rule_of, finished_at}
use Rattle.theory.specs.Line.{in_set, Run, undone, lost, orphan, kept, orphan_phase, LossFree, stays_in, restart_in, recorded, current, Permitted, Greatest, lower, highest, greatest_line, usable_at, unfinished_at, run_at}
use Rattle.theory.specs.Inner.Lines.{Usable, Above}
use Rattle.theory.specs.Replay.{State, ready}
use Rattle.theory.specs.Record.{delivered, faultless, SameRecord}
use Rattle.theory.specs.Inner.Record.{sent_again}
use Rattle.theory.specs.Order.{carried_out, refused, choose, run, steps, most_steps, Complete, complete, lowest, lowest_order}
use Rattle.theory.specs.Inner.Orders.{Allowed}
use Rattle.theory.specs.Inner.Tests.{names, loss_free, same_record}
use Rattle.theory.specs.Answers.{orphans, kept_ones, lost_ones, exact_steps}
use Rattle.theory.specs.Refusals.{failure_fault, line_fault}
use Rattle.theory.specs.Inner.Refusals.{FitFailure, FitLine}
use Rattle.theory.specs.Inner.Laws.{Laws}
use Rattle.theory.proofs.Base.{on, by, clash, le?, both, or_right, cnt_none, cnt_le, cnt_find}
use Rattle.theory.proofs.Events.{partner, sent_lt}
use Rattle.theory.proofs.WellFormed.{Valid, valid}
use Rattle.theory.proofs.Classes.{undone_counts, lost_counts, orphan_counts, kept_counts}
use Rattle.theory.specs.Inner.Flow.{Inv}
use Rattle.theory.proofs.Loss.{inv}
use Rattle.theory.proofs.Epochs.{done_notes, epoch_is, epoch_of_at, phase_of_send, logged_is, phase_recv, laws}
use Rattle.theory.proofs.Lines.{now_is, now_few, finished_le, usable_finished, may_is, stays_at, restart_epoch, restart_mono, number_of, lower_less}
use Rattle.theory.proofs.Unfinished.{unfinished_above}
use Rattle.theory.proofs.Greatest.{highest_above, below_above, greatest_is, greatest_unique, floor_below}
use Rattle.theory.proofs.Orders.{run_reaches, run_refused, run_steps, run_each, complete_iff, order_iff, order_differs, order_progress, order_done, order_bound}
use Rattle.theory.proofs.Lowest.{lowest_some, lowest_iff, lowest_order_lem}
use Rattle.theory.proofs.Answers.{orphans_name, kept_name, lost_name, lost_none, loss_free_iff, same_record_iff, ready_iff}
use Rattle.theory.proofs.Exact.{steps_within, exact_steps_lem}
use Rattle.theory.proofs.Refusals.{failure_fit, failure_8, failure_9, line_fit, line_8, line_9, line_10}

-- Demand 3. "Take any accepted trace, any step for the failure, any set of zones it takes together, any line that puts
-- each failed zone at a save it has made, and any order of choices from there, each allowed where it comes, that ends
-- only when no choice is allowed. The delivery record the replay leaves equals that of the run without failure exactly
-- when the line loses no message." An order is a list of choice numbers.
pub demand_3 : (t : Trace) → well_formed t ≡ true → (cut : ℕ) → cut ≤ size t → (failed : ℕ → Bool) (line : ℕ → ℕ)
    → Permitted t (rule_of t) cut (usable_at t cut) failed line → (order : List ℕ) (s : State) → run (run_at t cut line) order ≡ carried_out s
    → Complete (run_at t cut line) s → SameRecord (run_at t cut line) s ↔ LossFree (run_at t cut line)
demand_3 t w cut cl failed line b order s h c = order_iff (run_at t cut line) (laws t (rule_of t) (valid t w) cut line cl) order s h c

module _ (t : Trace) (w : well_formed t ≡ true) (rule : Rule) where
  abbrev A : Valid t
  A = valid t w

  -- ---- "A takes the oldest message in transit": the message that a receive takes was sent before
  pub sent_first : (p q e : ℕ) → recvs t p q e ≡ true → 0 < e → e ≤ size t
      → (d : ℕ) × (0 < d) × (d < e) × (sends t p q d ≡ true) × (sent t p q d ≡ rcvd t p q e)
  sent_first = partner t A.causal

  -- ---- Epochs, phases, kept messages

  -- "A zone begins with epoch 1 .. A save raises both by one": the epoch is one more than the checkpoints made
  pub epoch_counts : (z x : ℕ) → epoch_at t rule z x ≡ suc (cnt (checkpoints t z) x)
  epoch_counts z x = epoch_is t rule x z

  -- "A message carries its sender's epoch and phase at the send." (A send changes neither.)
  pub carries_epoch : (p q d : ℕ) → sends t p q d ≡ true → 0 < d → d ≤ size t → epoch_of t rule p q (sent t p q d) ≡ epoch_at t rule p d
  carries_epoch = epoch_of_at t rule

  pub carries_phase : (p q d : ℕ) → sends t p q d ≡ true → 0 < d → d ≤ size t → phase_of t rule p q (sent t p q d) ≡ phase_at t rule p d
  carries_phase = phase_of_send t rule

  -- "It is logged when send epoch < receive epoch.": what the rule says of the epochs of its send d and its receive e
  pub logged_by_epochs : (p q d e : ℕ) → sends t p q d ≡ true → recvs t p q e ≡ true → 0 < d → 0 < e → d ≤ size t → e ≤ size t
      → sent t p q d ≡ rcvd t p q e → logged_by t rule p q (sent t p q d) ≡ rule p q (sent t p q d) (epoch_at t rule p d) (epoch_at t rule q e)
  logged_by_epochs = logged_is t rule

  -- "At a receive the phase becomes the larger of the zone's own and the message's, or, if logged, of the zone's own
  -- and the message's plus 1."
  pub receive_phase : (p q x : ℕ) → recvs t p q (suc x) ≡ true → suc x ≤ size t
      → phase_at t rule q (suc x) ≡ joined (logged_by t rule p q (rcvd t p q (suc x))) (phase_at t rule q x) (phase_of t rule p q (rcvd t p q (suc x)))
  receive_phase = phase_recv t rule A

  module _ (cut : ℕ) (cl : cut ≤ size t) where
    -- ---- A line, whatever its numbers

    module _ (line : ℕ → ℕ) where
      abbrev R : Run
      R = recorded t rule cut line

      -- the laws: from them alone all that is claimed here of classes and of replay is proved
      pub the_laws : Laws R
      the_laws = laws t rule A cut line cl

      -- "A restart in an epoch is right after the save that raised the zone to it, in epoch 1 at the zone's start.";
      -- "or 32, which means the zone stays as it was at the cut"
      pub restart_back : (z : ℕ) → 1 ≤ line z → line z ≤ current t rule cut z
          → (epoch_at t rule z (restart_in t cut line z) ≡ line z) × ((restart_in t cut line z ≡ 0) ⊎ (checkpoints t z (restart_in t cut line z) ≡ true))
      restart_back = restart_epoch t rule A cut cl line

      pub restart_stays : (z : ℕ) → line z ≡ 32 → restart_in t cut line z ≡ cut
      restart_stays = stays_at t rule A cut cl line

      -- "An orphan's phase is its sender's at the send"
      pub orphan_phase_lem : (p q d : ℕ) → sends t p q d ≡ true → 0 < d → d ≤ size t → orphan_phase R p q (sent t p q d) ≡ phase_at t rule p d
      unfolding orphan_phase
      orphan_phase_lem = phase_of_send t rule

      -- undone, lost, orphan, kept, defined by events (MANUAL 4.4), are comparisons with three counts on the channel
      abbrev r_before : ℕ → ℕ → ℕ
      r_before p q = rcvd t p q (restart_in t cut line q)

      abbrev r_cut : ℕ → ℕ → ℕ
      r_cut p q = rcvd t p q cut

      abbrev s_before : ℕ → ℕ → ℕ
      s_before p q = sent t p q (restart_in t cut line p)

      pub undone_by_counts : (p q k : ℕ) → undone R p q k ≡ (ltb (r_before p q) k && leb k (r_cut p q))
      undone_by_counts = undone_counts R the_laws

      pub lost_by_counts : (p q k : ℕ) → lost R p q k ≡ (ltb (r_before p q) k && (leb k (r_cut p q) && (leb k (s_before p q) && not (logged_by t rule p q k))))
      lost_by_counts = lost_counts R the_laws

      pub orphan_by_counts : (p q k : ℕ) → orphan R p q k ≡ (ltb (s_before p q) k && leb k (r_before p q))
      orphan_by_counts = orphan_counts R the_laws

      pub kept_by_counts : (p q k : ℕ) → kept R p q k ≡ (leb k (s_before p q) && (ltb (r_before p q) k && (ltb (r_cut p q) k || logged_by t rule p q k)))
      kept_by_counts = kept_counts R the_laws

      -- "each counted if and only if its definition holds": the lists name a message exactly if it is of the class
      pub orphans_listed : (p q k : ℕ) → names p q k (orphans R) ≡ orphan R p q k
      orphans_listed = orphans_name R the_laws

      pub kept_listed : (p q k : ℕ) → names p q k (kept_ones R) ≡ kept R p q k
      kept_listed = kept_name R the_laws

      pub lost_listed : (p q k : ℕ) → names p q k (lost_ones R) ≡ lost R p q k
      lost_listed = lost_name R the_laws

      pub none_listed : (lost_ones R ≡ []) ↔ LossFree R
      none_listed = lost_none R the_laws

      pub loss_test : (loss_free R ≡ true) ↔ LossFree R
      loss_test = loss_free_iff R the_laws

      -- ---- Gates and steps

      -- "a sent message whose number is at most how many the receiver had received on that channel before its restart
      -- is dropped": of the sends after the restart those are the orphans'
      pub dropped_orphans : (p q e : ℕ) → sends t p q e ≡ true → restart_in t cut line p < e
          → leb (sent t p q e) (rcvd t p q (restart_in t cut line q)) ≡ orphan R p q (sent t p q e)
      dropped_orphans p q e h l =
          let a : ltb (sent t p q (restart_in t cut line p)) (sent t p q e) ≡ true = lt-ltb _ _ (sent_lt t p q (restart_in t cut line p) e h l) in
          sym (orphan_counts R the_laws p q (sent t p q e) ∙ rw a)

      -- "An order is complete when no choice is allowed", as it can be tested: no number below 4,160 is
      pub complete_test : (s : State) → (complete R s ≡ true) ↔ Complete R s
      complete_test = complete_iff R

      -- 11, "a choice isn't allowed where it comes", and its place: those before it are carried out, and it is not
      -- allowed in what they leave
      pub refused_place : (order : List ℕ) (i : ℕ) → run R order ≡ refused i
          → (m : ℕ) × (s : State) × (i ≡ suc m) × (m < length order) × (run R (take m order) ≡ carried_out s) × (choose R s (get_or order m 0) ≡ none)
      refused_place = run_refused R

      -- "any order of choices from there, each allowed where it comes": these are carried out, and no others
      pub each_allowed : (order : List ℕ) → ((s : State) × (run R order ≡ carried_out s))
          ↔ ((m : ℕ) → m < length order → (s : State) × (run R (take m order) ≡ carried_out s) × Allowed R s (get_or order m 0))
      each_allowed = run_each R

      -- an order that is carried out, complete or not
      module _ (order : List ℕ) (s : State) (h : run R order ≡ carried_out s) where
        abbrev I : Inv R s
        I = inv R the_laws s (length order) (run_reaches R order s h)

        -- Demand 2: "A replay does the one step of each choice and no other": after m choices comes the next one's step
        pub one_step : (m : ℕ) → m < length order
            → (u v : State) × (run R (take m order) ≡ carried_out u) × (choose R u (get_or order m 0) ≡ some v) × (run R (take (suc m) order) ≡ carried_out v)
        one_step = run_steps R order s h

        -- demand 3 for any rule and any line
        pub record_iff : Complete R s → SameRecord R s ↔ LossFree R
        record_iff = order_iff R the_laws order s h

        -- "Equal is the same numbers and values in the same order on every channel.", as it can be tested
        pub record_test : (same_record R s ≡ true) ↔ SameRecord R s
        record_test = same_record_iff R the_laws s I

        -- from a line that loses a message the record of its channel differs, whether the order is complete or not
        pub lost_differs : (p q k : ℕ) → lost R p q k ≡ true → delivered R s p q ≢ faultless R p q
        lost_differs = order_differs R the_laws order s h

        -- "From a line without loss, an order carried out so far always has an allowed choice until each zone has done
        -- all its events"
        pub always_goes_on : LossFree R → (z e : ℕ) (es : List ℕ) → s.todo z ≡ e ∷ es → (c : ℕ) × Allowed R s c
        always_goes_on = order_progress R the_laws order s h

        -- "so a complete one does them all"
        pub does_all : LossFree R → Complete R s → (z : ℕ) → s.todo z ≡ []
        does_all = order_done R the_laws order s h

        -- "Steps is the length of the order carried out, and is at most twice the number of events."
        pub steps_at_most : steps order ≤ most_steps t
        steps_at_most = order_bound R the_laws order s h

        -- "For a line without loss, every complete order has exactly as many steps as there are listed events after the
        -- restarts (after the cut for staying zones) plus kept messages."
        pub steps_exactly : LossFree R → Complete R s → steps order ≡ exact_steps R
        steps_exactly = exact_steps_lem R the_laws order s h

        -- and no order has more, from whatever line, complete or not
        pub steps_no_more : steps order ≤ exact_steps R
        steps_no_more = steps_within R the_laws order s h

        -- "Phase r is ready when every orphan of phase r or less has been sent again."
        pub ready_means : (r : ℕ) → (ready R s r ≡ true) ↔ ((p q k : ℕ) → orphan R p q k ≡ true → orphan_phase R p q k ≤ r → sent_again R s p q k ≡ true)
        ready_means = ready_iff R the_laws s I.cursors

        -- "the order that always picks the lowest allowed choice": what it picks is allowed and no lower number is; it
        -- ends where it is complete
        pub lowest_is : (r : ℕ × State) → lowest R s ≡ some r → (choose R s r.0 ≡ some r.1) × ((c : ℕ) → c < r.0 → choose R s c ≡ none)
        lowest_is = lowest_some R the_laws s I

        pub lowest_ends : (lowest R s ≡ none) ↔ Complete R s
        lowest_ends = lowest_iff R the_laws s I

      -- and it gets there, so that every line has a complete order
      pub lowest_completes : (s : State) × (run R (lowest_order R) ≡ carried_out s) × Complete R s
      lowest_completes = lowest_order_lem R the_laws

    -- ---- The restart line, of any usable checkpoints

    -- "finished epochs only, epoch 1 being always finished" is a set of usable checkpoints that contains the start
    pub finished_usable : Usable t rule cut (usable_at t cut)
    finished_usable = usable_finished t rule A cut cl

    module _ (usable : ℕ → ℕ → Bool) (U : Usable t rule cut usable) (failed : ℕ → Bool) where
      -- "The engine's line is the greatest without a lost message.": there is one, lowering gives it, and there is no
      -- other
      pub greatest_line_lem : Greatest t rule cut usable failed (greatest_line t rule cut usable failed)
      greatest_line_lem = greatest_is t rule A cut cl usable U failed

      pub greatest_only : (l m : ℕ → ℕ) → Greatest t rule cut usable failed l → Greatest t rule cut usable failed m → (z : ℕ) → z < t.procs → l z ≡ m z
      greatest_only = greatest_unique t rule A cut cl usable U failed

      -- "in no other such line does any zone keep more of its work"
      pub greatest_work : (l m : ℕ → ℕ) → Greatest t rule cut usable failed l → Permitted t rule cut usable failed m → LossFree (recorded t rule cut m)
          → (z : ℕ) → z < t.procs → restart_in t cut m z ≤ restart_in t cut l z
      greatest_work l m g b f z h =
          restart_mono t rule A cut cl m l z (number_of t rule A cut cl usable U failed l g.permitted z h) (g.top m b f z h)

      -- Lowering, step by step. It begins with the highest permitted line. A message lost under a line sends its sender
      -- to the last usable epoch that is not above the epoch of its send, which is lower, and still no permitted line
      -- without loss is above. It ends when nothing is lost.
      pub lowering_begins : Above t rule cut usable failed (highest t rule cut usable failed)
      lowering_begins = highest_above t rule A cut cl usable U failed

      pub lowering_goes_on : (m : ℕ → ℕ) → Above t rule cut usable failed m → (p q k : ℕ) → lost (recorded t rule cut m) p q k ≡ true
          → Above t rule cut usable failed (lower t rule cut usable m p q k) × (last_of (usable p) (epoch_of t rule p q k) < m p)
      lowering_goes_on m a p q k h =
          (below_above t rule A cut cl usable U failed m a p q k h, lower_less t rule A cut cl usable U failed m a.permitted p q k h)

      pub lowering_ends : (m : ℕ → ℕ) → Above t rule cut usable failed m → LossFree (recorded t rule cut m) → Greatest t rule cut usable failed m
      lowering_ends m a f = record { permitted = a.permitted; loss_free = f; top = a.top }

-- ---- The floor, for the requirements' rule

module _ (t : Trace) (w : well_formed t ≡ true) (cut : ℕ) (cl : cut ≤ size t) (failed : ℕ → Bool) where
  -- in general: below an epoch f that each process can restart in, or that lies above the current epoch of one that did
  -- not fail
  pub floor : (usable : ℕ → ℕ → Bool) → Usable t (rule_of t) cut usable → (f : ℕ) → f ≤ 32
      → ((z : ℕ) → z < t.procs → (usable z f ≡ true) ⊎ ((failed z ≡ false) × (current t (rule_of t) cut z < f)))
      → (l : ℕ → ℕ) → Greatest t (rule_of t) cut usable failed l → (z : ℕ) → z < t.procs → f ≤ l z
  floor usable U = floor_below t (valid t w) cut cl usable U failed

  -- "The floor becomes the smallest, over the failed zones and those with an unfinished save, of the latest finished
  -- epoch at the cut." It is y's, where no failed process and none with an unfinished save has a smaller.
  pub floor_finished : (y : ℕ)
      → ((z : ℕ) → z < t.procs → (failed z || unfinished_at t cut z) ≡ true → finished_at t y cut ≤ finished_at t z cut)
      → (l : ℕ → ℕ) → Greatest t (rule_of t) cut (usable_at t cut) failed l → (z : ℕ) → z < t.procs → finished_at t y cut ≤ l z
  floor_finished y c =
      let A = valid t w in
      let f = finished_at t y cut in
      floor (usable_at t cut) (usable_finished t (rule_of t) A cut cl) f
      (omega (arith, now_few t (rule_of t) A cut cl y, finished_le t (rule_of t) A cut cl y))
      (λ z h. on (le? f (finished_at t z cut))
      (λ u. let i : leb 1 f ≡ true = le-leb 1 f (omega arith) in let j : leb f (finished_at t z cut) ≡ true = le-leb f (finished_at t z cut) u in inl (rw (i, j)))
      (λ u. inr (
        by (failed z) (λ v. absurd (omega (arith, c z h (rw v)))) (λ v. v),
        on (le? (current t (rule_of t) cut z) (finished_at t z cut))
            (λ v. omega arith)
            (λ v. absurd (omega (arith, c z h (or_right (failed z) (unfinished_at t cut z) (unfinished_above t w cut cl z v))))),
      )))

  -- "In a trace with no `done`, each zone that goes back goes to epoch 1."
  pub none_done : ((z e : ℕ) → finishes t z e ≡ false) → (l : ℕ → ℕ) → Permitted t (rule_of t) cut (usable_at t cut) failed l
      → (z : ℕ) → z < t.procs → stays_in l z ≡ false → l z ≡ 1
  none_done h l b z lt back = on (may_is (usable_at t cut) failed z (l z) (b z lt))
      (λ u. let c = both (leb 1 (l z)) (leb (l z) (finished_at t z cut)) u in
      omega (arith, leb-true 1 (l z) c.0, leb-true (l z) (finished_at t z cut) c.1, cnt_none (finishes t z) cut (h z)))
      (λ u. clash (eq-eqb (l z) 32 u.0) back)

  -- "a save is usable from a line `ev=done at=A` onward. A `done` finishes the oldest unfinished save of A": save e of
  -- a process, which raised it to epoch e + 1, is usable from its done number e on, and made by then
  pub usable_from : (z e : ℕ) → 0 < e
      → (usable_at t cut z (suc e) ≡ true)
      ↔ ((d : ℕ) × (0 < d) × (d ≤ cut) × (finishes t z d ≡ true) × (cnt (finishes t z) d ≡ e) × (e ≤ cnt (checkpoints t z) d))
  usable_from z e pos = (
    λ h.
        let u = (both (leb 1 (suc e)) (leb (suc e) (finished_at t z cut)) h).1 in
        let (d, a, b, f, n) = cnt_find (finishes t z) e cut pos (omega (arith, leb-true (suc e) (finished_at t z cut) u)) in
        (d, a, b, f, n, omega (arith, n, (valid t w).finished_few z d (omega arith))),
    λ (d, a, b, f, n, m).
        let i : leb (suc e) (finished_at t z cut) ≡ true = le-leb (suc e) (finished_at t z cut) (omega (arith, n, cnt_le (finishes t z) d cut b)) in
        let j : leb 1 (suc e) ≡ true = le-leb 1 (suc e) (omega arith) in
        rw (j, i),
  )

  -- "Epochs and phases rise at the save as before.": a `done` changes neither, of any process
  pub done_keeps : (a x : ℕ) → finishes t a (suc x) ≡ true → (z : ℕ)
      → (epoch_at t (rule_of t) z (suc x) ≡ epoch_at t (rule_of t) z x) × (phase_at t (rule_of t) z (suc x) ≡ phase_at t (rule_of t) z x)
  done_keeps a x h z = let n = done_notes t (rule_of t) a x h in (ap (λ m. m.epochs z) n, ap (λ m. m.phases z) n)

  -- "those with an unfinished save": their latest finished epoch is below their epoch
  pub unfinished_below : (z : ℕ) → (unfinished_at t cut z ≡ true) ↔ (finished_at t z cut < current t (rule_of t) cut z)
  unfinished_below z =
      let made = now_is t (rule_of t) (valid t w) cut cl z in
      (λ h. omega (arith, made, ltb-true (cnt (finishes t z) cut) (cnt (checkpoints t z) cut) h), unfinished_above t w cut cl z)

-- ---- Numbers, "Who names the failure and the replay". "Order: .. for the rest 8, 9, 10, 11."

-- what is wrong with a failure: "8: K is beyond the last event. 9: the set is empty or names a zone N or more."; 0,
-- nothing
module _ (t : Trace) (step set : ℕ) where
  pub number_8 : (failure_fault t step set ≡ 8) ↔ (size t < step)
  number_8 = failure_8 t step set

  pub number_9 : (failure_fault t step set ≡ 9) ↔ ((step ≤ size t) × ((set ≡ 0) ⊎ ((z : ℕ) × (t.procs ≤ z) × (in_set set z ≡ true))))
  number_9 = failure_9 t step set

  pub failure_taken : (failure_fault t step set ≡ 0) ↔ FitFailure t step set
  failure_taken = failure_fit t step set

  -- what is wrong with a failure and a line: 8 and 9 as above, and then "10: the line hasn't N numbers, or one isn't
  -- permitted."
  module _ (count : ℕ) (line : ℕ → ℕ) where
    pub number_8_first : (line_fault t step set count line ≡ 8) ↔ (size t < step)
    number_8_first = line_8 t step set count line

    pub number_9_next : (line_fault t step set count line ≡ 9) ↔ ((step ≤ size t) × ((set ≡ 0) ⊎ ((z : ℕ) × (t.procs ≤ z) × (in_set set z ≡ true))))
    number_9_next = line_9 t step set count line

    pub number_10 : (line_fault t step set count line ≡ 10)
        ↔ (FitFailure t step set × (((count ≡ t.procs) × Permitted t (rule_of t) step (usable_at t step) (in_set set) line) → ⊥))
    number_10 = line_10 t step set count line

    pub line_taken : (line_fault t step set count line ≡ 0) ↔ FitLine t step set count line
    line_taken = line_fit t step set count line

    -- demand 3, "for every failure and line that isn't refused"
    pub demand_3_taken : well_formed t ≡ true → line_fault t step set count line ≡ 0 → (order : List ℕ) (s : State)
        → run (run_at t step line) order ≡ carried_out s → Complete (run_at t step line) s
        → SameRecord (run_at t step line) s ↔ LossFree (run_at t step line)
    demand_3_taken w e =
        let f = line_taken.0 e in
        demand_3 t w step f.failure.step_most (in_set set) line f.permitted

-- Not claims of the requirements, but for code that is to meet them: Lines.lost_epochs and epochs_lost (a permitted
-- line loses a message by epochs alone), Counters.counted (a channel is two numbers), Steps.reach_work (each step takes
-- one from the work that is left), Classes (counts), Refusals.set_shifted (a set names a process N or more if a shift
-- by N leaves something).
