-- The loop over the lowest choices: what holds before each of them, that a choice found is the lowest, and that what
-- holds is left by it.
use mathlib.Core.Path.{◌≡◌, refl, sym, ◌∙◌, subst}
use mathlib.Core.Bool.{true, false}
use mathlib.Core.List.{List}
use Prim.Native.Nat.{ℕ, ◌+◌, ◌/◌, ◌%◌, ◌^◌, ◌≤◌, ◌<◌}
use native.Mathlib.Omega.{arith}
use lib.ListN.{length}
use Rattle.words.proofs.Cases.{by_bool}
use Rattle.theory.specs.Line.{Run, in_set}
use Rattle.theory.specs.Replay.{process, State}
use Rattle.theory.specs.Inner.Flow.{Inv}
use Rattle.theory.proofs.Flow.{Did, view}
use Rattle.theory.proofs.Orders.{choice_process, choose_of}
use Rattle.machine.specs.Inner.Words.{no_phase, low_w, process_ok, hand_ok, allowed_w, put_in_w, process_w, Bounded}
use Rattle.machine.specs.Inner.Related.{Rel, Started}
use Rattle.machine.specs.Inner.Shapes.{Readable, Tryable, Begun}
use Rattle.machine.specs.Inner.Tree.{Treed}
use Rattle.moves.proofs.Steps.{treed_put}
use Rattle.orders.proofs.Ordering.{readable, tryable}
use Rattle.sets.specs.Inner.Sets.{everyone, first_in, with_in}
use Rattle.sets.proofs.Sets.{none_in, everyone_in, first_lt, first_in_lem, with_lt}
use Rattle.search.specs.Inner.Lowest.{Idle, Unready, Waiting, NoneTo, ToHand, Ran, LowestDone}
use Rattle.search.specs.Inner.Opened.{Searchable, GatesOpened, PhasesJoined}
use Rattle.search.specs.Inner.Looking.{Going, Looking}
use Rattle.search.proofs.Lowering.{Next, is_allowed, going_start, going_bound, going_end, going_next}
use Rattle.search.proofs.Opening.{rise_unready, rise_waiting}
use Rattle.search.proofs.Searching.{process_shut, hand_low, hand_idle, hand_unready, hand_waiting, run_idle, run_unready, run_waiting, run_low, run_none, run_allowed, run_applied, hand_none, hand_allowed, hand_applied}

-- nothing is below 0
none_unready : (t g a rs : List ℕ) → Unready t g a 0 rs
unfolding Unready
none_unready t g a rs p hp q hq o = omega arith

none_waiting : (t g a : List ℕ) (m : ℕ) → Waiting t g a 0 m
unfolding Waiting
none_waiting t g a m p hp o q hq = omega arith

abbrev pub begins : (t l h g a : List ℕ) → Searchable t l h g a → Begun t l g a
begins t l h g a Q = record {
  full_long = Q.listed.walkable.full_long;
  area_long = Q.area_long;
  small = Q.listed.walkable.links_small;
  run = Q.run;
  started = Q.started;
}

-- ---- For every run that the words stand for

module _ (R : Run) (t l g a₀ : List ℕ) (S : Started R t l g a₀) (most : ℕ) (a : List ℕ) (i : ℕ) (v : Going R most a i) where
  -- no process may run, no kept message be handed over
  pub search_end : Idle t g a 0 → NoneTo t g a 4096 → LowestDone R a most i
  search_end h k = going_end R t l g a₀ S most a i v (hand_none t l g a 4096 (omega arith) h k)

  module _ (lt : i < most) (b : List ℕ) where
    module _ (m : ℕ) (z_lt : first_in m < 64) (idle : Idle t g a m) (ok : process_ok t g a (first_in m) ≡ true) (eb : b ≡ process_w t l a (first_in m)) where
      z_allowed : allowed_w t g a (first_in m) ≡ true
      z_allowed = run_allowed t l g a (first_in m) z_lt ok

      run_going : Going R most b (i + 1)
      run_going =
          going_next R t l g a₀ S most a b i (first_in m) v lt (run_none t l g a m (omega (arith, z_lt)) idle) z_allowed (eb ∙ sym (run_applied t l g a (first_in m) z_lt))

      -- the state that the step leads to
      after : (u : State) × Rel R (process_w t l a (first_in m)) u × Inv R u × Did R v.state (process (first_in m)) u
      unfolding Next
      after =
          let z = first_in m in
          let w = is_allowed R t l g a₀ S a v.state v.rel v.inv z z_allowed in (
            w.0,
            rw (run_applied t l g a z z_lt) at w.1.0,
            w.1.1,
            view R v.state w.0 (process z) (sym (choose_of R v.state z (process z) (choice_process z z_lt)) ∙ w.1.2),
          )

    module _ (c : ℕ) (hc : c < 4096) (idle : Idle t g a 0) (none : NoneTo t g a c) (ok : hand_ok t g a (c / 64) c ≡ true) (eb : b ≡ put_in_w l a c) where
      hand_going : Going R most b (i + 1)
      hand_going = going_next R t l g a₀ S most a b i (64 + c) v lt (hand_none t l g a c (omega arith) idle none) (hand_allowed t l g a c hc ok) (eb ∙ sym (hand_applied t l g a c))

module _ (t l h g a₀ : List ℕ) (most : ℕ) where
  module _ (Q : Searchable t l h g a₀) where
    abbrev R : Run
    R = Q.run

    abbrev S : Started Q.run t l g a₀
    S = Q.started

    abbrev B : Begun t l g a₀
    B = begins t l h g a₀ Q

    -- at the start every gate is shut, and no phase has been passed
    pub looking_start : (tree rs₀ rs : List ℕ) (may senders shut gate : ℕ) → Treed t a₀ tree → low_w a₀ ≤ no_phase → may < 2 ^ 64 → length rs ≡ 64
        → GatesOpened g (low_w a₀) 0 everyone 0 may shut gate → PhasesJoined t l h 0 (low_w a₀) rs₀ 0 rs senders → Looking t l h g a₀ most a₀ tree rs may senders shut gate 0
    unfolding Idle
    looking_start tree rs₀ rs may senders shut gate T low lm n G P =
        let s = going_start R t l g a₀ S most in record {
          same_long = refl;
          treed = T;
          low_most = low;
          may_lt = lm;
          idle = λ z hz o. process_shut t g a₀ z (G.closed z hz (none_in z) (everyone_in z hz) o);
          passed = λ z hz o. G.opened z hz (none_in z) (everyone_in z hz) o;
          closed = G.still;
          ready_long = n;
          unready = rise_unready R t l h g a₀ S Q.listed a₀ s.state s.rel s.inv 0 (low_w a₀) low rs₀ rs 0 senders P (none_unready t g a₀ rs₀);
          waiting = rise_waiting R t l h g a₀ S Q.listed a₀ s.state s.rel s.inv 0 (low_w a₀) low rs₀ rs 0 senders P (none_waiting t g a₀ 0);
          going = λ R S. going_start R t l g a₀ S most;
        }

    module _ (a tree rs : List ℕ) (may senders shut gate i : ℕ) (L : Looking t l h g a₀ most a tree rs may senders shut gate i) where
      v : Going Q.run most a i
      v = L.going Q.run Q.started

      -- what the tests and the steps ask of the words
      pub looking_readable : Readable t g a
      looking_readable = readable t l g a₀ B a L.same_long v.state v.rel v.inv

      pub looking_tryable : Tryable t l g tree a
      looking_tryable = tryable t l g a₀ B a L.same_long v.state v.rel v.inv tree L.treed

      bound : Bounded a
      bound = going_bound R t l g a₀ S most a i v

      module _ (lt : i < most) (b : List ℕ) (lb : length b ≡ length a) where
        -- the oldest kept message of channel c handed over, after what was learned of the senders on the way
        pub looking_hand : (tree' rs' : List ℕ) (may' senders' c : ℕ) → Treed t a tree' → length rs' ≡ 64 → Unready t g a (low_w a) rs' → Waiting t g a (low_w a) senders' → Idle t g a 0 → NoneTo t g a c
            → ToHand t g a rs' senders' c → b ≡ put_in_w l a c → may' ≡ with_in (with_in 0 (c / 64)) (c % 64) → Looking t l h g a₀ most b tree' rs' may' senders' shut gate (i + 1)
        looking_hand tree' rs' may' senders' c T n u w idle none found eb em =
            let hc = found.channel in
            let low : low_w (put_in_w l a c) ≡ low_w a = hand_low t l g a bound c hc in
            rw (em, eb) (record {
              same_long = rw (← eb) (lb ∙ L.same_long);
              treed = treed_put t l a tree' T (put_in_w l a c) c refl;
              low_most = omega (arith, low, L.low_most);
              may_lt = with_lt (with_in 0 (c / 64)) (c % 64) (with_lt 0 (c / 64) (omega arith));
              idle = hand_idle t l g a bound c hc idle;
              passed = rw low L.passed;
              closed = rw low L.closed;
              ready_long = n;
              unready = rw low (hand_unready t l g a bound c hc (low_w a) rs' found.receiver u);
              waiting = rw low (hand_waiting t l g a bound c hc (low_w a) senders' found.sender w);
              going = λ R S. rw (← eb) (hand_going R t l g a₀ S most a i (L.going R S) lt b c hc idle none found.ready eb);
            })

        -- the next event of the first process that may run done, and what the least phase after it opens
        module _ (may' : ℕ) (ran : Ran t g a l b may may') (low_b : low_w b ≤ no_phase) where
          low_a : low_w a ≤ no_phase
          low_a = L.low_most

          abbrev m : ℕ
          m = ran.from

          abbrev z : ℕ
          z = first_in ran.from

          lm : m < 2 ^ 64
          lm = omega (arith, ran.part, L.may_lt)

          z_lt : z < 64
          z_lt = first_lt m ran.some lm

          next : (u : State) × Rel R (process_w t l a z) u × Inv R u × Did R v.state (process z) u
          next = after R t l g a₀ S most a i v lt b m z_lt ran.idle ran.ok ran.words

          low_le : low_w a ≤ low_w b
          low_le = rw ran.words (run_low R t l g a₀ S a v.state v.rel v.inv z z_lt ran.ok next.0 next.1 next.2 next.3 bound low_a)

          unready : Unready t g b (low_w a) rs
          unready = rw ran.words (run_unready R t l g a₀ S a v.state v.rel v.inv z z_lt ran.ok next.0 next.1 next.2 next.3 bound (low_w a) rs low_a L.unready)

          waiting : Waiting t g b (low_w a) senders
          waiting = rw ran.words (run_waiting R t l g a₀ S a v.state v.rel v.inv z z_lt ran.ok next.0 next.1 next.2 next.3 bound (low_w a) senders low_a L.waiting)

          -- whom neither a gate stops nor the step wakes
          idle : (y : ℕ) → y < 64 → in_set may' y ≡ false → in_set shut y ≡ false → process_ok t g b y ≡ false
          idle y hy o x =
              let w = ran.runners y hy o in
              rw ran.words (run_idle t l g a bound m z z_lt (first_in_lem m ran.some lm) ran.idle y hy w.0 w.1 (L.passed y hy x))

          pub looking_run : (tree'' rs'' : List ℕ) (may'' senders'' shut'' gate'' : ℕ) → Treed t b tree'' → may'' < 2 ^ 64 → length rs'' ≡ 64 → GatesOpened g (low_w b) may' shut 0 may'' shut'' gate''
              → PhasesJoined t l h (low_w a) (low_w b) rs senders rs'' senders'' → Looking t l h g a₀ most b tree'' rs'' may'' senders'' shut'' gate'' (i + 1)
          unfolding Idle
          looking_run tree'' rs'' may'' senders'' shut'' gate'' T lm'' n G P =
              let r = subst (λ x. Rel R x next.0) (sym ran.words) next.1 in record {
                same_long = lb ∙ L.same_long;
                treed = T;
                low_most = low_b;
                may_lt = lm'';
                idle = λ y hy o. by_bool (in_set shut y)
                    (λ x. process_shut t g b y (G.closed y hy (none_in y) x o))
                    (λ x. idle y hy (G.runners y hy o) x);
                passed = λ y hy o. by_bool (in_set shut y)
                    (λ x. G.opened y hy (none_in y) x o)
                    (λ x. omega (arith, L.passed y hy x, low_le));
                closed = G.still;
                ready_long = n;
                unready = rise_unready R t l h g a₀ S Q.listed b next.0 r next.2 (low_w a) (low_w b) low_b rs rs'' senders senders'' P unready;
                waiting = rise_waiting R t l h g a₀ S Q.listed b next.0 r next.2 (low_w a) (low_w b) low_b rs rs'' senders senders'' P waiting;
                going = λ R S. run_going R t l g a₀ S most a i (L.going R S) lt b m z_lt ran.idle ran.ok ran.words;
              }
