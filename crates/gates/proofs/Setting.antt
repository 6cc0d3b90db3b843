-- One process after another: what is stored for a process is its gate and its restart.
use Prim.Native.Nat.{ℕ, ◌+◌, ◌<◌, ◌≤◌}
use mathlib.Core.Path.{◌≡◌, sym, ◌∙◌, ap}
use mathlib.Core.List.{List}
use native.Mathlib.Omega.{arith}
use lib.ListN.{length, get_or, set, length-set}
use lib.Seq.{get_or-set_same, get_or-set_other}
use Rattle.words.proofs.Cases.{by_eq}
use Rattle.trace.specs.Trace.{Trace}
use Rattle.theory.specs.Events.{size, at}
use Rattle.theory.specs.Line.{run_at}
use Rattle.theory.specs.Replay.{gate}
use Rattle.columns.specs.Inner.Full.{phase_w}
use Rattle.columns.specs.Inner.Given.{Gated}
use Rattle.columns.proofs.Full.{fit, few}
use Rattle.columns.proofs.Bounds.{phase_most}
use Rattle.recovery_line.specs.declared.Line.{Line}
use Rattle.recovery_line.specs.Given.{line_in}
use Rattle.recovery_line.proofs.Lines.{line_at}
use Rattle.recovery_line.proofs.Table.{sized}
use Rattle.positions.specs.Inner.Positions.{Newest, Linked, Walkable, Walked, restart_phase, restart_event}
use Rattle.positions.proofs.Newest.{phase_newest, restart_event_lem}
use Rattle.gates.specs.Inner.Gates.{gate_by, Settable}

module _ (t : Trace) (full earlier latest : List ℕ) (line : Line) (cut : ℕ) (S : Settable t full earlier latest line cut) where
  few_procs : t.procs ≤ 64
  few_procs = (fit t full S.tabled).few

  pub cut_few : cut ≤ 2048
  cut_few = omega (arith, S.within, few t full S.tabled)

  -- the gates of the first n processes
  pub record Set (n : ℕ) (g : List ℕ) : Type 0 where
    pub gates : (z : ℕ) → z < n → get_or g z 0 ≡ gate (run_at t cut (line_in line)) z
    pub places : (z : ℕ) → z < n → get_or g (64 + z) 0 ≡ (run_at t cut (line_in line)).restart z

  pub all_set : (n : ℕ) (g : List ℕ) → length g ≡ 128 → line.count ≤ n → Set n g → Gated (run_at t cut (line_in line)) g
  all_set n g l h P = record {
    long = omega arith;
    gates = λ z b. P.gates z (omega (arith, S.count_is));
    places = λ z b. P.places z (omega (arith, S.count_is));
  }

  module _ (z : ℕ) (h : z < line.count) where
    in_trace : z < t.procs
    in_trace = omega (arith, S.count_is)

    pub in_range : z < 64
    in_range = omega (arith, few_procs, S.count_is)

    newest : Newest full z cut (get_or latest z 0)
    newest = S.linked.last z in_range

    pub walkable : Walkable full earlier (get_or latest z 0)
    walkable = record { cut = cut; process = z; latest = latest; sized = sized t full S.tabled cut S.within; linked = S.linked; here = newest }

    -- what `go_back` found
    module _ (number e f : ℕ) (en : number ≡ get_or line.epochs z 0)
        (w : (x y : ℕ) (l : List ℕ) → Linked full x earlier l → Newest full y x (get_or latest z 0) → Walked full x y number e f) where
      number_is : number ≡ line_in line z
      number_is = en ∙ sym (line_at line t.procs S.count_is z in_trace)

      walked : Walked full cut z (line_in line z) e f
      walked = rw (← number_is) (w cut z latest S.linked newest)

      pub before_few : e ≤ 2048
      before_few = omega (arith, walked.within, cut_few)

      pub first_few : f ≤ 2048
      first_few = by_eq f 0 (λ q. omega arith) (λ q. omega (arith, (walked.first_own (omega arith)).1, cut_few))

      pub phase_few : 0 < e → phase_w full e < 65536
      phase_few p =
          let b : e ≤ size t = omega (arith, walked.within, S.within) in
          omega (arith, S.tabled.columns.phase e p b, phase_most t (fit t full S.tabled) (at t e) e b, few t full S.tabled)

      gate_is : gate_by number (restart_phase full number e) ≡ gate (run_at t cut (line_in line)) z
      unfolding gate
      gate_is =
          let W = walked in
          let p = phase_newest t full S.tabled cut S.within z e W.within W.own (line_in line) W.done W.undone (S.numbers z in_trace) in
          rw (number_is, p)

      place_is : restart_event number cut f ≡ (run_at t cut (line_in line)).restart z
      place_is =
          let W = walked in
          rw number_is (restart_event_lem t full S.tabled cut S.within z e W.within W.own (line_in line) W.done W.undone f W.first_own W.first (S.numbers z in_trace))

      pub one_set : (g : List ℕ) (u v p : ℕ) → length g ≡ 128 → p ≡ restart_phase full number e → u ≡ gate_by number p → v ≡ restart_event number cut f → Set z g
          → Set (z + 1) (set (set g z u) (64 + z) v)
      one_set g u v p l ep eu ev P = record {
        gates = λ y b. get_or-set_other (set g z u) (64 + z) y v 0 (λ q. omega (arith, in_range))
            ∙ by_eq y z
            (λ q. rw q (get_or-set_same g z u 0 (omega (arith, in_range)) ∙ eu ∙ ap (gate_by number) ep ∙ gate_is))
            (λ n. get_or-set_other g z y u 0 n ∙ P.gates y (omega arith));
        places = λ y b. by_eq y z
            (λ q. rw q (get_or-set_same (set g z u) (64 + z) v 0 (simp length-set (omega (arith, in_range))) ∙ ev ∙ place_is))
            (λ n. get_or-set_other (set g z u) (64 + z) (64 + y) v 0 (λ q. n (omega arith)) ∙ get_or-set_other g z (64 + y) u 0 (λ q. omega (arith, in_range))
            ∙ P.places y (omega arith));
      }
