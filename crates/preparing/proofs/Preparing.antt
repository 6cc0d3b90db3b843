-- Each way out of this crate's functions: the number by the definitions, and what is then given.
use Prim.Native.Nat.{ℕ, ◌^◌, ◌≤◌, ◌<◌}
use mathlib.Core.Path.{◌≡◌, refl, sym, ap, ◌∙◌}
use mathlib.Core.Bool.{Bool, true, false, ◌&&◌, ◌||◌}
use mathlib.Core.List.{List}
use native.Mathlib.Omega.{arith}
use lib.Dec.{leb, ltb, eqb}
use lib.ListN.{length, get_or}
use borrow.Author.Tests.{eq-eqb, lt-ltb, le-ltb}
use Rattle.words.specs.Area.{area_words}
use Rattle.words.proofs.Cases.{by_bool}
use Rattle.trace.specs.Trace.{Trace}
use Rattle.table.specs.Held.{held, holds_trace}
use Rattle.theory.specs.Events.{size}
use Rattle.theory.specs.Epochs.{logged_by, rule_of}
use Rattle.theory.specs.Line.{in_set, usable_at, run_at}
use Rattle.theory.specs.Refusals.{failure_fault, numbers_fault, line_fault}
use Rattle.theory.specs.Inner.Refusals.{FitLine}
use Rattle.theory.proofs.Refusals.{failure_fit, line_fit}
use Rattle.theory.proofs.Epochs.{laws}
use Rattle.theory.proofs.Lines.{number_of}
use Rattle.theory.proofs.Claims.{finished_usable}
use Rattle.columns.specs.Inner.Columns.{full_words, Columns, Flagged, Tabled}
use Rattle.columns.specs.Inner.Given.{Marked, Gated, Given}
use Rattle.columns.proofs.Full.{fit}
use Rattle.protocol.proofs.Passes.{held_formed}
use Rattle.recovery_line.specs.declared.Line.{Line}
use Rattle.recovery_line.specs.Given.{line_in}
use Rattle.recovery_line.proofs.Table.{sized}
use Rattle.positions.specs.Inner.Positions.{Unlinked, Linked}
use Rattle.gates.specs.Inner.Gates.{Settable}
use Rattle.preparing.specs.Faults.{areas_or, failure_fault_of, line_fault_of}
use Rattle.preparing.specs.Inner.Prepared.{TableOpened, failure_fault_in, Tabulated, Takeable}

-- ---- `open_table`

-- `protocol::tabulate` on a table of the right size says whether the area holds a trace
pub tabled_holds : (a full : List ℕ) (r : Bool) → length full ≡ full_words → r ≡ (eqb (length full) full_words && holds_trace a) → r ≡ holds_trace a
tabled_holds a full r l e = e ∙ ap (λ (b : Bool). b && holds_trace a) (eq-eqb (length full) 14359 l)

module _ (a : List ℕ) (room rest : ℕ) where
  pub short_table : length a < area_words → 12 ≡ areas_or a room rest
  short_table h = rw (lt-ltb (length a) 16384 h)

  module _ (la : area_words ≤ length a) where
    pub short_room : room < area_words → 12 ≡ areas_or a room rest
    short_room h = rw (le-ltb (length a) 16384 la, lt-ltb room 16384 h)

    module _ (lr : area_words ≤ room) where
      pub none_held : holds_trace a ≡ false → 13 ≡ areas_or a room rest
      none_held h = rw (le-ltb (length a) 16384 la, le-ltb room 16384 lr, h)

      pub areas_fit : holds_trace a ≡ true → rest ≡ areas_or a room rest
      areas_fit h = rw (le-ltb (length a) 16384 la, le-ltb room 16384 lr, h)

pub marked : (a full : List ℕ) → holds_trace a ≡ true → Columns (held a) full → Flagged (held a) (logged_by (held a) (rule_of (held a))) full → Marked (held a) (rule_of (held a)) full
marked a full h C F = record { tabled = record { formed = held_formed a h; columns = C }; flags = F }

-- ---- `open_failure`, `prepare`: what is wrong first comes first

areas_first : (a : List ℕ) (room rest : ℕ) (n : ℕ) → n ≡ areas_or a room 0 → (n ≡ 0 → ⊥) → n ≡ areas_or a room rest
areas_first a room rest n e z =
    by_bool (ltb (length a) 16384) (λ p. e ∙ rw p)
    (λ p. by_bool (ltb room 16384) (λ q. e ∙ rw (p, q))
    (λ q. by_bool (holds_trace a) (λ r. absurd (z (e ∙ rw (p, q, r)))) (λ r. e ∙ rw (p, q, r))))

pub failure_areas : (a : List ℕ) (room step set n : ℕ) → n ≡ areas_or a room 0 → (n ≡ 0 → ⊥) → n ≡ failure_fault_in a room step set
failure_areas a room step set n e z = areas_first a room (failure_fault (held a) step set) n e z

pub opened_number : (a : List ℕ) (room rest n : ℕ) (full : List ℕ) → TableOpened a room full → n ≡ rest → n ≡ areas_or a room rest
opened_number a room rest n full O e = e ∙ areas_fit a room rest O.long O.enough O.holds

pub step_within : (a : List ℕ) (room step set : ℕ) (full : List ℕ) → Tabulated a room step set full → step ≤ size (held a)
step_within a room step set full T = ((failure_fit (held a) step set).0 T.fit).step_most

-- no run area is asked for: a table of 16,384 words will do
pub no_room : (a : List ℕ) (step set n : ℕ) → n ≡ failure_fault_in a area_words step set → n ≡ failure_fault_of a step set
unfolding failure_fault_of
no_room a step set n e = e

module _ (a : List ℕ) (room step set : ℕ) (l : Line) where
  -- where the failure is fit, only the line is left
  fit_rest : failure_fault (held a) step set ≡ 0 → numbers_fault (held a) step set l.count (line_in l) ≡ line_fault (held a) step set l.count (line_in l)
  unfolding failure_fault line_fault
  fit_rest z =
      by_bool (ltb (size (held a)) step)
      (λ p. let c : ◌≡◌ {A = ℕ} 8 0 = rw p at z in absurd (let y : ⊥ = omega arith in y))
      (λ p. by_bool (eqb set 0 || leb (2 ^ (held a).procs) set)
      (λ q. let c : ◌≡◌ {A = ℕ} 9 0 = rw (p, q) at z in absurd (let y : ⊥ = omega arith in y))
      (λ q. rw (p, q)))

  pub failure_first : (n : ℕ) → n ≡ failure_fault_in a room step set → (n ≡ 0 → ⊥) → n ≡ line_fault_of a room step set l
  unfolding line_fault_of line_fault failure_fault
  failure_first n e z =
      by_bool (ltb (length a) 16384) (λ p. e ∙ rw p)
      (λ p. by_bool (ltb room 16384) (λ q. e ∙ rw (p, q))
      (λ q. by_bool (holds_trace a)
      (λ r. by_bool (ltb (size (held a)) step) (λ s. e ∙ rw (p, q, r, s))
      (λ s. by_bool (eqb set 0 || leb (2 ^ (held a).procs) set) (λ u. e ∙ rw (p, q, r, s, u)) (λ u. absurd (z (e ∙ rw (p, q, r, s, u))))))
      (λ r. e ∙ rw (p, q, r))))

  module _ (full : List ℕ) (T : Tabulated a room step set full) where
    pub line_number : (n : ℕ) → n ≡ numbers_fault (held a) step set l.count (line_in l) → n ≡ line_fault_of a room step set l
    unfolding line_fault_of
    line_number n e = opened_number a room (line_fault (held a) step set l.count (line_in l)) n full T.opened (e ∙ fit_rest T.fit)

    pub takeable : 0 ≡ numbers_fault (held a) step set l.count (line_in l) → Takeable (held a) full l step
    takeable e =
        let q : FitLine (held a) step set l.count (line_in l) = (line_fit (held a) step set l.count (line_in l)).0 (sym (fit_rest T.fit) ∙ sym e) in
        record { marked = T.opened.marked; within = step_within a room step set full T; count_is = q.count_is; failed = set; permitted = q.permitted }

-- ---- `gates_of`

pub unlinked : (t : Trace) (full : List ℕ) → Tabled t full → (cut : ℕ) → cut ≤ size t → (earlier latest : List ℕ) → length earlier ≡ 2049 → length latest ≡ 64
    → ((z : ℕ) → get_or latest z 0 ≡ 0) → Unlinked full cut earlier latest
unlinked t full G cut cl earlier latest a b h = record { sized = sized t full G cut cl; long = a; wide = b; none = h }

module _ (t : Trace) (full : List ℕ) (line : Line) (cut : ℕ) (P : Takeable t full line cut) where
  pub settable : (earlier latest : List ℕ) → Linked full cut earlier latest → Settable t full earlier latest line cut
  settable earlier latest L =
      let G = P.marked.tabled in
      record {
        tabled = G;
        within = P.within;
        linked = L;
        count_is = P.count_is;
        numbers = number_of t (rule_of t) (fit t full G) cut P.within (usable_at t cut) (finished_usable t G.formed (rule_of t) cut P.within) (in_set P.failed) (line_in line) P.permitted;
      }

  -- the full table tells the trace's own run
  pub given : (gates : List ℕ) → Gated (run_at t cut (line_in line)) gates → Given (run_at t cut (line_in line)) cut full gates
  given gates g = record {
    tells = record {
      tabled = P.marked.tabled;
      flags = P.marked.flags;
      phases = λ z x. refl;
      laws = laws t (rule_of t) (fit t full P.marked.tabled) cut (line_in line) P.within;
    };
    cut_is = refl;
    gated = g;
  }
