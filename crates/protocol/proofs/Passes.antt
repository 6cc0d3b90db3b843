-- The trace that an area holds, and the pass over the events that the first words of a table say.
use Prim.Native.Nat.{ℕ, zero, suc, ◌+◌, ◌-◌, ◌*◌, ◌<◌, ◌≤◌}
use mathlib.Core.Path.{◌≡◌, refl, sym, ap, subst, ◌∙◌}
use mathlib.Core.Bool.{Bool, true, false, ◌&&◌}
use mathlib.Core.List.{List, [], ◌∷◌, ◌++◌, append_assoc, append-nil}
use native.Mathlib.Omega.{arith}
use lib.Dec.{leb}
use lib.ListN.{length, get_or, set, take, replicate, length-set, length-append}
use lib.Seq.{get_or-take, get_or-set_same, get_or-set_other}
use borrow.Author.Tests.{leb-true, eqb-true}
use Rattle.words.specs.Area.{words_from}
use Rattle.words.proofs.Area.{get_d_words}
use Rattle.words.proofs.Cases.{and_left}
use Rattle.words.proofs.Halves.{half_low, half_high}
use Rattle.trace.specs.declared.Event.{Event}
use Rattle.trace.specs.Trace.{Trace}
use Rattle.trace.specs.Fit.{event_fault, value_fits, well_formed}
use Rattle.trace.specs.Table.{table_word}
use Rattle.table.specs.Held.{held_value, held_event, held_events, held, holds_trace}
use Rattle.table.specs.Inner.Tested.{word_fits, fit_from, framed}
use Rattle.table.proofs.Turns.{events_turn, events_end, fits_fit, frame_facts, frame_events}
use Rattle.table.proofs.Places.{length_held, said_event, said_value}
use Rattle.table.proofs.Testing.{value_fits_lem, each_fits, tested_holds}
use Rattle.table.proofs.Holding.{held_self, words_of, same_trace}
use Rattle.theory.specs.Events.{size, value}
use Rattle.theory.proofs.WellFormed.{Valid, valid}
use Rattle.theory.specs.Epochs.{logged_by, rule_of}
use Rattle.columns.specs.Inner.Columns.{full_words, Columns, Flagged}
use Rattle.columns.specs.Inner.Filling.{note_full, note_work, fit_in, Noted, Awaits}
use Rattle.columns.proofs.Bounds.{well_few, well_fit}
use Rattle.columns.proofs.Full.{message_most}
use Rattle.columns.proofs.Passes.{note_below}
use Rattle.columns.proofs.Judging.{none_noted, noted_fit, noted_awaits, noted_next, noted_columns}
use Rattle.protocol.specs.Inner.Fillable.{Fillable}

-- ---- The trace that an area holds

module _ (a : List ℕ) (h : holds_trace a ≡ true) where
  facts : (16384 ≤ length a) × (well_formed (held a) ≡ true) × (take 16384 a ≡ words_from (table_word (held a)) 0 16384)
  facts = words_of a (held a) (held_self a h)

  pub held_long : 16384 ≤ length a
  held_long = facts.0

  pub held_formed : well_formed (held a) ≡ true
  held_formed = facts.1

  pub held_valid : Valid (held a)
  held_valid = valid (held a) facts.1

  pub held_few : size (held a) ≤ 2048
  held_few = well_few (held a) facts.1

  pub held_64 : (p q k : ℕ) → value (held a) p q k ≤ 18446744073709551615
  held_64 = message_most (held a) facts.1

  pub held_word : (k : ℕ) → k < 16384 → get_or a k 0 ≡ table_word (held a) k
  held_word k l =
      sym (get_or-take 16384 a k 0 l) ∙ ap (λ (w : List ℕ). get_or w k 0) facts.2 ∙ get_d_words (table_word (held a)) 0 16384 k l ∙ ap (table_word (held a)) (omega arith)

-- ---- A table whose first words are those of an area

-- both have the words up to the high half of event 2,048
module _ (a b : List ℕ) (same : (k : ℕ) → k < 6163 → get_or b k 0 ≡ get_or a k 0) where
  front_event : (i : ℕ) → i ≤ 2048 → held_event b i ≡ held_event a i
  front_event i l = rw (same (16 + i) (omega arith), same (2065 + i) (omega arith), same (4114 + i) (omega arith))

  front_fit : (p : ℕ) (es : List Event) (i n : ℕ) → i + n ≤ 2049 → fit_from p es b i n ≡ fit_from p es a i n
  unfolding fit_from
  front_fit p es i zero l = refl
  front_fit p es i (suc n) l =
      rw (same (16 + i) (omega arith), same (2065 + i) (omega arith), same (4114 + i) (omega arith), front_fit p (es ++ held_event a i ∷ []) (suc i) n (omega arith))

  pub front_fits : get_or a 1 0 ≤ 2048 → fit_from (get_or b 0 0) [] b 1 (get_or b 1 0) ≡ fit_from (get_or a 0 0) [] a 1 (get_or a 1 0)
  front_fits l = rw (same 0 (omega arith), same 1 (omega arith)) (front_fit (get_or a 0 0) [] 1 (get_or a 1 0) (omega arith))

-- ---- The words of a trace

module _ (t : Trace) (a : List ℕ) (F : Fillable t a) where
  fillable_held : held a ≡ t
  fillable_held = same_trace a t F.formed F.words

  fillable_events : held_events a 1 (get_or a 1 0) ≡ t.events
  unfolding held
  fillable_events = ap (λ (u : Trace). u.events) fillable_held

  fillable_procs : get_or a 0 0 ≡ t.procs
  unfolding held
  fillable_procs = ap (λ (u : Trace). u.procs) fillable_held

  word_held : (k : ℕ) → k < 6163 → get_or a k 0 ≡ table_word (held a) k
  word_held k l = F.words k l ∙ ap (λ (u : Trace). table_word u k) (sym fillable_held)

  fillable_few : get_or a 1 0 ≤ 2048
  fillable_few = omega (arith, sym (length_held a 1 (get_or a 1 0)) ∙ ap length fillable_events, well_few t F.formed)

  pub fillable_sized : (length a ≡ full_words) × (2 ≤ get_or a 0 0) × (get_or a 0 0 ≤ 64) × (get_or a 1 0 ≤ 2048)
  unfolding well_formed
  fillable_sized =
      let least = leb-true 2 t.procs (and_left (leb 2 t.procs) _ F.formed) in
      (F.whole, rw fillable_procs least, rw fillable_procs (valid t F.formed).few, fillable_few)

  pub fillable_fits : fit_from (get_or a 0 0) [] a 1 (get_or a 1 0) ≡ true
  fillable_fits = each_fits (get_or a 0 0) a [] 1 (get_or a 1 0) (rw (fillable_procs, fillable_events) (well_fit t F.formed))
      (λ i l m. let few = fillable_few in
      record {
        word = sym (word_held (16 + i) (omega arith) ∙ said_event a i l (omega arith) (omega arith));
        value = λ b c. sym (word_held (2065 + 2049 * b + i) (omega arith) ∙ said_value a b i c l (omega arith) (omega arith));
      })

-- ---- `events_noted`

-- Before event e of the n events that a table's words say: the earlier ones are noted, and what is tested from here says
-- what all tests say.
pub record Judged (a : List ℕ) (procs n : ℕ) (full work : List ℕ) (e : ℕ) : Type 0 where
  pub most : e ≤ n + 1
  pub few : n ≤ 2048
  pub events : List Event
  pub count : length events + 1 ≡ e
  pub noted : Noted procs events full work
  pub rest : fit_from procs events a e (n + 1 - e) ≡ fit_from procs [] a 1 n
  pub all : events ++ held_events a e (n + 1 - e) ≡ held_events a 1 n
  pub same : (k : ℕ) → k < 6163 → get_or full k 0 ≡ get_or a k 0

module _ (a : List ℕ) (procs n : ℕ) where
  pub none_judged : (work : List ℕ) → n ≤ 2048 → Noted procs [] a work → Judged a procs n a work 1
  none_judged work few N =
      let q : n + 1 - 1 ≡ n = omega arith in
      record { most = omega arith; few = few; events = []; count = refl; noted = N; rest = rw q; all = rw q; same = λ k h. refl }

  module _ (full work : List ℕ) (e : ℕ) (J : Judged a procs n full work e) (l : e ≤ n) where
    pub judged_awaits : Awaits procs full work e
    judged_awaits = rw J.count at (noted_awaits procs J.events full work J.noted (omega (arith, J.count, J.few)))

    abbrev v : Event
    v = held_event a e

    here : held_event full e ≡ v
    here = front_event a full J.same e (omega (arith, J.few))

    -- the value's halves are words
    module _ (low : get_or a (2065 + e) 0 < 4294967296) (high : get_or a (4114 + e) 0 < 4294967296)
        (r : Bool) (er : r ≡ word_fits (fit_in procs work) (get_or full (16 + e) 0) (held_value full e)) where
      answer : r ≡ word_fits (fit_in procs work) (get_or a (16 + e) 0) (held_value a e)
      answer = er ∙ rw (J.same (16 + e) (omega (arith, J.few)), J.same (2065 + e) (omega (arith, J.few)), J.same (4114 + e) (omega (arith, J.few)))

      turn : (r && fit_from procs (J.events ++ v ∷ []) a (e + 1) (n + 1 - (e + 1))) ≡ fit_from procs [] a 1 n
      turn =
          rw answer
          (sym (events_turn procs J.events a e n l (fit_in procs work) (noted_fit procs J.events full work J.noted v)
          (half_low _ _ low high) (half_high _ _ low high)) ∙ J.rest)

      pub judged_none : r ≡ false → false ≡ fit_from procs [] a 1 n
      judged_none z = rw z at turn

      module _ (yes : r ≡ true) where
        fault : event_fault procs J.events v ≡ 0
        fault =
            eqb-true _ 0
            (sym (noted_fit procs J.events full work J.noted v) ∙ fits_fit (fit_in procs work) (get_or a (16 + e) 0) (held_value a e) (sym answer ∙ yes))

        value_64 : value_fits v ≡ true
        value_64 = value_fits_lem (get_or a (16 + e) 0) (held_value a e) (omega (arith, low, high))

        pub judged_one : (full' work' : List ℕ) → full' ≡ note_full full work e (held_event full e) → work' ≡ note_work full work e (held_event full e)
            → Judged a procs n full' work' (e + 1)
        unfolding held_events
        judged_one full' work' ef ew =
            let A = judged_awaits in
            let left : n + 1 - e ≡ suc (n + 1 - suc e) = omega arith in
            let after : e + 1 ≡ suc e = omega arith in
            let more : J.events ++ v ∷ held_events a (suc e) (n + 1 - suc e) ≡ held_events a 1 n
            = subst (λ (m : ℕ). J.events ++ held_events a e m ≡ held_events a 1 n) left J.all in
            record {
              most = omega arith;
              few = J.few;
              events = J.events ++ v ∷ [];
              count = omega (arith, length-append J.events (v ∷ []), J.count);
              noted = noted_next procs J.events full work J.noted (omega (arith, J.count, J.few)) v fault value_64 full' work' (ef ∙ rw (here, J.count)) (ew ∙ rw (here, J.count));
              rest = rw yes at turn;
              all = append_assoc J.events (v ∷ []) (held_events a (e + 1) (n + 1 - (e + 1))) ∙ rw after more;
              same = λ k h. ap (λ (x : List ℕ). get_or x k 0) ef
                  ∙ note_below full work e A.storable.full_long A.storable.event_most (held_event full e) k h ∙ J.same k h;
            }

  module _ (full work : List ℕ) (e : ℕ) (J : Judged a procs n full work e) (l : n + 1 ≤ e) where
    pub judged_all : true ≡ fit_from procs [] a 1 n
    judged_all = sym (events_end procs J.events a e n (omega arith)) ∙ J.rest

    pub judged_columns : n ≡ get_or a 1 0 → (t : Trace) → Fillable t a → Columns t full × Flagged t (logged_by t (rule_of t)) full
    unfolding held_events
    judged_columns c t F =
        let none : n + 1 - e ≡ 0 = omega arith in
        let es : J.events ≡ t.events
        = sym (append-nil J.events) ∙ subst (λ (m : ℕ). J.events ++ held_events a e m ≡ held_events a 1 n) none J.all ∙ ap (held_events a 1) c ∙ fillable_events t a F in
        noted_columns procs full work t F.formed (subst (λ (x : List Event). Noted procs x full work) es J.noted) (λ k h. J.same k h ∙ F.words k h)

-- ---- `fill`: the number of event 0 is cleared, and the working words begin

module _ (full : List ℕ) (long : length full ≡ full_words) (few : get_or full 1 0 ≤ 2048) where
  abbrev cleared : List ℕ
  cleared = set full 6163 0

  cleared_long : length cleared ≡ full_words
  cleared_long = simp length-set long

  cleared_same : (k : ℕ) → k < 6163 → get_or cleared k 0 ≡ get_or full k 0
  cleared_same k h = get_or-set_other full 6163 k 0 0 (λ q. omega arith)

  pub cleared_noted : (work : List ℕ) → 2 ≤ get_or full 0 0 → get_or full 0 0 ≤ 64
      → length work ≡ 10433 → ((k : ℕ) → k < 192 → get_or work k 0 ≡ 1) → ((k : ℕ) → 192 ≤ k → get_or work k 0 ≡ get_or (replicate 10433 0) k 0)
      → (length cleared ≡ full_words) × (get_or cleared 1 0 ≤ 2048) × Noted (get_or cleared 0 0) [] cleared work
  cleared_noted work least most lw one rest =
      let procs = cleared_same 0 (omega arith) in
      (cleared_long, rw (cleared_same 1 (omega arith)) few, none_noted (get_or cleared 0 0) cleared work (rw procs least) (rw procs most) cleared_long (get_or-set_same full 6163 0 0 (omega arith)) lw one rest)

  pub cleared_fits : (r : Bool) → r ≡ fit_from (get_or cleared 0 0) [] cleared 1 (get_or cleared 1 0) → r ≡ fit_from (get_or full 0 0) [] full 1 (get_or full 1 0)
  cleared_fits r e = e ∙ front_fits full cleared cleared_same few

  pub cleared_fillable : (t : Trace) → Fillable t full → Fillable t cleared
  cleared_fillable t F = record { whole = cleared_long; formed = F.formed; words = λ k h. cleared_same k h ∙ F.words k h }

-- ---- `tabulate`: the area's words are copied

module _ (area full : List ℕ) (frame : framed area ≡ true) (long : length full ≡ full_words) (same : (k : ℕ) → k < 6163 → get_or full k 0 ≡ get_or area k 0) where
  pub copied_sized : (length full ≡ full_words) × (2 ≤ get_or full 0 0) × (get_or full 0 0 ≤ 64) × (get_or full 1 0 ≤ 2048)
  copied_sized =
      let F = frame_facts area frame in
      let procs = same 0 (omega arith) in
      (long, rw procs F.least, rw procs F.most, rw (same 1 (omega arith)) F.few)

  pub copied_holds : (r : Bool) → r ≡ fit_from (get_or full 0 0) [] full 1 (get_or full 1 0) → r ≡ holds_trace area
  copied_holds r e = e ∙ front_fits area full same (frame_facts area frame).few ∙ frame_events area frame _ refl ∙ tested_holds area

  pub copied_fillable : holds_trace area ≡ true → Fillable (held area) full
  copied_fillable h = record { whole = long; formed = held_formed area h; words = λ k l. same k l ∙ held_word area h k (omega arith) }
