-- Events judged one after another. What the tables hold after some events is said of every well-formed trace that
-- begins with these, since nothing is known of the rest: so the next one is judged by the working words, and noted if
-- it is fit.
use Prim.Native.Nat.{ℕ, suc, ◌+◌, ◌<◌, ◌≤◌}
use mathlib.Core.Path.{◌≡◌, refl, sym, ap, ◌∙◌}
use mathlib.Core.Bool.{Bool, true, false, ◌&&◌, not, cond, and-true}
use mathlib.Core.List.{List, [], ◌∷◌, ◌++◌, append_assoc, append-nil}
use native.Mathlib.Omega.{arith}
use native.Mathlib.Numerals.{add-one}
use lib.Dec.{leb, ltb, eqb}
use lib.ListN.{length, get_or, replicate, length-append}
use lib.Seq.{take_all, get_or-append_seam}
use borrow.Author.Tests.{lt-ltb, le-ltb, lt-leb, le-leb, eq-eqb, ne_eqb, eqb-true, ltb-true}
use Rattle.words.proofs.Area.{zero_word}
use Rattle.words.proofs.Cases.{by_eq, by_lt, and_left, and_right, and_both}
use Rattle.trace.specs.declared.Event.{Event}
use Rattle.trace.specs.declared.Event.TheVariants.{Send, Recv, Save, Done}
use Rattle.trace.specs.Trace.{Trace, started, with_events, is_send, is_recv, is_save, is_done, count, sends_in, recvs_in, saves_in, dones_in}
use Rattle.trace.specs.Fit.{event_fault, value_fits, all_fit, well_formed}
use Rattle.trace.specs.Table.{table_word}
use Rattle.theory.specs.Lists.{cnt}
use Rattle.theory.specs.Events.{size, event_at, sends, recvs, checkpoints, finishes, sent, rcvd, send_of}
use Rattle.theory.specs.Epochs.{logged_by, rule_of}
use Rattle.theory.proofs.Epochs.{epoch_is}
use Rattle.theory.proofs.WellFormed.{valid, count_cnt}
use Rattle.columns.specs.Inner.Columns.{full_words, Columns, Flagged}
use Rattle.columns.specs.Inner.Filling.{note_full, note_work, oldest_of, pair_fits, fit_in, Working, Begins, Noted, Awaits}
use Rattle.columns.proofs.Bounds.{well_few}
use Rattle.columns.proofs.Columns.{found}
use Rattle.columns.proofs.Passes.{begin_filled, begin_working, notable, next_filled, next_working, filled_columns}

-- ---- Before the first event

pub none_noted : (n : ℕ) (full work : List ℕ) → 2 ≤ n → n ≤ 64 → length full ≡ full_words → get_or full 6163 0 ≡ 0
    → length work ≡ 10433 → ((k : ℕ) → k < 192 → get_or work k 0 ≡ 1) → ((k : ℕ) → 192 ≤ k → get_or work k 0 ≡ get_or (replicate 10433 0) k 0)
    → Noted n [] full work
unfolding all_fit
none_noted n full work least most lf z lw one rest = record {
  least = least;
  most = most;
  few = omega arith;
  fit = refl;
  filled = λ t B. begin_filled t full lf z;
  working = λ t B. begin_working t work lw one (λ k h. rest k h ∙ zero_word 10433 k);
}

-- ---- A fit event more

fit_more : (n : ℕ) (before es : List Event) (v : Event) → all_fit n before es ≡ true → event_fault n (before ++ es) v ≡ 0 → value_fits v ≡ true
    → all_fit n before (es ++ v ∷ []) ≡ true
unfolding all_fit
fit_more n before [] v h f g = and_both _ _ (eq-eqb _ _ (rw (append-nil before) at f)) (and_both _ _ g refl)
fit_more n before (e ∷ es) v h f g =
    let h₂ = and_right (eqb (event_fault n before e) 0) _ h in
    and_both _ _ (and_left (eqb (event_fault n before e) 0) _ h)
    (and_both _ _ (and_left (value_fits e) _ h₂)
    (fit_more n (before ++ e ∷ []) es v (and_right (value_fits e) _ h₂) (rw (append_assoc before (e ∷ []) es) f) g))

-- the run so far
abbrev so_far : ℕ → List Event → Trace
so_far n es = with_events (started n) es

so_far_formed : (n : ℕ) (es : List Event) → 2 ≤ n → n ≤ 64 → length es ≤ 2048 → all_fit n [] es ≡ true → well_formed (so_far n es) ≡ true
unfolding well_formed
so_far_formed n es least most few fit =
    and_both _ _ (le-leb 2 n least) (and_both _ _ (le-leb n 64 most) (and_both _ _ (le-leb (length es) 2048 few) fit))

-- ---- The tests

process_tested : (n a : ℕ) (c : Bool) (rest : ℕ) → (a < n → c ≡ eqb rest 0) → ltb a n && c ≡ eqb (cond (leb n a) 3 rest) 0
process_tested n a c rest h = by_lt a n (λ l. rw (lt-ltb a n l, lt-leb n a l) (h l)) (λ l. rw (le-ltb a n l, le-leb n a l))

pair_tested : (n a b : ℕ) (c : Bool) (rest : ℕ) → (a < n → b < n → c ≡ eqb rest 0)
    → pair_fits n a b && c ≡ eqb (cond (leb n a) 3 (cond (leb n b) 3 (cond (eqb a b) 4 rest))) 0
pair_tested n a b c rest h =
    by_lt a n
    (λ l. by_lt b n
    (λ m. by_eq a b
    (λ q. rw (lt-ltb a n l, lt-leb n a l, lt-ltb b n m, lt-leb n b m, eq-eqb a b q))
    (λ q. rw (lt-ltb a n l, lt-leb n a l, lt-ltb b n m, lt-leb n b m, ne_eqb a b q) (h l m)))
    (λ m. rw (lt-ltb a n l, lt-leb n a l, le-ltb b n m, le-leb n b m)))
    (λ l. rw (le-ltb a n l, le-leb n a l))

module _ (n : ℕ) (es : List Event) (full work : List ℕ) (N : Noted n es full work) where
  abbrev t : Trace
  t = so_far n es

  begins_so_far : Begins es t
  begins_so_far = record { formed = so_far_formed n es N.least N.most N.few N.fit; rest = []; events = sym (append-nil es) }

  W : Working t (length es) work
  W = N.working t begins_so_far

  counted : (f : Event → Bool) → count f es ≡ cnt (λ e. f (event_at t e)) (length es)
  counted f = ap (count f) (sym (take_all (length es) es (omega arith))) ∙ count_cnt t f (length es) (omega arith)

  -- a message is in transit where the channel has an oldest send
  transit_tested : (a b : ℕ) → a < 64 → b < 64 → not (eqb (oldest_of work a b) 0) ≡ eqb (cond (leb (sends_in b a es) (recvs_in b a es)) 5 0) 0
  unfolding sends recvs sent rcvd
  transit_tested a b la lb =
      let s = counted (is_send b a) in
      let r = counted (is_recv b a) in
      let o = W.oldest b a lb la in
      by_lt (recvs_in b a es) (sends_in b a es)
      (λ l. let d : oldest_of work a b ≡ send_of t b a (suc (rcvd t b a (length es))) = o ∙ rw (lt-ltb (rcvd t b a (length es)) (sent t b a (length es)) (omega arith)) in
      let f = found t b a (suc (rcvd t b a (length es))) (length es) (omega arith) (omega arith) (omega arith) in
      rw (ne_eqb (oldest_of work a b) 0 (λ q. omega (arith, d, q, f.later)), lt-leb (sends_in b a es) (recvs_in b a es) l))
      (λ l. let z : oldest_of work a b ≡ 0 = o ∙ rw (le-ltb (rcvd t b a (length es)) (sent t b a (length es)) (omega arith)) in
      rw (eq-eqb (oldest_of work a b) 0 z, le-leb (sends_in b a es) (recvs_in b a es) l))

  epoch_counted : (a : ℕ) → a < 64 → get_or work a 0 ≡ suc (saves_in a es)
  unfolding checkpoints
  epoch_counted a la = W.epochs a la ∙ epoch_is t (rule_of t) (length es) a ∙ ap suc (sym (counted (is_save a)))

  finished_counted : (a : ℕ) → a < 64 → get_or work (128 + a) 0 ≡ suc (dones_in a es)
  unfolding finishes
  finished_counted a la = W.finished a la ∙ ap suc (sym (counted (is_done a)))

  save_tested : (a : ℕ) → a < 64 → ltb (get_or work a 0) 31 ≡ eqb (cond (leb 30 (saves_in a es)) 6 0) 0
  save_tested a la =
      by_lt (saves_in a es) 30
      (λ l. rw (lt-ltb (get_or work a 0) 31 (omega (arith, epoch_counted a la)), lt-leb 30 (saves_in a es) l))
      (λ l. rw (le-ltb (get_or work a 0) 31 (omega (arith, epoch_counted a la)), le-leb 30 (saves_in a es) l))

  done_tested : (a : ℕ) → a < 64 → ltb (get_or work (128 + a) 0) (get_or work a 0) ≡ eqb (cond (leb (saves_in a es) (dones_in a es)) 15 0) 0
  done_tested a la =
      let s = epoch_counted a la in
      let d = finished_counted a la in
      by_lt (dones_in a es) (saves_in a es)
      (λ l. rw (lt-ltb (get_or work (128 + a) 0) (get_or work a 0) (omega (arith, s, d)), lt-leb (saves_in a es) (dones_in a es) l))
      (λ l. rw (le-ltb (get_or work (128 + a) 0) (get_or work a 0) (omega (arith, s, d)), le-leb (saves_in a es) (dones_in a es) l))

  -- what the working words say of an event is what the events before it say
  pub noted_fit : (v : Event) → fit_in n work v ≡ eqb (event_fault n es v) 0
  unfolding event_fault
  noted_fit (Send a b v) = sym (and-true (pair_fits n a b)) ∙ pair_tested n a b true 0 (λ l m. refl)
  noted_fit (Recv a b) = pair_tested n a b _ _ (λ l m. transit_tested a b (omega (arith, N.most)) (omega (arith, N.most)))
  noted_fit (Save a) = process_tested n a _ _ (λ l. save_tested a (omega (arith, N.most)))
  noted_fit (Done a) = process_tested n a _ _ (λ l. done_tested a (omega (arith, N.most)))

  -- ---- The next event

  module _ (room : length es < 2048) where
    length_more : (v : Event) (rest : List Event) → length (es ++ v ∷ rest) ≡ suc (length es) + length rest
    length_more v rest = omega (arith, length-append es (v ∷ rest))

    -- in every trace that begins with it too
    module _ (v : Event) (rest : List Event) (u : Trace) (formed : well_formed u ≡ true) (events : u.events ≡ es ++ v ∷ rest) where
      begins : Begins es u
      begins = record { formed = formed; rest = v ∷ rest; events = events }

      within : suc (length es) ≤ size u
      within = omega (arith, ap length events, length_more v rest)

      here : event_at u (suc (length es)) ≡ v
      unfolding event_at
      here = ap (λ (l : List Event). get_or l (length es) (Save u.procs)) events ∙ get_or-append_seam es v rest _

    module _ (v : Event) (fault : event_fault n es v ≡ 0) (value : value_fits v ≡ true) where
      more_fit : all_fit n [] (es ++ v ∷ []) ≡ true
      more_fit = fit_more n [] es v N.fit fault value

      pub noted_next : (full' work' : List ℕ) → full' ≡ note_full full work (length es + 1) v → work' ≡ note_work full work (length es + 1) v
          → Noted n (es ++ v ∷ []) full' work'
      noted_next full' work' ef ew =
          let more : length (es ++ v ∷ []) ≡ suc (length es) = omega (arith, length_more v []) in
          record {
            least = N.least;
            most = N.most;
            few = omega (arith, more);
            fit = more_fit;
            filled = λ u B. let q = B.events ∙ append_assoc es (v ∷ []) B.rest in
                let b = begins v B.rest u B.formed q in
                rw (more, ef, add-one (length es))
                (next_filled u (valid u B.formed) (well_few u B.formed) (length es) (within v B.rest u B.formed q) full work (N.filled u b) (N.working u b) v (here v B.rest u B.formed q));
            working = λ u B. let q = B.events ∙ append_assoc es (v ∷ []) B.rest in
                let b = begins v B.rest u B.formed q in
                rw (more, ew, add-one (length es))
                (next_working u (valid u B.formed) (well_few u B.formed) (length es) (within v B.rest u B.formed q) full work (N.filled u b) (N.working u b) v (here v B.rest u B.formed q));
          }

    pub noted_awaits : Awaits n full work (length es + 1)
    noted_awaits = record {
      procs_most = N.most;
      storable = record { full_long = (N.filled t begins_so_far).whole; work_long = W.whole; event_most = omega (arith, room) };
      notable = λ v f g.
          let fault = eqb-true (event_fault n es v) 0 (sym (noted_fit v) ∙ f) in
          let u = so_far n (es ++ v ∷ []) in
          let formed = so_far_formed n (es ++ v ∷ []) N.least N.most (omega (arith, length_more v [])) (more_fit v fault g) in
          let b = begins v [] u formed refl in
          notable u (valid u formed) (well_few u formed) (length es) (within v [] u formed refl) full work (N.filled u b) (N.working u b) v (here v [] u formed refl);
    }

-- ---- After the last event

pub noted_columns : (n : ℕ) (full work : List ℕ) (t : Trace) → well_formed t ≡ true → Noted n t.events full work → ((k : ℕ) → k < 6163 → get_or full k 0 ≡ table_word t k)
    → Columns t full × Flagged t (logged_by t (rule_of t)) full
noted_columns n full work t formed N words =
    let F = N.filled t (record { formed = formed; rest = []; events = sym (append-nil t.events) }) in
    (filled_columns t full words F, F.flags)
