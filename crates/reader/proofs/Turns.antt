-- Laws of reading: one for each way a turn of the loop over the lines goes, and each way out of `scan`.
use Prim.Native.Nat.{ℕ, ◌+◌, ◌<◌, ◌≤◌}
use mathlib.Core.Path.{◌≡◌, refl, sym, ap, ◌∙◌}
use mathlib.Core.List.{List, [], ◌∷◌}
use native.Mathlib.Omega.{arith}
use lib.ListN.{length, take, drop, drop_of_length-le, length-drop}
use borrow.Author.Tests.{lt-ltb, le-ltb}
use Rattle.std.specs.Prelude.{Some, None}
use Rattle.text.specs.Inner.Line.{line_end}
use Rattle.trace.specs.declared.Event.{Event}
use Rattle.trace.specs.Trace.{Trace, started, extended}
use Rattle.lines.specs.declared.Line.{Line}
use Rattle.lines.specs.Line.{line_said}
use Rattle.refusal.specs.declared.Refusal.{Refusal}
use Rattle.refusal.specs.declared.Refused.{Refused}
use Rattle.refusal.specs.Refusals.{number_of_refusal}
use Rattle.reader.specs.Verdict.{Judged, Fit, Fails, Unfit, Scan, refused, ended, pieces, judge, after_line, at_end, lines_from, first_line, scan_pieces, scan}
use Rattle.reader.specs.Inner.Reading.{count_only, Holds, Scanned, Unread, Ended, Stopped, ScanOutcome}
use Rattle.reader.proofs.Pieces.{first_piece}
use Rattle.reader.proofs.Cutting.{cut_none, line_cut, line_none, first_cut}
use Rattle.lines.specs.Inner.Placing.{next_line}
use Rattle.lines.specs.declared.Line as line

-- a last piece that is something lacks its LF
lacks : (l : List ℕ) (t : Trace) (k : ℕ) → 0 < length l → at_end l t k ≡ refused 1 k
lacks [] t k h = absurd (let z : ⊥ = omega arith in z)
lacks (b ∷ bs) t k h = refl

-- a line with its LF, whatever follows
pub with_lf : (t : Trace) (k : ℕ) (l : List ℕ) (bs : List ℕ)
    → lines_from t k (l ∷ pieces bs) ≡ after_line (judge t (line_said l)) t k (pieces bs) (λ e. lines_from (extended t e) (k + 1) (pieces bs))
unfolding lines_from
with_lf t k l bs = let p = first_piece bs in rw p.2

module _ (text : List ℕ) (t : Trace) (k at : ℕ) where
  pub turn_end : length text ≤ at → lines_from t k (pieces (drop at text)) ≡ ended t k
  unfolding lines_from pieces
  turn_end h = rw (drop_of_length-le text {i = at} h)

  pub turn_missing : at < length text → next_line text at ≡ None → lines_from t k (pieces (drop at text)) ≡ refused 1 k
  unfolding lines_from
  turn_missing h e = rw (line_none text at e) (lacks (drop at text) t k (rw (length-drop at text) (omega arith)))

  module _ (l : Line) (next : ℕ) (e : next_line text at ≡ Some (l, next)) (j : Judged) (h : j ≡ judge t l) where
    turn_line : lines_from t k (pieces (drop at text)) ≡ after_line j t k (pieces (drop next text)) (λ d. lines_from (extended t d) (k + 1) (pieces (drop next text)))
    turn_line =
        let (after, within, piece, cut, said) = line_cut text at l next e in
        ap (lines_from t k) cut ∙ with_lf t k piece (drop next text) ∙ rw (← said, ← h)

    pub turn_fit : (d : Event) → j ≡ Fit d → lines_from t k (pieces (drop at text)) ≡ lines_from (extended t d) (k + 1) (pieces (drop next text))
    turn_fit d q = turn_line ∙ rw q

    pub turn_fails : (step set : ℕ) → j ≡ Fails step set → (table : List ℕ) → k ≤ 2050 → Holds table t
        → ScanOutcome text (lines_from t k (pieces (drop at text))) (Stopped step set k next) table
    unfolding ScanOutcome
    turn_fails step set q table b w = rw (turn_line, q) (record { next = next; outcome = refl; follows = refl; holds = w; few = b })

    -- a line that is neither a fit event nor a failure line
    pub turn_unfit : (n : ℕ) → j ≡ Unfit n → lines_from t k (pieces (drop at text)) ≡ refused n k
    turn_unfit n q = turn_line ∙ rw q

-- a refusal that is at a line
pub at_line : (x : Scan) (why : Refusal) (k : ℕ) (r : Refused) → r ≡ record { refusal = why; place = k } → x ≡ refused (number_of_refusal why) k
    → x ≡ refused (number_of_refusal r.refusal) r.place
at_line x why k r e h = rw e h

-- an outcome that is known
module _ (text : List ℕ) (s : Scan) (table : List ℕ) where
  pub out_refused : (n k : ℕ) → s ≡ refused n k → length table ≡ 16384 → ScanOutcome text s (Unread n k) table
  unfolding ScanOutcome
  out_refused n k e l = rw e (refl, l)

  pub out_ended : (t : Trace) (k : ℕ) → s ≡ ended t k → Holds table t → ScanOutcome text s (Ended k) table
  unfolding ScanOutcome
  out_ended t k e h = rw e (refl, h)

  pub out_same : (z : Scan) (r : Scanned) → z ≡ s → ScanOutcome text z r table → ScanOutcome text s r table
  out_same z r e o = rw (← e) o

-- a first line with its LF, whatever follows
pub first_lf : (l bs : List ℕ) → scan_pieces (l ∷ pieces bs) ≡ first_line (line_said l) (λ n. lines_from (started n) 2 (pieces bs))
unfolding scan_pieces
first_lf l bs = let p = first_piece bs in rw p.2

-- of the first line only a process count matters
first_count : (x : Line) (next : ℕ → Scan) → first_line x next ≡ first_line (count_only x) next
unfolding count_only
first_count (line.TheVariants.Procs n) next = refl
first_count (line.TheVariants.Send a b v) next = refl
first_count (line.TheVariants.Recv a b) next = refl
first_count (line.TheVariants.Save a) next = refl
first_count (line.TheVariants.Done a) next = refl
first_count (line.TheVariants.Failure k m) next = refl
first_count line.TheVariants.Malformed next = refl

-- each way out of `scan_text`
module _ (text : List ℕ) where
  pub scan_missing : line_end text 0 ≡ None → scan text ≡ refused 1 1
  unfolding scan scan_pieces
  scan_missing e = rw (cut_none 0 text e)

  module _ (i : ℕ) (e : line_end text 0 ≡ Some i) (l : Line) (h : l ≡ count_only (line_said (take i text))) where
    abbrev rest : ℕ → Scan
    rest n = lines_from (started n) 2 (pieces (drop (i + 1) text))

    scan_line : scan text ≡ first_line l rest
    unfolding scan
    scan_line =
        ap scan_pieces (first_cut text i e).1
        ∙ first_lf (take i text) (drop (i + 1) text)
        ∙ first_count (line_said (take i text)) rest
        ∙ ap (λ (x : Line). first_line x rest) (sym h)

    pub scan_other : ((n : ℕ) → l ≡ line.TheVariants.Procs n → ⊥) → scan text ≡ refused 1 1
    scan_other none = scan_line ∙ by_case l refl
      where
        by_case : (x : Line) → l ≡ x → first_line x rest ≡ refused 1 1
        by_case (line.TheVariants.Procs n) q = absurd (none n q)
        by_case (line.TheVariants.Send a b v) q = refl
        by_case (line.TheVariants.Recv a b) q = refl
        by_case (line.TheVariants.Save a) q = refl
        by_case (line.TheVariants.Done a) q = refl
        by_case (line.TheVariants.Failure k m) q = refl
        by_case line.TheVariants.Malformed q = refl

    module _ (n : ℕ) (q : l ≡ line.TheVariants.Procs n) where
      pub scan_low : n < 2 → scan text ≡ refused 2 1
      scan_low g = scan_line ∙ rw (q, lt-ltb n 2 g)

      pub scan_high : 2 ≤ n → 64 < n → scan text ≡ refused 2 1
      scan_high f g = scan_line ∙ rw (q, le-ltb n 2 f, lt-ltb 64 n g)

      pub scan_next : 2 ≤ n → n ≤ 64 → rest n ≡ scan text
      scan_next f g = sym (scan_line ∙ rw (q, le-ltb n 2 f, le-ltb 64 n g))
