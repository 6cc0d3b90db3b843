-- What `greatest` has done, put together: its line is the greatest one, and the epochs and phases are those of the
-- theory.
use mathlib.Core.Path.{◌≡◌, ◌∙◌}
use mathlib.Core.Bool.{cond}
use mathlib.Core.List.{List}
use Prim.Native.Nat.{ℕ, ◌≤◌, ◌<◌}
use lib.ListN.{length, get_or}
use lib.Dec.{ltb}
use Rattle.words.specs.Area.{words_from}
use Rattle.trace.specs.Trace.{Trace}
use Rattle.theory.specs.Events.{size}
use Rattle.theory.specs.Epochs.{Rule, rule_of}
use Rattle.theory.specs.Line.{in_set, current, Greatest, usable_at}
use Rattle.theory.proofs.Lines.{number_of}
use Rattle.theory.proofs.Claims.{finished_usable}
use Rattle.columns.specs.Inner.Columns.{epoch_base}
use Rattle.columns.specs.Inner.Full.{procs_w}
use Rattle.columns.proofs.Full.{fit, procs_is}
use Rattle.recovery_line.specs.declared.Line.{Line}
use Rattle.recovery_line.specs.Given.{each, line_in, line_to, restart_phase_in}
use Rattle.recovery_line.proofs.Lines.{line_at}
use Rattle.positions.specs.Inner.Positions.{FinishedEpochs, Linked, Before, after_w, restart_phase}
use Rattle.positions.proofs.Newest.{epochs_made, phases_made}
use Rattle.lowering.specs.Inner.Lowering.{Lowered}
use Rattle.columns.specs.Inner.Given.{Marked}
use Rattle.greatest.specs.Inner.Line.{line_by}
use Rattle.greatest.proofs.Lowering.{greatest_made, greatest_means}

-- What `greatest` has done: events linked, d the epochs at the cut, f the latest finished ones, m the first line, r the
-- line lowered, with the newest events before its restarts left, and p the phases there.
pub record Done (full : List ℕ) (cut set count : ℕ) (earlier latest d f m r left p : List ℕ) : Type 0 where
  pub counted : count ≡ procs_w full
  pub linked : Linked full cut earlier latest
  pub epochs_long : length d ≡ 64
  pub epochs : (z : ℕ) → z < 64 → get_or d z 0 ≡ cond (ltb z count) (after_w full epoch_base (get_or latest z 0)) 0
  pub first_long : length m ≡ 64
  pub finished : FinishedEpochs full cut f
  pub first : (z : ℕ) → z < count → get_or m z 0 ≡ cond (in_set set z) (get_or f z 0) 32
  pub others : (z : ℕ) → count ≤ z → get_or m z 0 ≡ 0
  pub lowered : Lowered full f cut m r
  pub before : Before full cut r left
  pub phases_long : length p ≡ 64
  pub phases : (z : ℕ) → z < 64 → get_or p z 0 ≡ cond (ltb z count) (restart_phase full (get_or r z 0) (get_or left z 0)) 0

module _ (t : Trace) (rule : Rule) {full : List ℕ} {cut set count : ℕ} {earlier latest d f m r left p : List ℕ} (M : Marked t rule full) (cl : cut ≤ size t)
    (D : Done full cut set count earlier latest d f m r left p) where
  abbrev made : Line
  made = record { epochs = r; count = count }

  pub epochs_done : d ≡ words_from (each t (current t (rule_of t) cut)) 0 64
  epochs_done = epochs_made t full M.tabled cut cl count D.counted earlier latest d D.linked D.epochs_long D.epochs

  pub line_done : made ≡ line_to t (line_by t rule cut set)
  line_done = greatest_made t rule full cut set count f m r M cl D.counted D.finished D.first_long D.first D.others D.lowered

  pub means_done : Greatest t rule cut (usable_at t cut) (in_set set) (line_in made)
  means_done = greatest_means t rule full cut set count f m r M cl D.counted D.finished D.first_long D.first D.others D.lowered

  pub phases_done : p ≡ words_from (each t (restart_phase_in t cut (line_in made))) 0 64
  phases_done =
      phases_made t full M.tabled cut cl count D.counted r left p (line_in made) (line_at made t.procs (D.counted ∙ procs_is t full M.tabled))
      (number_of t (rule_of t) (fit t full M.tabled) cut cl (usable_at t cut) (finished_usable t M.tabled.formed (rule_of t) cut cl) (in_set set)
      (line_in made) means_done.permitted) D.before D.phases_long D.phases
