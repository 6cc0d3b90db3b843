-- What `recover` makes of a full table. No public contract cites these.
use Rattle.std.specs.Prelude.{ℕ, ◌+◌, ◌≤◌, ◌<◌, ◌≡◌, List, length, get_or}
use Rattle.words.specs.Area.{area_words, words_from}
use Rattle.trace.specs.Trace.{Trace}
use Rattle.theory.specs.Line.{Run, run_at}
use Rattle.theory.specs.Order.{run, lowest_order}
use Rattle.columns.specs.Inner.Columns.{trace_words}
use Rattle.listing.specs.Listing.{list_word}
use Rattle.recovery_line.specs.Given.{line_in}
use Rattle.orders.specs.Answer.{answer_of}
use Rattle.recovery.specs.Recover.{RecoverAnswer}
use Rattle.messages.specs.Messages.{counts_of}
use Rattle.restart.specs.Restart.{restart_of, Restarts}

-- an area that holds a trace and no more: its words after those of a trace are 0
abbrev pub TraceOnly : List ℕ → Type 0
TraceOnly area = (length area ≡ area_words) × ((k : ℕ) → trace_words ≤ k → k < area_words → get_or area k 0 ≡ 0)

-- the run of a trace with the line that was found
abbrev pub found_run : Trace → ℕ → RecoverAnswer → Run
found_run t cut r = run_at t cut (line_in r.restarted.line)

-- the answers from a full table, and the words left in the run area
pub record Recovering (t : Trace) (cut set : ℕ) (r : RecoverAnswer) (w : List ℕ) : Type 0 where
  pub restarted : r.restarted ≡ restart_of t cut set
  pub restarts : Restarts t cut set r.restarted
  pub replayed : let R = found_run t cut r in r.replayed ≡ answer_of R (run R (lowest_order R)) (length (lowest_order R))
  pub counted : r.counted ≡ counts_of (found_run t cut r)
  pub words : w ≡ words_from (list_word (found_run t cut r)) 0 area_words
  pub few : r.counted.orphans + (r.counted.kept + r.counted.lost) ≤ 2048
