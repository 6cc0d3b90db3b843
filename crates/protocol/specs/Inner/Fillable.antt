-- A table with the words of a trace, whose columns are to be filled.
use Rattle.std.specs.Prelude.{ℕ, ◌<◌, ◌≡◌, true, List, length, get_or}
use Rattle.trace.specs.Trace.{Trace}
use Rattle.trace.specs.Fit.{well_formed}
use Rattle.trace.specs.Table.{table_word}
use Rattle.columns.specs.Inner.Columns.{trace_words, full_words}

-- what stands after the trace's words is of no account
pub record Fillable (t : Trace) (full : List ℕ) : Type 0 where
  pub whole : length full ≡ full_words
  pub formed : well_formed t ≡ true
  pub words : (k : ℕ) → k < trace_words → get_or full k 0 ≡ table_word t k
