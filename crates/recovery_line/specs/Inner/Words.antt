-- The words of the full table that are read for a line.
use Rattle.std.specs.Prelude.{ℕ, ◌<◌, ◌≤◌, ◌≡◌, List, length}
use Rattle.columns.specs.Inner.Columns.{full_words}
use Rattle.columns.specs.Inner.Full.{procs_w, kind_w, match_w}

-- the words that are read are in their range, so that no index is past its end
pub record Sized (full : List ℕ) (cut : ℕ) : Type 0 where
  pub whole : length full ≡ full_words
  pub procs_few : procs_w full ≤ 64
  pub cut_few : cut ≤ 2048
  pub matched : (e : ℕ) → 0 < e → e ≤ cut → kind_w full e ≡ 2 → match_w full e ≤ 2048
