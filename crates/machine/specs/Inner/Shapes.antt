-- Sizes and ranges of the words that the replay reads and writes, which index safety needs, and what its pointers point
-- at: the preconditions of the functions of a replay.
use Rattle.std.specs.Prelude.{ℕ, ◌+◌, ◌*◌, ◌≤◌, ◌<◌, ◌≡◌, List, length}
use Rattle.words.specs.Area.{area_words}
use Rattle.theory.specs.Line.{Run}
use Rattle.columns.specs.Inner.Columns.{full_words}
use Rattle.columns.specs.Inner.Full.{procs_w, events_w, kind_w, at_w, peer_w}
use Rattle.machine.specs.Inner.Words.{cur_w, put_w, Bounded, Small}
use Rattle.machine.specs.Inner.Tree.{Treed}
use Rattle.machine.specs.Inner.Related.{Started}

-- the full table has all its words: what a replay asks of its size stands only here
abbrev pub FullLong : List ℕ → Type 0
FullLong full = length full ≡ full_words

-- a run area whose pointers are events or 0
pub record Pointed (area : List ℕ) : Type 0 where
  pub area_long : length area ≡ area_words
  pub bounded : Bounded area

-- the words that tell what the pointers of an area point at
pub record Ranged (full area : List ℕ) : Type 0 where
  pub full_long : FullLong full
  pub pointed : Pointed area

-- what a test reads
pub record Readable (full gates area : List ℕ) : Type 0 where
  pub ranged : Ranged full area
  pub gates_long : 128 ≤ length gates

-- event m of the table sends from p to q
pub record SentOn (full : List ℕ) (p q m : ℕ) : Type 0 where
  pub within : m ≤ events_w full
  pub kind_is : kind_w full m ≡ 1
  pub from_is : at_w full m ≡ p
  pub to_is : peer_w full m ≡ q

-- what the pointers of an area point at: only a process of the table has a next event, and the next message to put into
-- a channel, if any, is sent on it
pub record Aimed (full area : List ℕ) : Type 0 where
  pub procs_few : procs_w full ≤ 64
  pub events_few : events_w full ≤ 2048
  pub no_event : (z : ℕ) → z < 64 → procs_w full ≤ z → cur_w area z ≡ 0
  pub put_sent : (p q : ℕ) → p < 64 → q < 64 → (put_w area (64 * p + q) ≡ 0 → ⊥) → SentOn full p q (put_w area (64 * p + q))

-- what a step reads and writes
pub record Movable (full links area : List ℕ) : Type 0 where
  pub ranged : Ranged full area
  pub aimed : Aimed full area
  pub links_long : 8197 ≤ length links
  pub small : Small links

-- what trying a step reads and writes
pub record Tryable (full links gates tree area : List ℕ) : Type 0 where
  pub movable : Movable full links area
  pub gates_long : 128 ≤ length gates
  pub treed : Treed full area tree

-- what a replay begins with: words that stand for the first state of some run
pub record Begun (full links gates area : List ℕ) : Type 0 where
  pub full_long : FullLong full
  pub area_long : length area ≡ area_words
  pub small : Small links
  pub run : Run
  pub started : Started run full links gates area
