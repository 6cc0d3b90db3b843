-- What a search begins with, and what a new least phase opens: gates, and lists of kept messages. Definitions only.
use Rattle.std.specs.Prelude.{ℕ, ◌+◌, ◌<◌, ◌≤◌, ◌≡◌, true, false, List, length, get_or}
use Rattle.words.specs.Area.{area_words}
use Rattle.columns.specs.Inner.Full.{events_w, at_w, peer_w}
use Rattle.theory.specs.Line.{Run, in_set}
use Rattle.machine.specs.Inner.Related.{Started}
use Rattle.links.specs.Inner.Listed.{OnList, KeptListed}

-- what a search begins with: the words of a replay's beginning, and the lists of its kept messages
pub record Searchable (t l h g a : List ℕ) : Type 0 where
  pub area_long : length a ≡ area_words
  pub run : Run
  pub started : Started run t l g a
  pub listed : KeptListed run t l h

-- the gates of a set of processes are not below a phase, and that is not below the least one
pub record Shut (g : List ℕ) (low shut gate : ℕ) : Type 0 where
  pub least : (z : ℕ) → z < 64 → in_set shut z ≡ true → gate ≤ get_or g z 0
  pub below : low ≤ gate

-- the gates of a set of processes, but for those left to look at, by a least phase: some join those that may run, the
-- others stay shut, and a phase is known that theirs are not below
pub record GatesOpened (g : List ℕ) (low may shut left may' shut' gate' : ℕ) : Type 0 where
  pub runners : (z : ℕ) → z < 64 → in_set may' z ≡ false → in_set may z ≡ false
  pub closed : (z : ℕ) → z < 64 → in_set left z ≡ false → in_set shut z ≡ true → in_set may' z ≡ false → low ≤ get_or g z 0
  pub opened : (z : ℕ) → z < 64 → in_set left z ≡ false → in_set shut z ≡ true → in_set shut' z ≡ false → get_or g z 0 < low
  pub still : Shut g low shut' gate'

-- sets of receivers and of senders, and what they were
pub record Grown (rs : List ℕ) (senders : ℕ) (rs' : List ℕ) (senders' : ℕ) : Type 0 where
  pub ready : (p : ℕ) → p < 64 → (q : ℕ) → q < 64 → in_set (get_or rs' p 0) q ≡ false → in_set (get_or rs p 0) q ≡ false
  pub sends : (p : ℕ) → p < 64 → in_set senders' p ≡ false → in_set senders p ≡ false

-- the ends of the channel of event m are in their sets
abbrev pub Joined : List ℕ → List ℕ → ℕ → ℕ → Type 0
Joined t rs senders m = (in_set (get_or rs (at_w t m) 0) (peer_w t m) ≡ true) × (in_set senders (at_w t m) ≡ true)

-- and so are those of the events on the list from x on; on the lists of phases from one on and before another
pub record ListJoined (t l : List ℕ) (x : ℕ) (rs : List ℕ) (senders : ℕ) (rs' : List ℕ) (senders' : ℕ) : Type 0 where
  pub grown : Grown rs senders rs' senders'
  pub joined : (m : ℕ) → OnList l x m → Joined t rs' senders' m

pub record PhasesJoined (t l h : List ℕ) (from to : ℕ) (rs : List ℕ) (senders : ℕ) (rs' : List ℕ) (senders' : ℕ) : Type 0 where
  pub grown : Grown rs senders rs' senders'
  pub joined : (f : ℕ) → from ≤ f → f < to → f < events_w t + 2 → (m : ℕ) → OnList l (get_or h f 0) m → Joined t rs' senders' m
