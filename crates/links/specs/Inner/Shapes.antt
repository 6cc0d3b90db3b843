-- Sizes and ranges of the words that the pass over the events reads and writes, which index safety needs: the
-- preconditions of its functions.
use Rattle.std.specs.Prelude.{ℕ, ◌≤◌, ◌<◌, ◌≡◌, List, length, get_or}
use Rattle.columns.specs.Inner.Full.{events_w, kind_w, match_w, phase_w}
use Rattle.machine.specs.Inner.Words.{current_base, low_place}
use Rattle.machine.specs.Inner.Shapes.{FullLong, Pointed}
use Rattle.links.specs.Inner.Linking.{head_words}

-- the event that a send's or a receive's message is matched with is one of the trace, or 0
abbrev pub Paired : List ℕ → ℕ → Type 0
Paired full e = (kind_w full e ≡ 1 → match_w full e < 2049) × (kind_w full e ≡ 2 → match_w full e < 2049)

unfoldable pub PairedTo : List ℕ → ℕ → Type 0
PairedTo full n = (e : ℕ) → 0 < e → e ≤ n → Paired full e

-- the phase of each event has a place in the heads
unfoldable pub PhasedTo : List ℕ → ℕ → Type 0
PhasedTo full n = (e : ℕ) → 0 < e → e ≤ n → phase_w full e < head_words

-- the words that tell an event, and what becomes of the message that it sends
pub record SendReadable (full gates : List ℕ) (e : ℕ) : Type 0 where
  pub event_lt : e < 2049
  pub full_long : FullLong full
  pub gates_long : 128 ≤ length gates
  pub paired : Paired full e

-- a link has its place, and so has the pointer that it becomes
pub record SlotLinkable (links area : List ℕ) (slot k : ℕ) : Type 0 where
  pub slot_lt : slot < length links
  pub pointer_le : current_base ≤ k
  pub pointer_lt : k < low_place
  pub pointed : Pointed area

-- a process, a channel and an event have theirs
pub record Placed (z c e : ℕ) : Type 0 where
  pub process_lt : z < 64
  pub channel_lt : c < 4096
  pub event_lt : e < 2049

-- the link and the head of a kept message have their places
pub record KeptListable (full links heads : List ℕ) (e : ℕ) : Type 0 where
  pub event_lt : e < 2049
  pub full_long : FullLong full
  pub links_long : 8197 ≤ length links
  pub heads_long : length heads ≡ head_words
  pub phase_lt : phase_w full e < head_words

-- event e can be linked; all n events can; those of the table, and their processes are few
pub record EventLinkable (full gates links area : List ℕ) (e : ℕ) : Type 0 where
  pub readable : SendReadable full gates e
  pub links_long : 8197 ≤ length links
  pub pointed : Pointed area

pub record AllLinkable (full gates links area : List ℕ) (n : ℕ) : Type 0 where
  pub count_lt : n < 2049
  pub full_long : FullLong full
  pub gates_long : 128 ≤ length gates
  pub links_long : 8197 ≤ length links
  pub paired : PairedTo full n
  pub phased : PhasedTo full n
  pub pointed : Pointed area

pub record Linkable (full gates links area : List ℕ) : Type 0 where
  pub events : AllLinkable full gates links area (events_w full)
  pub procs_few : get_or full 0 0 ≤ 64
