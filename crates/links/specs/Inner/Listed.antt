-- The kept messages of a run by phase: a list for each phase, by its head and the links of the events on it.
-- Definitions only.
use Rattle.std.specs.Prelude.{◌≡◌, true, List, ℕ, ◌+◌, ◌*◌, ◌≤◌, ◌<◌, length, get_or}
use Rattle.theory.specs.Events.{size}
use Rattle.theory.specs.Line.{Run}
use Rattle.columns.specs.Inner.Full.{events_w, at_w, peer_w, phase_w}
use Rattle.machine.specs.Inner.Words.{Small}
use Rattle.machine.specs.Inner.Related.{goes}
use Rattle.machine.specs.Inner.Shapes.{FullLong}
use Rattle.links.specs.Inner.Linking.{head_words}

-- event m is on the list that begins with event x
pub data OnList (l : List ℕ) : ℕ → ℕ → Type 0 where
  here : (m : ℕ) → 0 < m → OnList l m m
  later : (x m : ℕ) → 0 < x → OnList l (get_or l (4 * x + 3) 0) m → OnList l x m

-- lists are of growing events
unfoldable pub ListsRising : List ℕ → Type 0
ListsRising l = (e : ℕ) → 0 < get_or l (4 * e + 3) 0 → e < get_or l (4 * e + 3) 0

-- the lists can be walked
pub record ListsWalkable (t l h : List ℕ) : Type 0 where
  pub full_long : FullLong t
  pub few : events_w t < 2049
  pub links_long : 8197 ≤ length l
  pub links_small : Small l
  pub heads_long : length h ≡ head_words
  pub heads_small : Small h
  pub rising : ListsRising l

-- and every kept message is on the list of its phase
pub record KeptListed (R : Run) (t l h : List ℕ) : Type 0 where
  pub walkable : ListsWalkable t l h
  pub phases : (m : ℕ) → 0 < m → m ≤ size R.trace → phase_w t m < events_w t + 2
  pub kept : (p q m : ℕ) → 0 < m → m ≤ size R.trace → goes R p q m ≡ true → m ≤ R.restart p
      → (at_w t m ≡ p) × (peer_w t m ≡ q) × OnList l (get_or h (phase_w t m) 0) m
