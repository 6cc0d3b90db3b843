-- The tree that tells the least phase of an orphan not sent again: word 64 + z is the leaf of process z, the phase of
-- its next orphan; word i, from 1 to 63, is the lesser of words 2 i and 2 i + 1. So word 1 is the least (`tree_low` of
-- proofs/Tree). Definitions only.
use Rattle.std.specs.Prelude.{ℕ, ◌+◌, ◌*◌, ◌<◌, ◌≡◌, cond, List, length, get_or, ltb}
use Rattle.columns.specs.Inner.Full.{procs_w}
use Rattle.machine.specs.Inner.Words.{no_phase, orp_w, lesser, least_with}

-- every word from 1 to 63, except perhaps word x, is the lesser of the two below it
unfoldable pub Nodes : List ℕ → ℕ → Type 0
Nodes tree x = (i : ℕ) → 0 < i → i < 64 → (i ≡ x → ⊥) → get_or tree i 0 ≡ lesser (get_or tree (2 * i) 0) (get_or tree (2 * i + 1) 0)

-- there is no word 0 to except
pub record Tree (tree : List ℕ) : Type 0 where
  pub long : length tree ≡ 128
  pub nodes : Nodes tree 0

-- the leaves of the n first processes are the phases of their next orphans, no_phase where they have none; every other
-- leaf is no_phase
unfoldable pub LeavesHold : List ℕ → List ℕ → List ℕ → ℕ → Type 0
LeavesHold full area tree n = (z : ℕ) → z < 64 → get_or tree (64 + z) 0 ≡ cond (ltb z n) (least_with full (orp_w area z) no_phase) no_phase

-- the tree of a table and a run area
pub record Treed (full area words : List ℕ) : Type 0 where
  pub tree : Tree words
  pub leaves : LeavesHold full area words (procs_w full)

-- a tree that was `before`, with v as the leaf of process z
pub record Leafed (before after : List ℕ) (z v : ℕ) : Type 0 where
  pub tree : Tree after
  pub leaf : get_or after (64 + z) 0 ≡ v
  pub others : (y : ℕ) → y < 64 → (y ≡ z → ⊥) → get_or after (64 + y) 0 ≡ get_or before (64 + y) 0
