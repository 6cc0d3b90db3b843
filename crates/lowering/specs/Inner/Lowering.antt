-- A line in words, lowered at one event after another.
use Rattle.std.specs.Prelude.{ℕ, min, ◌<◌, ◌≤◌, ◌≡◌, Bool, false, ◌&&◌, not, cond, List, length, get_or, set, leb, ltb, eqb}
use Rattle.sets.specs.Inner.Sets.{with_in}
use Rattle.columns.specs.Inner.Columns.{full_words}
use Rattle.columns.specs.Inner.Full.{at_w, peer_w, kind_w, epoch_w, match_w, logged_w}

-- Does the line lose a message from p to q, sent by event d and received by event e: q restarts in no later epoch than
-- the receive's, p in a later one than the send's, and the message is not logged.
unfoldable pub lost_e : List ℕ → List ℕ → ℕ → ℕ → ℕ → ℕ → Bool
lost_e t m p q d e = leb (get_or m q 0) (epoch_w t e) && (ltb (epoch_w t d) (get_or m p 0) && not (eqb (logged_w t e) 1))

-- does event e receive a message that the line loses
unfoldable pub lost_w : List ℕ → List ℕ → ℕ → Bool
lost_w t m e = cond (eqb (kind_w t e) 2) (lost_e t m (peer_w t e) (at_w t e) (match_w t e) e) false

-- then its sender is lowered to the epoch of the send, or to its latest finished epoch f where that is smaller
unfoldable pub lower_at : List ℕ → List ℕ → List ℕ → ℕ → List ℕ
lower_at t f m e = cond (lost_w t m e) (set m (peer_w t e) (min (epoch_w t (match_w t e)) (get_or f (peer_w t e) 0))) m

-- the words that are read for that are in their range
pub record Lowerable (t f m : List ℕ) (e : ℕ) : Type 0 where
  pub whole : length t ≡ full_words
  pub finished : length f ≡ 64
  pub long : length m ≡ 64
  pub few : e ≤ 2048
  pub matched : kind_w t e ≡ 2 → match_w t e ≤ 2048

-- what a look at the newest event of process z reads
pub record Lookable (t f earlier m latest : List ℕ) (z : ℕ) : Type 0 where
  pub long : length earlier ≡ 2049
  pub wide : length latest ≡ 64
  pub process : z < 64
  pub fits : Lowerable t f m (get_or latest z 0)

-- the lines that lowering a line at events up to the cut leads to
pub data Lowers (t f : List ℕ) (cut : ℕ) (m : List ℕ) : List ℕ → Type 0 where
  same : Lowers t f cut m m
  more : {r : List ℕ} (e : ℕ) → 0 < e → e ≤ cut → Lowers t f cut m r → Lowers t f cut m (lower_at t f r e)

-- in the order of events the epochs of a process do not fall
abbrev pub Rising : List ℕ → ℕ → Type 0
Rising t cut = (x y : ℕ) → 0 < x → x ≤ y → y ≤ cut → at_w t x ≡ at_w t y → epoch_w t x ≤ epoch_w t y

-- lowered until no event up to the cut receives a lost message
pub record Lowered (t f : List ℕ) (cut : ℕ) (m r : List ℕ) : Type 0 where
  pub steps : Lowers t f cut m r
  pub none_lost : Rising t cut → (e : ℕ) → 0 < e → e ≤ cut → lost_w t r e ≡ false

-- does the line undo the newest event of process z that was not looked at yet
abbrev pub undone_w : List ℕ → List ℕ → List ℕ → ℕ → Bool
undone_w t m latest z = ltb 0 (get_or latest z 0) && leb (get_or m z 0) (epoch_w t (get_or latest z 0))

-- the processes that may have an undone event not looked at, after event e was: its sender, where that was lowered, may
-- have one more
abbrev pub joined_by : List ℕ → List ℕ → ℕ → ℕ → ℕ
joined_by t m e pending = cond (lost_w t m e) (with_in pending (peer_w t e)) pending
