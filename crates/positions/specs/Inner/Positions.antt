-- The newest events of the processes, linked, and what is read at them; the latest finished epochs, counted.
use Rattle.std.specs.Prelude.{ℕ, ◌+◌, ◌-◌, ◌<◌, ◌≤◌, ◌≡◌, ◌||◌, cond, List, length, get_or, eqb}
use Rattle.trace.specs.Trace.{Trace}
use Rattle.theory.specs.Events.{size}
use Rattle.theory.specs.Epochs.{finished_at}
use Rattle.columns.specs.Inner.Columns.{phase_base, full_words, Tabled}
use Rattle.columns.specs.Inner.Full.{at_w, epoch_w, phase_w}
use Rattle.recovery_line.specs.Inner.Words.{Sized}

-- e is the newest event of process z up to event x, or 0 where there is none
pub record Newest (t : List ℕ) (z x e : ℕ) : Type 0 where
  pub within : e ≤ x
  pub own : 0 < e → at_w t e ≡ z
  pub others : (y : ℕ) → e < y → y ≤ x → at_w t y ≡ z → ⊥

-- what `finished_at` is given: the full table of a trace, a cut of it, and 1 for each process
pub record Uncounted (t : Trace) (full : List ℕ) (cut : ℕ) (finished : List ℕ) : Type 0 where
  pub tabled : Tabled t full
  pub within : cut ≤ size t
  pub wide : length finished ≡ 64
  pub ones : (z : ℕ) → z < 64 → get_or finished z 0 ≡ 1

-- the latest finished epoch of each process after event x
pub record FinishedEpochs (full : List ℕ) (x : ℕ) (finished : List ℕ) : Type 0 where
  pub counts : (t : Trace) → Tabled t full → x ≤ size t → (z : ℕ) → z < 64 → get_or finished z 0 ≡ finished_at t z x

-- what `link` is given: room for the links, and no event linked yet
pub record Unlinked (t : List ℕ) (cut : ℕ) (earlier latest : List ℕ) : Type 0 where
  pub sized : Sized t cut
  pub long : length earlier ≡ 2049
  pub wide : length latest ≡ 64
  pub none : (z : ℕ) → get_or latest z 0 ≡ 0

-- the events of each process up to event x, linked from the newest back
pub record Linked (t : List ℕ) (x : ℕ) (earlier latest : List ℕ) : Type 0 where
  pub long : length earlier ≡ 2049
  pub wide : length latest ≡ 64
  pub before : (e : ℕ) → 0 < e → e ≤ x → Newest t (at_w t e) (e - 1) (get_or earlier e 0)
  pub last : (z : ℕ) → z < 64 → Newest t z x (get_or latest z 0)

-- a table, 64 words of a line or the like, and newest events, in their ranges
pub record NewestRanged (t m latest : List ℕ) : Type 0 where
  pub whole : length t ≡ full_words
  pub long : length m ≡ 64
  pub wide : length latest ≡ 64
  pub few : (z : ℕ) → z < 64 → get_or latest z 0 ≤ 2048

-- the phases after newest events leave room for one more
abbrev pub PhasesFew : List ℕ → List ℕ → Type 0
PhasesFew t latest = (z : ℕ) → z < 64 → 0 < get_or latest z 0 → phase_w t (get_or latest z 0) < 65536

-- of each process the newest event before its restart, 0 where there is none: its epoch is below the line's number, and
-- all later events up to the cut are undone
pub record Before (t : List ℕ) (cut : ℕ) (m latest : List ℕ) : Type 0 where
  pub within : (z : ℕ) → z < 64 → get_or latest z 0 ≤ cut
  pub own : (z : ℕ) → z < 64 → 0 < get_or latest z 0 → at_w t (get_or latest z 0) ≡ z
  pub done : (z : ℕ) → z < 64 → 0 < get_or latest z 0 → epoch_w t (get_or latest z 0) < get_or m z 0
  pub undone : (e : ℕ) → 0 < e → e ≤ cut → get_or latest (at_w t e) 0 < e → get_or m (at_w t e) 0 ≤ epoch_w t e

-- of a process whose newest event is e, 0 where it has none: its epoch or its phase, by the column's base
abbrev pub after_w : List ℕ → ℕ → ℕ → ℕ
after_w t base e = cond (eqb e 0) 1 (get_or t (base + e) 0)

-- its phase at the restart, where e is the newest event before that: a checkpoint that it goes back to raised it by one
abbrev pub restart_phase : List ℕ → ℕ → ℕ → ℕ
restart_phase t number e = after_w t phase_base e + cond (eqb number 32 || eqb number 1) 0 1

-- the event that it restarts after, where f is the first event after that newest one: the cut if it stays, 0 for the
-- start, else the checkpoint
abbrev pub restart_event : ℕ → ℕ → ℕ → ℕ
restart_event number cut f = cond (eqb number 32) cut (cond (eqb number 1) 0 f)

-- what `go_back` is given: linked events, and the newest of a process
pub record Walkable (t earlier : List ℕ) (newest : ℕ) : Type 0 where
  pub cut : ℕ
  pub process : ℕ
  pub latest : List ℕ
  pub sized : Sized t cut
  pub linked : Linked t cut earlier latest
  pub here : Newest t process cut newest

-- of process z, which restarts in epoch `number`: e is its newest event before that, all later ones up to the cut are
-- undone, and f is the first of these; 0 where there is none
pub record Walked (t : List ℕ) (cut z number e f : ℕ) : Type 0 where
  pub within : e ≤ cut
  pub own : 0 < e → at_w t e ≡ z
  pub done : 0 < e → epoch_w t e < number
  pub undone : (y : ℕ) → e < y → y ≤ cut → at_w t y ≡ z → number ≤ epoch_w t y
  pub first_own : 0 < f → (e < f) × (f ≤ cut) × (at_w t f ≡ z)
  pub first : (y : ℕ) → e < y → y ≤ cut → at_w t y ≡ z → (0 < f) × (f ≤ y)
