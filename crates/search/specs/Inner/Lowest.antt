-- The search for the lowest allowed choice by words, and what carrying out the lowest choices leaves. No public
-- contract cites these.
use Rattle.std.specs.Prelude.{ℕ, ◌/◌, ◌%◌, ◌<◌, ◌+◌, ◌*◌, ◌≤◌, ◌≡◌, true, false, List, length, get_or}
use Rattle.sets.specs.Inner.Sets.{first_in, Outside}
use Rattle.theory.specs.Line.{Run, in_set}
use Rattle.theory.specs.Replay.{State, start}
use Rattle.theory.specs.Order.{carried_out, run, lowest_from}
use Rattle.theory.specs.Inner.Flow.{Inv}
use Rattle.machine.specs.Inner.Words.{low_w, process_ok, hand_ok, process_w, allowed_w, wakes, kept_phase}
use Rattle.machine.specs.Inner.Related.{Rel}

-- the choices are the numbers before this
abbrev pub no_choice : ℕ
no_choice = 4160

module _ (t g a : List ℕ) where
  -- no process outside of the set may run
  unfoldable pub Idle : ℕ → Type 0
  Idle m = Outside (λ z. process_ok t g a z ≡ false) m

  -- of each sender a set of receivers: for those outside, the oldest kept message is of no phase below n
  unfoldable pub Unready : ℕ → List ℕ → Type 0
  Unready n rs = (p : ℕ) → p < 64 → Outside (λ q. n ≤ kept_phase t g a p (64 * p + q)) (get_or rs p 0)

  -- so it is for every receiver, of a sender outside of the set
  unfoldable pub Waiting : ℕ → ℕ → Type 0
  Waiting n m = Outside (λ p. (q : ℕ) → q < 64 → n ≤ kept_phase t g a p (64 * p + q)) m

  -- no kept message of a channel before c may be handed over
  unfoldable pub NoneTo : ℕ → Type 0
  NoneTo c = (d : ℕ) → d < c → hand_ok t g a (d / 64) d ≡ false

  -- no choice before c is allowed
  unfoldable pub NoneBefore : ℕ → Type 0
  NoneBefore c = (d : ℕ) → d < c → allowed_w t g a d ≡ false

  -- a channel whose oldest kept message may be handed over, and whose ends are in their sets
  pub record ToHand (rs : List ℕ) (senders c : ℕ) : Type 0 where
    pub channel : c < 4096
    pub ready : hand_ok t g a (c / 64) c ≡ true
    pub sender : in_set senders (c / 64) ≡ true
    pub receiver : in_set (get_or rs (c / 64) 0) (c % 64) ≡ true

  -- the first receiver to whom p may hand over its oldest kept message; it is in its sender's set
  pub record Receiver (rs : List ℕ) (p q : ℕ) : Type 0 where
    pub within : q < 64
    pub before : (r : ℕ) → r < q → low_w a ≤ kept_phase t g a p (64 * p + r)
    pub ready : hand_ok t g a p (64 * p + q) ≡ true
    pub member : in_set (get_or rs p 0) q ≡ true

  -- the first process of the set that may run did its next event: the set from it on, with whom that may let run
  pub record Ran (l b : List ℕ) (may may' : ℕ) : Type 0 where
    pub from : ℕ
    pub some : 0 < from
    pub part : from ≤ may
    pub idle : Idle from
    pub ok : process_ok t g a (first_in from) ≡ true
    pub words : b ≡ process_w t l a (first_in from)
    pub runners : (y : ℕ) → y < 64 → in_set may' y ≡ false → (in_set from y ≡ false) × (y ≡ wakes t a (first_in from) → ⊥)

-- the order of the lowest choices, at most so many, is carried out in n steps, and the area stands for the state that
-- it comes to
pub record LowestDone (R : Run) (a : List ℕ) (most n : ℕ) : Type 0 where
  pub state : State
  pub rel : Rel R a state
  pub inv : Inv R state
  pub carried : run R (lowest_from R most (start R)) ≡ carried_out state
  pub steps : n ≡ length (lowest_from R most (start R))
