-- What holds before each of the lowest choices, and what one of them leaves. No public contract cites these.
use Rattle.std.specs.Prelude.{ℕ, suc, ◌+◌, ◌-◌, ◌^◌, ◌<◌, ◌≤◌, ◌≡◌, List, length, get_or}
use Rattle.theory.specs.Line.{Run}
use Rattle.theory.specs.Replay.{State, start}
use Rattle.theory.specs.Order.{carry, run, lowest_from}
use Rattle.theory.specs.Inner.Flow.{Inv}
use Rattle.sets.specs.Inner.Sets.{Outside}
use Rattle.machine.specs.Inner.Words.{low_w, no_phase}
use Rattle.machine.specs.Inner.Related.{Rel, Started}
use Rattle.machine.specs.Inner.Tree.{Treed}
use Rattle.search.specs.Inner.Lowest.{Idle, Unready, Waiting, LowestDone}
use Rattle.search.specs.Inner.Opened.{Searchable, Shut}

-- the order of the lowest choices, i of them done
module _ (R : Run) (most : ℕ) where
  pub record Going (a : List ℕ) (i : ℕ) : Type 0 where
    pub state : State
    pub rel : Rel R a state
    pub inv : Inv R state
    pub rest : carry R state (suc i) (lowest_from R (most - i) state) ≡ run R (lowest_from R most (start R))
    pub steps : i + length (lowest_from R (most - i) state) ≡ length (lowest_from R most (start R))

module _ (t l h g a₀ : List ℕ) (most : ℕ) where
  -- what holds before each choice, i of them done: no process outside of one set may run, no kept message outside of
  -- others is ready, and gates outside of a set are open, those of its members not
  pub record Looking (a tree rs : List ℕ) (may senders shut gate i : ℕ) : Type 0 where
    pub same_long : length a ≡ length a₀
    pub treed : Treed t a tree
    pub low_most : low_w a ≤ no_phase
    pub may_lt : may < 2 ^ 64
    pub idle : Idle t g a may
    pub passed : Outside (λ z. get_or g z 0 < low_w a) shut
    pub closed : Shut g (low_w a) shut gate
    pub ready_long : length rs ≡ 64
    pub unready : Unready t g a (low_w a) rs
    pub waiting : Waiting t g a (low_w a) senders
    pub going : (R : Run) (S : Started R t l g a₀) → Going R most a i

module _ (t l h g a tree rs : List ℕ) (may senders shut gate : ℕ) where
  -- some choices are done, fewer than there may be
  pub record Goes : Type 0 where
    pub begun : List ℕ
    pub most : ℕ
    pub done : ℕ
    pub less : done < most
    pub searchable : Searchable t l h g begun
    pub looking : Looking t l h g begun most a tree rs may senders shut gate done

  -- there is no other: whatever is done is the whole order
  abbrev pub SearchEnds : List ℕ → Type 0
  SearchEnds b =
      (a₀ : List ℕ) (most i : ℕ) → Looking t l h g a₀ most a tree rs may senders shut gate i → (R : Run) → Started R t l g a₀ → LowestDone R b most i

  -- one more is done
  abbrev pub GoesOn : (b tree' rs' : List ℕ) (may' senders' shut' gate' : ℕ) → Type 0
  GoesOn b tree' rs' may' senders' shut' gate' =
      (a₀ : List ℕ) (most i : ℕ) → i < most → Searchable t l h g a₀ → Looking t l h g a₀ most a tree rs may senders shut gate i
      → Looking t l h g a₀ most b tree' rs' may' senders' shut' gate' (i + 1)
