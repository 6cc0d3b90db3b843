-- What brute force is for, and how it counts.
use Rattle.std.specs.Prelude.{ℕ, zero, suc, ◌+◌, ◌≤◌, cond, List, ◌==◌, nat_le, slice_index}
use Rattle.bruteforce.specs.declared.events.Failure.{Failure}

-- at most three processes and seven events: what the arrays have room for
pub record SmallRun (f : Failure) : Type 0 where
  pub count : f.count ≤ 3
  pub size : f.size ≤ 7
  pub cut : f.cut ≤ 7

-- how many of the first events are this one
unfoldable pub times_of : List ℕ → ℕ → ℕ → ℕ
times_of events w zero = 0
times_of events w (suc i) = times_of events w i + cond (slice_index events i == w) 1 0

-- right after which event this one has come so many times, of the events after the i-th, of which there are `left`
unfoldable pub after_from : List ℕ → ℕ → ℕ → ℕ → ℕ → ℕ
after_from events w number i zero = i
after_from events w number i (suc left) =
    cond (nat_le number (times_of events w i)) i (after_from events w number (i + 1) left)

unfoldable pub after_of : List ℕ → ℕ → ℕ → ℕ → ℕ
after_of events w number upto = after_from events w number 0 upto

-- place 3 of a line, which no process has, and the first word of an area
unfoldable pub spare : List ℕ → ℕ
spare l = slice_index l 3

unfoldable pub first_word : List ℕ → ℕ
first_word l = slice_index l 0
