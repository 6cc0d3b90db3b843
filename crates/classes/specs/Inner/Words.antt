-- The class of a message by the words of the full table.
use Rattle.std.specs.Prelude.{ℕ, ◌+◌, ◌≤◌, ◌≡◌, Bool, ◌&&◌, cond, List, leb, ltb, eqb, length, get_or}
use Rattle.columns.specs.Inner.Columns.{full_words}
use Rattle.columns.specs.Inner.Full.{at_w, peer_w, match_w, logged_w}
use Rattle.classes.specs.declared.Class.{Class}
use Rattle.classes.specs.declared.Class.TheVariants as class

-- the number of a class, which a row of the list holds (docs/LAYOUT.md)
abbrev pub number_of_class : Class → ℕ
number_of_class class.None = 0
number_of_class class.Orphan = 1
number_of_class class.Kept = 2
number_of_class class.Lost = 3
number_of_class class.Upcoming = 4

-- is there a receive, and is it no later than an event
abbrev pub done_by : ℕ → ℕ → Bool
done_by m x = ltb 0 m && leb m x

-- the class of send e, whose receive is m (0: none), with the restarts of its sender and its receiver, the cut, and the
-- flag of its receive
unfoldable pub class_by : ℕ → ℕ → ℕ → ℕ → ℕ → ℕ → ℕ
class_by e m sender receiver cut logged =
    cond (leb e sender)
    (cond (done_by m receiver) 0 (cond (done_by m cut) (cond (eqb logged 1) 2 3) 2))
    (cond (done_by m receiver) 1 4)

unfoldable pub class_w : List ℕ → List ℕ → ℕ → ℕ → ℕ
class_w full gates cut e =
    class_by e (match_w full e) (get_or gates (64 + at_w full e) 0) (get_or gates (64 + peer_w full e) 0) cut (logged_w full (match_w full e))

-- the words that the class of event e is read from are there
pub record ClassReadable (full gates : List ℕ) (e : ℕ) : Type 0 where
  pub full_long : length full ≡ full_words
  pub gates_long : 128 ≤ length gates
  pub event_most : e ≤ 2048
  pub match_most : match_w full e ≤ 2048
