-- Laws of counting: one for each way a turn of a loop goes, over the values that the code has.
use Rattle.std.specs.Int.{from_bool}
use Rattle.std.proofs.Common.{Bool, true, false, refl, ◌≡◌, ℕ, suc, ◌+◌, ◌-◌, ◌<◌, ◌≤◌, cond, eqb, List, get_or, set, add-one, arith, get_or-set_other, le-leb}
use borrow.Author.Tests.{lt-leb}
use Rattle.bruteforce.specs.Counts.{times_of, after_from, after_of, spare, first_word}

from_cond : (b : Bool) → from_bool b ≡ cond b 1 0
from_cond true = refl
from_cond false = refl

pub from_most : (b : Bool) → from_bool b ≤ 1
from_most true = omega arith
from_most false = omega arith

pub times_next : (events : List ℕ) (w i n r : ℕ) → n ≡ times_of events w i → r ≡ from_bool (eqb (get_or events i 0) w)
    → n + r ≡ times_of events w (i + 1)
unfolding times_of
times_next events w i n r e f = rw (add-one i, ← e, ← from_cond (eqb (get_or events i 0) w), ← f)

module _ (events : List ℕ) (w number i upto : ℕ) where
  pub after_here : (t : ℕ) → i < upto → t ≡ times_of events w i → number ≤ t → after_from events w number i (upto - i) ≡ i
  unfolding after_from
  after_here t h e k =
      let q : upto - i ≡ suc (upto - (i + 1)) = omega arith in
      rw (q, ← e, le-leb number t k)

  pub after_next : (t : ℕ) → i < upto → t ≡ times_of events w i → t < number
      → after_from events w number i (upto - i) ≡ after_from events w number (i + 1) (upto - (i + 1))
  unfolding after_from
  after_next t h e k =
      let q : upto - i ≡ suc (upto - (i + 1)) = omega arith in
      rw (q, ← e, lt-leb number t k)

  pub after_end : upto ≤ i → after_from events w number i (upto - i) ≡ i
  unfolding after_from
  after_end h = let q : upto - i ≡ 0 = omega arith in rw q

  pub after_start : after_from events w number 0 (upto - 0) ≡ after_of events w number upto
  unfolding after_of
  after_start = let q : upto - 0 ≡ upto = omega arith in rw q

-- a store elsewhere leaves a place as it was
pub spare_kept : (l : List ℕ) (i v : ℕ) → i < 3 → spare (set l i v) ≡ spare l
unfolding spare
spare_kept l i v n = get_or-set_other l i 3 v 0 (λ e. omega arith)

pub first_kept : (l : List ℕ) (i v : ℕ) → 0 < i → first_word (set l i v) ≡ first_word l
unfolding first_word
first_kept l i v n = get_or-set_other l i 0 v 0 (λ e. omega arith)
