-- Sets of processes as numbers of 64 bits: their first member, the set without it, the set with one more, and what
-- holds outside of them.
use mathlib.Core.Path.{◌≡◌, refl, sym, ◌∙◌, ap}
use mathlib.Core.Bool.{true, false, ◌&&◌, ◌||◌, not, and-true, and-false, or-true, or-false}
use Prim.Native.Nat.{ℕ, zero, suc, ◌-◌, ◌/◌, ◌%◌, ◌^◌, min, max, ◌≤◌, ◌<◌}
use native.Mathlib.Omega.{arith}
use native.Mathlib.Nat.{pow-zero, pow-suc, div-one, div_self, zero-div}
use native.Mathlib.Numerals.{one-add}
use lib.Bits.{bit_and, bit_or, and_step, or_step, and_zero_l, and_le_r, or_lt, or_shr, and_shr}
use lib.Count.{count_trailing_zeros, trailing_le, trailing_of_zero}
use lib.Dec.{eqb}
use lib.Pow.{shr-shr, pow_pos, pow-lt}
use borrow.Author.Tests.{eq-eqb, ne_eqb}
use Rattle.words.proofs.Cases.{by_eq, clash}
use Rattle.words.proofs.Zeros.{even_zeros, odd_zeros}
use Rattle.theory.specs.Line.{in_set}
use Rattle.sets.specs.Inner.Sets.{everyone, first_in, rest_of, with_in, FirstOf, Outside}

-- bit z of m
abbrev bit : ℕ → ℕ → ℕ
bit m z = m / 2 ^ z % 2

bit_zero : (m : ℕ) → bit m 0 ≡ m % 2
bit_zero m = rw (pow-zero 2, div-one m)

bit_suc : (m z : ℕ) → bit m (suc z) ≡ bit (m / 2) z
bit_suc m z = ap (λ x. m / 2 ^ x % 2) (sym (one-add z)) ∙ ap (λ x. x % 2) (sym (shr-shr m 1 z))

-- a bit of a sum of sets
bit_or_lem : (m x z : ℕ) → bit (bit_or m x) z ≡ max (bit m z) (bit x z)
bit_or_lem m x z =
    let a = m / 2 ^ z in
    let b = x / 2 ^ z in
    let e : bit_or a b % 2 ≡ max (a % 2) (b % 2) = (let s = or_step a b in omega (arith, s)) in
    rw (or_shr m x z) e

bit_and_lem : (m x z : ℕ) → bit (bit_and m x) z ≡ min (bit m z) (bit x z)
bit_and_lem m x z =
    let a = m / 2 ^ z in
    let b = x / 2 ^ z in
    let e : bit_and a b % 2 ≡ min (a % 2) (b % 2) = (let s = and_step a b in omega (arith, s)) in
    rw (and_shr m x z) e

-- no member comes before the first
before_first : (k m z : ℕ) → z < count_trailing_zeros k m → bit m z ≡ 0
unfolding count_trailing_zeros
before_first zero m z h = absurd (omega arith)
before_first (suc k) m zero h = by_eq (m % 2) 0 (λ e. bit_zero m ∙ e) (λ o. absurd (omega (arith, odd_zeros k m (omega arith))))
before_first (suc k) m (suc y) h =
    by_eq (m % 2) 0 (λ e. bit_suc m y ∙ before_first k (m / 2) y (omega (arith, even_zeros k m e))) (λ o. absurd (omega (arith, odd_zeros k m (omega arith))))

-- a number of k + 1 bits that is even and not 0: its half
module _ (k m : ℕ) (p : 0 < m) (l : m < 2 ^ suc k) where
  half_lt : m / 2 < 2 ^ k
  half_lt = omega (arith, pow-suc 2 k)

  half_pos : m % 2 ≡ 0 → 0 < m / 2
  half_pos e = omega arith

first_bit : (k m : ℕ) → 0 < m → m < 2 ^ k → (count_trailing_zeros k m < k) × (bit m (count_trailing_zeros k m) ≡ 1)
first_bit zero m p l = absurd (omega (arith, pow-zero 2))
first_bit (suc k) m p l = by_eq (m % 2) 0
    (λ e. let i = first_bit k (m / 2) (half_pos k m p l e) (half_lt k m p l) in
    rw (even_zeros k m e) (omega (arith, i.0), bit_suc m (count_trailing_zeros k (m / 2)) ∙ i.1))
    (λ o. let e : m % 2 ≡ 1 = omega arith in rw (odd_zeros k m e) (omega arith, bit_zero m ∙ e))

-- one less has every member but the first
less_one : (k m z : ℕ) → 0 < m → m < 2 ^ k → (z ≡ count_trailing_zeros k m → ⊥) → bit m z ≤ bit (m - 1) z
less_one zero m z p l h = absurd (omega (arith, pow-zero 2))
less_one (suc k) m zero p l h = by_eq (m % 2) 0
    (λ e. omega (arith, bit_zero m, e))
    (λ o. absurd (h (sym (odd_zeros k m (omega arith)))))
less_one (suc k) m (suc y) p l h = by_eq (m % 2) 0
    (λ e. let q : (m - 1) / 2 ≡ m / 2 - 1 = omega arith in
    let i = less_one k (m / 2) y (half_pos k m p l e) (half_lt k m p l) (λ x. h (ap suc x ∙ sym (even_zeros k m e))) in
    rw (bit_suc m y, bit_suc (m - 1) y, q) i)
    (λ o. let q : (m - 1) / 2 ≡ m / 2 = omega arith in rw (bit_suc m y, bit_suc (m - 1) y, q) (omega arith))

-- and not the first
first_gone : (k m : ℕ) → 0 < m → m < 2 ^ k → bit (m - 1) (count_trailing_zeros k m) ≡ 0
first_gone zero m p l = absurd (omega (arith, pow-zero 2))
first_gone (suc k) m p l = by_eq (m % 2) 0
    (λ e. let q : (m - 1) / 2 ≡ m / 2 - 1 = omega arith in
    let i = first_gone k (m / 2) (half_pos k m p l e) (half_lt k m p l) in
    rw (even_zeros k m e, bit_suc (m - 1) (count_trailing_zeros k (m / 2)), q) i)
    (λ o. rw (odd_zeros k m (omega arith), bit_zero (m - 1)) (omega arith))

-- a set of one member has no other
one_bit : (q z : ℕ) → (z ≡ q → ⊥) → bit (2 ^ q) z ≡ 0
one_bit zero zero h = absurd (h refl)
one_bit zero (suc y) h = bit_suc (2 ^ 0) y ∙ ap (λ x. x % 2) (zero-div (2 ^ y))
one_bit (suc q) zero h = bit_zero (2 ^ suc q) ∙ omega (arith, pow-suc 2 q)
one_bit (suc q) (suc y) h =
    let e : 2 ^ suc q / 2 ≡ 2 ^ q = omega (arith, pow-suc 2 q) in
    bit_suc (2 ^ suc q) y ∙ rw e (one_bit q y (λ f. h (ap suc f)))

all_bits : (k z : ℕ) → z < k → bit (2 ^ k - 1) z ≡ 1
all_bits zero z l = absurd (omega arith)
all_bits (suc k) zero l = bit_zero (2 ^ suc k - 1) ∙ omega (arith, pow-suc 2 k, pow_pos k)
all_bits (suc k) (suc y) l =
    let q : (2 ^ suc k - 1) / 2 ≡ 2 ^ k - 1 = omega (arith, pow-suc 2 k, pow_pos k) in
    bit_suc (2 ^ suc k - 1) y ∙ rw q (all_bits k y (omega arith))

-- ---- Members

out_bit : (m z : ℕ) → in_set m z ≡ false → bit m z ≡ 0
out_bit m z h = by_eq (bit m z) 1 (λ e. clash (eq-eqb (bit m z) 1 e) h) (λ n. omega arith)

bit_out : (m z : ℕ) → bit m z ≡ 0 → in_set m z ≡ false
bit_out m z h = ne_eqb (bit m z) 1 (λ e. omega arith)

pub none_in : (z : ℕ) → in_set 0 z ≡ false
none_in z = bit_out 0 z (rw (zero-div (2 ^ z)))

pub everyone_in : (z : ℕ) → z < 64 → in_set everyone z ≡ true
everyone_in z l = eq-eqb (bit everyone z) 1 (all_bits 64 z l)

pub lower_out : (m z : ℕ) → z < first_in m → in_set m z ≡ false
unfolding first_in
lower_out m z l = bit_out m z (before_first 64 m z l)

module _ (m : ℕ) (p : 0 < m) (l : m < 2 ^ 64) where
  pub first_lt : first_in m < 64
  unfolding first_in
  first_lt = (first_bit 64 m p l).0

  pub first_in_lem : in_set m (first_in m) ≡ true
  unfolding first_in
  first_in_lem = eq-eqb (bit m (count_trailing_zeros 64 m)) 1 (first_bit 64 m p l).1

  pub rest_out : (z : ℕ) → in_set (rest_of m) z ≡ false → (z ≡ first_in m → ⊥) → in_set m z ≡ false
  unfolding first_in rest_of
  rest_out z o n =
      let a = out_bit (bit_and m (m - 1)) z o in
      let b = bit_and_lem m (m - 1) z in
      let c = less_one 64 m z p l n in
      bit_out m z (omega (arith, a, b, c))

pub with_out : (m q z : ℕ) → q < 64 → in_set (with_in m q) z ≡ false → (in_set m z ≡ false) × (z ≡ q → ⊥)
unfolding with_in
with_out m q z l o =
    let s : q % 64 ≡ q = omega arith in
    let a = out_bit (bit_or m (2 ^ q)) z (rw s at o) in
    let b = bit_or_lem m (2 ^ q) z in
    (bit_out m z (omega (arith, a, b)), λ e. let c : bit (2 ^ q) z ≡ 1 = rw (e, div_self (pow_pos q)) in omega (arith, a, b, c))

-- ---- The members, exactly: of the three functions' results

-- a bit of one number that is that of another
bit_same : (m x z : ℕ) → bit m z ≡ bit x z → in_set m z ≡ in_set x z
bit_same m x z e = ap (λ b. eqb b 1) e

pub first_of : (m : ℕ) → m < 2 ^ 64 → FirstOf m (first_in m)
unfolding first_in
first_of m l = record {
  most = trailing_le 64 m;
  member = λ h. by_eq m 0
      (λ e. absurd (omega (arith, h, ap (count_trailing_zeros 64) e ∙ trailing_of_zero 64)))
      (λ n. eq-eqb (bit m (count_trailing_zeros 64 m)) 1 (first_bit 64 m (omega arith) l).1);
  before = λ z h. bit_out m z (before_first 64 m z h);
}

pub rest_members : (m : ℕ) → m < 2 ^ 64 → (z : ℕ) → in_set (rest_of m) z ≡ (in_set m z && not (eqb z (first_in m)))
unfolding first_in rest_of
rest_members m l z = by_eq m 0
    (λ e. rw (e, and_zero_l (0 - 1), zero-div (2 ^ z)))
    (λ n. by_eq z (count_trailing_zeros 64 m)
    (λ e. let s = eq-eqb z (count_trailing_zeros 64 m) e in
    let g : bit (m - 1) z ≡ 0 = rw e (first_gone 64 m (omega arith) l) in
    let o : in_set (bit_and m (m - 1)) z ≡ false = bit_out (bit_and m (m - 1)) z (omega (arith, bit_and_lem m (m - 1) z, g)) in
    rw (s, and-false (in_set m z)) o)
    (λ d. let s = ne_eqb z (count_trailing_zeros 64 m) d in
    let q : bit (bit_and m (m - 1)) z ≡ bit m z = omega (arith, bit_and_lem m (m - 1) z, less_one 64 m z (omega arith) l d) in
    rw (s, and-true (in_set m z)) (bit_same (bit_and m (m - 1)) m z q)))

pub with_members : (m q z : ℕ) → in_set (with_in m q) z ≡ (in_set m z || eqb z (q % 64))
unfolding with_in
with_members m q z =
    let k = q % 64 in
    by_eq z k
    (λ e. let s = eq-eqb z k e in
    let c : bit (2 ^ k) z ≡ 1 = rw (e, div_self (pow_pos k)) in
    let i : in_set (bit_or m (2 ^ k)) z ≡ true = eq-eqb (bit (bit_or m (2 ^ k)) z) 1 (omega (arith, bit_or_lem m (2 ^ k) z, c)) in
    rw (s, or-true (in_set m z)) i)
    (λ d. let s = ne_eqb z k d in
    let b : bit (bit_or m (2 ^ k)) z ≡ bit m z = omega (arith, bit_or_lem m (2 ^ k) z, one_bit k z d) in
    rw (s, or-false (in_set m z)) (bit_same (bit_or m (2 ^ k)) m z b))

-- what is in neither of two sets
pub or_out : (m x z : ℕ) → in_set (bit_or m x) z ≡ false → (in_set m z ≡ false) × (in_set x z ≡ false)
or_out m x z o =
    let a = out_bit (bit_or m x) z o in
    let b = bit_or_lem m x z in
    (bit_out m z (omega (arith, a, b)), bit_out x z (omega (arith, a, b)))

-- ---- What holds outside of a set, while its members are looked at one after another

module _ (P : ℕ → Type 0) where
  module _ (left y left' : ℕ) (p : 0 < left) (l : left < 2 ^ 64) (ey : y ≡ first_in left) (el : left' ≡ rest_of left) where
    pub rest_outside : P y → Outside P left → Outside P left'
    rest_outside h w z lz o = by_eq z y (λ e. rw e h) (λ n. w z lz (rest_out left p l z (rw el at o) (λ x. n (x ∙ sym ey))))

pub rest_less : (m : ℕ) → 0 < m → rest_of m < m
unfolding rest_of
rest_less m p = omega (arith, and_le_r m (m - 1))

pub with_lt : (m q : ℕ) → m < 2 ^ 64 → with_in m q < 2 ^ 64
unfolding with_in
with_lt m q l = let k : q % 64 < 64 = omega arith in or_lt 64 m (2 ^ (q % 64)) l (pow-lt k)
