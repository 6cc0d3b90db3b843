-- The tree of the least phase: its word 1 is the least (`tree_low`), and a new leaf makes it the tree of the area that
-- has the new orphan (`treed_next`).
use mathlib.Core.Path.{◌≡◌, refl, ◌∙◌, ap}
use mathlib.Core.Logic.{◌≢◌}
use mathlib.Core.List.{List}
use Prim.Native.Nat.{ℕ, zero, suc, min, ◌+◌, ◌-◌, ◌*◌, ◌/◌, ◌≤◌, ◌<◌}
use native.Mathlib.Omega.{arith}
use native.Mathlib.Numerals.{add-one}
use lib.ListN.{length, length-set, length-replicate, get_or, get_or-replicate, set, replicate}
use lib.Seq.{get_or-set_same, get_or-set_other}
use borrow.Author.Tests.{lt-ltb, le-ltb, eq-eqb, ne_eqb}
use Rattle.words.proofs.Cases.{by_lt, by_eq}
use Rattle.columns.specs.Inner.Full.{procs_w, phase_w}
use Rattle.machine.specs.Inner.Words.{orphan_base, no_phase, orp_w, lesser, least_with, low_of}
use Rattle.machine.specs.Inner.Tree.{Nodes, Tree, LeavesHold, Treed, Leafed}

-- ---- The least phase of an orphan not sent again, of the processes before the n-th

module _ (t : List ℕ) where
  least_cases : {A : Type 0} (o m : ℕ) → (least_with t o m ≡ m → (o ≢ 0 → m ≤ phase_w t o) → A) → (least_with t o m ≡ phase_w t o → phase_w t o < m → A) → A
  least_cases o m f g = by_eq o 0
      (λ e. f (rw (eq-eqb o 0 e)) (λ n. absurd (n e)))
      (λ e. by_lt (phase_w t o) m (λ l. g (rw (ne_eqb o 0 e, lt-ltb (phase_w t o) m l)) l) (λ l. f (rw (ne_eqb o 0 e, le-ltb (phase_w t o) m l)) (λ n. l)))

  least_le : (o m : ℕ) → least_with t o m ≤ m
  least_le o m = least_cases o m (λ e n. omega (arith, e)) (λ e l. omega (arith, e, l))

  least_phase : (o m : ℕ) → o ≢ 0 → least_with t o m ≤ phase_w t o
  least_phase o m h = least_cases o m (λ e n. omega (arith, e, n h)) (λ e l. omega (arith, e))

  least_from : (o k m : ℕ) → k ≤ m → (o ≢ 0 → k ≤ phase_w t o) → k ≤ least_with t o m
  least_from o k m h j = by_eq o 0
      (λ e. rw (eq-eqb o 0 e) h)
      (λ e. least_cases o m (λ q n. omega (arith, q, h)) (λ q l. omega (arith, q, j e)))

  low_down : (a : List ℕ) (n k : ℕ) → low_of t a (n + k) ≤ low_of t a n
  unfolding low_of
  low_down a n zero = let e : n + zero ≡ n = omega arith in rw e (omega arith)
  low_down a n (suc k) = let e : n + suc k ≡ suc (n + k) = omega arith in rw e (omega (arith, least_le (orp_w a (n + k)) (low_of t a (n + k)), low_down a n k))

  low_top : (a : List ℕ) (n : ℕ) → low_of t a n ≤ no_phase
  unfolding low_of
  low_top a n = let e : 0 + n ≡ n = omega arith in rw e at (low_down a 0 n)

  low_upon : (a : List ℕ) (z : ℕ) → low_of t a (z + 1) ≤ least_with t (orp_w a z) no_phase
  unfolding low_of
  low_upon a z =
      rw (add-one z) (least_from (orp_w a z) _ _ (omega (arith, low_top a z, least_le (orp_w a z) (low_of t a z))) (λ x. least_phase (orp_w a z) (low_of t a z) x))

  low_le : (a : List ℕ) (n z : ℕ) → z < n → low_of t a n ≤ least_with t (orp_w a z) no_phase
  low_le a n z h =
      let e : z + 1 + (n - (z + 1)) ≡ n = omega arith in
      omega (arith, low_upon a z, (rw e at (low_down a (z + 1) (n - (z + 1)))))

  low_from : (a : List ℕ) (k n : ℕ) → k ≤ no_phase → ((z : ℕ) → z < n → k ≤ least_with t (orp_w a z) no_phase) → k ≤ low_of t a n
  unfolding low_of
  low_from a k zero h l = h
  low_from a k (suc n) h l =
      least_from (orp_w a n) k _ (low_from a k n h (λ z i. l z (omega arith))) (λ x. omega (arith, l n (omega arith), least_phase (orp_w a n) no_phase x))

-- ---- The lesser of two, up the tree

pub min_lesser : (x y : ℕ) → min x y ≡ lesser x y
min_lesser x y = by_lt x y (λ l. rw (lt-ltb x y l) (omega arith)) (λ l. rw (le-ltb x y l) (omega arith))

lesser_le : (x y : ℕ) → (lesser x y ≤ x) × (lesser x y ≤ y)
lesser_le x y = by_lt x y (λ l. rw (lt-ltb x y l) (omega arith, omega arith)) (λ l. rw (le-ltb x y l) (l, omega arith))

lesser_from : (k x y : ℕ) → k ≤ x → k ≤ y → k ≤ lesser x y
lesser_from k x y h j = by_lt x y (λ l. rw (lt-ltb x y l) h) (λ l. rw (le-ltb x y l) j)

module _ (tree : List ℕ) (T : Tree tree) where
  above : (j : ℕ) → 1 < j → j < 128 → get_or tree (j / 2) 0 ≤ get_or tree j 0
  unfolding Nodes
  above j h l =
      let i = j / 2 in
      let e = T.nodes i (omega arith) (omega arith) (λ q. omega arith) in
      let le = lesser_le (get_or tree (2 * i) 0) (get_or tree (2 * i + 1) 0) in
      by_eq j (2 * i)
      (λ q. omega (arith, e, le.0, ap (λ x. get_or tree x 0) q))
      (λ n. let q : j ≡ 2 * i + 1 = omega arith in omega (arith, e, le.1, ap (λ x. get_or tree x 0) q))

  top_le : (z : ℕ) → z < 64 → get_or tree 1 0 ≤ get_or tree (64 + z) 0
  top_le z h =
      let j = 64 + z in
      let e : j / 2 / 2 / 2 / 2 / 2 / 2 ≡ 1 = omega arith in
      let u = rw e at (above (j / 2 / 2 / 2 / 2 / 2) (omega arith) (omega arith)) in
      omega (
        arith,
        u,
        above (j / 2 / 2 / 2 / 2) (omega arith) (omega arith),
        above (j / 2 / 2 / 2) (omega arith) (omega arith),
        above (j / 2 / 2) (omega arith) (omega arith),
        above (j / 2) (omega arith) (omega arith),
        above j (omega arith) (omega arith),
      )

  from_leaves : (k : ℕ) → ((z : ℕ) → z < 64 → k ≤ get_or tree (64 + z) 0) → (n i : ℕ) → 0 < i → i < 128 → 128 ≤ i + n → k ≤ get_or tree i 0
  unfolding Nodes
  from_leaves k h zero i p l r = absurd (let z : ⊥ = omega arith in z)
  from_leaves k h (suc n) i p l r = by_lt i 64
      (λ b. rw (T.nodes i p b (λ q. omega arith))
      (lesser_from k (get_or tree (2 * i) 0) (get_or tree (2 * i + 1) 0)
      (from_leaves k h n (2 * i) (omega arith) (omega arith) (omega arith)) (from_leaves k h n (2 * i + 1) (omega arith) (omega arith) (omega arith))))
      (λ b. let e : i ≡ 64 + (i - 64) = omega arith in rw e (h (i - 64) (omega arith)))

pub tree_low : (t a tree : List ℕ) → procs_w t ≤ 64 → Treed t a tree → get_or tree 1 0 ≡ low_of t a (procs_w t)
unfolding LeavesHold
tree_low t a tree few T = omega (arith, up, low_from t a (get_or tree 1 0) (procs_w t) top (λ z h. omega (arith, leaf z h, top_le tree T.tree z (omega arith))))
  where
    leaf : (z : ℕ) → z < procs_w t → get_or tree (64 + z) 0 ≡ least_with t (orp_w a z) no_phase
    leaf z h = T.leaves z (omega arith) ∙ rw (lt-ltb z (procs_w t) h)

    none : (z : ℕ) → z < 64 → procs_w t ≤ z → get_or tree (64 + z) 0 ≡ no_phase
    none z h l = T.leaves z h ∙ rw (le-ltb z (procs_w t) l)

    up : low_of t a (procs_w t) ≤ get_or tree 1 0
    up = from_leaves tree T.tree (low_of t a (procs_w t))
        (λ z h. by_lt z (procs_w t) (λ l. omega (arith, leaf z l, low_le t a (procs_w t) z l)) (λ l. omega (arith, none z h l, low_top t a (procs_w t))))
        127 1 (omega arith) (omega arith) (omega arith)

    top : get_or tree 1 0 ≤ no_phase
    top = by_lt 0 (procs_w t)
        (λ l. omega (arith, top_le tree T.tree 0 (omega arith), leaf 0 l, least_le t (orp_w a 0) no_phase))
        (λ l. omega (arith, top_le tree T.tree 0 (omega arith), none 0 (omega arith) l))

-- ---- A new leaf

-- a leaf is new, and the words above it follow, so far up to word i
pub record Climbing (begun words : List ℕ) (i : ℕ) : Type 0 where
  pub i_lt : i < 64
  pub long : length words ≡ 128
  pub nodes : Nodes words i
  pub leaves : (y : ℕ) → get_or words (64 + y) 0 ≡ get_or begun (64 + y) 0

module _ (tree : List ℕ) (z v : ℕ) (h : z < 64) (T : Tree tree) where
  abbrev begun : List ℕ
  begun = set tree (64 + z) v

  pub climb_first : Climbing begun begun ((64 + z) / 2)
  unfolding Nodes
  climb_first = record {
    i_lt = omega arith;
    long = simp length-set T.long;
    nodes = λ i p b n.
        rw (
          get_or-set_other tree (64 + z) i v 0 (λ q. omega arith),
          get_or-set_other tree (64 + z) (2 * i) v 0 (λ q. n (omega arith)),
          get_or-set_other tree (64 + z) (2 * i + 1) v 0 (λ q. n (omega arith)),
        )
        (T.nodes i p b (λ q. omega arith));
    leaves = λ y. refl;
  }

  module _ (words : List ℕ) (i : ℕ) (J : Climbing begun words i) where
    pub climb_top : i ≡ 0 → Leafed tree words z v
    climb_top e = record {
      tree = record { long = J.long; nodes = rw e at J.nodes };
      leaf = J.leaves z ∙ get_or-set_same tree (64 + z) v 0 (omega (arith, T.long));
      others = λ y b n. J.leaves y ∙ get_or-set_other tree (64 + z) (64 + y) v 0 (λ q. n (omega arith));
    }

module _ (begun words : List ℕ) (i : ℕ) (J : Climbing begun words i) (p : 0 < i) (least : ℕ)
    (el : least ≡ min (get_or words (2 * i) 0) (get_or words (2 * i + 1) 0)) where
  is_lesser : least ≡ lesser (get_or words (2 * i) 0) (get_or words (2 * i + 1) 0)
  is_lesser = el ∙ min_lesser _ _

  -- word i is as it was, and so are those above it
  pub climb_stop : get_or words i 0 ≡ least → Climbing begun words 0
  unfolding Nodes
  climb_stop e = record {
    i_lt = omega arith;
    long = J.long;
    nodes = λ k q b n. by_eq k i (λ s. rw s (e ∙ is_lesser)) (λ s. J.nodes k q b s);
    leaves = J.leaves;
  }

  other : (k : ℕ) → (k ≡ i → ⊥) → get_or (set words i least) k 0 ≡ get_or words k 0
  other k n = get_or-set_other words i k least 0 n

  pub climb_next : Climbing begun (set words i least) (i / 2)
  unfolding Nodes
  climb_next = record {
    i_lt = omega (arith, J.i_lt);
    long = simp length-set J.long;
    nodes = λ k q b n. by_eq k i
        (λ s. rw (s, get_or-set_same words i least 0 (omega (arith, J.i_lt, J.long)), other (2 * i) (λ x. omega arith), other (2 * i + 1) (λ x. omega arith)) is_lesser)
        (λ s. rw (other k s, other (2 * k) (λ x. n (omega arith)), other (2 * k + 1) (λ x. n (omega arith))) (J.nodes k q b s));
    leaves = λ y. other (64 + y) (λ x. omega (arith, J.i_lt)) ∙ J.leaves y;
  }

-- ---- The tree of a table and a run area

pub tree_none : (tree : List ℕ) → tree ≡ replicate 128 no_phase → Tree tree
unfolding Nodes
tree_none tree e =
    let word : (k : ℕ) → k < 128 → get_or tree k 0 ≡ no_phase = λ k l. ap (λ (w : List ℕ). get_or w k 0) e ∙ get_or-replicate {A = ℕ} 128 k no_phase 0 l in record {
      long = ap length e ∙ length-replicate {A = ℕ} 128 no_phase;
      nodes = λ i p l n. rw (word i (omega arith), word (2 * i) (omega arith), word (2 * i + 1) (omega arith));
    }

pub leaves_none : (t a tree : List ℕ) → tree ≡ replicate 128 no_phase → LeavesHold t a tree 0
unfolding LeavesHold
leaves_none t a tree e z h = rw (le-ltb z 0 (omega arith)) (ap (λ (w : List ℕ). get_or w (64 + z) 0) e ∙ get_or-replicate {A = ℕ} 128 (64 + z) no_phase 0 (omega arith))

pub leaves_next : (t a tree after : List ℕ) (z o : ℕ) → o ≡ orp_w a z → LeavesHold t a tree z → Leafed tree after z (least_with t o no_phase) → LeavesHold t a after (z + 1)
unfolding LeavesHold
leaves_next t a tree after z o eo L F y h = by_eq y z
    (λ e. rw (e, lt-ltb z (z + 1) (omega arith)) (F.leaf ∙ rw eo))
    (λ n. F.others y h n ∙ L y h ∙ by_lt y z
    (λ l. rw (lt-ltb y z l, lt-ltb y (z + 1) (omega arith)))
    (λ l. rw (le-ltb y z l, le-ltb y (z + 1) (omega (arith, n)))))

-- one process of the table has another orphan next
pub treed_next : (t a tree after : List ℕ) (z o : ℕ) → z < 64 → z < procs_w t → orphan_base + z < length a → Treed t a tree → Leafed tree after z (least_with t o no_phase)
    → Treed t (set a (orphan_base + z) o) after
unfolding LeavesHold
treed_next t a tree after z o h k r T F = record {
  tree = F.tree;
  leaves = λ y l. by_eq y z
      (λ e. rw (e, lt-ltb z (procs_w t) k, get_or-set_same a (orphan_base + z) o 0 r) F.leaf)
      (λ n. rw (get_or-set_other a (orphan_base + z) (orphan_base + y) o 0 (λ x. n (omega arith))) (F.others y l n ∙ T.leaves y l));
}

-- no process has
pub treed_same : (t a b tree : List ℕ) → ((z : ℕ) → z < 64 → orp_w b z ≡ orp_w a z) → Treed t a tree → Treed t b tree
unfolding LeavesHold
treed_same t a b tree e T = record { tree = T.tree; leaves = λ z h. rw (e z h) (T.leaves z h) }
