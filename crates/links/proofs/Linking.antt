-- One event of the pass that sets the links and the first state: if the events after it are linked, it is, too. From
-- what the tests of the pass mean at the event (`Tests`).
use mathlib.Core.Path.{◌≡◌, refl, sym, ◌∙◌, ap, subst}
use mathlib.Core.Logic.{◌≢◌}
use mathlib.Core.Bool.{Bool, true, false, ◌&&◌, and-true, and-false, cond}
use mathlib.Core.List.{List, [], ◌∷◌}
use Prim.Native.Nat.{ℕ, zero, suc, ◌+◌, ◌-◌, ◌*◌, ◌≤◌, ◌<◌}
use native.Mathlib.Omega.{arith}
use lib.ListN.{length, length-set, get_or, set}
use lib.Seq.{get_or-set_same, get_or-set_other}
use lib.Dec.{ltb, eqb}
use borrow.Author.Tests.{ltb-true, ltb-false, eqb-true, eqb-false, lt-ltb, le-ltb, eq-eqb, ne_eqb}
use Rattle.words.specs.Halves.{half}
use Rattle.words.proofs.Halves.{half_none}
use Rattle.theory.specs.Lists.{iv, keep}
use Rattle.theory.specs.Events.{size, at}
use Rattle.theory.specs.Line.{Run}
use Rattle.theory.specs.Replay.{start}
use Rattle.theory.proofs.Base.{by, on, clash, le?, both, same2}
use Rattle.machine.specs.Taken.{taken_base, record_end, taken_number, taken_value}
use Rattle.columns.specs.Inner.Full.{value_w, number_w}
use Rattle.machine.specs.Inner.Words.{current_base, orphan_base, take_base, put_base, cur_w, orp_w, take_w, put_w, Small}
use Rattle.theory.specs.Inner.Lists.{head0}
use Rattle.machine.specs.Inner.Related.{goes, evs, orph}
use Rattle.machine.proofs.Noted.{length_noted, noted_other, noted_number, noted_value}
use Rattle.links.specs.Inner.Linking.{chain_a, record_a}
use Rattle.links.specs.Inner.Linked.{mine, rest, Chained}

pub far_a : (b : Bool) (a : List ℕ) (k v j : ℕ) → j ≢ k → get_or (chain_a b a k v) j 0 ≡ get_or a j 0
unfolding chain_a
far_a true a k v j n = get_or-set_other a k j v 0 n
far_a false a k v j n = refl

pub at_a : (b : Bool) (a : List ℕ) (k v : ℕ) → k < length a → get_or (chain_a b a k v) k 0 ≡ cond b v (get_or a k 0)
unfolding chain_a
at_a true a k v h = get_or-set_same a k v 0 h
at_a false a k v h = refl

pub len_a : (b : Bool) (a : List ℕ) (k v : ℕ) → length (chain_a b a k v) ≡ length a
unfolding chain_a
len_a true a k v = length-set a k v
len_a false a k v = refl

-- links are events or 0
pub small_a : (b : Bool) (l : List ℕ) (j w : ℕ) → w < 2049 → Small l → Small (chain_a b l j w)
unfolding chain_a Small
small_a true l j w h s i = by (eqb i j)
    (λ t. let o : i ≡ j = eqb-true i j t in on (le? (length l) j)
    (λ u. rw (set_past l j w u) (s i))
    (λ u. rw (o, get_or-set_same l j w 0 u) h))
    (λ t. rw (get_or-set_other l j i w 0 (eqb-false i j t)) (s i))
  where
    set_past : (l : List ℕ) (j w : ℕ) → length l ≤ j → set l j w ≡ l
    set_past [] j w h = refl
    set_past (y ∷ ys) zero w h = absurd (omega arith)
    set_past (y ∷ ys) (suc j) w h = ap (λ r. y ∷ r) (set_past ys j w (omega arith))
small_a false l j w h s i = s i

-- the same of the record
module _ (full : List ℕ) where
  far_r : (b : Bool) (a : List ℕ) (e m j : ℕ) → j ≢ e → ((h : ℕ) → h < 2 → j ≢ taken_base h + e) → get_or (record_a b full a e m) j 0 ≡ get_or a j 0
  unfolding record_a
  far_r true a e m j n v = noted_other full a e m j n v
  far_r false a e m j n v = refl

  len_r : (b : Bool) (a : List ℕ) (e m : ℕ) → length (record_a b full a e m) ≡ length a
  unfolding record_a
  len_r true a e m = length_noted full a e m
  len_r false a e m = refl

  number_r : (b : Bool) (a : List ℕ) (e m : ℕ) → record_end ≤ length a → e < 2049 → get_or (record_a b full a e m) e 0 ≡ cond b (number_w full m) (get_or a e 0)
  unfolding record_a
  number_r true a e m r l = noted_number full a e m r l
  number_r false a e m r l = refl

  value_r : (b : Bool) (a : List ℕ) (e m h : ℕ) → record_end ≤ length a → e < 2049 → h < 2
      → get_or (record_a b full a e m) (taken_base h + e) 0 ≡ cond b (value_w h full m) (get_or a (taken_base h + e) 0)
  unfolding record_a
  value_r true a e m h r l k = noted_value full a e m r l h k
  value_r false a e m h r l k = refl

module _ (R : Run) where
  pub head_step : (f : ℕ → Bool) (x : ℕ) → x < size R.trace → head0 (rest R f x) ≡ cond (f (suc x)) (suc x) (head0 (rest R f (suc x)))
  unfolding keep iv
  head_step f x h =
      let e : size R.trace - x ≡ suc (size R.trace - suc x) = omega arith in
      rw e (by (f (suc x)) (λ t. rw t) (λ t. rw t))

  -- the tests that the pass makes at an event of process z with peer q, and what they mean; event m sends the message
  -- that it receives
  pub record Tests (e z q : ℕ) (f₁ f₂ f₃ f₄ : Bool) (full : List ℕ) (m : ℕ) : Type 0 where
    pub z_lt : z < 64
    pub q_lt : q < 64
    pub at_is : at R.trace e ≡ z
    pub is_mine : f₁ ≡ ltb (R.restart z) e
    pub is_orphan : f₂ ≡ (mine R z e && orph R z e)
    pub is_goes : (p r : ℕ) → goes R p r e ≡ ((eqb p z && eqb r q) && f₃)
    pub is_number : cond f₄ (number_w full m) 0 ≡ taken_number R (start R) e
    pub is_value : (b : ℕ) → b < 2 → cond f₄ (value_w b full m) 0 ≡ half b (taken_value R (start R) e)

  abbrev pub step_l : List ℕ → List ℕ → ℕ → ℕ → ℕ → Bool → Bool → Bool → List ℕ
  step_l l a e z q f₁ f₂ f₃ =
      chain_a f₃ (chain_a f₂ (chain_a f₁ l (4 * e) (cur_w a z)) (4 * e + 2) (orp_w a z)) (4 * e + 1) (put_w a (64 * z + q))

  abbrev pub step_a : List ℕ → ℕ → ℕ → ℕ → Bool → Bool → Bool → Bool → List ℕ → ℕ → List ℕ
  step_a a e z q f₁ f₂ f₃ f₄ full m =
      record_a f₄ full (chain_a f₃ (chain_a f₃ (chain_a f₂ (chain_a f₁ a (current_base + z) e) (orphan_base + z) e) (put_base + (64 * z + q)) e) (take_base + (64 * z + q)) e) e m

  module _ (x : ℕ) (x_lt : x < size R.trace) (n_le : size R.trace ≤ 2048) (l a : List ℕ) (H : Chained R (suc x) l a) (z q : ℕ) (f₁ f₂ f₃ f₄ : Bool) (full : List ℕ) (m : ℕ) (Q : Tests (suc x) z q f₁ f₂ f₃ f₄ full m) where
    abbrev e : ℕ
    e = suc x

    abbrev c : ℕ
    c = 64 * z + q

    zl : z < 64
    zl = Q.z_lt

    ql : q < 64
    ql = Q.q_lt

    abbrev a₁ : List ℕ
    a₁ = chain_a f₁ a (current_base + z) e

    abbrev a₂ : List ℕ
    a₂ = chain_a f₂ a₁ (orphan_base + z) e

    abbrev a₃ : List ℕ
    a₃ = chain_a f₃ a₂ (put_base + c) e

    abbrev a₄ : List ℕ
    a₄ = chain_a f₃ a₃ (take_base + c) e

    abbrev a₅ : List ℕ
    a₅ = record_a f₄ full a₄ e m

    n₁ : length a₁ ≡ 16384
    n₁ = len_a f₁ a (current_base + z) e ∙ H.a_long

    n₂ : length a₂ ≡ 16384
    n₂ = len_a f₂ a₁ (orphan_base + z) e ∙ n₁

    n₃ : length a₃ ≡ 16384
    n₃ = len_a f₃ a₂ (put_base + c) e ∙ n₂

    n₄ : length a₄ ≡ 16384
    n₄ = len_a f₃ a₃ (take_base + c) e ∙ n₃

    n₅ : length a₅ ≡ 16384
    n₅ = len_r full f₄ a₄ e m ∙ n₄

    room : record_end ≤ length a₄
    room = omega (arith, n₄)

    few : e < 2049
    few = omega arith

    -- words above the record, below it
    top : (j : ℕ) → record_end ≤ j → get_or a₅ j 0 ≡ get_or a₄ j 0
    top j h = far_r full f₄ a₄ e m j (λ w. omega arith) (λ b l w. omega arith)

    record_far : (j : ℕ) → j < current_base → get_or a₄ j 0 ≡ get_or a j 0
    record_far j h = far_a f₃ a₃ (take_base + c) e j (λ w. omega arith) ∙ far_a f₃ a₂ (put_base + c) e j (λ w. omega arith) ∙ far_a f₂ a₁ (orphan_base + z) e j (λ w. omega arith) ∙ far_a f₁ a (current_base + z) e j (λ w. omega arith)

    process_far : (j : ℕ) → current_base ≤ j → j < take_base → get_or a₅ j 0 ≡ get_or a₂ j 0
    process_far j h i = top j (omega arith) ∙ far_a f₃ a₃ (take_base + c) e j (λ w. omega arith) ∙ far_a f₃ a₂ (put_base + c) e j (λ w. omega (arith, zl, ql))

    chan_far : (j : ℕ) → take_base ≤ j → get_or a₂ j 0 ≡ get_or a j 0
    chan_far j h = far_a f₂ a₁ (orphan_base + z) e j (λ w. omega (arith, zl)) ∙ far_a f₁ a (current_base + z) e j (λ w. omega (arith, zl))

    mine_is : (y : ℕ) → mine R y e ≡ (eqb y z && f₁)
    mine_is y = by (eqb y z)
        (λ t. let i : y ≡ z = eqb-true y z t in
        let g : eqb z (at R.trace e) ≡ true = eq-eqb z (at R.trace e) (sym Q.at_is) in
        rw (t, i, g, Q.is_mine) (and-true (ltb (R.restart z) e)))
        (λ t. let g : eqb y (at R.trace e) ≡ false = ne_eqb y (at R.trace e) (λ w. eqb-false y z t (w ∙ Q.at_is)) in
        rw (t, g) (and-false (ltb (R.restart y) e)))

    orph_is : (y : ℕ) → (mine R y e && orph R y e) ≡ (eqb y z && f₂)
    orph_is y = by (eqb y z)
        (λ t. let i : y ≡ z = eqb-true y z t in rw (t, i) (sym Q.is_orphan))
        (λ t. let m : mine R y e ≡ false = mine_is y ∙ rw t in rw (t, m))

    pub chain_area : (length a₅ ≡ 16384) × ((y : ℕ) → y < 64 → cur_w a₅ y ≡ head0 (rest R (mine R y) x)) × ((y : ℕ) → y < 64 → orp_w a₅ y ≡ head0 (rest R (λ d. mine R y d && orph R y d) x))
    chain_area = (
      n₅,
      (λ y hy. rw (head_step (mine R y) x x_lt, mine_is y) (by (eqb y z)
          (λ t. let i : y ≡ z = eqb-true y z t in
          rw (t, i) (process_far (current_base + z) (omega arith) (omega (arith, zl)) ∙ far_a f₂ a₁ (orphan_base + z) e (current_base + z) (λ w. omega arith) ∙ at_a f₁ a (current_base + z) e (omega (arith, H.a_long, zl)) ∙ ap (cond f₁ e) (H.cur z zl)))
          (λ t. rw t (process_far (current_base + y) (omega arith) (omega arith) ∙ far_a f₂ a₁ (orphan_base + z) e (current_base + y) (λ w. omega arith) ∙ far_a f₁ a (current_base + z) e (current_base + y) (λ w. eqb-false y z t (omega arith)) ∙ H.cur y hy)))),
      (λ y hy. rw (head_step (λ d. mine R y d && orph R y d) x x_lt, orph_is y) (by (eqb y z)
          (λ t. let i : y ≡ z = eqb-true y z t in
          rw (t, i) (process_far (orphan_base + z) (omega arith) (omega (arith, zl)) ∙ at_a f₂ a₁ (orphan_base + z) e (omega (arith, n₁, zl)) ∙ ap (cond f₂ e) (far_a f₁ a (current_base + z) e (orphan_base + z) (λ w. omega (arith, zl)) ∙ H.orp z zl)))
          (λ t. rw t (process_far (orphan_base + y) (omega arith) (omega arith) ∙ far_a f₂ a₁ (orphan_base + z) e (orphan_base + y) (λ w. eqb-false y z t (omega arith)) ∙ far_a f₁ a (current_base + z) e (orphan_base + y) (λ w. omega (arith, zl)) ∙ H.orp y hy)))),
    )

    evs_step : (p r : ℕ) → head0 (evs R p r x) ≡ cond ((eqb p z && eqb r q) && f₃) e (head0 (evs R p r e))
    unfolding evs
    evs_step p r = rw (← Q.is_goes p r) (head_step (goes R p r) x x_lt)

    far_channel : (p r : ℕ) → r < 64 → (eqb p z && eqb r q) ≡ false → 64 * p + r ≢ c
    far_channel p r hr t w =
        let i : p ≡ z = omega (arith, ql) in
        let j : r ≡ q = omega (arith, ql) in
        clash (let u : (eqb p z && eqb r q) ≡ true = rw (eq-eqb p z i, eq-eqb r q j) in u) t

    chain_put : (p r : ℕ) → p < 64 → r < 64 → put_w a₅ (64 * p + r) ≡ head0 (evs R p r x)
    chain_put p r hp hr = rw (evs_step p r) (by (eqb p z && eqb r q)
        (λ t. let b = same2 p z r q t in
        rw (t, b.0, b.1) (top (put_base + c) (omega arith) ∙ far_a f₃ a₃ (take_base + c) e (put_base + c) (λ w. omega arith) ∙ at_a f₃ a₂ (put_base + c) e (omega (arith, n₂, zl, ql))
        ∙ ap (cond f₃ e) (chan_far (put_base + c) (omega arith) ∙ H.puts z q zl ql)))
        (λ t. rw t (top (put_base + (64 * p + r)) (omega arith) ∙ far_a f₃ a₃ (take_base + c) e (put_base + (64 * p + r)) (λ w. omega (arith, zl, ql))
        ∙ far_a f₃ a₂ (put_base + c) e (put_base + (64 * p + r)) (λ w. far_channel p r hr t (omega arith)) ∙ chan_far (put_base + (64 * p + r)) (omega arith) ∙ H.puts p r hp hr)))

    chain_take : (p r : ℕ) → p < 64 → r < 64 → take_w a₅ (64 * p + r) ≡ head0 (evs R p r x)
    chain_take p r hp hr = rw (evs_step p r) (by (eqb p z && eqb r q)
        (λ t. let b = same2 p z r q t in
        rw (t, b.0, b.1) (top (take_base + c) (omega arith) ∙ at_a f₃ a₃ (take_base + c) e (omega (arith, n₃, zl, ql))
        ∙ ap (cond f₃ e) (far_a f₃ a₂ (put_base + c) e (take_base + c) (λ w. omega arith) ∙ chan_far (take_base + c) (omega arith) ∙ H.takes z q zl ql)))
        (λ t. rw t (top (take_base + (64 * p + r)) (omega arith) ∙ far_a f₃ a₃ (take_base + c) e (take_base + (64 * p + r)) (λ w. far_channel p r hr t (omega arith))
        ∙ far_a f₃ a₂ (put_base + c) e (take_base + (64 * p + r)) (λ w. omega arith) ∙ chan_far (take_base + (64 * p + r)) (omega arith) ∙ H.takes p r hp hr)))

    -- the record
    slot : (y : ℕ) (g : ℕ → ℕ) → y ≢ e → cond (ltb (suc x) y) (g y) 0 ≡ cond (ltb x y) (g y) 0
    slot y g n = by (ltb x y)
        (λ t. rw (t, lt-ltb (suc x) y (omega (arith, ltb-true x y t))))
        (λ t. rw (t, le-ltb (suc x) y (omega (arith, ltb-false x y t))))

    chain_num : (y : ℕ) → y < 2049 → get_or a₅ y 0 ≡ cond (ltb x y) (taken_number R (start R) y) 0
    chain_num y hy = by (eqb y e)
        (λ t. let i : y ≡ e = eqb-true y e t in
        rw (i, lt-ltb x e (omega arith)) (number_r full f₄ a₄ e m room few
        ∙ ap (cond f₄ (number_w full m)) (record_far e (omega (arith, few)) ∙ H.num e few ∙ rw (le-ltb e e (omega arith))) ∙ Q.is_number))
        (λ t. let n = eqb-false y e t in
        far_r full f₄ a₄ e m y n (λ b l w. omega arith) ∙ record_far y (omega arith) ∙ H.num y hy ∙ slot y (taken_number R (start R)) n)

    chain_val : (b y : ℕ) → b < 2 → y < 2049 → get_or a₅ (taken_base b + y) 0 ≡ half b (cond (ltb x y) (taken_value R (start R) y) 0)
    chain_val b y hb hy = by (eqb y e)
        (λ t. let i : y ≡ e = eqb-true y e t in
        rw (i, lt-ltb x e (omega arith)) (value_r full f₄ a₄ e m b room few hb
        ∙ ap (cond f₄ (value_w b full m)) (record_far (taken_base b + e) (omega (arith, few)) ∙ H.val b e hb few ∙ rw (le-ltb e e (omega arith)) (half_none b)) ∙ Q.is_value b hb))
        (λ t. let n = eqb-false y e t in
        far_r full f₄ a₄ e m (taken_base b + y) (λ w. omega (arith, few)) (λ h l w. n (omega arith)) ∙ record_far (taken_base b + y) (omega arith) ∙ H.val b y hb hy ∙ ap (half b) (slot y (taken_value R (start R)) n))

    -- the links
    abbrev l₁ : List ℕ
    l₁ = chain_a f₁ l (4 * e) (cur_w a z)

    abbrev l₂ : List ℕ
    l₂ = chain_a f₂ l₁ (4 * e + 2) (orp_w a z)

    abbrev l₃ : List ℕ
    l₃ = chain_a f₃ l₂ (4 * e + 1) (put_w a c)

    m₁ : length l₁ ≡ length l
    m₁ = len_a f₁ l (4 * e) (cur_w a z)

    m₂ : length l₂ ≡ length l
    m₂ = len_a f₂ l₁ (4 * e + 2) (orp_w a z) ∙ m₁

    m₃ : length l₃ ≡ length l
    m₃ = len_a f₃ l₂ (4 * e + 1) (put_w a c) ∙ m₂

    link_far : (j : ℕ) → 4 * e + 3 ≤ j → get_or l₃ j 0 ≡ get_or l j 0
    link_far j h = far_a f₃ l₂ (4 * e + 1) (put_w a c) j (λ w. omega arith) ∙ far_a f₂ l₁ (4 * e + 2) (orp_w a z) j (λ w. omega arith) ∙ far_a f₁ l (4 * e) (cur_w a z) j (λ w. omega arith)

    chain_next : (d : ℕ) → x < d → d ≤ size R.trace → mine R (at R.trace d) d ≡ true → get_or l₃ (4 * d) 0 ≡ head0 (rest R (mine R (at R.trace d)) d)
    chain_next d h g m = on (le? d e)
        (λ u. let i : d ≡ e = omega arith in
        let me : mine R z e ≡ true = subst (λ y. mine R y e ≡ true) Q.at_is (subst (λ y. mine R (at R.trace y) y ≡ true) i m) in
        let fe : f₁ ≡ true = Q.is_mine ∙ (both (ltb (R.restart z) e) (eqb z (at R.trace e)) me).0 in
        rw (i, Q.at_is) (far_a f₃ l₂ (4 * e + 1) (put_w a c) (4 * e) (λ w. omega arith) ∙ far_a f₂ l₁ (4 * e + 2) (orp_w a z) (4 * e) (λ w. omega arith)
        ∙ at_a f₁ l (4 * e) (cur_w a z) (omega (arith, H.l_long, n_le)) ∙ rw fe (H.cur z zl)))
        (λ u. link_far (4 * d) (omega arith) ∙ H.next d u g m)

    chain_orphan : (d : ℕ) → x < d → d ≤ size R.trace → (mine R (at R.trace d) d && orph R (at R.trace d) d) ≡ true → get_or l₃ (4 * d + 2) 0 ≡ head0 (rest R (λ y. mine R (at R.trace d) y && orph R (at R.trace d) y) d)
    chain_orphan d h g m = on (le? d e)
        (λ u. let i : d ≡ e = omega arith in
        let me : (mine R z e && orph R z e) ≡ true = subst (λ y. (mine R y e && orph R y e) ≡ true) Q.at_is (subst (λ y. (mine R (at R.trace y) y && orph R (at R.trace y) y) ≡ true) i m) in
        let fe : f₂ ≡ true = Q.is_orphan ∙ me in
        rw (i, Q.at_is) (far_a f₃ l₂ (4 * e + 1) (put_w a c) (4 * e + 2) (λ w. omega arith)
        ∙ at_a f₂ l₁ (4 * e + 2) (orp_w a z) (omega (arith, m₁, H.l_long, n_le)) ∙ rw fe (H.orp z zl)))
        (λ u. link_far (4 * d + 2) (omega arith) ∙ H.next_orphan d u g m)

    chain_message : (p r d : ℕ) → x < d → d ≤ size R.trace → goes R p r d ≡ true → get_or l₃ (4 * d + 1) 0 ≡ head0 (evs R p r d)
    chain_message p r d h g m = on (le? d e)
        (λ u. let i : d ≡ e = omega arith in
        let me : ((eqb p z && eqb r q) && f₃) ≡ true = sym (Q.is_goes p r) ∙ subst (λ y. goes R p r y ≡ true) i m in
        let b = both (eqb p z && eqb r q) f₃ me in
        let s = same2 p z r q b.0 in
        rw (i, s.0, s.1) (at_a f₃ l₂ (4 * e + 1) (put_w a c) (omega (arith, m₂, H.l_long, n_le)) ∙ rw b.1 (H.puts z q zl ql)))
        (λ u. link_far (4 * d + 1) (omega arith) ∙ H.next_message p r d u g m)

    -- one event of the pass
    pub chained_next : cur_w a z < 2049 → orp_w a z < 2049 → put_w a c < 2049 → Chained R x l₃ a₅
    chained_next b₁ b₂ b₃ = record {
      l_long = omega (arith, m₃, H.l_long);
      a_long = chain_area.0;
      cur = chain_area.1;
      orp = chain_area.2;
      puts = chain_put;
      takes = chain_take;
      next = chain_next;
      next_message = chain_message;
      next_orphan = chain_orphan;
      num = chain_num;
      val = chain_val;
      beyond = λ k h. top k (omega arith) ∙ far_a f₃ a₃ (take_base + c) e k (λ w. omega (arith, zl, ql)) ∙ far_a f₃ a₂ (put_base + c) e k (λ w. omega (arith, zl, ql))
          ∙ chan_far k (omega arith) ∙ H.beyond k h;
      small = small_a f₃ l₂ (4 * e + 1) (put_w a c) b₃ (small_a f₂ l₁ (4 * e + 2) (orp_w a z) b₂ (small_a f₁ l (4 * e) (cur_w a z) b₁ H.small));
    }

  -- a link of the lists by phase is none of those
  pub chained_slot : (x : ℕ) (l a : List ℕ) (b : Bool) (e v : ℕ) → v < 2049 → Chained R x l a → Chained R x (chain_a b l (4 * e + 3) v) a
  chained_slot x l a b e v h H = record {
    l_long = omega (arith, len_a b l (4 * e + 3) v, H.l_long);
    a_long = H.a_long;
    cur = H.cur;
    orp = H.orp;
    puts = H.puts;
    takes = H.takes;
    next = λ d i k m. far_a b l (4 * e + 3) v (4 * d) (λ w. omega arith) ∙ H.next d i k m;
    next_message = λ p q d i k m. far_a b l (4 * e + 3) v (4 * d + 1) (λ w. omega arith) ∙ H.next_message p q d i k m;
    next_orphan = λ d i k m. far_a b l (4 * e + 3) v (4 * d + 2) (λ w. omega arith) ∙ H.next_orphan d i k m;
    num = H.num;
    val = H.val;
    beyond = H.beyond;
    small = small_a b l (4 * e + 3) v h H.small;
  }
