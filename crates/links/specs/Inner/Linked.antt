-- What the pass of specs/Inner/Linking has done when it has come down to event x: every event after x is linked.
-- Definitions only.
use Rattle.std.specs.Prelude.{◌≡◌, Bool, true, ◌&&◌, cond, List, ℕ, ◌+◌, ◌-◌, ◌*◌, ◌≤◌, ◌<◌, length, get_or, ltb, eqb}
use Rattle.words.specs.Halves.{half}
use Rattle.theory.specs.Lists.{iv, keep}
use Rattle.theory.specs.Events.{size, at}
use Rattle.theory.specs.Line.{Run}
use Rattle.theory.specs.Replay.{start}
use Rattle.machine.specs.Taken.{taken_base, taken_number, taken_value}
use Rattle.machine.specs.Inner.Words.{low_place, cur_w, orp_w, take_w, put_w, Small}
use Rattle.theory.specs.Inner.Lists.{head0}
use Rattle.machine.specs.Inner.Related.{goes, evs, orph}

module _ (R : Run) where
  -- the listed events of a process
  abbrev pub mine : ℕ → ℕ → Bool
  mine z e = ltb (R.restart z) e && eqb z (at R.trace e)

  -- the events after x that pass a test
  abbrev pub rest : (ℕ → Bool) → ℕ → List ℕ
  rest f x = keep f (iv x (size R.trace - x))

  pub record Chained (x : ℕ) (l a : List ℕ) : Type 0 where
    pub l_long : 8197 ≤ length l
    pub a_long : length a ≡ 16384
    pub cur : (z : ℕ) → z < 64 → cur_w a z ≡ head0 (rest (mine z) x)
    pub orp : (z : ℕ) → z < 64 → orp_w a z ≡ head0 (rest (λ e. mine z e && orph R z e) x)
    pub puts : (p q : ℕ) → p < 64 → q < 64 → put_w a (64 * p + q) ≡ head0 (evs R p q x)
    pub takes : (p q : ℕ) → p < 64 → q < 64 → take_w a (64 * p + q) ≡ head0 (evs R p q x)
    pub next : (e : ℕ) → x < e → e ≤ size R.trace → mine (at R.trace e) e ≡ true → get_or l (4 * e) 0 ≡ head0 (rest (mine (at R.trace e)) e)
    pub next_message : (p q e : ℕ) → x < e → e ≤ size R.trace → goes R p q e ≡ true → get_or l (4 * e + 1) 0 ≡ head0 (evs R p q e)
    pub next_orphan : (e : ℕ) → x < e → e ≤ size R.trace → (mine (at R.trace e) e && orph R (at R.trace e) e) ≡ true
        → get_or l (4 * e + 2) 0 ≡ head0 (rest (λ d. mine (at R.trace e) d && orph R (at R.trace e) d) e)
    pub num : (e : ℕ) → e < 2049 → get_or a e 0 ≡ cond (ltb x e) (taken_number R (start R) e) 0
    pub val : (b e : ℕ) → b < 2 → e < 2049 → get_or a (taken_base b + e) 0 ≡ half b (cond (ltb x e) (taken_value R (start R) e) 0)
    pub beyond : (k : ℕ) → low_place < k → get_or a k 0 ≡ 0
    pub small : Small l
