-- How the words of a replay stand for a state of the theory's machine. Definitions only.
use Rattle.std.specs.Prelude.{◌≡◌, Bool, true, false, ◌&&◌, cond, List, ◌++◌, map, ℕ, ◌+◌, ◌-◌, ◌*◌, ◌≤◌, ◌<◌, length, get_or, leb, ltb}
use Rattle.words.specs.Halves.{half}
use Rattle.theory.specs.Lists.{iv, keep}
use Rattle.theory.specs.Events.{Kind, send, recv, other, size, at, kind, sends, sent, rcvd}
use Rattle.theory.specs.Line.{Run, kept}
use Rattle.theory.specs.Replay.{State, listed, ready, start}
use Rattle.theory.specs.Inner.Laws.{Laws}
use Rattle.theory.specs.Inner.Flow.{ahead}
use Rattle.machine.specs.Taken.{taken_base, taken_number, taken_value}
use Rattle.machine.specs.Inner.Words.{low_place, no_phase, cur_w, orp_w, take_w, put_w, low_w}
use Rattle.columns.specs.Inner.Given.{Tells, Gated}
use Rattle.theory.specs.Inner.Lists.{head0}

module _ (R : Run) where
  -- a send on the channel whose message goes through it in the replay: kept, or sent after the restart and not received
  -- before the other's
  unfoldable pub goes : ℕ → ℕ → ℕ → Bool
  goes p q e = sends R.trace p q e
      && cond (leb e (R.restart p)) (kept R p q (sent R.trace p q e)) (ltb (rcvd R.trace p q (R.restart q)) (sent R.trace p q e))

  -- those after event x
  unfoldable pub evs : ℕ → ℕ → ℕ → List ℕ
  evs p q x = keep (goes p q) (iv x (size R.trace - x))

  -- a send that the replay drops: after the restart, the send of an orphan
  unfoldable pub drops : ℕ → ℕ → Kind → Bool
  drops z e (send q) = leb (sent R.trace z q e) (rcvd R.trace z q (R.restart q))
  drops z e (recv p) = false
  drops z e other = false

  abbrev pub orph : ℕ → ℕ → Bool
  orph z e = drops z e (kind R.trace e)

  -- the table, the gates and the links are those of the run
  pub record Cols (t l g : List ℕ) : Type 0 where
    pub tells : Tells R t
    pub gated : Gated R g
    pub spread : 8197 ≤ length l
    pub next : (e : ℕ) → 0 < e → e ≤ size R.trace → R.restart (at R.trace e) < e → get_or l (4 * e) 0 ≡ head0 (listed R (at R.trace e) e)
    pub next_message : (p q e : ℕ) → 0 < e → e ≤ size R.trace → goes p q e ≡ true → get_or l (4 * e + 1) 0 ≡ head0 (evs p q e)
    pub next_orphan : (e : ℕ) → 0 < e → e ≤ size R.trace → R.restart (at R.trace e) < e → orph (at R.trace e) e ≡ true
        → get_or l (4 * e + 2) 0 ≡ head0 (keep (orph (at R.trace e)) (listed R (at R.trace e) e))

  -- a channel: the sends whose messages are in it, those whose messages are still to come
  pub record Chan (s : State) (p q tk pt : ℕ) : Type 0 where
    pub C : List ℕ
    pub F : List ℕ
    pub x : ℕ
    pub y : ℕ
    pub x_le : x ≤ size R.trace
    pub y_le : y ≤ size R.trace
    pub all : C ++ F ≡ evs p q x
    pub rest : F ≡ evs p q y
    pub inside : map (sent R.trace p q) C ≡ s.chan p q
    pub coming : map (sent R.trace p q) F ≡ s.left p q ++ ahead R p q (s.todo p)
    pub tk_is : tk ≡ head0 (C ++ F)
    pub pt_is : pt ≡ head0 F

  pub record Rel (a : List ℕ) (s : State) : Type 0 where
    pub room : 16384 ≤ length a
    pub cur : (z : ℕ) → z < 64 → cur_w a z ≡ head0 (s.todo z)
    pub orp : (z : ℕ) → z < 64 → orp_w a z ≡ head0 (keep (orph z) (s.todo z))
    pub low : (r : ℕ) → r < no_phase → ready R s r ≡ ltb r (low_w a)
    pub chan : (p q : ℕ) → p < 64 → q < 64 → Chan s p q (take_w a (64 * p + q)) (put_w a (64 * p + q))
    pub num : (e : ℕ) → e < 2049 → get_or a e 0 ≡ taken_number R s e
    pub val : (b e : ℕ) → b < 2 → e < 2049 → get_or a (taken_base b + e) 0 ≡ half b (taken_value R s e)
    pub beyond : (k : ℕ) → low_place < k → get_or a k 0 ≡ 0

  -- what a replay begins with
  pub record Started (t l g a : List ℕ) : Type 0 where
    pub laws : Laws R
    pub cols : Cols t l g
    pub rel : Rel a (start R)
