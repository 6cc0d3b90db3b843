-- An order carried out by words: one law for each way out of the functions that do it, for every run that the words
-- stand for.
use mathlib.Core.Path.{◌≡◌, refl, sym, ◌∙◌, ap, subst}
use mathlib.Core.Bool.{Bool, true, false}
use mathlib.Core.List.{List}
use Rattle.std.specs.Prelude.{Ok, Err}
use Prim.Native.Nat.{ℕ, ◌+◌, ◌≤◌, ◌<◌}
use native.Mathlib.Omega.{arith}
use lib.ListN.{length, get_or, replicate}
use Rattle.words.specs.Area.{area_words}
use Rattle.theory.specs.Line.{Run}
use Rattle.theory.specs.Order.{Outcome, carried_out, refused, run}
use Rattle.machine.specs.Inner.Words.{current_base, low_place, allowed_w, apply_w, none_allowed}
use Rattle.orders.specs.Inner.Left.{Live, Left}
use Rattle.orders.proofs.Orders.{live_bad, live_next, live_end, live_start, none_same, rel_bounded, record_left}
use Rattle.orders.specs.declared.NotAllowed.{NotAllowed}
use Rattle.machine.specs.Inner.Related.{Rel, Started}
use Rattle.machine.proofs.Choices.{rel_aimed}
use Rattle.theory.specs.Replay.{State, start}
use Rattle.theory.specs.Inner.Flow.{Inv}
use Rattle.theory.proofs.Loss.{inv_start}
use Rattle.columns.specs.Inner.Full.{procs_w}
use Rattle.machine.specs.Inner.Shapes.{Pointed, Ranged, Readable, Aimed, Movable, Tryable, Begun}
use Rattle.machine.specs.Inner.Tree.{Treed}
use Rattle.orders.specs.Answer.{answered, answer_of, words_of}

-- ---- What the tests and the steps of a replay ask of the words, where these stand for a state
module _ (t l g a₀ : List ℕ) (B : Begun t l g a₀) (a : List ℕ) (long : length a ≡ length a₀) (s : State) (r : Rel B.run a s) (i : Inv B.run s) where
  pub ranged : Ranged t a
  ranged =
      let S = B.started in
      let pointed : Pointed a = record { area_long = long ∙ B.area_long; bounded = rel_bounded B.run S.laws t l g S.cols a s r i } in
      record { full_long = B.full_long; pointed = pointed }

  pub readable : Readable t g a
  readable = record { ranged = ranged; gates_long = B.started.cols.gated.long }

  pub aimed : Aimed t a
  aimed = let S = B.started in rel_aimed B.run S.laws t l g S.cols a s r i

  pub movable : Movable t l a
  movable = record { ranged = ranged; aimed = aimed; links_long = B.started.cols.spread; small = B.small }

  pub tryable : (tree : List ℕ) → Treed t a tree → Tryable t l g tree a
  tryable tree T = record { movable = movable; gates_long = B.started.cols.gated.long; treed = T }

-- ---- An order, choice by choice
module _ (R : Run) (t l g a₀ : List ℕ) (S : Started R t l g a₀) where
  pub run_starts : (ns : List ℕ) → Live R a₀ 0 ns (run R ns)
  run_starts ns = live_start R S.laws t l g S.cols a₀ ns S.rel

  pub run_bad : (a b : List ℕ) (i : ℕ) (ns : List ℕ) (w : Outcome) (c : ℕ) (r : Bool) → Live R a i ns w → i < length ns → c ≡ get_or ns i 0
      → r ≡ allowed_w t g a c → r ≡ false → Left R b (length ns) w (Err (record { place = i + 1 }))
  unfolding Left
  run_bad a b i ns w c r v h ec er f =
      subst (λ x. Left R b (length ns) x (Err (record { place = i + 1 }))) (sym (live_bad R S.laws t l g S.cols a i ns w v h (rw (← ec) (sym er ∙ f)))) (refl, omega arith, omega arith)

  pub run_next : (a b : List ℕ) (i : ℕ) (ns : List ℕ) (w : Outcome) (c : ℕ) (r : Bool) → Live R a i ns w → i < length ns → c ≡ get_or ns i 0
      → r ≡ allowed_w t g a c → r ≡ true → b ≡ apply_w t l a c → Live R b (i + 1) ns w
  run_next a b i ns w c r v h ec er f eb =
      subst (λ x. Live R x (i + 1) ns w) (sym (eb ∙ ap (apply_w t l a) ec)) (live_next R S.laws t l g S.cols a i ns w v h (rw (← ec) (sym er ∙ f)))

  pub run_end : (a : List ℕ) (i : ℕ) (ns : List ℕ) (w : Outcome) → Live R a i ns w → i ≤ length ns → length ns ≤ i → Left R a (length ns) w (Ok i)
  unfolding Left
  run_end a i ns w v m h =
      let e = live_end R S.laws t l g S.cols a i ns w v h in
      subst (λ x. Left R a (length ns) x (Ok i)) (sym e.3) (omega arith, e.1, e.2)

  -- refused
  pub stop_answer : (a : List ℕ) (w : Outcome) (e : NotAllowed) (n : ℕ) → Left R a n w (Err e) → answered (Err e) ≡ answer_of R w n
  unfolding Left answer_of
  stop_answer a (carried_out s) e n v = absurd v
  stop_answer a (refused i) e n v = rw v.0

  pub stop_words : (a b : List ℕ) (w : Outcome) (e : NotAllowed) (n : ℕ) → Left R a n w (Err e) → length a ≡ area_words → b ≡ replicate (length a) 0 → b ≡ words_of R w
  unfolding Left words_of
  stop_words a b (carried_out s) e n v h q = absurd v
  stop_words a b (refused i) e n v h q = q ∙ ap (λ k. replicate k 0) h

  -- carried out: the steps that were counted are as many as the order has choices
  pub went_answer : (a : List ℕ) (w : Outcome) (r n : ℕ) (b : Bool) → Left R a n w (Ok r) → b ≡ none_allowed t g a
      → answered (Ok (record { steps = r; complete = b })) ≡ answer_of R w n
  unfolding Left answer_of
  went_answer a (carried_out s) r n b v d = rw (v.0, d, none_same R S.laws t l g S.cols a s v.1 v.2)
  went_answer a (refused i) r n b v d = absurd v

  pub went_words : (a b : List ℕ) (w : Outcome) (r n : ℕ) → Left R a n w (Ok r) → length b ≡ area_words
      → ((k : ℕ) → (current_base ≤ k → low_place < k) → get_or b k 0 ≡ get_or a k 0) → ((k : ℕ) → current_base ≤ k → k ≤ low_place → get_or b k 0 ≡ 0) → b ≡ words_of R w
  unfolding Left words_of
  went_words a b (carried_out s) r n v j others zeros = record_left R S.laws t l g S.cols a b s v.1 j others zeros
  went_words a b (refused i) r n v j others zeros = absurd v

-- what the tests of an order that was carried out ask
pub went_asked : (t l g a₀ : List ℕ) (B : Begun t l g a₀) (a : List ℕ) → length a ≡ length a₀ → (w : Outcome) (r n : ℕ) → Left B.run a n w (Ok r) → Aimed t a × Readable t g a
unfolding Left
went_asked t l g a₀ B a long (carried_out s) r n v = (aimed t l g a₀ B a long s v.1 v.2, readable t l g a₀ B a long s v.1 v.2)
went_asked t l g a₀ B a long (refused i) r n v = absurd v

-- what its first state does
pub first_asked : (t l g a₀ : List ℕ) (B : Begun t l g a₀) → (procs_w t ≤ 64) × Ranged t a₀
first_asked t l g a₀ B =
    let S = B.started in
    let i = inv_start B.run S.laws in
    ((aimed t l g a₀ B a₀ refl (start B.run) S.rel i).procs_few, ranged t l g a₀ B a₀ refl (start B.run) S.rel i)
