-- One law for each way out of a function and each way round a loop, over the values that the code has there.
use mathlib.Core.Path.{◌≡◌, refl, sym, ◌∙◌, ap}
use mathlib.Core.Bool.{Bool, true, false, not}
use mathlib.Core.List.{List}
use Rattle.std.specs.Prelude.{Option, Some, None, IfSome, IfNone, is_some}
use Prim.Native.Nat.{ℕ, ◌+◌, ◌-◌, ◌*◌, ◌≤◌, ◌<◌}
use native.Mathlib.Omega.{arith}
use lib.ListN.{get_or, set}
use lib.Seq.{get_or-set_other}
use borrow.Author.Tests.{lt-ltb, le-ltb, eq-eqb, ne_eqb}
use lib.Dec.{eqb}
use Rattle.words.proofs.Cases.{by_lt, clash}
use Rattle.sets.specs.Inner.Sets.{with_in}
use Rattle.machine.specs.Inner.Words.{current_base, orphan_base, take_base, put_base, low_place, cur_w, orp_w, take_w, put_w, send_ok, event_ok, moved_w, drop_w, put_in_w, take_out_w, event_step_w, process_w, apply_w, wakes_at, wakes}
use Rattle.machine.specs.Inner.Shapes.{Aimed}
use Rattle.machine.specs.Inner.Tree.{Treed}
use Rattle.machine.proofs.Noted.{noted_other}
use Rattle.machine.proofs.Steps.{event_send, event_recv, event_other}
use Rattle.machine.proofs.Tree.{tree_low, treed_same}
use Rattle.columns.specs.Inner.Full.{procs_w, kind_w, peer_w}
use Rattle.moves.specs.Inner.Tried.{Tried}

module _ (t l a : List ℕ) (z e k p : ℕ) (ek : k ≡ kind_w t e) (ep : p ≡ peer_w t e) where
  event_drop : (b : List ℕ) → k ≡ 1 → (o : ℕ) → o ≡ orp_w a z → o ≡ e → b ≡ drop_w t l a z e → b ≡ event_step_w t l a z e
  unfolding event_step_w
  event_drop b s o eo h eb = rw (← ek, eq-eqb k 1 s, ← eo, eq-eqb o e h) eb

  event_put : (b : List ℕ) → k ≡ 1 → (o : ℕ) → o ≡ orp_w a z → (o ≡ e → ⊥) → b ≡ put_in_w l a (64 * z + p) → b ≡ event_step_w t l a z e
  unfolding event_step_w
  event_put b s o eo h eb = rw (← ek, ← ep, eq-eqb k 1 s, ← eo, ne_eqb o e h) eb

  event_take : (b : List ℕ) → (k ≡ 1 → ⊥) → k ≡ 2 → b ≡ take_out_w t l a (64 * p + z) e → b ≡ event_step_w t l a z e
  unfolding event_step_w
  event_take b n r eb = rw (← ek, ← ep, ne_eqb k 1 n, eq-eqb k 2 r) eb

  event_move : (k ≡ 1 → ⊥) → (k ≡ 2 → ⊥) → a ≡ event_step_w t l a z e
  unfolding event_step_w
  event_move n r = rw (← ek, ne_eqb k 1 n, ne_eqb k 2 r)

-- ---- An event tried

module _ (ok : Bool) (done : List ℕ) (whom : ℕ) (a tree : List ℕ) where
  pub tried_no : ok ≡ false → Tried ok done whom a tree a tree None
  tried_no f = record { refused = (f, refl, refl); carried = tt; woken = tt }

  pub tried_yes : (b tree' : List ℕ) (r : ℕ) → ok ≡ true → b ≡ done → r ≡ with_in 0 whom → Tried ok done whom a tree b tree' (Some r)
  tried_yes b tree' r y d w = record { refused = tt; carried = (y, d); woken = w }

module _ (t l g a tree : List ℕ) (z e p : ℕ) (ep : p ≡ peer_w t e) where
  abbrev TriedTo : List ℕ → List ℕ → Option ℕ → Type 0
  TriedTo b tree' r = Tried (event_ok t g a z e) (event_step_w t l a z e) (wakes_at t a z e) a tree b tree' r

  module _ (k : kind_w t e ≡ 1) (m : ℕ) (s : Bool) (em : m ≡ put_w a (64 * z + p)) (es : s ≡ send_ok (get_or g (64 + z) 0) m) where
    ok : s ≡ event_ok t g a z e
    ok = event_send t g a z e _ p refl ep m s k em es

    pub send_no : s ≡ false → TriedTo a tree None
    send_no f = tried_no _ _ _ a tree (sym ok ∙ f)

    module _ (o : ℕ) (b tree' : List ℕ) (r : ℕ) (y : s ≡ true) (eo : o ≡ orp_w a z) where
      wakes_drop : o ≡ e → z ≡ wakes_at t a z e
      unfolding wakes_at
      wakes_drop h = rw (eq-eqb (kind_w t e) 1 k, ← eo, eq-eqb o e h)

      wakes_put : (o ≡ e → ⊥) → p ≡ wakes_at t a z e
      unfolding wakes_at
      wakes_put h = rw (eq-eqb (kind_w t e) 1 k, ← eo, ne_eqb o e h) ep

      pub send_drop : o ≡ e → b ≡ drop_w t l a z e → r ≡ with_in 0 z → TriedTo b tree' (Some r)
      send_drop h eb er = tried_yes _ _ _ a tree b tree' r (sym ok ∙ y) (event_drop t l a z e _ p refl ep b k o eo h eb) (er ∙ ap (with_in 0) (wakes_drop h))

      pub send_put : (o ≡ e → ⊥) → b ≡ put_in_w l a (64 * z + p) → r ≡ with_in 0 p → TriedTo b tree' (Some r)
      send_put h eb er = tried_yes _ _ _ a tree b tree' r (sym ok ∙ y) (event_put t l a z e _ p refl ep b k o eo h eb) (er ∙ ap (with_in 0) (wakes_put h))

  -- no send
  wakes_self : (kind_w t e ≡ 1 → ⊥) → z ≡ wakes_at t a z e
  unfolding wakes_at
  wakes_self n = rw (ne_eqb (kind_w t e) 1 n)

  module _ (k : kind_w t e ≡ 2) (m n : ℕ) (em : m ≡ take_w a (64 * p + z)) (en : n ≡ put_w a (64 * p + z)) where
    ready : not (eqb m n) ≡ event_ok t g a z e
    ready = rw (em, en) (event_recv t g a z e _ p refl ep (λ q. omega arith) k)

    pub receive_no : m ≡ n → TriedTo a tree None
    receive_no h = tried_no _ _ _ a tree (sym ready ∙ rw (eq-eqb m n h))

    pub receive_yes : (b : List ℕ) (r : ℕ) → (m ≡ n → ⊥) → b ≡ take_out_w t l a (64 * p + z) e → r ≡ with_in 0 z → TriedTo b tree (Some r)
    receive_yes b r h eb er =
        tried_yes _ _ _ a tree b tree r (sym ready ∙ rw (ne_eqb m n h)) (event_take t l a z e _ p refl ep b (λ q. omega arith) k eb) (er ∙ ap (with_in 0) (wakes_self (λ q. omega arith)))

  pub other_yes : (r : ℕ) → (kind_w t e ≡ 1 → ⊥) → (kind_w t e ≡ 2 → ⊥) → r ≡ with_in 0 z → TriedTo a tree (Some r)
  other_yes r n h er =
      tried_yes _ _ _ a tree a tree r (sym (event_other t g a z e _ p refl ep n h)) (event_move t l a z e _ p refl ep n h) (er ∙ ap (with_in 0) (wakes_self n))

-- ---- The tree, where no orphan is sent again

module _ (t l a tree : List ℕ) (T : Treed t a tree) where
  pub treed_put : (b : List ℕ) (c : ℕ) → b ≡ put_in_w l a c → Treed t b tree
  unfolding put_in_w
  treed_put b c e = rw e (treed_same t a _ tree (λ z h. get_or-set_other a (put_base + c) (orphan_base + z) _ 0 (λ q. omega arith)) T)

  pub treed_take : (b : List ℕ) (c e : ℕ) → e < 2049 → b ≡ take_out_w t l a c e → Treed t b tree
  unfolding take_out_w
  treed_take b c e h eb =
      rw eb (treed_same t a _ tree (λ z k. noted_other t _ e (take_w a c) (orphan_base + z) (λ q. omega arith) (λ x y q. omega arith)
      ∙ get_or-set_other a (take_base + c) (orphan_base + z) _ 0 (λ q. omega arith)) T)

  pub treed_move : (z v : ℕ) → z < 64 → Treed t (set a (current_base + z) v) tree
  treed_move z v h = treed_same t a _ tree (λ y k. get_or-set_other a (current_base + z) (orphan_base + y) v 0 (λ q. omega arith)) T

  pub treed_low : (v : ℕ) → Treed t (set a low_place v) tree
  treed_low v = treed_same t a _ tree (λ y k. get_or-set_other a low_place (orphan_base + y) v 0 (λ q. omega arith)) T

-- an orphan is: the stores, with the least phase by the tree
pub dropped : (t l a tree : List ℕ) (z e o : ℕ) → procs_w t ≤ 64 → o ≡ get_or l (4 * e + 2) 0 → Treed t (set a (orphan_base + z) o) tree
    → set (set a (orphan_base + z) o) low_place (get_or tree 1 0) ≡ drop_w t l a z e
unfolding drop_w
dropped t l a tree z e o few eo T = rw (tree_low t _ tree few T, eo)

-- ---- A process's next event, and a choice

pub process_done : (t l a b : List ℕ) (z e : ℕ) → e ≡ cur_w a z → b ≡ event_step_w t l a z e → set b (current_base + z) (get_or l (4 * e) 0) ≡ process_w t l a z
unfolding process_w moved_w
process_done t l a b z e ee eb = rw (← ee, ← eb)

pub process_wakes : (t a : List ℕ) (z e : ℕ) → e ≡ cur_w a z → wakes_at t a z e ≡ wakes t a z
unfolding wakes
process_wakes t a z e ee = rw ee

module _ (t l a b : List ℕ) (c : ℕ) where
  pub apply_process : c < 64 → b ≡ process_w t l a c → b ≡ apply_w t l a c
  unfolding apply_w
  apply_process h eb = rw (lt-ltb c 64 h) eb

  pub apply_hand : 64 ≤ c → b ≡ put_in_w l a (c - 64) → b ≡ apply_w t l a c
  unfolding apply_w
  apply_hand h eb = rw (le-ltb c 64 h) eb

-- only a process of the table has a next event
pub is_process : (t a : List ℕ) (z e : ℕ) → Aimed t a → z < 64 → e ≡ cur_w a z → (e ≡ 0 → ⊥) → z < procs_w t
is_process t a z e A h ee n = by_lt z (procs_w t) (λ l. l) (λ l. absurd (n (ee ∙ A.no_event z h l)))

-- a process's answer tells whether it was allowed
module _ (ok : Bool) (a b tree tree' : List ℕ) where
  pub choice_told : (done : List ℕ) (r : Option ℕ) → IfNone r ((ok ≡ false) × (b ≡ a) × (tree' ≡ tree)) → IfSome r (λ w. (ok ≡ true) × (b ≡ done)) → is_some r ≡ ok
  choice_told done None f g = sym f.0
  choice_told done (Some w) f g = sym g.0

  pub choice_refused : (r : Option ℕ) → IfNone r ((ok ≡ false) × (b ≡ a) × (tree' ≡ tree)) → is_some r ≡ false → (b ≡ a) × (tree' ≡ tree)
  choice_refused None f e = (f.1, f.2)
  choice_refused (Some w) f e = clash {b = true} refl e

pub choice_done : (allowed : Bool) (b done : List ℕ) (r : Option ℕ) → IfSome r (λ w. (allowed ≡ true) × (b ≡ done)) → is_some r ≡ true → b ≡ done
choice_done allowed b done None g e = clash {b = false} e refl
choice_done allowed b done (Some w) g e = g.1
