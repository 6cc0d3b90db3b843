-- One law for each way out of a function and each way round a loop, over the values that the code has there.
use mathlib.Core.Path.{◌≡◌, sym, ◌∙◌}
use mathlib.Core.Bool.{true, false, and-false}
use mathlib.Core.List.{List}
use Prim.Native.Nat.{ℕ, min, ◌≤◌, ◌<◌}
use native.Mathlib.Omega.{arith}
use lib.ListN.{get_or, set}
use lib.Dec.{leb, ltb, eqb}
use borrow.Author.Tests.{lt-ltb, le-ltb, le-leb, lt-leb, eq-eqb, ne_eqb}
use Rattle.sets.specs.Inner.Sets.{with_in}
use Rattle.columns.specs.Inner.Full.{at_w, peer_w, kind_w, epoch_w, match_w, logged_w}
use Rattle.lowering.specs.Inner.Lowering.{lost_e, lost_w, lower_at, joined_by, undone_w}

-- ---- `lower_at`

module _ (t m : List ℕ) (e k : ℕ) (ek : k ≡ kind_w t e) where
  pub no_receive : (k ≡ 2 → ⊥) → lost_w t m e ≡ false
  unfolding lost_w
  no_receive h = let n : eqb (kind_w t e) 2 ≡ false = ne_eqb (kind_w t e) 2 (λ q. h (ek ∙ q)) in rw n

  module _ (ek2 : k ≡ 2) where
    is_two : eqb (kind_w t e) 2 ≡ true
    is_two = eq-eqb (kind_w t e) 2 (sym ek ∙ ek2)

    pub is_logged : logged_w t e ≡ 1 → lost_w t m e ≡ false
    unfolding lost_w lost_e
    is_logged l =
        rw (is_two, eq-eqb (logged_w t e) 1 l, and-false (ltb (epoch_w t (match_w t e)) (get_or m (peer_w t e) 0)), and-false (leb (get_or m (at_w t e) 0) (epoch_w t e)))

    pub received_early : (q : ℕ) → q ≡ at_w t e → epoch_w t e < get_or m q 0 → lost_w t m e ≡ false
    unfolding lost_w lost_e
    received_early q eq h =
        let a : leb (get_or m (at_w t e) 0) (epoch_w t e) ≡ false = rw (← eq) (lt-leb (get_or m q 0) (epoch_w t e) h) in
        rw (is_two, a)

    module _ (q p d : ℕ) (eq : q ≡ at_w t e) (ep : p ≡ peer_w t e) (ed : d ≡ match_w t e) where
      pub sent_late : get_or m p 0 ≤ epoch_w t d → lost_w t m e ≡ false
      unfolding lost_w lost_e
      sent_late h =
          let b : ltb (epoch_w t (match_w t e)) (get_or m (peer_w t e) 0) ≡ false = rw (← ed, ← ep) (le-ltb (epoch_w t d) (get_or m p 0) h) in
          rw (is_two, b, and-false (leb (get_or m (at_w t e) 0) (epoch_w t e)))

      pub is_lost : (logged_w t e ≡ 1 → ⊥) → get_or m q 0 ≤ epoch_w t e → epoch_w t d < get_or m p 0 → lost_w t m e ≡ true
      unfolding lost_w lost_e
      is_lost l g h =
          let a : leb (get_or m (at_w t e) 0) (epoch_w t e) ≡ true = rw (← eq) (le-leb (get_or m q 0) (epoch_w t e) g) in
          let b : ltb (epoch_w t (match_w t e)) (get_or m (peer_w t e) 0) ≡ true = rw (← ed, ← ep) (lt-ltb (epoch_w t d) (get_or m p 0) h) in
          rw (is_two, a, b, ne_eqb (logged_w t e) 1 l)
