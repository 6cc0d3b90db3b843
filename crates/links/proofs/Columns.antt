-- The tests of the pass mean what they should for the run that is given (`tested`): from the one view of the full
-- table, the classes of messages, and Matches.
use mathlib.Core.Path.{◌≡◌, refl, sym, ap, ◌∙◌}
use mathlib.Core.Logic.{◌⊎◌, inl, inr}
use mathlib.Core.Bool.{Bool, true, false, ◌&&◌, and-true, and-false, cond}
use mathlib.Core.List.{List}
use Prim.Native.Nat.{ℕ, ◌≤◌, ◌<◌}
use native.Mathlib.Omega.{arith}
use lib.Dec.{leb, ltb, eqb}
use borrow.Author.Tests.{eqb-true, lt-ltb, le-leb, eq-eqb}
use Rattle.words.specs.Halves.{half}
use Rattle.words.proofs.Halves.{half_none}
use Rattle.trace.specs.Trace.{Trace}
use Rattle.theory.specs.Events.{send, recv, other, size, at, kind, sends, sent}
use Rattle.theory.specs.Line.{Run}
use Rattle.theory.specs.Replay.{start}
use Rattle.theory.specs.Inner.Laws.{Laws}
use Rattle.theory.proofs.Base.{by, on, same2}
use Rattle.theory.proofs.Events.{sends_split, sends_is, recvs_is}
use Rattle.columns.specs.Inner.Columns.{Tabled}
use Rattle.columns.specs.Inner.Full.{kind_w, peer_w, value_w, number_w, at_w, match_w, kind_by}
use Rattle.columns.specs.Inner.Given.{Given}
use Rattle.columns.proofs.Full.{at_is, kind_is, kind_send, kind_receive, recv_value, recv_number}
use Rattle.classes.specs.Inner.Classes.{Classed}
use Rattle.classes.proofs.Classes.{class_is}
use Rattle.machine.specs.Taken.{taken_number, taken_value}
use Rattle.machine.specs.Inner.Related.{goes, drops, orph}
use Rattle.links.specs.Inner.Linking.{mine_w, sent_class, orphan_w, goes_class, goes_w, early_w}
use Rattle.links.specs.Inner.Linked.{mine}
use Rattle.links.proofs.Passes.{Tested}
use Rattle.links.proofs.Matches.{goes_test, orphan_test, slot_start}

-- half of what is there where a test holds
half_where : (c : Bool) (b v : ℕ) → cond c (half b v) 0 ≡ half b (cond c v 0)
half_where true b v = refl
half_where false b v = sym (half_none b)

module _ (R : Run) (cut : ℕ) (full gates : List ℕ) (G : Given R cut full gates) where
  abbrev t : Trace
  t = R.trace

  T : Tabled t full
  T = G.tells.tabled

  L : Laws R
  L = G.tells.laws

  -- ---- The tests of the pass, at event e
  module _ (e : ℕ) (h : 0 < e) (k : e ≤ size t) where
    abbrev z : ℕ
    z = at_w full e

    abbrev q : ℕ
    q = peer_w full e

    zi : at t e ≡ z
    zi = sym (at_is t full T e h k)

    z_in : z < t.procs
    z_in = omega (arith, L.process_lt e h k, zi)

    is_mine : mine_w full gates e ≡ ltb (R.restart z) e
    is_mine = rw (G.gated.places z z_in)

    mine_is : mine R z e ≡ ltb (R.restart z) e
    mine_is = let a : eqb z (at t e) ≡ true = eq-eqb z (at t e) (sym zi) in rw a (and-true (ltb (R.restart z) e))

    -- an event that is no send, by its word
    no_send : eqb (kind_w full e) 1 ≡ false → (kind t e ≡ recv q) ⊎ (kind t e ≡ other)
    unfolding kind_by
    no_send n = by (eqb (kind_w full e) 2)
        (λ d. inl (kind_is t full T e h k ∙ rw (n, d)))
        (λ d. inr (kind_is t full T e h k ∙ rw (n, d)))

    -- of a send
    module _ (c : eqb (kind_w full e) 1 ≡ true) where
      on_channel_lem : sends t z q e ≡ true
      on_channel_lem = kind_send t full T e h k (eqb-true (kind_w full e) 1 c)

      sends_q : kind t e ≡ send q
      sends_q = (sends_is t z q e on_channel_lem).1

      told : Classed R z q (sent t z q e) (sent_class full gates cut e)
      unfolding sent_class
      told = rw c (class_is R cut full gates G z q e on_channel_lem h k)

      goes_is : goes R z q e ≡ goes_w full gates cut e
      unfolding goes_class
      goes_is = goes_test R L z q e on_channel_lem h k ∙ rw (told.is_kept, told.is_upcoming)

      orphan_is : orphan_w full gates cut e ≡ (mine R z e && orph R z e)
      orphan_is = sym told.is_orphan ∙ orphan_test R L z q e on_channel_lem h k sends_q ∙ rw mine_is

    none_sent : eqb (kind_w full e) 1 ≡ false → sent_class full gates cut e ≡ 0
    unfolding sent_class
    none_sent n = rw n

    not_sent : (p r : ℕ) → sends t p r e ≡ false → goes R p r e ≡ false
    unfolding goes
    not_sent p r n = rw n

    is_goes : (p r : ℕ) → goes R p r e ≡ ((eqb p z && eqb r q) && goes_w full gates cut e)
    is_goes p r = by (eqb (kind_w full e) 1)
        (λ c. by (eqb p z && eqb r q)
        (λ s. let i = same2 p z r q s in rw (s, i.0, i.1) (goes_is c))
        (λ s. rw s (not_sent p r (sends_split t p r e ∙ rw (sends_q c, zi) s))))
        (λ c. rw (none_sent c) (unfold goes_class in rw (and-false (eqb p z && eqb r q))
        (not_sent p r (sends_split t p r e ∙ on (no_send c)
        (λ d. rw d (and-false (eqb p (at t e))))
        (λ d. rw d (and-false (eqb p (at t e))))))))

    is_orphan : orphan_w full gates cut e ≡ (mine R z e && orph R z e)
    unfolding drops
    is_orphan = by (eqb (kind_w full e) 1)
        orphan_is
        (λ c. rw (none_sent c) (on (no_send c)
        (λ d. rw (d, and-false (mine R z e)))
        (λ d. rw (d, and-false (mine R z e)))))

    in_e : (ltb 0 e && leb e (size t)) ≡ true
    in_e = rw (lt-ltb 0 e h, le-leb e (size t) k)

    is_record : (cond (early_w full gates e) (number_w full (match_w full e)) 0 ≡ taken_number R (start R) e)
        × ((b : ℕ) → b < 2 → cond (early_w full gates e) (value_w b full (match_w full e)) 0 ≡ half b (taken_value R (start R) e))
    unfolding early_w taken_number taken_value
    is_record = rw in_e (by (eqb (kind_w full e) 2)
        (λ d. let rr = kind_receive t full T e h k (eqb-true (kind_w full e) 2 d) in
        let kk = (recvs_is t q z e rr).1 in
        let s = slot_start R L q z e h rr in
        rw (d, kk, zi, recv_number t full T q z e rr h k, G.gated.places z z_in)
        (s.0, λ b l. rw (recv_value t full T q z e rr h k b l) (half_where (leb e (R.restart z)) b _ ∙ ap (half b) s.1)))
        (λ d. rw d (by (eqb (kind_w full e) 1)
        (λ c. rw (sends_q c) (refl, λ b l. sym (half_none b)))
        (λ c. let kk : kind t e ≡ other = unfold kind_by in kind_is t full T e h k ∙ rw (c, d) in rw kk (refl, λ b l. sym (half_none b))))))

  pub tested : Tested R full gates cut
  unfolding Tested
  tested e h k = record {
    z_lt = omega arith;
    q_lt = omega arith;
    at_is = zi e h k;
    is_mine = is_mine e h k;
    is_orphan = is_orphan e h k;
    is_goes = is_goes e h k;
    is_number = (is_record e h k).0;
    is_value = (is_record e h k).1;
  }
