-- The class of a send, by the words of the full table, is what the theory says of its message: `class_is`.
use Prim.Native.Nat.{ℕ, ◌+◌, ◌<◌, ◌≤◌}
use mathlib.Core.Path.{◌≡◌, refl, sym, ap, ◌∙◌}
use mathlib.Core.Bool.{Bool, true, false, ◌&&◌, ◌||◌, not, cond, and-false}
use mathlib.Core.List.{List}
use native.Mathlib.Omega.{arith}
use lib.Dec.{leb, ltb, eqb}
use lib.ListN.{get_or}
use borrow.Author.Tests.{le-leb, lt-leb, leb-true, lt-ltb, le-ltb, ltb-true}
use Rattle.words.proofs.Cases.{by_lt, clash, and_left, and_right}
use Rattle.trace.specs.Trace.{Trace}
use Rattle.trace.specs.Table.{peer_in}
use Rattle.theory.specs.Events.{size, sends, sent, send_of, recv_of}
use Rattle.theory.specs.Line.{Run, sent_before, sent_after, received, received_before, undone, lost, orphan, kept}
use Rattle.theory.proofs.Events.{send_of_at}
use Rattle.columns.specs.Inner.Columns.{Tabled}
use Rattle.columns.specs.Inner.Full.{event_w, at_w, match_w, logged_w}
use Rattle.columns.specs.Inner.Given.{Given}
use Rattle.columns.proofs.Full.{send_kind, send_ends, send_match_most, send_match, send_logged, recv_match}
use Rattle.classes.specs.Inner.Classes.{upcoming, Classed}
use Rattle.classes.specs.Inner.Words.{done_by, class_by, class_w}

-- the tests of theory's specs/Line over the tests of the words: a before the sender's restart, c by the cut, b the
-- receive before the receiver's restart, d by the cut, l logged
pub pick_class : Bool → Bool → Bool → Bool → ℕ
pick_class a b d l = cond a (cond b 0 (cond d (cond l 2 3) 2)) (cond b 1 4)

record Picked (a c b d l : Bool) : Type 0 where
  orphans : ((not a && c) && b) ≡ eqb (pick_class a b d l) 1
  keeps : (a && (((d && not b) && l) || not d)) ≡ eqb (pick_class a b d l) 2
  loses : ((d && not b) && (a && not l)) ≡ eqb (pick_class a b d l) 3
  comes : (not a && not b) ≡ eqb (pick_class a b d l) 4

-- a receive before the receiver's restart is by the cut, and so is its send
picked : (b c d a l : Bool) → (b ≡ true → c ≡ true) → (b ≡ true → d ≡ true) → Picked a c b d l
unfolding pick_class
picked true false d a l f g = clash {b = false} (f refl) refl
picked true true false a l f g = clash {b = false} (g refl) refl
picked true true true true l f g = record { orphans = refl; keeps = refl; loses = refl; comes = refl }
picked true true true false l f g = record { orphans = refl; keeps = refl; loses = refl; comes = refl }
picked false c true true true f g = record { orphans = refl; keeps = refl; loses = refl; comes = refl }
picked false c true true false f g = record { orphans = refl; keeps = refl; loses = refl; comes = refl }
picked false c true false l f g = record { orphans = and-false c; keeps = refl; loses = refl; comes = refl }
picked false c false true l f g = record { orphans = refl; keeps = refl; loses = refl; comes = refl }
picked false c false false l f g = record { orphans = and-false c; keeps = refl; loses = refl; comes = refl }

-- whether a message is logged matters only where its receive is done by the cut
pick_logged : (a b d l m : Bool) → (d ≡ true → l ≡ m) → pick_class a b d l ≡ pick_class a b d m
unfolding pick_class
pick_logged a b true l m h = rw (h refl)
pick_logged a b false l m h = refl

not_leb : (a b : ℕ) → ltb b a ≡ not (leb a b)
not_leb a b = by_lt b a (λ h. rw (lt-ltb b a h, lt-leb a b h)) (λ h. rw (le-ltb b a h, le-leb a b h))

done_is : (m x : ℕ) → done_by m x ≡ true → (0 < m) × (m ≤ x)
done_is m x d = (ltb-true 0 m (and_left (ltb 0 m) (leb m x) d), leb-true m x (and_right (ltb 0 m) (leb m x) d))

flag_is : (b : Bool) → eqb (cond b 1 0) 1 ≡ b
flag_is true = refl
flag_is false = refl

-- a message is sent before it is received
sent_first : (t : Trace) (full : List ℕ) (T : Tabled t full) (p q e : ℕ) → sends t p q e ≡ true → 0 < e → e ≤ size t → 0 < match_w full e → e < match_w full e
sent_first t full T p q e s a b h =
    let l = send_match_most t full T p q e s a b in
    let r = send_match t full T p q e s a b h in
    let d = recv_match t full T p q (match_w full e) r.0 h l in
    let n : match_w full (match_w full e) ≤ size t = omega (arith, d.1) in
    let i : match_w full (match_w full e) ≡ e =
    sym (send_of_at t p q (match_w full (match_w full e)) d.2 d.0 n) ∙ ap (send_of t p q) (d.3 ∙ r.1) ∙ send_of_at t p q e s a b in
    omega (arith, i, d.1)

module _ (R : Run) (cut : ℕ) (full gates : List ℕ) (G : Given R cut full gates) (p q e : ℕ)
    (s : sends R.trace p q e ≡ true) (a : 0 < e) (b : e ≤ size R.trace) where
  abbrev t : Trace
  t = R.trace

  abbrev k : ℕ
  k = sent t p q e

  abbrev m : ℕ
  m = match_w full e

  abbrev before : Bool
  before = leb e (R.restart p)

  abbrev back : Bool
  back = done_by m (R.restart q)

  abbrev done : Bool
  done = done_by m R.cut

  T : Tabled t full
  T = G.tells.tabled

  logged_same : done ≡ true → eqb (logged_w full m) 1 ≡ R.logged p q k
  logged_same h =
      ap (λ (w : ℕ). eqb w 1) (send_logged t full T p q e s a b R.logged G.tells.flags (done_is m R.cut h).0) ∙ flag_is (R.logged p q k)

  class_word : class_w full gates cut e ≡ pick_class before back done (R.logged p q k)
  unfolding class_w class_by pick_class
  class_word =
      let w = send_kind t full T e a b p q s in
      let n = send_ends t full T p q e s a b in
      rw (w.1, w.2, G.gated.places p n.0, G.gated.places q n.1, G.cut_is)
      (unfold pick_class in pick_logged before back done (eqb (logged_w full m) 1) (R.logged p q k) logged_same)

  at_e : send_of t p q k ≡ e
  at_e = send_of_at t p q e s a b

  match_is : recv_of t p q k ≡ m
  match_is = sym (T.columns.match_send p q e s a b)

  tests : Picked before (leb e R.cut) back done (R.logged p q k)
  tests =
      let L = G.tells.laws in
      picked back (leb e R.cut) done before (R.logged p q k)
      (λ h. let d = done_is m (R.restart q) h in
      le-leb e R.cut (omega (arith, sent_first t full T p q e s a b d.0, d.1, L.restart_le q)))
      (λ h. let d = done_is m (R.restart q) h in
      rw (lt-ltb 0 m d.0, le-leb m R.cut (omega (arith, d.1, L.restart_le q))))

  pub class_is : Classed R p q (sent R.trace p q e) (class_w full gates cut e)
  unfolding orphan kept lost upcoming sent_before sent_after undone received received_before
  class_is = rw class_word (record {
    is_orphan = rw (at_e, match_is, not_leb e (R.restart p)) tests.orphans;
    is_kept = rw (at_e, match_is, lt-ltb 0 e a) tests.keeps;
    is_lost = rw (at_e, match_is, lt-ltb 0 e a) tests.loses;
    is_upcoming = rw (at_e, match_is, not_leb e (R.restart p)) tests.comes;
  })

-- what the class of the words means
pub told : (full gates : List ℕ) (cut e r : ℕ) → r ≡ class_w full gates cut e → (R : Run) (p q : ℕ) → Given R cut full gates → sends R.trace p q e ≡ true
    → 0 < e → e ≤ size R.trace → Classed R p q (sent R.trace p q e) r
told full gates cut e r i R p q G s a b = rw i (class_is R cut full gates G p q e s a b)
