-- What a replay is given begins it: the words of the first state are in their ranges and stand for the run, whichever
-- run it is.
use mathlib.Core.Path.{◌≡◌, sym, ◌∙◌, ap}
use mathlib.Core.Bool.{true}
use mathlib.Core.List.{List}
use Prim.Native.Nat.{ℕ, ◌+◌, ◌≤◌, ◌<◌}
use native.Mathlib.Omega.{arith}
use lib.ListN.{length, get_or, set, replicate, length-replicate}
use borrow.Author.Tests.{eqb-true, eq-eqb, le-leb}
use Rattle.words.specs.Area.{area_words}
use Rattle.words.proofs.Area.{zero_word}
use Rattle.trace.specs.Trace.{Trace}
use Rattle.theory.specs.Events.{size, at, sends, sent}
use Rattle.theory.specs.Line.{Run, kept}
use Rattle.theory.proofs.Base.{both}
use Rattle.classes.proofs.Classes.{class_is}
use Rattle.columns.specs.Inner.Columns.{Tabled}
use Rattle.columns.specs.Inner.Full.{events_w, kind_w, at_w, peer_w, phase_w}
use Rattle.columns.specs.Inner.Given.{Given}
use Rattle.columns.proofs.Bounds.{phase_most}
use Rattle.columns.proofs.Full.{fit, few, procs_most, size_is, send_kind, kind_send, kind_receive, send_match_most, recv_match}
use Rattle.machine.specs.Inner.Words.{low_place, low_of, Bounded, Small}
use Rattle.machine.specs.Inner.Related.{goes, Started}
use Rattle.links.specs.Inner.Linking.{sent_class, linked_l, linked_h, linked_a, begin_a}
use Rattle.links.specs.Inner.Listed.{KeptListed}
use Rattle.links.specs.Inner.Shapes.{PairedTo, PhasedTo, Linkable}
use Rattle.links.proofs.Listed.{heads_small, all_listed}
use Rattle.links.proofs.Passes.{linked_small}
use Rattle.links.proofs.Columns.{tested}
use Rattle.links.proofs.Claims.{started}

pub zeros : (a b : List ℕ) → length a ≡ area_words → b ≡ replicate (length a) 0 → b ≡ replicate area_words 0
zeros a b h e = e ∙ ap (λ n. replicate n 0) h

pub links_long : 8197 ≤ length (replicate {A = ℕ} 8200 0)
links_long = omega (arith, length-replicate {A = ℕ} 8200 0)

pub low_set : (full a b : List ℕ) (procs low : ℕ) → procs ≡ get_or full 0 0 → low ≡ low_of full a procs → b ≡ a → set a low_place low ≡ begin_a full b
unfolding begin_a
low_set full a b procs low ep el eb = rw (el, ep, eb)

module _ (R : Run) (cut : ℕ) (full gates : List ℕ) (G : Given R cut full gates) where
  abbrev t : Trace
  t = R.trace

  T : Tabled t full
  T = G.tells.tabled

  count : events_w full ≡ size t
  count = size_is t full T

  pub count_few : events_w full < 2049
  count_few = omega (arith, count, few t full T)

  -- twice the events, counted by words
  pub twice : (n : ℕ) → n ≡ events_w full → n + n ≡ size R.trace + size R.trace
  twice n e = omega (arith, e, count)

  pub pairs : PairedTo full (events_w full)
  unfolding PairedTo
  pairs e h k =
      let le : e ≤ size t = omega (arith, k, count) in (
        λ c. omega (arith, send_match_most t full T (at_w full e) (peer_w full e) e (kind_send t full T e h le c) h le, few t full T),
        λ c. omega (arith, (recv_match t full T (peer_w full e) (at_w full e) e (kind_receive t full T e h le c) h le).1, few t full T),
      )

  phase_lt : (e : ℕ) → 0 < e → e ≤ size t → phase_w full e < events_w full + 2
  phase_lt e h k = omega (arith, count, T.columns.phase e h k, phase_most t (fit t full T) (at t e) e k)

  phases : PhasedTo full (events_w full)
  unfolding PhasedTo
  phases e h k = omega (arith, phase_lt e h (omega (arith, k, count)), count_few)

  -- a message that goes through its channel, sent before its sender's restart, is a kept one
  is_kept : (p q m : ℕ) → 0 < m → m ≤ size t → goes R p q m ≡ true → m ≤ R.restart p → (at_w full m ≡ p) × (peer_w full m ≡ q) × (sent_class full gates cut m ≡ 2)
  unfolding goes sent_class
  is_kept p q m h k w r =
      let s = (both (sends t p q m) _ w).0 in
      let i = send_kind t full T m h k p q s in
      let y : kept R p q (sent t p q m) ≡ true = (rw (s, le-leb m (R.restart p) r) at w) in
      (i.1, i.2, rw (eq-eqb (kind_w full m) 1 i.0) (eqb-true _ 2 (sym (class_is R cut full gates G p q m s h k).is_kept ∙ y)))

  module _ (l a : List ℕ) (el : l ≡ replicate 8200 0) (ea : a ≡ replicate area_words 0) where
    abbrev links_of : ℕ → List ℕ
    links_of n = linked_l full gates cut n n l a

    abbrev words_at : ℕ → List ℕ
    words_at n = linked_a full gates cut n n a

    l_long : 8197 ≤ length l
    l_long = rw el (omega (arith, length-replicate {A = ℕ} 8200 0))

    a_long : length a ≡ 16384
    a_long = rw ea (length-replicate {A = ℕ} 16384 0)

    l_zero : (k : ℕ) → get_or l k 0 ≡ 0
    l_zero k = rw el (zero_word 8200 k)

    a_zero : (k : ℕ) → get_or a k 0 ≡ 0
    a_zero k = rw ea (zero_word 16384 k)

    pub begun : Started R full (links_of (events_w full)) gates (begin_a full (words_at (events_w full)))
    begun = rw count (started R cut full gates G l a l_long a_long l_zero a_zero)

    pub small : Small (links_of (events_w full))
    small =
        rw count (linked_small R full gates cut (few t full T) (tested R cut full gates G) l a l_long a_long l_zero a_zero G.tells G.gated)

    pub linkable : Linkable full gates l a
    unfolding Bounded
    linkable = record {
      events = record {
        count_lt = count_few;
        full_long = T.columns.whole;
        gates_long = G.gated.long;
        links_long = l_long;
        paired = pairs;
        phased = phases;
        pointed = record { area_long = a_long; bounded = λ k h j. rw (a_zero k) (omega arith) };
      };
      procs_few = procs_most t full T;
    }

    pub small_in : (l' : List ℕ) → l' ≡ links_of (events_w full) → Small l'
    small_in l' e = rw e small

    pub begun_in : (l' a' : List ℕ) → l' ≡ links_of (events_w full) → a' ≡ begin_a full (words_at (events_w full)) → Started R full l' gates a'
    begun_in l' a' e f = rw (e, f) begun

    pub listed_in : (l' h : List ℕ) → l' ≡ links_of (events_w full) → h ≡ linked_h full gates cut (events_w full) (events_w full) → KeptListed R full l' h
    unfolding Small
    listed_in l' h e f =
        let A = all_listed full gates cut (events_w full) (omega (arith, count_few)) phases l a l_long l_zero in
        rw (e, f) (record {
          walkable = record {
            full_long = T.columns.whole;
            few = count_few;
            links_long = A.links_long;
            links_small = small;
            heads_long = A.heads_long;
            heads_small = heads_small full gates cut (events_w full) (events_w full) (omega (arith, count_few));
            rising = A.rising;
          };
          phases = phase_lt;
          kept = λ p q m h k w r. let i = is_kept p q m h k w r in (i.0, i.1, A.on m h (omega (arith, k, count)) i.2);
        })
