-- What sets the links and the first state of a replay, by words: one pass over the events, from the last to the first.
-- Definitions only. At an event the pass writes where a test of the full table and the gates holds; `proofs/` says what
-- the tests mean.
use Rattle.std.specs.Prelude.{Bool, false, ◌||◌, cond, List, ℕ, zero, suc, ◌+◌, ◌-◌, ◌*◌, get_or, set, replicate, leb, ltb, eqb}
use Rattle.machine.specs.Inner.Words.{current_base, orphan_base, take_base, put_base, low_place, cur_w, orp_w, put_w, low_of, noted_w}
use Rattle.columns.specs.Inner.Full.{kind_w, peer_w, at_w, match_w, phase_w}
use Rattle.classes.specs.Inner.Words.{class_w}

-- how many words the heads have, by phase the first kept message of it: a phase is at most one more than the events
abbrev pub head_words : ℕ
head_words = 2056

-- event e is after the restart of its process
abbrev pub mine_w : List ℕ → List ℕ → ℕ → Bool
mine_w t g e = ltb (get_or g (64 + at_w t e) 0) e

-- the class of the message that event e sends, 0 where it sends none
unfoldable pub sent_class : List ℕ → List ℕ → ℕ → ℕ → ℕ
sent_class t g cut e = cond (eqb (kind_w t e) 1) (class_w t g cut e) 0

-- event e sends an orphan again
abbrev pub orphan_w : List ℕ → List ℕ → ℕ → ℕ → Bool
orphan_w t g cut e = eqb (sent_class t g cut e) 1

-- a message of this class goes through its channel: it is kept, or sent after its sender's restart and not received
-- before its receiver's
unfoldable pub goes_class : ℕ → Bool
goes_class c = eqb c 2 || eqb c 4

abbrev pub goes_w : List ℕ → List ℕ → ℕ → ℕ → Bool
goes_w t g cut e = goes_class (sent_class t g cut e)

-- event e is a receive before the restart of its process
unfoldable pub early_w : List ℕ → List ℕ → ℕ → Bool
early_w t g e = cond (eqb (kind_w t e) 2) (leb e (get_or g (64 + at_w t e) 0)) false

-- a word, written where a test holds
unfoldable pub chain_a : Bool → List ℕ → ℕ → ℕ → List ℕ
chain_a b a k v = cond b (set a k v) a

-- the message that event m sends on record as taken by receive e, where a test holds
unfoldable pub record_a : Bool → List ℕ → List ℕ → ℕ → ℕ → List ℕ
record_a b t a e m = cond b (noted_w t a e m) a

-- the links and the run area with event e of process z on channel c, by the class of the message that it sends
unfoldable pub sent_l : List ℕ → List ℕ → ℕ → ℕ → ℕ → ℕ → List ℕ
sent_l l a z c e class = chain_a (goes_class class) (chain_a (eqb class 1) l (4 * e + 2) (orp_w a z)) (4 * e + 1) (put_w a c)

unfoldable pub sent_a : List ℕ → ℕ → ℕ → ℕ → ℕ → List ℕ
sent_a a z c e class =
    chain_a (goes_class class) (chain_a (goes_class class) (chain_a (eqb class 1) a (orphan_base + z) e) (put_base + c) e) (take_base + c) e

-- the links after event e; the run area after it
unfoldable pub link_l : List ℕ → List ℕ → ℕ → List ℕ → List ℕ → ℕ → List ℕ
link_l t g cut l a e =
    chain_a (goes_w t g cut e) (chain_a (orphan_w t g cut e) (chain_a (mine_w t g e) l (4 * e) (cur_w a (at_w t e))) (4 * e + 2) (orp_w a (at_w t e)))
    (4 * e + 1) (put_w a (64 * at_w t e + peer_w t e))

unfoldable pub link_a : List ℕ → List ℕ → ℕ → List ℕ → ℕ → List ℕ
link_a t g cut a e =
    record_a (early_w t g e) t
    (chain_a (goes_w t g cut e) (chain_a (goes_w t g cut e)
    (chain_a (orphan_w t g cut e) (chain_a (mine_w t g e) a (current_base + at_w t e) e) (orphan_base + at_w t e) e)
    (put_base + (64 * at_w t e + peer_w t e)) e) (take_base + (64 * at_w t e + peer_w t e)) e)
    e (match_w t e)

-- the links and the heads after event e of phase f, by the class of the message that it sends: a kept one goes before
-- those of its phase
unfoldable pub kept_l : List ℕ → List ℕ → ℕ → ℕ → ℕ → List ℕ
kept_l l h f e class = chain_a (eqb class 2) l (4 * e + 3) (get_or h f 0)

unfoldable pub kept_h : List ℕ → ℕ → ℕ → ℕ → List ℕ
kept_h h f e class = chain_a (eqb class 2) h f e

-- the run area, the heads and the links after the last d of n events
unfoldable pub linked_a : List ℕ → List ℕ → ℕ → ℕ → ℕ → List ℕ → List ℕ
linked_a t g cut n zero a = a
linked_a t g cut n (suc d) a = link_a t g cut (linked_a t g cut n d a) (n - d)

unfoldable pub linked_h : List ℕ → List ℕ → ℕ → ℕ → ℕ → List ℕ
linked_h t g cut n zero = replicate head_words 0
linked_h t g cut n (suc d) = kept_h (linked_h t g cut n d) (phase_w t (n - d)) (n - d) (sent_class t g cut (n - d))

unfoldable pub linked_l : List ℕ → List ℕ → ℕ → ℕ → ℕ → List ℕ → List ℕ → List ℕ
linked_l t g cut n zero l a = l
linked_l t g cut n (suc d) l a =
    kept_l (link_l t g cut (linked_l t g cut n d l a) (linked_a t g cut n d a) (n - d)) (linked_h t g cut n d) (phase_w t (n - d)) (n - d) (sent_class t g cut (n - d))

-- the run area of the first state, once all events are linked: the least phase of an orphan is set
unfoldable pub begin_a : List ℕ → List ℕ → List ℕ
begin_a t a = set a low_place (low_of t a (get_or t 0 0))
