-- The words of a trace by their places, and the process, the peer and the kind of an event's word.
use Prim.Native.Nat.{ℕ, zero, suc, ◌+◌, ◌-◌, ◌*◌, ◌/◌, ◌%◌, ◌<◌, ◌≤◌}
use mathlib.Core.Path.{◌≡◌, refl}
use mathlib.Core.List.{List, [], ◌∷◌, map}
use native.Mathlib.Omega.{arith}
use lib.ListN.{length, get_or}
use borrow.Author.Tests.{le-leb, lt-leb, ne_eqb}
use Rattle.trace.specs.declared.Event.{Event}
use Rattle.trace.specs.Trace.{Trace}
use Rattle.trace.specs.Table.{word_of, value_word, table_word, top_in, kind_in, process_in, peer_in}

-- a column of the events at one of them
pub column_at : (f : Event → ℕ) (es : List Event) (j : ℕ) (d : Event) → j < length es → get_or (map f es) j 0 ≡ f (get_or es j d)
column_at f [] j d h = absurd (let z : ⊥ = omega arith in z)
column_at f (e ∷ es) zero d h = refl
column_at f (e ∷ es) (suc j) d h = column_at f es j d (omega arith)

module _ (t : Trace) where
  pub word_procs : table_word t 0 ≡ t.procs
  unfolding table_word
  word_procs = refl

  pub word_count : table_word t 1 ≡ length t.events
  unfolding table_word
  word_count = refl

  pub word_head : (k : ℕ) → 2 ≤ k → k ≤ 16 → table_word t k ≡ 0
  unfolding table_word
  word_head k l h = rw (ne_eqb k 0 (λ q. omega arith), ne_eqb k 1 (λ q. omega arith), le-leb k 16 h)

  -- the columns, by the place after their first
  pub word_event : (j k : ℕ) → k ≡ 17 + j → k ≤ 2065 → table_word t k ≡ get_or (map word_of t.events) j 0
  unfolding table_word
  word_event j k e h =
      let q : k - 17 ≡ j = omega arith in
      rw (ne_eqb k 0 (λ z. omega arith), ne_eqb k 1 (λ z. omega arith), lt-leb k 16 (omega arith), le-leb k 2065 h, q)

  -- a column of halves ends where the other begins; the second has no end
  pub word_value : (b j k : ℕ) → b < 2 → k ≡ 2066 + 2049 * b + j → (b ≡ 0 → k ≤ 4114) → table_word t k ≡ get_or (map (value_word b) t.events) j 0
  unfolding table_word
  word_value zero j k l e h =
      let q : k - 2066 ≡ j = omega arith in
      rw (ne_eqb k 0 (λ z. omega arith), ne_eqb k 1 (λ z. omega arith), lt-leb k 16 (omega arith), lt-leb k 2065 (omega arith), le-leb k 4114 (h refl), q)
  word_value (suc zero) j k l e h =
      let q : k - 4115 ≡ j = omega arith in
      rw (ne_eqb k 0 (λ z. omega arith), ne_eqb k 1 (λ z. omega arith), lt-leb k 16 (omega arith), lt-leb k 2065 (omega arith), lt-leb k 4114 (omega arith), q)
  word_value (suc (suc b)) j k l e h = absurd (let z : ⊥ = omega arith in z)

-- the process, the peer and the kind of a word; the kind is all that stands above the peer
module _ (at peer kind w : ℕ) (la : at < 64) (lp : peer < 64) (e : w ≡ at % 64 + 64 * (peer % 64) + 4096 * kind) where
  pub word_at : process_in w ≡ at
  word_at = omega arith

  pub word_peer : peer_in w ≡ peer
  word_peer = let q : w / 64 ≡ peer + 64 * kind = omega arith in rw q (omega arith)

  pub word_top : top_in w ≡ kind
  word_top = omega arith

  pub word_kind : kind < 4 → kind_in w ≡ kind
  word_kind h = rw word_top (omega arith)
