-- Laws of the table area: as it is lent, it is any or zero; storing an event makes the words those of the trace with
-- that event.
use Prim.Native.Nat.{ℕ, ◌+◌, ◌-◌, ◌*◌, ◌<◌, ◌≤◌}
use mathlib.Core.Path.{◌≡◌, refl, sym, ap, ◌∙◌}
use mathlib.Core.List.{List, [], ◌∷◌}
use native.Mathlib.Omega.{arith}
use mathlib.Core.Bool.{Bool, true, false, cond}
use lib.Dec.{eqb, leb}
use lib.ListN.{length, get_or, set, take, length-set, length-append, replicate, length-replicate, get_or-replicate}
use lib.Seq.{get_or-set_same, get_or-set_other, length-take-le, take_all}
use borrow.Author.Tests.{ne_eqb, le-leb, lt-leb}
use Rattle.words.specs.Area.{area_words}
use Rattle.words.proofs.Cases.{by_eq, by_lt, clash}
use Rattle.words.proofs.Halves.{each_half}
use Rattle.words.proofs.Lists.{last_mapped, other_mapped}
use Rattle.trace.specs.declared.Event.{Event}
use Rattle.trace.specs.Trace.{Trace, started, extended}
use Rattle.trace.specs.Table.{word_of, value_word, table_word}
use Rattle.trace.proofs.Places as places
use Rattle.reader.specs.Inner.Reading.{Lent, Holds, appended}

module _ (t : Trace) (e : Event) where
  -- the words that an event changes, and the others
  word_count : table_word (extended t e) 1 ≡ length t.events + 1
  unfolding table_word
  word_count = length-append t.events (e ∷ [])

  word_event : length t.events < 2048 → table_word (extended t e) (16 + (length t.events + 1)) ≡ word_of e
  word_event h =
      let n = length t.events in
      places.word_event (extended t e) n (16 + (n + 1)) (omega arith) (omega arith) ∙ last_mapped word_of t.events e

  word_value : (b : ℕ) → b < 2 → length t.events < 2048 → table_word (extended t e) (2065 + 2049 * b + (length t.events + 1)) ≡ value_word b e
  word_value b l h =
      let n = length t.events in
      places.word_value (extended t e) b n (2065 + 2049 * b + (n + 1)) l (omega arith) (λ z. omega arith) ∙ last_mapped (value_word b) t.events e

  -- another word of a column of halves
  value_other : (b k : ℕ) → b < 2 → 2065 + 2049 * b < k → (b ≡ 0 → k ≤ 4114) → (k ≡ 2065 + 2049 * b + (length t.events + 1) → ⊥)
      → table_word (extended t e) k ≡ table_word t k
  value_other b k l h m n =
      let j = k - (2066 + 2049 * b) in
      places.word_value (extended t e) b j k l (omega arith) m
      ∙ other_mapped (value_word b) t.events e j (λ q. n (omega arith))
      ∙ sym (places.word_value t b j k l (omega arith) m)

  word_other : (k : ℕ) → (k ≡ 1 → ⊥) → (k ≡ 16 + (length t.events + 1) → ⊥) → ((b : ℕ) → b < 2 → k ≡ 2065 + 2049 * b + (length t.events + 1) → ⊥)
      → table_word (extended t e) k ≡ table_word t k
  unfolding table_word
  word_other k n₁ n₂ n₃ =
      by_lt 2065 k
      (λ h. by_lt 4114 k
      (λ g. value_other 1 k (omega arith) g (λ z. absurd (let y : ⊥ = omega arith in y)) (n₃ 1 (omega arith)))
      (λ g. value_other 0 k (omega arith) h (λ z. g) (n₃ 0 (omega arith))))
      (λ h. by_lt 16 k
      (λ g. rw (ne_eqb k 1 n₁, lt-leb k 16 g, le-leb k 2065 h, other_mapped word_of t.events e (k - 17) (λ q. n₂ (omega arith))))
      (λ g. rw (ne_eqb k 1 n₁, le-leb k 16 g)))

  pub next_holds : (table : List ℕ) → Holds table t → length t.events < 2048 → Holds (appended table (length t.events) e) (extended t e)
  next_holds table h few =
      let n = length t.events in
      let a = set table 1 (n + 1) in
      let b = set a (16 + (n + 1)) (word_of e) in
      let c = set b (2065 + (n + 1)) (value_word 0 e) in
      let l = h.size in
      let la : length a ≡ 16384 = simp length-set l in
      let lb : length b ≡ 16384 = simp length-set l in
      let lc : length c ≡ 16384 = simp length-set l in
      record {
        size = simp length-set l;
        words = λ k lk.
            by_eq k (4114 + (n + 1))
            (λ q. rw q (get_or-set_same c (4114 + (n + 1)) (value_word 1 e) 0 (omega arith) ∙ sym (word_value 1 (omega arith) few)))
            (λ n₄. get_or-set_other c (4114 + (n + 1)) k (value_word 1 e) 0 n₄
            ∙ by_eq k (2065 + (n + 1))
            (λ q. rw q (get_or-set_same b (2065 + (n + 1)) (value_word 0 e) 0 (omega arith) ∙ sym (word_value 0 (omega arith) few)))
            (λ n₃. get_or-set_other b (2065 + (n + 1)) k (value_word 0 e) 0 n₃
            ∙ by_eq k (16 + (n + 1))
            (λ q. rw q (get_or-set_same a (16 + (n + 1)) (word_of e) 0 (omega arith) ∙ sym (word_event few)))
            (λ n₂. get_or-set_other a (16 + (n + 1)) k (word_of e) 0 n₂
            ∙ by_eq k 1
            (λ q. rw q (get_or-set_same table 1 (n + 1) 0 (omega arith) ∙ sym word_count))
            (λ n₁. get_or-set_other table 1 k (n + 1) 0 n₁ ∙ h.words k lk ∙ sym (word_other k n₁ n₂ (each_half (λ b. k ≡ 2065 + 2049 * b + (n + 1) → ⊥) n₃ n₄))))));
      }

all_zero : (a b c d : Bool) → cond {A = ℕ} a 0 (cond b 0 (cond c 0 (cond d 0 0))) ≡ 0
all_zero true b c d = refl
all_zero false true c d = refl
all_zero false false true d = refl
all_zero false false false true = refl
all_zero false false false false = refl

-- a trace without events has no other word
none_word : (procs k : ℕ) → (k ≡ 0 → ⊥) → table_word (started procs) k ≡ 0
unfolding table_word
none_word procs k n = rw (ne_eqb k 0 n) (all_zero (eqb k 1) (leb k 16) (leb k 2065) (leb k 4114))

-- a zero area whose first word is the process count holds the trace without events
pub none_holds : (procs : ℕ) (table : List ℕ) → table ≡ replicate area_words 0 → Holds (set table 0 procs) (started procs)
unfolding table_word
none_holds procs table z =
    let l : length table ≡ 16384 = ap length z ∙ length-replicate {A = ℕ} 16384 0 in
    record {
      size = simp length-set l;
      words = λ k lk.
          by_eq k 0
          (λ q. rw q (get_or-set_same table 0 procs 0 (omega arith)))
          (λ n. get_or-set_other table 0 k procs 0 n ∙ ap (λ (w : List ℕ). get_or w k 0) z ∙ get_or-replicate {A = ℕ} 16384 k 0 0 lk ∙ sym (none_word procs k n));
    }

-- 16,384 words that are lent on: such as they are, or those of an area that is zero
pub lent_any : (a : List ℕ) → length a ≡ area_words → Lent a false
lent_any a l = record { size = l; zero = λ e. clash e refl }

pub clear_size : (a : List ℕ) → a ≡ replicate area_words 0 → length a ≡ area_words
clear_size a z = ap length z ∙ length-replicate {A = ℕ} area_words 0

pub lent_clear : (a : List ℕ) → a ≡ replicate area_words 0 → Lent (take area_words a) true
lent_clear a z =
    let l = clear_size a z in
    let all : take area_words a ≡ a = take_all area_words a (omega arith) in
    let same : length (take area_words a) ≡ area_words = length-take-le area_words a (omega arith) in
    record { size = same; zero = λ e. all ∙ z ∙ ap (λ (n : ℕ). replicate n 0) (sym same) }
