-- What the list of messages in a run area means (MANUAL 4.4, docs/LAYOUT.md): which messages it names, with which
-- phases, and in which order. Quotations are from the requirements.
use Rattle.std.specs.Prelude.{ℕ, ◌+◌, ◌/◌, ◌%◌, ◌<◌, ◌≤◌, ◌≡◌, ◌⊎◌, ◌↔◌, Bool, true, List, get_or}
use Rattle.theory.specs.Line.{Run, lost, orphan, kept, orphan_phase, LossFree}
use Rattle.theory.specs.Answers.{Listed}
use Rattle.listing.specs.Listing.{row_base, row_number_base, row_phase_base}

-- Row i, from 1, of a list in a run area: the message and its phase; and its class
abbrev pub row_in : List ℕ → ℕ → Listed
row_in w i =
    record {
      from = get_or w (row_base + i) 0 % 64;
      to = get_or w (row_base + i) 0 / 64 % 64;
      number = get_or w (row_number_base + i) 0;
      phase = get_or w (row_phase_base + i) 0;
    }

abbrev pub class_in : List ℕ → ℕ → ℕ
class_in w i = get_or w (row_base + i) 0 / 4096

-- "Orphans, then kept messages .., go by sender, receiver, number.": m comes before n
abbrev pub Precedes : Listed → Listed → Type 0
Precedes m n =
    (m.from < n.from) ⊎ ((m.from ≡ n.from) × ((m.to < n.to) ⊎ ((m.to ≡ n.to) × (m.number < n.number))))

-- "each counted if and only if its definition holds": the rows after row `first`, up to row `last`, are the messages
-- that pass a test, each of them and no other, with its phase and the word of its class; strictly ascending, so that
-- none is there twice
pub record RowsOf (w : List ℕ) (first last class : ℕ) (is : ℕ → ℕ → ℕ → Bool) (phase : ℕ → ℕ → ℕ → ℕ) : Type 0 where
  pub no_other : (i : ℕ) → first < i → i ≤ last
      → (is (row_in w i).from (row_in w i).to (row_in w i).number ≡ true) × ((row_in w i).phase ≡ phase (row_in w i).from (row_in w i).to (row_in w i).number) × (class_in w i ≡ class)
  pub each : (p q k : ℕ) → is p q k ≡ true
      → (i : ℕ) × (first < i) × (i ≤ last) × (row_in w i ≡ record { from = p; to = q; number = k; phase = phase p q k })
  pub ascending : (i j : ℕ) → first < i → i < j → j ≤ last → Precedes (row_in w i) (row_in w j)

-- What `messages` answers, o orphans, k kept and l lost messages of a run, and what it leaves: the orphans' rows, then
-- those of the kept, then those of the lost messages; the counts before them; and none lost exactly if the line loses
-- no message.
pub record Lists (R : Run) (o k l : ℕ) (w : List ℕ) : Type 0 where
  pub orphan_rows : RowsOf w 0 o 1 (orphan R) (orphan_phase R)
  pub kept_rows : RowsOf w o (o + k) 2 (kept R) R.carries
  pub lost_rows : RowsOf w (o + k) (o + k + l) 3 (lost R) R.carries
  pub counts_are : (get_or w 0 0 ≡ o) × (get_or w 1 0 ≡ k) × (get_or w 2 0 ≡ l)
  pub none_lost : (l ≡ 0) ↔ LossFree R
