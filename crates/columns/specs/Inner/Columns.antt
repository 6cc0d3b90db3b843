-- The full table: the words of a trace and what the protocol derives from it, a plane of words for each column
-- (docs/LAYOUT.md). `Columns` says what each column means, by the theory's definitions, `Flagged` which messages are
-- logged; everything above cites them. The other words are read by nobody.
use Rattle.std.specs.Prelude.{ℕ, ◌+◌, ◌<◌, ◌≤◌, ◌≡◌, Bool, true, cond, List, length, get_or}
use Rattle.trace.specs.Trace.{Trace}
use Rattle.trace.specs.Fit.{well_formed}
use Rattle.trace.specs.Table.{table_word}
use Rattle.theory.specs.Events.{size, at, sends, recvs, sent, rcvd, send_of, recv_of}
use Rattle.theory.specs.Epochs.{epoch_at, phase_at, rule_of}

-- the words before event 1 of each column
abbrev pub number_base : ℕ
number_base = 6163

abbrev pub epoch_base : ℕ
epoch_base = 8212

abbrev pub phase_base : ℕ
phase_base = 10261

abbrev pub match_base : ℕ
match_base = 12310

-- a receive has no number of its own (it is that of the send it is matched with): its word there says whether the
-- message that it takes is logged
abbrev pub logged_base : ℕ
logged_base = 6163

-- the words up to here are those of the trace
abbrev pub trace_words : ℕ
trace_words = 6163

-- how many words there are: it is no lent area, and has a size of its own
abbrev pub full_words : ℕ
full_words = 14359

pub record Columns (t : Trace) (full : List ℕ) : Type 0 where
  pub whole : length full ≡ full_words
  -- the trace's own words
  pub words : (k : ℕ) → k < trace_words → get_or full k 0 ≡ table_word t k
  -- the number of the message that an event sends (that of a receive's is at the send it is matched with)
  pub number_send : (p q e : ℕ) → sends t p q e ≡ true → 0 < e → e ≤ size t → get_or full (number_base + e) 0 ≡ sent t p q e
  -- the epoch and the phase of an event's process after the event
  pub epoch : (e : ℕ) → 0 < e → e ≤ size t → get_or full (epoch_base + e) 0 ≡ epoch_at t (rule_of t) (at t e) e
  pub phase : (e : ℕ) → 0 < e → e ≤ size t → get_or full (phase_base + e) 0 ≡ phase_at t (rule_of t) (at t e) e
  -- the receive of the message that an event sends, 0 where there is none; the send of the message that it receives
  pub match_send : (p q e : ℕ) → sends t p q e ≡ true → 0 < e → e ≤ size t → get_or full (match_base + e) 0 ≡ recv_of t p q (sent t p q e)
  pub match_recv : (p q e : ℕ) → recvs t p q e ≡ true → 0 < e → e ≤ size t → get_or full (match_base + e) 0 ≡ send_of t p q (rcvd t p q e)

-- Which received messages are logged: the word of a receive is 1 if the message that it takes is, else 0. `L` says it
-- of message k from p to q: the trace's own rule, or any other marking (the layers above hold for any).
abbrev pub Flagged : Trace → (ℕ → ℕ → ℕ → Bool) → List ℕ → Type 0
Flagged t L full = (p q e : ℕ) → recvs t p q e ≡ true → 0 < e → e ≤ size t → get_or full (logged_base + e) 0 ≡ cond (L p q (rcvd t p q e)) 1 0

-- the full table of a well-formed trace
pub record Tabled (t : Trace) (full : List ℕ) : Type 0 where
  pub formed : well_formed t ≡ true
  pub columns : Columns t full
