-- What writing means, both ways (MANUAL 7.3 and 9.2). Quotations are from the requirements.
use Rattle.std.specs.Prelude.{ℕ, ◌<◌, ◌≤◌, ◌≡◌, List, ◌++◌, length, take, drop}
use Rattle.words.specs.Area.{area_words}
use Rattle.lines.specs.Line.{most, most_set}
use Rattle.lines.specs.Render.{render_failure}
use Rattle.reader.specs.Answer.{read_answer, read_area}
use Rattle.reader.specs.Failure.{failure_answer, failure_area}
use Rattle.rendering.specs.Write.{WriteAnswer, text_bytes}

-- two areas have the same first 16,384 words
abbrev pub SameArea : List ℕ → List ℕ → Type 0
SameArea a b = take area_words a ≡ take area_words b

-- reading a text restores an area, whatever stands in the area that it is read into
pub record Restores (a text : List ℕ) : Type 0 where
  pub accepted : (b : List ℕ) → area_words ≤ length b → read_answer text b ≡ record { number = 0; place = 0 }
  pub same : (b : List ℕ) → area_words ≤ length b → SameArea (read_area text b) a

-- the same of a text with a failure line after it, for `read_failure`
pub record RestoresFailing (a text : List ℕ) (step set : ℕ) : Type 0 where
  pub accepted : (b : List ℕ) → area_words ≤ length b
      → failure_answer (text ++ render_failure step set) b ≡ record { number = 0; place = 0; step = step; set = set }
  pub same : (b : List ℕ) → area_words ≤ length b → SameArea (failure_area (text ++ render_failure step set) b) a

-- a text comes back in a buffer `out`, which is then `after`: whole, its length in the answer, and later bytes as they
-- were; or, where the buffer is shorter, 14, and all bytes as they were
pub record ComesBack (text out : List ℕ) (r : WriteAnswer) (after : List ℕ) : Type 0 where
  pub whole : length text ≤ length out → (r ≡ record { number = 0; place = 0; length = length text }) × (after ≡ text ++ drop (length text) out)
  pub short : length out < length text → (r ≡ record { number = 14; place = 0; length = 0 }) × (after ≡ out)

-- what a call means that is given the area a and the buffer `out`, answers r and leaves `after` in the buffer
pub record RoundTrip (a out : List ℕ) (r : WriteAnswer) (after : List ℕ) : Type 0 where
  -- "Reading that text must restore the same area": the bytes written, read again
  pub restores : r.number ≡ 0 → Restores a (take r.length after)
  -- "the `fail` line being outside it": and read again with any failure line put after them that a key can hold
  pub restores_failing : r.number ≡ 0 → (step set : ℕ) → step ≤ most → set ≤ most_set → RestoresFailing a (take r.length after) step set
  -- "writing after reading must return the same bytes": of an area that reading some text left, that text
  pub returns : (text b : List ℕ) → (read_answer text b).number ≡ 0 → SameArea (read_area text b) a → ComesBack text out r after
  -- "the `fail` line being outside it": of a text with a failure line, what stands before that line
  pub returns_failing : (text b : List ℕ) → (failure_answer text b).number ≡ 0 → SameArea (failure_area text b) a
      → (front : List ℕ) × (text ≡ front ++ render_failure (failure_answer text b).step (failure_answer text b).set) × ComesBack front out r after
  -- "14 when the byte buffer is shorter than the text, checked after 13": there is a text then
  pub too_short : r.number ≡ 14 → (text : List ℕ) × Restores a text × (length out < length text)
  -- a buffer of so many bytes holds every text
  pub enough : text_bytes ≤ length out → r.number ≡ 14 → ⊥
  -- "it changes nothing", and no other refusal does; "In a refused answer every other number is 0"
  pub nothing : (r.number ≡ 0 → ⊥) → (r.place ≡ 0) × (r.length ≡ 0) × (after ≡ out)
