-- Bytes written into a lent buffer, one after another. A full buffer takes no more: what is written is the front of the
-- bytes.
use Rattle.std.specs.Prelude.{ℕ, List, ◌++◌, length, take, drop}

-- ---- The same from the buffer's first place on: what a caller of a whole text sees (proofs/Buffers, `whole`)

-- the bytes that there is room for
unfoldable pub room : List ℕ → List ℕ → List ℕ
room bs before = take (length before) bs

-- they stand at the front, and the rest of the buffer is as it was
unfoldable pub written : List ℕ → List ℕ → List ℕ
written bs before = room bs before ++ drop (length bs) before
