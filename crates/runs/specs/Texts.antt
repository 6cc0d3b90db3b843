-- The texts of the runs of the requirements, line by line; quotations are from these. H stands as it is printed there
-- (MANUAL 10.1). L, S, T and the text of R12 are given there in words (MANUAL 10.3 has L, S and T): here they are
-- texts, and the value 6 in them is ours. The runs "are read with a `done` of the same zone put after each save".
use Rattle.std.specs.Prelude.{List, [], ◌∷◌, ◌++◌, ℕ, take, drop}
use Prim.Native.String.{String}
use Rattle.printing.specs.Inner.Texts.{lines_of}

-- "The library's reader takes the text without a failure line. The program wants one more line, the last": the text
-- with that line
unfoldable pub failing : List String → String → List ℕ
failing ls failure = lines_of (ls ++ failure ∷ [])

-- "Trace H", as it is printed
abbrev pub lines_printed : List String
lines_printed =
    "procs=3"
    ∷ "ev=send at=0 to=1 val=5"
    ∷ "ev=recv at=1 from=0"
    ∷ "ev=save at=1"
    ∷ "ev=send at=1 to=2 val=7"
    ∷ "ev=recv at=2 from=1"
    ∷ "ev=save at=0"
    ∷ "ev=send at=0 to=1 val=9"
    ∷ "ev=recv at=1 from=0"
    ∷ "ev=send at=1 to=2 val=4"
    ∷ []

-- with a `done` after each save
abbrev pub lines_h : List String
lines_h = take 4 lines_printed ++ "ev=done at=1" ∷ take 3 (drop 4 lines_printed) ++ "ev=done at=0" ∷ drop 7 lines_printed

-- "its failure line included"
abbrev pub text_h : List ℕ
text_h = failing lines_h "fail=11 set=2"

-- H with other values in three of its sends: those of the two messages from 0 to 1 differ only in their high halves,
-- and the first message from 1 to 2 has the largest
abbrev pub lines_wide : List String
lines_wide =
    "procs=3"
    ∷ "ev=send at=0 to=1 val=7"
    ∷ take 3 (drop 2 lines_h)
    ++ "ev=send at=1 to=2 val=18446744073709551615"
    ∷ take 3 (drop 6 lines_h)
    ++ "ev=send at=0 to=1 val=4294967303"
    ∷ drop 10 lines_h

abbrev pub text_wide : List ℕ
text_wide = failing lines_wide "fail=11 set=2"

-- "Trace L: two zones; send 0 to 1, save 1, receive."
abbrev pub lines_l : List String
lines_l = "procs=2" ∷ "ev=send at=0 to=1 val=6" ∷ "ev=save at=1" ∷ "ev=done at=1" ∷ "ev=recv at=1 from=0" ∷ []

-- "Trace S: two zones; save 0, send 0 to 1, receive."
abbrev pub lines_s : List String
lines_s = "procs=2" ∷ "ev=save at=0" ∷ "ev=done at=0" ∷ "ev=send at=0 to=1 val=6" ∷ "ev=recv at=1 from=0" ∷ []

-- "Trace T: two zones; send 0 to 1, receive."
abbrev pub lines_t : List String
lines_t = "procs=2" ∷ "ev=send at=0 to=1 val=6" ∷ "ev=recv at=1 from=0" ∷ []

-- "a receive as first event"
abbrev pub lines_first : List String
lines_first = "procs=2" ∷ "ev=recv at=1 from=0" ∷ []

-- ---- Saves that are not finished (MANUAL 3.4)

-- a save that is being written
abbrev pub lines_unfinished : List String
lines_unfinished = "procs=2" ∷ "ev=save at=0" ∷ []

-- two saves, of which a `done` finishes the oldest
abbrev pub lines_oldest : List String
lines_oldest = "procs=2" ∷ "ev=save at=0" ∷ "ev=save at=0" ∷ "ev=done at=0" ∷ []

-- a message sent after a save of its sender that is not finished, and received after one that is
abbrev pub lines_floor : List String
lines_floor = "procs=2" ∷ "ev=save at=0" ∷ "ev=save at=1" ∷ "ev=send at=0 to=1 val=6" ∷ "ev=recv at=1 from=0" ∷ "ev=done at=1" ∷ []

-- a `done` more than there are saves
abbrev pub lines_twice : List String
lines_twice = "procs=2" ∷ "ev=save at=0" ∷ "ev=done at=0" ∷ "ev=done at=0" ∷ []
