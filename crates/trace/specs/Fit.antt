-- Which traces are well formed (MANUAL 2.4): numbers 2 to 7 and 15. Quotations are from the requirements.
use Rattle.std.specs.Prelude.{ℕ, List, [], ◌∷◌, ◌++◌, Bool, true, ◌&&◌, cond, length, leb, eqb}
use Rattle.trace.specs.declared.Event.{Event}
use Rattle.trace.specs.declared.Event.TheVariants.{Send, Recv, Save, Done}
use Rattle.trace.specs.Trace.{Trace, sends_in, recvs_in, saves_in, dones_in}

-- What is wrong with an event of a run of n processes after the events `before`: the number 3, 4, 5, 6 or 15, or 0. 3:
-- a process is n or more. 4: a process sends to or receives from itself. 5: a receive with nothing in transit. 6: a
-- 31st save. 15: "when a `done` finds no unfinished save".
unfoldable pub event_fault : ℕ → List Event → Event → ℕ
event_fault n before (Send at to val) = cond (leb n at) 3 (cond (leb n to) 3 (cond (eqb at to) 4 0))
event_fault n before (Recv at from) =
    cond (leb n at) 3 (cond (leb n from) 3 (cond (eqb at from) 4 (cond (leb (sends_in from at before) (recvs_in from at before)) 5 0)))
event_fault n before (Save at) = cond (leb n at) 3 (cond (leb 30 (saves_in at before)) 6 0)
event_fault n before (Done at) = cond (leb n at) 3 (cond (leb (saves_in at before) (dones_in at before)) 15 0)

-- "`val` now runs to 18446744073709551615"
abbrev pub value_fits : Event → Bool
value_fits (Send at to val) = leb val 18446744073709551615
value_fits (Recv at from) = true
value_fits (Save at) = true
value_fits (Done at) = true

-- every event of a list is fit where it stands, after the events `before`
unfoldable pub all_fit : ℕ → List Event → List Event → Bool
all_fit n before [] = true
all_fit n before (e ∷ es) = eqb (event_fault n before e) 0 && (value_fits e && all_fit n (before ++ e ∷ []) es)

-- "N is 2 to 64", "There are 0 to 2,048 events", and every event is fit
unfoldable pub well_formed : Trace → Bool
well_formed t = leb 2 t.procs && (leb t.procs 64 && (leb (length t.events) 2048 && all_fit t.procs [] t.events))
