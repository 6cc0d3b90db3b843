-- `reader::scan` meets its contract: the first line, then the others.
use Prim.Native.Nat.{ℕ}
use mathlib.Core.Path.{refl, ap, ◌∙◌}
use lib.ListN.{replicate}
use Rattle.trace.proofs.Counting.{none_tally}
use Rattle.reader.proofs.Storing.{clear_size, none_holds}
use Rattle.reader.proofs.Turns.{out_refused, out_same}
use Rattle.reader.proofs.Verdicts.{told_refused}
use Rattle.reader.proofs.scan.Goals as goal

pub returns-in-Err-clause-outcome : goal.returns-in-Err-clause-outcome
returns-in-Err-clause-outcome c =
    let clear = c.refuse.ensures.words ∙ ap (λ (n : ℕ). replicate n 0) c.requires.size in
    rw c.refuse.ensures.answer (out_refused _ _ _ _ _ c.in-Err.ensures (clear_size _ clear))

pub returns-in-Err-clause-zeros : goal.returns-in-Err-clause-zeros
returns-in-Err-clause-zeros c =
    rw c.refuse.ensures.answer (c.refuse.ensures.words ∙ ap (λ (n : ℕ). replicate n 0) c.requires.size)

pub read_events-requires : goal.read_events-requires
read_events-requires c =
    record {
      procs_most = c.in-Ok.ensures.0;
      within = c.in-Ok.ensures.1.0;
      holds = none_holds _ _ (c.clear_words.ensures ∙ ap (λ (n : ℕ). replicate n 0) c.requires.size);
      tally = none_tally;
    }

pub returns-in-Err-read_events-clause-outcome : goal.returns-in-Err-read_events-clause-outcome
returns-in-Err-read_events-clause-outcome c =
    let told = told_refused _ _ _ (out_same _ _ _ _ _ c.in-Ok.ensures.1.1 c.in-Err-read_events.ensures) _ _ refl in
    let clear = c.refuse-in-Err-read_events.ensures.words ∙ ap (λ (n : ℕ). replicate n 0) told.1 in
    rw c.refuse-in-Err-read_events.ensures.answer (out_refused _ _ _ _ _ told.0 (clear_size _ clear))

pub returns-in-Err-read_events-clause-zeros : goal.returns-in-Err-read_events-clause-zeros
returns-in-Err-read_events-clause-zeros c =
    let told = told_refused _ _ _ (out_same _ _ _ _ _ c.in-Ok.ensures.1.1 c.in-Err-read_events.ensures) _ _ refl in
    rw c.refuse-in-Err-read_events.ensures.answer (c.refuse-in-Err-read_events.ensures.words ∙ ap (λ (n : ℕ). replicate n 0) told.1)
