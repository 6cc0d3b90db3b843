-- `protocol::word_noted` meets its contract: what is read is the event that the word and the value say.
use Rattle.std.proofs.Common.{ap, ◌∙◌}
use Rattle.trace.specs.declared.Event.{Event}
use Rattle.columns.specs.Inner.Filling.{note_full, note_work}
use Rattle.protocol.proofs.Words.{no_event, one_event}
use Rattle.protocol.proofs.word_noted.Goals as goal

pub returns-in_default-clause-answer : goal.returns-in_default-clause-answer
returns-in_default-clause-answer c = no_event _ _ (rw c.from_halves-value.ensures.number at c.in_default.ensures) _

pub returns-clause-answer : goal.returns-clause-answer
returns-clause-answer c = c.note.ensures.answer ∙ (one_event _ _ _ (rw c.from_halves-value.ensures.number at c.in-Some.ensures)).1 _

pub returns-clause-columns : goal.returns-clause-columns
returns-clause-columns c = λ y. c.note.ensures.columns y
    ∙ ap (λ (x : Event). note_full c.args.full.now c.args.work.now c.args.e x) (one_event _ _ _ (rw c.from_halves-value.ensures.number at c.in-Some.ensures)).0

pub returns-clause-working : goal.returns-clause-working
returns-clause-working c = λ y. c.note.ensures.working y
    ∙ ap (λ (x : Event). note_work c.args.full.now c.args.work.now c.args.e x) (one_event _ _ _ (rw c.from_halves-value.ensures.number at c.in-Some.ensures)).0
