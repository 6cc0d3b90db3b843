-- the length is another, or the bytes are compared
use Rattle.std.proofs.Common.{ap, ◌∙◌}
use borrow.Author.Tests.{ne_eqb}
use Rattle.roundtrip.proofs.Trip.{other_length, same_length_is}
use Rattle.roundtrip.proofs.comes_back.Goals as goal

pub returns-then-length-text-clause-answer : goal.returns-then-length-text-clause-answer
returns-then-length-text-clause-answer c =
    same_length_is _ _ _ _ (c.length_of-length.ensures ∙ ap (λ w. w.length) c.write.ensures.answer) _ _
    c.if-length-text.true c.write.ensures.buffer c.key.ensures

pub returns-else-length-text-clause-answer : goal.returns-else-length-text-clause-answer
returns-else-length-text-clause-answer c =
    ne_eqb _ _ c.if-length-text.false
    ∙ other_length _ _ _ _ (c.length_of-length.ensures ∙ ap (λ w. w.length) c.write.ensures.answer) c.if-length-text.false
