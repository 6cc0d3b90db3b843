-- `lines::number_behind` meets its contract: a key that stands there lies within the line.
use mathlib.Core.Path.{◌∙◌}
use native.Mathlib.Omega.{arith}
use lib.ListN.{length}
use Rattle.words.proofs.Cases.{by_lt}
use Rattle.text.proofs.Keys.{field_1, field_2, key_within}
use Rattle.lines.proofs.number_behind.Goals as goal

pub returns-then-not-key : goal.returns-then-not-key
returns-then-not-key c = field_2 c.args.line.now c.args.at c.args.key.now c.args.bound _ c.key.ensures c.if-not-key.true

pub overflow_add-at : goal.overflow_add-at
overflow_add-at c =
    by_lt 0 (length c.args.key.now)
    (λ h. omega (arith, c.well_formed, key_within c.args.line.now c.args.at c.args.key.now _ c.key.ensures c.if-not-key.false h))
    (λ g. omega (arith, c.ranges.at.fits))

pub returns : goal.returns
returns c = c.number.ensures ∙ field_1 c.args.line.now c.args.at c.args.key.now c.args.bound _ c.key.ensures c.if-not-key.false
