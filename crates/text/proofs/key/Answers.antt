-- `text::key` meets its contract: the library says the same of what the bytes begin with.
use mathlib.Core.Path.{◌∙◌}
use native.Mathlib.Omega.{arith}
use Rattle.text.proofs.Keys.{key_past, key_rest}
use Rattle.text.proofs.key.Goals as goal

pub returns-then-at-text : goal.returns-then-at-text
returns-then-at-text c = c.is_empty.ensures ∙ key_past c.args.text.now c.args.at c.args.key.now (omega arith)

pub returns : goal.returns
returns c = c.starts_with.ensures.value ∙ key_rest c.args.text.now c.args.at c.args.key.now
