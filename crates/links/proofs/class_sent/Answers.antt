-- `links::class_sent` meets its contract: a case for each way out.
use mathlib.Core.Path.{◌∙◌, ap}
use Rattle.trace.specs.Kind.{number_of_kind}
use Rattle.trace.specs.Table.{kind_in}
use Rattle.machine.proofs.Steps.{kind_send}
use Rattle.links.proofs.Passing.{class_send, class_none}
use Rattle.links.proofs.class_sent.Goals as goal

pub returns-in-Send : goal.returns-in-Send
returns-in-Send c =
    class_send c.args.full.now c.args.gates.now c.args.cut c.args.e _ (c.of.ensures ∙ ap kind_in c.requires.1) (ap number_of_kind c.in-Send.is) _ c.class_at.ensures.words

pub returns-in_default : goal.returns-in_default
returns-in_default c =
    class_none c.args.full.now c.args.gates.now c.args.cut c.args.e _ (c.of.ensures ∙ ap kind_in c.requires.1) (λ q. c.in_default.not-Send (kind_send c.of.result q))
