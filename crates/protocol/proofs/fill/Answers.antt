-- `protocol::fill` meets its contract: the tables begin as the pass needs them.
use Rattle.protocol.proofs.Passes.{cleared_noted, cleared_fits, cleared_fillable}
use Rattle.protocol.proofs.fill.Goals as goal

pub events_noted-requires : goal.events_noted-requires
events_noted-requires c =
    cleared_noted c.args.full.now c.requires.0 c.requires.3 _ c.requires.1 c.requires.2 c.begin.auto.work c.begin.ensures.first c.begin.ensures.others

pub returns : goal.returns
returns c =
    record {
      answer = cleared_fits c.args.full.now c.requires.0 c.requires.3 _ c.events_noted.ensures.answer;
      columns = λ t F. c.events_noted.ensures.columns t (cleared_fillable c.args.full.now c.requires.0 c.requires.3 t F);
    }
