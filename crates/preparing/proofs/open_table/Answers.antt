-- `preparing::open_table` meets its contract: what the table then is.
use mathlib.Core.Path.{sym, ◌∙◌}
use Rattle.preparing.proofs.Preparing.{tabled_holds, marked}
use Rattle.preparing.proofs.open_table.Goals as goal

pub returns-then-tabulate-clause-given : goal.returns-then-tabulate-clause-given
returns-then-tabulate-clause-given c =
    let h = sym (tabled_holds c.args.table.now c.args.full.now _ c.requires c.tabulate.ensures.answer) ∙ c.if-tabulate.true in
    record {
      long = c.if-table-lt-AREA_WORDS.false;
      enough = c.if-room-lt-AREA_WORDS.false;
      holds = h;
      marked = marked c.args.table.now _ h (c.tabulate.ensures.columns c.if-tabulate.true) (c.tabulate.ensures.flags c.if-tabulate.true);
    }
