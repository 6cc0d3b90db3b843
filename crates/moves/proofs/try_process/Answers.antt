-- `moves::try_process` meets its contract: a case for each way out.
use mathlib.Core.Path.{refl, sym, ◌∙◌, ap}
use Rattle.sets.specs.Inner.Sets.{with_in}
use Rattle.machine.proofs.Steps.{process_none, process_shut, process_open}
use Rattle.moves.proofs.Steps.{process_done, process_wakes, treed_move}
use Rattle.moves.proofs.try_process.Goals as goal

pub returns-then-e-eq0-clause-refused : goal.returns-then-e-eq0-clause-refused
returns-then-e-eq0-clause-refused c = (sym (process_none _ _ _ _ _ c.pointer-e.ensures.word c.if-e-eq0.true), refl, refl)

pub returns-then-gates-z-clause-refused : goal.returns-then-gates-z-clause-refused
returns-then-gates-z-clause-refused c = (sym (process_shut _ _ _ _ _ c.pointer-e.ensures.word c.if-e-eq0.false c.if-gates-z.true), refl, refl)

pub returns-in_err-woken-clause-refused : goal.returns-in_err-woken-clause-refused
returns-in_err-woken-clause-refused c =
    let (not_ok, area, tree) = c.in_err-woken.ensures.tried.refused in
    rw c.from_residual.ensures (sym (process_open _ _ _ _ _ c.pointer-e.ensures.word c.if-e-eq0.false c.if-gates-z.false _ (sym not_ok)), area, tree)

pub returns : goal.returns
returns c =
    let (ok, area) = c.in_ok-woken.ensures.tried.carried in
    record {
      refused = tt;
      done = (sym (process_open _ _ _ _ _ c.pointer-e.ensures.word c.if-e-eq0.false c.if-gates-z.false _ (sym ok)), rw c.from.ensures (process_done _ _ _ _ _ _ c.pointer-e.ensures.word area));
      woken = c.in_ok-woken.ensures.tried.woken ∙ ap (with_in 0) (process_wakes _ _ _ _ c.pointer-e.ensures.word);
      leaves = treed_move _ c.args.links.now _ _ c.in_ok-woken.ensures.leaves _ _ c.requires.0;
    }
