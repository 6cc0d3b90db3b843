use Rattle.std.proofs.Common.{◌≡◌, sym, ◌∙◌, arith}
use Rattle.bruteforce.proofs.Counts.{after_start, after_here, after_next, after_end}
use Rattle.bruteforce.proofs.events.after.Goals as goal

pub loop-i-init : goal.loop-i-init
loop-i-init c = after_start _ _ _ 0 _

pub returns-then-times-number : goal.returns-then-times-number
returns-then-times-number c =
    record {
      value = sym (after_here _ _ _ _ _ _ c.loop-i-test.true c.times.ensures.value c.if-times-number.true) ∙ c.loop-i.invariant;
      upper_bound = omega arith;
    }

pub loop-i-preserved : goal.loop-i-preserved
loop-i-preserved c =
    sym (after_next _ _ _ _ _ _ c.loop-i-test.true c.times.ensures.value c.if-times-number.false) ∙ c.loop-i.invariant

pub returns : goal.returns
returns c =
    let i : c.loop-i.i ≡ c.args.upto = omega arith in
    record {
      value = sym i ∙ (sym (after_end _ _ _ _ _ c.loop-i-test.false) ∙ c.loop-i.invariant);
      upper_bound = omega arith;
    }
