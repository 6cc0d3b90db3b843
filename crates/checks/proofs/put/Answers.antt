use Rattle.std.proofs.Common.{refl, sym, ◌∙◌, arith, rules}
use Rattle.checks.proofs.Filled.{rest_next, rest_end}
use Rattle.checks.proofs.put.Goals as goal

pub loop-b-init : goal.loop-b-init
loop-b-init c = (omega arith, (λ last p. p), refl)

pub loop-b-preserved : goal.loop-b-preserved
loop-b-preserved c = (
  omega arith,
  rest_next _ _ _ _ _ _ _ _ _ _ c.loop-b-test.true refl c.value.ensures c.taken-k.ensures.0 c.put_piece.ensures c.loop-b.invariant.1,
  c.put_piece.ensures.same ∙ c.loop-b.invariant.2,
)

pub returns : goal.returns
returns c = rest_end _ _ _ _ _ _ _ c.loop-b-test.false (search (rules, sym c.loop-b.invariant.2)) c.loop-b.invariant.1
