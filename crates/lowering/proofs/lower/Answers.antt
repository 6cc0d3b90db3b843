use mathlib.Core.Path.{◌≡◌, sym, ◌∙◌}
use mathlib.Core.Bool.{true}
use Prim.Native.Nat.{◌<◌}
use Rattle.words.proofs.Cases.{clash}
use Rattle.sets.proofs.Sets.{everyone_in, first_lt, rest_less, rest_outside}
use Rattle.lowering.specs.Inner.Lowering.{undone_w}
use Rattle.lowering.specs.Inner.Lowering.Lowers.{same}
use Rattle.lowering.proofs.Worklist.{looking_begins, ranged, look_fits, look_lowers, look_less, looking_next, looking_stops, looking_ends, look_idle, joined_lt, working_ends}
use native.Mathlib.Omega.{arith}
use Rattle.lowering.proofs.lower.Goals as goal

pub loop-pending-init : goal.loop-pending-init
loop-pending-init c =
    (omega arith, λ cut S K. record { lowers = same; looking = looking_begins _ _ _ _ _ c.requires.1 K; idle = λ z l o. clash (everyone_in z l) o })

pub undoes-requires : goal.undoes-requires
undoes-requires c =
    let W = c.loop-pending.invariant.1 c.requires.2.0 c.requires.2.1 c.requires.2.2 in let p : 0 < c.loop-pending.pending = omega (arith, c.loop-pending-test.true) in let lz : c.first-z.result < 64 = omega (arith, c.first-z.ensures.number, first_lt c.loop-pending.pending p c.loop-pending.invariant.0) in (ranged _ _ _ _ W.looking c.requires.2.1, lz)

pub look-pending-requires : goal.look-pending-requires
look-pending-requires c =
    let W = c.loop-pending.invariant.1 c.requires.2.0 c.requires.2.1 c.requires.2.2 in let p : 0 < c.loop-pending.pending = omega (arith, c.loop-pending-test.true) in let lz : c.first-z.result < 64 = omega (arith, c.first-z.ensures.number, first_lt c.loop-pending.pending p c.loop-pending.invariant.0) in let u : undone_w c.args.full.now c.loop-pending.epochs c.loop-pending.latest c.first-z.result ≡ true = sym c.undoes.ensures ∙ c.if-undoes.true in record { long = c.requires.2.2.long; wide = W.looking.wide; process = lz; fits = look_fits _ _ _ _ W.looking _ _ _ c.requires.2.1 c.requires.2.2 lz u _ (c.requires.0) }

pub loop-pending-smaller-then-undoes : goal.loop-pending-smaller-then-undoes
loop-pending-smaller-then-undoes c =
    let W = c.loop-pending.invariant.1 c.requires.2.0 c.requires.2.1 c.requires.2.2 in let p : 0 < c.loop-pending.pending = omega (arith, c.loop-pending-test.true) in let lz : c.first-z.result < 64 = omega (arith, c.first-z.ensures.number, first_lt c.loop-pending.pending p c.loop-pending.invariant.0) in let u : undone_w c.args.full.now c.loop-pending.epochs c.loop-pending.latest c.first-z.result ≡ true = sym c.undoes.ensures ∙ c.if-undoes.true in let d = look_less _ _ _ _ W.looking _ _ _ c.requires.2.1 c.requires.2.2 lz u _ _ _ c.look-pending.ensures.line c.look-pending.ensures.rest in let b = joined_lt _ _ _ _ _ c.look-pending.ensures.pending c.loop-pending.invariant.0 in omega (arith, d, b)

pub loop-pending-preserved-then-undoes : goal.loop-pending-preserved-then-undoes
loop-pending-preserved-then-undoes c =
    let p : 0 < c.loop-pending.pending = omega (arith, c.loop-pending-test.true) in let lz : c.first-z.result < 64 = omega (arith, c.first-z.ensures.number, first_lt c.loop-pending.pending p c.loop-pending.invariant.0) in let u : undone_w c.args.full.now c.loop-pending.epochs c.loop-pending.latest c.first-z.result ≡ true = sym c.undoes.ensures ∙ c.if-undoes.true in (joined_lt _ _ _ _ _ c.look-pending.ensures.pending c.loop-pending.invariant.0, λ cut S K. let W = c.loop-pending.invariant.1 cut S K in record { lowers = look_lowers _ _ _ _ W.looking _ _ _ S K lz u _ _ _ c.look-pending.ensures.line c.look-pending.ensures.rest _ W.lowers; looking = looking_next _ _ _ _ W.looking _ _ _ S K lz u _ _ _ c.look-pending.ensures.line c.look-pending.ensures.rest; idle = look_idle _ _ _ _ W.looking _ _ _ S K lz u _ _ _ c.look-pending.ensures.line c.look-pending.ensures.rest _ _ c.first-z.ensures.number p c.loop-pending.invariant.0 c.look-pending.ensures.pending W.idle })

pub loop-pending-smaller : goal.loop-pending-smaller
loop-pending-smaller c =
    let d = rest_less c.loop-pending.pending (omega (arith, c.loop-pending-test.true)) in omega (arith, d, c.rest-pending.ensures.number)

pub loop-pending-preserved : goal.loop-pending-preserved
loop-pending-preserved c =
    let p : 0 < c.loop-pending.pending = omega (arith, c.loop-pending-test.true) in (omega (arith, rest_less c.loop-pending.pending p, c.rest-pending.ensures.number, c.loop-pending.invariant.0), λ cut S K. let W = c.loop-pending.invariant.1 cut S K in record { lowers = W.lowers; looking = W.looking; idle = rest_outside _ _ _ _ p c.loop-pending.invariant.0 c.first-z.ensures.number c.rest-pending.ensures.number (sym c.undoes.ensures ∙ c.if-undoes.false) W.idle })

pub returns : goal.returns
returns c =
    record {
      line = λ cut S K. let W = c.loop-pending.invariant.1 cut S K in looking_ends _ _ _ _ W.looking _ _ W.lowers (looking_stops _ _ _ _ W.looking (working_ends _ _ _ _ _ _ _ W c.loop-pending-test.false));
      left = λ cut S K. let W = c.loop-pending.invariant.1 cut S K in looking_stops _ _ _ _ W.looking (working_ends _ _ _ _ _ _ _ W c.loop-pending-test.false);
    }
