-- `messages::messages` meets its contract: a refusal changes nothing; otherwise the list is laid down in the first
-- 16,384 words.
use mathlib.Core.Path.{refl}
use Rattle.std.specs.Prelude.{Ok, Err}
use Rattle.refusal.specs.Inner.Checks.{at_no_place}
use Rattle.refusal.proofs.Refusals.{no_number_0, placeless}
use Rattle.messages.proofs.Listing.{front, listed, refuses_messages, lists}
use Rattle.messages.proofs.messages.Goals as goal

pub returns-in_err-prepare : goal.returns-in_err-prepare
returns-in_err-prepare c =
    let e = placeless _ _ c.from_residual.ensures.1 in
    let p = (listed c.args.table.now c.args.area.now c.args.step c.args.set c.args.line (Err (at_no_place _)) _).1 (refuses_messages c.args.table.now c.args.area.now c.args.step c.args.set c.args.line _ _ c.in_err-prepare.ensures.fault (no_number_0 _) refl) in
    rw e (record { answer = p.answer; words = p.words; few = p.few; means = p.means })

pub list_from-requires : goal.list_from-requires
list_from-requires c =
    let P = c.in_ok-prepare.ensures.given in
    (front c.args.area.now _ P.opened.enough c.zero.ensures, (_, P.given))

pub returns : goal.returns
returns c =
    let P = c.in_ok-prepare.ensures.given in
    let p = (listed c.args.table.now c.args.area.now c.args.step c.args.set c.args.line (Ok c.list_from.result) _).1 (lists c.args.table.now c.args.area.now c.args.step c.args.set c.args.line P.given.tells.laws _ _ c.in_ok-prepare.ensures.fault (c.list_from.ensures.answer _ P.given) (c.list_from.ensures.words _ P.given) c.list_from.ensures.few) in
    record { answer = p.answer; words = p.words; few = p.few; means = p.means }
