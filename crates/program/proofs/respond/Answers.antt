-- `program::respond` meets its contract, one law for each way out.
use mathlib.Core.Path.{◌≡◌, refl, ◌∙◌}
use mathlib.Core.Bool.{Bool, true, false, cond}
use mir.Val.{bool_byte}
use Rattle.program.proofs.Ways.{refuses_long, reports}
use Rattle.std.proofs.Common.{rules}
use Rattle.program.proofs.respond.Goals as goal

byte_is : (b : Bool) → bool_byte b ≡ cond b 1 0
byte_is true = refl
byte_is false = refl

pub returns : goal.returns
returns c =
    let (bytes, (status, (length, (buffer, (exact, (few, within)))))) = reports c.args.read.now c.args.out.now _ c.args.count _ (search rules) (search rules) (search rules) _ c.report-r.result.refused _ refl (search rules) c.report-r.ensures.length c.report-r.ensures.bytes c.report-r.ensures.exact c.report-r.ensures.few c.report-r.ensures.refused (c.from.ensures ∙ byte_is c.report-r.result.refused) in
    record {
      bytes = bytes;
      status = status;
      length = length;
      buffer = buffer;
      exact = exact;
      few = few;
      within = within;
    }

pub returns-then-count-gt-TEXT_MOST : goal.returns-then-count-gt-TEXT_MOST
returns-then-count-gt-TEXT_MOST c =
    let (bytes, (status, (length, (buffer, (exact, (few, within)))))) = refuses_long c.args.read.now c.args.out.now _ c.args.count _ (search rules) (search rules) (search rules) _ (search rules) (rw c.number.ensures at c.put_refusal.ensures) refl in
    record {
      bytes = bytes;
      status = status;
      length = length;
      buffer = buffer;
      exact = exact;
      few = few;
      within = within;
    }
