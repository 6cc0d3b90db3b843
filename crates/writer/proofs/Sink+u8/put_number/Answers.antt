-- `Sink::put_number` meets its contract: one digit, two, three, or more.
use native.Mathlib.Omega.{arith}
use Rattle.writer.proofs.Buffers.{takes_same, takes_then}
use Rattle.writer.proofs.Digits.{decimal_one, decimal_two, decimal_three}
use Rattle.writer.proofs.Sink+u8.put_number.Goals as goal

pub returns-in-0-to-9 : goal.returns-in-0-to-9
returns-in-0-to-9 c = takes_same (decimal_one c.args.n (omega arith)) c.put_digit.ensures

pub returns-in-10-to-99 : goal.returns-in-10-to-99
returns-in-10-to-99 c = takes_same (decimal_two c.args.n (omega arith) (omega arith)) c.put_two.ensures

pub returns-in-100-to-999 : goal.returns-in-100-to-999
returns-in-100-to-999 c =
    takes_same (decimal_three c.args.n (omega arith) (omega arith)) (takes_then c.put_digit-in-100-to-999.ensures c.put_two-in-100-to-999.ensures)
