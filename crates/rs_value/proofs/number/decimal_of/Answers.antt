use Rattle.std.proofs.Common.{sym, arith}
use Rattle.rs_value.proofs.NumberFacts.{decimal_value-above}
use Rattle.rs_value.proofs.number.decimal_of.Goals as goal

pub returns-then-number-most : goal.returns-then-number-most
returns-then-number-most c =
    sym (decimal_value-above c.args.most c.loop-digit.number c.loop-digit.digit-index c.args.digits.now (omega arith) c.if-number-most.true c.loop-digit.invariant.goes_on)
