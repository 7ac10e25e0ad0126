use Rattle.std.proofs.Common.{rules, sym}
use Rattle.rs_syntax.specs.Syntax.{expression_of}
use Rattle.rs_bind.specs.Conditions.{parts_of_and}
use Rattle.rs_bind.proofs.FilterFacts.{few_parts-fit, few_parts-full}
use Rattle.rs_bind.proofs.filter.few_parts.Goals as goal

pub returns-in_err-room_behind : goal.returns-in_err-room_behind
returns-in_err-room_behind c =
    let parts = parts_of_and (expression_of c.args.node.now) in
    let full = few_parts-full parts c.in_err-room_behind.field-0.0 c.in_err-room_behind.ensures in
    rw full (search rules)

pub returns : goal.returns
returns c = sym (few_parts-fit (parts_of_and (expression_of c.args.node.now)) c.in_ok-room_behind.field-0 c.in_ok-room_behind.ensures)
