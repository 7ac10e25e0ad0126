-- The row behind that of all entries.
use Rattle.std.proofs.Common.{◌^◌, ◌≤◌, length, arith}
use Rattle.std.proofs.lemmas.Nat.{pow_pos}
use Rattle.std.proofs.Math.Nat.{pow-le-pow_right}
use Rattle.rs_enum.proofs.fill.distinct_row.Goals as goal

pub overflow_add-result : goal.overflow_add-result
overflow_add-result c =
    let power : 2 ^ length c.args.block.now.from ≤ 2 ^ 6 = pow-le-pow_right {n = 2} (omega arith) c.requires.few in
    let all = c.all_entries.ensures in
    omega arith

pub returns : goal.returns
returns c =
    let some = pow_pos (length c.args.block.now.from) in
    let all = c.all_entries.ensures in
    omega arith
