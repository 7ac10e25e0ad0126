use Rattle.std.proofs.Common.{◌≤◌, ◌+◌, rules}
use Rattle.rs_outside.proofs.FetchFacts.{ConsumesAtMost-more}
use Rattle.rs_outside.proofs.dir_files.append_rest.Goals as goal

pub returns-then-is_err-clause-consumes : goal.returns-then-is_err-clause-consumes
returns-then-is_err-clause-consumes g c =
    let few : c.in-Ok.count ≤ c.loop-count.room + 1 = search rules in
    ConsumesAtMost-more _ _ _ c.loop-count.invariant.0 _ c.in-Ok.count c.loop-count.room c.args.limit c.loop-count.invariant.3 c.in-Ok.ensures.bytes.0 c.loop-count.invariant.2 few

pub returns-then-count-room-clause-consumes : goal.returns-then-count-room-clause-consumes
returns-then-count-room-clause-consumes g c =
    let few : c.in-Ok.count ≤ c.loop-count.room + 1 = search rules in
    ConsumesAtMost-more _ _ _ c.loop-count.invariant.0 _ c.in-Ok.count c.loop-count.room c.args.limit c.loop-count.invariant.3 c.in-Ok.ensures.bytes.0 c.loop-count.invariant.2 few
