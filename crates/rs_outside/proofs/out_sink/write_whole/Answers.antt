use Rattle.std.proofs.Common.{take, ◌++◌}
use Rattle.rs_outside.proofs.StreamFacts.{Appends-then, rest_split}
use Rattle.rs_outside.proofs.out_sink.write_whole.Goals as goal

pub loop-rest-preserved : goal.loop-rest-preserved
loop-rest-preserved g c = (
  c.loop-rest.invariant.0 ++ take c.in-Ok.count c.loop-rest.rest.now,
  rest_split c.args.bytes.now c.loop-rest.invariant.0 c.loop-rest.rest.now c.in-Ok.count c.loop-rest.invariant.1 c.in-Ok.ensures.bound,
  Appends-then _ _ _ _ _ c.loop-rest.invariant.2 c.in-Ok.ensures.bytes,
)
