use Rattle.std.proofs.Common.{rules}
use Rattle.rs_outside.proofs.PieceFacts.{concat-push}
use Rattle.rs_outside.proofs.mem_sink.MemSink.take_piece.Goals as goal

pub invariant_of-self-2 : goal.invariant_of-self-2
invariant_of-self-2 c = search (rules, concat-push)
