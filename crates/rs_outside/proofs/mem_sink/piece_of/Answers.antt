use Rattle.std.proofs.Common.{drop, arith}
use Rattle.std.proofs.lemmas.Grind.{common_steps}
use Rattle.rs_outside.proofs.mem_sink.piece_of.Goals as goal

pub returns-in-Some-clause-prefix : goal.returns-in-Some-clause-prefix
returns-in-Some-clause-prefix c =
    record { rest = drop c.min.result c.args.bytes.now; split = grind (arith, common_steps) }
