use Rattle.std.proofs.Common.{◌≡◌}
use Rattle.rs_bind.specs.Queries.{called}
use Rattle.rs_bind.proofs.OutputFacts.{called_left}
use Rattle.rs_bind.proofs.outputs.only_called.Given as goal

abbrev pub invariant-loop-place : goal.invariant-loop-place
invariant-loop-place l = called_left l.name l.names l.items l.found l.place ≡ called l.name l.names l.items
