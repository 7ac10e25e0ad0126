use Rattle.std.proofs.Common.{◌-◌}
use Rattle.rs_ta.proofs.UnaccessedFacts.{none-at}
use Rattle.rs_ta.proofs.mem_lists.MemLists.new.Goals as goal

pub returns-clause-unaccessed : goal.returns-clause-unaccessed
returns-clause-unaccessed c = record { counts = λ number. (none-at (number - 1), none-at (number - 1)); told = assumption c.new.ensures }
