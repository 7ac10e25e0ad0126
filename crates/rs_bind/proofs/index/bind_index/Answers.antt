use Rattle.std.proofs.Common.{rules}
use Rattle.rs_syntax.specs.Syntax.{command_of}
use Rattle.rs_bind.proofs.IndexFacts.{IsIndex-given}
use Rattle.rs_bind.proofs.index.bind_index.Goals as goal

pub returns-clause-fits : goal.returns-clause-fits
returns-clause-fits c = IsIndex-given c.args.catalog.now (command_of c.args.statement.now) _ c.requires.written (search rules)
