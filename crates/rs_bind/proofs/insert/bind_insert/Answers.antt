use Rattle.std.proofs.Common.{rules}
use Rattle.rs_syntax.specs.Syntax.{command_of}
use Rattle.rs_bind.proofs.InsertFacts.{CanJoin-given}
use Rattle.rs_bind.proofs.insert.bind_insert.Goals as goal

pub returns-clause-joins : goal.returns-clause-joins
returns-clause-joins c = CanJoin-given c.args.catalog.now (command_of c.args.statement.now) _ c.requires.written (search rules)
