-- What was typed is well formed.
use Rattle.std.proofs.Common.{rules}
use Rattle.rs_syntax.specs.Syntax.{query_of}
use Rattle.rs_bind.proofs.FormedFacts.{IfOk-formed}
use Rattle.rs_bind.proofs.query.bind_typed.Goals as goal

pub returns-in-None-clause-formed : goal.returns-in-None-clause-formed
returns-in-None-clause-formed c =
    IfOk-formed c.args.catalog.now (query_of c.args.select.now) c.bind_one.result c.requires.written c.bind_one.ensures.narrow
    (search rules)

pub returns-in-Some-clause-formed : goal.returns-in-Some-clause-formed
returns-in-Some-clause-formed c =
    IfOk-formed c.args.catalog.now (query_of c.args.select.now) c.bind_set.result c.requires.written c.bind_set.ensures.narrow
    (search rules)
