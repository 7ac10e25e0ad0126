-- A formula uses what the parameters give.
use Rattle.rs_syntax.specs.Syntax.{expression_of}
use Rattle.rs_typing.specs.Models.{typed_of}
use Rattle.rs_typing.proofs.UsesFacts.{IfOk-uses}
use Rattle.rs_bind.proofs.predicate.bind_formula.Goals as goal

pub returns-clause-fits : goal.returns-clause-fits
returns-clause-fits c =
    IfOk-uses c.args.columns.now (expression_of c.args.formula.now) c.span_of.result (typed_of c.in_ok-typed.typed) c.number.result c.in_ok-typed.ensures.gives
    c.number.ensures
