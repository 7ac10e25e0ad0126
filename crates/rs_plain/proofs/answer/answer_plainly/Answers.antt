-- The catalogue as it is shows all that is in it.
use Rattle.std.proofs.Common.{sym, subst}
use Rattle.std.specs.Prelude.{IfErr}
use Rattle.rs_catalog.specs.Catalog.{CatalogDef}
use Rattle.rs_expr.specs.InOrder.{Inquires}
use Rattle.rs_query.specs.Views.{all_rows}
use Rattle.rs_query.specs.WellFormed.{IsQuery}
use Rattle.rs_plain.specs.Plain.{evaluation_of}
use Rattle.rs_plain.specs.Results.{NamesCalled, as_list}
use Rattle.rs_plain.specs.declared.fault.PlainFault.TheVariants.{Memory}
use Rattle.rs_plain.proofs.answer.answer_plainly.Goals as goal

pub answer_over-requires : goal.answer_over-requires
answer_over-requires g c = subst (λ (seen : CatalogDef). IsQuery seen c.args.query.now) (sym c.current.ensures) c.requires

pub returns-clause-evaluates : goal.returns-clause-evaluates
returns-clause-evaluates g c =
    let old = g.S.Scorer.state c.args.scorer.now in
    let new = g.S.Scorer.state c.answer_over.new.scorer in
    subst (λ (seen : CatalogDef). Inquires Memory (evaluation_of old.answer seen c.args.query.now (all_rows seen c.args.query.now)) (as_list c.answer_over.result) old new)
    c.current.ensures c.answer_over.ensures.evaluates

pub returns-clause-names : goal.returns-clause-names
returns-clause-names g c = subst (λ (seen : CatalogDef). IfErr c.answer_over.result (NamesCalled seen c.args.query.now)) c.current.ensures c.answer_over.ensures.names
