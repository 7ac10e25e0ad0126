-- The catalogue as it is shows all that is in it.
use Rattle.std.proofs.Common.{sym, subst}
use Rattle.std.specs.Prelude.{IfErr, IfOk}
use Rattle.rs_catalog.specs.Catalog.{CatalogDef}
use Rattle.rs_expr.specs.InOrder.{Inquires}
use Rattle.rs_query.specs.Views.{all_rows}
use Rattle.rs_query.specs.WellFormed.{IsQuery}
use Rattle.rs_sample.specs.Cards.{AllSayTheSame}
use Rattle.rs_sample.specs.Kept.{cards_of}
use Rattle.rs_sample.specs.Sampling.{NamesPredicate, asking_all, done, done_of, query_cards, questions_of}
use Rattle.rs_sample.specs.declared.cards.Cards.{Cards}
use Rattle.rs_sample.specs.declared.fault.SampleFault.TheVariants.{Memory}
use Rattle.rs_sample.proofs.cards.Cards.take.Goals as goal

pub take_over-requires : goal.take_over-requires
take_over-requires g c = subst (λ (seen : CatalogDef). IsQuery seen c.args.query.now) (sym c.current.ensures) c.requires

pub returns-clause-asks : goal.returns-clause-asks
returns-clause-asks g c =
    let old = g.S.Scorer.state c.args.scorer.now in
    let new = g.S.Scorer.state c.take_over.new.scorer in
    subst (λ (seen : CatalogDef). Inquires Memory (asking_all seen (questions_of c.args.query.now (all_rows seen c.args.query.now) c.args.seed) done) (done_of c.take_over.result) old new)
    c.current.ensures c.take_over.ensures.asks

pub returns-clause-cards : goal.returns-clause-cards
returns-clause-cards g c =
    let old = g.S.Scorer.state c.args.scorer.now in
    subst (λ (seen : CatalogDef). IfOk c.take_over.result (λ (cards : Cards). AllSayTheSame (cards_of cards) (query_cards old.answer seen c.args.query.now (all_rows seen c.args.query.now) c.args.seed)))
    c.current.ensures c.take_over.ensures.cards

pub returns-clause-names_predicate : goal.returns-clause-names_predicate
returns-clause-names_predicate g c = subst (λ (seen : CatalogDef). IfErr c.take_over.result (NamesPredicate seen)) c.current.ensures c.take_over.ensures.names_predicate
