use Rattle.rs_query.proofs.GrowthFacts.{IsViewOf-all, block-grows, query-grows, size-grows, view-grows}
use Rattle.rs_query.proofs.growth_laws.queries_stay_formed.Goals as goal

pub returns-clause-block : goal.returns-clause-block
returns-clause-block c = λ old new block grows is. block-grows old new grows block is

pub returns-clause-query : goal.returns-clause-query
returns-clause-query c = λ old new query grows is. query-grows old new grows query is

pub returns-clause-sizes : goal.returns-clause-sizes
returns-clause-sizes c = λ old new block entry grows. size-grows old new grows block entry

pub returns-clause-view : goal.returns-clause-view
returns-clause-view c = λ old new query view grows is. view-grows old new grows query view is

pub returns-clause-whole : goal.returns-clause-whole
returns-clause-whole c = λ catalogue query is. IsViewOf-all catalogue query is
