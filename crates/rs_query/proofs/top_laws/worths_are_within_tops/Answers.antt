use Rattle.rs_query.proofs.BoundedFacts.{bounded-before, bounded-tops, bounded-view, formed-tops, has-tops, top-first}
use Rattle.rs_query.proofs.top_laws.worths_are_within_tops.Goals as goal

pub returns-clause-tops : goal.returns-clause-tops
returns-clause-tops c = λ catalogue query is. has-tops catalogue query is

pub returns-clause-worths : goal.returns-clause-worths
returns-clause-worths c = λ answer catalogue query holds tops. bounded-tops answer catalogue holds query tops

pub returns-clause-formed : goal.returns-clause-formed
returns-clause-formed c = λ catalogue query is. formed-tops catalogue query is

pub returns-clause-first : goal.returns-clause-first
returns-clause-first c = λ answer catalogue table predicate args entry index holds first.
    top-first answer catalogue holds c.rankings_are_in_order.ensures.ranking table predicate args entry index first

pub returns-clause-views : goal.returns-clause-views
returns-clause-views c = λ answer catalogue query number sizes mask rows term bounded within combined there inside.
    bounded-view answer catalogue query number sizes mask rows term bounded within combined there inside

pub returns-clause-before : goal.returns-clause-before
returns-clause-before c = λ answer old new query grows is bounded. bounded-before answer old new query grows is bounded
