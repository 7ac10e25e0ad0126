use Rattle.std.proofs.Common.{sym, subst}
use Rattle.rs_expr.specs.MemScorer.{scorer_state}
use Rattle.rs_expr.specs.Scoring.{Answering}
use Rattle.rs_exec.specs.Cursors.{CanGo}
use Rattle.cases_plans.proofs.CursorFacts.{goes-on}
use Rattle.cases_plans.proofs.asks.ask.Goals as goal

pub returns-clause-goes : goal.returns-clause-goes
returns-clause-goes c =
    subst (λ (answer : Answering). CanGo c.args.catalog.now answer c.next.new.self) (sym c.next.ensures.asks.keeps.answer)
    (goes-on c.args.catalog.now (scorer_state c.args.scorer.now).answer c.next.new.self c.next.result c.next.ensures.failed c.next.ensures.stands)
