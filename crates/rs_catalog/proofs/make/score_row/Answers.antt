-- A call that failed is the one request.
use Rattle.std.proofs.Common.{◌≡◌, ◌∙◌, subst, Err}
use Rattle.std.specs.Prelude.{option_map}
use Rattle.rs_expr.specs.Scoring.{call_of, calls_after}
use Rattle.rs_expr.specs.declared.scorer.ScorerFault.TheVariants.{Failed}
use Rattle.rs_expr.proofs.InOrderFacts.{Inquires-failed}
use Rattle.rs_catalog.specs.Indexes.{args_in, row_request, row_at}
use Rattle.rs_catalog.specs.Making.{score_for}
use Rattle.rs_catalog.specs.declared.index.IndexFault.TheVariants.{Memory}
use Rattle.rs_catalog.proofs.make.score_row.Goals as goal

pub returns-in-Err-Failed : goal.returns-in-Err-Failed
returns-in-Err-Failed g c =
    let predicate = c.args.predicate.now in
    let row = row_at c.args.table.now.rows c.args.row in
    let old = g.S.Scorer.state c.args.scorer.now in
    let new = g.S.Scorer.state c.score.new.self in
    let values : c.deref.result.now ≡ args_in c.args.args.now row = c.deref.ensures.value ∙ c.in_ok-values.ensures.values in
    let says = rw c.in-Err-Failed.field-0-is at c.in-Err-Failed.ensures in
    Inquires-failed Memory (row_request predicate c.args.args.now row) (score_for predicate.max c.args.row (old.answer predicate (args_in c.args.args.now row))) old new (record {
      same = says.same;
      told = subst (λ args. new.outside.told ≡ option_map (calls_after (call_of predicate args) (Err Failed)) old.outside.told) values says.told;
      calls = says.calls;
      counts = says.counts;
    })
