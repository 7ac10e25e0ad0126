use Rattle.std.proofs.Common.{◌≡◌, ◌∙◌}
use Rattle.rs_value.proofs.ResultFacts.{given-err}
use Rattle.rs_exec.specs.Cursors.{plan_of}
use Rattle.rs_statement.specs.declared.fault.Fault.TheVariants.{Memory}
use Rattle.rs_statement.specs.Parts.Asks.{left_of, most_asks}
use Rattle.rs_events.specs.Sequence.{silent}
use Rattle.rs_statement.proofs.AnalyzeSteps.{Stepped-late}
use Rattle.rs_statement.proofs.CountSteps.{counts-at}
use Rattle.rs_statement.proofs.analyzed.asked_counts.Goals as goal

pub ask_all-requires : goal.ask_all-requires
ask_all-requires g c = c.requires

pub returns-in_err-ask_all : goal.returns-in_err-ask_all
returns-in_err-ask_all g c =
    rw (given-err c.from_residual.result c.in_err-ask_all.field-0.0 c.from_residual.ensures) (record { asks = c.in_err-ask_all.ensures.asks; counts = tt; query = tt })

pub all_counts-requires : goal.all_counts-requires
all_counts-requires g c = (c.args.catalog.now, (g.S.Scorer.state c.args.scorer.now).answer, c.in_ok-ask_all.ensures.stands)

pub returns-in_err-all_counts : goal.returns-in_err-all_counts
returns-in_err-all_counts g c =
    rw (given-err c.from_residual-in_err-all_counts.result Memory c.from_residual-in_err-all_counts.ensures) (record {
      asks = λ beside. Stepped-late (λ step. step ≡ silent (left_of c.args.catalog.now (g.S.Scorer.state c.args.scorer.now).answer c.args.cursor.now)) c.args.catalog.now
          (record beside { scorer = g.S.Scorer.state c.args.scorer.now }) (record beside { scorer = g.S.Scorer.state c.ask_all.new.scorer }) (c.in_ok-ask_all.ensures.asks beside);
      counts = tt;
      query = tt;
    })

pub returns : goal.returns
returns g c =
    let catalogue = c.args.catalog.now in
    let answer = (g.S.Scorer.state c.args.scorer.now).answer in
    let cursor = c.args.cursor.now in
    let all = c.in_ok-ask_all.ensures.all in record {
      asks = c.in_ok-ask_all.ensures.asks;
      counts = c.in_ok-all_counts.ensures catalogue answer c.in_ok-ask_all.ensures.stands
          ∙ counts-at catalogue answer cursor.query (plan_of cursor) (most_asks catalogue answer cursor) c.ask_all.new.cursor all;
      query = all.query_is;
    }
