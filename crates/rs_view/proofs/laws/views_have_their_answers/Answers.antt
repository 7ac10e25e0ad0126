use Rattle.std.proofs.Common.{subst}
use Rattle.rs_query.specs.Blocks.{block_in}
use Rattle.rs_view.specs.Fresh.{fresh_questions, whole_view}
use Rattle.rs_view.specs.Holding.{HasItsAnswer}
use Rattle.rs_view.proofs.HoldingFacts.{asked-well, grown-has, limited-has, made-has, still-has}
use Rattle.rs_view.proofs.laws.views_have_their_answers.Goals as goal

pub returns : goal.returns
returns c = record {
  made = made-has;
  grown = λ answer old new view later grows has gives.
      let leads = asked-well answer new (fresh_questions new (block_in view.query 1) view.lengths) (whole_view answer new view.query) later gives in
      subst (HasItsAnswer answer new) leads.same (grown-has answer old new grows view has leads.good);
  kept = λ answer old new view grows has same. still-has answer old new grows view has same;
  limited = λ answer catalogue view wanted has. limited-has answer catalogue view wanted has;
}
