use Rattle.std.proofs.Common.{◌≡◌, take}
use Rattle.std.specs.List.{flat_map}
use Rattle.rs_query.proofs.QuestionFacts.{AllAsked}
use Rattle.rs_run.specs.Parts.Holding.{AllStand}
use Rattle.rs_run.specs.Viewing.{growth_questions}
use Rattle.rs_run.proofs.GrowthSteps.{grown_up_to}
use Rattle.rs_run.proofs.views.grow_all.Given as goal

-- the first views grew, and their questions had no bad answer; all views stand
pub record Goes (g : goal.Over) (l : goal.Live-loop-index g) : Type 0 where
  pub asked : AllAsked (g.S.Scorer.state l.fn.scorer).answer l.catalog (flat_map (growth_questions l.catalog) (take l.index l.fn.views.held.entries))
      (g.S.Scorer.state l.fn.scorer) (g.S.Scorer.state l.scorer)
  pub grown : l.views.held.entries ≡ grown_up_to (g.S.Scorer.state l.fn.scorer).answer l.catalog l.index l.fn.views.held.entries
  pub stand : AllStand (g.S.Scorer.state l.fn.scorer).answer l.catalog l.views.held.entries

abbrev pub invariant-loop-index : goal.invariant-loop-index
invariant-loop-index g l = Goes g l
