use Rattle.rs_run.specs.Reached.{anything}
use Rattle.rs_run.specs.Viewing.{first_view_statement}
use Rattle.rs_run.proofs.HoldSteps.{lead-have}
use Rattle.rs_run.proofs.view_laws.held_views_have_their_answers.Goals as goal

pub returns : goal.returns
returns c = λ answer commands state written leads. lead-have answer anything commands first_view_statement state written tt leads
