use Rattle.rs_outside.specs.Files.{found_in}
use Rattle.rs_run.specs.Reached.{anything}
use Rattle.rs_run.specs.Viewing.{first_view_statement}
use Rattle.rs_run.proofs.FetchSteps.{fetch-plain, lead-place, named-has}
use Rattle.rs_run.proofs.HoldSteps.{lead-have}
use Rattle.rs_run.proofs.view_laws.fetches_of_views_put_what_plain_puts.Goals as goal

pub returns : goal.returns
returns c = record {
  puts = λ answer commands state count wanted name view written leads number found.
      let all = lead-have answer anything commands first_view_statement state written tt leads in
      fetch-plain answer state.kept count name wanted view (named-has answer state.kept.catalogue name.text state.kept.views view all found) number found;
  place = λ there answer commands state leads. lead-place answer (found_in there) commands first_view_statement state leads;
}
