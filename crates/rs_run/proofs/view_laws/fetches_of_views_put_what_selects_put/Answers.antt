use Rattle.rs_run.specs.Reached.{anything}
use Rattle.rs_run.specs.Viewing.{first_view_statement}
use Rattle.rs_run.proofs.SelectSteps.{fetch-select}
use Rattle.rs_run.proofs.view_laws.fetches_of_views_put_what_selects_put.Goals as goal

pub returns : goal.returns
returns c = λ answer before after state declared name query limit count most wanted written leads same apart is_most number is_limit.
    fetch-select answer anything before after first_view_statement state declared name query limit count most wanted written tt leads same apart is_most number is_limit
