use Rattle.rs_outside.specs.Files.{found_in}
use Rattle.rs_events.proofs.OneRun.{found-one}
use Rattle.rs_statement.proofs.SameFetches.{AskTheSame}
use Rattle.rs_run.proofs.SameScripts.{alike-scripts}
use Rattle.rs_run.proofs.laws.plain_and_run_agree.Goals as goal

pub returns : goal.returns
returns c =
    let give = c.plans_give_the_answer.ensures.answer in
    let asks = c.plans_ask_the_same_in_larger_catalogues.ensures in
    let same : AskTheSame = record { tables = asks.tables; predicates = asks.predicates; indexes = asks.indexes } in
    λ there answer name sampling. alike-scripts give same (found_in there) (found-one there) answer sampling name
