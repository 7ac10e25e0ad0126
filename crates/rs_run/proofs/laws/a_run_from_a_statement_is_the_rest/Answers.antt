use Rattle.rs_outside.specs.Files.{finds_in, found_in}
use Rattle.rs_outside.proofs.ContentsFacts.{finds-before}
use Rattle.rs_catalog.specs.Catalog.{empty}
use Rattle.rs_events.proofs.OneRun.{found-one}
use Rattle.rs_statement.specs.Session.{DoesInSession, nothing}
use Rattle.rs_statement.proofs.OneStep.{DoesInSession-one}
use Rattle.rs_statement.proofs.StatementFacts.{DoesInSession-finds}
use Rattle.rs_run.specs.Numbered.{DoesNext, first_statement}
use Rattle.rs_run.specs.Threshold.{DoesByScan}
use Rattle.rs_run.specs.Viewing.{DoesByViews, first_view_statement}
use Rattle.rs_run.proofs.NumberedFacts.{DoesNext-one, DoesNext-turn}
use Rattle.rs_run.proofs.OneRun.{DoesByScan-one, DoesByViews-one}
use Rattle.rs_run.proofs.RestFacts.{number-later, script-splits}
use Rattle.rs_run.proofs.ScanSteps.{DoesByScan-finds}
use Rattle.rs_run.proofs.ViewSteps.{DoesByViews-finds}
use Rattle.rs_run.proofs.laws.a_run_from_a_statement_is_the_rest.Goals as goal

pub returns : goal.returns
returns c = record {
  run = λ answer evaluating.
      script-splits (λ finds. DoesInSession finds answer evaluating) nothing
      (λ there. DoesInSession-one (found_in there) (found-one there) answer evaluating)
      (λ old new stays. DoesInSession-finds (finds_in new) (finds_in old) (finds-before old new stays) answer evaluating);
  ta = λ answer.
      script-splits (λ finds. DoesNext (DoesByScan finds answer)) (first_statement empty)
      (λ there. DoesNext-one (DoesByScan (found_in there) answer) (DoesByScan-one (found_in there) (found-one there) answer))
      (λ old new stays. DoesNext-turn (DoesByScan (finds_in new) answer) (DoesByScan (finds_in old) answer)
      (DoesByScan-finds (finds_in new) (finds_in old) (finds-before old new stays) answer));
  view = λ answer.
      script-splits (λ finds. DoesNext (DoesByViews finds answer)) first_view_statement
      (λ there. DoesNext-one (DoesByViews (found_in there) answer) (DoesByViews-one (found_in there) (found-one there) answer))
      (λ old new stays. DoesNext-turn (DoesByViews (finds_in new) answer) (DoesByViews (finds_in old) answer)
      (DoesByViews-finds (finds_in new) (finds_in old) (finds-before old new stays) answer));
  ta_number = λ contents answer. number-later (DoesByScan (finds_in contents) answer) (first_statement empty);
  view_number = λ contents answer. number-later (DoesByViews (finds_in contents) answer) first_view_statement;
}
