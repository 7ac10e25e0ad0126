use Rattle.rs_outside.specs.Files.{found_in}
use Rattle.rs_events.proofs.OneRun.{found-one}
use Rattle.rs_run.proofs.OneRun.{IsRun-one}
use Rattle.rs_run.proofs.laws.one_run.Goals as goal

pub returns : goal.returns
returns c = λ there. IsRun-one (found_in there) (found-one there)
