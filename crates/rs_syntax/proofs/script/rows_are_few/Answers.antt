use Rattle.rs_syntax.proofs.FewRows.{Parses-few}
use Rattle.rs_syntax.proofs.script.rows_are_few.Goals as goal

pub returns : goal.returns
returns c = λ text tokens commands parses sound. Parses-few text tokens commands parses sound
