use Rattle.rs_syntax.proofs.ScriptFacts.{Parses-one}
use Rattle.rs_syntax.proofs.script.one_list_of_statements.Goals as goal

pub returns : goal.returns
returns c = λ text tokens a b h k. Parses-one text tokens a b h k
