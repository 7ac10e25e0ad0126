use Rattle.rs_syntax.proofs.ScriptFacts.{Refuses-one, IsSound-not_refused}
use Rattle.rs_syntax.proofs.script.one_refusal.Goals as goal

pub returns-clause-one : goal.returns-clause-one
returns-clause-one c = λ text tokens a b h k. Refuses-one text tokens a b h k

pub returns-clause-sound : goal.returns-clause-sound
returns-clause-sound c = λ text tokens a h k. IsSound-not_refused text tokens a h k
