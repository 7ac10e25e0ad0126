use Rattle.rs_typing.proofs.RuleFacts.{typed_by_rules, refused_by_rules}
use Rattle.rs_typing.proofs.laws.expressions_are_typed_by_rules.Goals as goal

pub returns-clause-typed : goal.returns-clause-typed
returns-clause-typed c = λ scope x t. typed_by_rules scope x t

pub returns-clause-refused : goal.returns-clause-refused
returns-clause-refused c = λ scope x fault. refused_by_rules scope x fault
