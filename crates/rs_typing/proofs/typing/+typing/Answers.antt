-- The parts of a node are what their own calls gave, and the node is what its rule gives of them.
use Rattle.std.proofs.Common.{[], ◌∷◌, refl}
use Rattle.rs_syntax.specs.Syntax.{Case, expression_of}
use Rattle.rs_typing.specs.Models.{result_map, typed_of}
use Rattle.rs_typing.proofs.TypingFacts.{Gives-one, Gives-three, Gives-two, IfOk-has_width}
use Rattle.rs_typing.proofs.typing.+typing.Goals as goal

pub type_one-returns-in-Ok-clause-gives : goal.type_one-returns-in-Ok-clause-gives
type_one-returns-in-Ok-clause-gives g t c =
    let scope = g.S.Scope.finds c.args.scope.now in
    Gives-one scope (expression_of c.args.node.now) (expression_of c.args.part.now) (typed_of c.in-Ok.part) (result_map typed_of c.rule_of_one.result)
    c.requires c.in-Ok.ensures.gives (c.rule_of_one.ensures scope)

pub type_one-returns-in-Ok-clause-narrow : goal.type_one-returns-in-Ok-clause-narrow
type_one-returns-in-Ok-clause-narrow g t c =
    let scope = g.S.Scope.finds c.args.scope.now in
    IfOk-has_width scope (expression_of c.args.node.now) (typed_of c.in-Ok.part) [] c.rule_of_one.result (c.in-Ok.ensures.narrow, tt) (c.rule_of_one.ensures scope)

pub type_two-returns-in-Ok-clause-gives : goal.type_two-returns-in-Ok-clause-gives
type_two-returns-in-Ok-clause-gives g t c =
    let scope = g.S.Scope.finds c.args.scope.now in
    Gives-two scope (expression_of c.args.node.now) (expression_of c.args.left.now) (expression_of c.args.right.now) (typed_of c.in-Ok.left) (typed_of c.in-Ok.right)
    (result_map typed_of c.rule_of_two.result) c.requires c.in-Ok.ensures.gives (c.rule_of_two.ensures scope)

pub type_two-returns-in-Ok-clause-narrow : goal.type_two-returns-in-Ok-clause-narrow
type_two-returns-in-Ok-clause-narrow g t c =
    let scope = g.S.Scope.finds c.args.scope.now in
    IfOk-has_width scope (expression_of c.args.node.now) (typed_of c.in-Ok.left) (typed_of c.in-Ok.right ∷ []) c.rule_of_two.result
    (c.in-Ok.ensures.narrow.0, (c.in-Ok.ensures.narrow.1, tt)) (c.rule_of_two.ensures scope)

pub type_case-returns-in-Ok-type_pair-clause-gives : goal.type_case-returns-in-Ok-type_pair-clause-gives
type_case-returns-in-Ok-type_pair-clause-gives g t c =
    let scope = g.S.Scope.finds c.args.scope.now in
    let x = expression_of c.args.condition.now in
    let y = expression_of c.args.outcome.now in
    let z = expression_of c.args.rest.now in
    Gives-three scope (Case x y z c.args.at) x y z (typed_of c.in-Ok.condition) (typed_of c.in-Ok-type_pair.outcome) (typed_of c.in-Ok-type_pair.rest)
    (result_map typed_of c.case.result) refl c.in-Ok.ensures.gives c.in-Ok-type_pair.ensures.gives (c.case.ensures scope x y z)

pub type_case-returns-in-Ok-type_pair-clause-narrow : goal.type_case-returns-in-Ok-type_pair-clause-narrow
type_case-returns-in-Ok-type_pair-clause-narrow g t c =
    let scope = g.S.Scope.finds c.args.scope.now in
    let x = expression_of c.args.condition.now in
    let y = expression_of c.args.outcome.now in
    let z = expression_of c.args.rest.now in
    IfOk-has_width scope (Case x y z c.args.at) (typed_of c.in-Ok.condition) (typed_of c.in-Ok-type_pair.outcome ∷ typed_of c.in-Ok-type_pair.rest ∷ [])
    c.case.result (c.in-Ok.ensures.narrow, (c.in-Ok-type_pair.ensures.narrow.0, (c.in-Ok-type_pair.ensures.narrow.1, tt))) (c.case.ensures scope x y z)
