-- The parts of an AND are those of its left part, and then those of its right one.
use Rattle.std.proofs.Common.{◌≡◌, List, [], ◌∷◌, arith, rules, subst, sym}
use Rattle.std.specs.Prelude.{Result, Ok, Err}
use Rattle.std.proofs.lemmas.Grind.{common_steps}
use Rattle.std.proofs.lemmas.Result.{err_from_is_err_and}
use Rattle.rs_value.specs.Answer.{Gives}
use Rattle.rs_syntax.specs.Syntax.{expression_of}
use Rattle.rs_syntax.specs.declared.node.Node.{Node, the_lemmas}
use Rattle.rs_query.specs.Conjuncts.{ConjunctDef}
use Rattle.rs_typing.specs.declared.fault.BindFault.{BindFault}
use Rattle.rs_typing.specs.declared.fault.BindFault.TheVariants.{Memory}
use Rattle.rs_typing.specs.Models.{result_map}
use Rattle.rs_bind.specs.Conditions.{parts_of_and}
use Rattle.rs_bind.specs.Sources.{sources_of}
use Rattle.rs_bind.proofs.FilterFacts.{both-given, left-refused, part-given, with_parts}
use Rattle.rs_bind.proofs.filter.+add_conjuncts.Goals as goal

pub returns-in_err-add_conjuncts-in-And-clause-gives : goal.returns-in_err-add_conjuncts-in-And-clause-gives
returns-in_err-add_conjuncts-in-And-clause-gives t c =
    let sources = sources_of c.args.sources.now.catalog.now c.args.sources.now.from.now in
    let old = c.args.made.now.items in
    let fault = c.in_err-add_conjuncts-in-And.field-0.0 in
    let left = parts_of_and (expression_of c.in-And.left.value) in
    let right = parts_of_and (expression_of c.in-And.right.value) in
    let first : Gives Memory (with_parts sources old left) (Err fault) =
    subst (λ (n : Node). Gives Memory (with_parts sources old (parts_of_and (expression_of n))) (Err fault)) c.deref.ensures
    c.in_err-add_conjuncts-in-And.ensures.gives in
    let whole : Gives Memory (with_parts sources old (parts_of_and (expression_of c.args.node.now))) (Err fault) =
    subst (λ (n : Node). Gives Memory (with_parts sources old (parts_of_and (expression_of n))) (Err fault)) (sym c.in-And.is)
    (left-refused sources old left right fault first) in
    let p = err_from_is_err_and c.from_residual.result c.from_residual.ensures.1 in
    rw (p.1, p.2) whole

pub returns-in_ok-add_conjuncts-in-And-clause-gives : goal.returns-in_ok-add_conjuncts-in-And-clause-gives
returns-in_ok-add_conjuncts-in-And-clause-gives t c =
    let sources = sources_of c.args.sources.now.catalog.now c.args.sources.now.from.now in
    let old = c.args.made.now.items in
    let middle = c.add_conjuncts.new.made.items in
    let left = parts_of_and (expression_of c.in-And.left.value) in
    let right = parts_of_and (expression_of c.in-And.right.value) in
    let first : Gives Memory (with_parts sources old left) (Ok middle) =
    subst (λ (n : Node). Gives Memory (with_parts sources old (parts_of_and (expression_of n))) (Ok middle)) c.deref.ensures
    c.in_ok-add_conjuncts-in-And.ensures.gives in
    let made : Result (List ConjunctDef) BindFault =
    result_map (λ (done : Unit {0}). c.add_conjuncts-in-And.new.made.items) c.add_conjuncts-in-And.result in
    let second : Gives Memory (with_parts sources middle right) made =
    subst (λ (n : Node). Gives Memory (with_parts sources middle (parts_of_and (expression_of n))) made) c.deref-in-And.ensures
    c.add_conjuncts-in-And.ensures.gives in
    subst (λ (n : Node). Gives Memory (with_parts sources old (parts_of_and (expression_of n))) made) (sym c.in-And.is)
    (both-given sources old middle left right made first second)

pub returns-in_default-clause-gives : goal.returns-in_default-clause-gives
returns-in_default-clause-gives t c =
    let sources = sources_of c.args.sources.now.catalog.now c.args.sources.now.from.now in
    let x = expression_of c.args.node.now in
    let lone : parts_of_and (expression_of c.args.node.now) ≡ expression_of c.args.node.now ∷ [] =
    first_of (search rules, search (rules, the_lemmas), grind (arith, common_steps)) in
    part-given sources c.args.made.now.items x (parts_of_and x) _ lone c.add_conjunct.ensures.gives
