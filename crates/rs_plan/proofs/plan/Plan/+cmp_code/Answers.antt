-- The codes of two sides follow each other, and none goes on where another one ends.
use Rattle.std.proofs.Common.{◌≡◌, ◌∙◌, sym, ap}
use Rattle.std.specs.Ordering.{nat_cmp, ordering_then}
use Rattle.rs_plan.specs.Numbers.{kind_number}
use Rattle.rs_plan.specs.Shapes.{tree_of}
use Rattle.rs_plan.specs.Trees.{code, code_cmp, entries, join_number, terms}
use Rattle.rs_plan.proofs.CodeFacts.{joins-cmp, sides-cmp}
use Rattle.rs_plan.proofs.ShapeFacts.{join-shape}
use Rattle.rs_plan.proofs.plan.Plan.+cmp_code.Goals as goal

pub returns-in-HashJoin-other : goal.returns-in-HashJoin-other
returns-in-HashJoin-other t c =
    let own = join-shape c.args.self.now c.in-HashJoin.left c.in-HashJoin.right c.in-HashJoin.is in
    let others = join-shape c.args.other.now c.in-HashJoin-other.other_left c.in-HashJoin-other.other_right c.in-HashJoin-other.is in
    let l = tree_of c.in-HashJoin.left.value in
    let r = tree_of c.in-HashJoin.right.value in
    let m = tree_of c.in-HashJoin-other.other_left.value in
    let s = tree_of c.in-HashJoin-other.other_right.value in
    let turns : c.then-in-HashJoin-other-2.result ≡ ordering_then (nat_cmp (join_number own.kind) (join_number others.kind))
    (ordering_then (ordering_then (nat_cmp (entries l) (entries m)) (nat_cmp (terms l) (terms m))) (ordering_then (code_cmp (code l) (code m)) (code_cmp (code r) (code s)))) =
    cc (ap kind_number own.is, ap kind_number others.is) in
    turns ∙ joins-cmp own.kind others.kind l r m s ∙ (λ i. code_cmp (code (sym own.is i)) (code (sym others.is i)))

pub returns-in-SetOperator-other : goal.returns-in-SetOperator-other
returns-in-SetOperator-other t c =
    let l = tree_of c.in-SetOperator.left.value in
    let r = tree_of c.in-SetOperator.right.value in
    let m = tree_of c.in-SetOperator-other.other_left.value in
    let s = tree_of c.in-SetOperator-other.other_right.value in
    let turns : c.then-in-SetOperator-other.result ≡ ordering_then (code_cmp (code l) (code m)) (code_cmp (code r) (code s)) = cc in
    turns ∙ sides-cmp l r m s ∙ (λ i. code_cmp (code (tree_of (sym c.in-SetOperator.is i))) (code (tree_of (sym c.in-SetOperator-other.is i))))
