use Rattle.std.proofs.Common.{subst}
use Rattle.rs_query.specs.WellFormed.{IsQuery}
use Rattle.rs_bind.proofs.TopFacts.{one-bounded, same-lengths, set-bounded}
use Rattle.rs_bind.proofs.tops.with_tops.Goals as goal

pub set_tops-tops-requires-clause-same : goal.set_tops-tops-requires-clause-same
set_tops-tops-requires-clause-same c =
    let own = subst (IsQuery c.args.catalog.now) c.in-Set.is c.requires in
    same-lengths c.in-Set.left c.in-Set.right c.in-Set.left.terms c.in-Set.right.terms own.0.terms

pub returns-in-One-clause-value : goal.returns-in-One-clause-value
returns-in-One-clause-value c =
    let made = one-bounded c.args.catalog.now c.args.query c.in-One.block c.bounded_by.result c.in-One.limit c.tops_of-tops.result c.in-One.is c.requires
    c.tops_of-tops.ensures c.bounded_by.ensures in
    made.value

pub returns-in-One-clause-formed : goal.returns-in-One-clause-formed
returns-in-One-clause-formed c =
    let made = one-bounded c.args.catalog.now c.args.query c.in-One.block c.bounded_by.result c.in-One.limit c.tops_of-tops.result c.in-One.is c.requires
    c.tops_of-tops.ensures c.bounded_by.ensures in
    made.formed

pub returns-in-One-clause-tops : goal.returns-in-One-clause-tops
returns-in-One-clause-tops c =
    let made = one-bounded c.args.catalog.now c.args.query c.in-One.block c.bounded_by.result c.in-One.limit c.tops_of-tops.result c.in-One.is c.requires
    c.tops_of-tops.ensures c.bounded_by.ensures in
    made.tops

pub returns-in-Set-clause-value : goal.returns-in-Set-clause-value
returns-in-Set-clause-value c =
    let made = set-bounded c.args.catalog.now c.args.query c.in-Set.op c.in-Set.left c.in-Set.right c.bounded_by-in-Set.result c.bounded_by-in-Set-2.result c.in-Set.limit c.set_tops-tops.result c.in-Set.is c.requires
    c.set_tops-tops.ensures c.bounded_by-in-Set.ensures c.bounded_by-in-Set-2.ensures in
    made.value

pub returns-in-Set-clause-formed : goal.returns-in-Set-clause-formed
returns-in-Set-clause-formed c =
    let made = set-bounded c.args.catalog.now c.args.query c.in-Set.op c.in-Set.left c.in-Set.right c.bounded_by-in-Set.result c.bounded_by-in-Set-2.result c.in-Set.limit c.set_tops-tops.result c.in-Set.is c.requires
    c.set_tops-tops.ensures c.bounded_by-in-Set.ensures c.bounded_by-in-Set-2.ensures in
    made.formed

pub returns-in-Set-clause-tops : goal.returns-in-Set-clause-tops
returns-in-Set-clause-tops c =
    let made = set-bounded c.args.catalog.now c.args.query c.in-Set.op c.in-Set.left c.in-Set.right c.bounded_by-in-Set.result c.bounded_by-in-Set-2.result c.in-Set.limit c.set_tops-tops.result c.in-Set.is c.requires
    c.set_tops-tops.ensures c.bounded_by-in-Set.ensures c.bounded_by-in-Set-2.ensures in
    made.tops
