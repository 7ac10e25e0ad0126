-- What a node adds fits, and leaves its tree below the most that a tree of its entries and terms can cost.
use Rattle.std.proofs.Common.{◌≡◌, ◌∙◌, ◌+◌, ◌*◌, ◌<◌, ◌^◌, sym, ap, subst, arith, rules}
use Rattle.rs_query.specs.declared.block.Block.{Block}
use Rattle.rs_sample.specs.Kept.{cards_of}
use Rattle.rs_query.specs.Blocks.{block_in}
use Rattle.rs_plan.specs.Plans.{HasNoDistinct, IsPart}
use Rattle.rs_plan.specs.Shapes.{tree_of}
use Rattle.rs_plan.specs.Trees.{Distinct, Hash, JoinOperator, Nested, Rank, RankScan}
use Rattle.rs_enum.specs.QueryCards.{cards_at}
use Rattle.rs_enum.specs.Bounds.{IsNumberedTerm}
use Rattle.rs_enum.specs.Given.{AreBelow}
use Rattle.rs_enum.proofs.CostFacts.{block-cards, block-formed, numbered, part-fits, term-alone}
use Rattle.rs_enum.proofs.NodeFacts.{distinct-whole, hash-whole, nested-whole, rank-whole, rank_scan-whole, scan-whole}
use Rattle.rs_enum.proofs.costs.node_cost.Goals as goal

pub index_rows-requires-clause-alone : goal.index_rows-requires-clause-alone
index_rows-requires-clause-alone c =
    let catalogue = c.args.planning.now.catalog.now in
    let block = block_in c.args.planning.now.query.now c.args.number in
    let own = cards_at (cards_of c.args.planning.now.cards.now) c.args.number in
    let are = block-cards c.args.planning.now.query.now (cards_of c.args.planning.now.cards.now) c.args.number c.requires.planning.cards c.requires.number in
    let is : tree_of c.args.plan.now ≡ RankScan c.in-RankScan.entry c.in-RankScan.term c.in-RankScan.index = ap tree_of c.in-RankScan.is in
    term-alone block own are catalogue c.in-RankScan.entry c.in-RankScan.term c.in-RankScan.index (subst (IsPart catalogue block) is c.requires.part)

pub call_cost-requires-clause-term : goal.call_cost-requires-clause-term
call_cost-requires-clause-term c =
    let catalogue = c.args.planning.now.catalog.now in
    let block = block_in c.args.planning.now.query.now c.args.number in
    let formed = block-formed catalogue c.args.planning.now.query.now c.args.number c.requires.planning.query in
    let whole = tree_of c.args.plan.now in
    let child = tree_of c.deref-child.result.now in
    let is : whole ≡ Rank c.in-Rank.term child = ap tree_of c.in-Rank.is ∙ ap (λ x. Rank c.in-Rank.term (tree_of x)) (sym c.deref-child.ensures) in
    let part : IsPart catalogue block (Rank c.in-Rank.term child) = subst (IsPart catalogue block) is c.requires.part in
    subst (λ (b : Block). IsNumberedTerm b c.in-Rank.term) (sym c.block_in-in-Rank.ensures) (numbered block c.in-Rank.term part.1.term part.1.is_term)

pub with_calls-requires : goal.with_calls-requires
with_calls-requires c =
    let catalogue = c.args.planning.now.catalog.now in
    let block = block_in c.args.planning.now.query.now c.args.number in
    let formed = block-formed catalogue c.args.planning.now.query.now c.args.number c.requires.planning.query in
    let whole = tree_of c.args.plan.now in
    let child = tree_of c.deref-child.result.now in
    let is : whole ≡ Rank c.in-Rank.term child = ap tree_of c.in-Rank.is ∙ ap (λ x. Rank c.in-Rank.term (tree_of x)) (sym c.deref-child.ensures) in
    let below = (subst (λ w. AreBelow c.args.planning.now c.args.number w c.args.first c.args.second) is c.requires.below).most in
    let most = (rank-whole catalogue block formed whole child c.in-Rank.term c.args.first c.part_rows-rows.result c.call_cost.result 0 is c.requires.part
    c.part_rows-rows.ensures.most c.call_cost.ensures.small (omega arith)) in
    let fits = part-fits catalogue block formed whole (c.args.first + c.part_rows-rows.result * c.call_cost.result) c.requires.part (omega arith) in
    omega arith

pub returns-in-Rank-clause-most : goal.returns-in-Rank-clause-most
returns-in-Rank-clause-most c =
    let catalogue = c.args.planning.now.catalog.now in
    let block = block_in c.args.planning.now.query.now c.args.number in
    let formed = block-formed catalogue c.args.planning.now.query.now c.args.number c.requires.planning.query in
    let whole = tree_of c.args.plan.now in
    let child = tree_of c.deref-child.result.now in
    let is : whole ≡ Rank c.in-Rank.term child = ap tree_of c.in-Rank.is ∙ ap (λ x. Rank c.in-Rank.term (tree_of x)) (sym c.deref-child.ensures) in
    let below = (subst (λ w. AreBelow c.args.planning.now c.args.number w c.args.first c.args.second) is c.requires.below).most in
    let most = (rank-whole catalogue block formed whole child c.in-Rank.term c.args.first c.part_rows-rows.result c.call_cost.result 0 is c.requires.part
    c.part_rows-rows.ensures.most c.call_cost.ensures.small (omega arith)) in
    let sum = c.with_calls.ensures in
    omega arith

pub returns-in-Rank-clause-spare : goal.returns-in-Rank-clause-spare
returns-in-Rank-clause-spare c = λ no_distinct.
    let catalogue = c.args.planning.now.catalog.now in
    let block = block_in c.args.planning.now.query.now c.args.number in
    let formed = block-formed catalogue c.args.planning.now.query.now c.args.number c.requires.planning.query in
    let whole = tree_of c.args.plan.now in
    let child = tree_of c.deref-child.result.now in
    let is : whole ≡ Rank c.in-Rank.term child = ap tree_of c.in-Rank.is ∙ ap (λ x. Rank c.in-Rank.term (tree_of x)) (sym c.deref-child.ensures) in
    let below = (subst (λ w. AreBelow c.args.planning.now c.args.number w c.args.first c.args.second) is c.requires.below).spare (subst HasNoDistinct is no_distinct) in
    let most = (rank-whole catalogue block formed whole child c.in-Rank.term c.args.first c.part_rows-rows.result c.call_cost.result (2 ^ 105) is c.requires.part
    c.part_rows-rows.ensures.most c.call_cost.ensures.small below) in
    let sum = c.with_calls.ensures in
    omega arith

pub hash_cost-requires : goal.hash_cost-requires
hash_cost-requires c =
    let catalogue = c.args.planning.now.catalog.now in
    let block = block_in c.args.planning.now.query.now c.args.number in
    let formed = block-formed catalogue c.args.planning.now.query.now c.args.number c.requires.planning.query in
    let whole = tree_of c.args.plan.now in
    let left = tree_of c.deref-left.result.now in
    let right = tree_of c.deref-right.result.now in
    let is : whole ≡ JoinOperator Hash left right =
    ap tree_of c.in-HashJoin.is ∙ (λ at. JoinOperator Hash (tree_of (sym c.deref-left.ensures at)) (tree_of (sym c.deref-right.ensures at))) in
    let part : IsPart catalogue block (JoinOperator Hash left right) = subst (IsPart catalogue block) is c.requires.part in
    let below : AreBelow c.args.planning.now c.args.number (JoinOperator Hash left right) c.args.first c.args.second = subst (λ w. AreBelow c.args.planning.now c.args.number w c.args.first c.args.second) is c.requires.below in
    let most = hash-whole catalogue block formed whole left right c.args.first c.args.second
    c.part_rows-left_rows.result c.part_rows-right_rows.result c.part_rows-rows-in-HashJoin.result is part
    (below.0.spare part.2.left_whole) (below.1.spare part.2.right_whole)
    c.part_rows-left_rows.ensures.most c.part_rows-right_rows.ensures.most c.part_rows-rows-in-HashJoin.ensures.most in
    let fits = part-fits catalogue block formed whole (c.args.first + c.args.second + 2 * (c.part_rows-left_rows.result + c.part_rows-right_rows.result) + c.part_rows-rows-in-HashJoin.result) c.requires.part (omega arith) in
    omega arith

pub returns-in-HashJoin-clause-most : goal.returns-in-HashJoin-clause-most
returns-in-HashJoin-clause-most c =
    let catalogue = c.args.planning.now.catalog.now in
    let block = block_in c.args.planning.now.query.now c.args.number in
    let formed = block-formed catalogue c.args.planning.now.query.now c.args.number c.requires.planning.query in
    let whole = tree_of c.args.plan.now in
    let left = tree_of c.deref-left.result.now in
    let right = tree_of c.deref-right.result.now in
    let is : whole ≡ JoinOperator Hash left right =
    ap tree_of c.in-HashJoin.is ∙ (λ at. JoinOperator Hash (tree_of (sym c.deref-left.ensures at)) (tree_of (sym c.deref-right.ensures at))) in
    let part : IsPart catalogue block (JoinOperator Hash left right) = subst (IsPart catalogue block) is c.requires.part in
    let below : AreBelow c.args.planning.now c.args.number (JoinOperator Hash left right) c.args.first c.args.second = subst (λ w. AreBelow c.args.planning.now c.args.number w c.args.first c.args.second) is c.requires.below in
    let most = hash-whole catalogue block formed whole left right c.args.first c.args.second
    c.part_rows-left_rows.result c.part_rows-right_rows.result c.part_rows-rows-in-HashJoin.result is part
    (below.0.spare part.2.left_whole) (below.1.spare part.2.right_whole)
    c.part_rows-left_rows.ensures.most c.part_rows-right_rows.ensures.most c.part_rows-rows-in-HashJoin.ensures.most in
    let sum = c.hash_cost.ensures in
    omega arith

pub returns-in-HashJoin-clause-spare : goal.returns-in-HashJoin-clause-spare
returns-in-HashJoin-clause-spare c = λ no_distinct.
    let catalogue = c.args.planning.now.catalog.now in
    let block = block_in c.args.planning.now.query.now c.args.number in
    let formed = block-formed catalogue c.args.planning.now.query.now c.args.number c.requires.planning.query in
    let whole = tree_of c.args.plan.now in
    let left = tree_of c.deref-left.result.now in
    let right = tree_of c.deref-right.result.now in
    let is : whole ≡ JoinOperator Hash left right =
    ap tree_of c.in-HashJoin.is ∙ (λ at. JoinOperator Hash (tree_of (sym c.deref-left.ensures at)) (tree_of (sym c.deref-right.ensures at))) in
    let part : IsPart catalogue block (JoinOperator Hash left right) = subst (IsPart catalogue block) is c.requires.part in
    let below : AreBelow c.args.planning.now c.args.number (JoinOperator Hash left right) c.args.first c.args.second = subst (λ w. AreBelow c.args.planning.now c.args.number w c.args.first c.args.second) is c.requires.below in
    let most = hash-whole catalogue block formed whole left right c.args.first c.args.second
    c.part_rows-left_rows.result c.part_rows-right_rows.result c.part_rows-rows-in-HashJoin.result is part
    (below.0.spare part.2.left_whole) (below.1.spare part.2.right_whole)
    c.part_rows-left_rows.ensures.most c.part_rows-right_rows.ensures.most c.part_rows-rows-in-HashJoin.ensures.most in
    let sum = c.hash_cost.ensures in
    omega arith

pub nested_cost-requires : goal.nested_cost-requires
nested_cost-requires c =
    let catalogue = c.args.planning.now.catalog.now in
    let block = block_in c.args.planning.now.query.now c.args.number in
    let formed = block-formed catalogue c.args.planning.now.query.now c.args.number c.requires.planning.query in
    let whole = tree_of c.args.plan.now in
    let left = tree_of c.deref-left-in-NestedJoin.result.now in
    let right = tree_of c.deref-right-in-NestedJoin.result.now in
    let is : whole ≡ JoinOperator Nested left right =
    ap tree_of c.in-NestedJoin.is ∙ (λ at. JoinOperator Nested (tree_of (sym c.deref-left-in-NestedJoin.ensures at)) (tree_of (sym c.deref-right-in-NestedJoin.ensures at))) in
    let part : IsPart catalogue block (JoinOperator Nested left right) = subst (IsPart catalogue block) is c.requires.part in
    let below : AreBelow c.args.planning.now c.args.number (JoinOperator Nested left right) c.args.first c.args.second = subst (λ w. AreBelow c.args.planning.now c.args.number w c.args.first c.args.second) is c.requires.below in
    let most = nested-whole catalogue block formed whole left right c.args.first c.args.second
    c.part_rows-left_rows-in-NestedJoin.result c.part_rows-right_rows-in-NestedJoin.result c.part_rows-rows-in-NestedJoin.result is part
    (below.0.spare part.2.left_whole) (below.1.spare part.2.right_whole)
    c.part_rows-left_rows-in-NestedJoin.ensures.most c.part_rows-right_rows-in-NestedJoin.ensures.most c.part_rows-rows-in-NestedJoin.ensures.most in
    let fits = part-fits catalogue block formed whole (c.args.first + c.args.second + c.part_rows-left_rows-in-NestedJoin.result * c.part_rows-right_rows-in-NestedJoin.result + c.part_rows-rows-in-NestedJoin.result) c.requires.part (omega arith) in
    omega arith

pub returns-in-NestedJoin-clause-most : goal.returns-in-NestedJoin-clause-most
returns-in-NestedJoin-clause-most c =
    let catalogue = c.args.planning.now.catalog.now in
    let block = block_in c.args.planning.now.query.now c.args.number in
    let formed = block-formed catalogue c.args.planning.now.query.now c.args.number c.requires.planning.query in
    let whole = tree_of c.args.plan.now in
    let left = tree_of c.deref-left-in-NestedJoin.result.now in
    let right = tree_of c.deref-right-in-NestedJoin.result.now in
    let is : whole ≡ JoinOperator Nested left right =
    ap tree_of c.in-NestedJoin.is ∙ (λ at. JoinOperator Nested (tree_of (sym c.deref-left-in-NestedJoin.ensures at)) (tree_of (sym c.deref-right-in-NestedJoin.ensures at))) in
    let part : IsPart catalogue block (JoinOperator Nested left right) = subst (IsPart catalogue block) is c.requires.part in
    let below : AreBelow c.args.planning.now c.args.number (JoinOperator Nested left right) c.args.first c.args.second = subst (λ w. AreBelow c.args.planning.now c.args.number w c.args.first c.args.second) is c.requires.below in
    let most = nested-whole catalogue block formed whole left right c.args.first c.args.second
    c.part_rows-left_rows-in-NestedJoin.result c.part_rows-right_rows-in-NestedJoin.result c.part_rows-rows-in-NestedJoin.result is part
    (below.0.spare part.2.left_whole) (below.1.spare part.2.right_whole)
    c.part_rows-left_rows-in-NestedJoin.ensures.most c.part_rows-right_rows-in-NestedJoin.ensures.most c.part_rows-rows-in-NestedJoin.ensures.most in
    let sum = c.nested_cost.ensures in
    omega arith

pub returns-in-NestedJoin-clause-spare : goal.returns-in-NestedJoin-clause-spare
returns-in-NestedJoin-clause-spare c = λ no_distinct.
    let catalogue = c.args.planning.now.catalog.now in
    let block = block_in c.args.planning.now.query.now c.args.number in
    let formed = block-formed catalogue c.args.planning.now.query.now c.args.number c.requires.planning.query in
    let whole = tree_of c.args.plan.now in
    let left = tree_of c.deref-left-in-NestedJoin.result.now in
    let right = tree_of c.deref-right-in-NestedJoin.result.now in
    let is : whole ≡ JoinOperator Nested left right =
    ap tree_of c.in-NestedJoin.is ∙ (λ at. JoinOperator Nested (tree_of (sym c.deref-left-in-NestedJoin.ensures at)) (tree_of (sym c.deref-right-in-NestedJoin.ensures at))) in
    let part : IsPart catalogue block (JoinOperator Nested left right) = subst (IsPart catalogue block) is c.requires.part in
    let below : AreBelow c.args.planning.now c.args.number (JoinOperator Nested left right) c.args.first c.args.second = subst (λ w. AreBelow c.args.planning.now c.args.number w c.args.first c.args.second) is c.requires.below in
    let most = nested-whole catalogue block formed whole left right c.args.first c.args.second
    c.part_rows-left_rows-in-NestedJoin.result c.part_rows-right_rows-in-NestedJoin.result c.part_rows-rows-in-NestedJoin.result is part
    (below.0.spare part.2.left_whole) (below.1.spare part.2.right_whole)
    c.part_rows-left_rows-in-NestedJoin.ensures.most c.part_rows-right_rows-in-NestedJoin.ensures.most c.part_rows-rows-in-NestedJoin.ensures.most in
    let sum = c.nested_cost.ensures in
    omega arith

pub overflow_add-result : goal.overflow_add-result
overflow_add-result c =
    let catalogue = c.args.planning.now.catalog.now in
    let block = block_in c.args.planning.now.query.now c.args.number in
    let formed = block-formed catalogue c.args.planning.now.query.now c.args.number c.requires.planning.query in
    let whole = tree_of c.args.plan.now in
    let child = tree_of c.deref-child-in-Distinct.result.now in
    let is : whole ≡ Distinct child = ap tree_of c.in-Distinct.is ∙ ap (λ x. Distinct (tree_of x)) (sym c.deref-child-in-Distinct.ensures) in
    let part : IsPart catalogue block (Distinct child) = subst (IsPart catalogue block) is c.requires.part in
    let most = distinct-whole catalogue block formed whole child c.args.first c.part_rows-rows-in-Distinct.result is part.0
    c.part_rows-rows-in-Distinct.ensures.most ((subst (λ w. AreBelow c.args.planning.now c.args.number w c.args.first c.args.second) is c.requires.below).spare part.1.first) in
    let fits = part-fits catalogue block formed whole (c.args.first + c.part_rows-rows-in-Distinct.result) c.requires.part most in
    let sum : c.args.first + c.part_rows-rows-in-Distinct.result < 2 ^ 128 = omega arith in
    search rules

pub returns-in-Distinct-clause-most : goal.returns-in-Distinct-clause-most
returns-in-Distinct-clause-most c =
    let catalogue = c.args.planning.now.catalog.now in
    let block = block_in c.args.planning.now.query.now c.args.number in
    let formed = block-formed catalogue c.args.planning.now.query.now c.args.number c.requires.planning.query in
    let whole = tree_of c.args.plan.now in
    let child = tree_of c.deref-child-in-Distinct.result.now in
    let is : whole ≡ Distinct child = ap tree_of c.in-Distinct.is ∙ ap (λ x. Distinct (tree_of x)) (sym c.deref-child-in-Distinct.ensures) in
    let part : IsPart catalogue block (Distinct child) = subst (IsPart catalogue block) is c.requires.part in
    let most = distinct-whole catalogue block formed whole child c.args.first c.part_rows-rows-in-Distinct.result is part.0
    c.part_rows-rows-in-Distinct.ensures.most ((subst (λ w. AreBelow c.args.planning.now c.args.number w c.args.first c.args.second) is c.requires.below).spare part.1.first) in
    most

pub returns-in-SeqScan-clause-most : goal.returns-in-SeqScan-clause-most
returns-in-SeqScan-clause-most c =
    let catalogue = c.args.planning.now.catalog.now in
    let block = block_in c.args.planning.now.query.now c.args.number in
    let formed = block-formed catalogue c.args.planning.now.query.now c.args.number c.requires.planning.query in
    let whole = tree_of c.args.plan.now in
    let few = c.table_rows.ensures.most in
    let most = scan-whole catalogue block formed whole c.in-SeqScan.entry c.table_rows.result (ap tree_of c.in-SeqScan.is) (omega arith) in
    omega arith

pub returns-in-RankScan-clause-most : goal.returns-in-RankScan-clause-most
returns-in-RankScan-clause-most c =
    let catalogue = c.args.planning.now.catalog.now in
    let block = block_in c.args.planning.now.query.now c.args.number in
    let formed = block-formed catalogue c.args.planning.now.query.now c.args.number c.requires.planning.query in
    let whole = tree_of c.args.plan.now in
    let few = c.index_rows.ensures.most in
    let most = rank_scan-whole catalogue block formed whole c.in-RankScan.entry c.in-RankScan.term c.in-RankScan.index (2 * c.index_rows.result)
    (ap tree_of c.in-RankScan.is) (omega arith) in
    omega arith

pub returns-in-SeqScan-clause-spare : goal.returns-in-SeqScan-clause-spare
returns-in-SeqScan-clause-spare c = λ no_distinct.
    let catalogue = c.args.planning.now.catalog.now in
    let block = block_in c.args.planning.now.query.now c.args.number in
    let formed = block-formed catalogue c.args.planning.now.query.now c.args.number c.requires.planning.query in
    let whole = tree_of c.args.plan.now in
    let few = c.table_rows.ensures.most in
    let most = scan-whole catalogue block formed whole c.in-SeqScan.entry c.table_rows.result (ap tree_of c.in-SeqScan.is) (omega arith) in
    omega arith

pub returns-in-RankScan-clause-spare : goal.returns-in-RankScan-clause-spare
returns-in-RankScan-clause-spare c = λ no_distinct.
    let catalogue = c.args.planning.now.catalog.now in
    let block = block_in c.args.planning.now.query.now c.args.number in
    let formed = block-formed catalogue c.args.planning.now.query.now c.args.number c.requires.planning.query in
    let whole = tree_of c.args.plan.now in
    let few = c.index_rows.ensures.most in
    let most = rank_scan-whole catalogue block formed whole c.in-RankScan.entry c.in-RankScan.term c.in-RankScan.index (2 * c.index_rows.result)
    (ap tree_of c.in-RankScan.is) (omega arith) in
    omega arith
