-- A plan is built as its choice says.
use Rattle.std.proofs.Common.{◌≡◌, ◌∙◌, ℕ, ◌+◌, ◌-◌, ◌*◌, ◌^◌, ◌<◌, ◌≤◌, length, sym, ap, subst, arith, bit_and, bit_xor}
use Rattle.std.specs.Prelude.{IsSome, Some}
use Rattle.std.proofs.lemmas.Nat.{and_le_l}
use Rattle.std.proofs.Math.Nat.{pow-le-pow_right}
use Rattle.std.proofs.lemmas.Option.{same_Some}
use Rattle.rs_plan.specs.Shapes.{tree_of}
use Rattle.rs_plan.specs.Trees.{Distinct, Hash, JoinOperator, Nested, Rank}
use Rattle.rs_enum.specs.declared.candidate.Choice.TheVariants as choice
use Rattle.rs_enum.specs.Made.{kept_plans}
use Rattle.rs_enum.specs.Places.{candidate_at, tree_at}
use Rattle.rs_enum.specs.Within.{terms_within}
use Rattle.rs_plan.specs.declared.plan.Plan.{Plan}
use Rattle.rs_enum.proofs.BuildFacts.{built-at, found-there}
use Rattle.rs_enum.proofs.GridFacts.{if_ok-map}
use Rattle.rs_enum.proofs.build.+build.Goals as goal

small-terms : (terms count : ℕ) → terms < 2 ^ count → count ≤ 8 → terms < 256
small-terms terms count below few = let power : 2 ^ count ≤ 2 ^ 8 = pow-le-pow_right {n = 2} (omega arith) few in omega arith

pub build-unwrap-found-requires : goal.build-unwrap-found-requires
build-unwrap-found-requires t c =
    subst IsSome (sym (c.candidate_at.ensures ∙ ap (λ n. candidate_at n c.args.places.now c.args.of.entries c.args.of.terms) c.len.ensures)) c.requires.found

pub build-returns-in-SeqScan : goal.build-returns-in-SeqScan
build-returns-in-SeqScan t c =
    let b = built-at c.args.block.now.terms c.args.places.now c.requires.built c.len.result c.args.of.entries c.args.of.terms c.candidate_at.result c.unwrap-found.result
    (choice.SeqScan c.in-SeqScan.entry) c.requires.terms c.len.ensures c.candidate_at.ensures c.unwrap-found.ensures c.in-SeqScan.is in
    b.is ∙ ap Some b.built

pub build-returns-in-RankScan : goal.build-returns-in-RankScan
build-returns-in-RankScan t c =
    let b = built-at c.args.block.now.terms c.args.places.now c.requires.built c.len.result c.args.of.entries c.args.of.terms c.candidate_at.result c.unwrap-found.result
    (choice.RankScan c.in-RankScan.entry c.in-RankScan.term c.in-RankScan.index) c.requires.terms c.len.ensures c.candidate_at.ensures c.unwrap-found.ensures c.in-RankScan.is in
    b.is ∙ ap Some b.built

pub build-mask_of-requires-clause-least : goal.build-mask_of-requires-clause-least
build-mask_of-requires-clause-least t c =
    let b = built-at c.args.block.now.terms c.args.places.now c.requires.built c.len.result c.args.of.entries c.args.of.terms c.candidate_at.result c.unwrap-found.result
    (choice.Rank c.in-Rank.term) c.requires.terms c.len.ensures c.candidate_at.ensures c.unwrap-found.ensures c.in-Rank.is in
    b.built.2.some

pub build-mask_of-requires-clause-most : goal.build-mask_of-requires-clause-most
build-mask_of-requires-clause-most t c =
    let b = built-at c.args.block.now.terms c.args.places.now c.requires.built c.len.result c.args.of.entries c.args.of.terms c.candidate_at.result c.unwrap-found.result
    (choice.Rank c.in-Rank.term) c.requires.terms c.len.ensures c.candidate_at.ensures c.unwrap-found.ensures c.in-Rank.is in
    b.built.2.most

pub build-build-requires : goal.build-build-requires
build-build-requires t c =
    let b = built-at c.args.block.now.terms c.args.places.now c.requires.built c.len.result c.args.of.entries c.args.of.terms c.candidate_at.result c.unwrap-found.result
    (choice.Rank c.in-Rank.term) c.requires.terms c.len.ensures c.candidate_at.ensures c.unwrap-found.ensures c.in-Rank.is in
    let less : bit_xor c.args.of.terms c.mask_of.result < c.args.of.terms =
    subst (λ m. bit_xor c.args.of.terms m < c.args.of.terms) (sym c.mask_of.ensures) b.built.2.less in
    let small = c.requires.terms in
    let below : bit_xor c.args.of.terms c.mask_of.result < 2 ^ length c.args.block.now.terms = omega arith in
    let there = found-there c.args.block.now.terms c.args.places.now c.args.of.entries (bit_xor c.args.of.terms c.mask_of.result) b.built.0
    ((λ i. tree_at (length c.args.block.now.terms) (kept_plans c.args.block.now.terms c.args.places.now) c.args.of.entries (bit_xor c.args.of.terms (c.mask_of.ensures i))) ∙ b.built.2.there) in
    (omega (arith, c.decreases), (c.requires.few, (c.requires.built, (below, there))))

pub build-build_sides-requires : goal.build-build_sides-requires
build-build_sides-requires t c =
    let b = built-at c.args.block.now.terms c.args.places.now c.requires.built c.len.result c.args.of.entries c.args.of.terms c.candidate_at.result c.unwrap-found.result
    (choice.HashJoin c.in-HashJoin.left) c.requires.terms c.len.ensures c.candidate_at.ensures c.unwrap-found.ensures c.in-HashJoin.is in
    (omega (arith, c.decreases), (c.requires.few, (c.requires.built, (c.requires.terms, (b.built.0, b.built.1, b.built.3)))))

pub build-build_sides-requires-in-NestedJoin : goal.build-build_sides-requires-in-NestedJoin
build-build_sides-requires-in-NestedJoin t c =
    let b = built-at c.args.block.now.terms c.args.places.now c.requires.built c.len.result c.args.of.entries c.args.of.terms c.candidate_at.result c.unwrap-found.result
    (choice.NestedJoin c.in-NestedJoin.left) c.requires.terms c.len.ensures c.candidate_at.ensures c.unwrap-found.ensures c.in-NestedJoin.is in
    (omega (arith, c.decreases), (c.requires.few, (c.requires.built, (c.requires.terms, (b.built.0, b.built.1, b.built.3)))))

pub build-overflow_sub-below : goal.build-overflow_sub-below
build-overflow_sub-below t c =
    let b = built-at c.args.block.now.terms c.args.places.now c.requires.built c.len.result c.args.of.entries c.args.of.terms c.candidate_at.result c.unwrap-found.result
    choice.Base c.requires.terms c.len.ensures c.candidate_at.ensures c.unwrap-found.ensures c.in-Base.is in
    b.built.3

pub build-build-requires-in-Base : goal.build-build-requires-in-Base
build-build-requires-in-Base t c =
    let b = built-at c.args.block.now.terms c.args.places.now c.requires.built c.len.result c.args.of.entries c.args.of.terms c.candidate_at.result c.unwrap-found.result
    choice.Base c.requires.terms c.len.ensures c.candidate_at.ensures c.unwrap-found.ensures c.in-Base.is in
    let some = b.built.3 in (
      omega (arith, c.decreases),
      (
        c.requires.few,
        (
          c.requires.built,
          (
            c.requires.terms,
            found-there c.args.block.now.terms c.args.places.now (c.args.of.entries - 1) c.args.of.terms b.built.0 b.built.2,
          ),
        ),
      ),
    )

pub build-returns-in_ok-child-in-Rank : goal.build-returns-in_ok-child-in-Rank
build-returns-in_ok-child-in-Rank t c =
    let b = built-at c.args.block.now.terms c.args.places.now c.requires.built c.len.result c.args.of.entries c.args.of.terms c.candidate_at.result c.unwrap-found.result
    (choice.Rank c.in-Rank.term) c.requires.terms c.len.ensures c.candidate_at.ensures c.unwrap-found.ensures c.in-Rank.is in
    let child : b.built.0 ≡ tree_of c.in_ok-child-in-Rank.child =
    same_Some b.built.0 (tree_of c.in_ok-child-in-Rank.child) (sym b.built.2.there
    ∙ (λ i. tree_at (length c.args.block.now.terms) (kept_plans c.args.block.now.terms c.args.places.now) c.args.of.entries (bit_xor c.args.of.terms (sym c.mask_of.ensures i)))
    ∙ c.in_ok-child-in-Rank.ensures) in
    if_ok-map (λ (plan : Plan). tree_of plan ≡ Rank c.in-Rank.term (tree_of c.in_ok-child-in-Rank.child))
    (λ (plan : Plan). tree_at (length c.args.block.now.terms) (kept_plans c.args.block.now.terms c.args.places.now) c.args.of.entries c.args.of.terms ≡ Some (tree_of plan))
    (λ plan same. b.is ∙ ap Some (b.built.1 ∙ ap (Rank c.in-Rank.term) child ∙ sym same)) c.rank.result c.rank.ensures

pub build-returns-in_ok-left-in-HashJoin : goal.build-returns-in_ok-left-in-HashJoin
build-returns-in_ok-left-in-HashJoin t c =
    let b = built-at c.args.block.now.terms c.args.places.now c.requires.built c.len.result c.args.of.entries c.args.of.terms c.candidate_at.result c.unwrap-found.result
    (choice.HashJoin c.in-HashJoin.left) c.requires.terms c.len.ensures c.candidate_at.ensures c.unwrap-found.ensures c.in-HashJoin.is in
    let sides = c.in_ok-left-in-HashJoin.ensures in
    let left : b.built.0 ≡ tree_of c.in_ok-left-in-HashJoin.left =
    same_Some b.built.0 (tree_of c.in_ok-left-in-HashJoin.left) (sym b.built.3.left_there ∙ sides.left_there) in
    let right : b.built.1 ≡ tree_of c.in_ok-left-in-HashJoin.right =
    same_Some b.built.1 (tree_of c.in_ok-left-in-HashJoin.right) (sym b.built.3.right_there ∙ sides.right_there) in
    if_ok-map (λ (plan : Plan). tree_of plan ≡ JoinOperator Hash (tree_of c.in_ok-left-in-HashJoin.left) (tree_of c.in_ok-left-in-HashJoin.right))
    (λ (plan : Plan). tree_at (length c.args.block.now.terms) (kept_plans c.args.block.now.terms c.args.places.now) c.args.of.entries c.args.of.terms ≡ Some (tree_of plan))
    (λ plan same. b.is ∙ ap Some (b.built.2 ∙ (λ i. JoinOperator Hash (left i) (right i)) ∙ sym same)) c.hash_join.result c.hash_join.ensures

pub build-returns-in_ok-left-in-NestedJoin : goal.build-returns-in_ok-left-in-NestedJoin
build-returns-in_ok-left-in-NestedJoin t c =
    let b = built-at c.args.block.now.terms c.args.places.now c.requires.built c.len.result c.args.of.entries c.args.of.terms c.candidate_at.result c.unwrap-found.result
    (choice.NestedJoin c.in-NestedJoin.left) c.requires.terms c.len.ensures c.candidate_at.ensures c.unwrap-found.ensures c.in-NestedJoin.is in
    let sides = c.in_ok-left-in-NestedJoin.ensures in
    let left : b.built.0 ≡ tree_of c.in_ok-left-in-NestedJoin.left =
    same_Some b.built.0 (tree_of c.in_ok-left-in-NestedJoin.left) (sym b.built.3.left_there ∙ sides.left_there) in
    let right : b.built.1 ≡ tree_of c.in_ok-left-in-NestedJoin.right =
    same_Some b.built.1 (tree_of c.in_ok-left-in-NestedJoin.right) (sym b.built.3.right_there ∙ sides.right_there) in
    if_ok-map (λ (plan : Plan). tree_of plan ≡ JoinOperator Nested (tree_of c.in_ok-left-in-NestedJoin.left) (tree_of c.in_ok-left-in-NestedJoin.right))
    (λ (plan : Plan). tree_at (length c.args.block.now.terms) (kept_plans c.args.block.now.terms c.args.places.now) c.args.of.entries c.args.of.terms ≡ Some (tree_of plan))
    (λ plan same. b.is ∙ ap Some (b.built.2 ∙ (λ i. JoinOperator Nested (left i) (right i)) ∙ sym same)) c.nested_join.result c.nested_join.ensures

pub build-returns-in_ok-child-in-Base : goal.build-returns-in_ok-child-in-Base
build-returns-in_ok-child-in-Base t c =
    let b = built-at c.args.block.now.terms c.args.places.now c.requires.built c.len.result c.args.of.entries c.args.of.terms c.candidate_at.result c.unwrap-found.result
    choice.Base c.requires.terms c.len.ensures c.candidate_at.ensures c.unwrap-found.ensures c.in-Base.is in
    let child : b.built.0 ≡ tree_of c.in_ok-child-in-Base.child =
    same_Some b.built.0 (tree_of c.in_ok-child-in-Base.child) (sym b.built.2 ∙ c.in_ok-child-in-Base.ensures) in
    if_ok-map (λ (plan : Plan). tree_of plan ≡ Distinct (tree_of c.in_ok-child-in-Base.child))
    (λ (plan : Plan). tree_at (length c.args.block.now.terms) (kept_plans c.args.block.now.terms c.args.places.now) c.args.of.entries c.args.of.terms ≡ Some (tree_of plan))
    (λ plan same. b.is ∙ ap Some (b.built.1 ∙ ap Distinct child ∙ sym same)) c.without_duplicates.result c.without_duplicates.ensures

-- a part of a mask is no larger
part-small : (count terms mask : ℕ) → terms < 2 ^ count → bit_and terms mask < 2 ^ count
part-small count terms mask small = let most = and_le_l terms mask in omega arith

-- a signature of lesser entries comes first
lesser : (first second left terms count : ℕ) → left < first → second < 2 ^ count → terms < 2 ^ count → count ≤ 8
    → 2 * (left * 256 + terms) + 1 < 2 * (first * 256 + second)
lesser first second left terms count less small below few = let most = small-terms terms count below few in omega arith

pub build_sides-build-requires : goal.build_sides-build-requires
build_sides-build-requires t c =
    let is = c.requires.sides.2 in
    let below : c.side_of.result.terms < 2 ^ length c.args.block.now.terms =
    subst (λ n. n < 2 ^ length c.args.block.now.terms) (sym c.side_of.ensures.terms)
    (part-small (length c.args.block.now.terms) c.args.of.terms (terms_within c.args.left c.args.block.now.terms) c.requires.terms) in
    let less : c.side_of.result.entries < c.args.of.entries = subst (λ n. n < c.args.of.entries) (sym c.side_of.ensures.entries) is.left_less in
    let first = lesser c.args.of.entries c.args.of.terms c.side_of.result.entries c.side_of.result.terms (length c.args.block.now.terms) less c.requires.terms below c.requires.few in
    let there = found-there c.args.block.now.terms c.args.places.now c.side_of.result.entries c.side_of.result.terms c.requires.sides.0
    ((λ i. tree_at (length c.args.block.now.terms) (kept_plans c.args.block.now.terms c.args.places.now) (c.side_of.ensures.entries i) (c.side_of.ensures.terms i)) ∙ is.left_there) in
    (omega (arith, c.decreases), (c.requires.few, (c.requires.built, (below, there))))

pub build_sides-build-requires-2 : goal.build_sides-build-requires-2
build_sides-build-requires-2 t c =
    let is = c.requires.sides.2 in
    let below : c.side_of-right_of.result.terms < 2 ^ length c.args.block.now.terms =
    subst (λ n. n < 2 ^ length c.args.block.now.terms) (sym c.side_of-right_of.ensures.terms)
    (part-small (length c.args.block.now.terms) c.args.of.terms (terms_within (bit_xor c.args.of.entries c.args.left) c.args.block.now.terms) c.requires.terms) in
    let less : c.side_of-right_of.result.entries < c.args.of.entries = subst (λ n. n < c.args.of.entries) (sym c.side_of-right_of.ensures.entries) is.right_less in
    let first = lesser c.args.of.entries c.args.of.terms c.side_of-right_of.result.entries c.side_of-right_of.result.terms (length c.args.block.now.terms) less
    c.requires.terms below c.requires.few in
    let there = found-there c.args.block.now.terms c.args.places.now c.side_of-right_of.result.entries c.side_of-right_of.result.terms c.requires.sides.1
    ((λ i. tree_at (length c.args.block.now.terms) (kept_plans c.args.block.now.terms c.args.places.now) (c.side_of-right_of.ensures.entries i) (c.side_of-right_of.ensures.terms i)) ∙ is.right_there) in
    (omega (arith, c.decreases), (c.requires.few, (c.requires.built, (below, there))))
