-- Different plans of a query have different codes.
use Rattle.std.proofs.Common.{◌≡◌, ℕ, List, [], ◌∷◌, ◌++◌, Some, true≢false, refl, sym, ◌∙◌, ap, subst₂}
use Rattle.std.proofs.lemmas.Map.Lookups.{exact_unsigned}
use Rattle.std.proofs.lemmas.Option.{same_Some}
use Rattle.std.specs.Cmp.{nat_cmp_is}
use Rattle.std.specs.Ordering.{is_eq, nat_cmp, ordering_then}
use Rattle.std.specs.declared.cmp.Ordering.{Ordering}
use Rattle.std.specs.declared.cmp.Ordering.TheVariants.{Less, Equal, Greater}
use Rattle.rs_catalog.specs.Catalog.{CatalogDef}
use Rattle.rs_catalog.specs.Indexes.{index_of}
use Rattle.rs_query.specs.declared.block.Block.{Block}
use Rattle.rs_query.specs.declared.query.Query.{Query}
use Rattle.rs_query.specs.declared.query.Query.TheVariants.{One, Set}
use Rattle.rs_query.specs.declared.term.Term.{Term}
use Rattle.rs_plan.specs.Plans.{IsPart, IsPlan, IsRankScan, IsSetPlan}
use Rattle.rs_plan.specs.Trees.{Distinct, Hash, JoinKind, JoinOperator, Nested, Rank, RankScan, SeqScan, SetOperator, PlanTree, code, code_cmp, entries, join_number, terms}
use Rattle.rs_plan.proofs.CodeFacts.{sides-cmp}

-- two comparisons in turn tie where both do
then-tied : (a b : Ordering) → ordering_then a b ≡ Equal → (a ≡ Equal) × (b ≡ Equal)
then-tied Less b e = absurd (true≢false (sym (ap is_eq e)))
then-tied Equal b e = (refl, e)
then-tied Greater b e = absurd (true≢false (sym (ap is_eq e)))

code_cmp-itself : (xs : List ℕ) → code_cmp xs xs ≡ Equal
code_cmp-itself [] = refl
code_cmp-itself (x ∷ xs) = ap (λ o. ordering_then o (code_cmp xs xs)) (sym (nat_cmp_is x x Equal refl)) ∙ code_cmp-itself xs

sides-tied : (l r m s : PlanTree) → code_cmp (code l ++ code r) (code m ++ code s) ≡ Equal → (code_cmp (code l) (code m) ≡ Equal) × (code_cmp (code r) (code s) ≡ Equal)
sides-tied l r m s e = then-tied (code_cmp (code l) (code m)) (code_cmp (code r) (code s)) (sides-cmp l r m s ∙ e)

kinds-tied : (k j : JoinKind) → nat_cmp (join_number k) (join_number j) ≡ Equal → k ≡ j
kinds-tied Hash Hash e = refl
kinds-tied Nested Nested e = refl
kinds-tied Hash Nested e = absurd (true≢false (sym (ap is_eq e)))
kinds-tied Nested Hash e = absurd (true≢false (sym (ap is_eq e)))

joins-tied : (k j : JoinKind) (l r m s : PlanTree) → code_cmp (code (JoinOperator k l r)) (code (JoinOperator j m s)) ≡ Equal
    → (k ≡ j) × (code_cmp (code l) (code m) ≡ Equal) × (code_cmp (code r) (code s) ≡ Equal)
joins-tied k j l r m s e =
    let kinds = then-tied (nat_cmp (join_number k) (join_number j)) (code_cmp (entries l ∷ terms l ∷ code l ++ code r) (entries m ∷ terms m ∷ code m ++ code s)) e in
    let behind = then-tied (nat_cmp (entries l) (entries m)) (code_cmp (terms l ∷ code l ++ code r) (terms m ∷ code m ++ code s)) kinds.1 in
    let sides = then-tied (nat_cmp (terms l) (terms m)) (code_cmp (code l ++ code r) (code m ++ code s)) behind.1 in
    let both = sides-tied l r m s sides.1 in
    (kinds-tied k j kinds.0, both.0, both.1)

-- the index of a rank scan is the first one for its term, so its code needn't name it
scan-index : (catalogue : CatalogDef) (block : Block) (e t i f u j : ℕ) → IsRankScan catalogue block e t i → IsRankScan catalogue block f u j → e ≡ f → t ≡ u → i ≡ j
scan-index catalogue block e t i f u j first second same_entry same_number =
    let other : IsRankScan catalogue block e t j = subst₂ (λ x y. IsRankScan catalogue block x y j) (sym same_entry) (sym same_number) second in
    let same_term : first.term ≡ other.term = same_Some first.term other.term (sym first.is_term.there ∙ other.is_term.there) in
    let same_from : (first.table, first.alias) ≡ (other.table, other.alias) =
    same_Some (first.table, first.alias) (other.table, other.alias) (sym first.from ∙ other.from) in
    let found : index_of other.table other.term.predicate other.term.args e catalogue ≡ Some i =
    subst₂ (λ (x : Term) (y : ℕ × List ℕ). index_of y.0 x.predicate x.args e catalogue ≡ Some i) same_term same_from first.first in
    same_Some i j (sym found ∙ other.first)

part-unique : (catalogue : CatalogDef) (block : Block) (a b : PlanTree) → IsPart catalogue block a → IsPart catalogue block b → code_cmp (code a) (code b) ≡ Equal → a ≡ b
part-unique catalogue block (SeqScan e) (SeqScan f) is_a is_b tie = ap SeqScan (exact_unsigned e f (then-tied (nat_cmp e f) Equal tie).0)
part-unique catalogue block (SeqScan e) (JoinOperator Hash m s) is_a is_b tie = absurd (true≢false (sym (ap is_eq tie)))
part-unique catalogue block (SeqScan e) other is_a is_b tie = absurd (true≢false (sym (ap is_eq tie)))
part-unique catalogue block (RankScan e t i) (RankScan f u j) is_a is_b tie =
    let ties = then-tied (nat_cmp e f) (ordering_then (nat_cmp t u) Equal) tie in
    let entry = exact_unsigned e f ties.0 in
    let term = exact_unsigned t u (then-tied (nat_cmp t u) Equal ties.1).0 in
    let index = scan-index catalogue block e t i f u j is_a is_b entry term in
    λ at. RankScan (entry at) (term at) (index at)
part-unique catalogue block (RankScan e t i) (JoinOperator Hash m s) is_a is_b tie = absurd (true≢false (sym (ap is_eq tie)))
part-unique catalogue block (RankScan e t i) other is_a is_b tie = absurd (true≢false (sym (ap is_eq tie)))
part-unique catalogue block (Rank t a) (Rank u b) is_a is_b tie =
    let ties = then-tied (nat_cmp t u) (code_cmp (code a) (code b)) tie in
    let term = exact_unsigned t u ties.0 in
    let child = part-unique catalogue block a b is_a.0 is_b.0 ties.1 in
    λ at. Rank (term at) (child at)
part-unique catalogue block (Rank t a) (JoinOperator Hash m s) is_a is_b tie = absurd (true≢false (sym (ap is_eq tie)))
part-unique catalogue block (Rank t a) other is_a is_b tie = absurd (true≢false (sym (ap is_eq tie)))
part-unique catalogue block (JoinOperator k l r) (JoinOperator j m s) is_a is_b tie =
    let ties = joins-tied k j l r m s tie in
    let left = part-unique catalogue block l m is_a.0 is_b.0 ties.1 in
    let right = part-unique catalogue block r s is_a.1 is_b.1 ties.2 in
    λ at. JoinOperator (ties.0 at) (left at) (right at)
part-unique catalogue block (JoinOperator Hash l r) other is_a is_b tie = absurd (true≢false (sym (ap is_eq tie)))
part-unique catalogue block (JoinOperator Nested l r) other is_a is_b tie = absurd (true≢false (sym (ap is_eq tie)))
part-unique catalogue block (Distinct a) (Distinct b) is_a is_b tie = ap Distinct (part-unique catalogue block a b is_a.0 is_b.0 tie)
part-unique catalogue block (Distinct a) (JoinOperator Hash m s) is_a is_b tie = absurd (true≢false (sym (ap is_eq tie)))
part-unique catalogue block (Distinct a) other is_a is_b tie = absurd (true≢false (sym (ap is_eq tie)))
part-unique catalogue block (SetOperator l r) b is_a is_b tie = absurd is_a

set_plan-unique : (catalogue : CatalogDef) (left right : Block) (a b : PlanTree) → IsSetPlan catalogue left right a → IsSetPlan catalogue left right b
    → code_cmp (code a) (code b) ≡ Equal → a ≡ b
set_plan-unique catalogue left right (Rank t a) (Rank u b) is_a is_b tie =
    let ties = then-tied (nat_cmp t u) (code_cmp (code a) (code b)) tie in
    let term = exact_unsigned t u ties.0 in
    let child = set_plan-unique catalogue left right a b is_a.0 is_b.0 ties.1 in
    λ at. Rank (term at) (child at)
set_plan-unique catalogue left right (Rank t a) (JoinOperator kind m s) is_a is_b tie = absurd is_b
set_plan-unique catalogue left right (Rank t a) other is_a is_b tie = absurd (true≢false (sym (ap is_eq tie)))
set_plan-unique catalogue left right (SetOperator l r) (SetOperator m s) is_a is_b tie =
    let ties = sides-tied l r m s tie in
    let left_side = part-unique catalogue left l m is_a.0.part is_b.0.part ties.0 in
    let right_side = part-unique catalogue right r s is_a.1.part is_b.1.part ties.1 in
    λ at. SetOperator (left_side at) (right_side at)
set_plan-unique catalogue left right (SetOperator l r) (JoinOperator kind m s) is_a is_b tie = absurd is_b
set_plan-unique catalogue left right (SetOperator l r) other is_a is_b tie = absurd (true≢false (sym (ap is_eq tie)))
set_plan-unique catalogue left right (SeqScan e) other is_a is_b tie = absurd is_a
set_plan-unique catalogue left right (RankScan e t i) other is_a is_b tie = absurd is_a
set_plan-unique catalogue left right (JoinOperator kind l r) other is_a is_b tie = absurd is_a
set_plan-unique catalogue left right (Distinct a) other is_a is_b tie = absurd is_a

-- plans whose codes the order doesn't tell apart are the same, and so are plans of one code
pub plan-tied : (catalogue : CatalogDef) (query : Query) (a b : PlanTree) → IsPlan catalogue query a → IsPlan catalogue query b
    → code_cmp (code a) (code b) ≡ Equal → a ≡ b
plan-tied catalogue (One block limit) a b is_a is_b tie = part-unique catalogue block a b is_a.0.part is_b.0.part tie
plan-tied catalogue (Set op left right limit) a b is_a is_b tie = set_plan-unique catalogue left right a b is_a.0 is_b.0 tie

pub plan-unique : (catalogue : CatalogDef) (query : Query) (a b : PlanTree) → IsPlan catalogue query a → IsPlan catalogue query b → code a ≡ code b → a ≡ b
plan-unique catalogue query a b is_a is_b same = plan-tied catalogue query a b is_a is_b (ap (code_cmp (code a)) (sym same) ∙ code_cmp-itself (code a))
