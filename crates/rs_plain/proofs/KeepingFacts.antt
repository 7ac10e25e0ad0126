-- Rows of the answer that are made behind the order and the limit are the same.
use Rattle.std.proofs.Common.{◌≡◌, ◌∙◌, ◌++◌, ℕ, Bool, true, false, List, [], ◌∷◌, zero, suc, map, take, refl, sym, ap, subst}
use Rattle.std.specs.Prelude.{Option, Some, None, ◌&&◌, not}
use Rattle.std.specs.List.{AllByRecursion}
use Rattle.std.proofs.lemmas.List.{map-append}
use Rattle.rs_order.proofs.EachFacts.{each-append, each-map, each-take, each-weaker}
use Rattle.rs_value.specs.declared.set_op.SetOp.TheVariants.{Except, Intersect, Union, UnionAll}
use Rattle.rs_rank.specs.Stable.{stable}
use Rattle.rs_rank.specs.declared.answer.Answer.{Answer}
use Rattle.rs_rank.specs.declared.row.RankRow.{RankRow}
use Rattle.rs_rank.proofs.StableFacts.{AllByRecursion-stable, stable-map}
use Rattle.rs_expr.specs.Scoring.{Answering}
use Rattle.rs_catalog.specs.Catalog.{CatalogDef}
use Rattle.rs_query.specs.Answers.{answer_of, answer_row, cut, distinct_if, limit_of, rows_of}
use Rattle.rs_query.specs.Blocks.{block_in}
use Rattle.rs_query.specs.Combinations.{all_combinations}
use Rattle.rs_query.specs.Tables.{HasRows, all_entries}
use Rattle.rs_query.specs.Views.{all_rows}
use Rattle.rs_query.specs.WellFormed.{IsBlock, IsQuery}
use Rattle.rs_query.specs.declared.block.Block.{Block}
use Rattle.rs_query.specs.declared.query.Query.{Query}
use Rattle.rs_query.specs.declared.query.Query.TheVariants.{One, Set}
use Rattle.rs_query.proofs.ExtendFacts.{HasRows-combinations}
use Rattle.rs_plain.specs.Keeping.{IsWhole, IsWholeIn, answer_for, answer_in, best_of, keeps_duplicates, scored_block, scored_for, scored_query}

-- the rows that the scored combinations of a block make
pub answers-block : (answer : Answering) (catalogue : CatalogDef) (number : ℕ) (block : Block) (rows : List (List ℕ))
    → map (answer_for catalogue block) (map (scored_for answer catalogue number block) rows) ≡ map (answer_row answer catalogue block number) rows
answers-block answer catalogue number block [] = refl
answers-block answer catalogue number block (row ∷ rows) =
    ap (λ (rest : List Answer). answer_row answer catalogue block number row ∷ rest) (answers-block answer catalogue number block rows)

-- the same where the block is found by its number
answers-numbered : (answer : Answering) (catalogue : CatalogDef) (query : Query) (number : ℕ) (block : Block) (rows : List (List ℕ)) → block_in query number ≡ block
    → map (answer_in catalogue query) (map (scored_for answer catalogue number block) rows) ≡ map (answer_row answer catalogue block number) rows
answers-numbered answer catalogue query number block [] same = refl
answers-numbered answer catalogue query number block (row ∷ rows) same =
    ap (λ (b : Block). answer_for catalogue b (scored_for answer catalogue number block row) ∷ map (answer_in catalogue query) (map (scored_for answer catalogue number block) rows)) same
    ∙ ap (λ (rest : List Answer). answer_row answer catalogue block number row ∷ rest) (answers-numbered answer catalogue query number block rows same)

-- nothing is dropped
distinct-kept : (distinct : Bool) (rows : List Answer) → not distinct ≡ true → rows ≡ distinct_if distinct rows
distinct-kept true rows keeps = absurd (cc)
distinct-kept false rows keeps = refl

both-kept : (a b : Bool) → (a && b) ≡ true → (a ≡ true) × (b ≡ true)
both-kept true b both = (refl, both)
both-kept false b both = absurd (cc)

-- the rows that the scored combinations of a query make, where it keeps duplicates
answers-query : (answer : Answering) (catalogue : CatalogDef) (query : Query) → keeps_duplicates query ≡ true
    → map (answer_in catalogue query) (scored_query answer catalogue query) ≡ rows_of answer catalogue query (all_rows catalogue query)
answers-query answer catalogue (One block limit) keeps =
    answers-numbered answer catalogue (One block limit) 1 block (all_combinations catalogue block) refl
    ∙ distinct-kept block.distinct (map (answer_row answer catalogue block 1) (all_combinations catalogue block)) keeps
answers-query answer catalogue (Set UnionAll left right limit) keeps =
    let query = Set UnionAll left right limit in
    let both = both-kept (not left.distinct) (not right.distinct) keeps in
    let first = map (answer_row answer catalogue left 1) (all_combinations catalogue left) in
    let second = map (answer_row answer catalogue right 2) (all_combinations catalogue right) in
    map-append (answer_in catalogue query) (scored_block answer catalogue 1 left) (scored_block answer catalogue 2 right)
    ∙ ap (λ (rows : List Answer). rows ++ map (answer_in catalogue query) (scored_block answer catalogue 2 right))
    (answers-numbered answer catalogue query 1 left (all_combinations catalogue left) refl ∙ distinct-kept left.distinct first both.0)
    ∙ ap (λ (rows : List Answer). distinct_if left.distinct first ++ rows)
    (answers-numbered answer catalogue query 2 right (all_combinations catalogue right) refl ∙ distinct-kept right.distinct second both.1)
answers-query answer catalogue (Set Union left right limit) keeps = absurd (cc)
answers-query answer catalogue (Set Intersect left right limit) keeps = absurd (cc)
answers-query answer catalogue (Set Except left right limit) keeps = absurd (cc)

-- a list is cut before or after its items are mapped
map-take : {A B : Type 0} (f : A → B) (n : ℕ) (xs : List A) → map f (take n xs) ≡ take n (map f xs)
map-take f zero xs = refl
map-take f (suc n) [] = refl
map-take f (suc n) (x ∷ xs) = ap (λ rest. f x ∷ rest) (map-take f n xs)

map-cut : {A B : Type 0} (f : A → B) (limit : Option ℕ) (xs : List A) → map f (cut limit xs) ≡ cut limit (map f xs)
map-cut f None xs = refl
map-cut f (Some n) xs = map-take f n xs

each-cut : {A : Type 0} (P : A → Type 0) (limit : Option ℕ) (xs : List A) → AllByRecursion P xs → AllByRecursion P (cut limit xs)
each-cut P None xs all = all
each-cut P (Some n) xs all = each-take P n xs all

-- what holds of each one holds of each that is left
each-left : (P : RankRow → Type 0) (limit : Option ℕ) (scored : List RankRow) → AllByRecursion P scored → AllByRecursion P (best_of limit scored)
each-left P limit scored all =
    each-cut P limit (stable (λ (row : RankRow). row.sum) scored) (AllByRecursion-stable (λ (row : RankRow). row.sum) P scored all)

same-scores : (catalogue : CatalogDef) (query : Query) (scored : List RankRow) → AllByRecursion (λ (row : RankRow). (answer_in catalogue query row).score ≡ row.sum) scored
same-scores catalogue query [] = tt
same-scores catalogue query (row ∷ scored) = (refl, same-scores catalogue query scored)

-- those that are left make the rows of the answer
pub answers-left : (answer : Answering) (catalogue : CatalogDef) (query : Query) → keeps_duplicates query ≡ true
    → map (answer_in catalogue query) (best_of (limit_of query) (scored_query answer catalogue query)) ≡ answer_of answer catalogue query (all_rows catalogue query)
answers-left answer catalogue query keeps =
    let scored = scored_query answer catalogue query in
    map-cut (answer_in catalogue query) (limit_of query) (stable (λ (row : RankRow). row.sum) scored)
    ∙ ap (cut (limit_of query))
    (stable-map (answer_in catalogue query) (λ (row : RankRow). row.sum) (λ (row : Answer). row.score) scored (same-scores catalogue query scored)
    ∙ ap (stable (λ (row : Answer). row.score)) (answers-query answer catalogue query keeps))

-- each scored combination of a block has a row of each entry
pub whole-block : (answer : Answering) (catalogue : CatalogDef) (number : ℕ) (block : Block) → IsBlock catalogue block
    → AllByRecursion (IsWhole catalogue block) (scored_block answer catalogue number block)
whole-block answer catalogue number block formed =
    each-map (IsWhole catalogue block) (scored_for answer catalogue number block) (all_combinations catalogue block)
    (each-weaker (HasRows catalogue block (all_entries block)) (λ rows. IsWhole catalogue block (scored_for answer catalogue number block rows))
    (λ rows has. record { mask = refl; rows = has }) (all_combinations catalogue block) (HasRows-combinations catalogue block formed.most_entries))

-- the same where the block is found by its number
whole-numbered : (answer : Answering) (catalogue : CatalogDef) (query : Query) (number : ℕ) (block : Block) → block_in query number ≡ block → IsBlock catalogue block
    → AllByRecursion (IsWholeIn catalogue query) (scored_block answer catalogue number block)
whole-numbered answer catalogue query number block same formed =
    each-map (IsWholeIn catalogue query) (scored_for answer catalogue number block) (all_combinations catalogue block)
    (each-weaker (HasRows catalogue block (all_entries block)) (λ rows. IsWholeIn catalogue query (scored_for answer catalogue number block rows))
    (λ rows has. subst (λ (b : Block). IsWhole catalogue b (scored_for answer catalogue number block rows)) (sym same) (record { mask = refl; rows = has }))
    (all_combinations catalogue block) (HasRows-combinations catalogue block formed.most_entries))

whole-query : (answer : Answering) (catalogue : CatalogDef) (query : Query) → IsQuery catalogue query → AllByRecursion (IsWholeIn catalogue query) (scored_query answer catalogue query)
whole-query answer catalogue (One block limit) formed = whole-numbered answer catalogue (One block limit) 1 block refl formed.0
whole-query answer catalogue (Set op left right limit) formed =
    each-append (IsWholeIn catalogue (Set op left right limit)) (scored_block answer catalogue 1 left) (scored_block answer catalogue 2 right)
    (whole-numbered answer catalogue (Set op left right limit) 1 left refl formed.0.left_block)
    (whole-numbered answer catalogue (Set op left right limit) 2 right refl formed.0.right_block)

-- and each that is left
pub whole-left : (answer : Answering) (catalogue : CatalogDef) (query : Query) → IsQuery catalogue query
    → AllByRecursion (IsWholeIn catalogue query) (best_of (limit_of query) (scored_query answer catalogue query))
whole-left answer catalogue query formed =
    each-left (IsWholeIn catalogue query) (limit_of query) (scored_query answer catalogue query) (whole-query answer catalogue query formed)
