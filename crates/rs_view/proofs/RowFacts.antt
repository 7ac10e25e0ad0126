-- The first rows of what a view has and of what fresh combinations make are the first rows of the answer.
use Rattle.std.proofs.Common.{ℕ, zero, suc, ◌≡◌, ◌∙◌, ◌⊎◌, ◌++◌, Bool, true, false, cond, List, [], ◌∷◌, length, map, take, refl, sym, ap, ap₂, subst, inl, inr, arith}
use Rattle.std.specs.Prelude.{◌↔◌, Option, Some, None, unwrap_or}
use Rattle.std.specs.List.{AllByRecursion, filter}
use Rattle.std.specs.Ordering.{flip_args, nat_cmp}
use Rattle.std.proofs.lemmas.Bool.{false≢true}
use Rattle.std.proofs.lemmas.List.{map-append, take-take}
use Rattle.std.proofs.lemmas.List.Sorted.{IsPermutation-map, IsPermutation-sym}
use Rattle.rs_order.specs.Climbing.{Climbs, Differs, HasDistinctKeys, In, Precedes}
use Rattle.rs_order.proofs.EachFacts.{each-append, each-map, each-take, each-weaker}
use Rattle.rs_order.proofs.ClimbingFacts.{AllByRecursion-from_In, Climbs-map}
use Rattle.rs_order.proofs.ItemFacts.{Climbs-filter, In-append, In-left, In-map, In-map-back, In-right}
use Rattle.rs_order.proofs.PartFacts.{Climbs-take, In-take}
use Rattle.rs_order.proofs.SortingFacts.{In-sorted, In-sorted-back}
use Rattle.rs_rank.specs.declared.answer.Answer.{Answer}
use Rattle.rs_rank.specs.declared.key.Key.{Key}
use Rattle.rs_rank.specs.declared.row.RankRow.{RankRow}
use Rattle.rs_rank.specs.Keys.{ids_cmp, key_cmp}
use Rattle.rs_rank.specs.Stable.{stable}
use Rattle.rs_rank.proofs.OrderFacts.{IsTied-parts, key_cmp-total}
use Rattle.rs_rank.proofs.SortedFacts.{stable-by_score}
use Rattle.rs_rank.proofs.StableFacts.{AllByRecursion-stable}
use Rattle.rs_expr.specs.Scoring.{Answering}
use Rattle.rs_catalog.specs.Catalog.{CatalogDef}
use Rattle.rs_query.specs.Answers.{answer_of, answer_row, base_of, cut, distinct_if}
use Rattle.rs_query.specs.Blocks.{block_in}
use Rattle.rs_query.specs.Combinations.{all_combinations, combinations}
use Rattle.rs_query.specs.Fresh.{has_new_row}
use Rattle.rs_query.specs.Growth.{IsSizes}
use Rattle.rs_query.specs.Tables.{all_entries, sizes_of}
use Rattle.rs_query.specs.WellFormed.{IsBlock, IsQuery}
use Rattle.rs_query.specs.declared.block.Block.{Block}
use Rattle.rs_query.specs.declared.query.Query.{Query}
use Rattle.rs_query.specs.declared.query.Query.TheVariants.{One, Set}
use Rattle.rs_query.proofs.ChoiceFacts.{In-combinations-back}
use Rattle.rs_query.proofs.GrownAnswerFacts.{HasRows-sizes}
use Rattle.rs_query.proofs.RiseFacts.{Rise, Rise-base, ids_of}
use Rattle.rs_plain.specs.Keeping.{IsWhole, answer_for}
use Rattle.rs_plain.specs.Ordering.{key_of_answer}
use Rattle.rs_plain.proofs.OrderFacts.{Climbs-answer, Climbs-stable}
use Rattle.rs_view.specs.Fresh.{fresh, fresh_rows}
use Rattle.rs_view.specs.Keeping.{AreFirst, AreKept, key_of_row}
use Rattle.rs_view.specs.Views.{IsKeepable, kept_rows, most_kept, without_values}
use Rattle.rs_view.proofs.FirstFacts.{answers-first, first_scored, fresh_answers, map-take}
use Rattle.rs_view.proofs.MergedFacts.{sorted-map}
use Rattle.rs_view.proofs.MergeFacts.{Climbs-in_order, Climbs-ordered, In-moved, first-both}
use Rattle.rs_view.proofs.SplitFacts.{fresh-new, joined, no_lengths, none-old, old-no_new, old_combinations, split}

-- what a function gives of the items that pass a test
filter-map : {X Y : Type 0} (f : X → Y) (p : X → Bool) (q : Y → Bool) (xs : List X) → ((x : X) → q (f x) ≡ p x) → map f (filter p xs) ≡ filter q (map f xs)
filter-map f p q [] same = refl
filter-map f p q (x ∷ xs) same =
    (elim (p x) as (λ b. map f (cond b (x ∷ filter p xs) (filter p xs)) ≡ cond b (f x ∷ filter q (map f xs)) (filter q (map f xs))) [
      | true ↦ ap (λ rest. f x ∷ rest) (filter-map f p q xs same)
      | false ↦ filter-map f p q xs same
    ]) ∙ ap (λ b. cond b (f x ∷ filter q (map f xs)) (filter q (map f xs))) (sym (same x))

-- keys that rise are different, and so are those of two lists with different keys
differ-behind : (x : Answer) (xs : List Answer) → AllByRecursion (Precedes key_cmp key_of_answer x) xs → AllByRecursion (Differs key_cmp key_of_answer x) xs
differ-behind x xs h = each-weaker (Precedes key_cmp key_of_answer x) (Differs key_cmp key_of_answer x) (λ y less tied. cc) xs h

differ-both : (xs ys : List Answer) → Climbs key_cmp key_of_answer xs → Climbs key_cmp key_of_answer ys
    → ((x y : Answer) → In x xs → In y ys → Differs key_cmp key_of_answer x y) → HasDistinctKeys key_cmp key_of_answer (xs ++ ys)
differ-both [] [] c d f = tt
differ-both [] (y ∷ ys) c d f = (differ-behind y ys d.0, differ-both [] ys tt d.1 (λ x z h k. absurd h))
differ-both (x ∷ xs) ys c d f = (
  each-append (Differs key_cmp key_of_answer x) xs ys (differ-behind x xs c.0)
      (AllByRecursion-from_In (Differs key_cmp key_of_answer x) ys (λ y h. f x y (inl refl) h)),
  differ-both xs ys c.1 d (λ z y h k. f z y (inr h) k),
)

-- the rows by falling scores
abbrev pub by_score : List Answer → List Answer
by_score rows = stable (λ (row : Answer). row.score) rows

In-by_score : (rows : List Answer) (z : Answer) → In z rows → In z (by_score rows)
In-by_score rows z h =
    subst (In z) (sym (stable-by_score (λ (row : Answer). row.score) rows)) (In-sorted (flip_args nat_cmp) (λ (row : Answer). row.score) rows z h)

In-by_score-back : (rows : List Answer) (z : Answer) → In z (by_score rows) → In z rows
In-by_score-back rows z h =
    In-sorted-back (flip_args nat_cmp) (λ (row : Answer). row.score) rows z (subst (In z) (stable-by_score (λ (row : Answer). row.score) rows) h)

module _ (answer : Answering) (catalogue : CatalogDef) (block : Block) (all : block.distinct ≡ false) where
  abbrev row : List ℕ → Answer
  row = answer_row answer catalogue block 1

  -- the rows for so many rows of the entries
  abbrev pub rows_for : List ℕ → List Answer
  rows_for sizes = map row (combinations catalogue block sizes (all_entries block))

  -- they are the rows of the block
  base-rows : (sizes : List ℕ) → base_of answer catalogue 1 block sizes ≡ rows_for sizes
  base-rows sizes = ap (λ b. distinct_if b (rows_for sizes)) all

  Rise-rows : (sizes : List ℕ) → Rise (rows_for sizes)
  Rise-rows sizes = subst Rise (base-rows sizes) (Rise-base answer catalogue 1 block sizes)

  pub Climbs-rows : (sizes : List ℕ) → Climbs key_cmp key_of_answer (by_score (rows_for sizes))
  Climbs-rows sizes = Climbs-stable (rows_for sizes) (Rise-rows sizes)

  module _ (old : List ℕ) where
    abbrev is_new : Answer → Bool
    is_new r = has_new_row old r.ids.rows

    Rise-fresh : Rise (fresh_answers answer catalogue block old)
    Rise-fresh =
        subst Rise (sym (filter-map row (has_new_row old) is_new (all_combinations catalogue block) (λ rows. refl)))
        (Climbs-filter ids_cmp ids_of is_new (rows_for (sizes_of catalogue block)) (Rise-rows (sizes_of catalogue block)))

    Climbs-fresh : Climbs key_cmp key_of_answer (by_score (fresh_answers answer catalogue block old))
    Climbs-fresh = Climbs-stable (fresh_answers answer catalogue block old) Rise-fresh

    -- an old row has another key than a fresh one
    old-differs : (x y : Answer) → In x (rows_for old) → In y (fresh_answers answer catalogue block old) → Differs key_cmp key_of_answer x y
    old-differs x y h k tied =
        let first = In-map-back row x (old_combinations catalogue block old) h in
        let second = In-map-back row y (fresh catalogue block old) k in
        let parts = IsTied-parts (key_of_answer x) (key_of_answer y) tied in
        let none : has_new_row old x.ids.rows ≡ false =
        ap (λ (r : Answer). has_new_row old r.ids.rows) first.image ∙ old-no_new catalogue block old first.source first.is_in in
        let new : has_new_row old y.ids.rows ≡ true =
        ap (λ (r : Answer). has_new_row old r.ids.rows) second.image ∙ fresh-new catalogue block old second.source second.is_in in
        false≢true (sym none ∙ ap (has_new_row old) parts.2 ∙ new)

    module _ (is : IsBlock catalogue block) (six : length old ≡ 6) (within : IsSizes catalogue block old) where
      -- the rows of all are the old ones and the fresh ones
      rows-split : (z : Answer) → In z (rows_for (sizes_of catalogue block)) ↔ (In z (rows_for old) ⊎ In z (fresh_answers answer catalogue block old))
      rows-split z = (forth, back) where
        forth : In z (rows_for (sizes_of catalogue block)) → In z (rows_for old) ⊎ In z (fresh_answers answer catalogue block old)
        forth h =
            let image = In-map-back row z (all_combinations catalogue block) h in
            elim (split catalogue block old six within image.source image.is_in) [
              | inl l ↦ inl (subst (λ w. In w (rows_for old)) (sym image.image) (In-map row image.source (old_combinations catalogue block old) l))
              | inr r ↦ inr (subst (λ w. In w (fresh_answers answer catalogue block old)) (sym image.image) (In-map row image.source (fresh catalogue block old) r))
            ]

        back : In z (rows_for old) ⊎ In z (fresh_answers answer catalogue block old) → In z (rows_for (sizes_of catalogue block))
        back h = elim h [
          | inl l ↦
              let image = In-map-back row z (old_combinations catalogue block old) l in
              subst (λ w. In w (rows_for (sizes_of catalogue block))) (sym image.image)
              (In-map row image.source (all_combinations catalogue block) (joined catalogue block old six within is.most_entries image.source (inl image.is_in)))
          | inr r ↦
              let image = In-map-back row z (fresh catalogue block old) r in
              subst (λ w. In w (rows_for (sizes_of catalogue block))) (sym image.image)
              (In-map row image.source (all_combinations catalogue block) (joined catalogue block old six within is.most_entries image.source (inr image.is_in)))
        ]

      sorted-split : (z : Answer) → In z (by_score (rows_for (sizes_of catalogue block))) ↔ (In z (by_score (rows_for old)) ⊎ In z (by_score (fresh_answers answer catalogue block old)))
      sorted-split z = (
        (λ h. elim ((rows-split z).0 (In-by_score-back (rows_for (sizes_of catalogue block)) z h)) [
          | inl l ↦ inl (In-by_score (rows_for old) z l)
          | inr r ↦ inr (In-by_score (fresh_answers answer catalogue block old) z r)
        ]),
        (λ h. In-by_score (rows_for (sizes_of catalogue block)) z ((rows-split z).1 (elim h [
          | inl l ↦ inl (In-by_score-back (rows_for old) z l)
          | inr r ↦ inr (In-by_score-back (fresh_answers answer catalogue block old) z r)
        ]))),
      )

      -- the first ones of both, put into order
      pub first-rows : (most : ℕ) (new : List Answer) → AreFirst key_of_answer most (take most (by_score (rows_for old)) ++ take most (by_score (fresh_answers answer catalogue block old))) new
          → new ≡ take most (by_score (rows_for (sizes_of catalogue block)))
      first-rows most new h =
          let kept = take most (by_score (rows_for old)) in
          let more = take most (by_score (fresh_answers answer catalogue block old)) in
          let apart : HasDistinctKeys key_cmp key_of_answer (kept ++ more) =
          differ-both kept more (Climbs-take key_cmp key_of_answer most (by_score (rows_for old)) (Climbs-rows old))
          (Climbs-take key_cmp key_of_answer most (by_score (fresh_answers answer catalogue block old)) Climbs-fresh)
          (λ x y i k. old-differs x y
          (In-by_score-back (rows_for old) x (In-take most (by_score (rows_for old)) x i))
          (In-by_score-back (fresh_answers answer catalogue block old) y (In-take most (by_score (fresh_answers answer catalogue block old)) y k))) in
          h.first
          ∙ first-both key_cmp key_cmp-total key_of_answer most (by_score (rows_for old)) (by_score (fresh_answers answer catalogue block old)) h.ordered (by_score (rows_for (sizes_of catalogue block)))
          (Climbs-rows old) Climbs-fresh (Climbs-ordered key_cmp key_cmp-total key_of_answer (kept ++ more) h.ordered apart h.moved h.sorted)
          (Climbs-rows (sizes_of catalogue block)) sorted-split
          (λ z. (
            (λ i. In-append z kept more (In-moved h.ordered (kept ++ more) (IsPermutation-sym (kept ++ more) h.ordered h.moved) z i)),
            (λ i. In-moved (kept ++ more) h.ordered h.moved z (elim i [ inl l ↦ In-left z kept more l | inr r ↦ In-right z kept more r ])),
          ))

-- what a view has are the first rows of the block
cut-kept : (limit : Option ℕ) (rows : List Answer) → take (unwrap_or limit 10) (cut limit rows) ≡ take (unwrap_or limit 10) rows
cut-kept None rows = refl
cut-kept (Some n) rows = take-take n n rows (omega arith)

kept-is : (answer : Answering) (catalogue : CatalogDef) (block : Block) (limit : Option ℕ) (sizes : List ℕ) (all : block.distinct ≡ false)
    → kept_rows answer catalogue (One block limit) sizes ≡ take (unwrap_or limit 10) (by_score (rows_for answer catalogue block all sizes))
kept-is answer catalogue block limit sizes all =
    cut-kept limit (by_score (base_of answer catalogue 1 block sizes))
    ∙ ap (λ rows. take (unwrap_or limit 10) (by_score rows)) (base-rows answer catalogue block all sizes)

-- a row of the block is what its ids and its score make by the tables
abbrev IsOf : CatalogDef → Block → Answer → Type 0
IsOf catalogue block row = answer_for catalogue block (without_values row) ≡ row

values-back : (catalogue : CatalogDef) (block : Block) (rows : List Answer) → AllByRecursion (IsOf catalogue block) rows
    → map (answer_for catalogue block) (map without_values rows) ≡ rows
values-back catalogue block [] all = refl
values-back catalogue block (row ∷ rows) all = ap₂ (λ (first : Answer) (rest : List Answer). first ∷ rest) all.0 (values-back catalogue block rows all.1)

-- without its output values it is as it was
pub ids-back : (catalogue : CatalogDef) (block : Block) (rows : List RankRow) → map without_values (map (answer_for catalogue block) rows) ≡ rows
ids-back catalogue block [] = refl
ids-back catalogue block (row ∷ rows) = ap (λ rest. row ∷ rest) (ids-back catalogue block rows)

-- the output values of what a view has are those of the answer
pub kept-values : (answer : Answering) (catalogue : CatalogDef) (query : Query) (sizes : List ℕ) → IsKeepable query
    → map (answer_for catalogue (block_in query 1)) (map without_values (kept_rows answer catalogue query sizes)) ≡ kept_rows answer catalogue query sizes
kept-values answer catalogue (One block limit) sizes all =
    values-back catalogue block (kept_rows answer catalogue (One block limit) sizes)
    (subst (AllByRecursion (IsOf catalogue block)) (sym (kept-is answer catalogue block limit sizes all))
    (each-take (IsOf catalogue block) (unwrap_or limit 10) (by_score (rows_for answer catalogue block all sizes))
    (AllByRecursion-stable (λ (row : Answer). row.score) (IsOf catalogue block) (rows_for answer catalogue block all sizes)
    (each-map (IsOf catalogue block) (answer_row answer catalogue block 1) (combinations catalogue block sizes (all_entries block))
    (AllByRecursion-from_In (λ rows. IsOf catalogue block (answer_row answer catalogue block 1 rows))
    (combinations catalogue block sizes (all_entries block)) (λ rows h. refl))))))
kept-values answer catalogue (Set op left right limit) sizes all = absurd all

-- the first ones of some rows stay so where each is made into something that has the same key
first-map : {X Y : Type 0} (f : X → Y) (key : Y → Key) (most : ℕ) (all rows : List X) → AreFirst (λ x. key (f x)) most all rows → AreFirst key most (map f all) (map f rows)
first-map f key most all rows first = record {
  ordered = map f first.ordered;
  moved = IsPermutation-map f all first.ordered first.moved;
  sorted = sorted-map key_cmp key key_cmp-total f first.ordered first.sorted;
  first = ap (map f) first.first ∙ map-take f most first.ordered;
}

-- a view that has the first rows of before has those of now
pub kept-grown : (answer : Answering) (catalogue : CatalogDef) (query : Query) (old : List ℕ) (rows more new : List RankRow) → IsQuery catalogue query → IsKeepable query
    → length old ≡ 6 → IsSizes catalogue (block_in query 1) old → rows ≡ map without_values (kept_rows answer catalogue query old)
    → more ≡ first_scored (most_kept query) (fresh_rows answer catalogue (block_in query 1) old)
    → AreFirst key_of_row (most_kept query) (rows ++ more) new → new ≡ map without_values (kept_rows answer catalogue query (sizes_of catalogue (block_in query 1)))
kept-grown answer catalogue (One block limit) old rows more new formed all six within kept added first =
    let most = unwrap_or limit 10 in
    let values = answer_for catalogue block in
    let before : map values rows ≡ take most (by_score (rows_for answer catalogue block all old)) =
    ap (map values) kept ∙ kept-values answer catalogue (One block limit) old all ∙ kept-is answer catalogue block limit old all in
    let joining : map values more ≡ take most (by_score (fresh_answers answer catalogue block old)) =
    ap (map values) added ∙ answers-first catalogue block answer old most in
    let whole : map values new ≡ take most (by_score (rows_for answer catalogue block all (sizes_of catalogue block))) =
    first-rows answer catalogue block all old formed.0 six within most (map values new)
    (subst (λ both. AreFirst key_of_answer most both (map values new))
    (map-append values rows more ∙ ap₂ (λ (a b : List Answer). a ++ b) before joining)
    (first-map values key_of_answer most (rows ++ more) new first)) in
    sym (ids-back catalogue block new)
    ∙ ap (map without_values) (whole ∙ sym (kept-is answer catalogue block limit (sizes_of catalogue block) all))
kept-grown answer catalogue (Set op left right limit) old rows more new formed all six within kept added first = absurd all

-- there is no row for no rows
pub kept-none : (answer : Answering) (catalogue : CatalogDef) (query : Query) → IsQuery catalogue query → IsKeepable query → map without_values (kept_rows answer catalogue query no_lengths) ≡ []
kept-none answer catalogue (One block limit) formed all =
    ap (map without_values)
    (kept-is answer catalogue block limit no_lengths all
    ∙ ap (λ combinations. take (unwrap_or limit 10) (by_score (map (answer_row answer catalogue block 1) combinations))) (none-old catalogue block formed.0)
    ∙ take-none (unwrap_or limit 10))
  where
    take-none : (n : ℕ) → take n (by_score []) ≡ []
    take-none zero = refl
    take-none (suc n) = refl
kept-none answer catalogue (Set op left right limit) formed all = absurd all

-- what a view has is in order, and no more than it may have
pub kept-in_order : (answer : Answering) (catalogue : CatalogDef) (query : Query) (lengths : List ℕ) (rows : List RankRow) → rows ≡ map without_values (kept_rows answer catalogue query lengths)
    → AreKept key_of_row (most_kept query) rows
kept-in_order answer catalogue query lengths rows kept =
    let all = answer_of answer catalogue query (record { first = lengths; second = [] }) in
    let most = most_kept query in
    record {
      sorted = Climbs-in_order key_cmp key_cmp-total key_of_row rows
          (subst (Climbs key_cmp key_of_row) (sym kept)
          (Climbs-map key_cmp key_of_row without_values (take most all)
          (Climbs-take key_cmp key_of_answer most all (Climbs-answer answer catalogue query (record { first = lengths; second = [] })))));
      few = kept ∙ ap (map without_values) (sym (take-take most most all (omega arith))) ∙ map-take without_values most (take most all) ∙ ap (take most) (sym kept);
    }

-- each row of a view has a row of each entry
pub kept-whole : (answer : Answering) (catalogue : CatalogDef) (query : Query) (lengths : List ℕ) (rows : List RankRow) → IsKeepable query → IsSizes catalogue (block_in query 1) lengths
    → rows ≡ map without_values (kept_rows answer catalogue query lengths) → AllByRecursion (IsWhole catalogue (block_in query 1)) rows
kept-whole answer catalogue (One block limit) lengths rows all within kept =
    let Whole = λ (row : Answer). IsWhole catalogue block (without_values row) in
    subst (AllByRecursion (IsWhole catalogue block)) (sym kept)
    (each-map (IsWhole catalogue block) without_values (kept_rows answer catalogue (One block limit) lengths)
    (subst (AllByRecursion Whole) (sym (kept-is answer catalogue block limit lengths all))
    (each-take Whole (unwrap_or limit 10) (by_score (rows_for answer catalogue block all lengths))
    (AllByRecursion-stable (λ (row : Answer). row.score) Whole (rows_for answer catalogue block all lengths)
    (each-map Whole (answer_row answer catalogue block 1) (combinations catalogue block lengths (all_entries block))
    (AllByRecursion-from_In (λ ids. Whole (answer_row answer catalogue block 1 ids)) (combinations catalogue block lengths (all_entries block))
    (λ ids h. record {
      mask = refl;
      rows = HasRows-sizes catalogue block lengths (all_entries block) ids within (In-combinations-back catalogue block lengths (all_entries block) ids h).0;
    })))))))
kept-whole answer catalogue (Set op left right limit) lengths rows all within kept = absurd all
