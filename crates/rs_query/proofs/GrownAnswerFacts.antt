-- What rows that were there are in a grown catalogue, and so the combinations and the answers of queries.
use Rattle.std.proofs.Common.{ℕ, ◌≡◌, ◌∙◌, ◌+◌, ◌*◌, ◌-◌, ◌<◌, ◌≤◌, ◌&&◌, Bool, true, false, cond, List, [], ◌∷◌, ◌++◌, Some, None, Option, length, get_or, map, pos, refl, sym, ap, ap₂, subst, inl, inr, arith}
use Rattle.std.specs.Prelude.{option_and_then, slice_get, unwrap_or}
use Rattle.std.specs.Int.{bit_at}
use Rattle.std.specs.List.{AllByRecursion, filter, list_all}
use Rattle.std.proofs.lemmas.Bool.{eqb-true}
use Rattle.std.proofs.lemmas.Option.{unwrap_or-slice_get}
use Rattle.rs_order.specs.Climbing.{In}
use Rattle.rs_order.proofs.ClimbingFacts.{AllByRecursion-In}
use Rattle.rs_value.specs.declared.value.Value.{Value}
use Rattle.rs_value.specs.declared.value.Value.TheVariants as value
use Rattle.rs_table.specs.Relation.{Relation, cell_at}
use Rattle.rs_rank.specs.Stable.{stable}
use Rattle.rs_rank.specs.declared.answer.Answer.{Answer}
use Rattle.rs_expr.specs.Formulas.{Constant}
use Rattle.rs_expr.specs.Meaning.{holds}
use Rattle.rs_expr.specs.Predicates.{PredicateDef}
use Rattle.rs_expr.specs.Scoring.{Answering}
use Rattle.rs_catalog.specs.Catalog.{CatalogDef}
use Rattle.rs_catalog.specs.declared.index.BoundArg.{BoundArg}
use Rattle.rs_catalog.specs.declared.index.BoundArg.TheVariants as arg
use Rattle.rs_catalog.proofs.JoinedFacts.{slice_get-front}
use Rattle.rs_query.specs.declared.block.Block.{Block}
use Rattle.rs_query.specs.declared.query.Query.{Query}
use Rattle.rs_query.specs.declared.query.Query.TheVariants.{One, Set}
use Rattle.rs_query.specs.declared.term.Term.{Term}
use Rattle.rs_query.specs.Answers.{answer_of, answer_row, base_of, clamped, cut, distinct_if, limit_of, predicate_at, rows_of, score_of, scorer_answer, set_base, worth_of}
use Rattle.rs_query.specs.Choices.{IsChoice}
use Rattle.rs_query.specs.Combinations.{choices, combinations, holds_inside, satisfies}
use Rattle.rs_query.specs.Conjuncts.{ConjunctDef}
use Rattle.rs_query.specs.Growth.{CatalogueGrows, IsSizes, IsViewOf}
use Rattle.rs_query.specs.Meaning.{argument_value, argument_values, column_value, conjunct_holds, is_inside, outputs_of}
use Rattle.rs_query.specs.Tables.{HasRow, HasRows, all_entries, entry_table, row_number}
use Rattle.rs_query.specs.Views.{View}
use Rattle.rs_query.specs.WellFormed.{IsBlock, IsColumn, IsConjunct, IsQuery, IsTerm, argument_columns, entries_mask}
use Rattle.rs_query.proofs.ChoiceFacts.{In-choices-back, In-combinations-back}
use Rattle.rs_query.proofs.EntryFacts.{argument_columns-args, items-inside, terms-inside}
use Rattle.rs_query.proofs.ExtendFacts.{IsChoice-at}
use Rattle.rs_query.proofs.GrowthFacts.{entry-grows, rows_in}
use Rattle.rs_query.proofs.LocalFacts.{columns-have, map-same}

-- tests that agree on each item keep the same ones
filter-same : {X : Type 0} (p q : X → Bool) (xs : List X) → ((x : X) → In x xs → p x ≡ q x) → filter p xs ≡ filter q xs
filter-same {X} p q [] same = refl
filter-same {X} p q (x ∷ xs) same = ap₂ (λ (b : Bool) (rest : List X). cond b (x ∷ rest) rest) (same x (inl refl)) (filter-same p q xs (λ z h. same z (inr h)))

-- the row of a number that a table had is the same one
cell-grows : (rows more : List (List Value)) (row column : ℕ) → 1 ≤ row → row ≤ length rows
    → option_and_then (λ (values : List Value). slice_get values column) (slice_get (rows ++ more) (row - 1)) ≡ option_and_then (λ (values : List Value). slice_get values column) (slice_get rows (row - 1))
cell-grows rows more row column some last = ap (option_and_then (λ (values : List Value). slice_get values column)) (slice_get-front rows more (row - 1) (omega arith))

-- the cell of a table that was found, or the number that stands for none
abbrev cell_in : ℕ → ℕ → Option Relation → Value
cell_in row column found = unwrap_or (option_and_then (λ (table : Relation). cell_at table row column) found) (value.Int (pos 0))

-- a choice of rows of a view has rows of the tables
pub HasRows-sizes : (catalogue : CatalogDef) (block : Block) (sizes : List ℕ) (mask : ℕ) (rows : List ℕ) → IsSizes catalogue block sizes → IsChoice mask sizes rows → HasRows catalogue block mask rows
HasRows-sizes catalogue block sizes mask rows is choice entry some last has =
    let all = is.all in
    let each = is.each entry some last in
    let row : row_number rows entry ≡ get_or rows (entry - 1) 0 = unwrap_or-slice_get rows (entry - 1) 0 in
    let size : row_number sizes entry ≡ get_or sizes (entry - 1) 0 = unwrap_or-slice_get sizes (entry - 1) 0 in
    let bit : bit_at mask (entry - 1) ≡ 1 = eqb-true (bit_at mask (entry - 1)) 1 has in
    let both = IsChoice-at (entry - 1) mask sizes rows choice (let less : entry - 1 < length sizes = omega arith in less) bit in
    let first = both.0 in
    let second = both.1 in
    (omega arith, omega arith)

module _ (old new : CatalogDef) (grows : CatalogueGrows old new) where
  -- a predicate
  pub predicate-grows : (block : Block) (term : Term) → IsTerm old block term → predicate_at new term.predicate ≡ predicate_at old term.predicate
  predicate-grows block term is =
      let there = is.has_predicate in
      ap (λ (found : Option PredicateDef). unwrap_or found (record { name = []; params = []; max = 0; cost = 0; formula = Constant (pos 0) }))
      (grows.predicates term.predicate is.predicate there ∙ sym there)

  module _ (block : Block) (rows : List ℕ) where
    -- a column of an entry that has a row
    value-grows : (column : ℕ × ℕ) → HasRow old block rows column.0 → column_value new block rows column ≡ column_value old block rows column
    value-grows column has = go (entry_table old block column.0) refl where
      go : (found : Option Relation) → entry_table old block column.0 ≡ found → column_value new block rows column ≡ column_value old block rows column
      go (Some table) at =
          let some = has.0 in
          let last = has.1 in
          let size = ap rows_in at in
          let grown = entry-grows old new grows block column.0 table at in
          ap (cell_in (row_number rows column.0) column.1) grown.there
          ∙ ap (λ (cell : Option Value). unwrap_or cell (value.Int (pos 0))) (cell-grows table.rows grown.more (row_number rows column.0) column.1 some (omega arith))
          ∙ sym (ap (cell_in (row_number rows column.0) column.1) at)
      go None at =
          let some = has.0 in
          let last = has.1 in
          let none = ap rows_in at in
          absurd (omega arith)

    -- columns
    cells-grow : (columns : List (ℕ × ℕ)) → ((column : ℕ × ℕ) → In column columns → HasRow old block rows column.0) → map (column_value new block rows) columns ≡ map (column_value old block rows) columns
    cells-grow columns have = map-same (column_value new block rows) (column_value old block rows) columns (λ column h. value-grows column (have column h))

    -- arguments
    arguments-grow : (args : List BoundArg) → ((column : ℕ × ℕ) → In column (argument_columns args) → HasRow old block rows column.0)
        → map (argument_value new block rows) args ≡ map (argument_value old block rows) args
    arguments-grow [] have = refl
    arguments-grow (arg.Column entry column ∷ args) have =
        ap₂ (λ v vs. v ∷ vs) (value-grows (entry, column) (have (entry, column) (inl refl))) (arguments-grow args (λ c h. have c (inr h)))
    arguments-grow (arg.Int n ∷ args) have = ap (λ vs. value.Int n ∷ vs) (arguments-grow args have)
    arguments-grow (arg.Text t ∷ args) have = ap (λ vs. value.Text t ∷ vs) (arguments-grow args have)

    module _ (mask : ℕ) (has : HasRows old block mask rows) where
      -- columns inside the entries that have rows
      inside-has : (columns : List (ℕ × ℕ)) → AllByRecursion (IsColumn old block) columns → is_inside (entries_mask columns) mask ≡ true
          → (column : ℕ × ℕ) → In column columns → HasRow old block rows column.0
      inside-has columns are inside column h =
          let is = AllByRecursion-In (IsColumn old block) columns are column h in
          has column.0 is.0 is.1 (columns-have columns mask inside column h)

      -- a conjunct, and all conjuncts
      pub conjunct_holds-grows : (conjunct : ConjunctDef) → IsConjunct old block conjunct → is_inside conjunct.entries mask ≡ true
          → conjunct_holds new block rows conjunct ≡ conjunct_holds old block rows conjunct
      conjunct_holds-grows conjunct is inside =
          ap (holds conjunct.condition)
          (cells-grow conjunct.columns (inside-has conjunct.columns is.columns (subst (λ entries. is_inside entries mask ≡ true) is.entries inside)))

      holds_inside-grows : (conjunct : ConjunctDef) → IsConjunct old block conjunct → holds_inside new block mask rows conjunct ≡ holds_inside old block mask rows conjunct
      holds_inside-grows conjunct is =
          (elim (is_inside conjunct.entries mask)
          as (λ b. is_inside conjunct.entries mask ≡ b → cond b (conjunct_holds new block rows conjunct) true ≡ cond b (conjunct_holds old block rows conjunct) true) [
            | true ↦ λ inside. conjunct_holds-grows conjunct is inside
            | false ↦ λ outside. refl
          ]) refl

      all-grow : (conjuncts : List ConjunctDef) → AllByRecursion (IsConjunct old block) conjuncts → list_all (holds_inside new block mask rows) conjuncts ≡ list_all (holds_inside old block mask rows) conjuncts
      all-grow [] are = refl
      all-grow (conjunct ∷ conjuncts) are = ap₂ (λ a b. a && b) (holds_inside-grows conjunct are.0) (all-grow conjuncts are.1)

      pub satisfies-grows : IsBlock old block → satisfies new block mask rows ≡ satisfies old block mask rows
      satisfies-grows is = all-grow block.conjuncts is.conjuncts

      -- a term
      pub argument_values-grow : (term : Term) → IsTerm old block term → is_inside term.entries mask ≡ true → argument_values new block rows term ≡ argument_values old block rows term
      argument_values-grow term is inside =
          arguments-grow term.args (inside-has (argument_columns term.args) (argument_columns-args old block is.predicate.params term.args is.args)
          (subst (λ entries. is_inside entries mask ≡ true) is.entries inside))

      pub number-grows : (answer : Answering) (term : Term) → IsTerm old block term → is_inside term.entries mask ≡ true → scorer_answer answer new block rows term ≡ scorer_answer answer old block rows term
      number-grows answer term is inside = ap₂ answer (predicate-grows block term is) (argument_values-grow term is inside)

      pub worth-grows : (answer : Answering) (term : Term) → IsTerm old block term → is_inside term.entries mask ≡ true → worth_of answer new block rows term ≡ worth_of answer old block rows term
      worth-grows answer term is inside = ap₂ (λ (p : PredicateDef). clamped p.max) (predicate-grows block term is) (number-grows answer term is inside)

      score-grows : (answer : Answering) (terms : List Term) → AllByRecursion (IsTerm old block) terms → AllByRecursion (λ (t : Term). is_inside t.entries mask ≡ true) terms
          → score_of answer new block rows terms ≡ score_of answer old block rows terms
      score-grows answer [] are inside = refl
      score-grows answer (term ∷ terms) are inside =
          ap₂ (λ worth rest. term.weight * worth + rest) (worth-grows answer term are.0 inside.0) (score-grows answer terms are.1 inside.1)

      -- the output columns
      pub outputs_of-grow : IsBlock old block → is_inside (entries_mask block.items) mask ≡ true → outputs_of new block rows ≡ outputs_of old block rows
      outputs_of-grow is inside = cells-grow block.items (inside-has block.items is.items inside)

    -- a row of an answer
    answer_row-grows : (answer : Answering) (number : ℕ) → IsBlock old block → HasRows old block (all_entries block) rows → answer_row answer new block number rows ≡ answer_row answer old block number rows
    answer_row-grows answer number is has =
        let score = score-grows (all_entries block) has answer block.terms is.terms (terms-inside old block is) in
        let values = outputs_of-grow (all_entries block) has is (items-inside old block is) in
        λ i. record {
          ids = record { block = number; mask = all_entries block; rows = rows };
          score = score i;
          values = values i;
        }

  module _ (block : Block) (is : IsBlock old block) (sizes : List ℕ) (within : IsSizes old block sizes) where
    -- combinations
    pub combinations-grow : (mask : ℕ) → combinations new block sizes mask ≡ combinations old block sizes mask
    combinations-grow mask =
        filter-same (satisfies new block mask) (satisfies old block mask) (choices mask sizes)
        (λ rows h. satisfies-grows block rows mask (HasRows-sizes old block sizes mask rows within (In-choices-back mask sizes rows h)) is)

    -- the rows of a block
    base-grows : (answer : Answering) (number : ℕ) → base_of answer new number block sizes ≡ base_of answer old number block sizes
    base-grows answer number =
        let rows_of_old = combinations old block sizes (all_entries block) in
        ap (distinct_if block.distinct)
        (ap (map (answer_row answer new block number)) (combinations-grow (all_entries block))
        ∙ map-same (answer_row answer new block number) (answer_row answer old block number) rows_of_old
        (λ rows h. answer_row-grows block rows answer number is
        (HasRows-sizes old block sizes (all_entries block) rows within (In-combinations-back old block sizes (all_entries block) rows h).0)))

  -- the rows of a query
  pub rows_of-grow : (answer : Answering) (query : Query) (view : View) → IsQuery old query → IsViewOf old query view → rows_of answer new query view ≡ rows_of answer old query view
  rows_of-grow answer (One block limit) view is within = base-grows block is.0 view.first within answer 1
  rows_of-grow answer (Set op left right limit) view is within =
      ap₂ (set_base op) (base-grows left is.0.left_block view.first within.0 answer 1) (base-grows right is.0.right_block view.second within.1 answer 2)

  -- and its answer
  pub answer_of-grows : (answer : Answering) (query : Query) (view : View) → IsQuery old query → IsViewOf old query view → answer_of answer new query view ≡ answer_of answer old query view
  answer_of-grows answer query view is within =
      ap (λ (rows : List Answer). cut (limit_of query) (stable (λ (row : Answer). row.score) rows)) (rows_of-grow answer query view is within)
