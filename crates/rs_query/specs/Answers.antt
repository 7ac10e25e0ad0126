-- The answer of a query: every combination is scored, duplicates are dropped where the query says so, and the rest is put into the stable order.
use Rattle.std.specs.Prelude.{ℕ, zero, suc, ℤ, pos, negsuc, min, not, ◌+◌, ◌-◌, ◌*◌, ◌^◌, Bool, true, false, List, [], ◌∷◌, ◌++◌, length, map, take, Option, Some, None, slice_get, unwrap_or}
use Rattle.std.specs.List.{filter, list_any}
use Rattle.rs_rank.specs.Stable.{stable}
use Rattle.rs_rank.specs.declared.answer.Answer.{Answer}
use Rattle.rs_rank.specs.declared.weights.Weights.{Weights}
use Rattle.rs_expr.specs.Formulas.{Constant}
use Rattle.rs_expr.specs.Predicates.{PredicateDef}
use Rattle.rs_expr.specs.Scoring.{Answering}
use Rattle.rs_catalog.specs.Catalog.{CatalogDef}
use Rattle.rs_outputs.specs.Seen.{same_values}
use Rattle.rs_value.specs.declared.set_op.SetOp.{SetOp}
use Rattle.rs_value.specs.declared.set_op.SetOp.TheVariants.{UnionAll, Union, Intersect, Except}
use Rattle.rs_query.specs.declared.block.Block.{Block}
use Rattle.rs_query.specs.declared.term.Term.{Term}
use Rattle.rs_query.specs.declared.query.Query.{Query}
use Rattle.rs_query.specs.declared.query.Query.TheVariants.{One, Set}
use Rattle.rs_query.specs.Combinations.{combinations}
use Rattle.rs_query.specs.Meaning.{argument_values, outputs_of}
use Rattle.rs_query.specs.Tables.{all_entries}
use Rattle.rs_query.specs.Views.{View}

-- the predicate of this number
abbrev pub predicate_at : CatalogDef → ℕ → PredicateDef
predicate_at catalogue number =
    unwrap_or (slice_get catalogue.predicates number) (record { name = []; params = []; max = 0; cost = 0; formula = Constant (pos 0) })

-- a number put into 0 to `max`: what is less becomes 0, and what is greater `max`
abbrev pub clamped : ℕ → ℤ → ℕ
clamped max (pos n) = min n max
clamped max (negsuc n) = 0

-- what the scorer answers to a term for these rows
abbrev pub scorer_answer : Answering → CatalogDef → Block → List ℕ → Term → ℤ
scorer_answer answer catalogue block rows term = answer (predicate_at catalogue term.predicate) (argument_values catalogue block rows term)

-- the worth of a term: that number, put into 0 to MAX of its predicate
abbrev pub worth_of : Answering → CatalogDef → Block → List ℕ → Term → ℕ
worth_of answer catalogue block rows term = clamped (predicate_at catalogue term.predicate).max (scorer_answer answer catalogue block rows term)

-- the score: the sum of weight times worth over the terms
abbrev pub score_of : Answering → CatalogDef → Block → List ℕ → List Term → ℕ
score_of answer catalogue block rows [] = 0
score_of answer catalogue block rows (term ∷ terms) = term.weight * worth_of answer catalogue block rows term + score_of answer catalogue block rows terms

-- a combination of all entries of a block of this number as a row of the answer
abbrev pub answer_row : Answering → CatalogDef → Block → ℕ → List ℕ → Answer
answer_row answer catalogue block number rows = record {
  ids = record { block = number; mask = all_entries block; rows = rows };
  score = score_of answer catalogue block rows block.terms;
  values = outputs_of catalogue block rows;
}

-- whether a row's output values are those of one of these rows
abbrev pub occurs_in : List Answer → Answer → Bool
occurs_in rows row = list_any (λ (other : Answer). same_values other.values row.values) rows

-- the rows with other output values
abbrev pub others : Answer → List Answer → List Answer
others row rows = filter (λ (other : Answer). not (same_values row.values other.values)) rows

-- the first row of each list of output values
abbrev pub firsts : List Answer → List Answer
firsts [] = []
firsts (row ∷ rows) = row ∷ others row (firsts rows)

-- the first ones where the block is DISTINCT, else all
abbrev pub distinct_if : Bool → List Answer → List Answer
distinct_if true rows = firsts rows
distinct_if false rows = rows

-- the rows of a block whose entries have this many rows: all its combinations, and with DISTINCT the first one of each list of
-- output values
abbrev pub base_of : Answering → CatalogDef → ℕ → Block → List ℕ → List Answer
base_of answer catalogue number block sizes =
    distinct_if block.distinct (map (answer_row answer catalogue block number) (combinations catalogue block sizes (all_entries block)))

-- the rows that a set operator makes of those of two blocks
abbrev pub set_base : SetOp → List Answer → List Answer → List Answer
set_base UnionAll left right = left ++ right
set_base Union left right = firsts (left ++ right)
set_base Intersect left right = firsts (filter (occurs_in right) left)
set_base Except left right = firsts (filter (λ row. not (occurs_in right row)) left)

-- the first rows, as many as LIMIT says
abbrev pub cut : {T : Type 0} → Option ℕ → List T → List T
cut None rows = rows
cut (Some limit) rows = take limit rows

abbrev pub limit_of : Query → Option ℕ
limit_of (One block limit) = limit
limit_of (Set op left right limit) = limit

-- the rows of a query that sees this many rows of its tables, before they are put into order
abbrev pub rows_of : Answering → CatalogDef → Query → View → List Answer
rows_of answer catalogue (One block limit) view = base_of answer catalogue 1 block view.first
rows_of answer catalogue (Set op left right limit) view =
    set_base op (base_of answer catalogue 1 left view.first) (base_of answer catalogue 2 right view.second)

-- the answer of a query
abbrev pub answer_of : Answering → CatalogDef → Query → View → List Answer
answer_of answer catalogue query view = cut (limit_of query) (stable (λ (row : Answer). row.score) (rows_of answer catalogue query view))

-- the worths of the terms of a block for these rows
abbrev pub worths_of : Answering → CatalogDef → Block → List ℕ → List ℕ
worths_of answer catalogue block rows = map (worth_of answer catalogue block rows) block.terms

-- numbers, with 0 behind them up to a length
abbrev pub padded : ℕ → List ℕ → List ℕ
padded zero numbers = []
padded (suc n) [] = 0 ∷ padded n []
padded (suc n) (number ∷ numbers) = number ∷ padded n numbers

-- the weights of the terms of a block, and their maxima
abbrev pub weights_of : Block → Weights
weights_of block = record { weight = padded 8 (map (λ (t : Term). t.weight) block.terms); max = padded 8 (map (λ (t : Term). t.max) block.terms) }

-- the mask of all terms of a block
abbrev pub all_terms : Block → ℕ
all_terms block = 2 ^ length block.terms - 1
