-- The ids of the rows of a query rise.
use Rattle.std.proofs.Common.{◌≡◌, ℕ, Bool, true, false, ◌++◌, List, [], ◌∷◌, map, refl, sym, ap, ◌∙◌}
use Rattle.std.specs.Prelude.{not}
use Rattle.std.specs.List.{AllByRecursion, filter}
use Rattle.std.specs.Cmp.{nat_cmp_is}
use Rattle.std.specs.Cmp.Lexicographic.{slice_cmp}
use Rattle.std.specs.Ordering.{nat_cmp, ordering_then}
use Rattle.std.specs.declared.cmp.Ordering.TheVariants.{Less, Equal}
use Rattle.rs_order.specs.Climbing.{Climbs, Precedes}
use Rattle.rs_order.proofs.ClimbingFacts.{AllByRecursion-In}
use Rattle.rs_order.proofs.EachFacts.{each-filter}
use Rattle.rs_rank.specs.declared.answer.Answer.{Answer}
use Rattle.rs_rank.specs.declared.ids.Ids.{Ids}
use Rattle.rs_rank.specs.Keys.{ids_cmp}
use Rattle.rs_expr.specs.Scoring.{Answering}
use Rattle.rs_catalog.specs.Catalog.{CatalogDef}
use Rattle.rs_value.specs.declared.set_op.SetOp.{SetOp}
use Rattle.rs_value.specs.declared.set_op.SetOp.TheVariants.{UnionAll, Union, Intersect, Except}
use Rattle.rs_query.specs.Answers.{base_of, distinct_if, firsts, occurs_in, answer_row, rows_of, set_base}
use Rattle.rs_outputs.specs.Seen.{same_values}
use Rattle.rs_query.specs.Combinations.{combinations}
use Rattle.rs_query.specs.Tables.{all_entries}
use Rattle.rs_query.specs.Views.{View}
use Rattle.rs_query.specs.declared.block.Block.{Block}
use Rattle.rs_query.specs.declared.query.Query.{Query}
use Rattle.rs_query.specs.declared.query.Query.TheVariants.{One, Set}
use Rattle.rs_query.proofs.ChoiceFacts.{Climbs-combinations}
use Rattle.rs_order.proofs.ItemFacts.{Climbs-append, Climbs-filter}

abbrev pub ids_of : Answer → Ids
ids_of row = row.ids

-- rows whose ids rise
abbrev pub Rise : List Answer → Type 0
Rise rows = Climbs ids_cmp ids_of rows

-- what holds of each row holds of those that are kept
pub each-firsts : (P : Answer → Type 0) (rows : List Answer) → AllByRecursion P rows → AllByRecursion P (firsts rows)
each-firsts P [] h = tt
each-firsts P (row ∷ rows) h = (h.0, each-filter P (λ (other : Answer). not (same_values row.values other.values)) (firsts rows) (each-firsts P rows h.1))

Rise-firsts : (rows : List Answer) → Rise rows → Rise (firsts rows)
Rise-firsts [] h = tt
Rise-firsts (row ∷ rows) h = (
  each-filter (Precedes ids_cmp ids_of row) (λ (other : Answer). not (same_values row.values other.values)) (firsts rows)
      (each-firsts (Precedes ids_cmp ids_of row) rows h.0),
  Climbs-filter ids_cmp ids_of (λ (other : Answer). not (same_values row.values other.values)) (firsts rows) (Rise-firsts rows h.1),
)

-- a number is no less than itself, and no more
nat_cmp-same : (n : ℕ) → nat_cmp n n ≡ Equal
nat_cmp-same n = sym (nat_cmp_is n n Equal refl)

module _ (answer : Answering) (catalogue : CatalogDef) where
  abbrev row : Block → ℕ → List ℕ → Answer
  row block number rows = answer_row answer catalogue block number rows

  row-before : (block : Block) (number : ℕ) (xs ys : List ℕ) → slice_cmp nat_cmp xs ys ≡ Less → Precedes ids_cmp ids_of (row block number xs) (row block number ys)
  row-before block number xs ys h = ap (λ o. ordering_then o (slice_cmp nat_cmp xs ys)) (nat_cmp-same number) ∙ h

  each-row : (block : Block) (number : ℕ) (xs : List ℕ) (rest : List (List ℕ)) → AllByRecursion (Precedes (slice_cmp nat_cmp) (λ (rows : List ℕ). rows) xs) rest
      → AllByRecursion (Precedes ids_cmp ids_of (row block number xs)) (map (row block number) rest)
  each-row block number xs [] h = tt
  each-row block number xs (ys ∷ rest) h = (row-before block number xs ys h.0, each-row block number xs rest h.1)

  Rise-rows : (block : Block) (number : ℕ) (rows : List (List ℕ)) → Climbs (slice_cmp nat_cmp) (λ (r : List ℕ). r) rows → Rise (map (row block number) rows)
  Rise-rows block number [] h = tt
  Rise-rows block number (xs ∷ rows) h = (each-row block number xs rows h.0, Rise-rows block number rows h.1)

  -- all rows of a block have its number
  abbrev IsOf : ℕ → Answer → Type 0
  IsOf number r = r.ids.block ≡ number

  each-of : (block : Block) (number : ℕ) (rows : List (List ℕ)) → AllByRecursion (IsOf number) (map (row block number) rows)
  each-of block number [] = tt
  each-of block number (xs ∷ rows) = (refl, each-of block number rows)

  abbrev rows_in : Block → ℕ → List ℕ → List Answer
  rows_in block number sizes = map (row block number) (combinations catalogue block sizes (all_entries block))

  Rise-all : (block : Block) (number : ℕ) (sizes : List ℕ) → Rise (rows_in block number sizes)
  Rise-all block number sizes =
      Rise-rows block number (combinations catalogue block sizes (all_entries block)) (Climbs-combinations catalogue block sizes (all_entries block))

  pub Rise-base : (number : ℕ) (block : Block) (sizes : List ℕ) → Rise (base_of answer catalogue number block sizes)
  Rise-base number block sizes = go block.distinct where
    go : (distinct : Bool) → Rise (distinct_if distinct (rows_in block number sizes))
    go true = Rise-firsts (rows_in block number sizes) (Rise-all block number sizes)
    go false = Rise-all block number sizes

  base-of : (number : ℕ) (block : Block) (sizes : List ℕ) → AllByRecursion (IsOf number) (base_of answer catalogue number block sizes)
  base-of number block sizes = go block.distinct where
    go : (distinct : Bool) → AllByRecursion (IsOf number) (distinct_if distinct (rows_in block number sizes))
    go true = each-firsts (IsOf number) (rows_in block number sizes) (each-of block number (combinations catalogue block sizes (all_entries block)))
    go false = each-of block number (combinations catalogue block sizes (all_entries block))

  -- each row of the left block comes before each row of the right one
  left-before : (v w : Answer) → v.ids.block ≡ 1 → w.ids.block ≡ 2 → Precedes ids_cmp ids_of v w
  left-before v w first second =
      ap (λ b. ordering_then (nat_cmp b w.ids.block) (slice_cmp nat_cmp v.ids.rows w.ids.rows)) first
      ∙ ap (λ b. ordering_then (nat_cmp 1 b) (slice_cmp nat_cmp v.ids.rows w.ids.rows)) second

  module _ (left right : Block) (view : View) where
    abbrev lefts : List Answer
    lefts = base_of answer catalogue 1 left view.first

    abbrev rights : List Answer
    rights = base_of answer catalogue 2 right view.second

    Rise-both : Rise (lefts ++ rights)
    Rise-both =
        Climbs-append ids_cmp ids_of lefts rights (Rise-base 1 left view.first) (Rise-base 2 right view.second)
        (λ v w h k. left-before v w (AllByRecursion-In (IsOf 1) lefts (base-of 1 left view.first) v h)
        (AllByRecursion-In (IsOf 2) rights (base-of 2 right view.second) w k))

    Rise-set : (op : SetOp) → Rise (set_base op lefts rights)
    Rise-set UnionAll = Rise-both
    Rise-set Union = Rise-firsts (lefts ++ rights) Rise-both
    Rise-set Intersect = Rise-firsts (filter (occurs_in rights) lefts) (Climbs-filter ids_cmp ids_of (occurs_in rights) lefts (Rise-base 1 left view.first))
    Rise-set Except =
        Rise-firsts (filter (λ r. not (occurs_in rights r)) lefts)
        (Climbs-filter ids_cmp ids_of (λ r. not (occurs_in rights r)) lefts (Rise-base 1 left view.first))

  pub Rise-query : (query : Query) (view : View) → Rise (rows_of answer catalogue query view)
  Rise-query (One block limit) view = Rise-base 1 block view.first
  Rise-query (Set op left right limit) view = Rise-set left right view op
