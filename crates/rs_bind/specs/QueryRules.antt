-- The rules of a query, as relations: what its terms, its LIMIT and the whole of it are, or with what they are refused.
use Rattle.std.specs.Prelude.{ℕ, ℤ, ◌≡◌, ◌≢◌, true, false, List, [], length, Option, Some, None}
use Rattle.rs_lex.specs.declared.token.Span.{Span}
use Rattle.rs_value.specs.declared.set_op.SetOp.{SetOp}
use Rattle.rs_syntax.specs.declared.select.TermSyn.{TermSyn}
use Rattle.rs_syntax.specs.Syntax as syntax
use Rattle.rs_catalog.specs.Catalog.{CatalogDef, number_named}
use Rattle.rs_catalog.specs.declared.index.BoundArg.{BoundArg}
use Rattle.rs_catalog.specs.declared.room.What.TheVariants as what
use Rattle.rs_query.specs.WellFormed.{argument_columns, entries_mask}
use Rattle.rs_query.specs.declared.query.Query.{Query}
use Rattle.rs_query.specs.declared.query.Query.TheVariants.{One, Set}
use Rattle.rs_query.specs.declared.term.Term.{Term}
use Rattle.rs_typing.specs.declared.fault.BindFault.{BindFault}
use Rattle.rs_typing.specs.declared.fault.BindFault.TheVariants.{At}
use Rattle.rs_typing.specs.declared.fault.Why.TheVariants.{DistinctNeedsOutput, LimitOf, NoPredicate, SetColumnsDiffer}
use Rattle.rs_bind.specs.ArgumentRules.{IsOutside, IsWithin, RefusedArgs, TypesArgs}
use Rattle.rs_bind.specs.BlockRules.{RefusedBlock, TypesBlock}
use Rattle.rs_bind.specs.Indexes.{Entries, params_in}
use Rattle.rs_bind.specs.InOrder.{Each, FirstRefused}
use Rattle.rs_bind.specs.Queries.{Unranked, agree, are_outputs, block_columns, first_item, max_in, most_rows, most_weight, output_names, needed_by, output_columns, with_terms}
use Rattle.rs_bind.specs.Sources.{Found, sources_of}

-- a term that there may be, whose weight lies in its limits and whose predicate has this number
pub record HasPredicate (catalogue : CatalogDef) (before : List Term) (term : TermSyn) (predicate : ℕ) : Type 0 where
  pub room : length before ≢ 8
  pub weight : ℕ
  pub is_weight : IsWithin 1 most_weight term.weight.0 weight
  pub is_predicate : number_named what.Predicate term.predicate.text catalogue ≡ Some predicate

module _ (catalogue : CatalogDef) (entries : Entries) (needed : Option (List Found)) where
  -- at most eight terms, each of a weight in its limits and a predicate that is there, with arguments for it, of which each column is an output column where
  -- it has to be
  pub record TypesTerm (before : List Term) (term : TermSyn) (made : Term) : Type 0 where
    pub room : length before ≢ 8
    pub weight : IsWithin 1 most_weight term.weight.0 made.weight
    pub predicate : number_named what.Predicate term.predicate.text catalogue ≡ Some made.predicate
    pub args : TypesArgs entries (params_in catalogue made.predicate) term.args made.args
    pub outputs : are_outputs needed (argument_columns made.args) ≡ true
    pub max : made.max ≡ max_in catalogue made.predicate
    pub entries_are : made.entries ≡ entries_mask (argument_columns made.args)

  pub data RefusedTerm (before : List Term) (term : TermSyn) : BindFault → Type 0 where
    too_many : length before ≡ 8 → RefusedTerm before term (At LimitOf term.at)
    wrong_weight : length before ≢ 8 → IsOutside 1 most_weight term.weight.0 → RefusedTerm before term (At LimitOf term.weight.1)
    no_predicate : (n : ℕ) → length before ≢ 8 → IsWithin 1 most_weight term.weight.0 n → number_named what.Predicate term.predicate.text catalogue ≡ None
        → RefusedTerm before term (At NoPredicate term.predicate.at)
    in_args : (predicate : ℕ) (fault : BindFault) → HasPredicate catalogue before term predicate
        → RefusedArgs entries (params_in catalogue predicate) term.args term.at fault → RefusedTerm before term fault
    no_output : (predicate : ℕ) (made : List BoundArg) → HasPredicate catalogue before term predicate
        → TypesArgs entries (params_in catalogue predicate) term.args made → are_outputs needed (argument_columns made) ≡ false
        → RefusedTerm before term (At DistinctNeedsOutput term.at)

  -- the terms of a query
  abbrev pub TypesTerms : List TermSyn → List Term → Type 0
  TypesTerms terms made = Each TypesTerm [] terms made

  abbrev pub RefusedTerms : List TermSyn → BindFault → Type 0
  RefusedTerms terms fault = FirstRefused TypesTerm RefusedTerm [] terms fault

-- LIMIT, where it is written
pub data TypesLimit : Option (ℤ × Span) → Option ℕ → Type 0 where
  no_limit : TypesLimit None None
  within : (written : ℤ) (at : Span) (n : ℕ) → IsWithin 0 most_rows written n → TypesLimit (Some (written, at)) (Some n)

pub data RefusedLimit : Option (ℤ × Span) → BindFault → Type 0 where
  outside : (written : ℤ) (at : Span) → IsOutside 0 most_rows written → RefusedLimit (Some (written, at)) (At LimitOf at)

module _ (catalogue : CatalogDef) where
  -- the columns that a term may name: those of the block; in a set query the output columns, by the names of those of the left block
  abbrev pub columns_in : Unranked → Entries
  columns_in block = block_columns (sources_of catalogue block.from)

  abbrev pub outputs_in : Unranked → Unranked → Entries
  outputs_in left block = output_columns (output_names catalogue left) block.items

  -- a query of one block: the block, the terms, and then LIMIT; or one of two blocks: the left one, the right one, whose output columns agree with its own,
  -- the terms, and then LIMIT
  pub data TypesQuery : syntax.Query → Query → Type 0 where
    one_block : (query : syntax.Query) (block : Unranked) (terms : List Term) (limit : Option ℕ) → query.right ≡ None → TypesBlock catalogue query.left block
        → TypesTerms catalogue (columns_in block) (needed_by block) query.terms terms → TypesLimit query.limit limit
        → TypesQuery query (One (with_terms block terms) limit)
    two_blocks : (query : syntax.Query) (op : SetOp) (second : syntax.Block) (left right : Unranked) (terms others : List Term) (limit : Option ℕ)
        → query.right ≡ Some (op, second) → TypesBlock catalogue query.left left → TypesBlock catalogue second right → agree left.items right.items ≡ true
        → TypesTerms catalogue (outputs_in left left) None query.terms terms → TypesTerms catalogue (outputs_in left right) None query.terms others
        → TypesLimit query.limit limit → TypesQuery query (Set op (with_terms left terms) (with_terms right others) limit)

  pub data RefusedQuery : syntax.Query → BindFault → Type 0 where
    in_left : (query : syntax.Query) (fault : BindFault) → RefusedBlock catalogue query.left fault → RefusedQuery query fault
    in_right : (query : syntax.Query) (op : SetOp) (second : syntax.Block) (left : Unranked) (fault : BindFault) → query.right ≡ Some (op, second)
        → TypesBlock catalogue query.left left → RefusedBlock catalogue second fault → RefusedQuery query fault
    differ : (query : syntax.Query) (op : SetOp) (second : syntax.Block) (left right : Unranked) → query.right ≡ Some (op, second)
        → TypesBlock catalogue query.left left → TypesBlock catalogue second right → agree left.items right.items ≡ false
        → RefusedQuery query (At SetColumnsDiffer (first_item second.items))
    in_terms : (query : syntax.Query) (block : Unranked) (fault : BindFault) → query.right ≡ None → TypesBlock catalogue query.left block
        → RefusedTerms catalogue (columns_in block) (needed_by block) query.terms fault → RefusedQuery query fault
    in_set_terms : (query : syntax.Query) (op : SetOp) (second : syntax.Block) (left right : Unranked) (fault : BindFault) → query.right ≡ Some (op, second)
        → TypesBlock catalogue query.left left → TypesBlock catalogue second right → agree left.items right.items ≡ true
        → RefusedTerms catalogue (outputs_in left left) None query.terms fault → RefusedQuery query fault
    in_limit : (query : syntax.Query) (block : Unranked) (terms : List Term) (fault : BindFault) → query.right ≡ None → TypesBlock catalogue query.left block
        → TypesTerms catalogue (columns_in block) (needed_by block) query.terms terms → RefusedLimit query.limit fault → RefusedQuery query fault
    in_set_limit : (query : syntax.Query) (op : SetOp) (second : syntax.Block) (left right : Unranked) (terms : List Term) (fault : BindFault)
        → query.right ≡ Some (op, second) → TypesBlock catalogue query.left left → TypesBlock catalogue second right → agree left.items right.items ≡ true
        → TypesTerms catalogue (outputs_in left left) None query.terms terms → RefusedLimit query.limit fault → RefusedQuery query fault
