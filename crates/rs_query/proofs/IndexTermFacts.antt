-- An index for a term has the term's worths as its scores: the index asks the scorer the same for each row of its table.
use Rattle.std.proofs.Common.{◌≡◌, ◌∙◌, ℕ, ◌-◌, ◌&&◌, true, eqb, List, [], ◌∷◌, map, pos, refl, sym, ap, ap₂}
use Rattle.std.specs.Prelude.{Option, Some, option_and_then, slice_get, unwrap_or}
use Rattle.std.proofs.lemmas.Bool.{and_parts, eqb-true, false≢true}
use Rattle.std.proofs.lemmas.Bool.Decides.{Decides-int_eq}
use Rattle.std.proofs.lemmas.Slice.Eq.{bytes_eq-Decides}
use Rattle.rs_value.specs.declared.value.Value.{Value}
use Rattle.rs_value.specs.declared.value.Value.TheVariants as value
use Rattle.rs_table.specs.Relation.{Relation}
use Rattle.rs_expr.specs.Scores.{is_score, as_score}
use Rattle.rs_expr.specs.Scoring.{Answering}
use Rattle.rs_catalog.specs.Catalog.{CatalogDef}
use Rattle.rs_catalog.specs.Indexes.{arg_value, args_in, predicate_for, same_arg, same_args}
use Rattle.rs_catalog.specs.declared.index.BoundArg.{BoundArg}
use Rattle.rs_catalog.specs.declared.index.BoundArg.TheVariants as arg
use Rattle.rs_catalog.specs.declared.index.IndexDef.{IndexDef}
use Rattle.rs_query.specs.Answers.{clamped, predicate_at, worth_of}
use Rattle.rs_query.specs.Meaning.{argument_value}
use Rattle.rs_query.specs.Tables.{entry_table, row_number}
use Rattle.rs_query.specs.declared.block.Block.{Block}
use Rattle.rs_query.specs.declared.term.Term.{Term}
use Rattle.rs_query.proofs.AskFacts.{clamped-score}
use Rattle.rs_query.proofs.CellFacts.{IsOf-table}

-- arguments of a term that are those of an index have the same values for the rows that have this row at the entry
module _ (catalogue : CatalogDef) (block : Block) (entry : ℕ) (rows : List ℕ) (table : Relation) (values : List Value)
    (there : entry_table catalogue block entry ≡ Some table) (here : slice_get table.rows (row_number rows entry - 1) ≡ Some values) where
  argument-same : (a b : BoundArg) → same_arg entry a b ≡ true → argument_value catalogue block rows a ≡ arg_value values b
  argument-same (arg.Column e c) (arg.Column f d) same =
      let first = and_parts (eqb e entry) (eqb f 1 && eqb c d) same in
      let second = and_parts (eqb f 1) (eqb c d) first.1 in
      ap (λ n. argument_value catalogue block rows (arg.Column n c)) (eqb-true e entry first.0)
      ∙ (IsOf-table catalogue block (entry, c) table there).cell rows
      ∙ ap (λ (o : Option (List Value)). unwrap_or (option_and_then (λ (row : List Value). slice_get row c) o) (value.Int (pos 0))) here
      ∙ ap (λ n. unwrap_or (slice_get values n) (value.Int (pos 0))) (eqb-true c d second.1)
  argument-same (arg.Column e c) (arg.Int m) same = absurd (false≢true same)
  argument-same (arg.Column e c) (arg.Text u) same = absurd (false≢true same)
  argument-same (arg.Int n) (arg.Column f d) same = absurd (false≢true same)
  argument-same (arg.Int n) (arg.Int m) same = ap value.Int ((Decides-int_eq n m).0 same)
  argument-same (arg.Int n) (arg.Text u) same = absurd (false≢true same)
  argument-same (arg.Text t) (arg.Column f d) same = absurd (false≢true same)
  argument-same (arg.Text t) (arg.Int m) same = absurd (false≢true same)
  argument-same (arg.Text t) (arg.Text u) same = ap value.Text ((bytes_eq-Decides t u).0 same)

  arguments-same : (args others : List BoundArg) → same_args entry args others ≡ true → map (argument_value catalogue block rows) args ≡ args_in others values
  arguments-same [] [] same = refl
  arguments-same [] (b ∷ others) same = absurd (false≢true same)
  arguments-same (a ∷ args) [] same = absurd (false≢true same)
  arguments-same (a ∷ args) (b ∷ others) same =
      let parts = and_parts (same_arg entry a b) (same_args entry args others) same in
      ap₂ (λ (v : Value) (vs : List Value). v ∷ vs) (argument-same a b parts.0) (arguments-same args others parts.1)

module _ (answer : Answering) (catalogue : CatalogDef) (block : Block) (entry : ℕ) (term : Term) (def : IndexDef) (predicate_is : def.predicate ≡ term.predicate)
    (args_are : same_args entry term.args def.args ≡ true) where
  -- a number that the index got for a row, where it is a score, is what the term is worth for it
  pub index-worth : (rows : List ℕ) (table : Relation) (values : List Value) → entry_table catalogue block entry ≡ Some table → slice_get table.rows (row_number rows entry - 1) ≡ Some values
      → is_score (predicate_for catalogue def).max (answer (predicate_for catalogue def) (args_in def.args values)) ≡ true
      → as_score (answer (predicate_for catalogue def) (args_in def.args values)) ≡ worth_of answer catalogue block rows term
  index-worth rows table values there here score =
      clamped-score (predicate_for catalogue def).max (answer (predicate_for catalogue def) (args_in def.args values)) score
      ∙ ap (λ n. clamped (predicate_at catalogue n).max (answer (predicate_at catalogue n) (args_in def.args values))) predicate_is
      ∙ ap (λ (vs : List Value). clamped (predicate_at catalogue term.predicate).max (answer (predicate_at catalogue term.predicate) vs))
      (sym (arguments-same catalogue block entry rows table values there here term.args def.args args_are))
