-- The rules of the CREATE statements and of the number in FETCH, as relations: what they make, or with what they are refused.
use Rattle.std.specs.Prelude.{ℕ, ℤ, ◌≡◌, ◌≢◌, true, false, List, [], length, map, Option, Some, None}
use Rattle.std.specs.List.{list_any}
use Rattle.rs_value.specs.declared.kind.Kind.{Kind}
use Rattle.rs_lex.specs.declared.token.Span.{Span}
use Rattle.rs_syntax.specs.declared.name.Arg.{Arg}
use Rattle.rs_syntax.specs.declared.name.Name.{Name}
use Rattle.rs_syntax.specs.Syntax.{Expression}
use Rattle.rs_table.specs.Column.{Column, is_named}
use Rattle.rs_expr.specs.Formulas.{Formula}
use Rattle.rs_expr.specs.Predicates.{PredicateDef}
use Rattle.rs_catalog.specs.Catalog.{CatalogDef, number_named}
use Rattle.rs_catalog.specs.declared.index.IndexDef.{IndexDef}
use Rattle.rs_catalog.specs.declared.room.What.TheVariants as what
use Rattle.rs_typing.specs.declared.fault.BindFault.{BindFault}
use Rattle.rs_typing.specs.declared.fault.BindFault.TheVariants.{At}
use Rattle.rs_typing.specs.declared.fault.Why.TheVariants.{LimitOf, NameTwice, NoPredicate, NoTable, WrongKind}
use Rattle.rs_typing.specs.Parameters.{parameter_in}
use Rattle.rs_typing.specs.Rules.{Refused, Types}
use Rattle.rs_typing.specs.Typing.{Typed, Number, Words, Truth, span_of}
use Rattle.rs_bind.specs.ArgumentRules.{IsOutside, IsWithin, RefusedArgs, TypesArgs}
use Rattle.rs_bind.specs.Indexes.{Entries, columns_in, entry_column, params_in}
use Rattle.rs_bind.specs.InOrder.{Each, FirstRefused}

module _ (most : ℕ) where
  -- names with kinds: no more than this many, each one once
  pub record TypesName (before : List Column) (written : Name × Kind) (made : Column) : Type 0 where
    pub room : length before ≢ most
    pub free : list_any (is_named written.0.text) before ≡ false
    pub is : made ≡ (written.0.text, written.1)

  pub data RefusedName (before : List Column) (written : Name × Kind) : BindFault → Type 0 where
    too_many : length before ≡ most → RefusedName before written (At LimitOf written.0.at)
    twice : length before ≢ most → list_any (is_named written.0.text) before ≡ true → RefusedName before written (At NameTwice written.0.at)

  abbrev pub TypesNames : List (Name × Kind) → List Column → Type 0
  TypesNames written made = Each TypesName [] written made

  abbrev pub RefusedNames : List (Name × Kind) → BindFault → Type 0
  RefusedNames written fault = FirstRefused TypesName RefusedName [] written fault

-- COST, where it is written; else 1
pub data TypesCost : Option (ℤ × Span) → ℕ → Type 0 where
  no_cost : TypesCost None 1
  within : (written : ℤ) (at : Span) (n : ℕ) → IsWithin 0 65535 written n → TypesCost (Some (written, at)) n

pub data RefusedCost : Option (ℤ × Span) → BindFault → Type 0 where
  outside : (written : ℤ) (at : Span) → IsOutside 0 65535 written → RefusedCost (Some (written, at)) (At LimitOf at)

-- something that is no number
abbrev pub IsNoNumber : Typed → Type 0
IsNoNumber (Number f) = ⊥
IsNoNumber (Words side) = Unit {0}
IsNoNumber (Truth c) = Unit {0}

-- a predicate: its parameters, its MAX, its COST, and then its formula, which is a number over the parameters
pub data TypesPredicate (name : Name) (params : List (Name × Kind)) (max : ℤ × Span) (cost : Option (ℤ × Span)) (formula : Expression) : PredicateDef → Type 0 where
  made : (columns : List Column) (most price : ℕ) (body : Formula) → TypesNames 8 params columns → IsWithin 1 4294967295 max.0 most → TypesCost cost price
      → Types (parameter_in columns) formula (Number body)
      → TypesPredicate name params max cost formula (record { name = name.text; params = map (λ c. c.1) columns; max = most; cost = price; formula = body })

pub data RefusedPredicate (params : List (Name × Kind)) (max : ℤ × Span) (cost : Option (ℤ × Span)) (formula : Expression) : BindFault → Type 0 where
  in_params : (fault : BindFault) → RefusedNames 8 params fault → RefusedPredicate params max cost formula fault
  wrong_max : (columns : List Column) → TypesNames 8 params columns → IsOutside 1 4294967295 max.0 → RefusedPredicate params max cost formula (At LimitOf max.1)
  wrong_cost : (columns : List Column) (most : ℕ) (fault : BindFault) → TypesNames 8 params columns → IsWithin 1 4294967295 max.0 most → RefusedCost cost fault
      → RefusedPredicate params max cost formula fault
  in_formula : (columns : List Column) (most price : ℕ) (fault : BindFault) → TypesNames 8 params columns → IsWithin 1 4294967295 max.0 most
      → TypesCost cost price → Refused (parameter_in columns) formula fault → RefusedPredicate params max cost formula fault
  no_number : (columns : List Column) (most price : ℕ) (t : Typed) → TypesNames 8 params columns → IsWithin 1 4294967295 max.0 most → TypesCost cost price
      → Types (parameter_in columns) formula t → IsNoNumber t → RefusedPredicate params max cost formula (At WrongKind (span_of formula))

module _ (catalogue : CatalogDef) where
  -- the columns of a table, by its name or with no dot
  abbrev pub index_columns : Name → ℕ → Entries
  index_columns table number = entry_column table.text (columns_in catalogue number)

  -- a rank index: its table, its predicate, and then its arguments
  pub record TypesIndex (name table predicate : Name) (args : List Arg) (def : IndexDef) : Type 0 where
    pub is_named_so : def.name ≡ name.text
    pub is_table : number_named what.Table table.text catalogue ≡ Some def.table
    pub is_predicate : number_named what.Predicate predicate.text catalogue ≡ Some def.predicate
    pub are_args : TypesArgs (index_columns table def.table) (params_in catalogue def.predicate) args def.args

  pub data RefusedIndex (table predicate : Name) (args : List Arg) (at : Span) : BindFault → Type 0 where
    no_table : number_named what.Table table.text catalogue ≡ None → RefusedIndex table predicate args at (At NoTable table.at)
    no_predicate : (t : ℕ) → number_named what.Table table.text catalogue ≡ Some t → number_named what.Predicate predicate.text catalogue ≡ None
        → RefusedIndex table predicate args at (At NoPredicate predicate.at)
    in_args : (t p : ℕ) (fault : BindFault) → number_named what.Table table.text catalogue ≡ Some t → number_named what.Predicate predicate.text catalogue ≡ Some p
        → RefusedArgs (index_columns table t) (params_in catalogue p) args at fault → RefusedIndex table predicate args at fault
