-- The rules of written numbers and of arguments, as relations: what they are, or with what they are refused.
use Rattle.std.specs.Prelude.{ℕ, ℤ, pos, ◌≡◌, ◌≢◌, ◌≤◌, true, false, List, [], length, Ok, Err}
use Rattle.std.specs.List.{list_any, zip}
use Rattle.rs_value.specs.declared.kind.Kind.{Kind}
use Rattle.rs_value.specs.declared.kind.Kind.TheVariants as kind
use Rattle.rs_lex.specs.declared.token.Span.{Span}
use Rattle.rs_syntax.specs.declared.name.Arg.{Arg}
use Rattle.rs_syntax.specs.declared.name.Arg.TheVariants as arg
use Rattle.rs_syntax.specs.declared.name.ColRef.{ColRef}
use Rattle.rs_catalog.specs.declared.index.BoundArg.{BoundArg}
use Rattle.rs_catalog.specs.declared.index.BoundArg.TheVariants as bound
use Rattle.rs_typing.specs.declared.fault.BindFault.{BindFault}
use Rattle.rs_typing.specs.declared.fault.BindFault.TheVariants.{At}
use Rattle.rs_typing.specs.declared.fault.Why.TheVariants.{ConstantTerm, WrongCount, WrongKind}
use Rattle.rs_typing.specs.Typing.{span_of_column}
use Rattle.rs_bind.specs.Indexes.{Entries, is_column}
use Rattle.rs_bind.specs.InOrder.{Each, FirstRefused}

-- a number that is written, where it lies within limits
pub record IsWithin (least most : ℕ) (written : ℤ) (n : ℕ) : Type 0 where
  pub is : written ≡ pos n
  pub no_less : least ≤ n
  pub no_more : n ≤ most

-- a number that lies outside them
abbrev pub IsOutside : ℕ → ℕ → ℤ → Type 0
IsOutside least most written = (n : ℕ) → IsWithin least most written n → ⊥

module _ (entries : Entries) where
  -- an argument for a parameter of a kind: a column, a number or a text of that kind
  pub data TypesArg (before : List BoundArg) : Kind × Arg → BoundArg → Type 0 where
    from_column : (wanted : Kind) (c : ColRef) (found : BoundArg) → entries c ≡ Ok (found, wanted) → TypesArg before (wanted, arg.Column c) found
    from_number : (n : ℤ) (at : Span) → TypesArg before (kind.Int, arg.Int n at) (bound.Int n)
    from_text : (t : List ℕ) (at : Span) → TypesArg before (kind.Text, arg.Text t at) (bound.Text t)

  pub data RefusedArg (before : List BoundArg) : Kind × Arg → BindFault → Type 0 where
    no_column : (wanted : Kind) (c : ColRef) (fault : BindFault) → entries c ≡ Err fault → RefusedArg before (wanted, arg.Column c) fault
    wrong_column : (wanted own : Kind) (c : ColRef) (found : BoundArg) → entries c ≡ Ok (found, own) → own ≢ wanted
        → RefusedArg before (wanted, arg.Column c) (At WrongKind (span_of_column c))
    wrong_number : (n : ℤ) (at : Span) → RefusedArg before (kind.Text, arg.Int n at) (At WrongKind at)
    wrong_text : (t : List ℕ) (at : Span) → RefusedArg before (kind.Int, arg.Text t at) (At WrongKind at)

  -- the arguments of a predicate: as many as parameters, each one for its parameter, and some column among them
  pub record TypesArgs (params : List Kind) (args : List Arg) (made : List BoundArg) : Type 0 where
    pub count : length args ≡ length params
    pub each : Each TypesArg [] (zip params args) made
    pub column : list_any is_column made ≡ true

  pub data RefusedArgs (params : List Kind) (args : List Arg) (at : Span) : BindFault → Type 0 where
    wrong_count : length args ≢ length params → RefusedArgs params args at (At WrongCount at)
    in_arg : (fault : BindFault) → length args ≡ length params → FirstRefused TypesArg RefusedArg [] (zip params args) fault → RefusedArgs params args at fault
    constant : (made : List BoundArg) → length args ≡ length params → Each TypesArg [] (zip params args) made → list_any is_column made ≡ false
        → RefusedArgs params args at (At ConstantTerm at)
