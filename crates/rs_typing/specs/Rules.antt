-- Typing as a relation: an expression is typed by the rules, or refused by the first one that fails.
use Rattle.std.specs.Prelude.{◌≡◌, List, [], ◌∷◌, ◌++◌, Ok, Err}
use Rattle.rs_syntax.specs.Syntax.{Expression}
use Rattle.rs_typing.specs.declared.fault.BindFault.{BindFault}
use Rattle.rs_typing.specs.Typing.{Scope, Typed, parts_of, rule}

mutual
  -- an expression is this, where its parts are such that its own rule says so
  pub data Types (scope : Scope) : Expression → Typed → Type 0 where
    by_rule : (x : Expression) (parts : List Typed) (t : Typed) → TypesEach scope (parts_of x) parts → rule scope x parts ≡ Ok t → Types scope x t

  pub data TypesEach (scope : Scope) : List Expression → List Typed → Type 0 where
    none : TypesEach scope [] []
    and : (x : Expression) (xs : List Expression) (t : Typed) (ts : List Typed) → Types scope x t → TypesEach scope xs ts → TypesEach scope (x ∷ xs) (t ∷ ts)

-- an expression is refused with this fault: in a part, where all parts before it are typed; or by its own rule, where all parts are
pub data Refused (scope : Scope) : Expression → BindFault → Type 0 where
  in_part : (x part : Expression) (before behind : List Expression) (typed : List Typed) (fault : BindFault) → parts_of x ≡ (before ++ part ∷ behind)
      → TypesEach scope before typed → Refused scope part fault → Refused scope x fault
  by_rule : (x : Expression) (parts : List Typed) (fault : BindFault) → TypesEach scope (parts_of x) parts → rule scope x parts ≡ Err fault → Refused scope x fault
