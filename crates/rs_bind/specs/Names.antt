-- Names with kinds: the columns of a table, and the parameters of a predicate.
use Rattle.std.specs.Prelude.{ℕ, ℤ, pos, negsuc, nat_le, ◌==◌, ◌&&◌, List, [], ◌∷◌, length, Result, Ok, Err, if◌then◌else◌}
use Rattle.std.specs.List.{list_any}
use Rattle.std.specs.Str.{bytes_eq}
use Rattle.rs_value.specs.declared.kind.Kind.{Kind}
use Rattle.rs_lex.specs.declared.token.Span.{Span}
use Rattle.rs_syntax.specs.declared.name.Name.{Name}
use Rattle.rs_table.specs.Column.{Column}
use Rattle.rs_value.specs.Results.{◌>>=◌}
use Rattle.rs_typing.specs.declared.fault.BindFault.{BindFault}
use Rattle.rs_typing.specs.declared.fault.BindFault.TheVariants.{At}
use Rattle.rs_typing.specs.declared.fault.Why.TheVariants.{LimitOf, NameTwice}

-- names with kinds behind these names: at each, from left to right, there may be no more, and it may not stand before
abbrev pub named_behind : ℕ → List (List ℕ) → List (Name × Kind) → Result (List Column) BindFault
named_behind most before [] = Ok []
named_behind most before (c ∷ rest) =
    if length before == most then Err (At LimitOf c.0.at)
    else if list_any (λ name. bytes_eq name c.0.text) before then Err (At NameTwice c.0.at)
    else (do
      columns ← named_behind most (c.0.text ∷ before) rest
      Ok ((c.0.text, c.1) ∷ columns))

abbrev pub named : ℕ → List (Name × Kind) → Result (List Column) BindFault
named most columns = named_behind most [] columns

-- the most columns of a table
abbrev pub most_columns : ℕ
most_columns = 64

-- the columns of a table
abbrev pub columns_of : List (Name × Kind) → Result (List Column) BindFault
columns_of columns = named most_columns columns

-- a number from `least` to `most`
abbrev pub number_in : ℕ → ℕ → ℤ × Span → Result ℕ BindFault
number_in least most number = within number.0 where
  within : ℤ → Result ℕ BindFault
  within (pos n) = if nat_le least n && nat_le n most then Ok n else Err (At LimitOf number.1)
  within (negsuc n) = Err (At LimitOf number.1)
