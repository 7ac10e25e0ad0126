-- The WHEN parts of a CASE as the parser holds them.
use Rattle.std.specs.Prelude.{ℕ, List, [], ◌∷◌, map}
use Rattle.rs_grammar.specs.Grammar.{Tree}
use Rattle.rs_syntax.specs.Expressions.{condition_of, result_of}
use Rattle.rs_syntax.specs.Syntax.{Expression, Case, expression_of}
use Rattle.rs_syntax.specs.Trees.{items_of, span, starts_at}
use Rattle.rs_syntax.specs.declared.parser.cases.When.{When}

-- a WHEN part without where it lies in memory
pub record Branch : Type 0 where
  pub from : ℕ
  pub condition : Expression
  pub outcome : Expression

abbrev pub when_view : When → Branch
when_view w = record { from = w.from; condition = expression_of w.condition; outcome = expression_of w.outcome }

abbrev pub when_of : Tree → Branch
when_of t = record { from = starts_at t; condition = condition_of t; outcome = result_of t }

abbrev pub whens_of : Tree → List Branch
whens_of t = map when_of (items_of t)

-- each part up to a place with the next one as its rest
abbrev pub cases_in : ℕ → List Branch → Expression → Expression
cases_in to [] otherwise = otherwise
cases_in to (w ∷ ws) otherwise = Case w.condition w.outcome (cases_in to ws otherwise) (span w.from to)
