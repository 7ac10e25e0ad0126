-- Rank indexes and their first broken rules, computed on literals: the statements CREATE RANK INDEX i ON t (..).
use Rattle.std.proofs.Common.{◌≡◌, ℕ, List, [], ◌∷◌, refl}
use Rattle.std.specs.Prelude.{pos, negsuc, Some, None, Result, Ok, Err, codes}
use Rattle.rs_value.specs.declared.kind.Kind.{Kind}
use Rattle.rs_value.specs.declared.kind.Kind.TheVariants as kind
use Rattle.rs_lex.specs.declared.token.Span.{Span}
use Rattle.rs_syntax.specs.declared.name.Arg.{Arg}
use Rattle.rs_syntax.specs.declared.name.Arg.TheVariants as arg
use Rattle.rs_syntax.specs.declared.name.Name.{Name}
use Rattle.rs_syntax.specs.Syntax.{CreateRankIndex}
use Rattle.rs_table.specs.Column.{Column}
use Rattle.rs_expr.specs.Formulas.{Constant}
use Rattle.rs_expr.specs.Predicates.{PredicateDef}
use Rattle.rs_catalog.specs.Catalog.{CatalogDef, NamedTable}
use Rattle.rs_catalog.specs.declared.index.BoundArg.{BoundArg}
use Rattle.rs_catalog.specs.declared.index.BoundArg.TheVariants as bound
use Rattle.rs_catalog.specs.declared.index.IndexDef.{IndexDef}
use Rattle.rs_typing.specs.declared.fault.BindFault.{BindFault}
use Rattle.rs_typing.specs.declared.fault.BindFault.TheVariants.{At}
use Rattle.rs_typing.specs.declared.fault.Why.{Why}
use Rattle.rs_typing.specs.declared.fault.Why.TheVariants.{ConstantTerm, NoColumn, NoPredicate, NoTable, WrongCount, WrongKind}
use Rattle.rs_bind.specs.Indexes.{index_def_of}

abbrev table : List ℕ → List Column → NamedTable
table name schema = record { name = name; table = record { schema = schema; rows = [] } }

abbrev predicate : List ℕ → List Kind → PredicateDef
predicate name params = record { name = name; params = params; max = 9; cost = 1; formula = Constant (pos 1) }

-- the tables u (x TEXT) and t (x INT, y INT, s TEXT), and the predicates p (v INT), near (a INT, b INT), name (s TEXT) and tag (v INT, s TEXT)
abbrev made : CatalogDef
made = record {
  tables = table (codes "u") ((codes "x", kind.Text) ∷ []) ∷ table (codes "t") ((codes "x", kind.Int) ∷ (codes "y", kind.Int) ∷ (codes "s", kind.Text) ∷ []) ∷ [];
  predicates = predicate (codes "p") (kind.Int ∷ []) ∷ predicate (codes "near") (kind.Int ∷ kind.Int ∷ []) ∷ predicate (codes "name") (kind.Text ∷ [])
      ∷ predicate (codes "tag") (kind.Int ∷ kind.Text ∷ []) ∷ [];
  indexes = [];
}

abbrev span : ℕ → ℕ → Span
span from to = record { start = from; end = to }

abbrev word : List ℕ → ℕ → ℕ → Name
word text from to = record { text = text; at = span from to }

-- a column, without an alias and with one
abbrev plain : List ℕ → ℕ → ℕ → Arg
plain text from to = arg.Column (record { alias = None; column = word text from to })

abbrev dotted : List ℕ → ℕ → ℕ → List ℕ → ℕ → ℕ → Arg
dotted alias from to text at end = arg.Column (record { alias = Some (word alias from to); column = word text at end })

-- CREATE RANK INDEX i ON table (predicate(args)): the name of a table of one letter stands at 23, that of the predicate at 26
abbrev index : List ℕ → Name → List Arg → ℕ → Result IndexDef BindFault
index on called args end = index_def_of made (CreateRankIndex (word (codes "i") 18 19) (word on 23 24) called args (span 26 end))

abbrev is_of : ℕ → List BoundArg → Result IndexDef BindFault
is_of predicate args = Ok (record { name = codes "i"; table = 1; predicate = predicate; args = args })

abbrev refused : Why → ℕ → ℕ → Result IndexDef BindFault
refused why from to = Err (At why (span from to))

-- a column, without an alias and with one, and constants: p(x), p(t.y), near(x, 3), near(-3, y), name(s), tag(x, 'a')
column : index (codes "t") (word (codes "p") 26 27) (plain (codes "x") 28 29 ∷ []) 30 ≡ is_of 0 (bound.Column 1 0 ∷ [])
column = refl

column_of_alias : index (codes "t") (word (codes "p") 26 27) (dotted (codes "t") 28 29 (codes "y") 30 31 ∷ []) 32 ≡ is_of 0 (bound.Column 1 1 ∷ [])
column_of_alias = refl

number : index (codes "t") (word (codes "near") 26 30) (plain (codes "x") 31 32 ∷ arg.Int (pos 3) (span 34 35) ∷ []) 36
    ≡ is_of 1 (bound.Column 1 0 ∷ bound.Int (pos 3) ∷ [])
number = refl

negative_number : index (codes "t") (word (codes "near") 26 30) (arg.Int (negsuc 2) (span 31 33) ∷ plain (codes "y") 35 36 ∷ []) 37
    ≡ is_of 1 (bound.Int (negsuc 2) ∷ bound.Column 1 1 ∷ [])
negative_number = refl

text_column : index (codes "t") (word (codes "name") 26 30) (plain (codes "s") 31 32 ∷ []) 33 ≡ is_of 2 (bound.Column 1 2 ∷ [])
text_column = refl

text : index (codes "t") (word (codes "tag") 26 29) (plain (codes "x") 30 31 ∷ arg.Text (codes "a") (span 33 36) ∷ []) 37
    ≡ is_of 3 (bound.Column 1 0 ∷ bound.Text (codes "a") ∷ [])
text = refl

-- no such table, which is looked at before the predicate: w (q(3))
no_table : index (codes "w") (word (codes "q") 26 27) (arg.Int (pos 3) (span 28 29) ∷ []) 30 ≡ refused NoTable 23 24
no_table = refl

-- no such predicate: q(3)
no_predicate : index (codes "t") (word (codes "q") 26 27) (arg.Int (pos 3) (span 28 29) ∷ []) 30 ≡ refused NoPredicate 26 27
no_predicate = refl

-- too many arguments and too few, which is looked at before the arguments: p(x, z), near(z)
too_many : index (codes "t") (word (codes "p") 26 27) (plain (codes "x") 28 29 ∷ plain (codes "z") 31 32 ∷ []) 33 ≡ refused WrongCount 26 33
too_many = refl

too_few : index (codes "t") (word (codes "near") 26 30) (plain (codes "z") 31 32 ∷ []) 33 ≡ refused WrongCount 26 33
too_few = refl

-- an unknown column, and those of another alias: p(z), p(t.z), p(u.x), near(x, T.y)
no_column : index (codes "t") (word (codes "p") 26 27) (plain (codes "z") 28 29 ∷ []) 30 ≡ refused NoColumn 28 29
no_column = refl

no_column_of_alias : index (codes "t") (word (codes "p") 26 27) (dotted (codes "t") 28 29 (codes "z") 30 31 ∷ []) 32 ≡ refused NoColumn 28 31
no_column_of_alias = refl

other_alias : index (codes "t") (word (codes "p") 26 27) (dotted (codes "u") 28 29 (codes "x") 30 31 ∷ []) 32 ≡ refused NoColumn 28 31
other_alias = refl

alias_in_other_case : index (codes "t") (word (codes "near") 26 30) (plain (codes "x") 31 32 ∷ dotted (codes "T") 34 35 (codes "y") 36 37 ∷ []) 38
    ≡ refused NoColumn 34 37
alias_in_other_case = refl

-- a text for a number, a number for a text, one with a sign, and columns of the other kind: p('a'), name(3), name(-3), p(s), p(t.s), name(x)
text_for_number : index (codes "t") (word (codes "p") 26 27) (arg.Text (codes "a") (span 28 31) ∷ []) 32 ≡ refused WrongKind 28 31
text_for_number = refl

number_for_text : index (codes "t") (word (codes "name") 26 30) (arg.Int (pos 3) (span 31 32) ∷ []) 33 ≡ refused WrongKind 31 32
number_for_text = refl

negative_number_for_text : index (codes "t") (word (codes "name") 26 30) (arg.Int (negsuc 2) (span 31 33) ∷ []) 34 ≡ refused WrongKind 31 33
negative_number_for_text = refl

text_column_for_number : index (codes "t") (word (codes "p") 26 27) (plain (codes "s") 28 29 ∷ []) 30 ≡ refused WrongKind 28 29
text_column_for_number = refl

column_of_alias_for_number : index (codes "t") (word (codes "p") 26 27) (dotted (codes "t") 28 29 (codes "s") 30 31 ∷ []) 32 ≡ refused WrongKind 28 31
column_of_alias_for_number = refl

number_column_for_text : index (codes "t") (word (codes "name") 26 30) (plain (codes "x") 31 32 ∷ []) 33 ≡ refused WrongKind 31 32
number_column_for_text = refl

-- no column among the arguments: p(3)
constant : index (codes "t") (word (codes "p") 26 27) (arg.Int (pos 3) (span 28 29) ∷ []) 30 ≡ refused ConstantTerm 26 30
constant = refl

-- of two faults that of the argument to the left, and that of an argument before that of the whole term: near(z, 'a'), near('a', z), near(3, 'a')
left_column : index (codes "t") (word (codes "near") 26 30) (plain (codes "z") 31 32 ∷ arg.Text (codes "a") (span 34 37) ∷ []) 38 ≡ refused NoColumn 31 32
left_column = refl

left_text : index (codes "t") (word (codes "near") 26 30) (arg.Text (codes "a") (span 31 34) ∷ plain (codes "z") 36 37 ∷ []) 38 ≡ refused WrongKind 31 34
left_text = refl

argument_first : index (codes "t") (word (codes "near") 26 30) (arg.Int (pos 3) (span 31 32) ∷ arg.Text (codes "a") (span 34 37) ∷ []) 38 ≡ refused WrongKind 34 37
argument_first = refl
