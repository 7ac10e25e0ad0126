-- The runs of scripts with an INSERT, computed on examples.
use Rattle.std.proofs.Common.{ℤ, ◌+◌, false, List, [], ◌∷◌, Some, None, refl}
use Rattle.std.specs.Prelude.{ℕ, codes, pos, negsuc}
use Rattle.csv.proofs.OnLiterals.{csv_on_literals}
use Rattle.csv.specs.Writing.{escaped, fields_text, is_blank}
use Rattle.std.specs.Char.{encode_utf8}
use Rattle.std.specs.Fmt.{digits}
use Rattle.std.specs.Str.{chars, is_utf8}
use Rattle.rs_value.specs.declared.kind.Kind.TheVariants as kind
use Rattle.rs_value.specs.declared.value.Value.TheVariants as value
use Rattle.rs_expr.specs.Meaning.{value_of}
use Rattle.rs_expr.specs.Scoring.{Answering}
use Rattle.rs_expr.specs.declared.scorer.Call.{Call}
use Rattle.rs_syntax.specs.Syntax.{Command, CreateTable, CreatePredicate, CreateRankIndex, Insert}
use Rattle.rs_syntax.specs.Syntax as syntax
use Rattle.rs_syntax.specs.declared.name.Name.{Name}
use Rattle.rs_syntax.specs.declared.name.Arg.TheVariants as arg
use Rattle.rs_syntax.specs.declared.row.Cell.TheVariants as cell
use Rattle.rs_syntax.specs.declared.row.RowSyn.{RowSyn}
use Rattle.rs_syntax.specs.declared.select.Items.TheVariants as items
use Rattle.rs_typing.specs.declared.fault.Why.TheVariants as why
use Rattle.rs_events.specs.Events.{Fetch, Put, Score}
use Rattle.rs_outside.specs.Files.{Finds, found_in}
use Rattle.rs_statement.specs.Faults.{only}
use Rattle.rs_statement.specs.Session.{StatementsRun}
use Rattle.rs_statement.specs.declared.evaluating.Evaluating.TheVariants.{Plainly}
use Rattle.rs_statement.specs.declared.fault.Fault.TheVariants as fault
use Rattle.rs_statement.specs.declared.script_fault.ScriptFault.TheVariants as script

-- a name at a place
abbrev name_at : List ℕ → ℕ → Name
name_at text start = record { text = text; at = record { start = start; end = start + 1 } }

-- the columns v of the table, and x of the predicates
abbrev column_at : List ℕ → ℕ → syntax.Expression
column_at text start = syntax.Column (record { alias = None; column = name_at text start })

create_table : Command
create_table = CreateTable (name_at (codes "t") 13) ((name_at (codes "v") 16, kind.Int) ∷ []) (codes "f")

-- p and q give their argument, and have a MAX of 10
create_p : Command
create_p = CreatePredicate (name_at (codes "p") 50) ((name_at (codes "x") 53, kind.Int) ∷ []) (pos 10, record { start = 60; end = 62 }) None (column_at (codes "x") 66)

create_q : Command
create_q = CreatePredicate (name_at (codes "q") 70) ((name_at (codes "x") 73, kind.Int) ∷ []) (pos 10, record { start = 80; end = 82 }) None (column_at (codes "x") 86)

-- the rank index of this name, of the table's column by this predicate
abbrev create_index : List ℕ → List ℕ → Command
create_index name predicate =
    CreateRankIndex (name_at name 100) (name_at (codes "t") 105) (name_at predicate 112) (arg.Column (record { alias = None; column = name_at (codes "v") 115 }) ∷ [])
    (record { start = 112; end = 117 })

-- a row of one number, at a place
abbrev row_at : ℤ → ℕ → RowSyn
row_at number start = record { cells = cell.Int number (record { start = start + 1; end = start + 2 }) ∷ []; at = record { start = start; end = start + 3 } }

abbrev insert : List ℕ → List RowSyn → Command
insert table rows = Insert (name_at table 130) rows

-- SELECT v FROM t ORDER BY p(v)
select : Command
select = syntax.Ask (record {
  left = record {
    distinct = false;
    items = items.List (record { alias = None; column = name_at (codes "v") 207 } ∷ []);
    from = (name_at (codes "t") 214, None) ∷ [];
    filter = None;
  };
  right = None;
  terms = record {
    weight = (pos 1, record { start = 225; end = 226 });
    predicate = name_at (codes "p") 225;
    args = arg.Column (record { alias = None; column = name_at (codes "v") 227 }) ∷ [];
    at = record { start = 225; end = 229 };
  } ∷ [];
  limit = None;
})

-- every name has this file
finds : Finds
finds = found_in (λ name. Some (codes "v\n3\n10\n"))

answer : Answering
answer predicate args = value_of predicate.formula args

-- the call of a predicate for a number
call : List ℕ → ℤ → Call
call predicate n = record { predicate = predicate; args = value.Int n ∷ [] }

-- the calls of the index for the rows of the file, then those for the new rows, and then a query over all rows, in which a new row stands
-- behind an old one of the same score
joins : StatementsRun finds answer Plainly (create_table ∷ create_p ∷ create_index (codes "i") (codes "p") ∷ insert (codes "t") (row_at (pos 9) 150 ∷ row_at (pos 10) 155 ∷ []) ∷ select ∷ [])
    (record {
      events = Fetch (codes "f") ∷ Score (call (codes "p") (pos 3)) ∷ Score (call (codes "p") (pos 10)) ∷ Score (call (codes "p") (pos 9)) ∷ Score (call (codes "p") (pos 10))
          ∷ Score (call (codes "p") (pos 3)) ∷ Score (call (codes "p") (pos 10)) ∷ Score (call (codes "p") (pos 9)) ∷ Score (call (codes "p") (pos 10))
          ∷ Put (codes "1,10,10\n") ∷ Put (codes "2,10,10\n") ∷ Put (codes "3,9,9\n") ∷ Put (codes "4,3,3\n") ∷ [];
      fault = None;
    })
unfolding create_table create_p select finds answer call csv_on_literals digits chars is_utf8 encode_utf8 escaped fields_text is_blank
joins = (_, (_, (Some (codes "v\n3\n10\n"), refl, refl), refl), (_, (_, (_, refl, refl), (_, (_, (_, refl, refl), (_, (_, (_, refl, refl), (_, (_, (_, refl, refl), (_, refl, refl)), refl)), refl)), refl)), refl))

-- without an index no call is made
joins_in_silence : StatementsRun finds answer Plainly (create_table ∷ insert (codes "t") (row_at (pos 9) 150 ∷ []) ∷ []) (record { events = Fetch (codes "f") ∷ []; fault = None })
unfolding create_table finds answer csv_on_literals digits chars is_utf8 encode_utf8
joins_in_silence = (_, (_, (Some (codes "v\n3\n10\n"), refl, refl), refl), (_, (_, (_, refl, refl), (_, refl, refl)), refl))

-- the first index asks for both new rows before the second one asks for any; a bad score ends the run, with the number that the row would have had
goes_by_index : StatementsRun finds answer Plainly
    (create_table ∷ create_p ∷ create_q ∷ create_index (codes "i") (codes "p") ∷ create_index (codes "j") (codes "q") ∷ insert (codes "t") (row_at (pos 1) 150 ∷ row_at (pos 11) 155 ∷ []) ∷ select ∷ [])
    (record {
      events = Fetch (codes "f") ∷ Score (call (codes "p") (pos 3)) ∷ Score (call (codes "p") (pos 10)) ∷ Score (call (codes "q") (pos 3)) ∷ Score (call (codes "q") (pos 10))
          ∷ Score (call (codes "p") (pos 1)) ∷ Score (call (codes "p") (pos 11)) ∷ [];
      fault = Some (fault.BadScore (codes "p") (only 4) (pos 11) 10);
    })
unfolding create_table create_p create_q finds answer call csv_on_literals digits chars is_utf8 encode_utf8
goes_by_index = (_, (_, (Some (codes "v\n3\n10\n"), refl, refl), refl), (_, (_, (_, refl, refl), (_, (_, (_, refl, refl), (_, (_, (_, refl, refl), (_, (_, (_, refl, refl), (_, (_, (_, refl, refl), refl), refl)), refl)), refl)), refl)), refl))

-- names and types come before any call
refused_first : StatementsRun finds answer Plainly (create_table ∷ create_p ∷ create_index (codes "i") (codes "p") ∷ insert (codes "u") (row_at (negsuc 0) 150 ∷ []) ∷ [])
    (record {
      events = Fetch (codes "f") ∷ Score (call (codes "p") (pos 3)) ∷ Score (call (codes "p") (pos 10)) ∷ [];
      fault = Some (fault.Script (script.Bind why.NoTable 130));
    })
unfolding create_table create_p finds answer call csv_on_literals digits chars is_utf8 encode_utf8
refused_first = (_, (_, (Some (codes "v\n3\n10\n"), refl, refl), refl), (_, (_, (_, refl, refl), (_, (_, (_, refl, refl), (_, (_, (_, refl, refl), refl), refl)), refl)), refl))
