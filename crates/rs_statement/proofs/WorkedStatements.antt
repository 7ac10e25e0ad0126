-- The runs of statements, computed on examples.
use Rattle.std.proofs.Common.{ℕ, ℤ, ◌≡◌, ◌+◌, subst, true, false, List, [], ◌∷◌, Some, None, refl}
use Rattle.std.specs.Prelude.{Option, Result, Ok, Err, codes, pos}
use Rattle.csv.proofs.OnLiterals.{csv_on_literals}
use Rattle.csv.specs.Writing.{escaped, fields_text, is_blank}
use Rattle.std.specs.Fmt.{digits}
use Rattle.rand_core.specs.Pcg32Seed.{pcg32_seed}
use Rattle.rand_core.specs.Steps.{first_words, u32_at, word_bytes}
use Rattle.std.specs.Str.{chars, is_utf8}
use Rattle.std.specs.Char.{encode_utf8}
use Rattle.rs_value.specs.declared.kind.Kind.TheVariants as kind
use Rattle.rs_value.specs.declared.value.Value.TheVariants as value
use Rattle.rs_outside.specs.declared.files.FetchFault.TheVariants as fetch
use Rattle.rs_table.specs.declared.fault.TableFault.TheVariants as table
use Rattle.rs_expr.specs.Meaning.{value_of}
use Rattle.rs_expr.specs.declared.scorer.Call.{Call}
use Rattle.rs_syntax.specs.Syntax.{Command, CreateTable, CreatePredicate, CreateRankIndex, Close}
use Rattle.rs_syntax.specs.Syntax as syntax
use Rattle.rs_syntax.specs.declared.name.Name.{Name}
use Rattle.rs_syntax.specs.declared.name.Arg.TheVariants as arg
use Rattle.rs_syntax.specs.declared.select.Items.TheVariants as items
use Rattle.rs_catalog.specs.declared.room.RoomFault.TheVariants as room
use Rattle.rs_typing.specs.declared.fault.Why.TheVariants as why
use Rattle.rs_catalog.specs.Catalog.{CatalogDef, empty}
use Rattle.rs_bind.specs.Indexes.{index_def_of}
use Rattle.rs_bind.specs.Queries.{bound_query}
use Rattle.rs_typing.proofs.ResultFacts.{same_Ok}
use Rattle.rs_query.specs.Answers.{answer_of}
use Rattle.rs_query.specs.Views.{all_rows}
use Rattle.rs_query.specs.declared.query.Query.{Query}
use Rattle.rs_plan.specs.Counts.{counts_of_plan}
use Rattle.rs_plan.specs.Trees.{JoinOperator, Nested, Rank, RankScan, SeqScan}
use Rattle.rs_exec.specs.Asking.{world_of}
use Rattle.rs_enum.specs.Texts.{text_of}
use Rattle.rs_sample.specs.Samples.{samples_from}
use Rattle.rs_sample.specs.Taking.{taken_from}
use Rattle.rs_statement.specs.declared.fault.Fault.{Fault}
use Rattle.rs_statement.specs.declared.fault.Fault.TheVariants as fault
use Rattle.rs_statement.specs.declared.fault.SessionFault.TheVariants as session
use Rattle.rs_statement.specs.declared.script_fault.ScriptFault.TheVariants as script
use Rattle.rs_statement.specs.Faults.{only}
use Rattle.rs_expr.specs.Scoring.{Answering}
use Rattle.rs_events.specs.Events.{Fetch, Put, Score}
use Rattle.rs_outside.specs.Files.{Finds, found_in}
use Rattle.rs_statement.specs.declared.evaluating.Evaluating.TheVariants.{Plainly, Planned}
use Rattle.rs_statement.specs.declared.sampling.Sampling.TheVariants.{ByGuesses, ByScores}
use Rattle.rs_statement.specs.Lines.{rank_lines}
use Rattle.rs_statement.specs.Planned.{asks_in_all, cards_for, planned_step}
use Rattle.rs_statement.specs.Sampled.{sample_step}
use Rattle.rs_events.specs.Sequence.{silent}
use Rattle.rs_statement.specs.Statements.{index_step, or_bind_fault, predicate_outcome, refused_or, table_step}
use Rattle.rs_statement.specs.Session.{StatementsRun}

-- a name at a place
abbrev name_at : List ℕ → ℕ → Name
name_at text start = record { text = text; at = record { start = start; end = start + 1 } }

-- CREATE TABLE t (v INTEGER) FROM 'f'
create_table : Command
create_table = CreateTable (name_at (codes "t") 13) ((name_at (codes "v") 16, kind.Int) ∷ []) (codes "f")

-- CREATE RANKING PREDICATE p (x INTEGER) MAX 10 AS x
create_predicate : Command
create_predicate = CreatePredicate (name_at (codes "p") 50) ((name_at (codes "x") 53, kind.Int) ∷ []) (pos 10, record { start = 60; end = 62 }) None
    (syntax.Column (record { alias = None; column = name_at (codes "x") 66 }))

-- CREATE RANK INDEX i ON t USING p (v)
create_index : Command
create_index = CreateRankIndex (name_at (codes "i") 80) (name_at (codes "t") 85) (name_at (codes "p") 92)
    (arg.Column (record { alias = None; column = name_at (codes "v") 95 }) ∷ []) (record { start = 92; end = 97 })

-- every name has a file of these bytes, or none has one
finds : Option (List ℕ) → Finds
finds there = found_in (λ name. there)

answer : Answering
answer predicate args = value_of predicate.formula args

-- the call of p for a number
call : ℤ → Call
call n = record { predicate = codes "p"; args = value.Int n ∷ [] }

-- the table, the predicate and the index are made, and each row is asked for, in their order
makes_all : StatementsRun (finds (Some (codes "v\n3\n10\n"))) answer Plainly (create_table ∷ create_predicate ∷ create_index ∷ [])
    (record { events = Fetch (codes "f") ∷ Score (call (pos 3)) ∷ Score (call (pos 10)) ∷ []; fault = None })
unfolding create_table create_predicate create_index finds answer call csv_on_literals digits chars is_utf8 encode_utf8
makes_all = (_, (_, (Some (codes "v\n3\n10\n"), refl, refl), refl), (_, (_, (_, refl, refl), (_, (_, (_, refl, refl), (_, refl, refl)), refl)), refl))

-- SELECT v FROM t ORDER BY p(v), from byte 100 on
select : syntax.Query
select = record {
  left = record {
    distinct = false;
    items = items.List (record { alias = None; column = name_at (codes "v") 107 } ∷ []);
    from = (name_at (codes "t") 114, None) ∷ [];
    filter = None;
  };
  right = None;
  terms = record {
    weight = (pos 1, record { start = 125; end = 126 });
    predicate = name_at (codes "p") 125;
    args = arg.Column (record { alias = None; column = name_at (codes "v") 127 }) ∷ [];
    at = record { start = 125; end = 129 };
  } ∷ [];
  limit = None;
}

-- each row is asked for, and then the rows are put, each as one line, the best first
prints_a_query : StatementsRun (finds (Some (codes "v\n3\n10\n"))) answer Plainly (create_table ∷ create_predicate ∷ syntax.Ask select ∷ [])
    (record { events = Fetch (codes "f") ∷ Score (call (pos 3)) ∷ Score (call (pos 10)) ∷ Put (codes "1,10,10\n") ∷ Put (codes "2,3,3\n") ∷ []; fault = None })
unfolding create_table create_predicate select finds answer call csv_on_literals digits chars is_utf8 encode_utf8 escaped fields_text is_blank
prints_a_query = (_, (_, (Some (codes "v\n3\n10\n"), refl, refl), refl), (_, (_, (_, refl, refl), (_, (_, (_, refl, refl), (_, refl, refl)), refl)), refl))

-- a number that is no score ends the run before any row of the query is put
prints_nothing : StatementsRun (finds (Some (codes "v\n3\n40\n5\n"))) answer Plainly (create_table ∷ create_predicate ∷ syntax.Ask select ∷ create_table ∷ [])
    (record { events = Fetch (codes "f") ∷ Score (call (pos 3)) ∷ Score (call (pos 40)) ∷ []; fault = Some (fault.BadScore (codes "p") (only 2) (pos 40) 10) })
unfolding create_table create_predicate select finds answer call csv_on_literals digits chars is_utf8 encode_utf8 escaped fields_text is_blank
prints_nothing = (_, (_, (Some (codes "v\n3\n40\n5\n"), refl, refl), refl), (_, (_, (_, refl, refl), (_, (_, (_, refl, refl), refl), refl)), refl))

-- EXPLAIN is bound, and asks for nothing and puts nothing
explains : StatementsRun (finds None) answer Plainly (create_predicate ∷ syntax.Explain select ∷ [])
    (record { events = []; fault = Some (fault.Script (script.Bind why.NoTable 114)) })
unfolding create_table create_predicate select finds answer call csv_on_literals digits chars is_utf8 encode_utf8 escaped fields_text is_blank
explains = (_, (_, refl, refl), (_, (_, (_, refl, refl), refl), refl))

explains_in_silence : StatementsRun (finds (Some (codes "v\n3\n40\n5\n"))) answer Plainly (create_table ∷ create_predicate ∷ syntax.Explain select ∷ syntax.ExplainAnalyze select ∷ [])
    (record { events = Fetch (codes "f") ∷ []; fault = None })
unfolding create_table create_predicate select finds answer call csv_on_literals digits chars is_utf8 encode_utf8 escaped fields_text is_blank
explains_in_silence = (_, (_, (Some (codes "v\n3\n40\n5\n"), refl, refl), refl), (_, (_, (_, refl, refl), (_, (_, (_, refl, refl), (_, (_, (_, refl, refl), (_, refl, refl)), refl)), refl)), refl))

-- the catalogue that is left, where one is
abbrev left_by : Result CatalogDef Fault → CatalogDef
left_by (Ok catalogue) = catalogue
left_by (Err why) = empty

-- that of the table and the predicate, where the table's file has these bytes; and with the index
made_of : List ℕ → CatalogDef
made_of bytes = left_by (predicate_outcome (left_by (table_step empty (name_at (codes "t") 13) (codes "f") ((codes "v", kind.Int) ∷ []) (Some bytes)).outcome)
    (name_at (codes "p") 50) create_predicate)

indexed_of : List ℕ → CatalogDef
indexed_of bytes = left_by (refused_or (index_step answer (made_of bytes)) (or_bind_fault (index_def_of (made_of bytes) create_index))).outcome

-- a table no larger than its sample is sampled whole; no number ends a sample
samples_each_row : (bound : Query) → bound_query (made_of (codes "v\n10\n40\n5\n")) select ≡ Ok bound → sample_step (made_of (codes "v\n10\n40\n5\n")) (ByScores 7) bound ≡ record { events = Score (call (pos 10)) ∷ Score (call (pos 40)) ∷ Score (call (pos 5)) ∷ []; outcome = Ok (made_of (codes "v\n10\n40\n5\n")) }
unfolding create_table create_predicate select answer call csv_on_literals digits chars is_utf8 encode_utf8 escaped fields_text is_blank made_of first_words u32_at pcg32_seed word_bytes taken_from samples_from
samples_each_row bound is = subst (λ query. sample_step (made_of (codes "v\n10\n40\n5\n")) (ByScores 7) query ≡ record { events = Score (call (pos 10)) ∷ Score (call (pos 40)) ∷ Score (call (pos 5)) ∷ []; outcome = Ok (made_of (codes "v\n10\n40\n5\n")) }) (same_Ok _ bound is) refl

-- by guesses nobody is called for it
samples_nothing : (query : Query) → sample_step (made_of (codes "v\n10\n40\n5\n")) (ByGuesses 7) query ≡ record { events = []; outcome = Ok (made_of (codes "v\n10\n40\n5\n")) }
samples_nothing query = refl

-- by its plan, the second row is asked for before the first one is put, since its score may be greater than 3
asks_before_a_row : (bound : Query) → bound_query (made_of (codes "v\n3\n10\n")) select ≡ Ok bound → planned_step (world_of (made_of (codes "v\n3\n10\n")) answer bound) (Rank 1 (SeqScan 1)) ≡ record { events = Score (call (pos 3)) ∷ Score (call (pos 10)) ∷ Put (codes "1,10,10\n") ∷ Put (codes "2,3,3\n") ∷ []; outcome = Ok (made_of (codes "v\n3\n10\n")) }
unfolding create_table create_predicate select answer call csv_on_literals digits chars is_utf8 encode_utf8 escaped fields_text is_blank made_of
asks_before_a_row bound is = subst (λ query. planned_step (world_of (made_of (codes "v\n3\n10\n")) answer query) (Rank 1 (SeqScan 1)) ≡ record { events = Score (call (pos 3)) ∷ Score (call (pos 10)) ∷ Put (codes "1,10,10\n") ∷ Put (codes "2,3,3\n") ∷ []; outcome = Ok (made_of (codes "v\n3\n10\n")) }) (same_Ok _ bound is) refl

-- no score is greater than 10, so a row of this score is put before the next one is asked for, whose number is no score
puts_before_an_ask : (bound : Query) → bound_query (made_of (codes "v\n10\n40\n5\n")) select ≡ Ok bound → planned_step (world_of (made_of (codes "v\n10\n40\n5\n")) answer bound) (Rank 1 (SeqScan 1)) ≡ record { events = Score (call (pos 10)) ∷ Put (codes "1,10,10\n") ∷ Score (call (pos 40)) ∷ []; outcome = Err (fault.BadScore (codes "p") (only 2) (pos 40) 10) }
unfolding create_table create_predicate select answer call csv_on_literals digits chars is_utf8 encode_utf8 escaped fields_text is_blank made_of
puts_before_an_ask bound is = subst (λ query. planned_step (world_of (made_of (codes "v\n10\n40\n5\n")) answer query) (Rank 1 (SeqScan 1)) ≡ record { events = Score (call (pos 10)) ∷ Put (codes "1,10,10\n") ∷ Score (call (pos 40)) ∷ []; outcome = Err (fault.BadScore (codes "p") (only 2) (pos 40) 10) }) (same_Ok _ bound is) refl

-- EXPLAIN ANALYZE makes these calls too, and puts no row
asks_in_silence : (bound : Query) → bound_query (made_of (codes "v\n3\n10\n")) select ≡ Ok bound → silent (planned_step (world_of (made_of (codes "v\n3\n10\n")) answer bound) (Rank 1 (SeqScan 1))) ≡ record { events = Score (call (pos 3)) ∷ Score (call (pos 10)) ∷ []; outcome = Ok (made_of (codes "v\n3\n10\n")) }
unfolding create_table create_predicate select answer call csv_on_literals digits chars is_utf8 encode_utf8 escaped fields_text is_blank made_of
asks_in_silence bound is = subst (λ query. silent (planned_step (world_of (made_of (codes "v\n3\n10\n")) answer query) (Rank 1 (SeqScan 1))) ≡ record { events = Score (call (pos 3)) ∷ Score (call (pos 10)) ∷ []; outcome = Ok (made_of (codes "v\n3\n10\n")) }) (same_Ok _ bound is) refl

-- it tells that the plan was asked three times and gave two rows, for which it made two calls, and that the scan was asked as often and has drawn both rows
counts_all_asks : (bound : Query) → bound_query (made_of (codes "v\n3\n10\n")) select ≡ Ok bound → counts_of_plan (world_of (made_of (codes "v\n3\n10\n")) answer bound) (Rank 1 (SeqScan 1)) (asks_in_all (world_of (made_of (codes "v\n3\n10\n")) answer bound) (Rank 1 (SeqScan 1)))
    ≡ record { asked = 3; gave = 2; calls = 2; drawn = 0 } ∷ record { asked = 3; gave = 2; calls = 0; drawn = 2 } ∷ []
unfolding create_table create_predicate select answer call csv_on_literals digits chars is_utf8 encode_utf8 escaped fields_text is_blank made_of
counts_all_asks bound is = subst (λ query. counts_of_plan (world_of (made_of (codes "v\n3\n10\n")) answer query) (Rank 1 (SeqScan 1)) (asks_in_all (world_of (made_of (codes "v\n3\n10\n")) answer query) (Rank 1 (SeqScan 1)))
    ≡ record { asked = 3; gave = 2; calls = 2; drawn = 0 } ∷ record { asked = 3; gave = 2; calls = 0; drawn = 2 } ∷ []) (same_Ok _ bound is) refl

-- SELECT v FROM t ORDER BY p(v) LIMIT 1
select_one : syntax.Query
unfolding select
select_one = record select { limit = Some (pos 1, record { start = 136; end = 137 }) }

-- the lines of its answer are those that are put
answers_each_row : (bound : Query) → bound_query (made_of (codes "v\n3\n10\n")) select ≡ Ok bound
    → rank_lines 1 (answer_of answer (made_of (codes "v\n3\n10\n")) bound (all_rows (made_of (codes "v\n3\n10\n")) bound)) ≡ codes "1,10,10\n" ∷ codes "2,3,3\n" ∷ []
unfolding create_table create_predicate select answer call csv_on_literals digits chars is_utf8 encode_utf8 escaped fields_text is_blank made_of
answers_each_row bound is = subst (λ query. rank_lines 1 (answer_of answer (made_of (codes "v\n3\n10\n")) query (all_rows (made_of (codes "v\n3\n10\n")) query)) ≡ codes "1,10,10\n" ∷ codes "2,3,3\n" ∷ []) (same_Ok _ bound is) refl

-- behind as many rows as LIMIT says nothing is asked
asks_no_more : (bound : Query) → bound_query (made_of (codes "v\n10\n40\n5\n")) select_one ≡ Ok bound → planned_step (world_of (made_of (codes "v\n10\n40\n5\n")) answer bound) (Rank 1 (SeqScan 1)) ≡ record { events = Score (call (pos 10)) ∷ Put (codes "1,10,10\n") ∷ []; outcome = Ok (made_of (codes "v\n10\n40\n5\n")) }
unfolding create_table create_predicate select answer call csv_on_literals digits chars is_utf8 encode_utf8 escaped fields_text is_blank select_one made_of
asks_no_more bound is = subst (λ query. planned_step (world_of (made_of (codes "v\n10\n40\n5\n")) answer query) (Rank 1 (SeqScan 1)) ≡ record { events = Score (call (pos 10)) ∷ Put (codes "1,10,10\n") ∷ []; outcome = Ok (made_of (codes "v\n10\n40\n5\n")) }) (same_Ok _ bound is) refl

answers_one_row : (bound : Query) → bound_query (made_of (codes "v\n10\n40\n5\n")) select_one ≡ Ok bound
    → rank_lines 1 (answer_of answer (made_of (codes "v\n10\n40\n5\n")) bound (all_rows (made_of (codes "v\n10\n40\n5\n")) bound)) ≡ codes "1,10,10\n" ∷ []
unfolding create_table create_predicate select answer call csv_on_literals digits chars is_utf8 encode_utf8 escaped fields_text is_blank select_one made_of
answers_one_row bound is = subst (λ query. rank_lines 1 (answer_of answer (made_of (codes "v\n10\n40\n5\n")) query (all_rows (made_of (codes "v\n10\n40\n5\n")) query)) ≡ codes "1,10,10\n" ∷ []) (same_Ok _ bound is) refl

-- by the index of its one term a query makes no call but those of its sample
asks_by_an_index : (bound : Query) → bound_query (indexed_of (codes "v\n3\n10\n")) select ≡ Ok bound → planned_step (world_of (indexed_of (codes "v\n3\n10\n")) answer bound) (RankScan 1 1 0) ≡ record { events = Put (codes "1,10,10\n") ∷ Put (codes "2,3,3\n") ∷ []; outcome = Ok (indexed_of (codes "v\n3\n10\n")) }
unfolding create_table create_predicate select answer call csv_on_literals digits chars is_utf8 encode_utf8 escaped fields_text is_blank create_index made_of indexed_of
asks_by_an_index bound is = subst (λ query. planned_step (world_of (indexed_of (codes "v\n3\n10\n")) answer query) (RankScan 1 1 0) ≡ record { events = Put (codes "1,10,10\n") ∷ Put (codes "2,3,3\n") ∷ []; outcome = Ok (indexed_of (codes "v\n3\n10\n")) }) (same_Ok _ bound is) refl

-- SELECT a.v, b.v FROM t a, t b ORDER BY p(b.v)
select_two : syntax.Query
unfolding select
select_two = record select {
  left = record select.left {
    items = items.List (record { alias = Some (name_at (codes "a") 107); column = name_at (codes "v") 109 }
        ∷ record { alias = Some (name_at (codes "b") 112); column = name_at (codes "v") 114 } ∷ []);
    from = (name_at (codes "t") 121, Some (name_at (codes "a") 123)) ∷ (name_at (codes "t") 126, Some (name_at (codes "b") 128)) ∷ [];
  };
  terms = record {
    weight = (pos 1, record { start = 139; end = 140 });
    predicate = name_at (codes "p") 139;
    args = arg.Column (record { alias = Some (name_at (codes "b") 141); column = name_at (codes "v") 143 }) ∷ [];
    at = record { start = 139; end = 145 };
  } ∷ [];
}

-- the pairs of two tables are asked for in their order, and no further than a pair could still come before the next one to be put
asks_of_a_join : (bound : Query) → bound_query (made_of (codes "v\n3\n10\n")) select_two ≡ Ok bound → planned_step (world_of (made_of (codes "v\n3\n10\n")) answer bound) (Rank 1 (JoinOperator Nested (SeqScan 1) (SeqScan 2))) ≡ record { events = Score (call (pos 3)) ∷ Score (call (pos 10)) ∷ Put (codes "1,10,3,10\n") ∷ Score (call (pos 3)) ∷ Score (call (pos 10)) ∷ Put (codes "2,10,10,10\n") ∷ Put (codes "3,3,3,3\n") ∷ Put (codes "4,3,10,3\n") ∷ []; outcome = Ok (made_of (codes "v\n3\n10\n")) }
unfolding create_table create_predicate select answer call csv_on_literals digits chars is_utf8 encode_utf8 escaped fields_text is_blank select_two made_of
asks_of_a_join bound is = subst (λ query. planned_step (world_of (made_of (codes "v\n3\n10\n")) answer query) (Rank 1 (JoinOperator Nested (SeqScan 1) (SeqScan 2))) ≡ record { events = Score (call (pos 3)) ∷ Score (call (pos 10)) ∷ Put (codes "1,10,3,10\n") ∷ Score (call (pos 3)) ∷ Score (call (pos 10)) ∷ Put (codes "2,10,10,10\n") ∷ Put (codes "3,3,3,3\n") ∷ Put (codes "4,3,10,3\n") ∷ []; outcome = Ok (made_of (codes "v\n3\n10\n")) }) (same_Ok _ bound is) refl

-- the sample of a term over one of two tables asks for the rows of that table alone
samples_of_a_join : (bound : Query) → bound_query (made_of (codes "v\n3\n10\n")) select_two ≡ Ok bound → sample_step (made_of (codes "v\n3\n10\n")) (ByScores 7) bound ≡ record { events = Score (call (pos 3)) ∷ Score (call (pos 10)) ∷ []; outcome = Ok (made_of (codes "v\n3\n10\n")) }
unfolding create_table create_predicate select answer call csv_on_literals digits chars is_utf8 encode_utf8 escaped fields_text is_blank select_two made_of first_words u32_at pcg32_seed word_bytes taken_from samples_from
samples_of_a_join bound is = subst (λ query. sample_step (made_of (codes "v\n3\n10\n")) (ByScores 7) query ≡ record { events = Score (call (pos 3)) ∷ Score (call (pos 10)) ∷ []; outcome = Ok (made_of (codes "v\n3\n10\n")) }) (same_Ok _ bound is) refl

-- the text of a plan: both rows are expected, since there are no more than the ten for which a query without LIMIT is planned
tells_a_plan : (bound : Query) → bound_query (made_of (codes "v\n3\n10\n")) select ≡ Ok bound → text_of (made_of (codes "v\n3\n10\n")) bound (cards_for answer (made_of (codes "v\n3\n10\n")) (ByScores 7) bound) (Rank 1 (SeqScan 1)) None ≡ codes "Rank term 1 est=2 cost=4\n  SeqScan t t est=2 cost=2\n"
unfolding create_table create_predicate select answer call csv_on_literals digits chars is_utf8 encode_utf8 escaped fields_text is_blank made_of first_words u32_at pcg32_seed word_bytes taken_from samples_from
tells_a_plan bound is = subst (λ query. text_of (made_of (codes "v\n3\n10\n")) query (cards_for answer (made_of (codes "v\n3\n10\n")) (ByScores 7) query) (Rank 1 (SeqScan 1)) None ≡ codes "Rank term 1 est=2 cost=4\n  SeqScan t t est=2 cost=2\n") (same_Ok _ bound is) refl

-- SELECT DISTINCT v FROM t ORDER BY p(v), which is bound first too
select_distinct : syntax.Query
unfolding select
select_distinct = record select { left = record select.left { distinct = true } }

no_plan_without_a_table : StatementsRun (finds None) answer (Planned (ByScores 7)) (create_predicate ∷ syntax.Ask select_distinct ∷ create_table ∷ [])
    (record { events = []; fault = Some (fault.Script (script.Bind why.NoTable 114)) })
unfolding create_table create_predicate select select_distinct finds answer call csv_on_literals digits chars is_utf8 encode_utf8 escaped fields_text is_blank
no_plan_without_a_table = (_, (_, refl, refl), (_, (_, (_, refl, refl), refl), refl))

-- EXPLAIN ANALYZE is bound first
analyzes_nothing : StatementsRun (finds None) answer (Planned (ByScores 7)) (create_predicate ∷ syntax.ExplainAnalyze select ∷ [])
    (record { events = []; fault = Some (fault.Script (script.Bind why.NoTable 114)) })
unfolding create_table create_predicate select finds answer call csv_on_literals digits chars is_utf8 encode_utf8 escaped fields_text is_blank
analyzes_nothing = (_, (_, refl, refl), (_, (_, (_, refl, refl), refl), refl))

-- the first number that is no score ends the run, and no row behind it is asked for
bad_score : StatementsRun (finds (Some (codes "v\n3\n40\n5\n"))) answer Plainly (create_table ∷ create_predicate ∷ create_index ∷ create_table ∷ [])
    (record { events = Fetch (codes "f") ∷ Score (call (pos 3)) ∷ Score (call (pos 40)) ∷ []; fault = Some (fault.BadScore (codes "p") (only 2) (pos 40) 10) })
unfolding create_table create_predicate create_index finds answer call csv_on_literals digits chars is_utf8 encode_utf8
bad_score = (_, (_, (Some (codes "v\n3\n40\n5\n"), refl, refl), refl), (_, (_, (_, refl, refl), (_, (_, (_, refl, refl), refl), refl)), refl))

-- a name that is taken ends the run before the fetch
name_taken : StatementsRun (finds (Some (codes "v\n3\n"))) answer Plainly (create_table ∷ create_table ∷ [])
    (record { events = Fetch (codes "f") ∷ []; fault = Some (fault.Script (script.Room room.NameTaken 13)) })
unfolding create_table create_predicate create_index finds answer call csv_on_literals digits chars is_utf8 encode_utf8
name_taken = (_, (_, (Some (codes "v\n3\n"), refl, refl), refl), (_, (_, (_, refl, refl), refl), refl))

-- the file isn't there
missing : StatementsRun (finds None) answer Plainly (create_table ∷ create_predicate ∷ [])
    (record { events = Fetch (codes "f") ∷ []; fault = Some (fault.Read (codes "f") fetch.Missing) })
unfolding create_table create_predicate create_index finds answer call csv_on_literals digits chars is_utf8 encode_utf8
missing = (_, (_, (None, refl, refl), refl), refl)

-- the file is no table
no_table_file : StatementsRun (finds (Some (codes "v\nx\n"))) answer Plainly (create_table ∷ create_predicate ∷ [])
    (record { events = Fetch (codes "f") ∷ []; fault = Some (fault.Table (codes "f") (table.NotInt 1 1)) })
unfolding create_table create_predicate create_index finds answer call csv_on_literals digits chars is_utf8 encode_utf8
no_table_file = (_, (_, (Some (codes "v\nx\n"), refl, refl), refl), refl)

-- an index of a table that isn't there
no_table : StatementsRun (finds None) answer Plainly (create_predicate ∷ create_index ∷ [])
    (record { events = []; fault = Some (fault.Script (script.Bind why.NoTable 85)) })
unfolding create_table create_predicate create_index finds answer call csv_on_literals digits chars is_utf8 encode_utf8
no_table = (_, (_, refl, refl), (_, (_, (_, refl, refl), refl), refl))

-- an index of a predicate that isn't there
no_predicate : StatementsRun (finds (Some (codes "v\n3\n"))) answer Plainly (create_table ∷ create_index ∷ [])
    (record { events = Fetch (codes "f") ∷ []; fault = Some (fault.Script (script.Bind why.NoPredicate 92)) })
unfolding create_table create_predicate create_index finds answer call csv_on_literals digits chars is_utf8 encode_utf8
no_predicate = (_, (_, (Some (codes "v\n3\n"), refl, refl), refl), (_, (_, (_, refl, refl), refl), refl))

-- a name under which no cursor is open ends the run
no_cursor : StatementsRun (finds None) answer Plainly (create_predicate ∷ Close (name_at (codes "c") 70) ∷ create_table ∷ [])
    (record { events = []; fault = Some (fault.Session session.Unknown (codes "c")) })
unfolding create_table create_predicate create_index finds answer call csv_on_literals digits chars is_utf8 encode_utf8
no_cursor = (_, (_, refl, refl), (_, (_, refl, refl), refl))

-- no statement
no_statement : StatementsRun (finds None) answer Plainly []
    (record { events = []; fault = None })
unfolding create_table create_predicate create_index finds answer call csv_on_literals digits chars is_utf8 encode_utf8
no_statement = refl
