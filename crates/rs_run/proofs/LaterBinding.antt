-- A text that is bound at one place of a script is bound at a later one too, to the same query but for the tops of its terms.
use Rattle.std.proofs.Common.{ℕ, zero, suc, ◌≡◌, ◌∙◌, ◌+◌, ◌<◌, ◌==◌, ◌++◌, Bool, true, false, cond, nat_lt, List, [], ◌∷◌, length, length-append, map, refl, sym, ap, ap₂, subst, arith}
use Rattle.std.specs.Prelude.{ℤ, not, Option, Some, None, Result, Ok, Err, if◌then◌else◌, option_map, position, slice_get, unwrap_or}
use Rattle.std.specs.List.{list_any, position_or_len, prefix_len}
use Rattle.std.specs.Str.{bytes_eq}
use Rattle.std.proofs.lemmas.Bool.{lt-ltb, ltb-true}
use Rattle.std.proofs.lemmas.List.{length-map, map-append}
use Rattle.rs_value.specs.Results.{◌>>=◌}
use Rattle.rs_value.specs.declared.set_op.SetOp.{SetOp}
use Rattle.rs_value.specs.declared.value.Value.{Value}
use Rattle.rs_value.specs.declared.kind.Kind.{Kind}
use Rattle.rs_lex.specs.declared.token.Span.{Span}
use Rattle.rs_syntax.specs.Syntax.{Command}
use Rattle.rs_syntax.specs.Syntax as syntax
use Rattle.rs_syntax.specs.Written.{IsWritten}
use Rattle.rs_syntax.specs.declared.name.Name.{Name}
use Rattle.rs_syntax.specs.declared.select.TermSyn.{TermSyn}
use Rattle.rs_table.specs.Column.{Column}
use Rattle.rs_table.specs.Relation.{Relation}
use Rattle.rs_expr.specs.Predicates.{PredicateDef}
use Rattle.rs_expr.specs.Scoring.{Answering}
use Rattle.rs_catalog.specs.Catalog.{CatalogDef, NamedTable, RankIndex, number_named, place_of_name, with_index, with_predicate, with_table}
use Rattle.rs_catalog.specs.Growing.{grown, with_rows_in}
use Rattle.rs_catalog.specs.declared.index.BoundArg.{BoundArg}
use Rattle.rs_catalog.specs.declared.room.What.TheVariants as what
use Rattle.rs_catalog.proofs.JoinedFacts.{slice_get-front}
use Rattle.rs_query.specs.Conjuncts.{ConjunctDef}
use Rattle.rs_query.specs.Tops.{set_tops, tops_of, with_maxima, with_tops}
use Rattle.rs_query.specs.WellFormed.{argument_columns, entries_mask}
use Rattle.rs_query.specs.declared.block.Block.{Block}
use Rattle.rs_query.specs.declared.term.Term.{Term}
use Rattle.rs_query.specs.declared.query.Query.{Query}
use Rattle.rs_query.specs.declared.query.Query.TheVariants.{One, Set}
use Rattle.rs_typing.specs.Missing.{or_fault}
use Rattle.rs_typing.specs.declared.fault.BindFault.{BindFault}
use Rattle.rs_typing.specs.declared.fault.BindFault.TheVariants.{At}
use Rattle.rs_typing.specs.declared.fault.Why.TheVariants.{DistinctNeedsOutput, LimitOf, NameTwice, NoPredicate, NoTable}
use Rattle.rs_typing.proofs.ResultFacts.{Ok-else, same_Ok, well}
use Rattle.rs_typing.proofs.StepFacts.{Ok-or_fault, Ok-test}
use Rattle.rs_bind.specs.Conditions.{filter_of}
use Rattle.rs_bind.specs.Indexes.{Entries, columns_in, params_in, term_args}
use Rattle.rs_bind.specs.Names.{number_in}
use Rattle.rs_bind.specs.Queries.{Unranked, are_outputs, block_columns, bound_limit, bound_query, max_in, most_rows, most_weight, needed_by, one_of, set_of, terms_behind, terms_of, typed_query, unranked_of, with_terms}
use Rattle.rs_bind.specs.Sources.{Found, Source, alias_of, entries_behind, entries_of, items_of, most_entries, sources_of}
use Rattle.rs_bind.proofs.FormedFacts.{IsOne-one_of, IsSet-set_of}
use Rattle.rs_view.specs.Holding.{AreSameButTops, limited, without_top, without_tops}
use Rattle.rs_view.specs.Views.{IsKeepable, most_kept}
use Rattle.rs_view.proofs.TopFacts.{limited-same}
use Rattle.rs_outside.specs.Files.{Finds}
use Rattle.rs_statement.specs.declared.evaluating.Evaluating.TheVariants.{Plainly}
use Rattle.rs_statement.specs.Statements.{Does}
use Rattle.rs_statement.specs.Steps as statement
use Rattle.rs_statement.proofs.HeldSteps.{Ok-then, kept-step}
use Rattle.rs_run.specs.Reached.{most_written}

-- what stands first in a list stands there too where more stands behind it
prefix-front : {X : Type 0} (t : X → Bool) (xs ys : List X) → prefix_len t xs < length xs → prefix_len t (xs ++ ys) ≡ prefix_len t xs
prefix-front t [] ys less = absurd (omega arith)
prefix-front t (x ∷ xs) ys less = go (prefix-front t xs ys) (t x) less where
  go : (prefix_len t xs < length xs → prefix_len t (xs ++ ys) ≡ prefix_len t xs) → (b : Bool) → cond b (1 + prefix_len t xs) 0 < suc (length xs)
      → cond b (1 + prefix_len t (xs ++ ys)) 0 ≡ cond b (1 + prefix_len t xs) 0
  go rest true less = ap (λ (n : ℕ). 1 + n) (rest (omega arith))
  go rest false less = refl

pub record Stays {X : Type 0} (p : X → Bool) (xs ys : List X) (n : ℕ) : Type 0 where
  pub within : n < length xs
  pub there : position p (xs ++ ys) ≡ Some n

position-front : {X : Type 0} (p : X → Bool) (xs ys : List X) (n : ℕ) → position p xs ≡ Some n → Stays p xs ys n
position-front p xs ys n e = go (nat_lt (position_or_len p xs) (length xs)) refl e where
  go : (b : Bool) → nat_lt (position_or_len p xs) (length xs) ≡ b → cond b (Some (position_or_len p xs)) None ≡ Some n → Stays p xs ys n
  go true is same =
      let at : position_or_len p xs ≡ n = cc in
      let less : position_or_len p xs < length xs = ltb-true (position_or_len p xs) (length xs) is in
      let longer : position_or_len p (xs ++ ys) ≡ position_or_len p xs = prefix-front (λ x. not (p x)) xs ys less in
      let more = length-append xs ys in
      let within : nat_lt (position_or_len p (xs ++ ys)) (length (xs ++ ys)) ≡ true = lt-ltb (position_or_len p (xs ++ ys)) (length (xs ++ ys)) (omega arith) in
      record { within = omega arith; there = ap (λ b. cond b (Some (position_or_len p (xs ++ ys))) None) within ∙ ap Some (longer ∙ at) }
  go false is same = absurd cc

-- a later catalogue: each table of before has its name, its number and its columns, and each predicate is the same
pub record IsLater (old new : CatalogDef) : Type 0 where
  pub tables : (name : List ℕ) (n : ℕ) → number_named what.Table name old ≡ Some n → number_named what.Table name new ≡ Some n
  pub columns : (name : List ℕ) (n : ℕ) → number_named what.Table name old ≡ Some n → columns_in new n ≡ columns_in old n
  pub predicates : (name : List ℕ) (n : ℕ) → number_named what.Predicate name old ≡ Some n → number_named what.Predicate name new ≡ Some n
  pub predicate : (name : List ℕ) (n : ℕ) → number_named what.Predicate name old ≡ Some n → slice_get new.predicates n ≡ slice_get old.predicates n

pub later-same : (catalogue : CatalogDef) → IsLater catalogue catalogue
later-same catalogue = record { tables = λ name n at. at; columns = λ name n at. refl; predicates = λ name n at. at; predicate = λ name n at. refl }

pub later-steps : (old middle new : CatalogDef) → IsLater old middle → IsLater middle new → IsLater old new
later-steps old middle new first second = record {
  tables = λ name n at. second.tables name n (first.tables name n at);
  columns = λ name n at. second.columns name n (first.tables name n at) ∙ first.columns name n at;
  predicates = λ name n at. second.predicates name n (first.predicates name n at);
  predicate = λ name n at. second.predicate name n (first.predicates name n at) ∙ first.predicate name n at;
}

abbrev schema_at : Option NamedTable → List Column
schema_at found = unwrap_or (option_map (λ (t : NamedTable). t.table.schema) found) []

abbrev table_name : NamedTable → List ℕ
table_name t = t.name

abbrev predicate_name : PredicateDef → List ℕ
predicate_name p = p.name

-- behind what makes a table, a predicate or an index, and behind rows that join
later-table : (catalogue : CatalogDef) (name : List ℕ) (table : Relation) → IsLater catalogue (with_table name table catalogue)
later-table catalogue name table = record {
  tables = named;
  columns = λ own n at. ap schema_at (slice_get-front catalogue.tables (record { name = name; table = table } ∷ []) n (within own n at));
  predicates = λ own n at. at;
  predicate = λ own n at. refl;
} where
  stays : (own : List ℕ) (n : ℕ) → number_named what.Table own catalogue ≡ Some n → Stays (λ other. bytes_eq other own) (map table_name catalogue.tables) (name ∷ []) n
  stays own n at = position-front (λ other. bytes_eq other own) (map table_name catalogue.tables) (name ∷ []) n at

  named : (own : List ℕ) (n : ℕ) → number_named what.Table own catalogue ≡ Some n → number_named what.Table own (with_table name table catalogue) ≡ Some n
  named own n at = ap (place_of_name own) (map-append table_name catalogue.tables (record { name = name; table = table } ∷ [])) ∙ (stays own n at).there

  within : (own : List ℕ) (n : ℕ) → number_named what.Table own catalogue ≡ Some n → n < length catalogue.tables
  within own n at = let less = (stays own n at).within in let same = length-map catalogue.tables table_name in omega arith

later-predicate : (catalogue : CatalogDef) (predicate : PredicateDef) → IsLater catalogue (with_predicate predicate catalogue)
later-predicate catalogue predicate = record {
  tables = λ own n at. at;
  columns = λ own n at. refl;
  predicates = λ own n at. ap (place_of_name own) (map-append predicate_name catalogue.predicates (predicate ∷ [])) ∙ (stays own n at).there;
  predicate = λ own n at.
      let less = (stays own n at).within in
      let same = length-map catalogue.predicates predicate_name in
      slice_get-front catalogue.predicates (predicate ∷ []) n (omega arith);
} where
  stays : (own : List ℕ) (n : ℕ) → number_named what.Predicate own catalogue ≡ Some n → Stays (λ other. bytes_eq other own) (map predicate_name catalogue.predicates) (predicate.name ∷ []) n
  stays own n at = position-front (λ other. bytes_eq other own) (map predicate_name catalogue.predicates) (predicate.name ∷ []) n at

names-rows : (place : ℕ) (rows : List (List Value)) (tables : List NamedTable) → map table_name (with_rows_in place rows tables) ≡ map table_name tables
names-rows place rows [] = refl
names-rows zero rows (named ∷ tables) = refl
names-rows (suc place) rows (named ∷ tables) = ap (λ rest. named.name ∷ rest) (names-rows place rows tables)

schema-rows : (place : ℕ) (rows : List (List Value)) (tables : List NamedTable) (n : ℕ) → schema_at (slice_get (with_rows_in place rows tables) n) ≡ schema_at (slice_get tables n)
schema-rows place rows [] n = refl
schema-rows zero rows (named ∷ tables) zero = refl
schema-rows zero rows (named ∷ tables) (suc n) = refl
schema-rows (suc place) rows (named ∷ tables) zero = refl
schema-rows (suc place) rows (named ∷ tables) (suc n) = schema-rows place rows tables n

later-rows : (catalogue : CatalogDef) (table : ℕ) (rows : List (List Value)) (indexes : List RankIndex) → IsLater catalogue (grown table rows indexes catalogue)
later-rows catalogue table rows indexes = record {
  tables = λ own n at. ap (place_of_name own) (names-rows table rows catalogue.tables) ∙ at;
  columns = λ own n at. schema-rows table rows catalogue.tables n;
  predicates = λ own n at. at;
  predicate = λ own n at. refl;
}

later-index : (catalogue : CatalogDef) (more : List RankIndex) → IsLater catalogue (record catalogue { indexes = more })
later-index catalogue more = record { tables = λ name n at. at; columns = λ name n at. refl; predicates = λ name n at. at; predicate = λ name n at. refl }

-- so it is behind each statement
pub later-step : (answer : Answering) (catalogue : CatalogDef) (finds : Finds) (command : Command) (step : statement.Step CatalogDef) (next : CatalogDef) → IsWritten command
    → Does finds answer Plainly catalogue command step → step.outcome ≡ Ok next → IsLater catalogue next
later-step answer catalogue finds command step next =
    kept-step answer catalogue (IsLater catalogue) (later-same catalogue) (later-table catalogue) (later-predicate catalogue)
    (λ def ranking fits made. later-index catalogue (with_index def ranking catalogue).indexes)
    (λ table joining made join gives. later-rows catalogue table joining made) finds Plainly command step next

-- what is bound
module _ (old new : CatalogDef) (later : IsLater old new) where
  record SameEntries (before : List (List ℕ)) (from : List (Name × Option Name)) (made : List (ℕ × List ℕ)) : Type 0 where
    bound : entries_behind new before from ≡ Ok made
    sources : sources_of new made ≡ sources_of old made

  entries-later : (before : List (List ℕ)) (from : List (Name × Option Name)) (made : List (ℕ × List ℕ)) → entries_behind old before from ≡ Ok made → SameEntries before from made
  entries-later before [] made e = record {
    bound = e;
    sources = let none : [] ≡ made = same_Ok [] made e in subst (λ (m : List (ℕ × List ℕ)). sources_of new m ≡ sources_of old m) none refl;
  }
  entries-later before (entry ∷ rest) made e =
      let no_table = At NoTable entry.0.at in
      let twice = At NameTwice (alias_of entry).at in
      let alias = (alias_of entry).text in
      let full = At LimitOf entry.0.at in
      let taken = list_any (λ other. bytes_eq other alias) before in
      let rest_of = λ (catalogue : CatalogDef). entries_behind catalogue (alias ∷ before) rest in
      let made_of = λ (table : ℕ) (more : List (ℕ × List ℕ)). well ((table, alias) ∷ more) in
      let after_table = λ (catalogue : CatalogDef) (table : ℕ). (if taken then Err twice else rest_of catalogue) >>= made_of table in
      let table_of = λ (catalogue : CatalogDef). or_fault no_table (number_named what.Table entry.0.text catalogue) in
      let all_of = λ (catalogue : CatalogDef). table_of catalogue >>= after_table catalogue in
      let some = Ok-else (length before == most_entries) (all_of old) full made e in
      let table = Ok-then (table_of old) (after_table old) made some.1 in
      let at = Ok-or_fault no_table (number_named what.Table entry.0.text old) table.0 table.1 in
      let more = Ok-then (if taken then Err twice else rest_of old) (made_of table.0) made table.2 in
      let free = Ok-else taken (rest_of old) twice more.0 more.1 in
      let again = entries-later (alias ∷ before) rest more.0 free.1 in
      let is : (table.0, alias) ∷ more.0 ≡ made = same_Ok ((table.0, alias) ∷ more.0) made more.2 in
      record {
        bound = ap (λ b. if b then Err full else all_of new) some.0
            ∙ ap (λ t. or_fault no_table t >>= after_table new) (later.tables entry.0.text table.0 at)
            ∙ ap (λ b. (if b then Err twice else rest_of new) >>= made_of table.0) free.0
            ∙ ap (λ r. r >>= made_of table.0) again.bound ∙ more.2;
        sources = subst (λ (m : List (ℕ × List ℕ)). sources_of new m ≡ sources_of old m) is
            (λ i. (alias, later.columns entry.0.text table.0 at i) ∷ again.sources i);
      }

  terms-later : (entries : Entries) (needed : Option (List Found)) (before : ℕ) (terms : List TermSyn) (made : List Term) → terms_behind old entries needed before terms ≡ Ok made
      → terms_behind new entries needed before terms ≡ Ok made
  terms-later entries needed before [] made e = e
  terms-later entries needed before (term ∷ rest) made e =
      let full = At LimitOf term.at in
      let no_predicate = At NoPredicate term.predicate.at in
      let hidden = At DistinctNeedsOutput term.at in
      let rest_of = λ (catalogue : CatalogDef). terms_behind catalogue entries needed (suc before) rest in
      let made_of = λ (most weight predicate : ℕ) (args : List BoundArg) (more : List Term).
      well {A = List Term} (record { weight = weight; predicate = predicate; args = args; max = most; entries = entries_mask (argument_columns args) } ∷ more) in
      let more_of = λ (catalogue : CatalogDef) (args : List BoundArg). if are_outputs needed (argument_columns args) then rest_of catalogue else Err hidden in
      let after_args = λ (catalogue : CatalogDef) (most weight predicate : ℕ) (args : List BoundArg). more_of catalogue args >>= made_of most weight predicate args in
      let behind_predicate = λ (catalogue : CatalogDef) (params : List Kind) (most weight predicate : ℕ). term_args entries params term.args term.at >>= after_args catalogue most weight predicate in
      let after_predicate = λ (catalogue : CatalogDef) (weight predicate : ℕ). behind_predicate catalogue (params_in catalogue predicate) (max_in catalogue predicate) weight predicate in
      let predicate_of = λ (catalogue : CatalogDef). or_fault no_predicate (number_named what.Predicate term.predicate.text catalogue) in
      let after_weight = λ (catalogue : CatalogDef) (weight : ℕ). predicate_of catalogue >>= after_predicate catalogue weight in
      let all_of = λ (catalogue : CatalogDef). number_in 1 most_weight term.weight >>= after_weight catalogue in
      let some = Ok-else (before == 8) (all_of old) full made e in
      let weight = Ok-then (number_in 1 most_weight term.weight) (after_weight old) made some.1 in
      let predicate = Ok-then (predicate_of old) (after_predicate old weight.0) made weight.2 in
      let at = Ok-or_fault no_predicate (number_named what.Predicate term.predicate.text old) predicate.0 predicate.1 in
      let same = later.predicate term.predicate.text predicate.0 at in
      let params : params_in new predicate.0 ≡ params_in old predicate.0 = ap (λ (p : Option PredicateDef). unwrap_or (option_map (λ (p : PredicateDef). p.params) p) []) same in
      let most : max_in new predicate.0 ≡ max_in old predicate.0 = ap (λ (p : Option PredicateDef). unwrap_or (option_map (λ (p : PredicateDef). p.max) p) 0) same in
      let old_params = params_in old predicate.0 in
      let old_most = max_in old predicate.0 in
      let args = Ok-then (term_args entries old_params term.args term.at) (after_args old old_most weight.0 predicate.0) made predicate.2 in
      let more = Ok-then (more_of old args.0) (made_of old_most weight.0 predicate.0 args.0) made args.2 in
      let shown = Ok-test (are_outputs needed (argument_columns args.0)) (rest_of old) hidden more.0 more.1 in
      ap (λ b. if b then Err full else all_of new) some.0
      ∙ ap (λ w. w >>= after_weight new) weight.1
      ∙ ap (λ p. or_fault no_predicate p >>= after_predicate new weight.0) (later.predicates term.predicate.text predicate.0 at)
      ∙ ap (λ ps. behind_predicate new ps (max_in new predicate.0) weight.0 predicate.0) params
      ∙ ap (λ m. behind_predicate new old_params m weight.0 predicate.0) most
      ∙ ap (λ a. a >>= after_args new old_most weight.0 predicate.0) args.1
      ∙ ap (λ b. (if b then rest_of new else Err hidden) >>= made_of old_most weight.0 predicate.0 args.0) shown.0
      ∙ ap (λ r. r >>= made_of old_most weight.0 predicate.0 args.0) (terms-later entries needed (suc before) rest more.0 shown.1)
      ∙ more.2

  record SameBlock (written : syntax.Block) (block : Unranked) : Type 0 where
    bound : unranked_of new written ≡ Ok block
    sources : sources_of new block.from ≡ sources_of old block.from

  unranked-later : (written : syntax.Block) (block : Unranked) → unranked_of old written ≡ Ok block → SameBlock written block
  unranked-later written block e =
      let of_items = λ (from : List (ℕ × List ℕ)) (conjuncts : List ConjunctDef) (items : List Found).
      well {A = Unranked} (record { from = from; conjuncts = conjuncts; items = items; distinct = written.distinct }) in
      let after_filter = λ (sources : List Source) (from : List (ℕ × List ℕ)) (conjuncts : List ConjunctDef). items_of sources written.items >>= of_items from conjuncts in
      let after_from = λ (sources : List Source) (from : List (ℕ × List ℕ)). filter_of sources written.filter >>= after_filter sources from in
      let from = Ok-then (entries_of old written.from) (λ from. after_from (sources_of old from) from) block e in
      let again = entries-later [] written.from from.0 from.1 in
      let conjuncts = Ok-then (filter_of (sources_of old from.0) written.filter) (after_filter (sources_of old from.0) from.0) block from.2 in
      let items = Ok-then (items_of (sources_of old from.0) written.items) (of_items from.0 conjuncts.0) block conjuncts.2 in
      let own = ap (λ (b : Unranked). b.from) (same_Ok {A = Unranked} (record { from = from.0; conjuncts = conjuncts.0; items = items.0; distinct = written.distinct }) block items.2) in
      record {
        bound = ap (λ r. r >>= λ from. after_from (sources_of new from) from) again.bound ∙ ap (λ s. after_from s from.0) again.sources ∙ from.2;
        sources = subst (λ (f : List (ℕ × List ℕ)). sources_of new f ≡ sources_of old f) own again.sources;
      }

  -- the same text with another LIMIT
  module _ (limit : ℤ × Span) (n : ℕ) (number : number_in 0 most_rows limit ≡ Ok n) where
    one-later : (query : syntax.Query) (typed : Query) → one_of old query ≡ Ok typed → one_of new (record query { limit = Some limit }) ≡ Ok (limited n typed)
    one-later query typed e =
        let made = λ (block : Unranked) (terms : List Term) (most : Option ℕ). well (One (with_terms block terms) most) in
        let after_terms = λ (most : Option (ℤ × Span)) (block : Unranked) (terms : List Term). bound_limit most >>= made block terms in
        let terms_in = λ (catalogue : CatalogDef) (sources : List Source) (block : Unranked). terms_of catalogue (block_columns sources) (needed_by block) query.terms in
        let after_block = λ (catalogue : CatalogDef) (most : Option (ℤ × Span)) (block : Unranked). terms_in catalogue (sources_of catalogue block.from) block >>= after_terms most block in
        let block = Ok-then (unranked_of old query.left) (after_block old query.limit) typed e in
        let sources = sources_of old block.0.from in
        let terms = Ok-then (terms_in old sources block.0) (after_terms query.limit block.0) typed block.2 in
        let own = Ok-then (bound_limit query.limit) (made block.0 terms.0) typed terms.2 in
        let again = unranked-later query.left block.0 block.1 in
        ap (λ r. r >>= after_block new (Some limit)) again.bound
        ∙ ap (λ s. terms_in new s block.0 >>= after_terms (Some limit) block.0) again.sources
        ∙ ap (λ r. r >>= after_terms (Some limit) block.0) (terms-later (block_columns sources) (needed_by block.0) 0 query.terms terms.0 terms.1)
        ∙ ap (λ (r : Result ℕ BindFault). (r >>= λ m. Ok (Some m)) >>= made block.0 terms.0) number
        ∙ ap (λ q. well (limited n q)) (same_Ok (One (with_terms block.0 terms.0) own.0) typed own.2)

    set-unkept : (query : syntax.Query) (op : SetOp) (second : syntax.Block) (typed : Query) → set_of old query op second ≡ Ok typed → IsKeepable typed → ⊥
    set-unkept query op second typed e keepable =
        let made = IsSet-set_of old query op second typed e in
        subst IsKeepable {y = Set op (with_terms made.left made.terms) (with_terms made.right made.others) made.limit} (sym made.is) keepable

    typed-later : (query : syntax.Query) (typed : Query) → IsKeepable typed → typed_query old query ≡ Ok typed
        → typed_query new (record query { limit = Some limit }) ≡ Ok (limited n typed)
    typed-later query typed keepable is = go query.right is where
      go : (right : Option (SetOp × syntax.Block)) → typed_query old (record query { right = right }) ≡ Ok typed
          → typed_query new (record query { right = right; limit = Some limit }) ≡ Ok (limited n typed)
      go None is = one-later (record query { right = None }) typed is
      go (Some right) is = absurd (set-unkept (record query { right = Some right }) right.0 right.1 typed is keepable)

    -- a query without its tops
    maxima-gone : (maxima : List ℕ) (terms : List Term) → map without_top (with_maxima maxima terms) ≡ map without_top terms
    maxima-gone [] terms = refl
    maxima-gone (most ∷ maxima) [] = refl
    maxima-gone (most ∷ maxima) (term ∷ terms) = ap (λ rest. without_top term ∷ rest) (maxima-gone maxima terms)

    abbrev with_terms_of : Block → List Term → Block
    with_terms_of block terms = record block { terms = terms }

    tops-gone : (catalogue : CatalogDef) (query : Query) → AreSameButTops (with_tops catalogue query) query
    tops-gone catalogue (One block most) = ap (λ terms. One (with_terms_of block terms) most) (maxima-gone (tops_of catalogue block) block.terms)
    tops-gone catalogue (Set op left right most) =
        ap₂ (λ terms others. Set op (with_terms_of left terms) (with_terms_of right others) most)
        (maxima-gone (set_tops catalogue left right) left.terms) (maxima-gone (set_tops catalogue left right) right.terms)

    keepable-typed : (catalogue : CatalogDef) (typed : Query) → IsKeepable (with_tops catalogue typed) → IsKeepable typed
    keepable-typed catalogue (One block most) keepable = keepable
    keepable-typed catalogue (Set op left right most) keepable = keepable

    pub record BoundLater (query : syntax.Query) (bound : Query) : Type 0 where
      pub other : Query
      pub is : bound_query new (record query { limit = Some limit }) ≡ Ok other
      pub same : AreSameButTops (limited n bound) other

    pub bound-later : (query : syntax.Query) (bound : Query) → IsKeepable bound → bound_query old query ≡ Ok bound → BoundLater query bound
    bound-later query bound keepable is =
        let typed = Ok-then (typed_query old query) (λ q. well (with_tops old q)) bound is in
        let own : with_tops old typed.0 ≡ bound = same_Ok (with_tops old typed.0) bound typed.2 in
        let kept = keepable-typed old typed.0 (subst IsKeepable (sym own) keepable) in
        let same : AreSameButTops bound typed.0 = ap without_tops (sym own) ∙ tops-gone old typed.0 in
        record {
          other = with_tops new (limited n typed.0);
          is = ap (λ r. r >>= λ q. well (with_tops new q)) (typed-later query typed.0 kept typed.1);
          same = limited-same bound typed.0 n same ∙ sym (tops-gone new (limited n typed.0));
        }

-- the LIMIT of a query of one block that is bound is the one that is written
module _ (catalogue : CatalogDef) where
  one-most : (query : syntax.Query) (typed : Query) → one_of catalogue query ≡ Ok typed → most_written query ≡ Ok (most_kept typed)
  one-most query typed e =
      let made = IsOne-one_of catalogue query typed e in
      ap (λ (r : Result (Option ℕ) BindFault). r >>= λ limit. Ok (unwrap_or limit 10)) made.is_limit ∙ ap (λ (q : Query). Ok (most_kept q)) made.is

  set-most : (query : syntax.Query) (op : SetOp) (second : syntax.Block) (typed : Query) → set_of catalogue query op second ≡ Ok typed → most_written query ≡ Ok (most_kept typed)
  set-most query op second typed e =
      let made = IsSet-set_of catalogue query op second typed e in
      ap (λ (r : Result (Option ℕ) BindFault). r >>= λ limit. Ok (unwrap_or limit 10)) made.is_limit ∙ ap (λ (q : Query). Ok (most_kept q)) made.is

  typed-most : (query : syntax.Query) (typed : Query) → typed_query catalogue query ≡ Ok typed → most_written query ≡ Ok (most_kept typed)
  typed-most query typed is = go query.right is where
    go : (right : Option (SetOp × syntax.Block)) → typed_query catalogue (record query { right = right }) ≡ Ok typed → most_written query ≡ Ok (most_kept typed)
    go None is = one-most (record query { right = None }) typed is
    go (Some right) is = set-most (record query { right = Some right }) right.0 right.1 typed is

  tops-most : (typed : Query) → most_kept (with_tops catalogue typed) ≡ most_kept typed
  tops-most (One block limit) = refl
  tops-most (Set op left right limit) = refl

  pub bound-most : (query : syntax.Query) (bound : Query) → bound_query catalogue query ≡ Ok bound → most_written query ≡ Ok (most_kept bound)
  bound-most query bound is =
      let typed = Ok-then (typed_query catalogue query) (λ q. well (with_tops catalogue q)) bound is in
      typed-most query typed.0 typed.1 ∙ ap Ok (sym (tops-most typed.0) ∙ ap most_kept (same_Ok (with_tops catalogue typed.0) bound typed.2))
