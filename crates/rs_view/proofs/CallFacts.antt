-- The questions of a growth: which predicates they call, and that there are none where nothing is new.
use Rattle.std.proofs.Common.{ℕ, ◌≡◌, ◌∙◌, List, [], map, ap}
use Rattle.std.specs.Prelude.{Err}
use Rattle.std.specs.List.{AllByRecursion, flat_map}
use Rattle.rs_order.proofs.EachFacts.{each-map}
use Rattle.rs_order.proofs.ItemFacts.{filter-none}
use Rattle.rs_expr.specs.InOrder.{Inquires}
use Rattle.rs_expr.specs.Scoring.{Answering, ScorerState}
use Rattle.rs_catalog.specs.Catalog.{CatalogDef}
use Rattle.rs_query.specs.Blocks.{block_in}
use Rattle.rs_query.specs.Combinations.{all_combinations}
use Rattle.rs_query.specs.Fresh.{has_new_row}
use Rattle.rs_query.specs.Questions.{asking, is_bad, through_first, request_for, question_of}
use Rattle.rs_query.specs.Tables.{sizes_of}
use Rattle.rs_query.specs.Views.{all_rows}
use Rattle.rs_query.specs.WellFormed.{IsQuery}
use Rattle.rs_query.specs.declared.block.Block.{Block}
use Rattle.rs_query.specs.declared.query.Query.{Query}
use Rattle.rs_query.specs.declared.query.Query.TheVariants.{One, Set}
use Rattle.rs_query.proofs.FreshFacts.{fresh-all}
use Rattle.rs_plain.specs.Plain.{plain_faults, questions_of, row_questions}
use Rattle.rs_plain.specs.Results.{NamesCalled}
use Rattle.rs_plain.specs.declared.fault.PlainFault.{PlainFault}
use Rattle.rs_plain.specs.declared.fault.PlainFault.TheVariants.{Memory}
use Rattle.rs_plain.proofs.NameFacts.{AsksIt, block-called, comes-named, each-flat_map}
use Rattle.rs_view.specs.Fresh.{fresh, fresh_questions, growing}
use Rattle.rs_view.specs.Views.{IsKeepable, ViewDef}
use Rattle.rs_view.proofs.SplitFacts.{no_lengths, old-no_new}

-- each question calls a predicate of a term of the query
fresh-called : (catalogue : CatalogDef) (query : Query) (old : List ℕ) → IsQuery catalogue query → IsKeepable query
    → AllByRecursion (AsksIt catalogue query) (fresh_questions catalogue (block_in query 1) old)
fresh-called catalogue (One block limit) old formed all =
    each-flat_map (AsksIt catalogue (One block limit)) (row_questions 1 block) (fresh catalogue block old)
    (λ rows. each-map (AsksIt catalogue (One block limit)) (question_of 1 block rows) block.terms (block-called catalogue (One block limit) block formed.0 (λ term i. i)))
fresh-called catalogue (Set op left right limit) old formed all = absurd all

-- so does each fault
pub fresh-named : {A : Type 0} (catalogue : CatalogDef) (query : Query) (old : List ℕ) (value : A) (fault : PlainFault) (before after : ScorerState)
    → IsQuery catalogue query → IsKeepable query
    → Inquires Memory (asking plain_faults before.answer catalogue (fresh_questions catalogue (block_in query 1) old) value) (Err fault) before after
    → NamesCalled catalogue query fault
fresh-named catalogue query old value fault before after formed all inquired =
    comes-named catalogue query before.answer (fresh_questions catalogue (block_in query 1) old) value fault before after (fresh-called catalogue query old formed all) inquired.comes

-- from no rows all questions of the query are fresh
pub questions-all : (catalogue : CatalogDef) (query : Query) → IsQuery catalogue query → IsKeepable query
    → fresh_questions catalogue (block_in query 1) no_lengths ≡ questions_of catalogue query (all_rows catalogue query)
questions-all catalogue (One block limit) formed all = ap (flat_map (row_questions 1 block)) (fresh-all catalogue block formed.0)
questions-all catalogue (Set op left right limit) formed all = absurd all

-- where nothing is new there is no question
pub fresh-none : (catalogue : CatalogDef) (block : Block) (lengths : List ℕ) → lengths ≡ sizes_of catalogue block → fresh_questions catalogue block lengths ≡ []
fresh-none catalogue block lengths same =
    let none : fresh catalogue block lengths ≡ [] =
    filter-none (has_new_row lengths) (all_combinations catalogue block)
    (λ rows h. ap (λ old. has_new_row old rows) same ∙ old-no_new catalogue block (sizes_of catalogue block) rows h) in
    ap (flat_map (row_questions 1 block)) none

-- and nothing is asked
pub nothing-asked : (answer : Answering) (catalogue : CatalogDef) (view : ViewDef) → view.lengths ≡ sizes_of catalogue (block_in view.query 1)
    → (growing answer catalogue view).requests ≡ []
nothing-asked answer catalogue view same =
    ap (λ questions. map (request_for plain_faults catalogue) (through_first (is_bad answer catalogue) questions)) (fresh-none catalogue (block_in view.query 1) view.lengths same)
