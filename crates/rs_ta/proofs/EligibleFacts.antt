-- What an eligible block is made of: one FROM entry, and a rank index for each term.
use Rattle.std.proofs.Common.{◌≡◌, ◌∙◌, ℕ, zero, suc, ◌<◌, ◌≤◌, Bool, true, false, cond, List, [], ◌∷◌, ◌++◌, length, map, get_or, refl, ap, subst, arith}
use Rattle.std.specs.Prelude.{Option, Some, None, option_map}
use Rattle.std.specs.List.{AllByRecursion}
use Rattle.std.proofs.lemmas.List.{length-map}
use Rattle.rs_order.proofs.EachFacts.{each-slice_get}
use Rattle.rs_expr.specs.Scoring.{Answering}
use Rattle.rs_catalog.specs.Catalog.{CatalogDef, RankIndex}
use Rattle.rs_catalog.specs.Indexes.{index_of, ranking_at}
use Rattle.rs_catalog.specs.IndexesHold.{Holds, IndexHolds, IndexesHold}
use Rattle.rs_catalog.proofs.IndexForFacts.{index-for}
use Rattle.rs_query.specs.Answers.{padded}
use Rattle.rs_query.specs.WellFormed.{IsBlock, IsTerm}
use Rattle.rs_query.specs.declared.block.Block.{Block}
use Rattle.rs_query.specs.declared.term.Term.{Term}
use Rattle.rs_ta.specs.Eligible.{block_input, eligible_indexes, entry_indexes, in_front, term_indexes}
use Rattle.rs_ta.specs.IndexLists.{AreOfOneTable, table_of_index}
use Rattle.rs_ta.specs.Scans.{HaveWeights}

-- each term has its index
abbrev pub AreFound : CatalogDef → ℕ → List Term → List ℕ → Type 0
AreFound catalogue table [] [] = Unit {0}
AreFound catalogue table [] (index ∷ indexes) = ⊥
AreFound catalogue table (term ∷ terms) [] = ⊥
AreFound catalogue table (term ∷ terms) (index ∷ indexes) =
    (index_of table term.predicate term.args 1 catalogue ≡ Some index) × AreFound catalogue table terms indexes

record AreInFront (first : Option ℕ) (others : Option (List ℕ)) (all : List ℕ) : Type 0 where
  index : ℕ
  indexes : List ℕ
  first_is : first ≡ Some index
  others_are : others ≡ Some indexes
  all_are : index ∷ indexes ≡ all

in_front-parts : (first : Option ℕ) (others : Option (List ℕ)) (all : List ℕ) → in_front first others ≡ Some all → AreInFront first others all
in_front-parts None others all e = cc
in_front-parts (Some index) None all e = cc
in_front-parts (Some index) (Some indexes) all e = record { index = index; indexes = indexes; first_is = refl; others_are = refl; all_are = cc }

found-from : (catalogue : CatalogDef) (table : ℕ) (terms : List Term) (indexes : List ℕ) → term_indexes catalogue table terms ≡ Some indexes → AreFound catalogue table terms indexes
found-from catalogue table [] [] e = tt
found-from catalogue table [] (index ∷ indexes) e = cc
found-from catalogue table (term ∷ terms) indexes e =
    let parts = in_front-parts (index_of table term.predicate term.args 1 catalogue) (term_indexes catalogue table terms) indexes e in
    subst (AreFound catalogue table (term ∷ terms)) parts.all_are (parts.first_is, found-from catalogue table terms parts.indexes parts.others_are)

-- the parts of an eligible block
pub record IsEligible (catalogue : CatalogDef) (from : List (ℕ × List ℕ)) (terms : List Term) (indexes : List ℕ) : Type 0 where
  pub table : ℕ
  pub alias : List ℕ
  pub from_is : from ≡ (table, alias) ∷ []
  pub some : 1 ≤ length terms
  pub found : AreFound catalogue table terms indexes

entry-from : (catalogue : CatalogDef) (from : List (ℕ × List ℕ)) (terms : List Term) (indexes : List ℕ) → entry_indexes catalogue from terms ≡ Some indexes → IsEligible catalogue from terms indexes
entry-from catalogue [] terms indexes e = cc
entry-from catalogue (entry ∷ []) [] indexes e = cc
entry-from catalogue (entry ∷ []) (term ∷ terms) indexes e = record {
  table = entry.0;
  alias = entry.1;
  from_is = refl;
  some = omega arith;
  found = found-from catalogue entry.0 (term ∷ terms) indexes e;
}
entry-from catalogue (entry ∷ other ∷ rest) terms indexes e = cc

unless-some : {A : Type 0} (b : Bool) (o : Option A) (x : A) → cond b None o ≡ Some x → (b ≡ false) × (o ≡ Some x)
unless-some true o x e = cc
unless-some false o x e = (refl, e)

module _ (catalogue : CatalogDef) (block : Block) (indexes : List ℕ) (eligible : eligible_indexes catalogue block ≡ Some indexes) where
  pub eligible-parts : IsEligible catalogue block.from block.terms indexes
  eligible-parts = entry-from catalogue block.from block.terms indexes (unless-some block.distinct (entry_indexes catalogue block.from block.terms) indexes eligible).1

  pub eligible-distinct : block.distinct ≡ false
  eligible-distinct = (unless-some block.distinct (entry_indexes catalogue block.from block.terms) indexes eligible).0

  pub eligible-entry : length block.from ≡ 1
  eligible-entry = ap (λ (from : List (ℕ × List ℕ)). length from) eligible-parts.from_is

-- as many indexes as terms
pub found-count : (catalogue : CatalogDef) (table : ℕ) (terms : List Term) (indexes : List ℕ) → AreFound catalogue table terms indexes → length indexes ≡ length terms
found-count catalogue table [] [] found = refl
found-count catalogue table [] (index ∷ indexes) found = absurd found
found-count catalogue table (term ∷ terms) [] found = absurd found
found-count catalogue table (term ∷ terms) (index ∷ indexes) found = ap suc (found-count catalogue table terms indexes found.1)

-- each is of the table
found-table : (catalogue : CatalogDef) (table : ℕ) (terms : List Term) (indexes : List ℕ) → AreFound catalogue table terms indexes
    → AllByRecursion (λ index. table_of_index catalogue index ≡ Some table) indexes
found-table catalogue table [] [] found = tt
found-table catalogue table [] (index ∷ indexes) found = absurd found
found-table catalogue table (term ∷ terms) [] found = absurd found
found-table catalogue table (term ∷ terms) (index ∷ indexes) found =
    let is = index-for catalogue table term.predicate term.args 1 index found.0 in
    (ap (option_map (λ (i : RankIndex). i.def.table)) is.there ∙ ap Some is.table_is, found-table catalogue table terms indexes found.1)

pub eligible-one_table : (catalogue : CatalogDef) (block : Block) (indexes : List ℕ) → IsBlock catalogue block → eligible_indexes catalogue block ≡ Some indexes → AreOfOneTable catalogue indexes
eligible-one_table catalogue block indexes formed eligible =
    let is = eligible-parts catalogue block indexes eligible in
    let some = is.some in
    let few = formed.most_terms in
    let count = found-count catalogue is.table block.terms indexes is.found in
    record { some = omega arith; few = omega arith; table = is.table; each = found-table catalogue is.table block.terms indexes is.found }

-- each term has a weight
weighted : (catalogue : CatalogDef) (block : Block) (size : ℕ) (terms : List Term) → AllByRecursion (IsTerm catalogue block) terms → length terms ≤ size
    → (place : ℕ) → place < length terms → 1 ≤ get_or (padded size (map (λ (t : Term). t.weight) terms)) place 0
weighted catalogue block size [] formed few place within = absurd (omega arith)
weighted catalogue block zero (term ∷ terms) formed few place within = absurd (omega arith)
weighted catalogue block (suc size) (term ∷ terms) formed few zero within = formed.0.some_weight
weighted catalogue block (suc size) (term ∷ terms) formed few (suc place) within = weighted catalogue block size terms formed.1 (omega arith) place (omega arith)

pub eligible-weights : (catalogue : CatalogDef) (block : Block) (indexes : List ℕ) → IsBlock catalogue block → eligible_indexes catalogue block ≡ Some indexes
    → HaveWeights (block_input catalogue block indexes)
eligible-weights catalogue block indexes formed eligible place within =
    let is = eligible-parts catalogue block indexes eligible in
    let count = found-count catalogue is.table block.terms indexes is.found in
    let lists = length-map indexes (ranking_at catalogue) in
    weighted catalogue block 8 block.terms formed.terms formed.most_terms place (omega arith)

-- numbers in front of others, where there are those
abbrev pub all_behind : List ℕ → Option (List ℕ) → Option (List ℕ)
all_behind front None = None
all_behind front (Some rest) = Some (front ++ rest)

-- each of some indexes holds the scorer's answers, where all of the catalogue do
pub held-indexes : (answer : Answering) (catalogue : CatalogDef) (indexes : List ℕ) → IndexesHold answer catalogue → AllByRecursion (Holds answer catalogue) indexes
held-indexes answer catalogue [] held = tt
held-indexes answer catalogue (index ∷ indexes) held = (
  λ found there. (each-slice_get (IndexHolds answer catalogue) catalogue.indexes index found held there).holds,
  held-indexes answer catalogue indexes held,
)
