-- What becomes of one index as rows join a table.
use Rattle.std.proofs.Common.{ℕ, ◌≡◌, ◌∙◌, ◌+◌, ◌<◌, ◌≤◌, ◌++◌, Bool, true, false, List, [], length, refl, sym, ap, subst, inl, arith, eq-eqb, if◌then◌else◌}
use Rattle.std.specs.Prelude.{Option, None, Some, Ok, option_map, slice_get, unwrap_or, ◌==◌, pos, Result}
use Rattle.std.proofs.lemmas.Bool.{ne_eqb}
use Rattle.std.proofs.lemmas.List.{length-map}
use Rattle.std.proofs.lemmas.Option.{slice_get_within}
use Rattle.std.specs.Map.{values_of}
use Rattle.rs_value.specs.declared.value.Value.{Value}
use Rattle.rs_table.specs.Relation.{Relation, most_rows}
use Rattle.rs_expr.specs.Formulas.{Constant}
use Rattle.rs_expr.specs.InOrder.{Inquires, Inquiry}
use Rattle.rs_expr.specs.Predicates.{PredicateDef}
use Rattle.rs_expr.specs.Scoring.{Answering, ScorerState}
use Rattle.rs_expr.proofs.ScoringFacts.{KeepsScorer-refl, Made-none}
use Rattle.rs_rank.specs.Stable.{stable}
use Rattle.rs_catalog.specs.Catalog.{CatalogDef, NamedTable, RankIndex}
use Rattle.rs_catalog.specs.Growing.{CanJoin, comes_to, growing_index, scoring_new, scorings_new, with_entries}
use Rattle.rs_catalog.specs.Grown.{IsGrown, finished, index_in}
use Rattle.rs_catalog.specs.Indexes.{IsRanking, args_fit, predicate_for, rows_for}
use Rattle.rs_catalog.specs.Inside.{AreScores, IsInside, IsRanked, catalogue_of}
use Rattle.rs_catalog.specs.declared.catalog.RankIndex.{RankIndex as StoredIndex}
use Rattle.rs_catalog.specs.declared.growth.GrowFault.{GrowFault}
use Rattle.rs_catalog.specs.declared.growth.GrowFault.TheVariants.{Memory}
use Rattle.rs_catalog.specs.declared.index.BoundArg.{BoundArg}
use Rattle.rs_catalog.specs.declared.ranked.Ranked.{Ranked}
use Rattle.rs_catalog.proofs.InTurnFacts.{IsFree, IsFree-finished, IsFree-in_turn}
use Rattle.rs_catalog.proofs.InsideFacts.{index_at, ranked_at, scores_at}

-- a new row is always asked for
pub IsFree-scoring_new : (answer : Answering) (index : ℕ) (predicate : PredicateDef) (args : List BoundArg) (row : ℕ) (values : List Value) → IsFree (scoring_new answer index predicate args row values)
IsFree-scoring_new answer index predicate args row values none = cc

module _ (answer : Answering) (catalogue : CatalogDef) (table : ℕ) (rows : List (List Value)) (number : ℕ) (index : RankIndex) where
  abbrev own : Inquiry RankIndex GrowFault
  own = finished (λ entries. with_entries entries index) (scorings_new answer number (predicate_for catalogue index.def) index.def.args (length (rows_for catalogue index.def) + 1) rows)

  -- an index of the table, and one of another
  pub growing_index-own : index.def.table ≡ table → growing_index answer catalogue table rows number index ≡ own
  growing_index-own same = ap (λ b. if b then own else comes_to index) (eq-eqb index.def.table table same)

  pub growing_index-other : (index.def.table ≡ table → ⊥) → growing_index answer catalogue table rows number index ≡ comes_to index
  growing_index-other differ = ap (λ b. if b then own else comes_to index) (ne_eqb index.def.table table differ)

  pub IsFree-growing_index : IsFree (growing_index answer catalogue table rows number index)
  IsFree-growing_index = go (index.def.table == table) where
    go : (b : Bool) → IsFree (if b then own else comes_to index)
    go true = IsFree-finished (λ entries. with_entries entries index) (scorings_new answer number (predicate_for catalogue index.def) index.def.args (length (rows_for catalogue index.def) + 1) rows)
        (IsFree-in_turn (scoring_new answer number (predicate_for catalogue index.def) index.def.args)
        (IsFree-scoring_new answer number (predicate_for catalogue index.def) index.def.args) (length (rows_for catalogue index.def) + 1) rows)
    go false = λ none. refl

  -- nobody is asked about an index of another table
  pub Inquires-other : (scorer : ScorerState) → (index.def.table ≡ table → ⊥) → Inquires Memory (growing_index answer catalogue table rows number index) (Ok index) scorer scorer
  Inquires-other scorer differ =
      subst (λ (inquiry : Inquiry RankIndex GrowFault). Inquires Memory inquiry (Ok index) scorer scorer) (sym (growing_index-other differ))
      (record { comes = inl (inl (record { made = Made-none scorer; gives = refl })); keeps = KeepsScorer-refl scorer })

pub IsGrown-other : (catalogue : CatalogDef) (table more : ℕ) (index : RankIndex) → (index.def.table ≡ table → ⊥) → IsGrown catalogue table more index None
IsGrown-other catalogue table more index differ = record {
  of_table = λ ranked e. cc;
  of_others = λ none. differ;
  ordered = λ ranked e. cc;
  ranking = λ ranked e. cc;
  scores = λ ranked e. cc;
}

-- what is known of a kept index of a table that rows may join
pub record OfTable (catalogue : CatalogDef) (table : ℕ) (rows : List (List Value)) (stored : StoredIndex) (predicate : PredicateDef) (join : CanJoin catalogue table rows) : Type 0 where
  pub fits : args_fit join.named.table.schema predicate.params stored.def.args ≡ true
  pub size : length stored.scores.items ≡ length (rows_for catalogue stored.def)
  pub few : length stored.scores.items + length rows ≤ most_rows
  pub predicate_is : predicate_for catalogue stored.def ≡ predicate
  pub ranking : IsRanking (length stored.scores.items) predicate.max stored.ranking.items

pub OfTable-stored : (catalogue : CatalogDef) (table : ℕ) (rows : List (List Value)) (stored : StoredIndex) (predicate : PredicateDef) (join : CanJoin catalogue table rows)
    → stored.def.table ≡ table → IsRanked catalogue (index_in stored) → AreScores stored.ranking.items stored.scores.items → slice_get catalogue.predicates stored.def.predicate ≡ Some predicate
    → OfTable catalogue table rows stored predicate join
OfTable-stored catalogue table rows stored predicate join own ranked scores has_predicate =
    let fits = ranked.fits in
    let here : slice_get catalogue.tables stored.def.table ≡ Some join.named = ap (slice_get catalogue.tables) own ∙ join.has_table in
    let found : Some fits.table ≡ Some join.named = sym fits.has_table ∙ here in
    let same : fits.table ≡ join.named = cc in
    let found_predicate : Some fits.predicate ≡ Some predicate = sym fits.has_predicate ∙ has_predicate in
    let same_predicate : fits.predicate ≡ predicate = cc in
    let is : predicate_for catalogue stored.def ≡ predicate =
    ap (λ (found : Option PredicateDef). unwrap_or found (record { name = []; params = []; max = 0; cost = 0; formula = Constant (pos 0) })) has_predicate in
    let rows_are : rows_for catalogue stored.def ≡ join.named.table.rows = ap (λ (found : Option NamedTable). unwrap_or (option_map (λ (t : NamedTable). t.table.rows) found) []) here in
    let size : length stored.scores.items ≡ length (rows_for catalogue stored.def) = scores.all ∙ ranked.ranking.all in
    let few = join.few in
    let rows_size = ap length rows_are in
    record {
      fits = subst (λ (p : PredicateDef). args_fit join.named.table.schema p.params stored.def.args ≡ true) same_predicate
          (subst (λ (t : NamedTable). args_fit t.table.schema fits.predicate.params stored.def.args ≡ true) same fits.fits);
      size = size;
      few = omega arith;
      predicate_is = is;
      ranking = subst (λ (p : PredicateDef). IsRanking (length stored.scores.items) p.max stored.ranking.items) is
          (subst (λ n. IsRanking n (predicate_for catalogue stored.def).max stored.ranking.items) (sym size) ranked.ranking);
    }

module _ (catalogue : CatalogDef) (table : ℕ) (rows : List (List Value)) (stored : StoredIndex) (predicate : PredicateDef) (join : CanJoin catalogue table rows)
    (is : OfTable catalogue table rows stored predicate join) where
  -- an index of the table was asked about
  pub Inquires-own : (answer : Answering) (number : ℕ) → stored.def.table ≡ table → (result : Result RankIndex GrowFault) (old new : ScorerState)
      → Inquires Memory (finished (λ entries. with_entries entries (index_in stored)) (scorings_new answer number predicate stored.def.args (length stored.scores.items + 1) rows)) result old new
      → Inquires Memory (growing_index answer catalogue table rows number (index_in stored)) result old new
  Inquires-own answer number own result old new inquires =
      subst (λ (inquiry : Inquiry RankIndex GrowFault). Inquires Memory inquiry result old new) (sym (growing_index-own answer catalogue table rows number (index_in stored) own))
      (subst (λ n. Inquires Memory (finished (λ entries. with_entries entries (index_in stored)) (scorings_new answer number (predicate_for catalogue stored.def) stored.def.args (n + 1) rows)) result old new) is.size
      (subst (λ (p : PredicateDef). Inquires Memory (finished (λ entries. with_entries entries (index_in stored)) (scorings_new answer number p stored.def.args (length stored.scores.items + 1) rows)) result old new) (sym is.predicate_is) inquires))

  pub IsGrown-own : (ranked : Ranked) → stored.def.table ≡ table → stable (λ row. row.score) ranked.ranking.items ≡ ranked.ranking.items
      → IsRanking (length stored.scores.items + length rows) predicate.max (with_entries ranked.ranking.items (index_in stored)).ranking
      → ((scores : List ℕ) → AreScores stored.ranking.items scores → AreScores (with_entries ranked.ranking.items (index_in stored)).ranking (scores ++ ranked.scores.items))
      → IsGrown catalogue table (length rows) (index_in stored) (Some ranked)
  IsGrown-own ranked own ordered ranking scores =
      let here : IsRanking (length (rows_for catalogue stored.def) + length rows) (predicate_for catalogue stored.def).max (with_entries ranked.ranking.items (index_in stored)).ranking =
      subst (λ n. IsRanking (n + length rows) (predicate_for catalogue stored.def).max (with_entries ranked.ranking.items (index_in stored)).ranking) is.size
      (subst (λ (p : PredicateDef). IsRanking (length stored.scores.items + length rows) p.max (with_entries ranked.ranking.items (index_in stored)).ranking) (sym is.predicate_is) ranking) in
      record {
        of_table = λ other e. own;
        of_others = λ none. absurd (let e : Some ranked ≡ None = none in cc);
        ordered = λ other e. let same : ranked ≡ other = cc in subst (λ (r : Ranked). stable (λ row. row.score) r.ranking.items ≡ r.ranking.items) same ordered;
        ranking = λ other e. let same : ranked ≡ other = cc in subst (λ (r : Ranked). IsRanking (length (rows_for catalogue stored.def) + length rows) (predicate_for catalogue stored.def).max (with_entries r.ranking.items (index_in stored)).ranking) same here;
        scores = λ other e. let same : ranked ≡ other = cc in subst (λ (r : Ranked). (scores : List ℕ) → AreScores stored.ranking.items scores → AreScores (with_entries r.ranking.items (index_in stored)).ranking (scores ++ r.scores.items)) same scores;
      }

-- a kept index is the one of this number in the catalogue
module _ (tables : List (List ℕ × Relation)) (predicates : List (List ℕ × PredicateDef)) (indexes : List (List ℕ × StoredIndex)) (inside : IsInside tables predicates indexes)
    (catalogue : CatalogDef) (view : catalogue_of tables predicates indexes ≡ catalogue) (number : ℕ) (stored : StoredIndex) (at : slice_get (values_of indexes) number ≡ Some stored) where
  pub stored-same : (index : RankIndex) → slice_get catalogue.indexes number ≡ Some index → index_in stored ≡ index
  stored-same index is =
      let here : slice_get catalogue.indexes number ≡ Some (index_in stored) = subst (λ (c : CatalogDef). slice_get c.indexes number ≡ Some (index_in stored)) view (index_at tables predicates indexes number stored at) in
      let both : Some (index_in stored) ≡ Some index = sym here ∙ is in
      cc

  pub stored-ranked : IsRanked catalogue (index_in stored)
  stored-ranked = subst (λ (c : CatalogDef). IsRanked c (index_in stored)) view (ranked_at tables predicates indexes inside number stored at)

  pub stored-predicate : stored.def.predicate < length catalogue.predicates
  stored-predicate = slice_get_within catalogue.predicates stored.def.predicate stored-ranked.fits.predicate stored-ranked.fits.has_predicate

  pub stored-scores : AreScores stored.ranking.items stored.scores.items
  stored-scores = scores_at tables predicates indexes inside number stored at

  pub stored-of_table : (table : ℕ) (rows : List (List Value)) (join : CanJoin catalogue table rows) (predicate : PredicateDef) → stored.def.table ≡ table → slice_get catalogue.predicates stored.def.predicate ≡ Some predicate
      → OfTable catalogue table rows stored predicate join
  stored-of_table table rows join predicate own has_predicate = OfTable-stored catalogue table rows stored predicate join own stored-ranked stored-scores has_predicate

-- there are as many indexes in a catalogue as in its map
pub number-of-indexes : (tables : List (List ℕ × Relation)) (predicates : List (List ℕ × PredicateDef)) (indexes : List (List ℕ × StoredIndex)) (catalogue : CatalogDef)
    → catalogue_of tables predicates indexes ≡ catalogue → length catalogue.indexes ≡ length indexes
number-of-indexes tables predicates indexes catalogue view =
    ap (λ (c : CatalogDef). length c.indexes) (sym view) ∙ length-map (values_of indexes) index_in ∙ length-map indexes (λ (e : List ℕ × StoredIndex). e.1)
