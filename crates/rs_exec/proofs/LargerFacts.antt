-- What joins a catalogue changes nothing of the blocks, queries and plans that are there.
use Rattle.std.proofs.Common.{◌≡◌, ◌∙◌, ℕ, zero, suc, ◌+◌, ◌*◌, ◌-◌, ◌<◌, ◌≤◌, ◌==◌, ◌&&◌, Bool, true, cond, List, [], ◌∷◌, ◌++◌, length, length-append, map, get_or, pos, refl, sym, ap, subst, arith}
use Rattle.std.specs.Prelude.{Option, Some, None, if◌then◌else◌, nat_lt, option_and_then, option_map, position, slice_get, unwrap_or}
use Rattle.std.specs.List.{AllByRecursion, filter, list_all, position_or_len, flat_map}
use Rattle.std.proofs.lemmas.List.{get_or_append_left}
use Rattle.std.proofs.lemmas.List.Quantifiers.{position-Some}
use Rattle.std.proofs.lemmas.List.Sums.{position_or_len_is}
use Rattle.std.proofs.lemmas.Bool.{and_parts, eqb-true, lt-ltb}
use Rattle.std.proofs.lemmas.Option.{get_or_from_slice_get, slice_get_within}
use Rattle.rs_value.specs.declared.kind.Kind.{Kind}
use Rattle.rs_value.specs.declared.kind.Kind.TheVariants as kind
use Rattle.rs_value.specs.declared.value.Value.TheVariants as value
use Rattle.rs_table.specs.Column.{Column}
use Rattle.rs_table.specs.Relation.{Relation, cell_at}
use Rattle.rs_expr.specs.Formulas.{Constant}
use Rattle.rs_expr.specs.InOrder.{Inquiry}
use Rattle.rs_expr.specs.Meaning.{holds}
use Rattle.rs_expr.specs.Predicates.{PredicateDef}
use Rattle.rs_expr.specs.Scoring.{Answering}
use Rattle.rs_expr.specs.Uses.{condition_uses, is_kind}
use Rattle.rs_rank.specs.declared.scored_row.ScoredRow.{ScoredRow}
use Rattle.rs_catalog.specs.Catalog.{CatalogDef, NamedTable, RankIndex}
use Rattle.rs_catalog.specs.Indexes.{is_for, making, making_of, ranking_at, same_args}
use Rattle.rs_catalog.specs.declared.index.IndexFault.{IndexFault}
use Rattle.rs_catalog.specs.declared.index.BoundArg.{BoundArg}
use Rattle.rs_catalog.specs.declared.index.BoundArg.TheVariants as arg
use Rattle.rs_rank.specs.Ids.{merge_rows}
use Rattle.rs_filter.specs.JoinValues.{compared, equated_across, left_values, right_values}
use Rattle.rs_filter.specs.Matching.{is_across, is_choice, joins}
use Rattle.rs_query.specs.Answers.{answer_row, base_of, clamped, distinct_if, predicate_at, score_of, worth_of, worths_of}
use Rattle.rs_query.specs.Combinations.{choices, combinations, satisfies}
use Rattle.rs_query.specs.Conjuncts.{ConjunctDef}
use Rattle.rs_query.specs.Meaning.{argument_value, column_value, is_inside, outputs_of}
use Rattle.rs_query.specs.Tables.{all_entries, entry_table, row_number, size_of}
use Rattle.rs_query.specs.WellFormed.{AreArgs, IsArg, IsBlock, IsColumn, IsConjunct, IsFromEntry, IsQuery, IsTerm, column_kind, has_kind}
use Rattle.rs_query.specs.declared.block.Block.{Block}
use Rattle.rs_query.specs.declared.query.Query.{Query}
use Rattle.rs_query.specs.declared.query.Query.TheVariants.{One, Set}
use Rattle.rs_query.specs.declared.term.Term.{Term}
use Rattle.rs_order.proofs.EachFacts.{each-slice_get, each-weaker}
use Rattle.rs_catalog.proofs.JoinedFacts.{joined, slice_get-front}
use Rattle.rs_plan.specs.Plans.{IsComplete, IsPart, IsPlan, IsRankScan, IsSetPlan}
use Rattle.rs_plan.specs.Trees.{Distinct, JoinOperator, Rank, RankScan, SeqScan, SetOperator, PlanTree}
use Rattle.rs_exec.specs.Covering.{CoversBlock, HasPredicate}
use Rattle.rs_catalog.specs.IndexesHold.{Holds}
use Rattle.rs_exec.specs.Indexes.{PlanIndexesHold}
use Rattle.rs_exec.proofs.CoversFacts.{covers-block}

-- the first one that passes keeps its place in front of others
position-front : {A : Type 0} (p : A → Bool) (xs more : List A) (n : ℕ) → position p xs ≡ Some n → position p (xs ++ more) ≡ Some n
position-front p [] more n is = cc
position-front p (x ∷ xs) more n is =
    let found = position-Some p (x ∷ xs) n x is in
    let within : n < length (x ∷ xs) = found.0 in
    let all = length-append (x ∷ xs) more in
    let at : position_or_len p ((x ∷ xs) ++ more) ≡ n = position_or_len_is p ((x ∷ xs) ++ more) n x (omega arith)
    (λ k h. ap p (get_or_append_left (x ∷ xs) more x k (omega arith)) ∙ found.2 k h)
    (λ h. ap p (get_or_append_left (x ∷ xs) more x n within) ∙ found.1) in
    let inside : nat_lt n (length ((x ∷ xs) ++ more)) ≡ true = lt-ltb n (length ((x ∷ xs) ++ more)) (omega arith) in
    ap (λ k. cond (nat_lt k (length ((x ∷ xs) ++ more))) (Some k) None) at ∙ ap (λ b. cond b (Some n) None) inside

module _ (catalogue more : CatalogDef) where
  abbrev larger : CatalogDef
  larger = joined catalogue more

  -- FROM entries stand for the same tables
  tables-at : (from : List (ℕ × List ℕ)) (place : ℕ) → AllByRecursion (IsFromEntry catalogue) from
      → option_and_then (λ (f : ℕ × List ℕ). option_map (λ (t : NamedTable). t.table) (slice_get larger.tables f.0)) (slice_get from place)
      ≡ option_and_then (λ (f : ℕ × List ℕ). option_map (λ (t : NamedTable). t.table) (slice_get catalogue.tables f.0)) (slice_get from place)
  tables-at [] place all = refl
  tables-at (f ∷ from) zero all = ap (option_map (λ (t : NamedTable). t.table)) (slice_get-front catalogue.tables more.tables f.0 all.0)
  tables-at (f ∷ from) (suc place) all = tables-at from place all.1

  entry-larger : (from : ℕ × List ℕ) → IsFromEntry catalogue from → IsFromEntry larger from
  entry-larger from is = let all = length-append catalogue.tables more.tables in omega arith

  -- predicates keep their numbers
  pub predicate-same : (number : ℕ) → number < length catalogue.predicates → predicate_at larger number ≡ predicate_at catalogue number
  predicate-same number within =
      ap (λ (found : Option PredicateDef). unwrap_or found (record { name = []; params = []; max = 0; cost = 0; formula = Constant (pos 0) }))
      (slice_get-front catalogue.predicates more.predicates number within)

  module _ (block : Block) (covered : CoversBlock catalogue block) where
    tables-same : entry_table larger block ≡ entry_table catalogue block
    tables-same = λ i entry. tables-at block.from (entry - 1) covered.entries i

    -- so all that is read of them is the same
    pub size-same : size_of larger block ≡ size_of catalogue block
    size-same = λ i entry. unwrap_or (option_map (λ (table : Relation). length table.rows) (tables-same i entry)) 0

    value-same : column_value larger block ≡ column_value catalogue block
    value-same = λ i rows column.
        unwrap_or (option_and_then (λ (table : Relation). cell_at table (row_number rows column.0) column.1) (tables-same i column.0)) (value.Int (pos 0))

    kind-same : column_kind larger block ≡ column_kind catalogue block
    kind-same = λ i column.
        option_map (λ (c : Column). c.1) (option_and_then (λ (table : Relation). slice_get table.schema column.1) (tables-same i column.0))

    satisfies-same : satisfies larger block ≡ satisfies catalogue block
    satisfies-same = λ i mask rows.
        list_all (λ (conjunct : ConjunctDef). if is_inside conjunct.entries mask then holds conjunct.condition (map (value-same i rows) conjunct.columns) else true)
        block.conjuncts

    -- so are the join values of a row
    pub left_values-same : left_values larger block ≡ left_values catalogue block
    left_values-same = λ i left right rows.
        flat_map (λ (conjunct : ConjunctDef).
        map (λ (pair : (ℕ × ℕ) × (ℕ × ℕ)). compared conjunct.condition (value-same i rows pair.0)) (equated_across left right conjunct)) block.conjuncts

    pub right_values-same : right_values larger block ≡ right_values catalogue block
    right_values-same = λ i left right rows.
        flat_map (λ (conjunct : ConjunctDef).
        map (λ (pair : (ℕ × ℕ) × (ℕ × ℕ)). compared conjunct.condition (value-same i rows pair.1)) (equated_across left right conjunct)) block.conjuncts

    pub joins-same : joins larger block ≡ joins catalogue block
    joins-same = λ i left right l r.
        let sizes = map (size-same i) (1 ∷ 2 ∷ 3 ∷ 4 ∷ 5 ∷ 6 ∷ []) in
        ((l.ids.mask == left) && is_choice left sizes l.ids.rows)
        && (((r.ids.mask == right) && is_choice right sizes r.ids.rows)
        && list_all (λ (conjunct : ConjunctDef).
        if is_across left right conjunct then holds conjunct.condition (map (value-same i (merge_rows l.ids.rows r.ids.rows)) conjunct.columns) else true) block.conjuncts)

    pub combinations-same : combinations larger block ≡ combinations catalogue block
    combinations-same = λ i sizes mask. filter (satisfies-same i mask) (choices mask sizes)

    column-larger : (column : ℕ × ℕ) → IsColumn catalogue block column → IsColumn larger block column
    column-larger column is =
        subst (λ (kind_of : ℕ × ℕ → Option Kind). (1 ≤ column.0) × (column.0 ≤ length block.from) × ((kind : Kind) × (kind_of column ≡ Some kind))) (sym kind-same) is

    has_kind-same : (columns : List (ℕ × ℕ)) (kind : Kind) (place : ℕ) → has_kind larger block columns kind place ≡ has_kind catalogue block columns kind place
    has_kind-same columns kind place = go (slice_get columns place) refl where
      go : (column : Option (ℕ × ℕ)) → slice_get columns place ≡ column → has_kind larger block columns kind place ≡ has_kind catalogue block columns kind place
      go (Some column) at = rw at (ap (λ (kind_of : ℕ × ℕ → Option Kind). is_kind kind (kind_of column)) kind-same)
      go None at = rw at refl

    conjunct-larger : (conjunct : ConjunctDef) → IsConjunct catalogue block conjunct → IsConjunct larger block conjunct
    conjunct-larger conjunct c =
        let same : has_kind larger block conjunct.columns ≡ has_kind catalogue block conjunct.columns = λ i kind place. has_kind-same conjunct.columns kind place i in
        record {
          columns = each-weaker (IsColumn catalogue block) (IsColumn larger block) column-larger conjunct.columns c.columns;
          distinct = c.distinct;
          entries = c.entries;
          uses = ap (λ (has : Kind → ℕ → Bool). condition_uses has conjunct.condition) same ∙ c.uses;
          narrow = c.narrow;
          equality = c.equality;
        }

    arg-larger : (kind : Kind) (a : BoundArg) → IsArg catalogue block kind a → IsArg larger block kind a
    arg-larger k (arg.Column entry column) is =
        (column-larger (entry, column) is.0, ap (λ (kind_of : ℕ × ℕ → Option Kind). kind_of (entry, column)) kind-same ∙ is.1)
    arg-larger kind.Int (arg.Int n) is = is
    arg-larger kind.Text (arg.Int n) is = absurd is
    arg-larger kind.Text (arg.Text t) is = is
    arg-larger kind.Int (arg.Text t) is = absurd is

    args-larger : (kinds : List Kind) (args : List BoundArg) → AreArgs catalogue block kinds args → AreArgs larger block kinds args
    args-larger [] [] are = tt
    args-larger [] (a ∷ args) are = absurd are
    args-larger (kind ∷ kinds) [] are = absurd are
    args-larger (kind ∷ kinds) (a ∷ args) are = (arg-larger kind a are.0, args-larger kinds args are.1)

    term-larger : (term : Term) → IsTerm catalogue block term → IsTerm larger block term
    term-larger term t = record {
      predicate = t.predicate;
      has_predicate = slice_get-front catalogue.predicates more.predicates term.predicate (slice_get_within catalogue.predicates term.predicate t.predicate t.has_predicate)
          ∙ t.has_predicate;
      args = args-larger t.predicate.params term.args t.args;
      some_column = t.some_column;
      entries = t.entries;
      some_weight = t.some_weight;
      most_weight = t.most_weight;
      max = t.max;
    }

    block-larger : IsBlock catalogue block → IsBlock larger block
    block-larger is = record {
      some_entries = is.some_entries;
      most_entries = is.most_entries;
      entries = each-weaker (IsFromEntry catalogue) (IsFromEntry larger) entry-larger block.from is.entries;
      most_conjuncts = is.most_conjuncts;
      conjuncts = each-weaker (IsConjunct catalogue block) (IsConjunct larger block) conjunct-larger block.conjuncts is.conjuncts;
      most_items = is.most_items;
      items = each-weaker (IsColumn catalogue block) (IsColumn larger block) column-larger block.items is.items;
      most_terms = is.most_terms;
      terms = each-weaker (IsTerm catalogue block) (IsTerm larger block) term-larger block.terms is.terms;
    }

    -- a term is worth the same for each row
    pub argument-same : (rows : List ℕ) (a : BoundArg) → argument_value larger block rows a ≡ argument_value catalogue block rows a
    argument-same rows (arg.Column entry column) = λ i. value-same i rows (entry, column)
    argument-same rows (arg.Int n) = refl
    argument-same rows (arg.Text t) = refl

    worth-same : (answer : Answering) (rows : List ℕ) (term : Term) → HasPredicate catalogue term → worth_of answer larger block rows term ≡ worth_of answer catalogue block rows term
    worth-same answer rows term has =
        let predicate = predicate-same term.predicate has in
        λ i. clamped (predicate i).max (answer (predicate i) (map (λ (a : BoundArg). argument-same rows a i) term.args))

    worths-of : (answer : Answering) (rows : List ℕ) (terms : List Term) → AllByRecursion (HasPredicate catalogue) terms
        → map (worth_of answer larger block rows) terms ≡ map (worth_of answer catalogue block rows) terms
    worths-of answer rows [] are = refl
    worths-of answer rows (term ∷ terms) are = λ i. worth-same answer rows term are.0 i ∷ worths-of answer rows terms are.1 i

    pub worths-same : (answer : Answering) (rows : List ℕ) → worths_of answer larger block rows ≡ worths_of answer catalogue block rows
    worths-same answer rows = worths-of answer rows block.terms covered.terms

    -- so its rows have the same values and scores
    pub outputs-same : outputs_of larger block ≡ outputs_of catalogue block
    outputs-same = λ i rows. map (value-same i rows) block.items

    score-of : (answer : Answering) (rows : List ℕ) (terms : List Term) → AllByRecursion (HasPredicate catalogue) terms
        → score_of answer larger block rows terms ≡ score_of answer catalogue block rows terms
    score-of answer rows [] are = refl
    score-of answer rows (term ∷ terms) are = λ i. term.weight * worth-same answer rows term are.0 i + score-of answer rows terms are.1 i

    answer_row-same : (answer : Answering) → answer_row answer larger block ≡ answer_row answer catalogue block
    answer_row-same answer = λ i number rows. record {
      ids = record { block = number; mask = all_entries block; rows = rows };
      score = score-of answer rows block.terms covered.terms i;
      values = outputs-same i rows;
    }

    pub base-same : (answer : Answering) (number : ℕ) → base_of answer larger number block ≡ base_of answer catalogue number block
    base-same answer number = λ i sizes. distinct_if block.distinct (map (answer_row-same answer i number) (combinations-same i sizes (all_entries block)))

    -- an index that a plan of the block scans is one of the catalogue, for a table and a predicate of it
    module _ (entry term number : ℕ) (scans : IsRankScan catalogue block entry term number) where
      index-within : number < length catalogue.indexes
      index-within = go catalogue.indexes scans.first where
        go : (indexes : List RankIndex) → position (λ i. is_for scans.table scans.term.predicate scans.term.args entry i.def) indexes ≡ Some number → number < length indexes
        go [] first = cc
        go (index ∷ indexes) first = (position-Some (λ i. is_for scans.table scans.term.predicate scans.term.args entry i.def) (index ∷ indexes) number index first).0

      pub ranking-same : ranking_at larger number ≡ ranking_at catalogue number
      ranking-same = ap (λ (found : Option RankIndex). unwrap_or (option_map (λ i. i.ranking) found) []) (slice_get-front catalogue.indexes more.indexes number index-within)

      making-same : (answer : Answering) (index : RankIndex) → slice_get catalogue.indexes number ≡ Some index
          → making answer larger index.def ≡ making answer catalogue index.def
      making-same answer index at =
          let found = position-Some (λ i. is_for scans.table scans.term.predicate scans.term.args entry i.def) catalogue.indexes number index scans.first in
          let is_index : get_or catalogue.indexes number index ≡ index = get_or_from_slice_get catalogue.indexes number index index at in
          let of = subst (λ (i : RankIndex). is_for scans.table scans.term.predicate scans.term.args entry i.def ≡ true) is_index found.1 in
          let first = and_parts (index.def.table == scans.table)
          ((index.def.predicate == scans.term.predicate) && same_args entry scans.term.args index.def.args) of in
          let second = and_parts (index.def.predicate == scans.term.predicate) (same_args entry scans.term.args index.def.args) first.1 in
          let is_table = eqb-true index.def.table scans.table first.0 in
          let is_predicate = eqb-true index.def.predicate scans.term.predicate second.0 in
          let from = each-slice_get (IsFromEntry catalogue) block.from (entry - 1) (scans.table, scans.alias) covered.entries scans.from in
          let there = each-slice_get (HasPredicate catalogue) block.terms (term - 1) scans.term covered.terms scans.is_term.there in
          let tables = slice_get-front catalogue.tables more.tables index.def.table (omega arith) in
          let predicate = predicate-same index.def.predicate (omega arith) in
          λ i. making_of answer (predicate i) index.def.args (unwrap_or (option_map (λ (t : NamedTable). t.table.rows) (tables i)) [])

      holds-larger : (answer : Answering) → Holds answer catalogue number → Holds answer larger number
      holds-larger answer holds = λ index at.
          let there = sym (slice_get-front catalogue.indexes more.indexes number index-within) ∙ at in
          ap (λ (m : Inquiry (List ScoredRow) IndexFault). m.outcome) (making-same answer index there) ∙ holds index there

    pub indexes-larger : (answer : Answering) (tree : PlanTree) → IsPart catalogue block tree → PlanIndexesHold answer catalogue tree → PlanIndexesHold answer larger tree
    indexes-larger answer (SeqScan entry) part holds = tt
    indexes-larger answer (RankScan entry term number) part holds = holds-larger entry term number part answer holds
    indexes-larger answer (Rank term child) part holds = indexes-larger answer child part.0 holds
    indexes-larger answer (JoinOperator kind left right) part holds = (indexes-larger answer left part.0 holds.0, indexes-larger answer right part.1 holds.1)
    indexes-larger answer (Distinct child) part holds = indexes-larger answer child part.0 holds
    indexes-larger answer (SetOperator left right) part holds = absurd part

  -- queries stay queries
  pub query-larger : (query : Query) → IsQuery catalogue query → IsQuery larger query
  query-larger (One block limit) is = (block-larger block (covers-block catalogue block is.0) is.0, is.1, is.2)
  query-larger (Set op left right limit) is =
      let both = is.0 in
      let left_covered = covers-block catalogue left both.left_block in
      let right_covered = covers-block catalogue right both.right_block in (
        record {
          left_block = block-larger left left_covered both.left_block;
          right_block = block-larger right right_covered both.right_block;
          kinds = ap (λ (kind_of : ℕ × ℕ → Option Kind). map kind_of left.items) (kind-same left left_covered) ∙ both.kinds
              ∙ sym (ap (λ (kind_of : ℕ × ℕ → Option Kind). map kind_of right.items) (kind-same right right_covered));
          terms = both.terms;
        },
        is.1,
      )

  -- and plans plans: the first index for a term is still the first
  part-larger : (block : Block) (tree : PlanTree) → IsPart catalogue block tree → IsPart larger block tree
  part-larger block (SeqScan entry) part = part
  part-larger block (RankScan entry term number) part = record {
    is_entry = part.is_entry;
    term = part.term;
    is_term = part.is_term;
    alone = part.alone;
    table = part.table;
    alias = part.alias;
    from = part.from;
    first = position-front (λ i. is_for part.table part.term.predicate part.term.args entry i.def) catalogue.indexes more.indexes number part.first;
  }
  part-larger block (Rank term child) part = (part-larger block child part.0, part.1)
  part-larger block (JoinOperator kind left right) part = (part-larger block left part.0, part-larger block right part.1, part.2, part.3)
  part-larger block (Distinct child) part = (part-larger block child part.0, part.1)
  part-larger block (SetOperator left right) part = absurd part

  complete-larger : (block : Block) (tree : PlanTree) → IsComplete catalogue block tree → IsComplete larger block tree
  complete-larger block tree complete = record { part = part-larger block tree complete.part; all = complete.all; drops = complete.drops }

  set_plan-larger : (left right : Block) (tree : PlanTree) → IsSetPlan catalogue left right tree → IsSetPlan larger left right tree
  set_plan-larger left right (Rank term child) plan = (set_plan-larger left right child plan.0, plan.1)
  set_plan-larger left right (SetOperator l r) plan = (complete-larger left l plan.0, complete-larger right r plan.1, plan.2)
  set_plan-larger left right tree plan = absurd plan

  pub plan-larger : (query : Query) (tree : PlanTree) → IsPlan catalogue query tree → IsPlan larger query tree
  plan-larger (One block limit) tree plan = (complete-larger block tree plan.0, plan.1)
  plan-larger (Set op left right limit) tree plan = (set_plan-larger left right tree plan.0, plan.1)
