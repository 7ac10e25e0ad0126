-- The list of a set operator: the answers that its core gives of the lists of its sides.
use Rattle.std.proofs.Common.{◌≡◌, ◌∙◌, ℕ, ◌||◌, Bool, true, false, not, ◌++◌, List, [], ◌∷◌, map, Option, inl, inr, refl, sym, ap, ap₂, subst, arith}
use Rattle.std.proofs.lemmas.List.{map-append}
use Rattle.std.specs.List.{AllByRecursion, filter}
use Rattle.rs_order.specs.Climbing.{Climbs, In, Precedes}
use Rattle.rs_order.specs.Sorting.{sorted}
use Rattle.rs_order.proofs.EachFacts.{each-append, each-filter, each-map, each-weaker}
use Rattle.rs_order.proofs.ItemFacts.{In-append, In-map-back}
use Rattle.rs_rank.specs.Keys.{ids_cmp, key_cmp}
use Rattle.rs_rank.specs.Weights.{IsWeights}
use Rattle.rs_rank.specs.declared.answer.Answer.{Answer}
use Rattle.rs_rank.specs.declared.ids.Ids.{Ids}
use Rattle.rs_expr.specs.Scoring.{Answering}
use Rattle.rs_catalog.specs.Catalog.{CatalogDef}
use Rattle.rs_value.specs.declared.set_op.SetOp.{SetOp}
use Rattle.rs_value.specs.declared.set_op.SetOp.TheVariants as op
use Rattle.rs_outputs.specs.Rows.{OutputRow, firsts as output_firsts, occurs_in as output_occurs}
use Rattle.rs_outputs.specs.Seen.{same_values}
use Rattle.rs_outputs.proofs.SameFacts.{same_values-sym}
use Rattle.rs_query.specs.Answers.{answer_row, base_of, distinct_if, occurs_in, set_base}
use Rattle.rs_query.specs.Combinations.{combinations}
use Rattle.rs_query.specs.Tables.{all_entries}
use Rattle.rs_query.specs.Views.{View}
use Rattle.rs_query.specs.WellFormed.{IsQuery}
use Rattle.rs_query.specs.declared.block.Block.{Block}
use Rattle.rs_query.specs.declared.query.Query.TheVariants.{Set}
use Rattle.rs_query.proofs.RiseFacts.{Rise, Rise-base, each-firsts}
use Rattle.rs_setop.specs.Sets.{set_rows}
use Rattle.rs_setop.specs.Sides.{AreBases, AreSides as AreSideRows, IsRowOf, answers}
use Rattle.rs_setop.proofs.BaseFacts.{answers-sorted, sides-sorted}
use Rattle.rs_plan.specs.Lists.{World, key_under, numbered_block, row_under, sizes_in, sources, weights_in}
use Rattle.rs_plan.specs.Plans.{IsComplete}
use Rattle.rs_plan.specs.Trees.{SetOperator, PlanTree, entries, terms}
use Rattle.rs_exec.specs.OutputValues.{output_row, outputs_in}
use Rattle.rs_exec.specs.SetNodes.{sides_for}
use Rattle.rs_exec.proofs.AlikeFacts.{same-sums}
use Rattle.rs_exec.proofs.DistinctListFacts.{Shows, map-filter, output-firsts, output_key, output_of, outputs-sorted, rows-show}
use Rattle.rs_exec.proofs.SourceFacts.{sources-complete}
use Rattle.rs_exec.specs.Asked.{IsBoundedWorld}
use Rattle.rs_exec.proofs.PartMaskFacts.{terms-inside}
use Rattle.rs_exec.proofs.SumFacts.{IsSeen, row-sum, seen-base}

module _ (w : World) (mask : ℕ) where
  -- the rows of a block show their values
  pub base-shows : (number : ℕ) → AllByRecursion (Shows w mask) (base_of w.answer w.catalogue number (numbered_block w number) (sizes_in w number))
  base-shows number = go (numbered_block w number).distinct where
    all : AllByRecursion (Shows w mask) (map (answer_row w.answer w.catalogue (numbered_block w number) number) (combinations w.catalogue (numbered_block w number) (sizes_in w number) (all_entries (numbered_block w number))))
    all = rows-show w mask number (combinations w.catalogue (numbered_block w number) (sizes_in w number) (all_entries (numbered_block w number)))

    go : (distinct : Bool) → AllByRecursion (Shows w mask) (distinct_if distinct (map (answer_row w.answer w.catalogue (numbered_block w number) number)
        (combinations w.catalogue (numbered_block w number) (sizes_in w number) (all_entries (numbered_block w number)))))
    go true = each-firsts (Shows w mask) (map (answer_row w.answer w.catalogue (numbered_block w number) number) (combinations w.catalogue (numbered_block w number) (sizes_in w number) (all_entries (numbered_block w number)))) all
    go false = all

  -- whether a row's values occur among those of others
  occurs-same : (rights : List Answer) (row : Answer) → AllByRecursion (Shows w mask) rights → Shows w mask row
      → occurs_in rights row ≡ output_occurs (map (output_of w mask) rights) (output_of w mask row)
  occurs-same [] row shows is = refl
  occurs-same (right ∷ rights) row shows is =
      ap₂ (λ (a b : Bool). a || b)
      (same_values-sym right.values row.values ∙ ap₂ same_values (sym is) (sym shows.0))
      (occurs-same rights row shows.1 is)

  each-occurs : (test : Bool → Bool) (lefts rights : List Answer) → AllByRecursion (Shows w mask) lefts → AllByRecursion (Shows w mask) rights
      → AllByRecursion (λ (row : Answer). test (occurs_in rights row) ≡ test (output_occurs (map (output_of w mask) rights) (output_of w mask row))) lefts
  each-occurs test lefts rights l r =
      each-weaker (Shows w mask) (λ (row : Answer). test (occurs_in rights row) ≡ test (output_occurs (map (output_of w mask) rights) (output_of w mask row)))
      (λ row is. ap test (occurs-same rights row r is)) lefts l

  -- what a set operator makes of rows of the answer, as rows of a node
  pub set-outputs : (o : SetOp) (lefts rights : List Answer) → AllByRecursion (Shows w mask) lefts → AllByRecursion (Shows w mask) rights
      → map (output_of w mask) (set_base o lefts rights) ≡ set_rows o (map (output_of w mask) lefts) (map (output_of w mask) rights)
  set-outputs op.UnionAll lefts rights l r = map-append (output_of w mask) lefts rights
  set-outputs op.Union lefts rights l r =
      output-firsts w mask (lefts ++ rights) (each-append (Shows w mask) lefts rights l r) ∙ ap output_firsts (map-append (output_of w mask) lefts rights)
  set-outputs op.Intersect lefts rights l r =
      output-firsts w mask (filter (occurs_in rights) lefts) (each-filter (Shows w mask) (occurs_in rights) lefts l)
      ∙ ap output_firsts (map-filter (output_of w mask) (occurs_in rights) (output_occurs (map (output_of w mask) rights)) lefts (each-occurs (λ b. b) lefts rights l r))
  set-outputs op.Except lefts rights l r =
      output-firsts w mask (filter (λ row. not (occurs_in rights row)) lefts) (each-filter (Shows w mask) (λ row. not (occurs_in rights row)) lefts l)
      ∙ ap output_firsts (map-filter (output_of w mask) (λ row. not (occurs_in rights row)) (λ row. not (output_occurs (map (output_of w mask) rights) row)) lefts (each-occurs not lefts rights l r))

  -- rows of the answer whose ids rise
  outputs-rise : (rows : List Answer) → Rise rows → Climbs ids_cmp (λ (row : OutputRow). row.row.ids) (map (output_of w mask) rows)
  outputs-rise [] h = tt
  outputs-rise (row ∷ rows) h = (each-map (Precedes ids_cmp (λ (r : OutputRow). r.row.ids) (output_of w mask row)) (output_of w mask) rows (before rows h.0), outputs-rise rows h.1)
    where
      before : (others : List Answer) → AllByRecursion (Precedes ids_cmp (λ (r : Answer). r.ids) row) others
          → AllByRecursion (λ (other : Answer). Precedes ids_cmp (λ (r : OutputRow). r.row.ids) (output_of w mask row) (output_of w mask other)) others
      before [] k = tt
      before (other ∷ others) k = (k.0, before others k.1)

-- the two sides of the set operator of a query
module _ (catalogue : CatalogDef) (answer : Answering) (view : View) (o : SetOp) (left_block right_block : Block) (limit : Option ℕ) (left right : PlanTree) where
  abbrev pub set_world : World
  set_world = record { catalogue = catalogue; answer = answer; query = Set o left_block right_block limit; view = view }

  abbrev mask : ℕ
  mask = terms left

  abbrev lefts : List Answer
  lefts = base_of answer catalogue 1 left_block view.first

  abbrev rights : List Answer
  rights = base_of answer catalogue 2 right_block view.second

  module _ (formed : IsQuery catalogue (Set o left_block right_block limit)) (bounded : IsBoundedWorld set_world) (weights : IsWeights (weights_in set_world)) (left_whole : IsComplete catalogue left_block left)
      (right_whole : IsComplete catalogue right_block right) (same : terms left ≡ terms right) where
    each-of : (number : ℕ) → AllByRecursion (λ (row : Answer). row.ids.block ≡ number) (base_of answer catalogue number (numbered_block set_world number) (sizes_in set_world number))
    each-of number = go (numbered_block set_world number).distinct where
      rows-of : (all : List (List ℕ)) → AllByRecursion (λ (row : Answer). row.ids.block ≡ number) (map (answer_row answer catalogue (numbered_block set_world number) number) all)
      rows-of [] = tt
      rows-of (rows ∷ rest) = (refl, rows-of rest)

      go : (distinct : Bool) → AllByRecursion (λ (row : Answer). row.ids.block ≡ number) (distinct_if distinct (map (answer_row answer catalogue (numbered_block set_world number) number)
          (combinations catalogue (numbered_block set_world number) (sizes_in set_world number) (all_entries (numbered_block set_world number)))))
      go true =
          each-firsts (λ (row : Answer). row.ids.block ≡ number) (map (answer_row answer catalogue (numbered_block set_world number) number) (combinations catalogue (numbered_block set_world number) (sizes_in set_world number) (all_entries (numbered_block set_world number))))
          (rows-of (combinations catalogue (numbered_block set_world number) (sizes_in set_world number) (all_entries (numbered_block set_world number))))
      go false = rows-of (combinations catalogue (numbered_block set_world number) (sizes_in set_world number) (all_entries (numbered_block set_world number)))

    side-rows : (number : ℕ) (rows : List Answer) → AllByRecursion (λ (row : Answer). row.ids.block ≡ number) rows
        → AllByRecursion (λ (row : Answer). IsSeen set_world 1 (entries left) row.ids) rows
        → AllByRecursion (IsRowOf (sides_for set_world left) number) (map (output_of set_world (terms left)) rows)
    side-rows number [] each seen = tt
    side-rows number (row ∷ rows) each seen = (
      record { block = each.0; sum = row-sum set_world 1 left row.ids formed (terms-inside catalogue left_block left left_whole.part) seen.0 },
      side-rows number rows each.1 seen.1,
    )

    image-of : (z : OutputRow) → In z (map (output_of set_world (terms left)) lefts ++ map (output_of set_world (terms left)) rights) → (row : Answer) × (z ≡ output_of set_world (terms left) row)
    image-of z h = elim (In-append z (map (output_of set_world mask) lefts) (map (output_of set_world mask) rights) h) [
      | inl k ↦ (let image = In-map-back (output_of set_world mask) z lefts k in (image.source, image.image))
      | inr k ↦ (let image = In-map-back (output_of set_world mask) z rights k in (image.source, image.image))
    ]

    bases : AreBases (sides_for set_world left) (map (output_of set_world (terms left)) lefts) (map (output_of set_world (terms left)) rights)
    bases = record {
      limits = weights;
      blocks = omega arith;
      left_rows = side-rows 1 lefts (each-of 1) (seen-base set_world 1 1 (entries left) (bounded 1 (inl refl)));
      right_rows = side-rows 2 rights (each-of 2) (seen-base set_world 2 1 (entries left) (bounded 2 (inr refl)));
      left_rising = outputs-rise set_world mask lefts (Rise-base answer catalogue 1 left_block view.first);
      right_rising = outputs-rise set_world mask rights (Rise-base answer catalogue 2 right_block view.second);
      alike = λ x y h k values.
          let a = image-of x h in
          let b = image-of y k in
          ap (λ (r : OutputRow). r.row.sum) a.1
          ∙ same-sums set_world mask (a.0).ids (b.0).ids formed tt
          (sym (ap (λ (r : OutputRow). r.values) a.1) ∙ values ∙ ap (λ (r : OutputRow). r.values) b.1)
          ∙ sym (ap (λ (r : OutputRow). r.row.sum) b.1);
    }

    -- the list of a side is its rows in order
    left-outputs : outputs_in set_world 1 left ≡ sorted key_cmp (output_key set_world (terms left)) (map (output_of set_world (terms left)) lefts)
    left-outputs =
        ap (λ (ids : List Ids). map (output_row set_world) (sorted key_cmp (key_under set_world mask) (map (row_under set_world mask) ids))) (sources-complete set_world 1 left left_whole)
        ∙ outputs-sorted set_world mask lefts

    right-outputs : outputs_in set_world 2 right ≡ sorted key_cmp (output_key set_world (terms left)) (map (output_of set_world (terms left)) rights)
    right-outputs =
        ap (λ m. map (output_row set_world) (sorted key_cmp (key_under set_world m) (map (row_under set_world m) (sources set_world 2 right)))) (sym same)
        ∙ ap (λ (ids : List Ids). map (output_row set_world) (sorted key_cmp (key_under set_world mask) (map (row_under set_world mask) ids))) (sources-complete set_world 2 right right_whole)
        ∙ outputs-sorted set_world mask rights

    pub set-sides : AreSideRows (sides_for set_world left) (outputs_in set_world 1 left) (outputs_in set_world 2 right)
    set-sides =
        subst (λ (rows : List OutputRow). AreSideRows (sides_for set_world left) rows (outputs_in set_world 2 right)) (sym left-outputs)
        (subst (λ (rows : List OutputRow). AreSideRows (sides_for set_world left) (sorted key_cmp (output_key set_world mask) (map (output_of set_world mask) lefts)) rows) (sym right-outputs)
        (sides-sorted (sides_for set_world left) (map (output_of set_world mask) lefts) (map (output_of set_world mask) rights) bases))

    pub set-list : outputs_in set_world 1 (SetOperator left right) ≡ answers (sides_for set_world left) o (outputs_in set_world 1 left) (outputs_in set_world 2 right)
    set-list =
        outputs-sorted set_world mask (set_base o lefts rights)
        ∙ ap (sorted key_cmp (output_key set_world mask)) (set-outputs set_world mask o lefts rights (base-shows set_world mask 1) (base-shows set_world mask 2))
        ∙ sym (answers-sorted (sides_for set_world left) (map (output_of set_world mask) lefts) (map (output_of set_world mask) rights) bases o)
        ∙ ap₂ (answers (sides_for set_world left) o) (sym left-outputs) (sym right-outputs)
