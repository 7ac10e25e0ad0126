-- The list of an operator that drops duplicates: of the rows of its input, in the order of their keys, the first one of each list of
-- output values.
use Rattle.std.proofs.Common.{◌≡◌, ◌∙◌, ℕ, suc, Bool, true, false, not, cond, ◌++◌, List, [], ◌∷◌, map, refl, sym, ap, ap₂, subst, inr, arith, append-nil}
use Rattle.std.specs.List.{AllByRecursion, filter}
use Rattle.rs_order.specs.Climbing.{Climbs, In, Precedes}
use Rattle.rs_order.proofs.ClimbingFacts.{AllByRecursion-from_In}
use Rattle.rs_order.specs.Sorting.{sorted}
use Rattle.rs_order.proofs.ItemFacts.{In-map-back}
use Rattle.rs_order.proofs.PartFacts.{sorted-map}
use Rattle.rs_rank.specs.Keys.{ids_cmp, key_cmp}
use Rattle.rs_rank.specs.Weights.{IsWeights}
use Rattle.rs_rank.specs.declared.answer.Answer.{Answer}
use Rattle.rs_rank.specs.declared.ids.Ids.{Ids}
use Rattle.rs_rank.specs.declared.key.Key.{Key}
use Rattle.rs_rank.proofs.OrderFacts.{key_cmp-total}
use Rattle.rs_query.specs.Answers.{answer_row, distinct_if, firsts}
use Rattle.rs_query.specs.Combinations.{combinations}
use Rattle.rs_query.specs.Tables.{all_entries}
use Rattle.rs_query.specs.WellFormed.{IsQuery}
use Rattle.rs_query.specs.declared.query.Query.{Query}
use Rattle.rs_query.specs.declared.query.Query.TheVariants.{One, Set}
use Rattle.rs_query.proofs.RiseFacts.{each-firsts}
use Rattle.rs_value.specs.declared.set_op.SetOp.TheVariants as op
use Rattle.rs_outputs.specs.Rows.{OutputRow, firsts as output_firsts}
use Rattle.rs_outputs.specs.Seen.{same_values}
use Rattle.rs_outputs.proofs.FirstFacts.{Climbs-firsts}
use Rattle.rs_outputs.proofs.ListFacts.{distinct-climbs, sorted-of}
use Rattle.rs_outputs.proofs.SameFacts.{same_values-sym}
use Rattle.rs_setop.specs.Sides.{AreBases, IsRowOf, Sides}
use Rattle.rs_setop.proofs.BaseFacts.{answers-sorted, sides-sorted}
use Rattle.rs_plan.specs.Lists.{World, ids_of, key_under, numbered_block, row_under, sizes_in, sources, weights_in}
use Rattle.rs_query.specs.Blocks.{block_in}
use Rattle.rs_plan.specs.Plans.{IsPart}
use Rattle.rs_plan.specs.Trees.{Distinct, PlanTree, terms}
use Rattle.rs_exec.specs.OutputValues.{output_row, outputs_in}
use Rattle.rs_exec.proofs.AlikeFacts.{IsAlike, same-sums}
use Rattle.rs_exec.proofs.ListFacts.{sources-rise}
use Rattle.rs_exec.proofs.SourceFacts.{ids-rows, ids_in, sources-combinations}
use Rattle.rs_exec.specs.Asked.{HasBoundedWorths}
use Rattle.rs_exec.proofs.PartMaskFacts.{terms-inside}
use Rattle.rs_exec.proofs.SumFacts.{row-sum}

-- what passes a test, made from what passes another one
pub map-filter : {X Y : Type 0} (f : X → Y) (p : X → Bool) (q : Y → Bool) (xs : List X) → AllByRecursion (λ x. p x ≡ q (f x)) xs → map f (filter p xs) ≡ filter q (map f xs)
map-filter f p q [] same = refl
map-filter f p q (x ∷ xs) same =
    ap (λ b. map f (cond b (x ∷ filter p xs) (filter p xs))) same.0
    ∙ (elim (q (f x)) as (λ b. map f (cond b (x ∷ filter p xs) (filter p xs)) ≡ cond b (f x ∷ filter q (map f xs)) (filter q (map f xs))) [
      | true ↦ ap (λ (ys : List _). f x ∷ ys) (map-filter f p q xs same.1)
      | false ↦ map-filter f p q xs same.1
    ])

module _ (w : World) (mask : ℕ) where
  -- a row of the answer as one of a node, with its output values
  abbrev pub output_of : Answer → OutputRow
  output_of row = output_row w (row_under w mask row.ids)

  -- the values of a row of the answer are those of its ids
  abbrev pub Shows : Answer → Type 0
  Shows row = (output_of row).values ≡ row.values

  -- its key
  abbrev pub output_key : OutputRow → Key
  output_key row = key_under w mask row.row

  -- the first ones of rows of the answer, as rows of a node
  pub output-firsts : (rows : List Answer) → AllByRecursion Shows rows → map output_of (firsts rows) ≡ output_firsts (map output_of rows)
  output-firsts [] shows = refl
  output-firsts (row ∷ rows) shows =
      ap (λ (rest : List OutputRow). output_of row ∷ rest)
      (map-filter output_of (λ (other : Answer). not (same_values row.values other.values)) (λ (other : OutputRow). not (same_values other.values (output_of row).values)) (firsts rows)
      (each-kept (firsts rows) (each-firsts Shows rows shows.1))
      ∙ ap (filter (λ (other : OutputRow). not (same_values other.values (output_of row).values))) (output-firsts rows shows.1))
    where
      kept : (other : Answer) → Shows other → not (same_values row.values other.values) ≡ not (same_values (output_of other).values (output_of row).values)
      kept other is = ap not (same_values-sym row.values other.values ∙ ap₂ same_values (sym is) (sym shows.0))

      each-kept : (others : List Answer) → AllByRecursion Shows others
          → AllByRecursion (λ (other : Answer). not (same_values row.values other.values) ≡ not (same_values (output_of other).values (output_of row).values)) others
      each-kept [] all = tt
      each-kept (other ∷ others) all = (kept other all.0, each-kept others all.1)

  -- rows of a node, made of ids
  pub outputs-of_ids : (rows : List Answer) → map (output_row w) (map (row_under w mask) (ids_in rows)) ≡ map output_of rows
  outputs-of_ids [] = refl
  outputs-of_ids (row ∷ rows) = ap (λ (rest : List OutputRow). output_of row ∷ rest) (outputs-of_ids rows)

  -- in order they are what the ordered rows show
  pub outputs-sorted : (rows : List Answer)
      → map (output_row w) (sorted key_cmp (key_under w mask) (map (row_under w mask) (ids_in rows))) ≡ sorted key_cmp output_key (map output_of rows)
  outputs-sorted rows =
      sym (sorted-map key_cmp output_key (output_row w) (map (row_under w mask) (ids_in rows)))
      ∙ ap (sorted key_cmp output_key) (outputs-of_ids rows)

  -- the rows of a block show their values
  pub rows-show : (number : ℕ) (all : List (List ℕ)) → AllByRecursion Shows (map (answer_row w.answer w.catalogue (numbered_block w number) number) all)
  rows-show number [] = tt
  rows-show number (rows ∷ rest) = (refl, rows-show number rest)

-- the part of a block below an operator that drops duplicates
module _ (w : World) (number : ℕ) (child : PlanTree) (formed : IsQuery w.catalogue w.query) (bounded : HasBoundedWorths w number) (part : IsPart w.catalogue (numbered_block w number) (Distinct child))
    (weights : IsWeights (weights_in w)) where
  abbrev mask : ℕ
  mask = terms child

  -- all rows of the block
  abbrev all : List Answer
  all = map (answer_row w.answer w.catalogue (numbered_block w number) number) (combinations w.catalogue (numbered_block w number) (sizes_in w number) (all_entries (numbered_block w number)))

  -- are those of the input
  below : sources w number child ≡ ids_in (map (answer_row w.answer w.catalogue (numbered_block w number) number) (combinations w.catalogue (numbered_block w number) (sizes_in w number) (all_entries (numbered_block w number))))
  below =
      sources-combinations w (numbered_block w number) number child part.0 part.1.first
      ∙ ap (ids_of w number) part.1.all
      ∙ ids-rows w number (combinations w.catalogue (numbered_block w number) (sizes_in w number) (all_entries (numbered_block w number)))

  alike-in : (query : Query) → (block_in query number).distinct ≡ true → IsAlike query
  alike-in (One block limit) wanted = wanted
  alike-in (Set op left right limit) wanted = tt

  abbrev sides : Sides
  sides = record { weights = weights_in w; terms = terms child; left_block = number; right_block = suc number }

  -- they are the rows of one side
  each-row : (rows : List (List ℕ))
      → AllByRecursion (λ (r : List ℕ). In r (combinations w.catalogue (numbered_block w number) (sizes_in w number) (all_entries (numbered_block w number)))) rows → AllByRecursion (IsRowOf (record { weights = weights_in w; terms = terms child; left_block = number; right_block = suc number }) number)
      (map (output_of w (terms child)) (map (answer_row w.answer w.catalogue (numbered_block w number) number) rows))
  each-row [] inside = tt
  each-row (rows ∷ rest) inside = (
    record {
      block = refl;
      sum = row-sum w number child (record { block = number; mask = all_entries (numbered_block w number); rows = rows }) formed
          (terms-inside w.catalogue (numbered_block w number) child part.0)
          (record { own = all_entries (numbered_block w number); combined = inside.0; place = inr refl; bounded = bounded });
    },
    each-row rest inside.1,
  )

  rising : (rows : List Answer) → Climbs ids_cmp (λ (i : Ids). i) (ids_in rows) → Climbs ids_cmp (λ (row : OutputRow). row.row.ids) (map (output_of w (terms child)) rows)
  rising [] h = tt
  rising (row ∷ rows) h = (each-rising rows h.0, rising rows h.1) where
    each-rising : (others : List Answer) → AllByRecursion (Precedes ids_cmp (λ (i : Ids). i) row.ids) (ids_in others)
        → AllByRecursion (Precedes ids_cmp (λ (r : OutputRow). r.row.ids) (output_of w (terms child) row)) (map (output_of w (terms child)) others)
    each-rising [] k = tt
    each-rising (other ∷ others) k = (k.0, each-rising others k.1)

  abbrev outs : List OutputRow
  outs = map (output_of w (terms child)) all

  no-other : (z : OutputRow) → In z (outs ++ []) → In z outs
  no-other z h = subst (λ (rows : List OutputRow). In z rows) (append-nil outs) h

  bases : AreBases sides outs []
  bases = record {
    limits = weights;
    blocks = omega arith;
    left_rows = each-row (combinations w.catalogue (numbered_block w number) (sizes_in w number) (all_entries (numbered_block w number)))
        (AllByRecursion-from_In (λ (r : List ℕ). In r (combinations w.catalogue (numbered_block w number) (sizes_in w number) (all_entries (numbered_block w number))))
        (combinations w.catalogue (numbered_block w number) (sizes_in w number) (all_entries (numbered_block w number))) (λ r h. h));
    right_rows = tt;
    left_rising = rising all (subst (λ (ids : List Ids). Climbs ids_cmp (λ (i : Ids). i) ids) below (sources-rise w number child));
    right_rising = tt;
    alike = λ x y h k same.
        let a = In-map-back (output_of w (terms child)) x all (no-other x h) in
        let b = In-map-back (output_of w (terms child)) y all (no-other y k) in
        ap (λ (r : OutputRow). r.row.sum) a.image
        ∙ same-sums w (terms child) a.source.ids b.source.ids formed (alike-in w.query part.1.wanted)
        (sym (ap (λ (r : OutputRow). r.values) a.image) ∙ same ∙ ap (λ (r : OutputRow). r.values) b.image)
        ∙ sym (ap (λ (r : OutputRow). r.row.sum) b.image);
  }

  abbrev ordered : List OutputRow
  ordered = sorted key_cmp (output_key w (terms child)) outs

  -- the first ones of rows in order are in order
  still : sorted key_cmp (output_key w (terms child)) (output_firsts ordered) ≡ output_firsts ordered
  still =
      let climbs = Climbs-firsts key_cmp (output_key w (terms child)) ordered (sides-sorted sides outs [] bases).left_rising in
      sorted-of key_cmp key_cmp-total (output_key w (terms child)) (output_firsts ordered) (output_firsts ordered)
      (distinct-climbs key_cmp (output_key w (terms child)) (output_firsts ordered) climbs) climbs (λ z h. h) (λ z h. h)

  -- the rows of the input in their order
  input-outputs : outputs_in w number child ≡ ordered
  input-outputs =
      ap (λ (ids : List Ids). map (output_row w) (sorted key_cmp (key_under w (terms child)) (map (row_under w (terms child)) ids))) below
      ∙ outputs-sorted w (terms child) all

  pub distinct-outputs : outputs_in w number (Distinct child) ≡ output_firsts (outputs_in w number child)
  distinct-outputs =
      ap (λ b. map (output_row w) (sorted key_cmp (key_under w (terms child)) (map (row_under w (terms child)) (ids_in (distinct_if b all))))) part.1.wanted
      ∙ outputs-sorted w (terms child) (firsts all)
      ∙ ap (sorted key_cmp (output_key w (terms child)))
      (output-firsts w (terms child) all (rows-show w (terms child) number (combinations w.catalogue (numbered_block w number) (sizes_in w number) (all_entries (numbered_block w number)))))
      ∙ ap (λ (rows : List OutputRow). sorted key_cmp (output_key w (terms child)) (output_firsts rows)) (sym (append-nil outs))
      ∙ sym (answers-sorted sides outs [] bases op.Union)
      ∙ ap (λ (rows : List OutputRow). sorted key_cmp (output_key w (terms child)) (output_firsts rows)) (append-nil ordered)
      ∙ still
      ∙ ap output_firsts (sym input-outputs)
