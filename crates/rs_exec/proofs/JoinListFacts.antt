-- The list of a join is made of the rows of its sides that match, merged, in the order of their keys.
use Rattle.std.proofs.Common.{◌≡◌, ◌∙◌, ℕ, zero, suc, ◌+◌, ◌*◌, ◌/◌, ◌%◌, Bool, true, false, cond, eqb, List, [], ◌∷◌, length, map, bit_or, refl, sym, ap, ap₂, subst, inl}
use Rattle.std.specs.Int.{bit_at}
use Rattle.std.specs.Prelude.{Some, slice_get}
use Rattle.std.proofs.lemmas.Bool.{eqb-true}
use Rattle.std.proofs.lemmas.Nat.Bits.{bit_at-suc, bit_at_lowest}
use Rattle.std.proofs.lemmas.Option.{same_Some}
use Rattle.rs_order.specs.Climbing.{In}
use Rattle.rs_order.proofs.ClimbingFacts.{AllByRecursion-from_In, Climbs-same}
use Rattle.rs_order.proofs.EachFacts.{each-slice_get}
use Rattle.rs_order.proofs.ItemFacts.{In-map, In-map-back}
use Rattle.rs_order.proofs.SortingFacts.{In-sorted, In-sorted-back}
use Rattle.rs_rank.specs.Ids.{merge_rows, rows_inside}
use Rattle.rs_rank.specs.Keys.{key_cmp}
use Rattle.rs_rank.specs.Masks.{AreDisjoint}
use Rattle.rs_rank.specs.Rows.{merge_row}
use Rattle.rs_rank.specs.Weights.{IsWeights, sum_inside}
use Rattle.rs_rank.specs.declared.ids.Ids.{Ids}
use Rattle.rs_rank.specs.declared.row.RankRow.{RankRow}
use Rattle.rs_rank.proofs.OrderFacts.{key_cmp-total}
use Rattle.rs_rank.proofs.WeightFacts.{sum_inside-union}
use Rattle.rs_expr.specs.Scoring.{Answering}
use Rattle.rs_catalog.specs.Catalog.{CatalogDef}
use Rattle.rs_query.specs.Answers.{clamped, predicate_at, worth_of, worths_of}
use Rattle.rs_query.specs.Choices.{AgreeOn, IsChoice}
use Rattle.rs_query.specs.Combinations.{combinations}
use Rattle.rs_query.specs.Meaning.{is_inside}
use Rattle.rs_query.specs.Tables.{sizes_of}
use Rattle.rs_query.specs.WellFormed.{IsBlock, IsQuery, IsTerm}
use Rattle.rs_query.specs.declared.block.Block.{Block}
use Rattle.rs_query.specs.declared.term.Term.{Term}
use Rattle.rs_query.proofs.ChoiceFacts.{In-combinations-back}
use Rattle.rs_query.proofs.LocalFacts.{argument_values-local}
use Rattle.rs_filter.specs.Matching.{IsView, joins}
use Rattle.rs_filter.proofs.JoinFacts.{parts, whole}
use Rattle.rs_filter.proofs.SideFacts.{AgreeOn-left, AgreeOn-right, length-choice}
use Rattle.rs_filter.proofs.SplitFacts.{IsChoice-left, IsChoice-right, IsZeroOutside-choice, merge-split}
use Rattle.rs_ripple.specs.Stands.{AreRowsOf, AreSidesOf, IsRowOf, Join, answer_key, answers}
use Rattle.rs_ripple.proofs.PairFacts.{In-ordered, In-ordered-back, IsPair, ordered-climbs}
use Rattle.rs_ripple.proofs.SideFacts.{sides-grid}
use Rattle.rs_plan.specs.Lists.{World, ids_of, key_under, list_of, numbered_block, row_under, sizes_in, sources, weights_in}
use Rattle.rs_plan.specs.Plans.{AreJoined, HasNoDistinct, IsPart}
use Rattle.rs_plan.specs.Trees.{Distinct, JoinKind, JoinOperator, Nested, Rank, SetOperator, PlanTree, entries, terms}
use Rattle.rs_exec.specs.Joining.{join_for, side_for}
use Rattle.rs_exec.proofs.ListFacts.{list-climbs, list-others, unsorted}
use Rattle.rs_exec.proofs.PartMaskFacts.{can-join, entries-few, terms-apart, terms-inside}
use Rattle.rs_exec.proofs.StepFacts.{block-formed}
use Rattle.rs_exec.specs.Asked.{HasBoundedWorths}
use Rattle.rs_exec.proofs.SumFacts.{row-sum}

-- the sum over the terms in a mask, by what each of these gives
sum-same : {T : Type 0} (f g : T → ℕ) (mask : ℕ) (weights : List ℕ) (all : List T)
    → ((place : ℕ) (t : T) → bit_at mask place ≡ 1 → slice_get all place ≡ Some t → f t ≡ g t)
    → sum_inside mask weights (map f all) ≡ sum_inside mask weights (map g all)
sum-same f g mask [] all same = refl
sum-same f g mask (weight ∷ weights) [] same = refl
sum-same f g mask (weight ∷ weights) (t ∷ all) same =
    ap₂ (λ (a b : ℕ). a + b) (first (eqb (mask % 2) 1) refl)
    (sum-same f g (mask / 2) weights all (λ place u bit there. same (suc place) u (bit_at-suc mask place ∙ bit) there))
  where
    first : (b : Bool) → eqb (mask % 2) 1 ≡ b → cond b (weight * f t) 0 ≡ cond b (weight * g t) 0
    first true e = ap (λ n. weight * n) (same zero t (bit_at_lowest mask ∙ eqb-true (mask % 2) 1 e) refl)
    first false e = refl

module _ (answer : Answering) (catalogue : CatalogDef) (block : Block) (formed : IsBlock catalogue block) (tree : PlanTree) (part : IsPart catalogue block tree)
    (xs ys : List ℕ) (agree : AgreeOn (entries tree) xs ys) where
  worth-same : (place : ℕ) (t : Term) → bit_at (terms tree) place ≡ 1 → slice_get block.terms place ≡ Some t
      → worth_of answer catalogue block xs t ≡ worth_of answer catalogue block ys t
  worth-same place t bit there =
      let has = terms-inside catalogue block tree part place bit in
      let same = same_Some has.term t (sym has.there ∙ there) in
      let inside : is_inside t.entries (entries tree) ≡ true = subst (λ (u : Term). is_inside u.entries (entries tree) ≡ true) same has.inside in
      let is = each-slice_get (IsTerm catalogue block) block.terms place t formed.terms there in
      ap (λ args. clamped (predicate_at catalogue t.predicate).max (answer (predicate_at catalogue t.predicate) args))
      (argument_values-local catalogue block (entries tree) xs ys agree t is inside)

  -- what the terms of a part give depends on the rows of its entries alone
  evaluated-same : (weights : List ℕ) → sum_inside (terms tree) weights (worths_of answer catalogue block xs) ≡ sum_inside (terms tree) weights (worths_of answer catalogue block ys)
  evaluated-same weights = sum-same (worth_of answer catalogue block xs) (worth_of answer catalogue block ys) (terms tree) weights block.terms worth-same

-- ids of some entries
abbrev ids_at : ℕ → ℕ → List ℕ → Ids
ids_at number mask rows = record { block = number; mask = mask; rows = rows }

-- a row of a part that drops no duplicates, of a combination of its entries
pub record IsRowFor (w : World) (number : ℕ) (tree : PlanTree) (row : RankRow) : Type 0 where
  pub rows : List ℕ
  pub is_in : In rows (combinations w.catalogue (numbered_block w number) (sizes_in w number) (entries tree))
  pub made : row ≡ row_under w (terms tree) (record { block = number; mask = entries tree; rows = rows })

module _ (w : World) (number : ℕ) where
  abbrev block : Block
  block = numbered_block w number

  abbrev all : ℕ → List (List ℕ)
  all mask = combinations w.catalogue (numbered_block w number) (sizes_in w number) mask

  -- such a part has all combinations of its entries
  sources-all : (tree : PlanTree) → IsPart w.catalogue (numbered_block w number) tree → HasNoDistinct tree → sources w number tree ≡ ids_of w number (entries tree)
  sources-all (Rank term child) part whole = sources-all child part.0 whole
  sources-all (Distinct child) part whole = absurd whole
  sources-all (SetOperator left right) part whole = absurd part
  sources-all tree part whole = refl

  pub In-list : (tree : PlanTree) → IsPart w.catalogue (numbered_block w number) tree → HasNoDistinct tree → (row : RankRow) → IsRowFor w number tree row
      → In row (list_of w number tree)
  In-list tree part whole row is =
      In-sorted key_cmp (key_under w (terms tree)) (unsorted w number tree) row
      (subst (λ (r : RankRow). In r (unsorted w number tree)) (sym is.made)
      (In-map (row_under w (terms tree)) (ids_at number (entries tree) is.rows) (sources w number tree)
      (subst (In (ids_at number (entries tree) is.rows)) (sym (sources-all tree part whole)) (In-map (ids_at number (entries tree)) is.rows (all (entries tree)) is.is_in))))

  pub In-list-back : (tree : PlanTree) → IsPart w.catalogue (numbered_block w number) tree → HasNoDistinct tree → (row : RankRow) → In row (list_of w number tree)
      → IsRowFor w number tree row
  In-list-back tree part whole row inside =
      let image = In-map-back (row_under w (terms tree)) row (sources w number tree)
      (In-sorted-back key_cmp (key_under w (terms tree)) (unsorted w number tree) row inside) in
      let ids = In-map-back (ids_at number (entries tree)) image.source (all (entries tree)) (subst (In image.source) (sources-all tree part whole) image.is_in) in
      record { rows = ids.source; is_in = ids.is_in; made = image.image ∙ ap (row_under w (terms tree)) ids.image }

-- two parts of a plan of a block that can be joined
pub record CanJoinParts (w : World) (number : ℕ) (left right : PlanTree) : Type 0 where
  pub formed : IsQuery w.catalogue w.query
  pub bounded : HasBoundedWorths w number
  pub weights : IsWeights (weights_in w)
  pub view : IsView (sizes_in w number) (sizes_of w.catalogue (numbered_block w number))
  pub left_part : IsPart w.catalogue (numbered_block w number) left
  pub right_part : IsPart w.catalogue (numbered_block w number) right
  pub joined : AreJoined left right

-- a view has six entries
length-view : (sizes most : List ℕ) → IsView sizes most → length sizes ≡ length most
length-view [] [] view = refl
length-view [] (m ∷ most) view = absurd view
length-view (s ∷ sizes) [] view = absurd view
length-view (s ∷ sizes) (m ∷ most) view = ap suc (length-view sizes most view.1)

module _ (w : World) (number : ℕ) (left right : PlanTree) (can : CanJoinParts w number left right) where
  is_block : IsBlock w.catalogue (numbered_block w number)
  is_block = block-formed w.catalogue w.query number can.formed

  abbrev sizes : List ℕ
  sizes = sizes_in w number

  apart : AreDisjoint (terms left) (terms right)
  apart = terms-apart w.catalogue (numbered_block w number) left right is_block can.left_part can.right_part can.joined.apart

  abbrev both : ℕ
  both = bit_or (entries left) (entries right)

  abbrev both_terms : ℕ
  both_terms = bit_or (terms left) (terms right)

  -- rows of the sides, merged, are the row of both
  merged-row : (lefts rights : List ℕ) → IsChoice (entries left) (sizes_in w number) lefts → IsChoice (entries right) (sizes_in w number) rights
      → merge_row (row_under w (terms left) (ids_at number (entries left) lefts)) (row_under w (terms right) (ids_at number (entries right) rights))
      ≡ row_under w (bit_or (terms left) (terms right)) (ids_at number (bit_or (entries left) (entries right)) (merge_rows lefts rights))
  merged-row lefts rights l r =
      let weights = (weights_in w).weight in
      let merged = merge_rows lefts rights in
      ap (λ (sum : ℕ). record { ids = ids_at number both merged; sum = sum })
      (ap₂ (λ (a b : ℕ). a + b)
      (sym (evaluated-same w.answer w.catalogue (numbered_block w number) is_block left can.left_part merged lefts
      (AgreeOn-left (entries left) (entries right) sizes lefts rights l r) weights))
      (sym (evaluated-same w.answer w.catalogue (numbered_block w number) is_block right can.right_part merged rights
      (AgreeOn-right (entries left) (entries right) sizes lefts rights can.joined.apart l r) weights))
      ∙ sym (sum_inside-union (terms left) (terms right) weights (worths_of w.answer w.catalogue (numbered_block w number) merged) apart))

  -- a combination of one side is a choice of rows
  choice-of : (mask : ℕ) (rows : List ℕ) → In rows (combinations w.catalogue (numbered_block w number) (sizes_in w number) mask) → IsChoice mask (sizes_in w number) rows
  choice-of mask rows inside = (In-combinations-back w.catalogue (numbered_block w number) (sizes_in w number) mask rows inside).0

  abbrev j : Join
  j = join_for w number left right

  abbrev lefts_of : List RankRow
  lefts_of = list_of w number left

  abbrev rights_of : List RankRow
  rights_of = list_of w number right

  -- each row of both sides together is the merge of two that match
  row-parts : (row : RankRow) → IsRowFor w number (JoinOperator Nested left right) row
      → IsPair (joins w.catalogue (numbered_block w number) (entries left) (entries right)) merge_row (list_of w number left) (list_of w number right) row
  row-parts row is =
      let choice = choice-of both is.rows is.is_in in
      let l = rows_inside (entries left) is.rows in
      let r = rows_inside (entries right) is.rows in
      let left_choice = IsChoice-left (entries left) (entries right) sizes is.rows choice in
      let right_choice = IsChoice-right (entries left) (entries right) sizes is.rows choice in
      let again : merge_rows l r ≡ is.rows = merge-split (entries left) (entries right) sizes is.rows choice in
      let left_row : RankRow = row_under w (terms left) (ids_at number (entries left) l) in
      let right_row : RankRow = row_under w (terms right) (ids_at number (entries right) r) in
      let held = parts w.catalogue (numbered_block w number) sizes left_row right_row is_block can.view can.joined.apart left_choice right_choice
      (subst (λ (rows : List ℕ). In rows (combinations w.catalogue (numbered_block w number) (sizes_in w number) both)) (sym again) is.is_in) in
      record {
        left = left_row;
        right = right_row;
        in_left = In-list w number left can.left_part can.joined.left_whole left_row (record { rows = l; is_in = held.0; made = refl });
        in_right = In-list w number right can.right_part can.joined.right_whole right_row (record { rows = r; is_in = held.1; made = refl });
        matched = held.2;
        made = is.made ∙ ap (λ (rows : List ℕ). row_under w both_terms (ids_at number both rows)) (sym again) ∙ sym (merged-row l r left_choice right_choice);
      }

  -- and each such merge is a row of both
  row-whole : (row : RankRow)
      → IsPair (joins w.catalogue (numbered_block w number) (entries left) (entries right)) merge_row (list_of w number left) (list_of w number right) row
      → IsRowFor w number (JoinOperator Nested left right) row
  row-whole row pair =
      let l = In-list-back w number left can.left_part can.joined.left_whole pair.left pair.in_left in
      let r = In-list-back w number right can.right_part can.joined.right_whole pair.right pair.in_right in
      let left_choice = choice-of (entries left) l.rows l.is_in in
      let right_choice = choice-of (entries right) r.rows r.is_in in
      let left_row : RankRow = row_under w (terms left) (ids_at number (entries left) l.rows) in
      let right_row : RankRow = row_under w (terms right) (ids_at number (entries right) r.rows) in
      let matched : joins w.catalogue (numbered_block w number) (entries left) (entries right) left_row right_row ≡ true =
      ap₂ (joins w.catalogue (numbered_block w number) (entries left) (entries right)) (sym l.made) (sym r.made) ∙ pair.matched in
      record {
        rows = merge_rows l.rows r.rows;
        is_in = whole w.catalogue (numbered_block w number) sizes left_row right_row is_block can.view can.joined.apart left_choice right_choice (l.is_in, r.is_in, matched);
        made = pair.made ∙ ap₂ merge_row l.made r.made ∙ merged-row l.rows r.rows left_choice right_choice;
      }

  -- the rows of one side
  side-rows : (tree : PlanTree) → IsPart w.catalogue (numbered_block w number) tree → HasNoDistinct tree → AreRowsOf (join_for w number left right) (side_for tree) (list_of w number tree)
  side-rows tree part drops_none = record {
    each = AllByRecursion-from_In (IsRowOf j (side_for tree)) (list_of w number tree) (λ row inside.
        let is = In-list-back w number tree part drops_none row inside in
        let choice = choice-of (entries tree) is.rows is.is_in in
        let count = length-choice (entries tree) sizes is.rows choice in
        let all_six = length-view sizes (sizes_of w.catalogue (numbered_block w number)) can.view in
        subst (IsRowOf j (side_for tree)) (sym is.made) (record {
          ids = record {
            sized = count ∙ all_six;
            entries = entries-few w.catalogue (numbered_block w number) tree is_block.most_entries part;
            within = IsZeroOutside-choice (entries tree) sizes is.rows choice;
          };
          entries = refl;
          block = refl;
          sum = row-sum w number tree (ids_at number (entries tree) is.rows) can.formed (terms-inside w.catalogue (numbered_block w number) tree part)
              (record { own = entries tree; combined = is.is_in; place = inl (refl, refl); bounded = can.bounded });
        }));
    rising = list-climbs w number tree;
    others = list-others w number tree;
  }

  -- the lists of two parts are the two sides of a join
  pub join-sides : AreSidesOf (join_for w number left right) (list_of w number left) (list_of w number right)
  join-sides = record {
    sides = can-join w.catalogue (numbered_block w number) (weights_in w) left right is_block can.left_part can.right_part can.joined can.weights;
    left_rows = side-rows left can.left_part can.joined.left_whole;
    right_rows = side-rows right can.right_part can.joined.right_whole;
  }

  -- the rows of both together
  unsorted-both : (row : RankRow) → In row (list_of w number (JoinOperator Nested left right)) → IsRowFor w number (JoinOperator Nested left right) row
  unsorted-both row inside =
      In-list-back w number (JoinOperator Nested left right) (can.left_part, can.right_part, can.joined, tt) (can.joined.left_whole, can.joined.right_whole) row inside

  -- the list of a join is the same whichever way it is done
  pub join-list : (kind : JoinKind) → list_of w number (JoinOperator kind left right) ≡ answers (join_for w number left right) (list_of w number left) (list_of w number right)
  join-list kind =
      Climbs-same key_cmp key_cmp-total (answer_key j) (list_of w number (JoinOperator Nested left right)) (answers j lefts_of rights_of)
      (list-climbs w number (JoinOperator Nested left right)) (ordered-climbs key_cmp j.matches merge_row (answer_key j) lefts_of rights_of (sides-grid j lefts_of rights_of join-sides))
      (λ row inside. In-ordered key_cmp j.matches merge_row (answer_key j) lefts_of rights_of row (row-parts row (unsorted-both row inside)))
      (λ row inside.
      let is = row-whole row (In-ordered-back key_cmp j.matches merge_row (answer_key j) lefts_of rights_of row inside) in
      In-list w number (JoinOperator Nested left right) (can.left_part, can.right_part, can.joined, tt) (can.joined.left_whole, can.joined.right_whole) row
      (record { rows = is.rows; is_in = is.is_in; made = is.made }))
