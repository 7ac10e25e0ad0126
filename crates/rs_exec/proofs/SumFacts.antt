-- The sums of a node's rows are such that its terms can give: for what a world sees, a worth is at most the maximum of its term.
use Rattle.std.proofs.Common.{◌≡◌, ◌∙◌, ℕ, zero, suc, ◌+◌, ◌-◌, ◌*◌, ◌/◌, ◌%◌, ◌≤◌, ◌⊎◌, Bool, true, false, cond, eqb, List, [], ◌∷◌, length, map, get_or, refl, sym, ap, ap₂, subst, inl, inr, arith}
use Rattle.std.specs.Prelude.{Some, bit_or, slice_get}
use Rattle.std.specs.Int.{bit_at}
use Rattle.std.specs.List.{AllByRecursion}
use Rattle.std.proofs.lemmas.Bool.{eqb-true}
use Rattle.std.proofs.lemmas.Nat.{mul-le}
use Rattle.std.proofs.lemmas.Nat.Bits.{bit_at-pow_same, bit_at-suc, bit_at_lowest}
use Rattle.rs_order.specs.Climbing.{In}
use Rattle.rs_order.proofs.ClimbingFacts.{AllByRecursion-In, AllByRecursion-from_In}
use Rattle.rs_order.proofs.EachFacts.{each-map, each-slice_get}
use Rattle.rs_order.proofs.ItemFacts.{In-map-back}
use Rattle.rs_order.proofs.PartFacts.{In-slice_get}
use Rattle.rs_order.proofs.SortingFacts.{In-sorted-back}
use Rattle.rs_rank.specs.Keys.{key_cmp}
use Rattle.rs_rank.specs.Masks.{mask_of}
use Rattle.rs_rank.specs.Rows.{HasSum}
use Rattle.rs_rank.specs.Weights.{sum_inside}
use Rattle.rs_rank.specs.declared.answer.Answer.{Answer}
use Rattle.rs_rank.specs.declared.ids.Ids.{Ids}
use Rattle.rs_rank.specs.declared.row.RankRow.{RankRow}
use Rattle.rs_expr.specs.Scoring.{Answering}
use Rattle.rs_catalog.specs.Catalog.{CatalogDef}
use Rattle.rs_query.specs.Answers.{answer_row, base_of, distinct_if, padded, rows_of, worth_of}
use Rattle.rs_query.specs.Blocks.{block_in}
use Rattle.rs_query.specs.Combinations.{combinations}
use Rattle.rs_query.specs.Meaning.{is_inside}
use Rattle.rs_query.specs.Tables.{all_entries}
use Rattle.rs_query.specs.Views.{View}
use Rattle.rs_query.specs.WellFormed.{IsQuery}
use Rattle.rs_query.specs.declared.block.Block.{Block}
use Rattle.rs_query.specs.declared.query.Query.{Query}
use Rattle.rs_query.specs.declared.query.Query.TheVariants.{One, Set}
use Rattle.rs_query.specs.declared.term.Term.{Term}
use Rattle.rs_query.proofs.BlockFacts.{block-formed}
use Rattle.rs_query.proofs.EntryFacts as entry_facts
use Rattle.rs_query.proofs.RiseFacts.{each-firsts}
use Rattle.rs_query.proofs.ScoreFacts.{same-maxima}
use Rattle.rs_plan.specs.Lists.{World, ids_of, key_under, list_of, numbered_block, row_under, sizes_in, sources, weights_in, worths}
use Rattle.rs_plan.specs.Plans.{IsPart}
use Rattle.rs_plan.specs.Trees.{Distinct, JoinOperator, Rank, RankScan, SeqScan, SetOperator, PlanTree, entries, terms}
use Rattle.rs_exec.specs.Asked.{HasBlock, HasBoundedWorths, IsBoundedWorld}
use Rattle.rs_exec.specs.Parts.{IsPartOf}
use Rattle.rs_exec.proofs.ListFacts.{each-set, unsorted}
use Rattle.rs_exec.proofs.PartMaskFacts.{HasTerm, in-either, of-mask, terms-inside}

-- numbers are at most others, one by one, at the places in a mask
abbrev pub AtMostIn : ℕ → List ℕ → List ℕ → Type 0
AtMostIn mask [] most = Unit {0}
AtMostIn mask (x ∷ xs) [] = ⊥
AtMostIn mask (x ∷ xs) (y ∷ ys) = (mask % 2 ≡ 1 → x ≤ y) × AtMostIn (mask / 2) xs ys

sum_inside-most : (mask : ℕ) (weights values most : List ℕ) → AtMostIn mask values most → sum_inside mask weights values ≤ sum_inside mask weights most
sum_inside-most mask [] values most h = omega arith
sum_inside-most mask (w ∷ ws) [] most h = omega arith
sum_inside-most mask (w ∷ ws) (v ∷ vs) [] h = absurd h
sum_inside-most mask (w ∷ ws) (v ∷ vs) (m ∷ ms) h =
    let rest = sum_inside-most (mask / 2) ws vs ms h.1 in
    (elim (eqb (mask % 2) 1) as (λ b. eqb (mask % 2) 1 ≡ b → cond b (w * v) 0 + sum_inside (mask / 2) ws vs ≤ cond b (w * m) 0 + sum_inside (mask / 2) ws ms) [
      | true ↦ λ own. let product = mul-le w v w m (omega arith) (h.0 (eqb-true (mask % 2) 1 own)) in omega arith
      | false ↦ λ other. omega arith
    ]) refl

module _ (answer : Answering) (catalogue : CatalogDef) (block : Block) (rows : List ℕ) where
  -- worths at the places in a mask, where each is at most the maximum of its term
  worths-most : (mask n : ℕ) (all : List Term) → length all ≤ n
      → ((place : ℕ) (term : Term) → slice_get all place ≡ Some term → bit_at mask place ≡ 1 → worth_of answer catalogue block rows term ≤ term.max)
      → AtMostIn mask (map (worth_of answer catalogue block rows) all) (padded n (map (λ (t : Term). t.max) all))
  worths-most mask n [] few each = tt
  worths-most mask zero (term ∷ all) few each = absurd (omega arith)
  worths-most mask (suc n) (term ∷ all) few each = (
    λ own. each zero term refl (bit_at_lowest mask ∙ own),
    worths-most (mask / 2) n all (omega arith) (λ place other there bit. each (suc place) other there (bit_at-suc mask place ∙ bit)),
  )

-- the maxima of the first block are those of every block
worths-within : (catalogue : CatalogDef) (answer : Answering) (query : Query) (number : ℕ) (rows : List ℕ) (mask : ℕ) → IsQuery catalogue query
    → ((place : ℕ) (term : Term) → slice_get (block_in query number).terms place ≡ Some term → bit_at mask place ≡ 1 → worth_of answer catalogue (block_in query number) rows term ≤ term.max)
    → AtMostIn mask (map (worth_of answer catalogue (block_in query number) rows) (block_in query number).terms) (padded 8 (map (λ (t : Term). t.max) (block_in query 1).terms))
worths-within catalogue answer (One block limit) number rows mask formed each = worths-most answer catalogue block rows mask 8 block.terms formed.0.most_terms each
worths-within catalogue answer (Set op left right limit) number rows mask formed each = go (eqb number 1) each where
  go : (b : Bool)
      → ((place : ℕ) (term : Term) → slice_get (cond b left right).terms place ≡ Some term → bit_at mask place ≡ 1 → worth_of answer catalogue (cond b left right) rows term ≤ term.max)
      → AtMostIn mask (map (worth_of answer catalogue (cond b left right) rows) (cond b left right).terms) (padded 8 (map (λ (t : Term). t.max) left.terms))
  go true each = worths-most answer catalogue left rows mask 8 left.terms formed.0.left_block.most_terms each
  go false each =
      subst (λ maxima. AtMostIn mask (map (worth_of answer catalogue right rows) right.terms) (padded 8 maxima)) (sym (same-maxima left right left.terms right.terms formed.0.terms))
      (worths-most answer catalogue right rows mask 8 right.terms formed.0.right_block.most_terms each)

-- and so at each place in the mask
at_most-get_or : (mask : ℕ) (values most : List ℕ) (i : ℕ) → AtMostIn mask values most → bit_at mask i ≡ 1 → get_or values i 0 ≤ get_or most i 0
at_most-get_or mask [] most i h bit = omega arith
at_most-get_or mask (v ∷ vs) [] i h bit = absurd h
at_most-get_or mask (v ∷ vs) (m ∷ ms) zero h bit = h.0 (sym (bit_at_lowest mask) ∙ bit)
at_most-get_or mask (v ∷ vs) (m ∷ ms) (suc i) h bit = at_most-get_or (mask / 2) vs ms i h.1 (sym (bit_at-suc mask i) ∙ bit)

-- ids whose rows are a combination that a world sees: of the entries of a part of the block of this number, or of all entries of
-- their block
pub record IsSeen (w : World) (number mask : ℕ) (ids : Ids) : Type 0 where
  pub own : ℕ
  pub combined : In ids.rows (combinations w.catalogue (numbered_block w ids.block) (sizes_in w ids.block) own)
  pub place : ((ids.block ≡ number) × (own ≡ mask)) ⊎ (own ≡ all_entries (numbered_block w ids.block))
  pub bounded : HasBoundedWorths w ids.block

-- what a term that is evaluated there, or may be, is worth for them
seen-worth : (w : World) (number mask : ℕ) (ids : Ids) (place : ℕ) (term : Term) → IsQuery w.catalogue w.query → IsSeen w number mask ids
    → HasTerm (numbered_block w number) place mask → slice_get (numbered_block w ids.block).terms place ≡ Some term
    → worth_of w.answer w.catalogue (numbered_block w ids.block) ids.rows term ≤ term.max
seen-worth w number mask ids place term formed seen has there =
    seen.bounded seen.own ids.rows term seen.combined (In-slice_get place (numbered_block w ids.block).terms term there) (elim seen.place [
      | inl at ↦
          let here : slice_get (numbered_block w ids.block).terms place ≡ Some has.term = ap (λ n. slice_get (numbered_block w n).terms place) at.0 ∙ has.there in
          let same : term ≡ has.term = cc in
          ap₂ (λ (t : Term) (m : ℕ). is_inside t.entries m) same at.1 ∙ has.inside
      | inr whole ↦
          ap (λ m. is_inside term.entries m) whole
          ∙ each-slice_get (λ (t : Term). is_inside t.entries (all_entries (numbered_block w ids.block)) ≡ true) (numbered_block w ids.block).terms place term
          (entry_facts.terms-inside w.catalogue (numbered_block w ids.block) (block-formed w.catalogue w.query ids.block formed)) there
    ])

-- a part of the block of this number, by the terms that are evaluated in it
abbrev pub HasTermsInside : World → ℕ → PlanTree → Type 0
HasTermsInside w number tree = (place : ℕ) → bit_at (terms tree) place ≡ 1 → HasTerm (numbered_block w number) place (entries tree)

pub row-sum : (w : World) (number : ℕ) (tree : PlanTree) (ids : Ids) → IsQuery w.catalogue w.query → HasTermsInside w number tree → IsSeen w number (entries tree) ids
    → HasSum (weights_in w) (terms tree) (row_under w (terms tree) ids)
row-sum w number tree ids formed inside seen =
    sum_inside-most (terms tree) (weights_in w).weight (worths w ids) (weights_in w).max
    (worths-within w.catalogue w.answer w.query ids.block ids.rows (terms tree) formed
    (λ place term there bit. seen-worth w number (entries tree) ids place term formed seen (inside place bit) there))

worth-within : (w : World) (number mask term : ℕ) (ids : Ids) → IsQuery w.catalogue w.query → HasTerm (numbered_block w number) (term - 1) mask → IsSeen w number mask ids
    → get_or (worths w ids) (term - 1) 0 ≤ get_or (weights_in w).max (term - 1) 0
worth-within w number mask term ids formed has seen =
    at_most-get_or (mask_of term) (worths w ids) (weights_in w).max (term - 1)
    (worths-within w.catalogue w.answer w.query ids.block ids.rows (mask_of term) formed
    (λ place own there bit. seen-worth w number mask ids place own formed seen (subst (λ n. HasTerm (numbered_block w number) n mask) (sym (of-mask term place bit)) has) there))
    (bit_at-pow_same (term - 1))

-- combinations of some entries of a block
seen-ids : (w : World) (number mask : ℕ) → HasBoundedWorths w number → AllByRecursion (IsSeen w number mask) (ids_of w number mask)
seen-ids w number mask bounded =
    each-map (IsSeen w number mask) (λ (rows : List ℕ). record { block = number; mask = mask; rows = rows }) (combinations w.catalogue (numbered_block w number) (sizes_in w number) mask)
    (AllByRecursion-from_In (λ (rows : List ℕ). IsSeen w number mask (record { block = number; mask = mask; rows = rows }))
    (combinations w.catalogue (numbered_block w number) (sizes_in w number) mask)
    (λ rows inside. record { own = mask; combined = inside; place = inl (refl, refl); bounded = bounded }))

-- the rows of a block
pub seen-base : (w : World) (number other mask : ℕ) → HasBoundedWorths w number
    → AllByRecursion (λ (row : Answer). IsSeen w other mask row.ids) (base_of w.answer w.catalogue number (numbered_block w number) (sizes_in w number))
seen-base w number other mask bounded = go (numbered_block w number).distinct where
  all : AllByRecursion (λ (row : Answer). IsSeen w other mask row.ids)
      (map (answer_row w.answer w.catalogue (numbered_block w number) number) (combinations w.catalogue (numbered_block w number) (sizes_in w number) (all_entries (numbered_block w number))))
  all =
      each-map (λ (row : Answer). IsSeen w other mask row.ids) (answer_row w.answer w.catalogue (numbered_block w number) number)
      (combinations w.catalogue (numbered_block w number) (sizes_in w number) (all_entries (numbered_block w number)))
      (AllByRecursion-from_In (λ (rows : List ℕ). IsSeen w other mask (record { block = number; mask = all_entries (numbered_block w number); rows = rows }))
      (combinations w.catalogue (numbered_block w number) (sizes_in w number) (all_entries (numbered_block w number)))
      (λ rows inside. record { own = all_entries (numbered_block w number); combined = inside; place = inr refl; bounded = bounded }))

  go : (distinct : Bool) → AllByRecursion (λ (row : Answer). IsSeen w other mask row.ids)
      (distinct_if distinct (map (answer_row w.answer w.catalogue (numbered_block w number) number) (combinations w.catalogue (numbered_block w number) (sizes_in w number) (all_entries (numbered_block w number)))))
  go true =
      each-firsts (λ (row : Answer). IsSeen w other mask row.ids)
      (map (answer_row w.answer w.catalogue (numbered_block w number) number) (combinations w.catalogue (numbered_block w number) (sizes_in w number) (all_entries (numbered_block w number)))) all
  go false = all

-- the rows of a part of a plan of a block
seen-sources : (w : World) (number : ℕ) (tree : PlanTree) → HasBoundedWorths w number → IsPart w.catalogue (numbered_block w number) tree
    → AllByRecursion (IsSeen w number (entries tree)) (sources w number tree)
seen-sources w number (SeqScan entry) bounded part = seen-ids w number (mask_of entry) bounded
seen-sources w number (RankScan entry term index) bounded part = seen-ids w number (mask_of entry) bounded
seen-sources w number (Rank term child) bounded part = seen-sources w number child bounded part.0
seen-sources w number (JoinOperator kind left right) bounded part = seen-ids w number (bit_or (entries left) (entries right)) bounded
seen-sources w number (Distinct child) bounded part =
    each-map (IsSeen w number (entries child)) (λ (row : Answer). row.ids) (base_of w.answer w.catalogue number (numbered_block w number) (sizes_in w number))
    (seen-base w number number (entries child) bounded)
seen-sources w number (SetOperator left right) bounded part = absurd part

-- and those of a part of a plan of a query
module _ (catalogue : CatalogDef) (answer : Answering) (view : View) where
  abbrev world : Query → World
  world query = record { catalogue = catalogue; answer = answer; query = query; view = view }

  seen-sides : (query : Query) (number : ℕ) (left right : PlanTree) → IsBoundedWorld (record { catalogue = catalogue; answer = answer; query = query; view = view })
      → IsPartOf catalogue query number (SetOperator left right)
      → AllByRecursion (IsSeen (record { catalogue = catalogue; answer = answer; query = query; view = view }) number (entries left)) (sources (record { catalogue = catalogue; answer = answer; query = query; view = view }) number (SetOperator left right))
  seen-sides (One block limit) number left right bounded part = absurd part
  seen-sides (Set op l r limit) number left right bounded part =
      each-map (IsSeen (world (Set op l r limit)) number (entries left)) (λ (row : Answer). row.ids) (rows_of answer catalogue (Set op l r limit) view)
      (each-set (λ (row : Answer). IsSeen (world (Set op l r limit)) number (entries left) row.ids) op (base_of answer catalogue 1 l view.first) (base_of answer catalogue 2 r view.second)
      (seen-base (world (Set op l r limit)) 1 number (entries left) (bounded 1 (inl refl))) (seen-base (world (Set op l r limit)) 2 number (entries left) (bounded 2 (inr refl))))

pub seen-part : (w : World) (number : ℕ) (tree : PlanTree) → IsBoundedWorld w → HasBlock w.query number → IsPartOf w.catalogue w.query number tree
    → AllByRecursion (IsSeen w number (entries tree)) (sources w number tree)
seen-part w number (Rank term child) bounded has part = seen-part w number child bounded has part.0
seen-part w number (SetOperator left right) bounded has part = seen-sides w.catalogue w.answer w.view w.query number left right bounded part
seen-part w number (SeqScan entry) bounded has part = seen-sources w number (SeqScan entry) (bounded number has) part
seen-part w number (RankScan entry term index) bounded has part = seen-sources w number (RankScan entry term index) (bounded number has) part
seen-part w number (JoinOperator kind left right) bounded has part = seen-sources w number (JoinOperator kind left right) (bounded number has) part
seen-part w number (Distinct child) bounded has part = seen-sources w number (Distinct child) (bounded number has) part

-- the terms of such a part speak of its entries
sides-inside : (catalogue : CatalogDef) (query : Query) (number : ℕ) (left right : PlanTree) → IsPartOf catalogue query number (SetOperator left right) → (place : ℕ)
    → bit_at (terms (SetOperator left right)) place ≡ 1 → HasTerm (block_in query number) place (entries left)
sides-inside catalogue (One block limit) number left right part place bit = absurd part
sides-inside catalogue (Set op l r limit) number left right part place bit =
    subst (λ n. HasTerm (block_in (Set op l r limit) n) place (entries left)) (sym part.0) (terms-inside catalogue l left part.1.part place bit)

pub part-inside : (w : World) (number : ℕ) (tree : PlanTree) → IsPartOf w.catalogue w.query number tree → HasTermsInside w number tree
part-inside w number (Rank term child) part = λ place bit. elim (in-either (terms child) (mask_of term) place bit) [
  | inl below ↦ part-inside w number child part.0 place below
  | inr own ↦ record {
    term = part.1.term;
    there = ap (λ n. slice_get (numbered_block w number).terms n) (of-mask term place own) ∙ part.1.is_term.there;
    inside = part.1.there;
  }
]
part-inside w number (SetOperator left right) part = sides-inside w.catalogue w.query number left right part
part-inside w number (SeqScan entry) part = terms-inside w.catalogue (numbered_block w number) (SeqScan entry) part
part-inside w number (RankScan entry term index) part = terms-inside w.catalogue (numbered_block w number) (RankScan entry term index) part
part-inside w number (JoinOperator kind left right) part = terms-inside w.catalogue (numbered_block w number) (JoinOperator kind left right) part
part-inside w number (Distinct child) part = terms-inside w.catalogue (numbered_block w number) (Distinct child) part

module _ (w : World) (number : ℕ) (tree : PlanTree) (formed : IsQuery w.catalogue w.query) (bounded : IsBoundedWorld w) (has : HasBlock w.query number)
    (part : IsPartOf w.catalogue w.query number tree) where
  -- where a row of its list comes from
  seen-row : (row : RankRow) → In row (list_of w number tree) → (ids : Ids) × (row ≡ row_under w (terms tree) ids) × IsSeen w number (entries tree) ids
  seen-row row inside =
      let image = In-map-back (row_under w (terms tree)) row (sources w number tree)
      (In-sorted-back key_cmp (key_under w (terms tree)) (unsorted w number tree) row inside) in
      (image.source, image.image, AllByRecursion-In (IsSeen w number (entries tree)) (sources w number tree) (seen-part w number tree bounded has part) image.source image.is_in)

  pub list-sums : AllByRecursion (HasSum (weights_in w) (terms tree)) (list_of w number tree)
  list-sums =
      AllByRecursion-from_In (HasSum (weights_in w) (terms tree)) (list_of w number tree) (λ row inside.
      let from = seen-row row inside in
      subst (HasSum (weights_in w) (terms tree)) (sym from.1) (row-sum w number tree from.0 formed (part-inside w number tree part) from.2))

  -- what a term that may be evaluated above is worth for its rows
  pub list-worths : (term : ℕ) → HasTerm (numbered_block w number) (term - 1) (entries tree)
      → AllByRecursion (λ (row : RankRow). get_or (worths w row.ids) (term - 1) 0 ≤ get_or (weights_in w).max (term - 1) 0) (list_of w number tree)
  list-worths term term_is =
      AllByRecursion-from_In (λ (row : RankRow). get_or (worths w row.ids) (term - 1) 0 ≤ get_or (weights_in w).max (term - 1) 0) (list_of w number tree) (λ row inside.
      let from = seen-row row inside in
      subst (λ (r : RankRow). get_or (worths w r.ids) (term - 1) 0 ≤ get_or (weights_in w).max (term - 1) 0) (sym from.1)
      (worth-within w number (entries tree) term from.0 formed term_is from.2))
