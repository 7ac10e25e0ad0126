-- A rank operator over its input: its list is the answers of its core, and its asks are the core's.
use Rattle.std.proofs.Common.{◌≡◌, ◌∙◌, ℕ, zero, suc, ◌+◌, ◌-◌, ◌≤◌, Bool, true, false, cond, eqb, List, [], ◌∷◌, ◌++◌, length, map, drop, bit_or, refl, sym, ap, arith}
use Rattle.std.proofs.lemmas.List.{length-map}
use Rattle.std.proofs.lemmas.Option.{slice_get_within}
use Rattle.std.specs.List.{filter}
use Rattle.rs_order.specs.Asks.{asks_for, comes_before_bar, bar_after}
use Rattle.rs_order.specs.Schedule.{JoinSide, Left, SideAsk, asks_from, is_of_side}
use Rattle.rs_order.specs.Sorting.{sorted}
use Rattle.rs_order.proofs.PartFacts.{sorted-map}
use Rattle.rs_order.proofs.SortingFacts.{sorted-sorted}
use Rattle.rs_rank.specs.Keys.{key_cmp}
use Rattle.rs_rank.specs.Masks.{mask_of}
use Rattle.rs_rank.specs.Weights.{IsWeights}
use Rattle.rs_rank.specs.declared.ids.Ids.{Ids}
use Rattle.rs_rank.specs.declared.key.Key.{Key}
use Rattle.rs_rank.specs.declared.row.RankRow.{RankRow}
use Rattle.rs_rank.proofs.OrderFacts.{key_cmp-total}
use Rattle.rs_rank.proofs.WeightFacts.{sum_inside-one}
use Rattle.rs_mu.specs.Mu.{IsNewTerm}
use Rattle.rs_mu.specs.Stands.{Evaluation, IsInput, answers, asks_of, new_key, old_key, with_worth}
use Rattle.rs_mu.proofs.StandFacts.{asks-grow, row_key}
use Rattle.rs_catalog.specs.Catalog.{CatalogDef}
use Rattle.rs_query.specs.Answers.{worth_of}
use Rattle.rs_query.specs.WellFormed.{IsQuery}
use Rattle.rs_query.specs.declared.query.Query.{Query}
use Rattle.rs_query.specs.declared.query.Query.TheVariants.{One, Set}
use Rattle.rs_plan.specs.Asks.{bar_of, child_asks, keys_of}
use Rattle.rs_plan.specs.Counts.{asked_of}
use Rattle.rs_plan.specs.Lists.{World, numbered_block, key_under, list_of, row_under, sources, weights_in, worths}
use Rattle.rs_query.specs.Blocks.{block_in}
use Rattle.rs_plan.specs.Trees.{Rank, PlanTree, terms}
use Rattle.rs_exec.specs.Asked.{HasBlock, IsBoundedWorld}
use Rattle.rs_exec.specs.Parts.{IsPartOf}
use Rattle.rs_exec.specs.Standing.{evaluation_for}
use Rattle.rs_exec.proofs.BlockFacts.{same-counts}
use Rattle.rs_exec.proofs.ListFacts.{keys-of, list-climbs, list-others, unsorted, unsorted-others}
use Rattle.rs_exec.proofs.SumFacts.{list-sums, list-worths}

-- all asks of the left side are asks of it
pub left-asks : (first count : ℕ) → length (filter (is_of_side Left) (asks_from Left first count)) ≡ count
left-asks first zero = refl
left-asks first (suc count) = ap suc (left-asks (suc first) count)

-- a number of asks in two parts
pub asks_from-split : (side : JoinSide) (first a b all : ℕ) → all ≡ a + b → asks_from side first all ≡ asks_from side first a ++ asks_from side (first + a) b
asks_from-split side first zero b all is =
    let same : all ≡ b = omega arith in
    let place : first ≡ first + 0 = omega arith in
    ap (asks_from side first) same ∙ ap (λ k. asks_from side k b) place
asks_from-split side first (suc a) b zero is = absurd (omega arith)
asks_from-split side first (suc a) b (suc all) is =
    let place : suc first + a ≡ first + suc a = omega arith in
    ap (λ (rest : List SideAsk). record { side = side; number = first } ∷ rest) (asks_from-split side (suc first) a b all (omega arith))
    ∙ ap (λ k. asks_from side first (suc a) ++ asks_from side k b) place

pub drop-front : {A : Type 0} (xs ys : List A) → drop (length xs) (xs ++ ys) ≡ ys
drop-front [] ys = refl
drop-front (x ∷ xs) ys = drop-front xs ys

-- the asks for a bar among keys are those among what has the keys
pub length-filter-map : {X Y : Type 0} (p : Y → Bool) (f : X → Y) (xs : List X) → length (filter p (map f xs)) ≡ length (filter (λ x. p (f x)) xs)
length-filter-map p f [] = refl
length-filter-map p f (x ∷ xs) =
    elim (p (f x)) as (λ b. length (cond b (f x ∷ filter p (map f xs)) (filter p (map f xs))) ≡ length (cond b (x ∷ filter (λ x. p (f x)) xs) (filter (λ x. p (f x)) xs))) [
      | true ↦ ap suc (length-filter-map p f xs)
      | false ↦ length-filter-map p f xs
    ]

pub bar_after-map : {X K : Type 0} (key : X → K) (xs : List X) (n : ℕ) → bar_after (λ (k : K). k) (map key xs) n ≡ bar_after key xs n
bar_after-map key [] n = refl
bar_after-map key (x ∷ xs) zero = refl
bar_after-map key (x ∷ xs) (suc n) = bar_after-map key xs n

module _ (w : World) (number term : ℕ) (child : PlanTree) where
  abbrev e : Evaluation
  e = evaluation_for w term child

  -- its asks are those of an only child
  pub rank-child_asks : (a : ℕ) → child_asks w number (Rank term child) a ≡ asks_from Left 1 (asked_of w number (Rank term child) a Left)
  rank-child_asks zero = refl
  rank-child_asks (suc n) =
      ap (asks_from Left 1) (sym (left-asks 1 (asks_for key_cmp (λ (key : Key). key) (keys_of w number child) (bar_of w number (Rank term child) n))))

  module _ (formed : IsQuery w.catalogue w.query) (part : IsPartOf w.catalogue w.query number (Rank term child)) (weights : IsWeights (weights_in w)) where
    new-term : IsNewTerm (terms child) term
    new-term =
        let is = part.1.is_term in
        let within = slice_get_within (numbered_block w number).terms (term - 1) part.1.term is.there in
        let few = few-terms w.catalogue w.query number formed in
        record { least = is.some; most = omega arith; absent = part.1.absent } where
          few-terms : (catalogue : CatalogDef) (query : Query) (number : ℕ) → IsQuery catalogue query → length (block_in query number).terms ≤ 8
          few-terms catalogue (One block limit) number formed = formed.0.most_terms
          few-terms catalogue (Set op left right limit) number formed =
              elim (eqb number 1) as (λ b. length (cond b left right).terms ≤ 8) [
                | true ↦ formed.0.left_block.most_terms
                | false ↦ formed.0.right_block.most_terms
              ]

    -- the weights are those that a core holds
    pub rank-input : HasBlock w.query number → IsBoundedWorld w → IsInput (evaluation_for w term child) (list_of w number child)
    rank-input has bounded = record {
      weights = weights;
      term = new-term;
      rising = list-climbs w number child;
      sums = list-sums w number child formed bounded has part.0;
      limits = list-worths w number child formed bounded has part.0 term (record { term = part.1.term; there = part.1.is_term.there; inside = part.1.there });
      others = list-others w number child;
    }

    -- one more term adds weight times worth
    with-term : (ids : Ids) → with_worth e (row_under w (terms child) ids) ≡ row_under w (bit_or (terms child) (mask_of term)) ids
    with-term ids =
        let within = slice_get_within (numbered_block w number).terms (term - 1) part.1.term part.1.is_term.there in
        let count : length (worths w ids) ≡ length (numbered_block w number).terms =
        length-map (numbered_block w ids.block).terms (worth_of w.answer w.catalogue (numbered_block w ids.block) ids.rows) ∙ same-counts w.catalogue w.query ids.block number formed in
        let most = new-term.most in
        let eight = weights.weight_count in
        let some = part.1.is_term.some in
        ap (λ (sum : ℕ). record { ids = ids; sum = sum })
        (sym (sum_inside-one (term - 1) (terms child) (weights_in w).weight (worths w ids) (omega arith) (omega arith) part.1.absent))

    with-terms : (all : List Ids) → map (with_worth e) (map (row_under w (terms child)) all) ≡ map (row_under w (bit_or (terms child) (mask_of term))) all
    with-terms [] = refl
    with-terms (ids ∷ rest) =
        ap (λ (row : RankRow). row ∷ map (with_worth e) (map (row_under w (terms child)) rest)) (with-term ids)
        ∙ ap (λ (rows : List RankRow). row_under w (bit_or (terms child) (mask_of term)) ids ∷ rows) (with-terms rest)

    -- to sort by one key and then by a second one is to sort by the second one
    pub rank-list : list_of w number (Rank term child) ≡ answers (evaluation_for w term child) (list_of w number child)
    rank-list =
        sym (sorted-map key_cmp (new_key e) (with_worth e) (list_of w number child)
        ∙ ap (map (with_worth e)) (sorted-sorted key_cmp (key_under w (terms child)) key_cmp key_cmp-total (row_key e) (unsorted w number child)
        (keys-of (row_key e) (λ r. refl) (unsorted w number child) (unsorted-others w number child)))
        ∙ sym (sorted-map key_cmp (new_key e) (with_worth e) (unsorted w number child))
        ∙ ap (sorted key_cmp (new_key e)) (with-terms (sources w number child)))

    -- how often the input was asked
    pub rank-asks : (a : ℕ) → asked_of w number (Rank term child) a Left ≡ asks_of (evaluation_for w term child) (list_of w number child) a
    rank-asks zero = refl
    rank-asks (suc n) =
        left-asks 1 (asks_for key_cmp (λ (key : Key). key) (keys_of w number child) (bar_of w number (Rank term child) n))
        ∙ ap suc (length-filter-map (comes_before_bar key_cmp (bar_of w number (Rank term child) n)) (key_under w (terms child)) (list_of w number child))
        ∙ ap (asks_for key_cmp (old_key e) (list_of w number child))
        (bar_after-map (new_key e) (list_of w number (Rank term child)) n ∙ ap (λ rows. bar_after (new_key e) rows n) rank-list)

    pub asks-more : HasBlock w.query number → IsBoundedWorld w → (a b : ℕ) → a ≤ b → asked_of w number (Rank term child) a Left ≤ asked_of w number (Rank term child) b Left
    asks-more has bounded a b le =
        let less = rank-asks a in
        let more = rank-asks b in
        let grow = asks-grow e (list_of w number child) (rank-input has bounded) a b le in
        omega arith
