-- A rank operator asks its input no oftener where its term is worth more.
use Rattle.std.proofs.Common.{◌≡◌, ◌∙◌, ℕ, zero, suc, ◌+◌, ◌-◌, ◌*◌, ◌≤◌, Bool, true, false, cond, List, [], ◌∷◌, ◌++◌, length, map, take, drop, get_or, bit_or, Option, Some, None, refl, sym, ap, ap₂, subst, subst₂, inl, inr, arith}
use Rattle.std.proofs.lemmas.Bool.{cases_lt}
use Rattle.std.proofs.lemmas.Grind.{flat_map-append}
use Rattle.std.proofs.lemmas.List.{map-append, take_all}
use Rattle.std.proofs.lemmas.Nat.{mul-le}
use Rattle.std.proofs.lemmas.Option.{slice_get_cases}
use Rattle.std.specs.Cmp.{IsTotalOrder, nat_cmp_is, tied_itself}
use Rattle.std.specs.Cmp.Lexicographic.{slice_cmp}
use Rattle.std.specs.List.{AllByRecursion, filter, flat_map, slice_get}
use Rattle.std.specs.Option.{option_map}
use Rattle.std.specs.Ordering.{is_lt, is_gt, nat_cmp, ordering_reverse, ordering_then}
use Rattle.std.specs.declared.cmp.Ordering.{Ordering}
use Rattle.std.specs.declared.cmp.Ordering.TheVariants.{Less, Equal, Greater}
use Rattle.rs_order.specs.Asks.{IsNoFurther, bar_after, comes_before_bar, those_before}
use Rattle.rs_order.specs.Climbing.{HasDistinctKeys, In}
use Rattle.rs_order.specs.Schedule.{JoinSide, Left, Right, asks_from}
use Rattle.rs_order.specs.Sorting.{sorted}
use Rattle.rs_order.proofs.AsksFacts.{asks_for-more, get_or-asked, get_or-before}
use Rattle.rs_order.proofs.ClimbingFacts.{cmp-not_itself}
use Rattle.rs_order.proofs.EachFacts.{each-append, each-drop}
use Rattle.rs_order.proofs.ItemFacts.{sorted-filter}
use Rattle.rs_order.proofs.PartFacts.{bar_after-slice_get, cmp-behind-Less, is_lt-Less}
use Rattle.rs_order.proofs.ReorderFacts.{asks_upto}
use Rattle.rs_order.proofs.SortingFacts.{Climbs-sorted}
use Rattle.rs_rank.specs.Keys.{key_cmp}
use Rattle.rs_rank.specs.Masks.{mask_of}
use Rattle.rs_rank.specs.Weights.{rest}
use Rattle.rs_rank.specs.declared.ids.Ids.{Ids}
use Rattle.rs_rank.specs.declared.row.RankRow.{RankRow}
use Rattle.rs_rank.proofs.OrderFacts.{key_cmp-total}
use Rattle.rs_mu.specs.Stands.{Evaluation, IsInput, asks_of, old_key}
use Rattle.rs_mu.proofs.StandFacts.{asks_of-upto, length-sorted, reorder, row_key}
use Rattle.rs_expr.specs.Scoring.{Answering}
use Rattle.rs_expr.specs.declared.scorer.Call.{Call}
use Rattle.rs_catalog.specs.Catalog.{CatalogDef}
use Rattle.rs_query.specs.Answers.{worth_of}
use Rattle.rs_query.specs.Blocks.{block_in}
use Rattle.rs_query.specs.Questions.{Question, call_for, got_for, question_of}
use Rattle.rs_query.specs.declared.query.Query.{Query}
use Rattle.rs_query.specs.declared.term.Term.{Term}
use Rattle.rs_plan.specs.Asks.{child_asks}
use Rattle.rs_plan.specs.Calls.{calls_of_plan, own_question, part_of, side_part, questions}
use Rattle.rs_plan.specs.Counts.{asked_of}
use Rattle.rs_plan.specs.Lists.{World, list_of}
use Rattle.rs_plan.specs.Trees.{Distinct, JoinOperator, Rank, RankScan, SeqScan, SetOperator, PlanTree}
use Rattle.rs_ripple.specs.Stands.{BeginsWith}
use Rattle.rs_exec.specs.Asking.{world_of}
use Rattle.rs_exec.specs.Certifying.{AnswerAlike, AnswersFit, AsksNo, IsGreaterBy}
use Rattle.rs_exec.specs.Standing.{evaluation_for}
use Rattle.rs_exec.proofs.CertifiedFacts.{are-worlds, certifies}
use Rattle.rs_exec.proofs.CertifyFacts.{AreWorlds, Share, asks-alike, left_ask}
use Rattle.rs_exec.proofs.OperatorFacts.{puts-are, puts_of}
use Rattle.rs_exec.proofs.PlacesFacts.{plan-part}
use Rattle.rs_exec.proofs.RankFacts.{asks_from-split, rank-asks, rank-child_asks, rank-input}

-- where each item that passes one test passes another one, no more pass the first one
filter-longer : {X : Type 0} (p q : X → Bool) (xs : List X) → ((x : X) → In x xs → p x ≡ true → q x ≡ true) → length (filter p xs) ≤ length (filter q xs)
filter-longer p q [] both = omega arith
filter-longer p q (x ∷ xs) both =
    let rest = filter-longer p q xs (λ z h. both z (inr h)) in
    (elim (p x) as (λ b. p x ≡ b → length (cond b (x ∷ filter p xs) (filter p xs)) ≤ length (filter q (x ∷ xs))) [
      | true ↦ λ e.
          subst (λ c. suc (length (filter p xs)) ≤ length (cond c (x ∷ filter q xs) (filter q xs))) (sym (both x (inl refl) e)) (omega arith)
      | false ↦ λ e.
          elim (q x) as (λ c. length (filter p xs) ≤ length (cond c (x ∷ filter q xs) (filter q xs))) [ true ↦ omega arith | false ↦ omega arith ]
    ]) refl

gt-turned : {K : Type 0} (cmp : K → K → Ordering) → IsTotalOrder cmp → (a b : K) → is_gt (cmp a b) ≡ is_lt (cmp b a)
gt-turned cmp o a b = ap is_gt (o.antisymm a b) ∙ turned (cmp b a)
  where
    turned : (r : Ordering) → is_gt (ordering_reverse r) ≡ is_lt r
    turned Less = refl
    turned Equal = refl
    turned Greater = refl

-- of items with two keys, the one of which never comes before the other
module _ {X K : Type 0} (cmp : K → K → Ordering) (o : IsTotalOrder cmp) (late soon : X → K) (xs : List X) (late_distinct : HasDistinctKeys cmp late xs) (soon_distinct : HasDistinctKeys cmp soon xs)
    (later : (x : X) → In x xs → is_lt (cmp (late x) (soon x)) ≡ false) where
  count-sorted : (key : X → K) → HasDistinctKeys cmp key xs → (bar : Option K) → length (those_before cmp key bar (sorted cmp key xs)) ≡ length (those_before cmp key bar xs)
  count-sorted key distinct bar =
      sym (ap (λ (zs : List X). length zs) (sorted-filter cmp key o (λ x. comes_before_bar cmp bar (key x)) xs distinct))
      ∙ length-sorted cmp key (those_before cmp key bar xs)

  -- no more come before a bar by the later key
  fewer-before : (bar : K) → length (those_before cmp late (Some bar) xs) ≤ length (those_before cmp soon (Some bar) xs)
  fewer-before bar =
      filter-longer (λ x. is_lt (cmp (late x) bar)) (λ x. is_lt (cmp (soon x) bar)) xs (λ x h before.
      ap is_lt (cmp-behind-Less cmp o (soon x) (late x) bar (gt-turned cmp o (soon x) (late x) ∙ later x h) (is_lt-Less (cmp (late x) bar) before)))

  -- so the n-th of the sooner keys comes at or before the n-th of the later ones
  bars-rise : (n : ℕ) → IsNoFurther cmp (bar_after soon (sorted cmp soon xs) n) (bar_after late (sorted cmp late xs) n)
  bars-rise n =
      elim (slice_get_cases (sorted cmp late xs) n).1 [
        | inl some ↦
            elim (slice_get_cases (sorted cmp soon xs) n).1 [
              | inl other ↦
                  let x = some.0 in
                  let y = other.0 in
                  subst₂ (IsNoFurther cmp)
                  (sym (bar_after-slice_get soon (sorted cmp soon xs) n ∙ ap (option_map soon) other.2))
                  (sym (bar_after-slice_get late (sorted cmp late xs) n ∙ ap (option_map late) some.2))
                  ((elim (is_gt (cmp (soon y) (late x))) as (λ b. is_gt (cmp (soon y) (late x)) ≡ b → b ≡ false) [
                    | true ↦ λ past.
                        let less = get_or-before cmp o late (Some (soon y)) (sorted cmp late xs) n x (Climbs-sorted cmp o late xs late_distinct) some.1
                        (ap (λ z. is_lt (cmp (late z) (soon y))) some.3 ∙ sym (gt-turned cmp o (soon y) (late x)) ∙ past) in
                        let late_count = count-sorted late late_distinct (Some (soon y)) in
                        let soon_count = count-sorted soon soon_distinct (Some (soon y)) in
                        let fewer = fewer-before (soon y) in
                        let asked = get_or-asked cmp o soon (Some (soon y)) (sorted cmp soon xs) n y (Climbs-sorted cmp o soon xs soon_distinct) (omega arith) in
                        absurd (cmp-not_itself cmp o (soon y) (is_lt-Less (cmp (soon y) (soon y)) (sym (ap (λ z. is_lt (cmp (soon z) (soon y))) other.3) ∙ asked)))
                    | false ↦ λ e. refl
                  ]) refl)
              | inr none ↦
                  let past = none.0 in
                  let within = some.1 in
                  let one = length-sorted cmp soon xs in
                  let two = length-sorted cmp late xs in
                  absurd (omega arith)
            ]
        | inr none ↦
            subst (IsNoFurther cmp (bar_after soon (sorted cmp soon xs) n)) (sym (bar_after-slice_get late (sorted cmp late xs) n ∙ ap (option_map late) none.1)) tt
      ]

  -- and no more asks are made
  pub asks-fewer : (old : X → K) (n : ℕ) → asks_upto cmp old soon xs n ≤ asks_upto cmp old late xs n
  asks-fewer old zero = omega arith
  asks-fewer old (suc n) = asks_for-more cmp o old xs (bar_after soon (sorted cmp soon xs) n) (bar_after late (sorted cmp late xs) n) (bars-rise n)

-- of keys with the same ids, that of the lesser bound doesn't come before the other
lower-later : (a b : ℕ) (ids : Ids) → a ≤ b → is_lt (key_cmp (record { bound = a; ids = ids }) (record { bound = b; ids = ids })) ≡ false
lower-later a b ids le =
    elim (cases_lt a b) [
      | inl less ↦ ap (λ o. is_lt (ordering_then o (ordering_then (nat_cmp ids.block ids.block) (slice_cmp nat_cmp ids.rows ids.rows)))) (sym (nat_cmp_is b a Greater less))
      | inr more ↦
          let same : a ≡ b = omega arith in
          subst (λ n. is_lt (key_cmp (record { bound = a; ids = ids }) (record { bound = n; ids = ids })) ≡ false) same
          (ap is_lt (tied_itself key_cmp-total (record { bound = a; ids = ids })))
    ]

-- numbers that two functions make of a list, at one place
at-least : {X : Type 0} (f g : X → ℕ) (xs : List X) (i : ℕ) → ((x : X) → f x ≤ g x) → get_or (map f xs) i 0 ≤ get_or (map g xs) i 0
at-least f g [] i each = omega arith
at-least f g (x ∷ xs) zero each = each x
at-least f g (x ∷ xs) (suc i) each = at-least f g xs i each

module _ (catalogue : CatalogDef) (query : Query) (predicate : ℕ) (lesser greater : Answering) (is : IsGreaterBy catalogue predicate lesser greater) where
  abbrev w : World
  w = world_of catalogue lesser query

  abbrev v : World
  v = world_of catalogue greater query

  -- what asks nothing of the predicate is answered alike
  own-quiet : (term : ℕ) → ((number : ℕ) (t : Term) → slice_get (block_in query number).terms (term - 1) ≡ Some t → t.predicate ≡ predicate → ⊥)
      → (row : Option RankRow) → AnswerAlike catalogue lesser greater (own_question w term row)
  own-quiet term without None = tt
  own-quiet term without (Some row) = go (slice_get (block_in query row.ids.block).terms (term - 1)) refl where
    go : (found : Option Term) → slice_get (block_in query row.ids.block).terms (term - 1) ≡ found → AnswerAlike catalogue lesser greater (own_question w term (Some row))
    go None there =
        let none : own_question w term (Some row) ≡ [] = rw there refl in
        subst (AnswerAlike catalogue lesser greater) (sym none) tt
    go (Some t) there =
        let q = question_of row.ids.block (block_in query row.ids.block) row.ids.rows t in
        let one : own_question w term (Some row) ≡ q ∷ [] = rw there refl in
        subst (AnswerAlike catalogue lesser greater) (sym one) (is.alike q (without row.ids.block t there), tt)

  part-quiet : (f : ℕ → List Question) → ((a : ℕ) → AnswerAlike catalogue lesser greater (f a)) → (n : ℕ) → AnswerAlike catalogue lesser greater (part_of f n)
  part-quiet f all zero = tt
  part-quiet f all (suc j) = each-drop (λ (q : Question). got_for lesser catalogue q ≡ got_for greater catalogue q) (length (f j)) (f (suc j)) (all (suc j))

  each-made : {A B : Type 0} (P : B → Type 0) (f : A → List B) (xs : List A) → ((x : A) → AllByRecursion P (f x)) → AllByRecursion P (flat_map f xs)
  each-made P f [] each = tt
  each-made P f (x ∷ xs) each = each-append P (f x) (flat_map f xs) (each x) (each-made P f xs each)

  side-quiet : (left right : ℕ → List Question) → ((a : ℕ) → AnswerAlike catalogue lesser greater (left a)) → ((a : ℕ) → AnswerAlike catalogue lesser greater (right a))
      → (side : JoinSide) (n : ℕ) → AnswerAlike catalogue lesser greater (side_part left right (record { side = side; number = n }))
  side-quiet left right lefts rights Left n = part-quiet left lefts n
  side-quiet left right lefts rights Right n = part-quiet right rights n

  quiet : (number : ℕ) (tree : PlanTree) → AsksNo query predicate tree → (a : ℕ) → AnswerAlike catalogue lesser greater (questions w number tree a)
  quiet number (SeqScan entry) without a = tt
  quiet number (RankScan entry term index) without a = tt
  quiet number (Rank term child) without a =
      each-made (λ (q : Question). got_for lesser catalogue q ≡ got_for greater catalogue q) (puts_of w number (Rank term child)) (child_asks w number (Rank term child) a) (λ ask.
      each-append (λ (q : Question). got_for lesser catalogue q ≡ got_for greater catalogue q) (part_of (questions w number child) ask.number) (own_question w term (slice_get (list_of w number child) (ask.number - 1)))
      (part-quiet (questions w number child) (quiet number child without.1) ask.number)
      (own-quiet term without.0 (slice_get (list_of w number child) (ask.number - 1))))
  quiet number (JoinOperator kind left right) without a =
      each-made (λ (q : Question). got_for lesser catalogue q ≡ got_for greater catalogue q) (puts_of w number (JoinOperator kind left right)) (child_asks w number (JoinOperator kind left right) a) (λ ask.
      side-quiet (questions w number left) (questions w number right) (quiet number left without.0) (quiet number right without.1) ask.side ask.number)
  quiet number (Distinct child) without a =
      each-made (λ (q : Question). got_for lesser catalogue q ≡ got_for greater catalogue q) (puts_of w number (Distinct child)) (child_asks w number (Distinct child) a) (λ ask.
      part-quiet (questions w number child) (quiet number child without) ask.number)
  quiet number (SetOperator left right) without a =
      each-made (λ (q : Question). got_for lesser catalogue q ≡ got_for greater catalogue q) (puts_of w number (SetOperator left right)) (child_asks w number (SetOperator left right) a) (λ ask.
      side-quiet (questions w 1 left) (questions w 2 right) (quiet 1 left without.0) (quiet 2 right without.1) ask.side ask.number)

  module _ (term : ℕ) (child : PlanTree) (without : AsksNo query predicate child)
      (fits : AnswersFit catalogue query (Rank term child) lesser) (other_fits : AnswersFit catalogue query (Rank term child) greater) where
    are : AreWorlds catalogue lesser greater query 1
    are = are-worlds catalogue lesser greater query (Rank term child) 0 fits other_fits

    share : (a : ℕ) → Share catalogue lesser greater query 1 child a
    share a =
        certifies catalogue lesser greater query 1 are child (plan-part catalogue query (Rank term child) fits.plan).0 fits.indexes other_fits.indexes a
        (quiet 1 child without a)

    abbrev rows : List RankRow
    rows = list_of w 1 child

    abbrev others : List RankRow
    others = list_of v 1 child

    same-rows : rows ≡ others
    same-rows =
        let all = length rows + length others in
        sym (take_all all rows (omega arith)) ∙ (share all).rows ∙ take_all all others (omega arith)

    abbrev e : Evaluation
    e = evaluation_for w term child

    abbrev o : Evaluation
    o = evaluation_for v term child

    input : IsInput e rows
    input = rank-input w 1 term child are.formed (plan-part catalogue query (Rank term child) fits.plan) are.weights are.has are.bounded

    other-input : IsInput o rows
    other-input =
        subst (IsInput o) (sym same-rows) (rank-input v 1 term child are.formed (plan-part catalogue query (Rank term child) fits.plan) are.weights are.has are.other_bounded)

    key-later : (row : RankRow) → is_lt (key_cmp (row_key e row) (row_key o row)) ≡ false
    key-later row =
        let weight = get_or e.weights.weight (term - 1) 0 in
        let worth : e.worth row ≤ o.worth row =
        at-least (worth_of lesser catalogue (block_in query row.ids.block) row.ids.rows) (worth_of greater catalogue (block_in query row.ids.block) row.ids.rows)
        (block_in query row.ids.block).terms (term - 1) (is.least (block_in query row.ids.block) row.ids.rows) in
        let product = mul-le weight (e.worth row) weight (o.worth row) (omega arith) worth in
        lower-later
        (row.sum + weight * e.worth row + rest e.weights (bit_or e.terms (mask_of e.term)))
        (row.sum + weight * o.worth row + rest e.weights (bit_or e.terms (mask_of e.term))) row.ids (omega arith)

    -- greater worths take no more asks
    fewer-asks : (n : ℕ) → asked_of v 1 (Rank term child) n Left ≤ asked_of w 1 (Rank term child) n Left
    fewer-asks n =
        let part = plan-part catalogue query (Rank term child) fits.plan in
        let j_is = rank-asks w 1 term child are.formed part are.weights n ∙ asks_of-upto e rows n in
        let k_is = rank-asks v 1 term child are.formed part are.weights n ∙ ap (λ (all : List RankRow). asks_of o all n) (sym same-rows) ∙ asks_of-upto o rows n in
        let fewer = asks-fewer key_cmp key_cmp-total (row_key e) (row_key o) rows (reorder e rows input).distinct (reorder o rows other-input).distinct (λ row h. key-later row) (old_key e) n in
        omega arith

    put-same : (i : ℕ) → puts_of v 1 (Rank term child) (left_ask (1 + i)) ≡ puts_of w 1 (Rank term child) (left_ask (1 + i))
    put-same i =
        let place : 1 + i ≡ suc i = omega arith in
        ap (λ n. puts_of v 1 (Rank term child) (left_ask n)) place
        ∙ puts-are v 1 (Rank term child) Left i
        ∙ sym (ap₂ (λ (xs ys : List Question). xs ++ ys)
        (ap₂ (λ (xs ys : List Question). drop (length xs) ys) (share i).asked (share (suc i)).asked)
        (ap (λ (all : List RankRow). own_question w term (slice_get all i)) same-rows))
        ∙ sym (puts-are w 1 (Rank term child) Left i)
        ∙ sym (ap (λ n. puts_of w 1 (Rank term child) (left_ask n)) place)

    -- so the questions are the first ones
    pub greater-begins : (n : ℕ) → BeginsWith (calls_of_plan w (Rank term child) n) (calls_of_plan v (Rank term child) n)
    greater-begins n =
        let j = asked_of w 1 (Rank term child) n Left in
        let k = asked_of v 1 (Rank term child) n Left in
        let fewer = fewer-asks n in
        let call = call_for catalogue in
        let puts = puts_of w 1 (Rank term child) in
        let more = flat_map puts (asks_from Left (1 + k) (j - k)) in
        let short : questions v 1 (Rank term child) n ≡ flat_map puts (asks_from Left 1 k) =
        ap (flat_map (puts_of v 1 (Rank term child))) (rank-child_asks v 1 term child n)
        ∙ asks-alike (puts_of v 1 (Rank term child)) puts 1 k (λ i less. put-same i) in
        let long : questions w 1 (Rank term child) n ≡ flat_map puts (asks_from Left 1 k) ++ more =
        ap (flat_map puts) (rank-child_asks w 1 term child n ∙ asks_from-split Left 1 k (j - k) j (omega arith))
        ∙ flat_map-append puts (asks_from Left 1 k) (asks_from Left (1 + k) (j - k)) in
        sym (ap (take (length (calls_of_plan v (Rank term child) n)))
        (ap (map call) long ∙ map-append call (flat_map puts (asks_from Left 1 k)) more ∙ ap (λ (front : List Call). front ++ map call more) (sym (ap (map call) short)))
        ∙ take-front (calls_of_plan v (Rank term child) n) (map call more)) where
          take-front : {A : Type 0} (xs ys : List A) → take (length xs) (xs ++ ys) ≡ xs
          take-front [] ys = refl
          take-front (x ∷ xs) ys = ap (λ rest. x ∷ rest) (take-front xs ys)
