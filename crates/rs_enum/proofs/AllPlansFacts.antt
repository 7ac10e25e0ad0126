-- The list of all plans of a query has its plans, each of them, and nothing else.
use Rattle.std.proofs.Common.{◌≡◌, ◌∙◌, ℕ, zero, suc, ◌+◌, ◌-◌, ◌^◌, ◌<◌, ◌≤◌, max, Bool, true, false, cond, List, [], ◌∷◌, ◌++◌, length, map, refl, sym, ap, subst, inl, inr, arith, bit_or, count_ones}
use Rattle.std.specs.Prelude.{Some, None, nat_lt}
use Rattle.std.specs.List.{flat_map, position, position_or_len}
use Rattle.std.proofs.Math.Nat.{pow-le-pow_right}
use Rattle.std.proofs.lemmas.Bool.{cases_lt, ltb-true}
use Rattle.std.proofs.lemmas.Nat.{le_or_l, ones-le}
use Rattle.std.proofs.lemmas.Option.{none-some, same_Some}
use Rattle.rs_order.specs.Climbing.{In}
use Rattle.rs_order.specs.Schedule.{numbers_from}
use Rattle.rs_order.proofs.ItemFacts.{In-left, In-right, In-append, In-map, In-map-back, In-flat_map, In-flat_map-back, In-filter, In-filter-back}
use Rattle.rs_rank.specs.Masks.{AreDisjoint, mask_of}
use Rattle.rs_catalog.specs.Catalog.{CatalogDef}
use Rattle.rs_query.specs.Combinations.{numbers_to}
use Rattle.rs_query.specs.WellFormed.{IsBlock, IsQuery}
use Rattle.rs_query.specs.declared.block.Block.{Block}
use Rattle.rs_query.specs.declared.query.Query.{Query}
use Rattle.rs_query.specs.declared.query.Query.TheVariants.{One, Set}
use Rattle.rs_plan.specs.Deciding.{is_plan}
use Rattle.rs_plan.specs.Numbers.{HasNumbers, IsUpTo}
use Rattle.rs_plan.specs.Plans.{HasNoDistinct, IsPart, IsPlan, IsSetPlan}
use Rattle.rs_plan.specs.Trees.{Distinct, Hash, JoinOperator, Nested, PlanTree, Rank, RankScan, SeqScan, SetOperator, entries, terms}
use Rattle.rs_plan.proofs.DecidingFacts.{plan-decided, plan-numbers}
use Rattle.rs_enum.specs.AllPlans.{all_plans, all_scans, trees_of, trees_over}
use Rattle.rs_enum.proofs.BitFacts.{ones-mask, ones-or}
use Rattle.rs_enum.proofs.BoundFacts.{ones-rank}
use Rattle.rs_enum.proofs.CostFacts.{entries-small, part-has-numbers, set-has-numbers, set-terms-below, terms-small}
use Rattle.rs_enum.proofs.WithinFacts.{sides-apart}

-- the numbers up to one, from 1 and from another one
In-numbers_to : (r n : ℕ) → 1 ≤ r → r ≤ n → In r (numbers_to n)
In-numbers_to r zero some most = absurd (omega arith)
In-numbers_to r (suc n) some most = elim (cases_lt n r) [
  | inl above ↦ In-right r (numbers_to n) (suc n ∷ []) (inl (omega arith))
  | inr below ↦ In-left r (numbers_to n) (suc n ∷ []) (In-numbers_to r n some below)
]

In-numbers_to-back : (r n : ℕ) → In r (numbers_to n) → IsUpTo n r
In-numbers_to-back r zero h = absurd h
In-numbers_to-back r (suc n) h = elim (In-append r (numbers_to n) (suc n ∷ []) h) [
  | inl before ↦
      let behind = In-numbers_to-back r n before in
      let some = behind.some in
      let within = behind.within in
      record { some = some; within = omega arith }
  | inr last ↦ elim last [ inl e ↦ record { some = omega (arith, e); within = omega (arith, e) } | inr none ↦ absurd none ]
]

In-numbers_from : (first count n : ℕ) → first ≤ n → n < first + count → In n (numbers_from first count)
In-numbers_from first zero n some most = absurd (omega arith)
In-numbers_from first (suc count) n some most = elim (cases_lt first n) [
  | inl above ↦ inr (In-numbers_from (suc first) count n (omega arith) (omega arith))
  | inr below ↦ inl (omega arith)
]

-- the numbers in a tree are among these
abbrev IsOver : List ℕ → List ℕ → List ℕ → PlanTree → Type 0
IsOver es ts indexes (SeqScan e) = In e es
IsOver es ts indexes (RankScan e t i) = In e es × In t ts × In i indexes
IsOver es ts indexes (Rank t child) = In t ts × IsOver es ts indexes child
IsOver es ts indexes (JoinOperator kind l r) = IsOver es ts indexes l × IsOver es ts indexes r
IsOver es ts indexes (Distinct child) = IsOver es ts indexes child
IsOver es ts indexes (SetOperator l r) = IsOver es ts indexes l × IsOver es ts indexes r

abbrev levels : PlanTree → ℕ
levels (SeqScan e) = 1
levels (RankScan e t i) = 1
levels (Rank t child) = suc (levels child)
levels (JoinOperator kind l r) = suc (max (levels l) (levels r))
levels (Distinct child) = suc (levels child)
levels (SetOperator l r) = suc (max (levels l) (levels r))

some-levels : (tree : PlanTree) → 1 ≤ levels tree
some-levels (SeqScan e) = omega arith
some-levels (RankScan e t i) = omega arith
some-levels (Rank t child) = omega arith
some-levels (JoinOperator kind l r) = omega arith
some-levels (Distinct child) = omega arith
some-levels (SetOperator l r) = omega arith

-- a list made of pairs
pairs-in : {A B C : Type 0} (f : A → B → C) (a : A) (b : B) (xs : List A) (ys : List B) → In a xs → In b ys → In (f a b) (flat_map (λ x. map (f x) ys) xs)
pairs-in f a b xs ys is_a is_b = In-flat_map (λ x. map (f x) ys) a (f a b) xs is_a (In-map (f a) b ys is_b)

record IsPair {A B C : Type 0} (f : A → B → C) (xs : List A) (ys : List B) (z : C) : Type 0 where
  first : A
  second : B
  first_in : In first xs
  second_in : In second ys
  pair : z ≡ f first second

pairs-back : {A B C : Type 0} (f : A → B → C) (xs : List A) (ys : List B) (z : C) → In z (flat_map (λ x. map (f x) ys) xs) → IsPair f xs ys z
pairs-back f xs ys z h =
    let made = In-flat_map-back (λ x. map (f x) ys) z xs h in
    let image = In-map-back (f made.source) z ys made.made in
    record { first = made.source; second = image.source; first_in = made.is_in; second_in = image.is_in; pair = image.image }

module _ (ts : List ℕ) (lesser : List PlanTree) where
  ranks : List PlanTree
  ranks = flat_map (λ term. map (Rank term) lesser) ts

  hashes : List PlanTree
  hashes = flat_map (λ left. map (JoinOperator Hash left) lesser) lesser

  nesteds : List PlanTree
  nesteds = flat_map (λ left. map (JoinOperator Nested left) lesser) lesser

  distincts : List PlanTree
  distincts = map Distinct lesser

  sets : List PlanTree
  sets = flat_map (λ left. map (SetOperator left) lesser) lesser

  -- a tree of one of the five kinds
  In-first : (z : PlanTree) → In z ranks → In z (trees_over ts lesser)
  unfolding ranks hashes nesteds distincts sets
  In-first z h =
      In-left z (ranks ++ hashes ++ nesteds ++ distincts) sets (In-left z (ranks ++ hashes ++ nesteds) distincts
      (In-left z (ranks ++ hashes) nesteds (In-left z ranks hashes h)))

  In-second : (z : PlanTree) → In z hashes → In z (trees_over ts lesser)
  unfolding ranks hashes nesteds distincts sets
  In-second z h =
      In-left z (ranks ++ hashes ++ nesteds ++ distincts) sets (In-left z (ranks ++ hashes ++ nesteds) distincts
      (In-left z (ranks ++ hashes) nesteds (In-right z ranks hashes h)))

  In-third : (z : PlanTree) → In z nesteds → In z (trees_over ts lesser)
  unfolding ranks hashes nesteds distincts sets
  In-third z h =
      In-left z (ranks ++ hashes ++ nesteds ++ distincts) sets (In-left z (ranks ++ hashes ++ nesteds) distincts (In-right z (ranks ++ hashes) nesteds h))

  In-fourth : (z : PlanTree) → In z distincts → In z (trees_over ts lesser)
  unfolding ranks hashes nesteds distincts sets
  In-fourth z h = In-left z (ranks ++ hashes ++ nesteds ++ distincts) sets (In-right z (ranks ++ hashes ++ nesteds) distincts h)

  In-fifth : (z : PlanTree) → In z sets → In z (trees_over ts lesser)
  unfolding ranks hashes nesteds distincts sets
  In-fifth z h = In-right z (ranks ++ hashes ++ nesteds ++ distincts) sets h

  In-rank : (t : ℕ) (child : PlanTree) → In t ts → In child lesser → In (Rank t child) (trees_over ts lesser)
  unfolding ranks
  In-rank t child is_t is_child = In-first (Rank t child) (pairs-in Rank t child ts lesser is_t is_child)

  In-hash : (l r : PlanTree) → In l lesser → In r lesser → In (JoinOperator Hash l r) (trees_over ts lesser)
  unfolding hashes
  In-hash l r is_l is_r = In-second (JoinOperator Hash l r) (pairs-in (JoinOperator Hash) l r lesser lesser is_l is_r)

  In-nested : (l r : PlanTree) → In l lesser → In r lesser → In (JoinOperator Nested l r) (trees_over ts lesser)
  unfolding nesteds
  In-nested l r is_l is_r = In-third (JoinOperator Nested l r) (pairs-in (JoinOperator Nested) l r lesser lesser is_l is_r)

  In-distinct : (child : PlanTree) → In child lesser → In (Distinct child) (trees_over ts lesser)
  unfolding distincts
  In-distinct child is_child = In-fourth (Distinct child) (In-map Distinct child lesser is_child)

  In-set : (l r : PlanTree) → In l lesser → In r lesser → In (SetOperator l r) (trees_over ts lesser)
  unfolding sets
  In-set l r is_l is_r = In-fifth (SetOperator l r) (pairs-in SetOperator l r lesser lesser is_l is_r)

  module _ (es indexes : List ℕ) (tree : PlanTree) (over : (child : PlanTree) → In child lesser → IsOver es ts indexes child) where
    first-back : In tree ranks → IsOver es ts indexes tree
    unfolding ranks
    first-back h =
        let p = pairs-back Rank ts lesser tree h in
        subst (IsOver es ts indexes) (sym p.pair) (p.first_in, over p.second p.second_in)

    second-back : In tree hashes → IsOver es ts indexes tree
    unfolding hashes
    second-back h =
        let p = pairs-back (JoinOperator Hash) lesser lesser tree h in
        subst (IsOver es ts indexes) (sym p.pair) (over p.first p.first_in, over p.second p.second_in)

    third-back : In tree nesteds → IsOver es ts indexes tree
    unfolding nesteds
    third-back h =
        let p = pairs-back (JoinOperator Nested) lesser lesser tree h in
        subst (IsOver es ts indexes) (sym p.pair) (over p.first p.first_in, over p.second p.second_in)

    fourth-back : In tree distincts → IsOver es ts indexes tree
    unfolding distincts
    fourth-back h =
        let image = In-map-back Distinct tree lesser h in
        subst (IsOver es ts indexes) (sym image.image) (over image.source image.is_in)

    fifth-back : In tree sets → IsOver es ts indexes tree
    unfolding sets
    fifth-back h =
        let p = pairs-back SetOperator lesser lesser tree h in
        subst (IsOver es ts indexes) (sym p.pair) (over p.first p.first_in, over p.second p.second_in)

    over-back : In tree (trees_over ts lesser) → IsOver es ts indexes tree
    unfolding ranks hashes nesteds distincts sets
    over-back h = elim (In-append tree (ranks ++ hashes ++ nesteds ++ distincts) sets h) [
      | inr set ↦ fifth-back set
      | inl four ↦ elim (In-append tree (ranks ++ hashes ++ nesteds) distincts four) [
        | inr distinct ↦ fourth-back distinct
        | inl three ↦ elim (In-append tree (ranks ++ hashes) nesteds three) [
          | inr nested ↦ third-back nested
          | inl two ↦ elim (In-append tree ranks hashes two) [ inr hash ↦ second-back hash | inl rank ↦ first-back rank ]
        ]
      ]
    ]

module _ (es ts indexes : List ℕ) where
  seq_scans : List PlanTree
  seq_scans = map SeqScan es

  index_scans : List PlanTree
  index_scans = flat_map (λ entry. flat_map (λ term. map (RankScan entry term) indexes) ts) es

  In-seq_scan : (e : ℕ) → In e es → In (SeqScan e) (all_scans es ts indexes)
  unfolding seq_scans index_scans
  In-seq_scan e is_e = In-left (SeqScan e) seq_scans index_scans (In-map SeqScan e es is_e)

  In-rank_scan : (e t i : ℕ) → In e es → In t ts → In i indexes → In (RankScan e t i) (all_scans es ts indexes)
  unfolding seq_scans index_scans
  In-rank_scan e t i is_e is_t is_i =
      In-right (RankScan e t i) seq_scans index_scans
      (In-flat_map (λ entry. flat_map (λ term. map (RankScan entry term) indexes) ts) e (RankScan e t i) es is_e (pairs-in (RankScan e) t i ts indexes is_t is_i))

  scans-back : (tree : PlanTree) → In tree (all_scans es ts indexes) → IsOver es ts indexes tree
  unfolding seq_scans index_scans
  scans-back tree h = elim (In-append tree seq_scans index_scans h) [
    | inl seq ↦
        let image = In-map-back SeqScan tree es seq in
        subst (IsOver es ts indexes) (sym image.image) image.is_in
    | inr by_index ↦
        let made = In-flat_map-back (λ entry. flat_map (λ term. map (RankScan entry term) indexes) ts) tree es by_index in
        let p = pairs-back (RankScan made.source) ts indexes tree made.made in
        subst (IsOver es ts indexes) (sym p.pair) (made.is_in, p.first_in, p.second_in)
  ]

  -- the trees of this many levels are those whose numbers are among these
  In-trees : (tree : PlanTree) (n : ℕ) → levels tree ≤ n → IsOver es ts indexes tree → In tree (trees_of es ts indexes n)
  unfolding trees_of
  In-trees tree zero few over = absurd (let some = some-levels tree in omega arith)
  In-trees (SeqScan e) (suc n) few over =
      In-left (SeqScan e) (all_scans es ts indexes) (trees_over ts (trees_of es ts indexes n)) (In-seq_scan e over)
  In-trees (RankScan e t i) (suc n) few over =
      In-left (RankScan e t i) (all_scans es ts indexes) (trees_over ts (trees_of es ts indexes n)) (In-rank_scan e t i over.0 over.1 over.2)
  In-trees (Rank t child) (suc n) few over =
      In-right (Rank t child) (all_scans es ts indexes) (trees_over ts (trees_of es ts indexes n))
      (In-rank ts (trees_of es ts indexes n) t child over.0 (In-trees child n (omega arith) over.1))
  In-trees (JoinOperator Hash l r) (suc n) few over =
      In-right (JoinOperator Hash l r) (all_scans es ts indexes) (trees_over ts (trees_of es ts indexes n))
      (In-hash ts (trees_of es ts indexes n) l r (In-trees l n (omega arith) over.0) (In-trees r n (omega arith) over.1))
  In-trees (JoinOperator Nested l r) (suc n) few over =
      In-right (JoinOperator Nested l r) (all_scans es ts indexes) (trees_over ts (trees_of es ts indexes n))
      (In-nested ts (trees_of es ts indexes n) l r (In-trees l n (omega arith) over.0) (In-trees r n (omega arith) over.1))
  In-trees (Distinct child) (suc n) few over =
      In-right (Distinct child) (all_scans es ts indexes) (trees_over ts (trees_of es ts indexes n))
      (In-distinct ts (trees_of es ts indexes n) child (In-trees child n (omega arith) over))
  In-trees (SetOperator l r) (suc n) few over =
      In-right (SetOperator l r) (all_scans es ts indexes) (trees_over ts (trees_of es ts indexes n))
      (In-set ts (trees_of es ts indexes n) l r (In-trees l n (omega arith) over.0) (In-trees r n (omega arith) over.1))

  In-trees-back : (n : ℕ) (tree : PlanTree) → In tree (trees_of es ts indexes n) → IsOver es ts indexes tree
  unfolding trees_of
  In-trees-back zero tree h = absurd h
  In-trees-back (suc n) tree h = elim (In-append tree (all_scans es ts indexes) (trees_over ts (trees_of es ts indexes n)) h) [
    | inl scan ↦ scans-back tree scan
    | inr over ↦ over-back ts (trees_of es ts indexes n) es indexes tree (In-trees-back n) over
  ]

-- the numbers of a plan of a catalogue's tables
abbrev IsNumbered : CatalogDef → PlanTree → Type 0
IsNumbered catalogue tree = IsOver (numbers_to 6) (numbers_to 8) (numbers_from 0 (length catalogue.indexes)) tree

numbered-back : (catalogue : CatalogDef) (tree : PlanTree) → IsNumbered catalogue tree → HasNumbers tree
numbered-back catalogue (SeqScan e) over = In-numbers_to-back e 6 over
numbered-back catalogue (RankScan e t i) over = (In-numbers_to-back e 6 over.0, In-numbers_to-back t 8 over.1)
numbered-back catalogue (Rank t child) over = (In-numbers_to-back t 8 over.0, numbered-back catalogue child over.1)
numbered-back catalogue (JoinOperator kind l r) over = (numbered-back catalogue l over.0, numbered-back catalogue r over.1)
numbered-back catalogue (Distinct child) over = numbered-back catalogue child over
numbered-back catalogue (SetOperator l r) over = (numbered-back catalogue l over.0, numbered-back catalogue r over.1)

upto-in : (most number : ℕ) → IsUpTo most number → In number (numbers_to most)
upto-in most number is = In-numbers_to number most is.some is.within

-- what is found in a list stands in it
found-within : {X : Type 0} (p : X → Bool) (xs : List X) (i : ℕ) → position p xs ≡ Some i → i < length xs
found-within p xs i is = go (nat_lt (position_or_len p xs) (length xs)) refl where
  go : (b : Bool) → nat_lt (position_or_len p xs) (length xs) ≡ b → i < length xs
  go true e =
      let below : position_or_len p xs < length xs = ltb-true (position_or_len p xs) (length xs) e in
      let same : position_or_len p xs ≡ i = same_Some (position_or_len p xs) i (sym (ap (λ b. cond b (Some (position_or_len p xs)) None) e) ∙ is) in
      omega arith
  go false e = absurd (none-some i (sym (ap (λ b. cond b (Some (position_or_len p xs)) None) e) ∙ is))

numbered-part : (catalogue : CatalogDef) (block : Block) (tree : PlanTree) → IsPart catalogue block tree → HasNumbers tree → IsNumbered catalogue tree
numbered-part catalogue block (SeqScan e) is numbers = upto-in 6 e numbers
numbered-part catalogue block (RankScan e t i) is numbers = (
  upto-in 6 e numbers.0,
  upto-in 8 t numbers.1,
  In-numbers_from 0 (length catalogue.indexes) i (omega arith) (let within = found-within _ catalogue.indexes i is.first in omega arith),
)
numbered-part catalogue block (Rank t child) is numbers = (upto-in 8 t numbers.0, numbered-part catalogue block child is.0 numbers.1)
numbered-part catalogue block (JoinOperator kind l r) is numbers =
    (numbered-part catalogue block l is.0 numbers.0, numbered-part catalogue block r is.1 numbers.1)
numbered-part catalogue block (Distinct child) is numbers = numbered-part catalogue block child is.0 numbers
numbered-part catalogue block (SetOperator l r) is numbers = absurd is

numbered-set : (catalogue : CatalogDef) (left right : Block) (tree : PlanTree) → IsSetPlan catalogue left right tree → HasNumbers tree → IsNumbered catalogue tree
numbered-set catalogue left right (Rank t child) is numbers = (upto-in 8 t numbers.0, numbered-set catalogue left right child is.0 numbers.1)
numbered-set catalogue left right (SetOperator l r) is numbers =
    (numbered-part catalogue left l is.0.part numbers.0, numbered-part catalogue right r is.1.part numbers.1)
numbered-set catalogue left right (SeqScan e) is numbers = absurd is
numbered-set catalogue left right (RankScan e t i) is numbers = absurd is
numbered-set catalogue left right (JoinOperator kind l r) is numbers = absurd is
numbered-set catalogue left right (Distinct child) is numbers = absurd is

numbered-plan : (catalogue : CatalogDef) (query : Query) (tree : PlanTree) → IsQuery catalogue query → IsPlan catalogue query tree → IsNumbered catalogue tree
numbered-plan catalogue (One block limit) tree q is =
    numbered-part catalogue block tree is.0.part (plan-numbers catalogue (One block limit) tree q is)
numbered-plan catalogue (Set op left right limit) tree q is =
    numbered-set catalogue left right tree is.0 (plan-numbers catalogue (Set op left right limit) tree q is)

-- how many levels a plan has at most: one for each entry and each term, one for a Distinct, and one for a set operator
module _ (catalogue : CatalogDef) (block : Block) (formed : IsBlock catalogue block) where
  both-ones : (l r : PlanTree) → IsPart catalogue block l → IsPart catalogue block r → AreDisjoint (entries l) (entries r)
      → (count_ones (bit_or (entries l) (entries r)) ≡ count_ones (entries l) + count_ones (entries r))
      × (count_ones (bit_or (terms l) (terms r)) ≡ count_ones (terms l) + count_ones (terms r))
  both-ones l r is_l is_r apart = (
    ones-or 6 (entries l) (entries r) (entries-small catalogue block formed l is_l) (entries-small catalogue block formed r is_r) apart,
    ones-or 8 (terms l) (terms r) (terms-small catalogue block formed l is_l) (terms-small catalogue block formed r is_r)
        (sides-apart catalogue block formed l r is_l is_r apart),
  )

  rank-one : (t : ℕ) (child : PlanTree) → IsPart catalogue block (Rank t child) → count_ones (bit_or (terms child) (mask_of t)) ≡ count_ones (terms child) + 1
  rank-one t child is =
      ones-rank (terms child) t (terms-small catalogue block formed child is.0) (part-has-numbers catalogue block formed (Rank t child) is).0 is.1.absent

  some-ones : (tree : PlanTree) → IsPart catalogue block tree → 1 ≤ count_ones (entries tree)
  some-ones (SeqScan e) is = let one = ones-mask (e - 1) in omega arith
  some-ones (RankScan e t i) is = let one = ones-mask (e - 1) in omega arith
  some-ones (Rank t child) is = some-ones child is.0
  some-ones (JoinOperator kind l r) is =
      let both = (both-ones l r is.0 is.1 is.2.apart).0 in
      let some = some-ones l is.0 in
      omega arith
  some-ones (Distinct child) is = some-ones child is.0
  some-ones (SetOperator l r) is = absurd is

  joined-levels : (l r : PlanTree) → IsPart catalogue block l → IsPart catalogue block r → AreDisjoint (entries l) (entries r)
      → levels l ≤ count_ones (entries l) + count_ones (terms l) → levels r ≤ count_ones (entries r) + count_ones (terms r)
      → suc (max (levels l) (levels r)) ≤ count_ones (bit_or (entries l) (entries r)) + count_ones (bit_or (terms l) (terms r))
  joined-levels l r is_l is_r apart few_l few_r =
      let both = both-ones l r is_l is_r apart in
      let entries_sum = both.0 in
      let terms_sum = both.1 in
      let some_l = some-ones l is_l in
      let some_r = some-ones r is_r in
      omega arith

  whole-levels : (tree : PlanTree) → IsPart catalogue block tree → HasNoDistinct tree → levels tree ≤ count_ones (entries tree) + count_ones (terms tree)
  whole-levels (SeqScan e) is whole = let one = ones-mask (e - 1) in omega arith
  whole-levels (RankScan e t i) is whole = let one = ones-mask (e - 1) in omega arith
  whole-levels (Rank t child) is whole =
      let one = rank-one t child is in
      let few = whole-levels child is.0 whole in
      omega arith
  whole-levels (JoinOperator kind l r) is whole =
      joined-levels l r is.0 is.1 is.2.apart (whole-levels l is.0 whole.0) (whole-levels r is.1 whole.1)
  whole-levels (Distinct child) is whole = absurd whole
  whole-levels (SetOperator l r) is whole = absurd is

  part-levels : (tree : PlanTree) → IsPart catalogue block tree → levels tree ≤ count_ones (entries tree) + count_ones (terms tree) + 1
  part-levels (SeqScan e) is = let few = whole-levels (SeqScan e) is tt in omega arith
  part-levels (RankScan e t i) is = let few = whole-levels (RankScan e t i) is tt in omega arith
  part-levels (Rank t child) is =
      let one = rank-one t child is in
      let few = part-levels child is.0 in
      omega arith
  part-levels (JoinOperator kind l r) is = let few = whole-levels (JoinOperator kind l r) is (is.2.left_whole, is.2.right_whole) in omega arith
  part-levels (Distinct child) is = let few = whole-levels child is.0 is.1.first in omega arith
  part-levels (SetOperator l r) is = absurd is

  block-levels : (tree : PlanTree) → IsPart catalogue block tree → levels tree ≤ count_ones (terms tree) + 7
  block-levels tree is =
      let few = part-levels tree is in
      let six = ones-le 6 (entries tree) (entries-small catalogue block formed tree is) in
      omega arith

set-levels : (catalogue : CatalogDef) (left right : Block) → IsBlock catalogue left → IsBlock catalogue right → (tree : PlanTree) → IsSetPlan catalogue left right tree
    → terms tree < 2 ^ 8 → levels tree ≤ count_ones (terms tree) + 8
set-levels catalogue left right left_formed right_formed (Rank t child) is small =
    let below = or_below (terms child) (mask_of t) small in
    let few = set-levels catalogue left right left_formed right_formed child is.0 below in
    let one = ones-rank (terms child) t below (set-has-numbers catalogue left right left_formed right_formed (Rank t child) is).0 is.1.absent in
    omega arith
  where
    or_below : (a b : ℕ) → bit_or a b < 2 ^ 8 → a < 2 ^ 8
    or_below a b less = let most = le_or_l a b in omega arith
set-levels catalogue left right left_formed right_formed (SetOperator l r) is small =
    let few = block-levels catalogue left left_formed l is.0.part in
    let others = block-levels catalogue right right_formed r is.1.part in
    let same = ap count_ones is.2 in
    omega arith
set-levels catalogue left right left_formed right_formed (SeqScan e) is small = absurd is
set-levels catalogue left right left_formed right_formed (RankScan e t i) is small = absurd is
set-levels catalogue left right left_formed right_formed (JoinOperator kind l r) is small = absurd is
set-levels catalogue left right left_formed right_formed (Distinct child) is small = absurd is

plan-levels : (catalogue : CatalogDef) (query : Query) (tree : PlanTree) → IsQuery catalogue query → IsPlan catalogue query tree → levels tree ≤ 16
plan-levels catalogue (One block limit) tree q is =
    let few = block-levels catalogue block q.0 tree is.0.part in
    let eight = ones-le 8 (terms tree) (terms-small catalogue block q.0 tree is.0.part) in
    omega arith
plan-levels catalogue (Set op left right limit) tree q is =
    let most : length left.terms ≤ 8 = q.0.left_block.most_terms in
    let power : 2 ^ length left.terms ≤ 2 ^ 8 = pow-le-pow_right {n = 2} (omega arith) most in
    let below = set-terms-below catalogue left right tree is.0 in
    let small : terms tree < 2 ^ 8 = omega arith in
    let few = set-levels catalogue left right q.0.left_block q.0.right_block tree is.0 small in
    let eight = ones-le 8 (terms tree) small in
    omega arith

-- all plans, and nothing else
pub In-plans : (catalogue : CatalogDef) (query : Query) (tree : PlanTree) → IsQuery catalogue query → IsPlan catalogue query tree → In tree (all_plans catalogue query)
unfolding all_plans
In-plans catalogue query tree q is =
    In-filter (is_plan catalogue query) tree (trees_of (numbers_to 6) (numbers_to 8) (numbers_from 0 (length catalogue.indexes)) 16)
    (In-trees (numbers_to 6) (numbers_to 8) (numbers_from 0 (length catalogue.indexes)) tree 16 (plan-levels catalogue query tree q is)
    (numbered-plan catalogue query tree q is))
    ((plan-decided catalogue query tree (plan-numbers catalogue query tree q is)).1 is)

-- a plan of a query and of one that is well formed
pub In-plans-shared : (catalogue : CatalogDef) (query formed : Query) (tree : PlanTree) → IsQuery catalogue formed → IsPlan catalogue formed tree → IsPlan catalogue query tree
    → In tree (all_plans catalogue query)
unfolding all_plans
In-plans-shared catalogue query formed tree q is_formed is =
    In-filter (is_plan catalogue query) tree (trees_of (numbers_to 6) (numbers_to 8) (numbers_from 0 (length catalogue.indexes)) 16)
    (In-trees (numbers_to 6) (numbers_to 8) (numbers_from 0 (length catalogue.indexes)) tree 16 (plan-levels catalogue formed tree q is_formed)
    (numbered-plan catalogue formed tree q is_formed))
    ((plan-decided catalogue query tree (plan-numbers catalogue formed tree q is_formed)).1 is)

pub In-plans-back : (catalogue : CatalogDef) (query : Query) (tree : PlanTree) → In tree (all_plans catalogue query) → IsPlan catalogue query tree
unfolding all_plans
In-plans-back catalogue query tree h =
    let both = In-filter-back (is_plan catalogue query) tree (trees_of (numbers_to 6) (numbers_to 8) (numbers_from 0 (length catalogue.indexes)) 16) h in
    let numbers = numbered-back catalogue tree
    (In-trees-back (numbers_to 6) (numbers_to 8) (numbers_from 0 (length catalogue.indexes)) 16 tree both.0) in
    (plan-decided catalogue query tree numbers).0 both.1
