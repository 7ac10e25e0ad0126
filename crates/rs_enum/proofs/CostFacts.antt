-- Parts of plans: that estimates may be asked for them, and how much they cost at most.
use Rattle.std.proofs.Common.{◌≡◌, ◌⊎◌, inl, inr, ℕ, zero, suc, ◌+◌, ◌-◌, ◌*◌, ◌/◌, ◌^◌, ◌<◌, ◌≤◌, false, true, true≢false, List, [], ◌∷◌, length, refl, sym, ◌∙◌, ap, subst, arith, bit_or, count_ones}
use Rattle.std.specs.Prelude.{Some, None, map, option_map, slice_get, unwrap_or}
use Rattle.std.specs.Int.{bit_at}
use Rattle.std.proofs.lemmas.List.{length-map}
use Rattle.std.proofs.lemmas.Nat.{or_lt, pow_below, pow_pos}
use Rattle.std.proofs.lemmas.Nat.Bits.{bit_at-suc, bit_at_lowest}
use Rattle.std.proofs.lemmas.Option.{slice_get-map, slice_get_within}
use Rattle.std.proofs.Math.Nat.{pow-le-pow_right}
use Rattle.rs_order.proofs.EachFacts.{each-slice_get}
use Rattle.rs_rank.specs.Masks.{AreDisjoint, mask_of}
use Rattle.rs_catalog.specs.Catalog.{CatalogDef}
use Rattle.rs_query.specs.Meaning.{is_inside}
use Rattle.rs_query.specs.Tables.{all_entries}
use Rattle.rs_query.specs.WellFormed.{AreSameTerms, IsBlock, IsQuery}
use Rattle.rs_query.specs.declared.block.Block.{Block}
use Rattle.rs_query.specs.declared.query.Query.{Query}
use Rattle.rs_query.specs.declared.query.Query.TheVariants.{One, Set}
use Rattle.rs_query.specs.declared.term.Term.{Term}
pub use Rattle.rs_query.proofs.BlockFacts.{block-formed}
use Rattle.rs_query.proofs.EntryFacts.{terms-inside}
use Rattle.rs_sample.specs.Cards.{AreRead, BlockCards, IsEstimated, IsIndexed}
use Rattle.rs_query.specs.Blocks.{block_in}
use Rattle.rs_plan.specs.Numbers.{HasNumbers}
use Rattle.rs_plan.specs.Plans.{IsEntryNumber, IsPart, IsPlan, IsSetPlan, IsTermOf}
use Rattle.rs_plan.specs.Trees.{Distinct, JoinOperator, PlanTree, Rank, RankScan, SeqScan, SetOperator, entries, terms}
use Rattle.rs_plan.proofs.DecidingFacts.{part-numbers}
use Rattle.rs_enum.specs.Bounds.{IsNumberedTerm, IsSetPart, has_set_operator, most_cost, most_set_cost}
use Rattle.rs_enum.specs.Costs.{estimate_of, estimate_under}
use Rattle.rs_enum.specs.QueryCards.{AreBlockCards, AreCards, IsBlockNumber, cards_at}
use Rattle.rs_enum.proofs.BoundFacts.{calls-most, most-fits, most-join, most-set-fits, ones-rank, pairs-most, rows-most, set_calls-most}
use Rattle.rs_enum.proofs.OrderOfPlans.{estimate-part}
use Rattle.rs_enum.proofs.WithinFacts.{entries-below, sides-apart, terms-below, terms-within, terms_within-only}

-- and has its cards
pub block-cards : (query : Query) (cards : List BlockCards) (number : ℕ) → AreCards query cards → IsBlockNumber cards number
    → AreBlockCards (block_in query number) (cards_at cards number)
block-cards (One block limit) cards number are is =
    let few : length cards ≡ 1 = ap length are.1 in
    let some = is.some in
    let most = is.most in
    let one : number ≡ 1 = omega arith in
    subst (λ (all : List BlockCards). AreBlockCards block (cards_at all number)) (sym are.1)
    (subst (λ n. AreBlockCards block (cards_at (are.0 ∷ []) n)) (sym one) are.2)
block-cards (Set op left right limit) cards number are is =
    subst (λ (all : List BlockCards). AreBlockCards (block_in (Set op left right limit) number) (cards_at all number)) (sym are.2) (go number is.some within) where
      within : number ≤ 2
      within = let few : length cards ≡ 2 = ap length are.2 in let most = is.most in omega arith

      go : (n : ℕ) → 1 ≤ n → n ≤ 2 → AreBlockCards (block_in (Set op left right limit) n) (cards_at (are.0 ∷ are.1 ∷ []) n)
      go zero some most = absurd (omega arith)
      go (suc zero) some most = are.3
      go (suc (suc n)) some most =
          let none : n ≡ 0 = omega arith in
          subst (λ k. AreBlockCards (block_in (Set op left right limit) (suc (suc k))) (cards_at (are.0 ∷ are.1 ∷ []) (suc (suc k)))) (sym none) are.4

-- what is asked of the cards of a block of this number
abbrev no_cards : BlockCards
no_cards = record { entries = 0; reads = []; estimate = λ mask terms. 0; index_estimate = λ entry term. 0 }

pub block-at : (cards : List BlockCards) (number : ℕ) → IsBlockNumber cards number → slice_get cards (number - 1) ≡ Some (cards_at cards number)
block-at cards number is = go cards (number - 1) (let some = is.some in let most = is.most in omega arith) where
  go : (all : List BlockCards) (place : ℕ) → place < length all → slice_get all place ≡ Some (unwrap_or (slice_get all place) no_cards)
  go [] place within = absurd (omega arith)
  go (first ∷ rest) zero within = refl
  go (first ∷ rest) (suc place) within = go rest place (omega arith)

pub at-block : (cards : List BlockCards) (number : ℕ) (own : BlockCards) → slice_get cards (number - 1) ≡ Some own → cards_at cards number ≡ own
at-block cards number own there = ap (λ o. unwrap_or o no_cards) there

-- terms whose entries are in a mask, where another mask has their bits
read-of : (first second : ℕ) (ts : List Term)
    → ((place : ℕ) (term : Term) → slice_get ts place ≡ Some term → bit_at second place ≡ 1 → is_inside term.entries first ≡ true)
    → AreRead second first (map (λ (t : Term). t.entries) ts)
read-of first second [] inside = tt
read-of first second (t ∷ ts) inside = (
  λ has. inside 0 t refl (bit_at_lowest second ∙ has),
  read-of first (second / 2) ts (λ place term there has. inside (suc place) term there (bit_at-suc second place ∙ has)),
)

module _ (block : Block) (cards : BlockCards) (are : AreBlockCards block cards) where
  -- masks that may be asked for
  pub masks-of : (first second : ℕ) → first < 2 ^ length block.from → second < 2 ^ length block.terms
      → ((place : ℕ) (term : Term) → slice_get block.terms place ≡ Some term → bit_at second place ≡ 1 → is_inside term.entries first ≡ true)
      → IsEstimated cards first second
  masks-of first second entries_below terms_below inside = record {
    entries = subst (λ n. first < 2 ^ n) (sym are.entries) entries_below;
    terms_are = subst (λ n. second < 2 ^ n) (sym (ap length are.reads ∙ length-map block.terms (λ (t : Term). t.entries))) terms_below;
    read = subst (AreRead second first) (sym are.reads) (read-of first second block.terms inside);
  }

  pub masks-part : (catalogue : CatalogDef) (tree : PlanTree) → IsPart catalogue block tree → IsEstimated cards (entries tree) (terms tree)
  masks-part catalogue tree is =
      masks-of (entries tree) (terms tree) (entries-below catalogue block tree is) (terms-below catalogue block tree is)
      (λ place term there has. terms_within-only (entries tree) block.terms (terms tree) place term (terms-within catalogue block tree is) there has)

  pub masks-all : (catalogue : CatalogDef) (second : ℕ) → IsBlock catalogue block → second < 2 ^ length block.terms → IsEstimated cards (all_entries block) second
  masks-all catalogue second formed below =
      masks-of (all_entries block) second (all-below (length block.from)) below
      (λ place term there has. each-slice_get (λ (t : Term). is_inside t.entries (all_entries block) ≡ true) block.terms place term (terms-inside catalogue block formed) there)
    where
      all-below : (n : ℕ) → 2 ^ n - 1 < 2 ^ n
      all-below n = let some : 0 < 2 ^ n = pow_pos n in omega arith

  -- an index that may be asked for
  pub indexed : (e t : ℕ) (term : Term) → IsEntryNumber block e → IsTermOf block t term → term.entries ≡ mask_of e → IsIndexed cards e t
  indexed e t term is_entry is_term alone = record {
    some_entry = is_entry.some;
    most_entry = (let most = is_entry.most in let same = are.entries in omega arith);
    some_term = is_term.some;
    reads = ap (λ xs. slice_get xs (t - 1)) are.reads ∙ slice_get-map (λ (x : Term). x.entries) block.terms (t - 1)
        ∙ ap (option_map (λ (x : Term). x.entries)) is_term.there ∙ ap Some alone;
  }

  pub term-alone : (catalogue : CatalogDef) (e t i : ℕ) → IsPart catalogue block (RankScan e t i) → IsIndexed cards e t
  term-alone catalogue e t i is = indexed e t is.term is.is_entry is.is_term is.alone

pub numbered : (block : Block) (number : ℕ) (term : Term) → IsTermOf block number term → IsNumberedTerm block number
numbered block number term is =
    let some = is.some in
    let within = slice_get_within block.terms (number - 1) term is.there in
    record { some = some; most = omega arith }

module _ (catalogue : CatalogDef) (block : Block) (formed : IsBlock catalogue block) where
  pub part-has-numbers : (tree : PlanTree) → IsPart catalogue block tree → HasNumbers tree
  part-has-numbers tree is = part-numbers catalogue block tree formed.most_entries formed.most_terms is

  pub entries-small : (tree : PlanTree) → IsPart catalogue block tree → entries tree < 2 ^ 6
  entries-small tree is =
      let most : length block.from ≤ 6 = formed.most_entries in
      let power : 2 ^ length block.from ≤ 2 ^ 6 = pow-le-pow_right {n = 2} (omega arith) most in
      let below = entries-below catalogue block tree is in
      omega arith

  pub terms-small : (tree : PlanTree) → IsPart catalogue block tree → terms tree < 2 ^ 8
  terms-small tree is =
      let most : length block.terms ≤ 8 = formed.most_terms in
      let power : 2 ^ length block.terms ≤ 2 ^ 8 = pow-le-pow_right {n = 2} (omega arith) most in
      let below = terms-below catalogue block tree is in
      omega arith

  pub part-fits : (tree : PlanTree) (cost : ℕ) → IsPart catalogue block tree → cost ≤ most_cost (entries tree) (terms tree) → cost < 2 ^ 122
  part-fits tree cost is most =
      let fits = most-fits (entries tree) (terms tree) (entries-small tree is) (terms-small tree is) in
      omega arith

  pub part-rows : (tree : PlanTree) (rows : ℕ) → IsPart catalogue block tree → rows ≤ 131072 ^ count_ones (entries tree) → rows ≤ 2 ^ 102
  part-rows tree rows is most = rows-most (entries tree) rows (entries-small tree is) most

  -- an operator for a term
  pub rank-most : (t : ℕ) (child : PlanTree) (below rows call extra : ℕ) → IsPart catalogue block (Rank t child)
      → rows ≤ 131072 ^ count_ones (entries child) → call < 2 ^ 16 → below + extra ≤ most_cost (entries child) (terms child)
      → below + rows * call + extra ≤ most_cost (entries child) (bit_or (terms child) (mask_of t))
  rank-most t child below rows call extra is few small most =
      let calls = calls-most rows call (part-rows child rows is.0 few) small in
      let numbers = part-has-numbers (Rank t child) is in
      let ones = ones-rank (terms child) t (terms-small child is.0) numbers.0 is.1.absent in
      omega arith

  joined-most : (l r : PlanTree) → IsPart catalogue block l → IsPart catalogue block r → AreDisjoint (entries l) (entries r)
      → most_cost (bit_or (entries l) (entries r)) (bit_or (terms l) (terms r)) ≡ most_cost (entries l) (terms l) + most_cost (entries r) (terms r)
  joined-most l r is_l is_r apart =
      most-join (entries l) (entries r) (terms l) (terms r) (entries-small l is_l) (entries-small r is_r) apart
      (terms-small l is_l) (terms-small r is_r) (sides-apart catalogue block formed l r is_l is_r apart)

  both-small : (l r : PlanTree) → IsPart catalogue block l → IsPart catalogue block r → bit_or (entries l) (entries r) < 2 ^ 6
  both-small l r is_l is_r = or_lt 6 (entries l) (entries r) (entries-small l is_l) (entries-small r is_r)

  -- joins
  pub hash-most : (l r : PlanTree) (left right left_rows right_rows rows : ℕ) → IsPart catalogue block l → IsPart catalogue block r → AreDisjoint (entries l) (entries r)
      → left + 2 ^ 105 ≤ most_cost (entries l) (terms l) → right + 2 ^ 105 ≤ most_cost (entries r) (terms r)
      → left_rows ≤ 131072 ^ count_ones (entries l) → right_rows ≤ 131072 ^ count_ones (entries r)
      → rows ≤ 131072 ^ count_ones (bit_or (entries l) (entries r))
      → left + right + 2 * (left_rows + right_rows) + rows + 2 ^ 105 ≤ most_cost (bit_or (entries l) (entries r)) (bit_or (terms l) (terms r))
  hash-most l r left right left_rows right_rows rows is_l is_r apart left_most right_most left_few right_few few =
      let both = joined-most l r is_l is_r apart in
      let a = part-rows l left_rows is_l left_few in
      let b = part-rows r right_rows is_r right_few in
      let c = rows-most (bit_or (entries l) (entries r)) rows (both-small l r is_l is_r) few in
      omega arith

  pub nested-most : (l r : PlanTree) (left right left_rows right_rows rows : ℕ) → IsPart catalogue block l → IsPart catalogue block r → AreDisjoint (entries l) (entries r)
      → left + 2 ^ 105 ≤ most_cost (entries l) (terms l) → right + 2 ^ 105 ≤ most_cost (entries r) (terms r)
      → left_rows ≤ 131072 ^ count_ones (entries l) → right_rows ≤ 131072 ^ count_ones (entries r)
      → rows ≤ 131072 ^ count_ones (bit_or (entries l) (entries r))
      → left + right + left_rows * right_rows + rows + 2 ^ 105 ≤ most_cost (bit_or (entries l) (entries r)) (bit_or (terms l) (terms r))
  nested-most l r left right left_rows right_rows rows is_l is_r apart left_most right_most left_few right_few few =
      let both = joined-most l r is_l is_r apart in
      let pairs = pairs-most (entries l) (entries r) left_rows right_rows (entries-small l is_l) (entries-small r is_r) apart left_few right_few in
      let c = rows-most (bit_or (entries l) (entries r)) rows (both-small l r is_l is_r) few in
      omega arith

module _ (catalogue : CatalogDef) (left right : Block) where
  -- plans of two blocks
  pub set-has-numbers : IsBlock catalogue left → IsBlock catalogue right → (tree : PlanTree) → IsSetPlan catalogue left right tree → HasNumbers tree
  set-has-numbers l r (Rank t child) is =
      let number = numbered left t is.1.term is.1.is_term in
      let some = number.some in
      let most = number.most in
      let few = l.most_terms in
      (record { some = some; within = omega arith }, set-has-numbers l r child is.0)
  set-has-numbers l r (SetOperator a b) is = (part-has-numbers catalogue left l a is.0.part, part-has-numbers catalogue right r b is.1.part)
  set-has-numbers l r (SeqScan e) is = absurd is
  set-has-numbers l r (RankScan e t i) is = absurd is
  set-has-numbers l r (JoinOperator kind a b) is = absurd is
  set-has-numbers l r (Distinct child) is = absurd is

  pub set-terms-below : (tree : PlanTree) → IsSetPlan catalogue left right tree → terms tree < 2 ^ length left.terms
  set-terms-below (Rank t child) is =
      let number = numbered left t is.1.term is.1.is_term in
      let some = number.some in
      let most = number.most in
      or_lt (length left.terms) (terms child) (mask_of t) (set-terms-below child is.0) (pow_below (t - 1) (length left.terms) (omega arith))
  set-terms-below (SetOperator a b) is = terms-below catalogue left a is.0.part
  set-terms-below (SeqScan e) is = absurd is
  set-terms-below (RankScan e t i) is = absurd is
  set-terms-below (JoinOperator kind a b) is = absurd is
  set-terms-below (Distinct child) is = absurd is

  pub estimate-set : (cards : List BlockCards) (number : ℕ) (tree : PlanTree) (mask : ℕ) → IsSetPlan catalogue left right tree
      → estimate_under cards number tree mask ≡ (cards_at cards 1).estimate (all_entries left) mask + (cards_at cards 2).estimate (all_entries right) mask
  estimate-set cards number (Rank t child) mask is = estimate-set cards number child mask is.0
  estimate-set cards number (SetOperator a b) mask is =
      λ at. (estimate-part catalogue (One left None) cards left 1 a mask is.0.part ∙ ap (λ m. (cards_at cards 1).estimate m mask) is.0.all) at
      + (estimate-part catalogue (One left None) cards right 2 b mask is.1.part ∙ ap (λ m. (cards_at cards 2).estimate m mask) is.1.all) at
  estimate-set cards number (SeqScan e) mask is = absurd is
  estimate-set cards number (RankScan e t i) mask is = absurd is
  estimate-set cards number (JoinOperator kind a b) mask is = absurd is
  estimate-set cards number (Distinct child) mask is = absurd is

pub same-terms : (left right : Block) (xs ys : List Term) → AreSameTerms left right xs ys → length xs ≡ length ys
same-terms left right [] [] are = refl
same-terms left right [] (y ∷ ys) are = absurd are
same-terms left right (x ∷ xs) [] are = absurd are
same-terms left right (x ∷ xs) (y ∷ ys) are = ap suc (same-terms left right xs ys are.1)

-- a part of a block has no set operator, and a part of a plan of two blocks is told by it
pub part-has-none : (catalogue : CatalogDef) (block : Block) (tree : PlanTree) → IsPart catalogue block tree → has_set_operator tree ≡ false
part-has-none catalogue block (SeqScan e) is = refl
part-has-none catalogue block (RankScan e t i) is = refl
part-has-none catalogue block (Rank t child) is = part-has-none catalogue block child is.0
part-has-none catalogue block (JoinOperator kind l r) is = refl
part-has-none catalogue block (Distinct child) is = refl
part-has-none catalogue block (SetOperator l r) is = absurd is

set-has-one : (catalogue : CatalogDef) (left right : Block) (tree : PlanTree) → IsSetPlan catalogue left right tree → has_set_operator tree ≡ true
set-has-one catalogue left right (Rank t child) is = set-has-one catalogue left right child is.0
set-has-one catalogue left right (SetOperator a b) is = refl
set-has-one catalogue left right (SeqScan e) is = absurd is
set-has-one catalogue left right (RankScan e t i) is = absurd is
set-has-one catalogue left right (JoinOperator kind a b) is = absurd is
set-has-one catalogue left right (Distinct child) is = absurd is

pub set-part : (catalogue : CatalogDef) (query : Query) (tree : PlanTree) → (IsPlan catalogue query tree ⊎ IsPart catalogue (block_in query 1) tree)
    → has_set_operator tree ≡ true → IsSetPart catalogue query tree
set-part catalogue (One block limit) tree is has = absurd (elim is [
  | inl plan ↦ true≢false (sym has ∙ part-has-none catalogue block tree plan.0.part)
  | inr part ↦ true≢false (sym has ∙ part-has-none catalogue block tree part)
])
set-part catalogue (Set op left right limit) tree is has = elim is [
  | inl plan ↦ plan.0
  | inr part ↦ absurd (true≢false (sym has ∙ part-has-none catalogue left tree part))
]

pub block-part : (catalogue : CatalogDef) (query : Query) (tree : PlanTree) → (IsPlan catalogue query tree ⊎ IsPart catalogue (block_in query 1) tree)
    → has_set_operator tree ≡ false → IsPart catalogue (block_in query 1) tree
block-part catalogue (One block limit) tree is none = elim is [ inl plan ↦ plan.0.part | inr part ↦ part ]
block-part catalogue (Set op left right limit) tree is none = elim is [
  | inl plan ↦ absurd (true≢false (sym (set-has-one catalogue left right tree plan.0) ∙ none))
  | inr part ↦ part
]

-- the same of a query of two blocks
module _ (catalogue : CatalogDef) where
  pub set-numbers : (query : Query) (tree : PlanTree) → IsQuery catalogue query → IsSetPart catalogue query tree → HasNumbers tree
  set-numbers (One block limit) tree q is = absurd is
  set-numbers (Set op left right limit) tree q is = set-has-numbers catalogue left right q.0.left_block q.0.right_block tree is

  pub set-below-left : (query : Query) (tree : PlanTree) → IsSetPart catalogue query tree → terms tree < 2 ^ length (block_in query 1).terms
  set-below-left (One block limit) tree is = absurd is
  set-below-left (Set op left right limit) tree is = set-terms-below catalogue left right tree is

  pub set-below-right : (query : Query) (tree : PlanTree) → IsQuery catalogue query → IsSetPart catalogue query tree → terms tree < 2 ^ length (block_in query 2).terms
  set-below-right (One block limit) tree q is = absurd is
  set-below-right (Set op left right limit) tree q is =
      subst (λ n. terms tree < 2 ^ n) (same-terms left right left.terms right.terms q.0.terms) (set-terms-below catalogue left right tree is)

  pub set-rows : (query : Query) (cards : List BlockCards) (tree : PlanTree) → IsSetPart catalogue query tree
      → estimate_of cards 1 tree
      ≡ (cards_at cards 1).estimate (all_entries (block_in query 1)) (terms tree) + (cards_at cards 2).estimate (all_entries (block_in query 2)) (terms tree)
  set-rows (One block limit) cards tree is = absurd is
  set-rows (Set op left right limit) cards tree is = estimate-set catalogue left right cards 1 tree (terms tree) is

  pub set-rank-most : (query : Query) (t : ℕ) (child : PlanTree) (below rows call : ℕ) → IsQuery catalogue query → IsSetPart catalogue query (Rank t child)
      → rows ≤ 2 ^ 103 → call < 2 ^ 16 → below ≤ most_set_cost (terms child) → below + rows * call ≤ most_set_cost (bit_or (terms child) (mask_of t))
  set-rank-most (One block limit) t child below rows call q is few small most = absurd is
  set-rank-most (Set op left right limit) t child below rows call q is few small most =
      let calls = set_calls-most rows call few small in
      let numbers = set-has-numbers catalogue left right q.0.left_block q.0.right_block (Rank t child) is in
      let length_most : length left.terms ≤ 8 = q.0.left_block.most_terms in
      let power : 2 ^ length left.terms ≤ 2 ^ 8 = pow-le-pow_right {n = 2} (omega arith) length_most in
      let terms_most = set-terms-below catalogue left right child is.0 in
      let ones = ones-rank (terms child) t (omega arith) numbers.0 is.1.absent in
      omega arith

  pub set-fits : (query : Query) (tree : PlanTree) (cost : ℕ) → IsQuery catalogue query → IsSetPart catalogue query tree → cost ≤ most_set_cost (terms tree) → cost < 2 ^ 123
  set-fits (One block limit) tree cost q is most = absurd is
  set-fits (Set op left right limit) tree cost q is most =
      let length_most : length left.terms ≤ 8 = q.0.left_block.most_terms in
      let power : 2 ^ length left.terms ≤ 2 ^ 8 = pow-le-pow_right {n = 2} (omega arith) length_most in
      let below = set-terms-below catalogue left right tree is in
      let fits = most-set-fits (terms tree) (omega arith) in
      omega arith

  pub set-numbered : (query : Query) (cards : List BlockCards) (tree : PlanTree) → AreCards query cards → IsSetPart catalogue query tree
      → IsBlockNumber cards 1 × IsBlockNumber cards 2
  set-numbered (One block limit) cards tree are is = absurd is
  set-numbered (Set op left right limit) cards tree are is =
      let two : length cards ≡ 2 = ap length are.2 in
      (record { some = omega arith; most = omega arith }, record { some = omega arith; most = omega arith })

pub first-numbered : (query : Query) (cards : List BlockCards) → AreCards query cards → IsBlockNumber cards 1
first-numbered (One block limit) cards are = let one : length cards ≡ 1 = ap length are.1 in record { some = omega arith; most = omega arith }
first-numbered (Set op left right limit) cards are = let two : length cards ≡ 2 = ap length are.2 in record { some = omega arith; most = omega arith }

pub all-small : (block : Block) → length block.from ≤ 6 → all_entries block < 2 ^ 6
all-small block few =
    let power : 2 ^ length block.from ≤ 2 ^ 6 = pow-le-pow_right {n = 2} (omega arith) few in
    let some : 0 < 2 ^ length block.from = pow_pos (length block.from) in
    omega arith
