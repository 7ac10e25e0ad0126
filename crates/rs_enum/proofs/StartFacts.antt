-- Among the plans that can be made for one signature, the start of a code tells which one it is, and an earlier start is an earlier
-- code.
use Rattle.std.proofs.Common.{◌≡◌, ℕ, ◌+◌, ◌-◌, ◌*◌, ◌^◌, ◌<◌, ◌≤◌, false, List, [], ◌∷◌, ◌++◌, length, refl, sym, ◌∙◌, ap, subst, subst₂, arith, bit_and, bit_or, bit_xor}
use Rattle.std.specs.Prelude.{Option, Some}
use Rattle.std.specs.Cmp.{nat_cmp_is}
use Rattle.std.specs.Ordering.{is_gt, nat_cmp, ordering_then}
use Rattle.std.specs.declared.cmp.Ordering.{Ordering}
use Rattle.std.specs.declared.cmp.Ordering.TheVariants.{Less, Equal, Greater}
use Rattle.std.proofs.lemmas.Cmp.{ranked}
use Rattle.std.proofs.lemmas.Option.{same_Some, slice_get_within}
use Rattle.std.proofs.Math.Nat.{pow-le-pow_right}
use Rattle.rs_rank.specs.Masks.{AreDisjoint, mask_of}
use Rattle.rs_catalog.specs.Catalog.{CatalogDef}
use Rattle.rs_catalog.specs.Indexes.{index_of}
use Rattle.rs_query.specs.WellFormed.{IsBlock}
use Rattle.rs_query.specs.declared.block.Block.{Block}
use Rattle.rs_query.specs.declared.query.Query.{Query}
use Rattle.rs_sample.specs.Cards.{BlockCards}
use Rattle.rs_query.specs.Blocks.{block_in}
use Rattle.rs_plan.specs.Numbers.{kind_number}
use Rattle.rs_plan.specs.Plans.{HasNoDistinct, IsPart, IsRankScan}
use Rattle.rs_plan.specs.Trees.{Distinct, Hash, JoinOperator, Nested, PlanTree, Rank, RankScan, SeqScan, SetOperator, code, code_cmp, entries, terms}
use Rattle.rs_plan.proofs.DecidingFacts.{part-numbers}
use Rattle.rs_enum.specs.declared.candidate.Candidate.{Candidate}
use Rattle.rs_enum.specs.Candidates.{IsCandidate}
use Rattle.rs_enum.specs.Costs.{cost_of}
use Rattle.rs_enum.specs.Least.{ComesNoLater}
use Rattle.rs_enum.specs.Within.{terms_within}
use Rattle.rs_enum.specs.Places.{CanBeMade, IsOne, IsTheFirst, IsTheOne, Placed, StandsFor, cheaper, start_of, tree_at}
use Rattle.rs_enum.proofs.BitFacts.{left-of-union, left-without, mask-number, number-apart, union-sum}
use Rattle.rs_enum.proofs.FirstFacts.{first-cheaper, first-wider}
use Rattle.rs_enum.proofs.OrderOfPlans.{by_value-itself}
use Rattle.rs_enum.proofs.WithinFacts.{entries-below, left-terms, right-terms, some-entry}

-- the second number of a code, and what follows
abbrev pub second_number : PlanTree → ℕ
second_number (SeqScan e) = e
second_number (RankScan e t i) = e
second_number (Rank t child) = t
second_number (JoinOperator kind l r) = entries l
second_number (Distinct child) = 0
second_number (SetOperator l r) = 0

abbrev rest_of : PlanTree → List ℕ
rest_of (SeqScan e) = []
rest_of (RankScan e t i) = t ∷ []
rest_of (Rank t child) = code child
rest_of (JoinOperator kind l r) = terms l ∷ code l ++ code r
rest_of (Distinct child) = []
rest_of (SetOperator l r) = []

start-is : (tree : PlanTree) → start_of tree ≡ kind_number tree * 256 + second_number tree
start-is (SeqScan e) = refl
start-is (RankScan e t i) = refl
start-is (Rank t child) = refl
start-is (JoinOperator kind l r) = refl
start-is (Distinct child) = refl
start-is (SetOperator l r) = refl

-- of two numbers in front that are below 256, the lesser pair comes first
earlier-pair : (k s m u : ℕ) (xs ys : List ℕ) → s < 256 → u < 256 → k * 256 + s < m * 256 + u → is_gt (code_cmp (k ∷ s ∷ xs) (m ∷ u ∷ ys)) ≡ false
earlier-pair k s m u xs ys small_s small_u less = go (nat_cmp k m) refl where
  go : (o : Ordering) → nat_cmp k m ≡ o → is_gt (ordering_then (nat_cmp k m) (ordering_then (nat_cmp s u) (code_cmp xs ys))) ≡ false
  go Less e = ap (λ p. is_gt (ordering_then p (ordering_then (nat_cmp s u) (code_cmp xs ys)))) e
  go Equal e =
      let same = ranked k m Equal (sym e) in
      let lesser : s < u = omega arith in
      (λ at. is_gt (ordering_then (e at) (ordering_then (sym (nat_cmp_is s u Less lesser) at) (code_cmp xs ys))))
  go Greater e = let more = ranked k m Greater (sym e) in absurd (omega arith)

-- the index of a rank scan is the first one for its term
same-index : (catalogue : CatalogDef) (block : Block) (e t i f u j : ℕ) → IsRankScan catalogue block e t i → IsRankScan catalogue block f u j → e ≡ f → t ≡ u → i ≡ j
same-index catalogue block e t i f u j x y same_entry same_number =
    let z : IsRankScan catalogue block e t j = subst₂ (λ m n. IsRankScan catalogue block m n j) (sym same_entry) (sym same_number) y in
    let term : x.term ≡ z.term = same_Some x.term z.term (sym x.is_term.there ∙ z.is_term.there) in
    let from : (x.table, x.alias) ≡ (z.table, z.alias) = same_Some (x.table, x.alias) (z.table, z.alias) (sym x.from ∙ z.from) in
    same_Some i j (sym x.first ∙ (λ at. index_of (from at).0 (term at).predicate (term at).args e catalogue) ∙ z.first)

module _ (catalogue : CatalogDef) (block : Block) (formed : IsBlock catalogue block) where
  code-starts : (tree : PlanTree) → IsPart catalogue block tree → HasNoDistinct tree → code tree ≡ kind_number tree ∷ second_number tree ∷ rest_of tree
  code-starts (SeqScan e) is whole = refl
  code-starts (RankScan e t i) is whole = refl
  code-starts (Rank t child) is whole = refl
  code-starts (JoinOperator kind l r) is whole = refl
  code-starts (Distinct child) is whole = absurd whole
  code-starts (SetOperator l r) is whole = absurd is

  entries-small : (tree : PlanTree) → IsPart catalogue block tree → entries tree < 64
  entries-small tree is =
      let most : length block.from ≤ 6 = formed.most_entries in
      let power : 2 ^ length block.from ≤ 2 ^ 6 = pow-le-pow_right {n = 2} (omega arith) most in
      let below = entries-below catalogue block tree is in
      omega arith

  pub second-small : (tree : PlanTree) → IsPart catalogue block tree → second_number tree < 256
  second-small (SeqScan e) is = let most = is.most in let few = formed.most_entries in omega arith
  second-small (RankScan e t i) is = let most = is.is_entry.most in let few = formed.most_entries in omega arith
  second-small (Rank t child) is =
      let numbers = part-numbers catalogue block (Rank t child) formed.most_entries formed.most_terms is in
      let within = numbers.0.within in
      omega arith
  second-small (JoinOperator kind l r) is = let small = entries-small l is.0 in omega arith
  second-small (Distinct child) is = omega arith
  second-small (SetOperator l r) is = omega arith

  earlier-code : (a b : PlanTree) → IsPart catalogue block a → IsPart catalogue block b → HasNoDistinct a → HasNoDistinct b → start_of a < start_of b
      → is_gt (code_cmp (code a) (code b)) ≡ false
  earlier-code a b is_a is_b whole_a whole_b less =
      let first = start-is a in
      let second = start-is b in
      (λ at. is_gt (code_cmp (code-starts a is_a whole_a at) (code-starts b is_b whole_b at)))
      ∙ earlier-pair (kind_number a) (second_number a) (kind_number b) (second_number b) (rest_of a) (rest_of b)
      (second-small a is_a) (second-small b is_b) (omega arith)

  -- sides of two joins of one signature, where the left ones have the same entries
  record AreSame (l r m s : PlanTree) : Type 0 where
    pub left_terms : terms l ≡ terms m
    pub right_entries : entries r ≡ entries s
    pub right_terms : terms r ≡ terms s

  sides-same : (l r m s : PlanTree) → IsPart catalogue block l → IsPart catalogue block r → IsPart catalogue block m → IsPart catalogue block s
      → AreDisjoint (entries l) (entries r) → AreDisjoint (entries m) (entries s) → bit_or (entries l) (entries r) ≡ bit_or (entries m) (entries s)
      → bit_or (terms l) (terms r) ≡ bit_or (terms m) (terms s) → entries l ≡ entries m → AreSame l r m s
  sides-same l r m s is_l is_r is_m is_s apart other_apart same_entries same_terms same_left =
      let right : entries r ≡ entries s =
      sym (left-of-union (entries l) (entries r) apart) ∙ (λ at. bit_xor (same_entries at) (same_left at)) ∙ left-of-union (entries m) (entries s) other_apart in
      record {
        left_terms = sym (left-terms catalogue block formed l r is_l is_r apart)
            ∙ (λ at. bit_and (same_terms at) (terms_within (same_left at) block.terms)) ∙ left-terms catalogue block formed m s is_m is_s other_apart;
        right_entries = right;
        right_terms = sym (right-terms catalogue block formed l r is_l is_r apart)
            ∙ (λ at. bit_and (same_terms at) (terms_within (right at) block.terms)) ∙ right-terms catalogue block formed m s is_m is_s other_apart;
      }

  module _ (kept : ℕ → ℕ → Option PlanTree) (first second : ℕ) where
    kept-same : (a b : PlanTree) → kept (entries a) (terms a) ≡ Some a → kept (entries b) (terms b) ≡ Some b → entries a ≡ entries b → terms a ≡ terms b → a ≡ b
    kept-same a b made_a made_b same_entries same_terms = same_Some a b (sym made_a ∙ (λ at. kept (same_entries at) (same_terms at)) ∙ made_b)

    -- the start of a code tells which plan it is
    pub same-start : (a b : PlanTree) → IsCandidate catalogue block kept first second a → IsCandidate catalogue block kept first second b
        → start_of a ≡ start_of b → a ≡ b
    same-start (SeqScan e) (SeqScan f) x y same = ap SeqScan (omega arith)
    same-start (SeqScan e) (JoinOperator Hash m s) x y same =
        absurd (let small = second-small (SeqScan e) x.part in let less = second-small (JoinOperator Hash m s) y.part in omega arith)
    same-start (SeqScan e) (JoinOperator Nested m s) x y same =
        absurd (let small = second-small (SeqScan e) x.part in let less = second-small (JoinOperator Nested m s) y.part in omega arith)
    same-start (SeqScan e) other x y same = absurd (let small = second-small (SeqScan e) x.part in let less = second-small other y.part in omega arith)
    same-start (RankScan e t i) (RankScan f u j) x y same =
        let entry : e ≡ f = omega arith in
        let term : t ≡ u = mask-number t u x.part.is_term.some y.part.is_term.some (x.its_terms ∙ sym y.its_terms) in
        let index = same-index catalogue block e t i f u j x.part y.part entry term in
        λ at. RankScan (entry at) (term at) (index at)
    same-start (RankScan e t i) (JoinOperator Hash m s) x y same =
        absurd (let small = second-small (RankScan e t i) x.part in let less = second-small (JoinOperator Hash m s) y.part in omega arith)
    same-start (RankScan e t i) (JoinOperator Nested m s) x y same =
        absurd (let small = second-small (RankScan e t i) x.part in let less = second-small (JoinOperator Nested m s) y.part in omega arith)
    same-start (RankScan e t i) other x y same = absurd (let small = second-small (RankScan e t i) x.part in let less = second-small other y.part in omega arith)
    same-start (Rank t a) (Rank u b) x y same =
        let term : t ≡ u = omega arith in
        let without_a : terms a ≡ bit_xor second (mask_of t) =
        sym (left-without (terms a) (mask_of t) (number-apart (terms a) t x.part.1.absent)) ∙ ap (λ m. bit_xor m (mask_of t)) x.its_terms in
        let without_b : terms b ≡ bit_xor second (mask_of u) =
        sym (left-without (terms b) (mask_of u) (number-apart (terms b) u y.part.1.absent)) ∙ ap (λ m. bit_xor m (mask_of u)) y.its_terms in
        let child = kept-same a b x.made y.made (x.its_entries ∙ sym y.its_entries)
        (without_a ∙ ap (λ n. bit_xor second (mask_of n)) term ∙ sym without_b) in
        λ at. Rank (term at) (child at)
    same-start (Rank t a) (JoinOperator Hash m s) x y same =
        absurd (let small = second-small (Rank t a) x.part in let less = second-small (JoinOperator Hash m s) y.part in omega arith)
    same-start (Rank t a) (JoinOperator Nested m s) x y same =
        absurd (let small = second-small (Rank t a) x.part in let less = second-small (JoinOperator Nested m s) y.part in omega arith)
    same-start (Rank t a) other x y same = absurd (let small = second-small (Rank t a) x.part in let less = second-small other y.part in omega arith)
    same-start (JoinOperator Hash l r) (JoinOperator Hash m s) x y same =
        let same_left : entries l ≡ entries m = omega arith in
        let are = sides-same l r m s x.part.0 x.part.1 y.part.0 y.part.1 x.part.2.apart y.part.2.apart
        (x.its_entries ∙ sym y.its_entries) (x.its_terms ∙ sym y.its_terms) same_left in
        let left = kept-same l m x.made.0 y.made.0 same_left are.left_terms in
        let right = kept-same r s x.made.1 y.made.1 are.right_entries are.right_terms in
        λ at. JoinOperator Hash (left at) (right at)
    same-start (JoinOperator Hash l r) other x y same = absurd (let small = second-small (JoinOperator Hash l r) x.part in let less = second-small other y.part in omega arith)
    same-start (JoinOperator Nested l r) (JoinOperator Nested m s) x y same =
        let same_left : entries l ≡ entries m = omega arith in
        let are = sides-same l r m s x.part.0 x.part.1 y.part.0 y.part.1 x.part.2.apart y.part.2.apart
        (x.its_entries ∙ sym y.its_entries) (x.its_terms ∙ sym y.its_terms) same_left in
        let left = kept-same l m x.made.0 y.made.0 same_left are.left_terms in
        let right = kept-same r s x.made.1 y.made.1 are.right_entries are.right_terms in
        λ at. JoinOperator Nested (left at) (right at)
    same-start (JoinOperator Nested l r) other x y same = absurd (let small = second-small (JoinOperator Nested l r) x.part in let less = second-small other y.part in omega arith)
    same-start (Distinct child) other x y same = absurd x.made
    same-start (SetOperator l r) other x y same = absurd x.made

    -- all codes start below a number
    pub start-most : (tree : PlanTree) → IsCandidate catalogue block kept first second tree → start_of tree < 6 * 256
    start-most (SeqScan e) x = let small = second-small (SeqScan e) x.part in omega arith
    start-most (RankScan e t i) x = let small = second-small (RankScan e t i) x.part in omega arith
    start-most (Rank t child) x = let small = second-small (Rank t child) x.part in omega arith
    start-most (JoinOperator Hash l r) x = let small = second-small (JoinOperator Hash l r) x.part in omega arith
    start-most (JoinOperator Nested l r) x = let small = second-small (JoinOperator Nested l r) x.part in omega arith
    start-most (Distinct child) x = absurd x.made
    start-most (SetOperator l r) x = absurd x.made

    left-below : (l r : PlanTree) → IsPart catalogue block l → IsPart catalogue block r → AreDisjoint (entries l) (entries r)
        → bit_or (entries l) (entries r) ≡ first → (1 ≤ entries l) × (entries l < first)
    left-below l r is_l is_r apart both =
        let sum = union-sum (entries l) (entries r) apart in
        let own = some-entry catalogue block l is_l in
        let other = some-entry catalogue block r is_r in
        (own, omega arith)

    -- where no code starts
    pub no-term-zero : (tree : PlanTree) → IsCandidate catalogue block kept first second tree → start_of tree ≡ 3 * 256 → ⊥
    no-term-zero (SeqScan e) x at = let small = second-small (SeqScan e) x.part in omega arith
    no-term-zero (RankScan e t i) x at = let small = second-small (RankScan e t i) x.part in omega arith
    no-term-zero (Rank t child) x at = let some = x.part.1.is_term.some in omega arith
    no-term-zero (JoinOperator Hash l r) x at = omega arith
    no-term-zero (JoinOperator Nested l r) x at = omega arith
    no-term-zero (Distinct child) x at = x.made
    no-term-zero (SetOperator l r) x at = x.made

    pub no-more-terms : (tree : PlanTree) → IsCandidate catalogue block kept first second tree → 3 * 256 + length block.terms < start_of tree → start_of tree ≤ 4 * 256 → ⊥
    no-more-terms (SeqScan e) x above below = let small = second-small (SeqScan e) x.part in omega arith
    no-more-terms (RankScan e t i) x above below = let small = second-small (RankScan e t i) x.part in omega arith
    no-more-terms (Rank t child) x above below =
        let some = x.part.1.is_term.some in
        let within = slice_get_within block.terms (t - 1) x.part.1.term x.part.1.is_term.there in
        omega arith
    no-more-terms (JoinOperator Hash l r) x above below = let own = some-entry catalogue block l x.part.0 in omega arith
    no-more-terms (JoinOperator Nested l r) x above below = omega arith
    no-more-terms (Distinct child) x above below = x.made
    no-more-terms (SetOperator l r) x above below = x.made

    pub no-more-hashed : (tree : PlanTree) → IsCandidate catalogue block kept first second tree → 4 * 256 + first ≤ start_of tree → start_of tree ≤ 5 * 256 → ⊥
    no-more-hashed (SeqScan e) x above below = let small = second-small (SeqScan e) x.part in omega arith
    no-more-hashed (RankScan e t i) x above below = let small = second-small (RankScan e t i) x.part in omega arith
    no-more-hashed (Rank t child) x above below = let small = second-small (Rank t child) x.part in omega arith
    no-more-hashed (JoinOperator Hash l r) x above below =
        let less = (left-below l r x.part.0 x.part.1 x.part.2.apart x.its_entries).1 in omega arith
    no-more-hashed (JoinOperator Nested l r) x above below = let own = some-entry catalogue block l x.part.0 in omega arith
    no-more-hashed (Distinct child) x above below = x.made
    no-more-hashed (SetOperator l r) x above below = x.made

    pub no-more-nested : (tree : PlanTree) → IsCandidate catalogue block kept first second tree → 5 * 256 + first ≤ start_of tree → ⊥
    no-more-nested (SeqScan e) x above = let small = second-small (SeqScan e) x.part in omega arith
    no-more-nested (RankScan e t i) x above = let small = second-small (RankScan e t i) x.part in omega arith
    no-more-nested (Rank t child) x above = let small = second-small (Rank t child) x.part in omega arith
    no-more-nested (JoinOperator Hash l r) x above = let small = second-small (JoinOperator Hash l r) x.part in omega arith
    no-more-nested (JoinOperator Nested l r) x above =
        let less = (left-below l r x.part.0 x.part.1 x.part.2.apart x.its_entries).1 in omega arith
    no-more-nested (Distinct child) x above = x.made
    no-more-nested (SetOperator l r) x above = x.made

module _ (catalogue : CatalogDef) (query : Query) (cards : List BlockCards) (formed : IsBlock catalogue (block_in query 1)) (places : List (Option Placed)) (first second : ℕ) where
  -- what stands for a plan is the one plan whose code starts so
  pub one-there : (start : ℕ) (found : Candidate) (tree : PlanTree) → StandsFor catalogue query cards places first second found tree → start_of tree ≡ start
      → IsOne catalogue query cards places first second start found
  one-there start found tree stands starts = record {
    tree = tree;
    stands = stands;
    starts = starts;
    no_later = λ other made same. subst (λ t. ComesNoLater catalogue query cards tree t)
        (same-start catalogue (block_in query 1) formed (tree_at (length (block_in query 1).terms) places) first second tree other stands.made made (starts ∙ sym same))
        (by_value-itself (cost_of catalogue query cards) tree);
  }

  -- what was found so far, and the plan whose code starts next
  pub IsTheFirst-cheaper : (bound : ℕ) (best next : Option Candidate) → IsTheFirst catalogue query cards places first second bound best
      → IsTheOne catalogue query cards places first second bound next → IsTheFirst catalogue query cards places first second (bound + 1) (cheaper best next)
  IsTheFirst-cheaper bound best next is one =
      first-cheaper (CanBeMade catalogue query places first second) (StandsFor catalogue query cards places first second) (cost_of catalogue query cards) start_of
      (λ found tree stands. stands.made) (λ found tree stands. stands.cost)
      (λ a b x y less. earlier-code catalogue (block_in query 1) formed a b x.part y.part x.whole y.whole less) bound best next is one

  -- no plan starts in between
  pub IsTheFirst-wider : (bound wider : ℕ) (found : Option Candidate) → bound ≤ wider
      → ((other : PlanTree) → CanBeMade catalogue query places first second other → bound ≤ start_of other → start_of other < wider → ⊥)
      → IsTheFirst catalogue query cards places first second bound found → IsTheFirst catalogue query cards places first second wider found
  IsTheFirst-wider bound wider found more lacks is =
      first-wider (CanBeMade catalogue query places first second) (StandsFor catalogue query cards places first second) (cost_of catalogue query cards) start_of
      bound wider found more lacks is
