-- What is found for a start of codes: the one plan that can be made for it, or that there is none.
use Rattle.std.proofs.Common.{◌≡◌, ℕ, ◌+◌, ◌-◌, ◌*◌, ◌^◌, ◌<◌, ◌≤◌, false, true, true≢false, ◌==◌, List, length, refl, sym, ◌∙◌, ap, subst, subst₂, arith, bit_and, bit_or, bit_xor, count_ones}
use Rattle.std.specs.Prelude.{Option, Some, None, option_map, slice_get}
use Rattle.std.specs.Int.{bit_at}
use Rattle.std.proofs.lemmas.Nat.{and_le_l, or_comm, pow_below, pow_pos, xor_lt}
use Rattle.std.proofs.lemmas.Nat.Bits.{bit_at-lt, bit_at-pow_same, bit_at_or}
use Rattle.std.proofs.lemmas.Option.{none-some, same_Some}
use Rattle.rs_rank.specs.Masks.{AreDisjoint, has_number, mask_of}
use Rattle.rs_catalog.specs.Catalog.{CatalogDef}
use Rattle.rs_query.specs.Meaning.{is_inside}
use Rattle.rs_query.specs.Tables.{size_of}
use Rattle.rs_query.specs.WellFormed.{IsBlock}
use Rattle.rs_query.specs.declared.block.Block.{Block}
use Rattle.rs_query.specs.declared.query.Query.{Query}
use Rattle.rs_query.specs.declared.term.Term.{Term}
use Rattle.rs_sample.specs.Cards.{BlockCards}
use Rattle.rs_query.specs.Blocks.{block_in}
use Rattle.rs_plan.specs.Plans.{IsEntryNumber, IsHashed, IsPart, IsRankScan, IsTermOf}
use Rattle.rs_plan.specs.Trees.{Distinct, Hash, JoinOperator, Nested, PlanTree, Rank, RankScan, SeqScan, SetOperator, entries, terms}
use Rattle.rs_enum.specs.QueryCards.{cards_at}
use Rattle.rs_enum.specs.declared.candidate.Candidate.{Candidate}
use Rattle.rs_enum.specs.declared.candidate.Choice.TheVariants as choice
use Rattle.rs_enum.specs.declared.candidate.Sides.{Sides}
use Rattle.rs_enum.specs.Bounds.{most_cost}
use Rattle.rs_enum.specs.Candidates.{IsCandidate}
use Rattle.rs_enum.specs.Costs.{call_cost, cost_of, estimate_of}
use Rattle.rs_enum.specs.Least.{ComesNoLater}
use Rattle.rs_enum.specs.Within.{terms_within}
use Rattle.rs_enum.specs.Places.{AreKept, AreNoSides, AreSides, CanBeMade, IsOne, IsScan, IsTheFirst, Placed, kept_at, start_of, tree_at}
use Rattle.rs_enum.proofs.BitFacts.{inside-union-left, left-has_not, left-of-union, left-without, mask-number, number-apart, number-inside, part-and-left, part-apart}
use Rattle.rs_enum.proofs.CostFacts.{numbered}
use Rattle.rs_enum.proofs.NodeFacts.{hash-whole, nested-whole, rank-whole, rank_scan-whole, scan-whole}
use Rattle.rs_enum.proofs.OrderOfPlans.{by_value-itself}
use Rattle.rs_enum.proofs.StartFacts.{one-there, same-start, second-small}
use Rattle.rs_enum.proofs.WithinFacts.{left-terms, right-terms}

-- a mask has the numbers that it was joined with
has-own : (a t : ℕ) → has_number (bit_or a (mask_of t)) t ≡ true
has-own a t =
    let o = bit_at_or a (mask_of t) (t - 1) in
    let own = bit_at-pow_same (t - 1) in
    let less = bit_at-lt a (t - 1) in
    let one : bit_at (bit_or a (mask_of t)) (t - 1) ≡ 1 = omega arith in
    ap (λ n. n == 1) one

module _ (catalogue : CatalogDef) (block : Block) (formed : IsBlock catalogue block) (kept : ℕ → ℕ → Option PlanTree) (first second : ℕ) where
  -- which tree starts so
  pub record IsRankOf (t : ℕ) (tree : PlanTree) : Type 0 where
    pub child : PlanTree
    pub is : tree ≡ Rank t child

  pub rank-at : (t : ℕ) (tree : PlanTree) → 1 ≤ t → t ≤ 8 → IsCandidate catalogue block kept first second tree → start_of tree ≡ 3 * 256 + t → IsRankOf t tree
  rank-at t (SeqScan e) some most x at = absurd (let small = second-small catalogue block formed (SeqScan e) x.part in omega arith)
  rank-at t (RankScan e u i) some most x at = absurd (let small = second-small catalogue block formed (RankScan e u i) x.part in omega arith)
  rank-at t (Rank u child) some most x at = record { child = child; is = (let same : u ≡ t = omega arith in ap (λ n. Rank n child) same) }
  rank-at t (JoinOperator Hash l r) some most x at = absurd (omega arith)
  rank-at t (JoinOperator Nested l r) some most x at = absurd (omega arith)
  rank-at t (Distinct child) some most x at = absurd x.made
  rank-at t (SetOperator l r) some most x at = absurd x.made

  pub record IsHashJoinOf (left : ℕ) (tree : PlanTree) : Type 0 where
    pub l : PlanTree
    pub r : PlanTree
    pub is : tree ≡ JoinOperator Hash l r
    pub left_entries : entries l ≡ left

  pub hash-at : (left : ℕ) (tree : PlanTree) → left < 256 → IsCandidate catalogue block kept first second tree → start_of tree ≡ 4 * 256 + left → IsHashJoinOf left tree
  hash-at left (SeqScan e) small x at = absurd (let less = second-small catalogue block formed (SeqScan e) x.part in omega arith)
  hash-at left (RankScan e u i) small x at = absurd (let less = second-small catalogue block formed (RankScan e u i) x.part in omega arith)
  hash-at left (Rank u child) small x at = absurd (let less = second-small catalogue block formed (Rank u child) x.part in omega arith)
  hash-at left (JoinOperator Hash l r) small x at = record { l = l; r = r; is = refl; left_entries = omega arith }
  hash-at left (JoinOperator Nested l r) small x at = absurd (omega arith)
  hash-at left (Distinct child) small x at = absurd x.made
  hash-at left (SetOperator l r) small x at = absurd x.made

  pub record IsNestedJoinOf (left : ℕ) (tree : PlanTree) : Type 0 where
    pub l : PlanTree
    pub r : PlanTree
    pub is : tree ≡ JoinOperator Nested l r
    pub left_entries : entries l ≡ left

  pub nested-at : (left : ℕ) (tree : PlanTree) → left < 256 → IsCandidate catalogue block kept first second tree → start_of tree ≡ 5 * 256 + left → IsNestedJoinOf left tree
  nested-at left (SeqScan e) small x at = absurd (let less = second-small catalogue block formed (SeqScan e) x.part in omega arith)
  nested-at left (RankScan e u i) small x at = absurd (let less = second-small catalogue block formed (RankScan e u i) x.part in omega arith)
  nested-at left (Rank u child) small x at = absurd (let less = second-small catalogue block formed (Rank u child) x.part in omega arith)
  nested-at left (JoinOperator Hash l r) small x at = absurd (let less = second-small catalogue block formed (JoinOperator Hash l r) x.part in omega arith)
  nested-at left (JoinOperator Nested l r) small x at = record { l = l; r = r; is = refl; left_entries = omega arith }
  nested-at left (Distinct child) small x at = absurd x.made
  nested-at left (SetOperator l r) small x at = absurd x.made

  -- no operator for a term that isn't to be evaluated, or whose entries aren't all there, or over what isn't kept
  pub rank-unwanted : (t : ℕ) → 1 ≤ t → t ≤ 8 → has_number second t ≡ false → (tree : PlanTree) → IsCandidate catalogue block kept first second tree
      → start_of tree ≡ 3 * 256 + t → ⊥
  rank-unwanted t some most none tree x at =
      let r = rank-at t tree some most x at in
      let y : IsCandidate catalogue block kept first second (Rank t r.child) = subst (IsCandidate catalogue block kept first second) r.is x in
      true≢false (sym (has-own (terms r.child) t) ∙ ap (λ m. has_number m t) y.its_terms ∙ none)

  pub rank-elsewhere : (t : ℕ) (term : Term) → 1 ≤ t → t ≤ 8 → slice_get block.terms (t - 1) ≡ Some term → is_inside term.entries first ≡ false
      → (tree : PlanTree) → IsCandidate catalogue block kept first second tree → start_of tree ≡ 3 * 256 + t → ⊥
  rank-elsewhere t term some most there outside tree x at =
      let r = rank-at t tree some most x at in
      let y : IsCandidate catalogue block kept first second (Rank t r.child) = subst (IsCandidate catalogue block kept first second) r.is x in
      let same : y.part.1.term ≡ term = same_Some y.part.1.term term (sym y.part.1.is_term.there ∙ there) in
      true≢false (sym y.part.1.there ∙ (λ i. is_inside (same i).entries (y.its_entries i)) ∙ outside)

  pub rank-missing : (t : ℕ) → 1 ≤ t → t ≤ 8 → kept first (bit_xor second (mask_of t)) ≡ None
      → (tree : PlanTree) → IsCandidate catalogue block kept first second tree → start_of tree ≡ 3 * 256 + t → ⊥
  rank-missing t some most missing tree x at =
      let r = rank-at t tree some most x at in
      let y : IsCandidate catalogue block kept first second (Rank t r.child) = subst (IsCandidate catalogue block kept first second) r.is x in
      let below : terms r.child ≡ bit_xor second (mask_of t) =
      sym (left-without (terms r.child) (mask_of t) (number-apart (terms r.child) t y.part.1.absent)) ∙ ap (λ m. bit_xor m (mask_of t)) y.its_terms in
      none-some r.child (sym missing ∙ (λ i. kept (sym y.its_entries i) (sym below i)) ∙ y.made)

module _ (catalogue : CatalogDef) (query : Query) (cards : List BlockCards) (formed : IsBlock catalogue (block_in query 1)) (places : List (Option Placed)) (kept : AreKept catalogue query cards places)
    (first second : ℕ) (small : second < 2 ^ length (block_in query 1).terms) where
  -- an operator for a term over what is kept
  pub rank-one : (t : ℕ) (term : Term) → IsTermOf (block_in query 1) t term → has_number second t ≡ true → is_inside term.entries first ≡ true
      → (k : Placed) → kept_at (length (block_in query 1).terms) places first (bit_xor second (mask_of t)) ≡ Some k
      → (rows call : ℕ) → rows ≡ estimate_of cards 1 k.plan → rows ≤ 131072 ^ count_ones (entries k.plan)
      → call ≡ call_cost catalogue (block_in query 1) t → call < 2 ^ 16
      → (found : Candidate) → found.cost ≡ k.cost + rows * call → found.choice ≡ choice.Rank t
      → IsOne catalogue query cards places first second (3 * 256 + t) found
  rank-one t term is_term has inside k at rows call rows_is few call_is call_small found cost_is choice_is =
      let within = (numbered (block_in query 1) t term is_term).most in
      let some = is_term.some in
      let mask_small : mask_of t < 2 ^ length (block_in query 1).terms = pow_below (t - 1) (length (block_in query 1).terms) (omega arith) in
      let below : bit_xor second (mask_of t) < 2 ^ length (block_in query 1).terms = xor_lt (length (block_in query 1).terms) second (mask_of t) small mask_small in
      let ik = kept first (bit_xor second (mask_of t)) k below at in
      let whole : bit_or (terms k.plan) (mask_of t) ≡ second =
      ap (λ m. bit_or m (mask_of t)) ik.its_terms ∙ or_comm (bit_xor second (mask_of t)) (mask_of t) ∙ part-and-left (mask_of t) second (number-inside second t has) in
      let part : IsPart catalogue (block_in query 1) (Rank t k.plan) = (
        ik.part,
        record {
          term = term;
          is_term = is_term;
          absent = ap (λ m. has_number m t) ik.its_terms ∙ left-has_not second t has;
          there = ap (is_inside term.entries) ik.its_entries ∙ inside;
        },
      ) in
      let own : k.cost + 2 ^ 105 ≤ most_cost (entries k.plan) (terms k.plan) =
      subst₂ (λ a b. k.cost + 2 ^ 105 ≤ most_cost a b) (sym ik.its_entries) (sym ik.its_terms) ik.spare in
      let most = rank-whole catalogue (block_in query 1) formed (Rank t k.plan) k.plan t k.cost rows call (2 ^ 105) refl part few call_small own in
      let bound : k.cost + rows * call + 2 ^ 105 ≤ most_cost first second = subst₂ (λ a b. k.cost + rows * call + 2 ^ 105 ≤ most_cost a b) ik.its_entries whole most in
      one-there catalogue query cards formed places first second (3 * 256 + t) found (Rank t k.plan)
      (record {
        made = record {
          part = part;
          whole = ik.whole;
          its_entries = ik.its_entries;
          its_terms = whole;
          made = subst₂ (λ a b. tree_at (length (block_in query 1).terms) places a b ≡ Some k.plan) (sym ik.its_entries) (sym ik.its_terms)
              (ap (option_map (λ (m : Placed). m.plan)) at);
        };
        chosen = ap Some (sym choice_is);
        cost = cost_is ∙ (λ i. ik.cost i + rows_is i * call_is i);
        spare = subst (λ n. n + 2 ^ 105 ≤ most_cost first second) (sym cost_is) bound;
      })
      refl

  -- what the sides of a join have to be
  record SidesOf (left : ℕ) (l r : PlanTree) : Type 0 where
    pub right_entries : entries r ≡ bit_xor first left
    pub left_terms : terms l ≡ bit_and second (terms_within left (block_in query 1).terms)
    pub right_terms : terms r ≡ bit_and second (terms_within (bit_xor first left) (block_in query 1).terms)

  sides-of : (left : ℕ) (l r : PlanTree) → IsPart catalogue (block_in query 1) l → IsPart catalogue (block_in query 1) r → AreDisjoint (entries l) (entries r)
      → bit_or (entries l) (entries r) ≡ first → bit_or (terms l) (terms r) ≡ second → entries l ≡ left → SidesOf left l r
  sides-of left l r is_l is_r apart both_entries both_terms same =
      let right : entries r ≡ bit_xor first left =
      sym (left-of-union (entries l) (entries r) apart) ∙ (λ at. bit_xor (both_entries at) (same at)) in
      record {
        right_entries = right;
        left_terms = sym (left-terms catalogue (block_in query 1) formed l r is_l is_r apart)
            ∙ (λ at. bit_and (both_terms at) (terms_within (same at) (block_in query 1).terms));
        right_terms = sym (right-terms catalogue (block_in query 1) formed l r is_l is_r apart)
            ∙ (λ at. bit_and (both_terms at) (terms_within (right at) (block_in query 1).terms));
      }

  pub no-sides-outside : (left : ℕ) → (bit_and left first ≡ left → ⊥) → AreNoSides catalogue query places first second left
  no-sides-outside left outside = λ l r is_l is_r apart both_entries both_terms same left_kept right_kept.
      outside ((λ at. bit_and (sym same at) (sym both_entries at)) ∙ inside-union-left (entries l) (entries r) ∙ same)

  pub no-sides-split : (left : ℕ)
      → (bit_or (bit_and second (terms_within left (block_in query 1).terms)) (bit_and second (terms_within (bit_xor first left) (block_in query 1).terms)) ≡ second → ⊥)
      → AreNoSides catalogue query places first second left
  no-sides-split left other = λ l r is_l is_r apart both_entries both_terms same left_kept right_kept.
      let s = sides-of left l r is_l is_r apart both_entries both_terms same in
      other ((λ at. bit_or (sym s.left_terms at) (sym s.right_terms at)) ∙ both_terms)

  pub no-sides-left : (left : ℕ) → kept_at (length (block_in query 1).terms) places left (bit_and second (terms_within left (block_in query 1).terms)) ≡ None
      → AreNoSides catalogue query places first second left
  no-sides-left left missing = λ l r is_l is_r apart both_entries both_terms same left_kept right_kept.
      let s = sides-of left l r is_l is_r apart both_entries both_terms same in
      none-some l (sym (ap (option_map (λ (m : Placed). m.plan)) missing)
      ∙ (λ at. tree_at (length (block_in query 1).terms) places (sym same at) (sym s.left_terms at)) ∙ left_kept)

  pub no-sides-right : (left : ℕ)
      → kept_at (length (block_in query 1).terms) places (bit_xor first left) (bit_and second (terms_within (bit_xor first left) (block_in query 1).terms)) ≡ None
      → AreNoSides catalogue query places first second left
  no-sides-right left missing = λ l r is_l is_r apart both_entries both_terms same left_kept right_kept.
      let s = sides-of left l r is_l is_r apart both_entries both_terms same in
      none-some r (sym (ap (option_map (λ (m : Placed). m.plan)) missing)
      ∙ (λ at. tree_at (length (block_in query 1).terms) places (sym s.right_entries at) (sym s.right_terms at)) ∙ right_kept)

  -- two kept plans are such sides
  pub sides-one : (left : ℕ) → bit_and left first ≡ left
      → bit_or (bit_and second (terms_within left (block_in query 1).terms)) (bit_and second (terms_within (bit_xor first left) (block_in query 1).terms)) ≡ second
      → (k m : Placed) → kept_at (length (block_in query 1).terms) places left (bit_and second (terms_within left (block_in query 1).terms)) ≡ Some k
      → kept_at (length (block_in query 1).terms) places (bit_xor first left) (bit_and second (terms_within (bit_xor first left) (block_in query 1).terms)) ≡ Some m
      → (found : Sides) → found.left_cost ≡ k.cost → found.right_cost ≡ m.cost
      → found.left_rows ≡ estimate_of cards 1 k.plan → found.right_rows ≡ estimate_of cards 1 m.plan
      → found.left_rows ≤ 131072 ^ count_ones (entries k.plan) → found.right_rows ≤ 131072 ^ count_ones (entries m.plan)
      → AreSides catalogue query cards places first second left found
  sides-one left inside whole k m at_left at_right found left_cost right_cost left_rows right_rows left_few right_few =
      let left_terms = bit_and second (terms_within left (block_in query 1).terms) in
      let right = bit_xor first left in
      let right_terms = bit_and second (terms_within right (block_in query 1).terms) in
      let left_most : left_terms ≤ second = and_le_l second (terms_within left (block_in query 1).terms) in
      let right_most : right_terms ≤ second = and_le_l second (terms_within right (block_in query 1).terms) in
      let a = kept left left_terms k (omega arith) at_left in
      let b = kept right right_terms m (omega arith) at_right in
      record {
        l = k.plan;
        r = m.plan;
        left_kept = subst₂ (λ x y. tree_at (length (block_in query 1).terms) places x y ≡ Some k.plan) (sym a.its_entries) (sym a.its_terms)
            (ap (option_map (λ (n : Placed). n.plan)) at_left);
        right_kept = subst₂ (λ x y. tree_at (length (block_in query 1).terms) places x y ≡ Some m.plan) (sym b.its_entries) (sym b.its_terms)
            (ap (option_map (λ (n : Placed). n.plan)) at_right);
        left_part = a.part;
        right_part = b.part;
        left_whole = a.whole;
        right_whole = b.whole;
        left_entries = a.its_entries;
        apart = (λ at. bit_and (a.its_entries at) (b.its_entries at)) ∙ part-apart left first inside;
        both_entries = (λ at. bit_or (a.its_entries at) (b.its_entries at)) ∙ part-and-left left first inside;
        both_terms = (λ at. bit_or (a.its_terms at) (b.its_terms at)) ∙ whole;
        left_cost = left_cost ∙ a.cost;
        right_cost = right_cost ∙ b.cost;
        left_rows = left_rows;
        right_rows = right_rows;
        left_spare = subst (λ n. n + 2 ^ 105 ≤ most_cost (entries k.plan) (terms k.plan)) (sym left_cost)
            (subst₂ (λ x y. k.cost + 2 ^ 105 ≤ most_cost x y) (sym a.its_entries) (sym a.its_terms) a.spare);
        right_spare = subst (λ n. n + 2 ^ 105 ≤ most_cost (entries m.plan) (terms m.plan)) (sym right_cost)
            (subst₂ (λ x y. m.cost + 2 ^ 105 ≤ most_cost x y) (sym b.its_entries) (sym b.its_terms) b.spare);
        left_few = left_few;
        right_few = right_few;
      }

  -- joins of them
  pub hash-one : (left : ℕ) (s : Sides) → AreSides catalogue query cards places first second left s → IsHashed (block_in query 1) left (bit_xor first left)
      → (rows : ℕ) → rows ≡ (cards_at cards 1).estimate first second → rows ≤ 131072 ^ count_ones first
      → (found : Candidate) → found.cost ≡ s.left_cost + s.right_cost + 2 * (s.left_rows + s.right_rows) + rows → found.choice ≡ choice.HashJoin left
      → IsOne catalogue query cards places first second (4 * 256 + left) found
  hash-one left s are hashed rows rows_is few found cost_is choice_is =
      let right : entries are.r ≡ bit_xor first left =
      sym (left-of-union (entries are.l) (entries are.r) are.apart) ∙ (λ at. bit_xor (are.both_entries at) (are.left_entries at)) in
      let joined : IsHashed (block_in query 1) (entries are.l) (entries are.r) = subst₂ (IsHashed (block_in query 1)) (sym are.left_entries) (sym right) hashed in
      let part : IsPart catalogue (block_in query 1) (JoinOperator Hash are.l are.r) =
      (are.left_part, are.right_part, record { apart = are.apart; left_whole = are.left_whole; right_whole = are.right_whole }, joined) in
      let most = hash-whole catalogue (block_in query 1) formed (JoinOperator Hash are.l are.r) are.l are.r s.left_cost s.right_cost s.left_rows s.right_rows rows refl part
      are.left_spare are.right_spare are.left_few are.right_few (subst (λ n. rows ≤ 131072 ^ count_ones n) (sym are.both_entries) few) in
      let bound = subst₂ (λ x y. s.left_cost + s.right_cost + 2 * (s.left_rows + s.right_rows) + rows + 2 ^ 105 ≤ most_cost x y) are.both_entries are.both_terms most in
      one-there catalogue query cards formed places first second (4 * 256 + left) found (JoinOperator Hash are.l are.r)
      (record {
        made = record {
          part = part;
          whole = (are.left_whole, are.right_whole);
          its_entries = are.both_entries;
          its_terms = are.both_terms;
          made = (are.left_kept, are.right_kept);
        };
        chosen = (λ at. Some (choice.HashJoin (are.left_entries at))) ∙ ap Some (sym choice_is);
        cost = cost_is ∙ (λ at. are.left_cost at + are.right_cost at + 2 * (are.left_rows at + are.right_rows at)
            + (rows_is ∙ (λ i. (cards_at cards 1).estimate (sym are.both_entries i) (sym are.both_terms i))) at);
        spare = subst (λ n. n + 2 ^ 105 ≤ most_cost first second) (sym cost_is) bound;
      })
      (ap (λ n. 4 * 256 + n) are.left_entries)

  pub nested-one : (left : ℕ) (s : Sides) → AreSides catalogue query cards places first second left s
      → (rows : ℕ) → rows ≡ (cards_at cards 1).estimate first second → rows ≤ 131072 ^ count_ones first
      → (found : Candidate) → found.cost ≡ s.left_cost + s.right_cost + s.left_rows * s.right_rows + rows → found.choice ≡ choice.NestedJoin left
      → IsOne catalogue query cards places first second (5 * 256 + left) found
  nested-one left s are rows rows_is few found cost_is choice_is =
      let part : IsPart catalogue (block_in query 1) (JoinOperator Nested are.l are.r) =
      (are.left_part, are.right_part, record { apart = are.apart; left_whole = are.left_whole; right_whole = are.right_whole }, tt) in
      let most = nested-whole catalogue (block_in query 1) formed (JoinOperator Nested are.l are.r) are.l are.r s.left_cost s.right_cost s.left_rows s.right_rows rows refl part
      are.left_spare are.right_spare are.left_few are.right_few (subst (λ n. rows ≤ 131072 ^ count_ones n) (sym are.both_entries) few) in
      let bound = subst₂ (λ x y. s.left_cost + s.right_cost + s.left_rows * s.right_rows + rows + 2 ^ 105 ≤ most_cost x y) are.both_entries are.both_terms most in
      one-there catalogue query cards formed places first second (5 * 256 + left) found (JoinOperator Nested are.l are.r)
      (record {
        made = record {
          part = part;
          whole = (are.left_whole, are.right_whole);
          its_entries = are.both_entries;
          its_terms = are.both_terms;
          made = (are.left_kept, are.right_kept);
        };
        chosen = (λ at. Some (choice.NestedJoin (are.left_entries at))) ∙ ap Some (sym choice_is);
        cost = cost_is ∙ (λ at. are.left_cost at + are.right_cost at + are.left_rows at * are.right_rows at
            + (rows_is ∙ (λ i. (cards_at cards 1).estimate (sym are.both_entries i) (sym are.both_terms i))) at);
        spare = subst (λ n. n + 2 ^ 105 ≤ most_cost first second) (sym cost_is) bound;
      })
      (ap (λ n. 5 * 256 + n) are.left_entries)

  -- and none where there are no sides, or where no equality joins them
  pub nested-none : (left : ℕ) → left < 256 → AreNoSides catalogue query places first second left
      → (tree : PlanTree) → CanBeMade catalogue query places first second tree → start_of tree ≡ 5 * 256 + left → ⊥
  nested-none left less none tree x at =
      let n = nested-at catalogue (block_in query 1) formed (tree_at (length (block_in query 1).terms) places) first second left tree less x at in
      let y : CanBeMade catalogue query places first second (JoinOperator Nested n.l n.r) = subst (CanBeMade catalogue query places first second) n.is x in
      none n.l n.r y.part.0 y.part.1 y.part.2.apart y.its_entries y.its_terms n.left_entries y.made.0 y.made.1

  pub hash-none : (left : ℕ) → left < 256 → AreNoSides catalogue query places first second left
      → (tree : PlanTree) → CanBeMade catalogue query places first second tree → start_of tree ≡ 4 * 256 + left → ⊥
  hash-none left less none tree x at =
      let n = hash-at catalogue (block_in query 1) formed (tree_at (length (block_in query 1).terms) places) first second left tree less x at in
      let y : CanBeMade catalogue query places first second (JoinOperator Hash n.l n.r) = subst (CanBeMade catalogue query places first second) n.is x in
      none n.l n.r y.part.0 y.part.1 y.part.2.apart y.its_entries y.its_terms n.left_entries y.made.0 y.made.1

  pub hash-apart : (left : ℕ) → left < 256 → (IsHashed (block_in query 1) left (bit_xor first left) → ⊥)
      → (tree : PlanTree) → CanBeMade catalogue query places first second tree → start_of tree ≡ 4 * 256 + left → ⊥
  hash-apart left less none tree x at =
      let n = hash-at catalogue (block_in query 1) formed (tree_at (length (block_in query 1).terms) places) first second left tree less x at in
      let y : CanBeMade catalogue query places first second (JoinOperator Hash n.l n.r) = subst (CanBeMade catalogue query places first second) n.is x in
      let right : entries n.r ≡ bit_xor first left =
      sym (left-of-union (entries n.l) (entries n.r) y.part.2.apart) ∙ (λ i. bit_xor (y.its_entries i) (n.left_entries i)) in
      none (subst₂ (IsHashed (block_in query 1)) n.left_entries right y.part.3)

  -- a plan whose code starts so early is a scan
  scan-case : {Q : Type 0} (tree : PlanTree) → CanBeMade catalogue query places first second tree → start_of tree < 3 * 256
      → ((e : ℕ) → tree ≡ SeqScan e → IsEntryNumber (block_in query 1) e → mask_of e ≡ first → 0 ≡ second → Q)
      → ((e t i : ℕ) → tree ≡ RankScan e t i → IsRankScan catalogue (block_in query 1) e t i → mask_of e ≡ first → mask_of t ≡ second → Q) → Q
  scan-case (SeqScan e) x below seq rank = seq e refl x.part x.its_entries x.its_terms
  scan-case (RankScan e t i) x below seq rank = rank e t i refl x.part x.its_entries x.its_terms
  scan-case (Rank t child) x below seq rank = absurd (omega arith)
  scan-case (JoinOperator Hash l r) x below seq rank = absurd (omega arith)
  scan-case (JoinOperator Nested l r) x below seq rank = absurd (omega arith)
  scan-case (Distinct child) x below seq rank = absurd x.made
  scan-case (SetOperator l r) x below seq rank = absurd x.made

  pub no-entry : ((e : ℕ) → 1 ≤ e → e ≤ length (block_in query 1).from → mask_of e ≡ first → ⊥)
      → (tree : PlanTree) → CanBeMade catalogue query places first second tree → start_of tree < 3 * 256 → ⊥
  no-entry none tree x below =
      scan-case tree x below (λ e is number mask terms_none. none e number.some number.most mask)
      (λ e t i is part mask terms_is. none e part.is_entry.some part.is_entry.most mask)

  pub no-term : (second ≡ 0 → ⊥) → ((t : ℕ) → 1 ≤ t → t ≤ length (block_in query 1).terms → mask_of t ≡ second → ⊥)
      → (tree : PlanTree) → CanBeMade catalogue query places first second tree → start_of tree < 3 * 256 → ⊥
  no-term some none tree x below =
      scan-case tree x below (λ e is number mask terms_none. some (sym terms_none))
      (λ e t i is part mask terms_is. none t part.is_term.some ((numbered (block_in query 1) t part.term part.is_term).most) terms_is)

  pub no-index : (entry term : ℕ) → 1 ≤ entry → 1 ≤ term → mask_of entry ≡ first → mask_of term ≡ second → (second ≡ 0 → ⊥)
      → ((index : ℕ) → IsRankScan catalogue (block_in query 1) entry term index → ⊥)
      → (tree : PlanTree) → CanBeMade catalogue query places first second tree → start_of tree < 3 * 256 → ⊥
  no-index entry term some_entry some_term entry_mask term_mask some none tree x below =
      scan-case tree x below (λ e is number mask terms_none. some (sym terms_none))
      (λ e t i is part mask terms_is.
      none i (subst₂ (λ a b. IsRankScan catalogue (block_in query 1) a b i)
      (mask-number e entry part.is_entry.some some_entry (mask ∙ sym entry_mask)) (mask-number t term part.is_term.some some_term (terms_is ∙ sym term_mask)) part))

  pub seq-first : (entry : ℕ) → IsEntryNumber (block_in query 1) entry → mask_of entry ≡ first → second ≡ 0
      → (found : Candidate) → found.cost ≡ size_of catalogue (block_in query 1) entry → found.cost ≤ 131072 → found.choice ≡ choice.SeqScan entry
      → IsTheFirst catalogue query cards places first second (3 * 256) (Some found)
  seq-first entry number mask none found cost_is few choice_is =
      let most = scan-whole catalogue (block_in query 1) formed (SeqScan entry) entry found.cost refl (omega arith) in
      let bound : found.cost + 2 ^ 105 ≤ most_cost first second = subst₂ (λ x y. found.cost + 2 ^ 105 ≤ most_cost x y) mask (sym none) most in
      let numbers_most = number.most in
      let few_entries : length (block_in query 1).from ≤ 6 = formed.most_entries in
      record {
        tree = SeqScan entry;
        stands = record {
          made = record { part = number; whole = tt; its_entries = mask; its_terms = sym none; made = tt };
          chosen = ap Some (sym choice_is);
          cost = cost_is;
          spare = bound;
        };
        below = omega arith;
        no_later = λ other x below. scan-case other x below
            (λ e is other_number other_mask terms_none.
            subst (λ t. ComesNoLater catalogue query cards (SeqScan entry) t)
            (sym (is ∙ ap SeqScan (mask-number e entry other_number.some number.some (other_mask ∙ sym mask)))) (by_value-itself (cost_of catalogue query cards) (SeqScan entry)))
            (λ e t i is part other_mask terms_is. absurd (let some : 0 < mask_of t = pow_pos (t - 1) in let all : mask_of t ≡ 0 = terms_is ∙ none in omega arith));
      }

  pub rank_scan-first : (entry term : ℕ) → mask_of entry ≡ first → mask_of term ≡ second
      → (found : Candidate) → IsScan catalogue query cards entry term found → IsTheFirst catalogue query cards places first second (3 * 256) (Some found)
  rank_scan-first entry term entry_mask term_mask found s =
      let few = s.few in
      let most = rank_scan-whole catalogue (block_in query 1) formed (RankScan entry term s.index) entry term s.index found.cost refl few in
      let bound : found.cost + 2 ^ 105 ≤ most_cost first second = subst₂ (λ x y. found.cost + 2 ^ 105 ≤ most_cost x y) entry_mask term_mask most in
      let numbers_most = s.part.is_entry.most in
      let few_entries : length (block_in query 1).from ≤ 6 = formed.most_entries in
      let made : CanBeMade catalogue query places first second (RankScan entry term s.index) =
      record { part = s.part; whole = tt; its_entries = entry_mask; its_terms = term_mask; made = tt } in
      record {
        tree = RankScan entry term s.index;
        stands = record { made = made; chosen = ap Some (sym s.chosen); cost = s.cost; spare = bound };
        below = omega arith;
        no_later = λ other x below. scan-case other x below
            (λ e is other_number other_mask terms_none. absurd (let some : 0 < mask_of term = pow_pos (term - 1) in let all : 0 ≡ mask_of term = terms_none ∙ sym term_mask in omega arith))
            (λ e t i is part other_mask terms_is.
            subst (λ w. ComesNoLater catalogue query cards (RankScan entry term s.index) w)
            (same-start catalogue (block_in query 1) formed (tree_at (length (block_in query 1).terms) places) first second (RankScan entry term s.index) other made x
            (ap (λ n. 2 * 256 + n) (mask-number entry e s.part.is_entry.some part.is_entry.some (entry_mask ∙ sym other_mask)) ∙ sym (ap start_of is)))
            (by_value-itself (cost_of catalogue query cards) (RankScan entry term s.index)));
      }
