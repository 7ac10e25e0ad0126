-- What a search over the plans of a signature finds: its costs fit, its rows may be asked for, and all starts of codes are tried.
use Rattle.std.proofs.Common.{◌≡◌, ℕ, ◌+◌, ◌-◌, ◌*◌, ◌^◌, ◌<◌, ◌≤◌, ◌==◌, Bool, false, true, List, length, refl, sym, ◌∙◌, subst, subst₂, arith, bit_and, bit_xor, count_ones}
use Rattle.std.specs.Prelude.{Option, Some, None}
use Rattle.std.proofs.lemmas.Bool.{eq-eqb, eqb-true}
use Rattle.std.proofs.lemmas.Nat.{and_le_l, pow_below, xor_lt}
use Rattle.std.proofs.Math.Nat.{pow-le-pow_right}
use Rattle.rs_rank.specs.Masks.{mask_of}
use Rattle.rs_catalog.specs.Catalog.{CatalogDef}
use Rattle.rs_query.specs.Meaning.{is_inside}
use Rattle.rs_query.specs.WellFormed.{IsBlock}
use Rattle.rs_query.specs.declared.query.Query.{Query}
use Rattle.rs_sample.specs.Cards.{BlockCards, IsEstimated}
use Rattle.rs_sample.specs.Kept.{cards_of}
use Rattle.rs_query.specs.Blocks.{block_in}
use Rattle.rs_plan.specs.Trees.{JoinOperator, Nested, entries, terms}
use Rattle.rs_enum.specs.declared.candidate.Candidate.{Candidate}
use Rattle.rs_enum.specs.declared.candidate.Sides.{Sides}
use Rattle.rs_enum.specs.Bounds.{most_cost}
use Rattle.rs_enum.specs.Costs.{estimate_of}
use Rattle.rs_enum.specs.declared.search.Search.{Search}
use Rattle.rs_enum.specs.Given.{CanSearch, block_of, cards_in, kept_in, query_in}
use Rattle.rs_enum.specs.Made.{kept_plans}
use Rattle.rs_enum.specs.Places.{AreKept, AreSides, IsOne, IsTheFirst, Placed, candidate_at, kept_at, tree_at}
use Rattle.rs_enum.specs.QueryCards.{AreCards, cards_at}
use Rattle.rs_enum.proofs.AloneFacts.{alone-are}
use Rattle.rs_enum.proofs.CostFacts.{block-cards, first-numbered, masks-part, part-fits}
use Rattle.rs_enum.proofs.MadeFacts.{kept-found}
use Rattle.rs_enum.proofs.OrderOfPlans.{estimate-part}
use Rattle.rs_enum.specs.Within.{terms_within}
use Rattle.rs_enum.proofs.WithinFacts.{terms-within}
use Rattle.rs_enum.proofs.StartFacts.{IsTheFirst-wider, no-more-hashed, no-more-nested, no-more-terms, no-term-zero}

-- the test of two masks
pub inside-true : (part whole : ℕ) → bit_and part whole ≡ part → is_inside part whole ≡ true
inside-true part whole same = eq-eqb (bit_and part whole) part same

pub inside-false : (part whole : ℕ) → (bit_and part whole ≡ part → ⊥) → is_inside part whole ≡ false
inside-false part whole other = go (bit_and part whole == part) refl where
  go : (b : Bool) → (bit_and part whole == part) ≡ b → b ≡ false
  go true e = absurd (other (eqb-true (bit_and part whole) part e))
  go false e = refl

module _ (catalogue : CatalogDef) (query : Query) (cards : List BlockCards) (formed : IsBlock catalogue (block_in query 1)) (places : List (Option Placed)) (first second : ℕ) where
  -- what is found fits
  pub one-fits : (start : ℕ) (found : Candidate) → IsOne catalogue query cards places first second start found → found.cost < 2 ^ 122
  one-fits start found is =
      part-fits catalogue (block_in query 1) formed is.tree found.cost is.stands.made.part
      (subst₂ (λ a b. found.cost ≤ most_cost a b) (sym is.stands.made.its_entries) (sym is.stands.made.its_terms) (let spare = is.stands.spare in omega arith))

  -- rows may be asked for where there are sides
  pub sides-masks : AreCards query cards → (left : ℕ) (s : Sides) → AreSides catalogue query cards places first second left s
      → IsEstimated (cards_at cards 1) first second
  sides-masks are left s is =
      subst₂ (IsEstimated (cards_at cards 1)) is.both_entries is.both_terms
      (masks-part (block_in query 1) (cards_at cards 1) (block-cards query cards 1 are (first-numbered query cards are)) catalogue (JoinOperator Nested is.l is.r)
      (is.left_part, is.right_part, record { apart = is.apart; left_whole = is.left_whole; right_whole = is.right_whole }, tt))

  -- no code starts between those of two kinds
  pub first-scans : (found : Option Candidate) → IsTheFirst catalogue query cards places first second (3 * 256) found
      → IsTheFirst catalogue query cards places first second (3 * 256 + 1) found
  first-scans found is =
      IsTheFirst-wider catalogue query cards formed places first second (3 * 256) (3 * 256 + 1) found (omega arith)
      (λ other made above below. no-term-zero catalogue (block_in query 1) formed (tree_at (length (block_in query 1).terms) places) first second other made (omega arith)) is

  pub first-ranks : (place : ℕ) (found : Option Candidate) → length (block_in query 1).terms ≤ place → place ≤ 8
      → IsTheFirst catalogue query cards places first second (3 * 256 + (place + 1)) found → IsTheFirst catalogue query cards places first second (4 * 256 + 1) found
  first-ranks place found all most is =
      IsTheFirst-wider catalogue query cards formed places first second (3 * 256 + (place + 1)) (4 * 256 + 1) found (omega arith)
      (λ other made above below. no-more-terms catalogue (block_in query 1) formed (tree_at (length (block_in query 1).terms) places) first second other made (omega arith) (omega arith)) is

  pub first-hashed : (left : ℕ) (found : Option Candidate) → first ≤ left → left ≤ 256
      → IsTheFirst catalogue query cards places first second (4 * 256 + left) found → IsTheFirst catalogue query cards places first second (5 * 256 + 1) found
  first-hashed left found all most is =
      IsTheFirst-wider catalogue query cards formed places first second (4 * 256 + left) (5 * 256 + 1) found (omega arith)
      (λ other made above below. no-more-hashed catalogue (block_in query 1) formed (tree_at (length (block_in query 1).terms) places) first second other made (omega arith) (omega arith)) is

  pub first-nested : (left : ℕ) (found : Option Candidate) → first ≤ left → left ≤ 256
      → IsTheFirst catalogue query cards places first second (5 * 256 + left) found → IsTheFirst catalogue query cards places first second (6 * 256) found
  first-nested left found all most is =
      IsTheFirst-wider catalogue query cards formed places first second (5 * 256 + left) (6 * 256) found (omega arith)
      (λ other made above below. no-more-nested catalogue (block_in query 1) formed (tree_at (length (block_in query 1).terms) places) first second other made (omega arith)) is

  -- a mask of entries is a small number
  pub entries-less : first < 2 ^ length (block_in query 1).from → first < 64
  entries-less below =
      let most : length (block_in query 1).from ≤ 6 = formed.most_entries in
      let power : 2 ^ length (block_in query 1).from ≤ 2 ^ 6 = pow-le-pow_right {n = 2} (omega arith) most in
      omega arith

  pub entries-few : first < 2 ^ length (block_in query 1).from → first ≤ 64
  entries-few below = let less = entries-less below in omega arith

  -- there is no plan where a term speaks of other entries
  pub none-outside : (bit_and second (terms_within first (block_in query 1).terms) ≡ second → ⊥) → (bound : ℕ)
      → IsTheFirst catalogue query cards places first second bound None
  none-outside outside bound = λ other made below.
      outside
      ((λ i. bit_and (sym made.its_terms i) (terms_within (sym made.its_entries i) (block_in query 1).terms))
      ∙ terms-within catalogue (block_in query 1) other made.part ∙ made.its_terms)

-- what is found for a signature: it is kept at its cost, and its rows may be asked for
pub record IsKeptAt (query : Query) (cards : List BlockCards) (places : List (Option Placed)) (first second : ℕ) (found : Candidate) : Type 0 where
  pub kept : Placed
  pub is : kept_at (length (block_in query 1).terms) places first second ≡ Some kept
  pub cost : kept.cost ≡ found.cost
  pub masks : IsEstimated (cards_at cards 1) first second
  pub rows : (cards_at cards 1).estimate first second ≡ estimate_of cards 1 kept.plan
  pub few : (rows : ℕ) → rows ≤ 131072 ^ count_ones first → rows ≤ 131072 ^ count_ones (entries kept.plan)

pub kept-there : (catalogue : CatalogDef) (query : Query) (cards : List BlockCards) → AreCards query cards → (candidates : List (Option Candidate))
    → AreKept catalogue query cards (kept_plans (block_in query 1).terms candidates) → (first second : ℕ) → second < 2 ^ length (block_in query 1).terms
    → (found : Candidate) → candidate_at (length (block_in query 1).terms) candidates first second ≡ Some found
    → IsKeptAt query cards (kept_plans (block_in query 1).terms candidates) first second found
kept-there catalogue query cards cards_are candidates are first second small found is =
    let k = kept-found (block_in query 1).terms candidates first second found is in
    let one = are first second k.0 small k.1 in
    record {
      kept = k.0;
      is = k.1;
      cost = k.2;
      masks = subst₂ (IsEstimated (cards_at cards 1)) one.its_entries one.its_terms
          (masks-part (block_in query 1) (cards_at cards 1) (block-cards query cards 1 cards_are (first-numbered query cards cards_are)) catalogue k.0.plan one.part);
      rows = (λ i. (cards_at cards 1).estimate (sym one.its_entries i) (sym one.its_terms i))
          ∙ sym (estimate-part catalogue query cards (block_in query 1) 1 k.0.plan (terms k.0.plan) one.part);
      few = λ rows most. subst (λ n. rows ≤ 131072 ^ count_ones n) (sym one.its_entries) most;
    }

-- fewer terms are a lesser mask
pub some-small : (count second mask : ℕ) → second < 2 ^ count → bit_and second mask < 2 ^ count
some-small count second mask small = let most : bit_and second mask ≤ second = and_le_l second mask in omega arith

pub without-small : (count second t : ℕ) → second < 2 ^ count → 1 ≤ t → t ≤ count → bit_xor second (mask_of t) < 2 ^ count
without-small count second t small some within = xor_lt count second (mask_of t) small (pow_below (t - 1) count (omega arith))

-- what is found of a search for a signature is kept
pub kept-in : (search : Search) → CanSearch search → (first second : ℕ) → second < 2 ^ length (block_of search).terms → (found : Candidate)
    → candidate_at (length (block_of search).terms) search.places.now first second ≡ Some found
    → IsKeptAt (query_in search) (cards_in search) (kept_in search) first second found
kept-in search can first second small found is =
    kept-there search.planning.catalog.now (query_in search) (cards_in search)
    (alone-are search.planning.query.now (cards_of search.planning.cards.now) search.number can.planning.cards can.number) search.places.now can.kept first second small found is
