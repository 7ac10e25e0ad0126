-- Places that are filled one after another: each keeps the least of the plans that are made of what lesser places keep. Then the last
-- place keeps the least plan.
use Rattle.std.proofs.Common.{◌≡◌, ℕ, zero, suc, ◌+◌, ◌-◌, ◌*◌, ◌^◌, ◌<◌, ◌≤◌, Bool, false, true, nat_lt, List, [], ◌∷◌, ◌++◌, length, refl, sym, ◌∙◌, ap, subst, subst₂, arith}
use Rattle.std.specs.Prelude.{Option, Some, None, option_and_then, option_map, slice_get}
use Rattle.std.proofs.lemmas.Bool.{ltb-false, ltb-true}
use Rattle.std.proofs.lemmas.List.{length-append}
use Rattle.std.proofs.lemmas.Nat.{mul-add-lt, mul-le, pow_pos, same_from_place}
use Rattle.std.proofs.Math.Nat.{mul_comm}
use Rattle.std.proofs.lemmas.Option.{none-some, same_Some, slice_get_past}
use Rattle.rs_rank.specs.Masks.{mask_of}
use Rattle.rs_catalog.specs.Catalog.{CatalogDef}
use Rattle.rs_query.specs.WellFormed.{IsBlock}
use Rattle.rs_query.specs.declared.block.Block.{Block}
use Rattle.rs_query.specs.declared.query.Query.{Query}
use Rattle.rs_query.specs.declared.query.Query.TheVariants.{One}
use Rattle.rs_sample.specs.Cards.{BlockCards}
use Rattle.rs_query.specs.Blocks.{block_in}
use Rattle.rs_plan.specs.Plans.{HasNoDistinct, IsPart}
use Rattle.rs_plan.specs.Trees.{Distinct, JoinOperator, PlanTree, Rank, RankScan, SeqScan, SetOperator, entries, terms}
use Rattle.rs_enum.specs.declared.candidate.Candidate.{Candidate}
use Rattle.rs_enum.specs.Candidates.{HasKeptChildren, IsCandidate}
use Rattle.rs_enum.specs.Costs.{cost_of}
use Rattle.rs_enum.specs.Least.{ComesNoLater}
use Rattle.rs_enum.specs.Places.{AreKept, CanBeMade, IsFilled, IsKept, IsMadeOf, IsTheFirst, KeepsFirst, Placed, kept_at, tree_at}
use Rattle.rs_enum.proofs.BitFacts.{number-apart, union-sum}
use Rattle.rs_enum.proofs.MadeFacts.{mapped}
use Rattle.rs_enum.proofs.CoveringFacts.{Covers, IsOfSignature}
use Rattle.rs_enum.proofs.StartFacts.{start-most}
use Rattle.rs_enum.proofs.WithinFacts.{entries-below, some-entry, terms-below}

-- the items before a new last one
pub front-item : {A : Type 0} (xs : List A) (x : A) (i : ℕ) → i < length xs → slice_get (xs ++ x ∷ []) i ≡ slice_get xs i
front-item [] x i less = absurd (omega arith)
front-item (y ∷ ys) x zero less = refl
front-item (y ∷ ys) x (suc i) less = front-item ys x i (omega arith)

pub last-item : {A : Type 0} (xs : List A) (x : A) → slice_get (xs ++ x ∷ []) (length xs) ≡ Some x
last-item [] x = refl
last-item (y ∷ ys) x = last-item ys x

-- the place of a lesser signature comes first
earlier-row : (size s t p q : ℕ) → s < t → p < size → s * size + p < t * size + q
earlier-row size s t p q less small =
    let product : (s + 1) * size ≤ t * size = mul-le (s + 1) size t size (omega arith) (omega arith) in
    let more : (s + 1) * size ≡ s * size + size = omega arith in
    omega arith

module _ (catalogue : CatalogDef) (block : Block) where
  -- what a plan is made of stands at earlier places
  children-kept : (kept other : ℕ → ℕ → Option PlanTree) (first second : ℕ) → second < 2 ^ length block.terms
      → ((s p : ℕ) → p < 2 ^ length block.terms → s * 2 ^ length block.terms + p < first * 2 ^ length block.terms + second → kept s p ≡ other s p)
      → (tree : PlanTree) → IsCandidate catalogue block kept first second tree → HasKeptChildren other tree
  children-kept kept other first second small same (SeqScan e) is = tt
  children-kept kept other first second small same (RankScan e t i) is = tt
  children-kept kept other first second small same (Rank t child) is =
      let less : terms child < second =
      (let sum = union-sum (terms child) (mask_of t) (number-apart (terms child) t is.part.1.absent) in
      let some : 0 < mask_of t = pow_pos (t - 1) in
      let all = is.its_terms in
      omega arith) in
      let row : entries child * 2 ^ length block.terms ≡ first * 2 ^ length block.terms = ap (λ n. n * 2 ^ length block.terms) is.its_entries in
      sym (same (entries child) (terms child) (terms-below catalogue block child is.part.0) (omega arith)) ∙ is.made
  children-kept kept other first second small same (JoinOperator kind l r) is =
      let sum = union-sum (entries l) (entries r) is.part.2.apart in
      let all = is.its_entries in
      let some_left = some-entry catalogue block l is.part.0 in
      let some_right = some-entry catalogue block r is.part.1 in
      let left_small = terms-below catalogue block l is.part.0 in
      let right_small = terms-below catalogue block r is.part.1 in (
        sym (same (entries l) (terms l) left_small (earlier-row (2 ^ length block.terms) (entries l) first (terms l) second (omega arith) left_small)) ∙ is.made.0,
        sym (same (entries r) (terms r) right_small (earlier-row (2 ^ length block.terms) (entries r) first (terms r) second (omega arith) right_small)) ∙ is.made.1,
      )
  children-kept kept other first second small same (Distinct child) is = absurd is.made
  children-kept kept other first second small same (SetOperator l r) is = absurd is.made

module _ (catalogue : CatalogDef) (query : Query) (cards : List BlockCards) where
  -- a plan that is made of places and of one more, for an earlier place, is made of them alone
  made-before : (places : List (Option Placed)) (x : Option Placed) (first second : ℕ) → second < 2 ^ length (block_in query 1).terms
      → first * 2 ^ length (block_in query 1).terms + second ≤ length places → (tree : PlanTree)
      → CanBeMade catalogue query (places ++ x ∷ []) first second tree → CanBeMade catalogue query places first second tree
  made-before places x first second small within tree is = record {
    part = is.part;
    whole = is.whole;
    its_entries = is.its_entries;
    its_terms = is.its_terms;
    made = children-kept catalogue (block_in query 1) (tree_at (length (block_in query 1).terms) (places ++ x ∷ [])) (tree_at (length (block_in query 1).terms) places) first second small
        (λ s p below less. ap (λ o. option_map (λ (k : Placed). k.plan) (option_and_then (λ (m : Option Placed). m) o))
        (front-item places x (s * 2 ^ length (block_in query 1).terms + p) (omega arith))) tree is;
  }

  module _ (places : List (Option Placed)) (x : Option Placed) (first second : ℕ) (small : second < 2 ^ length (block_in query 1).terms)
      (here : length places ≡ first * 2 ^ length (block_in query 1).terms + second) (found : Option Candidate)
      (is_first : IsTheFirst catalogue query cards places first second (6 * 256) found) (made : IsMadeOf catalogue query places first second found x)
      (filled : IsFilled catalogue query cards places) where
    -- what is kept at the new place
    kept-here : (k : Placed) → x ≡ Some k → IsKept catalogue query cards first second k
    kept-here k is = go found is_first made where
      go : (f : Option Candidate) → IsTheFirst catalogue query cards places first second (6 * 256) f → IsMadeOf catalogue query places first second f x → IsKept catalogue query cards first second k
      go None none nothing = absurd (none-some k (sym nothing ∙ is))
      go (Some f) one some =
          let same : some.kept ≡ k = same_Some some.kept k (sym some.is ∙ is) in
          let tree : k.plan ≡ one.tree = subst (λ (m : Placed). m.plan ≡ one.tree) same (some.tree one.tree one.stands.made one.stands.chosen) in
          let cost : k.cost ≡ f.cost = subst (λ (m : Placed). m.cost ≡ f.cost) same some.cost in
          record {
            part = subst (IsPart catalogue (block_in query 1)) (sym tree) one.stands.made.part;
            whole = subst HasNoDistinct (sym tree) one.stands.made.whole;
            its_entries = ap entries tree ∙ one.stands.made.its_entries;
            its_terms = ap terms tree ∙ one.stands.made.its_terms;
            cost = cost ∙ one.stands.cost ∙ ap (cost_of catalogue query cards) (sym tree);
            spare = (let own = one.stands.spare in omega arith);
          }

    same-place : (s p : ℕ) → p < 2 ^ length (block_in query 1).terms → s * 2 ^ length (block_in query 1).terms + p ≡ length places → (s ≡ first) × (p ≡ second)
    same-place s p below same = same_from_place s p first second (2 ^ length (block_in query 1).terms) below small (same ∙ here)

    kept-before : (s p : ℕ) → s * 2 ^ length (block_in query 1).terms + p < length places
        → kept_at (length (block_in query 1).terms) (places ++ x ∷ []) s p ≡ kept_at (length (block_in query 1).terms) places s p
    kept-before s p less =
        ap (λ o. option_and_then (λ (m : Option Placed). m) o) (front-item places x (s * 2 ^ length (block_in query 1).terms + p) less)

    kept-last : (s p : ℕ) → s * 2 ^ length (block_in query 1).terms + p ≡ length places
        → kept_at (length (block_in query 1).terms) (places ++ x ∷ []) s p ≡ x
    kept-last s p same =
        ap (λ i. option_and_then (λ (m : Option Placed). m) (slice_get (places ++ x ∷ []) i)) same
        ∙ ap (λ o. option_and_then (λ (m : Option Placed). m) o) (last-item places x)

    kept-past : (s p : ℕ) → length places < s * 2 ^ length (block_in query 1).terms + p
        → kept_at (length (block_in query 1).terms) (places ++ x ∷ []) s p ≡ None
    kept-past s p more =
        let all = length-append places (x ∷ []) in
        ap (λ o. option_and_then (λ (m : Option Placed). m) o) (slice_get_past (places ++ x ∷ []) (s * 2 ^ length (block_in query 1).terms + p) (omega arith))

    -- all that is kept with one place more
    kept-more : AreKept catalogue query cards (places ++ x ∷ [])
    kept-more = λ s p k below is. which s p k below is (nat_lt (s * 2 ^ length (block_in query 1).terms + p) (length places))
        (nat_lt (length places) (s * 2 ^ length (block_in query 1).terms + p)) refl refl
      where
        which : (s p : ℕ) (k : Placed) → p < 2 ^ length (block_in query 1).terms
            → kept_at (length (block_in query 1).terms) (places ++ x ∷ []) s p ≡ Some k → (less more : Bool)
            → nat_lt (s * 2 ^ length (block_in query 1).terms + p) (length places) ≡ less
            → nat_lt (length places) (s * 2 ^ length (block_in query 1).terms + p) ≡ more → IsKept catalogue query cards s p k
        which s p k below is true more less_is more_is =
            filled.kept s p k below (sym (kept-before s p (ltb-true (s * 2 ^ length (block_in query 1).terms + p) (length places) less_is)) ∙ is)
        which s p k below is false true less_is more_is =
            absurd (none-some k (sym (kept-past s p (ltb-true (length places) (s * 2 ^ length (block_in query 1).terms + p) more_is)) ∙ is))
        which s p k below is false false less_is more_is =
            let first_le = ltb-false (s * 2 ^ length (block_in query 1).terms + p) (length places) less_is in
            let second_le = ltb-false (length places) (s * 2 ^ length (block_in query 1).terms + p) more_is in
            let same : s * 2 ^ length (block_in query 1).terms + p ≡ length places = omega arith in
            let place = same-place s p below same in
            subst₂ (λ a b. IsKept catalogue query cards a b k) (sym place.0) (sym place.1) (kept-here k (sym (kept-last s p same) ∙ is))

    -- what is kept at the new place comes no later than all that are made for it
    first-here : IsBlock catalogue (block_in query 1) → (tree : PlanTree) → CanBeMade catalogue query places first second tree
        → (k : Placed) × (x ≡ Some k) × ComesNoLater catalogue query cards k.plan tree
    first-here formed tree can = go found is_first made where
      go : (f : Option Candidate) → IsTheFirst catalogue query cards places first second (6 * 256) f → IsMadeOf catalogue query places first second f x
          → (k : Placed) × (x ≡ Some k) × ComesNoLater catalogue query cards k.plan tree
      go None none nothing =
          absurd (none tree can (start-most catalogue (block_in query 1) formed (tree_at (length (block_in query 1).terms) places) first second tree can))
      go (Some f) one some = (
        some.kept,
        some.is,
        subst (λ t. ComesNoLater catalogue query cards t tree) (sym (some.tree one.tree one.stands.made one.stands.chosen))
            (one.no_later tree can (start-most catalogue (block_in query 1) formed (tree_at (length (block_in query 1).terms) places) first second tree can)),
      )

    pub filled-more : IsBlock catalogue (block_in query 1) → IsFilled catalogue query cards (places ++ x ∷ [])
    filled-more formed = record {
      kept = kept-more;
      first = λ s p tree below within can. which s p tree below within can (nat_lt (s * 2 ^ length (block_in query 1).terms + p) (length places)) refl;
    } where
      which : (s p : ℕ) (tree : PlanTree) → p < 2 ^ length (block_in query 1).terms
          → s * 2 ^ length (block_in query 1).terms + p < length (places ++ x ∷ [])
          → CanBeMade catalogue query (places ++ x ∷ []) s p tree → (less : Bool)
          → nat_lt (s * 2 ^ length (block_in query 1).terms + p) (length places) ≡ less
          → KeepsFirst catalogue query cards (places ++ x ∷ []) s p tree
      which s p tree below within can true less_is =
          let less = ltb-true (s * 2 ^ length (block_in query 1).terms + p) (length places) less_is in
          let is = filled.first s p tree below less (made-before places x s p below (omega arith) tree can) in
          record { kept = is.kept; is = kept-before s p less ∙ is.is; no_later = is.no_later }
      which s p tree below within can false less_is =
          let more = ltb-false (s * 2 ^ length (block_in query 1).terms + p) (length places) less_is in
          let all = length-append places (x ∷ []) in
          let same : s * 2 ^ length (block_in query 1).terms + p ≡ length places = omega arith in
          let place = same-place s p below same in
          let is = first-here formed tree (subst₂ (λ a b. CanBeMade catalogue query places a b tree) place.0 place.1
          (made-before places x s p below (omega arith) tree can)) in
          record { kept = is.0; is = kept-last s p same ∙ is.1; no_later = is.2 }

module _ (catalogue : CatalogDef) (block : Block) (limit : Option ℕ) (cards : List BlockCards) (formed : IsBlock catalogue block)
    (places : List (Option Placed)) (filled : IsFilled catalogue (One block limit) cards places)
    (all : length places ≡ 2 ^ length block.from * 2 ^ length block.terms) where
  pub sound : (first second : ℕ) (tree : PlanTree) → second < 2 ^ length block.terms → tree_at (length block.terms) places first second ≡ Some tree
      → IsOfSignature catalogue block first second tree
  sound first second tree small is =
      let m = mapped (λ (k : Placed). k.plan) (kept_at (length block.terms) places first second) tree is in
      let k = filled.kept first second m.0 small m.1 in
      record {
        part = subst (IsPart catalogue block) m.2 k.part;
        whole = subst HasNoDistinct m.2 k.whole;
        its_entries = sym (ap entries m.2) ∙ k.its_entries;
        its_terms = sym (ap terms m.2) ∙ k.its_terms;
      }

  pub covered : (first second : ℕ) (tree : PlanTree) → IsCandidate catalogue block (tree_at (length block.terms) places) first second tree
      → Covers catalogue block (One block limit) cards (tree_at (length block.terms) places) first second tree
  covered first second tree can =
      let small : second < 2 ^ length block.terms = subst (λ n. n < 2 ^ length block.terms) can.its_terms (terms-below catalogue block tree can.part) in
      let row : first < 2 ^ length block.from = subst (λ n. n < 2 ^ length block.from) can.its_entries (entries-below catalogue block tree can.part) in
      let within = mul-add-lt first (2 ^ length block.terms) second (2 ^ length block.from) row small in
      let turned = mul_comm (2 ^ length block.terms) (2 ^ length block.from) in
      let is = filled.first first second tree small (omega arith) can in
      record {
        found = is.kept.plan;
        is = ap (option_map (λ (k : Placed). k.plan)) is.is;
        no_later = is.no_later;
      }
