-- What is kept by choices: it grows as choices are added, costs what was found, and is what each choice was found for.
use Rattle.std.proofs.Common.{◌≡◌, ◌∙◌, ℕ, ◌+◌, ◌*◌, ◌/◌, ◌%◌, ◌^◌, List, [], ◌∷◌, ◌++◌, length, map, refl, sym, ap, arith, bit_and, bit_xor, append_assoc}
use Rattle.std.specs.Prelude.{Option, Some, None, option_and_then, option_map, slice_get, unwrap_or}
use Rattle.std.proofs.lemmas.List.{append-nil, length-append, map-append}
use Rattle.std.proofs.lemmas.Option.{same_Some, slice_get-map}
use Rattle.rs_rank.specs.Masks.{mask_of}
use Rattle.rs_catalog.specs.Catalog.{CatalogDef}
use Rattle.rs_query.specs.WellFormed.{IsBlock}
use Rattle.rs_query.specs.declared.query.Query.{Query}
use Rattle.rs_query.specs.declared.term.Term.{Term}
use Rattle.rs_query.specs.Blocks.{block_in}
use Rattle.rs_plan.specs.Trees.{Distinct, Hash, JoinKind, JoinOperator, Nested, PlanTree, Rank, RankScan, SeqScan, SetOperator, entries, terms}
use Rattle.rs_enum.specs.declared.candidate.Candidate.{Candidate}
use Rattle.rs_enum.specs.declared.candidate.Choice.{Choice}
use Rattle.rs_enum.specs.declared.candidate.Choice.TheVariants as choice
use Rattle.rs_enum.specs.Made.{kept_plans, made_of, next_plan, plan_at, plans_from}
use Rattle.rs_enum.specs.Places.{CanBeMade, IsMadeOf, Placed, candidate_at, choice_of, kept_at, tree_at}
use Rattle.rs_enum.specs.Within.{terms_within}
use Rattle.rs_enum.proofs.BitFacts.{left-of-union, left-without, number-apart}
use Rattle.rs_enum.proofs.WithinFacts.{left-terms, right-terms}

-- what is mapped is there
pub mapped : {A B : Type 0} (f : A → B) (o : Option A) (y : B) → option_map f o ≡ Some y → (x : A) × (o ≡ Some x) × (f x ≡ y)
mapped f (Some x) y is = (x, refl, same_Some (f x) y is)
mapped f None y is = absurd (let no : None ≡ Some y = is in cc)

-- and nothing where nothing is mapped
pub unmapped : {A B : Type 0} (f : A → B) (o : Option A) → option_map f o ≡ None → o ≡ None
unmapped f (Some x) is = absurd (let no : Some (f x) ≡ None = is in cc)
unmapped f None is = refl

at-mapped : {A B : Type 0} (f : A → B) (xs : List (Option A)) (i : ℕ)
    → option_and_then (λ (o : Option B). o) (slice_get (map (option_map f) xs) i) ≡ option_map f (option_and_then (λ (o : Option A). o) (slice_get xs i))
at-mapped {A} {B} f xs i = ap (λ o. option_and_then (λ (p : Option B). p) o) (slice_get-map (option_map f) xs i) ∙ go (slice_get xs i) where
  go : (o : Option (Option A)) → option_and_then (λ (p : Option B). p) (option_map (option_map f) o) ≡ option_map f (option_and_then (λ (p : Option A). p) o)
  go (Some x) = refl
  go None = refl

abbrev pub kept_cost : Option Placed → Option ℕ
kept_cost = option_map (λ (k : Placed). k.cost)

abbrev pub found_cost : Option Candidate → Option ℕ
found_cost = option_map (λ (f : Candidate). f.cost)

module _ (terms : List Term) where
  plans_from-more : (made : List (Option Placed)) (xs : List (Option Candidate)) (x : Option Candidate)
      → plans_from terms made (xs ++ x ∷ []) ≡ plans_from terms made xs ++ next_plan terms (plans_from terms made xs) x ∷ []
  unfolding plans_from
  plans_from-more made [] x = refl
  plans_from-more made (y ∷ ys) x = plans_from-more (made ++ next_plan terms made y ∷ []) ys x

  plans_from-length : (made : List (Option Placed)) (xs : List (Option Candidate)) → length (plans_from terms made xs) ≡ length made + length xs
  unfolding plans_from
  plans_from-length made [] = omega arith
  plans_from-length made (y ∷ ys) =
      let more = plans_from-length (made ++ next_plan terms made y ∷ []) ys in
      let one = length-append made (next_plan terms made y ∷ []) in
      omega arith

  next-cost : (made : List (Option Placed)) (x : Option Candidate) → kept_cost (next_plan terms made x) ≡ found_cost x
  next-cost made (Some f) = refl
  next-cost made None = refl

  plans_from-costs : (made : List (Option Placed)) (xs : List (Option Candidate))
      → map kept_cost (plans_from terms made xs) ≡ map kept_cost made ++ map found_cost xs
  unfolding plans_from
  plans_from-costs made [] = sym (append-nil (map kept_cost made))
  plans_from-costs made (y ∷ ys) =
      plans_from-costs (made ++ next_plan terms made y ∷ []) ys
      ∙ ap (λ (front : List (Option ℕ)). front ++ map found_cost ys)
      (map-append kept_cost made (next_plan terms made y ∷ []) ∙ ap (λ (o : Option ℕ). map kept_cost made ++ o ∷ []) (next-cost made y))
      ∙ append_assoc (map kept_cost made) (found_cost y ∷ []) (map found_cost ys)

  -- one more is found
  pub kept-more : (xs : List (Option Candidate)) (x : Option Candidate)
      → kept_plans terms (xs ++ x ∷ []) ≡ kept_plans terms xs ++ next_plan terms (kept_plans terms xs) x ∷ []
  unfolding kept_plans
  kept-more xs x = plans_from-more [] xs x

  pub kept-none : kept_plans terms [] ≡ []
  unfolding kept_plans plans_from
  kept-none = refl

  pub kept-length : (xs : List (Option Candidate)) → length (kept_plans terms xs) ≡ length xs
  unfolding kept_plans
  kept-length xs = plans_from-length [] xs ∙ omega arith

  pub costs-same : (xs : List (Option Candidate)) (first second : ℕ)
      → kept_cost (kept_at (length terms) (kept_plans terms xs) first second) ≡ found_cost (candidate_at (length terms) xs first second)
  unfolding kept_plans
  costs-same xs first second =
      let place = first * 2 ^ length terms + second in
      sym (at-mapped (λ (k : Placed). k.cost) (plans_from terms [] xs) place)
      ∙ ap (λ (costs : List (Option ℕ)). option_and_then (λ (o : Option ℕ). o) (slice_get costs place)) (plans_from-costs [] xs)
      ∙ at-mapped (λ (f : Candidate). f.cost) xs place

  -- what is found is kept at its cost, and else nothing is
  pub kept-found : (xs : List (Option Candidate)) (first second : ℕ) (found : Candidate) → candidate_at (length terms) xs first second ≡ Some found
      → (k : Placed) × (kept_at (length terms) (kept_plans terms xs) first second ≡ Some k) × (k.cost ≡ found.cost)
  kept-found xs first second found is =
      mapped (λ (k : Placed). k.cost) (kept_at (length terms) (kept_plans terms xs) first second) found.cost (costs-same xs first second ∙ ap found_cost is)

  pub kept-missing : (xs : List (Option Candidate)) (first second : ℕ) → candidate_at (length terms) xs first second ≡ None
      → kept_at (length terms) (kept_plans terms xs) first second ≡ None
  kept-missing xs first second is =
      unmapped (λ (k : Placed). k.cost) (kept_at (length terms) (kept_plans terms xs) first second) (costs-same xs first second ∙ ap found_cost is)

-- the plan that is kept
plan-there : (count : ℕ) (places : List (Option Placed)) (first second s p : ℕ) (tree : PlanTree) → s ≡ first → p ≡ second
    → tree_at count places s p ≡ Some tree → plan_at count places first second ≡ tree
plan-there count places first second s p tree rows columns is =
    (λ i. plan_at count places (sym rows i) (sym columns i)) ∙ ap (λ (o : Option PlanTree). unwrap_or o (SeqScan 1)) is

module _ (catalogue : CatalogDef) (query : Query) (formed : IsBlock catalogue (block_in query 1)) (places : List (Option Placed)) (first second : ℕ) where
  left-made : (kind : JoinKind) (l r : PlanTree) → CanBeMade catalogue query places first second (JoinOperator kind l r)
      → plan_at (length (block_in query 1).terms) places (entries l) (bit_and second (terms_within (entries l) (block_in query 1).terms)) ≡ l
  left-made kind l r x =
      plan-there (length (block_in query 1).terms) places (entries l) (bit_and second (terms_within (entries l) (block_in query 1).terms)) (entries l) (terms l) l refl
      (sym (left-terms catalogue (block_in query 1) formed l r x.part.0 x.part.1 x.part.2.apart)
      ∙ (λ i. bit_and (x.its_terms i) (terms_within (entries l) (block_in query 1).terms))) x.made.0

  right-made : (kind : JoinKind) (l r : PlanTree) → CanBeMade catalogue query places first second (JoinOperator kind l r)
      → plan_at (length (block_in query 1).terms) places (bit_xor first (entries l)) (bit_and second (terms_within (bit_xor first (entries l)) (block_in query 1).terms)) ≡ r
  right-made kind l r x =
      let right : entries r ≡ bit_xor first (entries l) =
      sym (left-of-union (entries l) (entries r) x.part.2.apart) ∙ (λ i. bit_xor (x.its_entries i) (entries l)) in
      plan-there (length (block_in query 1).terms) places (bit_xor first (entries l)) (bit_and second (terms_within (bit_xor first (entries l)) (block_in query 1).terms))
      (entries r) (terms r) r right
      (sym (right-terms catalogue (block_in query 1) formed l r x.part.0 x.part.1 x.part.2.apart)
      ∙ (λ i. bit_and (x.its_terms i) (terms_within (right i) (block_in query 1).terms))) x.made.1

  -- a choice makes each plan that it was found for
  pub chosen-made : (tree : PlanTree) → CanBeMade catalogue query places first second tree → (chosen : Choice) → choice_of tree ≡ Some chosen
      → made_of (block_in query 1).terms places first second chosen ≡ tree
  chosen-made (SeqScan e) x chosen is =
      ap (made_of (block_in query 1).terms places first second) (sym (same_Some (choice.SeqScan e) chosen is))
  chosen-made (RankScan e t i) x chosen is =
      ap (made_of (block_in query 1).terms places first second) (sym (same_Some (choice.RankScan e t i) chosen is))
  chosen-made (Rank t child) x chosen is =
      let below : terms child ≡ bit_xor second (mask_of t) =
      sym (left-without (terms child) (mask_of t) (number-apart (terms child) t x.part.1.absent)) ∙ ap (λ m. bit_xor m (mask_of t)) x.its_terms in
      ap (made_of (block_in query 1).terms places first second) (sym (same_Some (choice.Rank t) chosen is))
      ∙ ap (Rank t) (plan-there (length (block_in query 1).terms) places first (bit_xor second (mask_of t)) (entries child) (terms child) child x.its_entries below x.made)
  chosen-made (JoinOperator Hash l r) x chosen is =
      ap (made_of (block_in query 1).terms places first second) (sym (same_Some (choice.HashJoin (entries l)) chosen is))
      ∙ (λ i. JoinOperator Hash (left-made Hash l r x i) (right-made Hash l r x i))
  chosen-made (JoinOperator Nested l r) x chosen is =
      ap (made_of (block_in query 1).terms places first second) (sym (same_Some (choice.NestedJoin (entries l)) chosen is))
      ∙ (λ i. JoinOperator Nested (left-made Nested l r x i) (right-made Nested l r x i))
  chosen-made (Distinct child) x chosen is = absurd x.made
  chosen-made (SetOperator l r) x chosen is = absurd x.made

  -- so what is kept at the next place is a plan that its candidate stands for
  pub next-made : (found : Option Candidate) → length places / 2 ^ length (block_in query 1).terms ≡ first → length places % 2 ^ length (block_in query 1).terms ≡ second
      → IsMadeOf catalogue query places first second found (next_plan (block_in query 1).terms places found)
  next-made None row column = refl
  next-made (Some f) row column = record {
    kept = record {
      cost = f.cost;
      plan = made_of (block_in query 1).terms places (length places / 2 ^ length (block_in query 1).terms) (length places % 2 ^ length (block_in query 1).terms) f.choice;
    };
    is = refl;
    cost = refl;
    tree = λ tree can chosen. (λ i. made_of (block_in query 1).terms places (row i) (column i) f.choice) ∙ chosen-made tree can f.choice chosen;
  }
