-- What choices make of what is kept, one place after another.
use Rattle.std.specs.Prelude.{ℕ, ◌≡◌, ◌<◌, ◌≤◌, ◌-◌, ◌/◌, ◌%◌, ◌^◌, List, [], ◌∷◌, ◌++◌, length, Option, Some, bit_and, bit_xor, option_map, unwrap_or}
use Rattle.rs_rank.specs.Masks.{mask_of}
use Rattle.rs_query.specs.declared.term.Term.{Term}
use Rattle.rs_plan.specs.Trees.{Distinct, Hash, JoinOperator, Nested, PlanTree, Rank, RankScan, SeqScan}
use Rattle.rs_enum.specs.declared.candidate.Candidate.{Candidate}
use Rattle.rs_enum.specs.declared.candidate.Choice.{Choice}
use Rattle.rs_enum.specs.declared.candidate.Choice.TheVariants as choice
use Rattle.rs_enum.specs.Places.{Placed, candidate_at, tree_at}
use Rattle.rs_enum.specs.Within.{terms_within}

-- the plan that is kept of a signature; the scan of the first entry where there is none
abbrev pub plan_at : ℕ → List (Option Placed) → ℕ → ℕ → PlanTree
plan_at count places first second = unwrap_or (tree_at count places first second) (SeqScan 1)

-- the plan of a signature that a choice makes of what is kept, in a block of these terms. Behind the rows of all masks of entries
-- stands one of the plans of all entries that drop duplicates
abbrev pub made_of : List Term → List (Option Placed) → ℕ → ℕ → Choice → PlanTree
made_of terms places first second (choice.SeqScan entry) = SeqScan entry
made_of terms places first second (choice.RankScan entry term index) = RankScan entry term index
made_of terms places first second (choice.Rank term) = Rank term (plan_at (length terms) places first (bit_xor second (mask_of term)))
made_of terms places first second (choice.HashJoin left) =
    JoinOperator Hash (plan_at (length terms) places left (bit_and second (terms_within left terms)))
    (plan_at (length terms) places (bit_xor first left) (bit_and second (terms_within (bit_xor first left) terms)))
made_of terms places first second (choice.NestedJoin left) =
    JoinOperator Nested (plan_at (length terms) places left (bit_and second (terms_within left terms)))
    (plan_at (length terms) places (bit_xor first left) (bit_and second (terms_within (bit_xor first left) terms)))
made_of terms places first second choice.Base = Distinct (plan_at (length terms) places (first - 1) second)

-- what is kept at the next place, by what was found for it
abbrev pub next_plan : List Term → List (Option Placed) → Option Candidate → Option Placed
next_plan terms places found =
    option_map (λ (f : Candidate). record {
      cost = f.cost;
      plan = made_of terms places (length places / 2 ^ length terms) (length places % 2 ^ length terms) f.choice;
    }) found

-- what is kept by what was found, one place after another
unfoldable pub plans_from : List Term → List (Option Placed) → List (Option Candidate) → List (Option Placed)
plans_from terms made [] = made
plans_from terms made (found ∷ rest) = plans_from terms (made ++ next_plan terms made found ∷ []) rest

unfoldable pub kept_plans : List Term → List (Option Candidate) → List (Option Placed)
kept_plans terms places = plans_from terms [] places

-- what is kept of the sides of a join of a signature, whose left side has these entries: of lesser entries
pub record AreSidesBuilt (terms : List Term) (places : List (Option Placed)) (first second left : ℕ) (l r : PlanTree) : Type 0 where
  pub left_there : tree_at (length terms) places left (bit_and second (terms_within left terms)) ≡ Some l
  pub right_there : tree_at (length terms) places (bit_xor first left) (bit_and second (terms_within (bit_xor first left) terms)) ≡ Some r
  pub left_less : left < first
  pub right_less : bit_xor first left < first

-- what is kept of fewer terms by an operator for a term
pub record IsRankBuilt (view : ℕ → Option PlanTree) (evaluated term : ℕ) (child : PlanTree) : Type 0 where
  pub there : view (bit_xor evaluated (mask_of term)) ≡ Some child
  pub less : bit_xor evaluated (mask_of term) < evaluated
  pub some : 1 ≤ term
  pub most : term ≤ 8

-- a plan is built of what is kept, as a choice says
abbrev pub IsBuiltOf : List Term → List (Option Placed) → ℕ → ℕ → Choice → PlanTree → Type 0
IsBuiltOf terms places first second (choice.SeqScan entry) plan = plan ≡ SeqScan entry
IsBuiltOf terms places first second (choice.RankScan entry term index) plan = plan ≡ RankScan entry term index
IsBuiltOf terms places first second (choice.Rank term) plan =
    (child : PlanTree) × (plan ≡ Rank term child) × IsRankBuilt (tree_at (length terms) places first) second term child
IsBuiltOf terms places first second (choice.HashJoin left) plan =
    (l : PlanTree) × (r : PlanTree) × (plan ≡ JoinOperator Hash l r) × AreSidesBuilt terms places first second left l r
IsBuiltOf terms places first second (choice.NestedJoin left) plan =
    (l : PlanTree) × (r : PlanTree) × (plan ≡ JoinOperator Nested l r) × AreSidesBuilt terms places first second left l r
IsBuiltOf terms places first second choice.Base plan =
    (child : PlanTree) × (plan ≡ Distinct child) × (tree_at (length terms) places (first - 1) second ≡ Some child) × (1 ≤ first)

-- the plan that is kept where a choice was found
pub record IsBuilt (terms : List Term) (places : List (Option Placed)) (first second : ℕ) (chosen : Choice) : Type 0 where
  pub plan : PlanTree
  pub is : tree_at (length terms) places first second ≡ Some plan
  pub built : IsBuiltOf terms places first second chosen plan

abbrev pub AreBuilt : List Term → List (Option Candidate) → Type 0
AreBuilt terms candidates =
    (first second : ℕ) (found : Candidate) → second < 2 ^ length terms → candidate_at (length terms) candidates first second ≡ Some found
    → IsBuilt terms (kept_plans terms candidates) first second found.choice
