-- What a grid says of the plans of a query.
use Rattle.std.specs.Prelude.{ℕ, ◌≡◌, ◌==◌, ◌^◌, List, [], length, nat_lt, Option, None, option_map, if◌then◌else◌}
use Rattle.rs_query.specs.declared.query.Query.{Query}
use Rattle.rs_query.specs.declared.query.Query.TheVariants.{One, Set}
use Rattle.rs_enum.specs.declared.block_grid.BlockGrid.{BlockGrid}
use Rattle.rs_enum.specs.declared.candidate.Candidate.{Candidate}
use Rattle.rs_enum.specs.declared.planning.Planning.{Planning}
use Rattle.rs_enum.specs.Given.{AreFound, AreSetFound, block_at}
use Rattle.rs_enum.specs.Places.{candidate_at}

-- how many entries and terms a block has, and the places of its plans
pub record BlockPlans : Type 0 where
  pub entries : ℕ
  pub terms : ℕ
  pub places : List (Option Candidate)

-- those of both blocks, and the places of the plans that have the set operator of both
pub record GridPlans : Type 0 where
  pub left : BlockPlans
  pub right : BlockPlans
  pub both : List (Option Candidate)

abbrev pub plans_within : BlockGrid → BlockPlans
plans_within grid = record { entries = grid.entries; terms = grid.terms; places = grid.places.items }

-- the least cost that was found in a block
abbrev pub cost_within : BlockPlans → ℕ → ℕ → Option ℕ
cost_within grid first second =
    (if nat_lt first (2 ^ grid.entries) then
    (if nat_lt second (2 ^ grid.terms) then option_map (λ (found : Candidate). found.cost) (candidate_at grid.terms grid.places first second) else None)
    else None)

-- the least cost of the plans of a signature of the block of this number, as the grid was last filled
abbrev pub cost_at : GridPlans → ℕ → ℕ → ℕ → Option ℕ
cost_at grid number first second =
    (if number == 1 then cost_within grid.left first second else (if number == 2 then cost_within grid.right first second else None))

-- the grid of a block has what was found of it
pub record IsGridOf (planning : Planning) (number : ℕ) (grid : BlockPlans) : Type 0 where
  pub entries : grid.entries ≡ length (block_at planning number).from
  pub terms : grid.terms ≡ length (block_at planning number).terms
  pub found : AreFound planning number grid.places

-- so have the grids of both blocks, and the grid has what was found of the set operator
pub record IsSetSearched (planning : Planning) (grid : GridPlans) : Type 0 where
  pub left : IsGridOf planning 1 grid.left
  pub right : IsGridOf planning 2 grid.right
  pub both : AreSetFound planning grid.left.places grid.right.places grid.both (2 ^ length (block_at planning 1).terms)

-- where there is no second block, the grid has nothing of one
pub record IsOneSearched (planning : Planning) (grid : GridPlans) : Type 0 where
  pub left : IsGridOf planning 1 grid.left
  pub empty : grid.right.places ≡ []

abbrev pub IsSearchedFor : Query → Planning → GridPlans → Type 0
IsSearchedFor (One block limit) planning grid = IsOneSearched planning grid
IsSearchedFor (Set op left right limit) planning grid = IsSetSearched planning grid

abbrev pub IsSearched : Planning → GridPlans → Type 0
IsSearched planning grid = IsSearchedFor planning.query.now planning grid
