-- The combinations that new rows make.
use Rattle.std.specs.Prelude.{ℕ, ◌||◌, nat_lt, Bool, false, List, [], ◌∷◌}
use Rattle.std.specs.List.{filter}
use Rattle.rs_catalog.specs.Catalog.{CatalogDef}
use Rattle.rs_query.specs.Combinations.{combinations}
use Rattle.rs_query.specs.Tables.{all_entries}
use Rattle.rs_query.specs.declared.block.Block.{Block}

-- whether some entry's row is behind those that an old view has of it
abbrev pub has_new_row : List ℕ → List ℕ → Bool
has_new_row [] rows = false
has_new_row (size ∷ old) [] = false
has_new_row (size ∷ old) (row ∷ rows) = nat_lt size row || has_new_row old rows

-- the combinations of all entries, where these have this many rows, in which some row is behind those of an old view
abbrev pub fresh_combinations : CatalogDef → Block → List ℕ → List ℕ → List (List ℕ)
fresh_combinations catalogue block old sizes = filter (has_new_row old) (combinations catalogue block sizes (all_entries block))
