-- Combinations: the choices of a row of each of some FROM entries for which the conditions hold that speak of these entries alone.
use Rattle.std.specs.Prelude.{ℕ, zero, suc, ◌/◌, ◌%◌, ◌==◌, Bool, true, List, [], ◌∷◌, ◌++◌, map, if◌then◌else◌}
use Rattle.std.specs.List.{filter, flat_map, list_all}
use Rattle.rs_catalog.specs.Catalog.{CatalogDef}
use Rattle.rs_query.specs.declared.block.Block.{Block}
use Rattle.rs_query.specs.Conjuncts.{ConjunctDef}
use Rattle.rs_query.specs.Meaning.{conjunct_holds, is_inside}
use Rattle.rs_query.specs.Tables.{all_entries, sizes_of}

-- the row numbers from 1 to a number
abbrev pub numbers_to : ℕ → List ℕ
numbers_to zero = []
numbers_to (suc n) = numbers_to n ++ suc n ∷ []

-- each choice of a row for each entry in a mask, where the entries have this many rows; 0 stands at the other entries. The first
-- entry varies slowest, so the choices stand in lexicographic order
abbrev pub choices : ℕ → List ℕ → List (List ℕ)
choices mask [] = [] ∷ []
choices mask (size ∷ sizes) =
    flat_map (λ row. map (λ rows. row ∷ rows) (choices (mask / 2) sizes)) (if mask % 2 == 0 then 0 ∷ [] else numbers_to size)

-- whether a conjunct holds, where it speaks of entries in a mask alone
abbrev pub holds_inside : CatalogDef → Block → ℕ → List ℕ → ConjunctDef → Bool
holds_inside catalogue block mask rows conjunct = if is_inside conjunct.entries mask then conjunct_holds catalogue block rows conjunct else true

-- whether every conjunct holds that speaks of entries in a mask alone
abbrev pub satisfies : CatalogDef → Block → ℕ → List ℕ → Bool
satisfies catalogue block mask rows = list_all (holds_inside catalogue block mask rows) block.conjuncts

-- the combinations of the entries in a mask, where the entries have this many rows
abbrev pub combinations : CatalogDef → Block → List ℕ → ℕ → List (List ℕ)
combinations catalogue block sizes mask = filter (satisfies catalogue block mask) (choices mask sizes)

-- the combinations of all entries
abbrev pub all_combinations : CatalogDef → Block → List (List ℕ)
all_combinations catalogue block = combinations catalogue block (sizes_of catalogue block) (all_entries block)
