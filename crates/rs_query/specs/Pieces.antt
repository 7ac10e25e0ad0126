-- The combinations of a block in pieces, by the rows of the first entry.
use Rattle.std.specs.Prelude.{ℕ, ◌≡◌, ◌≤◌, ◌<◌, ◌&&◌, nat_lt, nat_le, Bool, List, [], ◌∷◌}
use Rattle.std.specs.List.{AllByRecursion, filter}
use Rattle.rs_catalog.specs.Catalog.{CatalogDef}
use Rattle.rs_query.specs.declared.block.Block.{Block}
use Rattle.rs_query.specs.declared.search.Search.{Search}
use Rattle.rs_query.specs.declared.step.Step.{Step}
use Rattle.rs_query.specs.Combinations.{all_combinations}
use Rattle.rs_query.specs.Searching.{AreSteps}
use Rattle.rs_query.specs.Tables.{all_entries, row_number, size_of}

-- the row of the first entry comes behind one row, and at or before another one
abbrev pub is_between : ℕ → ℕ → List ℕ → Bool
is_between above last rows = nat_lt above (row_number rows 1) && nat_le (row_number rows 1) last

-- the combinations of all entries of which this is so
abbrev pub combinations_between : CatalogDef → Block → ℕ → ℕ → List (List ℕ)
combinations_between catalogue block above last = filter (is_between above last) (all_combinations catalogue block)

-- the range of a step has all rows of its entry
abbrev pub HasWholeRange : CatalogDef → Block → Step → Type 0
HasWholeRange catalogue block step = (row : ℕ) → 1 ≤ row → row ≤ size_of catalogue block step.entry → (step.above < row) × (row ≤ step.last)

-- steps that lead from the first entry to all; some rows of that entry are looked at, and all rows of the others
abbrev pub AreFromFirst : CatalogDef → Block → List Step → Type 0
AreFromFirst catalogue block [] = ⊥
AreFromFirst catalogue block (step ∷ steps) =
    (step.entry ≡ 1) × AreSteps catalogue block 0 (all_entries block) (step ∷ steps) × AllByRecursion (HasWholeRange catalogue block) steps

-- the same of a search
abbrev pub IsSearch : CatalogDef → Block → Search → Type 0
IsSearch catalogue block search = AreFromFirst catalogue block search.steps.items

-- steps of which the first one looks at other rows
abbrev pub with_range : ℕ → ℕ → List Step → List Step
with_range above last [] = []
with_range above last (step ∷ steps) = record step { above = above; last = last } ∷ steps

-- the first step is one to this entry
abbrev pub BeginsAt : ℕ → List Step → Type 0
BeginsAt entry [] = ⊥
BeginsAt entry (step ∷ steps) = step.entry ≡ entry
