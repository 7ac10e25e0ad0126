-- Choices among sampled rows.
use Rattle.std.specs.Prelude.{ℕ, ◌/◌, ◌%◌, ◌==◌, List, [], ◌∷◌, map, if◌then◌else◌}
use Rattle.std.specs.List.{flat_map}

-- each choice of a sampled row for each entry in a mask; 0 stands at the other entries. The first entry varies slowest, so the
-- choices stand in lexicographic order
abbrev pub sampled_choices : ℕ → List (List ℕ) → List (List ℕ)
sampled_choices mask [] = [] ∷ []
sampled_choices mask (sample ∷ samples) =
    flat_map (λ row. map (λ rows. row ∷ rows) (sampled_choices (mask / 2) samples)) (if mask % 2 == 0 then 0 ∷ [] else sample)
