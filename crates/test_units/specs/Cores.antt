-- The operator that the tests feed, and its rows.
use Rattle.std.specs.Prelude.{ℕ, [], ◌∷◌}
use Rattle.rs_mu.specs.Mu.{Mu, fed, new_mu}
use Rattle.rs_rank.specs.declared.row.RankRow.{RankRow}

-- a row of the first entry, by its number
abbrev pub row_of : ℕ → ℕ → RankRow
row_of number sum = record { ids = record { block = 1; mask = 1; rows = number ∷ 0 ∷ 0 ∷ 0 ∷ 0 ∷ 0 ∷ [] }; sum = sum }

-- two terms of weight 1 and at most 10, of which the first is evaluated below; no row is fed
abbrev pub new_core : Mu
new_core = new_mu (record { weight = 1 ∷ 1 ∷ 0 ∷ 0 ∷ 0 ∷ 0 ∷ 0 ∷ 0 ∷ []; max = 10 ∷ 10 ∷ 0 ∷ 0 ∷ 0 ∷ 0 ∷ 0 ∷ 0 ∷ [] }) 1 2

-- the same, which was fed two rows
abbrev pub core_of_two : Mu
core_of_two = fed (row_of 2 8) 9 (fed (row_of 1 10) 3 new_core)
