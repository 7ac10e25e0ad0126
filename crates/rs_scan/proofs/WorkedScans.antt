-- The rows of scans, worked by hand.
use Rattle.std.proofs.Common.{◌≡◌, List, [], ◌∷◌, refl}
use Rattle.rs_rank.specs.declared.scored_row.ScoredRow.{ScoredRow}
use Rattle.rs_scan.specs.Scans.{index_rows, table_rows}

-- a table of three rows at entry 2
three_rows : table_rows 1 2 3
    ≡ record { ids = record { block = 1; mask = 2; rows = 0 ∷ 1 ∷ 0 ∷ 0 ∷ 0 ∷ 0 ∷ [] }; sum = 0 }
    ∷ record { ids = record { block = 1; mask = 2; rows = 0 ∷ 2 ∷ 0 ∷ 0 ∷ 0 ∷ 0 ∷ [] }; sum = 0 }
    ∷ record { ids = record { block = 1; mask = 2; rows = 0 ∷ 3 ∷ 0 ∷ 0 ∷ 0 ∷ 0 ∷ [] }; sum = 0 } ∷ []
three_rows = refl

no_rows : table_rows 1 6 0 ≡ []
no_rows = refl

-- an index of a table of five rows
abbrev ranking : List ScoredRow
ranking =
    record { score = 9; row = 2 } ∷ record { score = 9; row = 5 } ∷ record { score = 4; row = 1 } ∷ record { score = 0; row = 3 } ∷ record { score = 0; row = 4 } ∷ []

-- all of them with the weight 3: equal scores by row, rows of score 0 too
all_rows : index_rows 2 1 3 5 ranking
    ≡ record { ids = record { block = 2; mask = 1; rows = 2 ∷ 0 ∷ 0 ∷ 0 ∷ 0 ∷ 0 ∷ [] }; sum = 27 }
    ∷ record { ids = record { block = 2; mask = 1; rows = 5 ∷ 0 ∷ 0 ∷ 0 ∷ 0 ∷ 0 ∷ [] }; sum = 27 }
    ∷ record { ids = record { block = 2; mask = 1; rows = 1 ∷ 0 ∷ 0 ∷ 0 ∷ 0 ∷ 0 ∷ [] }; sum = 12 }
    ∷ record { ids = record { block = 2; mask = 1; rows = 3 ∷ 0 ∷ 0 ∷ 0 ∷ 0 ∷ 0 ∷ [] }; sum = 0 }
    ∷ record { ids = record { block = 2; mask = 1; rows = 4 ∷ 0 ∷ 0 ∷ 0 ∷ 0 ∷ 0 ∷ [] }; sum = 0 } ∷ []
all_rows = refl

-- in a view of three rows the others are passed over
first_rows : index_rows 2 1 3 3 ranking
    ≡ record { ids = record { block = 2; mask = 1; rows = 2 ∷ 0 ∷ 0 ∷ 0 ∷ 0 ∷ 0 ∷ [] }; sum = 27 }
    ∷ record { ids = record { block = 2; mask = 1; rows = 1 ∷ 0 ∷ 0 ∷ 0 ∷ 0 ∷ 0 ∷ [] }; sum = 12 }
    ∷ record { ids = record { block = 2; mask = 1; rows = 3 ∷ 0 ∷ 0 ∷ 0 ∷ 0 ∷ 0 ∷ [] }; sum = 0 } ∷ []
first_rows = refl
