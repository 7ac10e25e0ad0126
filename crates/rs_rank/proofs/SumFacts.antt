-- The rows that keys and sums stand for.
use Rattle.std.proofs.Common.{◌≡◌, ℕ, List, sym, ◌∙◌, ap}
use Rattle.rs_order.specs.Sorting.{put}
use Rattle.rs_order.proofs.PartFacts.{put-map}
use Rattle.rs_rank.specs.declared.ids.Ids.{Ids}
use Rattle.rs_rank.specs.declared.key.Key.{Key}
use Rattle.rs_rank.specs.declared.row.RankRow.{RankRow}
use Rattle.rs_rank.specs.Keys.{key_cmp}
use Rattle.rs_rank.specs.Rows.{rows_of_sums}

-- the row of a key and a sum
abbrev pub row_with : Key → ℕ → RankRow
row_with key sum = record { ids = key.ids; sum = sum }

-- together with the key
abbrev row_of_sum : Key × ℕ → Key × RankRow
row_of_sum pair = (pair.0, row_with pair.0 pair.1)

abbrev row_key : Key × RankRow → Key
row_key pair = pair.0

abbrev sum_key : Key × ℕ → Key
sum_key pair = pair.0

-- a row whose ids are those of its key is put in where the key and its sum are
pub put-sums : (key : Key) (row : RankRow) (pairs : List (Key × ℕ)) → key.ids ≡ row.ids →
    rows_of_sums (put key_cmp sum_key (key, row.sum) pairs) ≡ put key_cmp row_key (key, row) (rows_of_sums pairs)
put-sums key row pairs ids =
    sym (put-map key_cmp row_key row_of_sum (key, row.sum) pairs)
    ∙ ap (λ (ids : Ids). put key_cmp row_key (key, record { ids = ids; sum = row.sum }) (rows_of_sums pairs)) ids
