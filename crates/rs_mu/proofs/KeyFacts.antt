-- The rows that keys stand for.
use Rattle.std.proofs.Common.{◌≡◌, ℕ, ◌+◌, ◌-◌, ◌≤◌, List, sym, ◌∙◌, ap, arith}
use Rattle.std.specs.Prelude.{⊤}
use Rattle.rs_order.specs.Sorting.{put}
use Rattle.rs_order.proofs.PartFacts.{put-map}
use Rattle.rs_order.proofs.SortingFacts.{each-put}
use Rattle.rs_rank.specs.declared.key.Key.{Key}
use Rattle.rs_rank.specs.declared.row.RankRow.{RankRow}
use Rattle.rs_rank.specs.Keys.{key_cmp}
use Rattle.rs_mu.specs.Mu.{HaveRest, rows_of_keys}

-- the row that a key stands for
abbrev pub row_without : ℕ → Key → ⊤ → RankRow
row_without rest key nothing = record { ids = key.ids; sum = key.bound - rest }

-- together with the key
abbrev row_of_key : ℕ → Key × ⊤ → Key × RankRow
row_of_key rest pair = (pair.0, row_without rest pair.0 pair.1)

abbrev row_key : Key × RankRow → Key
row_key pair = pair.0

abbrev own_key : Key × ⊤ → Key
own_key pair = pair.0

-- the key of a row, with a rest
abbrev key_with : ℕ → RankRow → Key
key_with rest row = record { bound = row.sum + rest; ids = row.ids }

-- the key of a row stands for the row
row_of_key-own : (rest : ℕ) (key : Key) (row : RankRow) → key ≡ key_with rest row → row_of_key rest (key, tt) ≡ (key, row)
row_of_key-own rest key row is =
    let same : row.sum + rest - rest ≡ row.sum = omega arith in
    ap (λ (own : Key). (key, row_without rest own tt)) is ∙ ap (λ (sum : ℕ). (key, record { ids = row.ids; sum = sum })) same

-- a row is put in where its key is
pub put-keys : (rest : ℕ) (key : Key) (row : RankRow) (pairs : List (Key × ⊤)) → key ≡ key_with rest row →
    rows_of_keys rest (put key_cmp own_key (key, tt) pairs) ≡ put key_cmp row_key (key, row) (rows_of_keys rest pairs)
put-keys rest key row pairs is =
    sym (put-map key_cmp row_key (row_of_key rest) (key, tt) pairs)
    ∙ ap (λ pair. put key_cmp row_key pair (rows_of_keys rest pairs)) (row_of_key-own rest key row is)

-- and each key still has the rest in its bound
pub HaveRest-put : (rest : ℕ) (key : Key) (row : RankRow) (pairs : List (Key × ⊤)) → key ≡ key_with rest row → HaveRest rest pairs → HaveRest rest (put key_cmp own_key (key, tt) pairs)
HaveRest-put rest key row pairs is all =
    let bound : key.bound ≡ row.sum + rest = ap (λ (key : Key). key.bound) is in
    each-put key_cmp own_key (λ pair. rest ≤ pair.0.bound) (key, tt) pairs (omega arith) all
