-- The rows that keys stand for.
use Rattle.std.proofs.Common.{◌≡◌, false, ◌||◌, List, [], ◌∷◌, drop, Option, refl, sym, ◌∙◌, ap}
use Rattle.std.specs.Prelude.{⊤, slice_get}
use Rattle.std.proofs.lemmas.List.{drop-map}
use Rattle.std.proofs.lemmas.Option.{slice_get-map}
use Rattle.std.specs.List.{AllByRecursion}
use Rattle.std.specs.Option.{option_map}
use Rattle.std.specs.Ordering.{is_eq}
use Rattle.std.specs.declared.cmp.Ordering.TheVariants.{Less, Equal, Greater}
use Rattle.rs_order.specs.Sorting.{put}
use Rattle.rs_order.proofs.PartFacts.{put-map}
use Rattle.rs_queue.specs.Queue.{has_key}
use Rattle.rs_rank.specs.declared.key.Key.{Key}
use Rattle.rs_rank.specs.declared.row.RankRow.{RankRow}
use Rattle.rs_rank.specs.Ids.{AreOtherIds}
use Rattle.rs_rank.specs.Keys.{key_cmp}
use Rattle.rs_rank.proofs.OrderFacts.{IsTied-parts}
use Rattle.rs_ta.specs.Depths.{row_key}
use Rattle.rs_ta.specs.Rounds.{is_reached, reaches, row_of_key, rows_of_keys}

abbrev row_of_pair : Key × ⊤ → RankRow
row_of_pair pair = row_of_key pair.0

abbrev own_key : Key × ⊤ → Key
own_key pair = pair.0

-- keys of other ids aren't equal
other_ids-apart : (key other : Key) → AreOtherIds key.ids other.ids → is_eq (key_cmp key other) ≡ false
other_ids-apart key other differ =
    (elim (key_cmp key other) as (λ o. key_cmp key other ≡ o → is_eq o ≡ false) [
      | Less ↦ λ e. refl
      | Equal ↦ λ e. let parts = IsTied-parts key other e in absurd (differ parts.1 parts.2)
      | Greater ↦ λ e. refl
    ]) refl

-- no key stands for a row of other ids than all of theirs
pub has_key-other : (key : Key) (pairs : List (Key × ⊤)) → AllByRecursion (λ (row : RankRow). AreOtherIds row.ids key.ids) (rows_of_keys pairs) → has_key key_cmp key pairs ≡ false
has_key-other key [] all = refl
has_key-other key (pair ∷ rest) all = ap (λ b. b || has_key key_cmp key rest) (other_ids-apart pair.0 key all.0) ∙ has_key-other key rest all.1

-- a row is put in where its key is
pub put-rows : (key : Key) (pairs : List (Key × ⊤)) → rows_of_keys (put key_cmp own_key (key, tt) pairs) ≡ put key_cmp row_key (row_of_key key) (rows_of_keys pairs)
put-rows key pairs = sym (put-map key_cmp row_key row_of_pair (key, tt) pairs)

-- the first row, and those behind it
pub first-rows : (pairs : List (Key × ⊤)) → slice_get (rows_of_keys pairs) 0 ≡ option_map row_of_pair (slice_get pairs 0)
first-rows pairs = slice_get-map row_of_pair pairs 0

pub drop-rows : (pairs : List (Key × ⊤)) → rows_of_keys (drop 1 pairs) ≡ drop 1 (rows_of_keys pairs)
drop-rows pairs = sym (drop-map row_of_pair 1 pairs)

-- the first key tells whether the first row is reached
pub reached-rows : (last : Option Key) (pairs : List (Key × ⊤)) → is_reached last (rows_of_keys pairs) ≡ reaches last (option_map own_key (slice_get pairs 0))
reached-rows last [] = refl
reached-rows last (pair ∷ rest) = refl
