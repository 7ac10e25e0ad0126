-- The order of keys.
use Rattle.std.specs.Prelude.{◌≡◌, false}
use Rattle.std.specs.Ordering.{flip_args, is_gt, nat_cmp, on, then_cmp}
use Rattle.std.specs.Cmp.Lexicographic.{slice_cmp}
use Rattle.std.specs.declared.cmp.Ordering.{Ordering}
use Rattle.std.specs.declared.cmp.Ordering.TheVariants.{Less, Equal}
use Rattle.rs_rank.specs.declared.ids.Ids.{Ids}
use Rattle.rs_rank.specs.declared.key.Key.{Key}

-- the lesser block comes first; in one block the lesser row numbers, entry by entry
abbrev pub ids_cmp : Ids → Ids → Ordering
ids_cmp = then_cmp (on (λ ids. ids.block) nat_cmp) (on (λ ids. ids.rows) (slice_cmp nat_cmp))

-- the greater bound comes first; at equal bounds the ids decide: the lesser block, and then the row numbers in order
abbrev pub key_cmp : Key → Key → Ordering
key_cmp = then_cmp (flip_args (on (λ key. key.bound) nat_cmp)) (on (λ key. key.ids) ids_cmp)

-- a key comes strictly before another one
abbrev pub IsBefore : Key → Key → Type 0
IsBefore key other = key_cmp key other ≡ Less

-- a key comes at or before another one
abbrev pub IsAtOrBefore : Key → Key → Type 0
IsAtOrBefore key other = is_gt (key_cmp key other) ≡ false

-- two keys are equal
abbrev pub IsTied : Key → Key → Type 0
IsTied key other = key_cmp key other ≡ Equal
