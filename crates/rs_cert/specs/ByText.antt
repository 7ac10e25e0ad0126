-- The rows of a side by their texts.
use Rattle.std.specs.Prelude.{ℕ, suc, ◌∷◌, List, [], Option, Some, None, if◌then◌else◌}
use Rattle.std.specs.BTreeMap.{get}
use Rattle.std.specs.Cmp.Lexicographic.{slice_cmp}
use Rattle.std.specs.Ordering.{nat_cmp}
use Rattle.std.specs.Str.{bytes_eq}
use Rattle.std.specs.declared.alloc.Global.{Global}
use Rattle.std.specs.declared.vec.Vec.{Vec}
use Rattle.std.specs.declared.collections.BTreeMap.{BTreeMap}
use Rattle.rs_feed.specs.declared.feed_row.FeedRow.{FeedRow}

-- the numbers of the rows with this text; the rows are numbered from n
abbrev pub numbers_with : List ℕ → ℕ → List FeedRow → List ℕ
numbers_with text n [] = []
numbers_with text n (row ∷ rows) = if bytes_eq text row.join then n ∷ numbers_with text (suc n) rows else numbers_with text (suc n) rows

-- the numbers that a map has of a text, none where it hasn't the text
abbrev pub numbers_or_none : Option (Vec ℕ Global) → List ℕ
numbers_or_none None = []
numbers_or_none (Some numbers) = numbers.items

abbrev pub numbers_in : BTreeMap (List ℕ) (Vec ℕ Global) Global → List ℕ → List ℕ
numbers_in map text = numbers_or_none (get (slice_cmp nat_cmp) map text)
