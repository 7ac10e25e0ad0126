-- Numbers of sampled rows, scaled up to whole tables.
use Rattle.std.specs.Prelude.{ℕ, ◌*◌, ◌/◌, ◌%◌, ◌^◌, ◌==◌, List, [], ◌∷◌, count_ones, get_or, length, map, if◌then◌else◌}
use Rattle.std.specs.Int.{div_ceil}

-- the product of the numbers of the entries in a mask
abbrev pub product_inside : ℕ → List ℕ → ℕ
product_inside mask [] = 1
product_inside mask (number ∷ numbers) = (if mask % 2 == 0 then 1 else number) * product_inside (mask / 2) numbers

-- how many of the combinations of the entries in a mask are expected, where this many were counted among the samples: the count times
-- the numbers of rows, divided by the sample sizes, rounded up. It is 0 where a table is empty, since nothing is counted then
abbrev pub expected : ℕ → List ℕ → List (List ℕ) → ℕ → ℕ
expected mask sizes samples count = div_ceil (count * product_inside mask sizes) (product_inside mask (map length samples))

-- the most combinations of the entries in a mask: a table has at most 131,072 rows
abbrev pub most_expected : ℕ → ℕ
most_expected mask = 131072 ^ count_ones mask

-- the number that stands in a grid at two masks, or 0
abbrev pub number_at : List (List ℕ) → ℕ → ℕ → ℕ
number_at grid mask terms = get_or (get_or grid mask []) terms 0
