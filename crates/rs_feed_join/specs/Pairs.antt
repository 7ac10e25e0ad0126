-- The pairs of two lists of rows: which there are, and in which order they are given.
use Rattle.std.specs.Prelude.{ℕ, suc, ◌+◌, List, [], ◌∷◌, ◌++◌, if◌then◌else◌}
use Rattle.std.specs.Ordering.{flip_args, nat_cmp, on, then_cmp}
use Rattle.std.specs.Str.{bytes_eq}
use Rattle.std.specs.declared.cmp.Ordering.{Ordering}
use Rattle.rs_feed.specs.declared.feed_row.FeedRow.{FeedRow}
use Rattle.rs_feed_join.specs.declared.feed_pair.FeedPair.{FeedPair}
use Rattle.rs_rank.specs.Stable.{stable}

-- two rows by their numbers, from 1
abbrev pub pair_of : ℕ → FeedRow → ℕ → FeedRow → FeedPair
pair_of i left j right = record { left = i; right = j; join = left.join; left_score = left.score; right_score = right.score }

-- the pairs of a left row with the right rows of its text; the right rows are numbered from j
abbrev pub pairs_of_row : ℕ → FeedRow → ℕ → List FeedRow → List FeedPair
pairs_of_row i left j [] = []
pairs_of_row i left j (right ∷ rights) =
    if bytes_eq left.join right.join
    then pair_of i left j right ∷ pairs_of_row i left (suc j) rights
    else pairs_of_row i left (suc j) rights

-- the pairs of all rows that have the same text, by their numbers; the left rows are numbered from i
abbrev pub pairs_from : ℕ → List FeedRow → List FeedRow → List FeedPair
pairs_from i [] rights = []
pairs_from i (left ∷ lefts) rights = pairs_of_row i left 1 rights ++ pairs_from (suc i) lefts rights

abbrev pub sum_of : FeedPair → ℕ
sum_of pair = pair.left_score + pair.right_score

-- the same in the stable order of their sums
abbrev pub joined_pairs : List FeedRow → List FeedRow → List FeedPair
joined_pairs lefts rights = stable sum_of (pairs_from 1 lefts rights)

-- this order: the greater sum comes first, at equal sums the lesser left number, and then the lesser right one
abbrev pub pair_cmp : FeedPair → FeedPair → Ordering
pair_cmp = then_cmp (on sum_of (flip_args nat_cmp)) (then_cmp (on (λ pair. pair.left) nat_cmp) (on (λ pair. pair.right) nat_cmp))
