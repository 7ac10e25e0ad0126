-- The pairs of two lists of rows: which there are, and in which order they answer.
use Rattle.std.specs.Prelude.{ℕ, suc, ◌+◌, List, [], ◌∷◌, ◌++◌, map, if◌then◌else◌}
use Rattle.std.specs.Ordering.{flip_args, nat_cmp, on, then_cmp}
use Rattle.std.specs.Str.{bytes_eq}
use Rattle.std.specs.declared.cmp.Ordering.{Ordering}
use Rattle.rs_cert.specs.declared.pair.Pair.{Pair}
use Rattle.rs_feed.specs.declared.feed_row.FeedRow.{FeedRow}
use Rattle.rs_rank.specs.Stable.{stable}

-- a pair of rows with the sum of their scores, under a name that other crates can use
abbrev pub Answer : Type 0
Answer = Pair

-- the pairs of a left row with the right rows of its text; the right rows are numbered from j
abbrev pub pairs_of_row : ℕ → FeedRow → ℕ → List FeedRow → List Pair
pairs_of_row i left j [] = []
pairs_of_row i left j (right ∷ rights) =
    if bytes_eq left.join right.join
    then record { left = i; right = j; sum = left.score + right.score } ∷ pairs_of_row i left (suc j) rights
    else pairs_of_row i left (suc j) rights

-- the pairs of all rows that have the same text, by their numbers; the left rows are numbered from i
abbrev pub pairs_from : ℕ → List FeedRow → List FeedRow → List Pair
pairs_from i [] rights = []
pairs_from i (left ∷ lefts) rights = pairs_of_row i left 1 rights ++ pairs_from (suc i) lefts rights

-- the same in the stable order of their sums
abbrev pub answers : List FeedRow → List FeedRow → List Pair
answers lefts rights = stable (λ pair. pair.sum) (pairs_from 1 lefts rights)

-- their order: the greater sum comes first, at equal sums the lesser left number, and then the lesser right one
abbrev pub numbers_cmp : Pair → Pair → Ordering
numbers_cmp = then_cmp (on (λ pair. pair.left) nat_cmp) (on (λ pair. pair.right) nat_cmp)

-- the greater sum comes first, at equal sums the lesser left number, and then the lesser right one
abbrev pub pair_cmp : Pair → Pair → Ordering
pair_cmp = then_cmp (on (λ pair. pair.sum) (flip_args nat_cmp)) numbers_cmp

-- pairs without their sums
abbrev pub numbers_of : List Pair → List (ℕ × ℕ)
numbers_of pairs = map (λ pair. (pair.left, pair.right)) pairs
