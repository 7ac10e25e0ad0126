-- The lines that the word `feed` puts.
use Rattle.std.specs.Prelude.{ℕ, pos, List, [], ◌∷◌, ◌++◌, codes}
use Rattle.std.specs.Fmt.{decimal}
use Rattle.rs_value.specs.declared.value.Value.TheVariants.{Int, Text}
use Rattle.rs_lines.specs.Row.{line_of}
use Rattle.rs_feed_join.specs.declared.feed_pair.FeedPair.{FeedPair}
use Rattle.rs_feed_join.specs.Pairs.{sum_of}

-- a pair: its rank, the sum of both scores, the text, and both scores
abbrev pub pair_line : ℕ → FeedPair → List ℕ
pair_line rank pair = line_of rank (sum_of pair) (Text pair.join ∷ Int (pos pair.left_score) ∷ Int (pos pair.right_score) ∷ [])

-- how many draws were made on both sides
abbrev pub draws_line : ℕ → ℕ → List ℕ
draws_line left right = codes "left=" ++ decimal left ++ codes " right=" ++ decimal right ++ 10 ∷ []
