-- The pairs that a certificate claims, with the sums of their rows.
use Rattle.std.specs.Prelude.{ℕ, zero, suc, ◌+◌, ◌≡◌, Bool, true, false, List, map, Option, Some, None, slice_get}
use Rattle.std.specs.List.{AllByRecursion}
use Rattle.std.specs.Ordering.{is_lt}
use Rattle.std.specs.Str.{bytes_eq}
use Rattle.rs_cert.specs.declared.claim.Claim.{Claim}
use Rattle.rs_cert.specs.declared.claim.Claim.TheVariants.{InOrder, OutOfOrder}
use Rattle.rs_cert.specs.declared.pair.Pair.{Pair}
use Rattle.rs_feed.specs.declared.feed_row.FeedRow.{FeedRow}
use Rattle.rs_order.specs.Climbing.{Climbs}
use Rattle.rs_order.specs.Last.{last_of}
use Rattle.rs_cert.specs.Pairs.{pair_cmp}

-- the row of a number, from 1
abbrev pub row_of : List FeedRow → ℕ → Option FeedRow
row_of rows zero = None
row_of rows (suc place) = slice_get rows place

-- its score; a number that is none has no score
abbrev pub score_of : Option FeedRow → ℕ
score_of None = 0
score_of (Some row) = row.score

-- the pair of these numbers
abbrev pub claimed_pair : List FeedRow → List FeedRow → ℕ × ℕ → Pair
claimed_pair lefts rights numbers =
    record { left = numbers.0; right = numbers.1; sum = score_of (row_of lefts numbers.0) + score_of (row_of rights numbers.1) }

abbrev pub claimed : List FeedRow → List FeedRow → List (ℕ × ℕ) → List Pair
claimed lefts rights pairs = map (claimed_pair lefts rights) pairs

-- both rows are there and have the same text
abbrev pub same_text : Option FeedRow → Option FeedRow → Bool
same_text None right = false
same_text (Some left) None = false
same_text (Some left) (Some right) = bytes_eq left.join right.join

abbrev pub is_pair : List FeedRow → List FeedRow → Pair → Bool
is_pair lefts rights pair = same_text (row_of lefts pair.left) (row_of rights pair.right)

-- all are pairs of rows with the same text, each strictly behind the one in front of it
pub record AreInOrder (lefts rights : List FeedRow) (pairs : List Pair) : Type 0 where
  pub are : AllByRecursion (λ pair. is_pair lefts rights pair ≡ true) pairs
  pub climb : Climbs pair_cmp (λ pair. pair) pairs

-- a pair comes strictly behind another one, if there is one
abbrev pub comes_behind : Option Pair → Pair → Bool
comes_behind None pair = true
comes_behind (Some before) pair = is_lt (pair_cmp before pair)

-- what is known of claimed pairs
abbrev pub IsClaim : List FeedRow → List FeedRow → List Pair → Claim → Type 0
IsClaim lefts rights pairs (InOrder last) = AreInOrder lefts rights pairs × (last ≡ last_of pairs)
IsClaim lefts rights pairs OutOfOrder = ¬ AreInOrder lefts rights pairs
