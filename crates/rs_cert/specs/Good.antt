-- When a certificate proves its answer.
use Rattle.std.specs.Prelude.{ℕ, ◌≡◌, ◌<◌, ◌≤◌, ◌+◌, ◌==◌, ◌&&◌, ◌||◌, Bool, true, false, List, length, take, slice_get, Option, IfSome}
use Rattle.rs_cert.specs.declared.cert.Cert.{Cert}
use Rattle.rs_cert.specs.declared.cert.CertSide.{CertSide}
use Rattle.rs_feed.specs.declared.feed_row.FeedRow.{FeedRow}
use Rattle.rs_order.specs.Climbing.{IsNoLater}
use Rattle.rs_order.specs.Last.{last_of}
use Rattle.rs_cert.specs.declared.pair.Pair.{Pair}
use Rattle.rs_cert.specs.Pairs.{answers, numbers_of, pair_cmp}
use Rattle.rs_cert.specs.Rows.{Falls}

-- the answers of the rows of both sides, and the first of them, as many as the certificate has
abbrev pub answers_of : Cert → List Pair
answers_of cert = answers cert.left.rows cert.right.rows

abbrev pub first_answers : Cert → List Pair
first_answers cert = take (length cert.pairs) (answers_of cert)

-- no score of a side rises
pub record FallsOnBothSides (cert : Cert) : Type 0 where
  pub left : Falls cert.left.rows
  pub right : Falls cert.right.rows

-- the pairs are the first answers, and at most this many as are wanted
pub record HasFirstPairs (cert : Cert) : Type 0 where
  pub first : cert.pairs ≡ numbers_of (first_answers cert)
  pub most : length cert.pairs ≤ cert.k

-- no row can come that makes a pair: both sides ended, or one did without a row
abbrev pub ended_empty : CertSide → Bool
ended_empty side = side.ended && (length side.rows == 0)

abbrev pub no_pair_can_come : Cert → Bool
no_pair_can_come cert = (cert.left.ended && cert.right.ended) || (ended_empty cert.left || ended_empty cert.right)

-- where there are fewer pairs than are wanted, they are all, and no pair can come
pub record IsWhole (cert : Cert) : Type 0 where
  pub all : length (answers_of cert) ≡ length cert.pairs
  pub ended : no_pair_can_come cert ≡ true

abbrev pub HasEnough : Cert → Type 0
HasEnough cert = length cert.pairs < cert.k → IsWhole cert

-- the rows of these numbers as a pair, whatever their texts are
abbrev pub merged : ℕ → FeedRow → ℕ → FeedRow → Pair
merged i left j right = record { left = i; right = j; sum = left.score + right.score }

-- a pair comes at or before that of these rows
abbrev pub IsAtOrBefore : Option Pair → ℕ → Option FeedRow → ℕ → Option FeedRow → Type 0
IsAtOrBefore pair i left j right = IfSome pair (λ p. IfSome left (λ l. IfSome right (λ r. IsNoLater pair_cmp (λ key. key) p (merged i l j r))))

-- the last pair does
abbrev pub IsReached : Cert → ℕ → Option FeedRow → ℕ → Option FeedRow → Type 0
IsReached cert i left j right = IsAtOrBefore (last_of (first_answers cert)) i left j right

-- where the left side hasn't ended, the last pair comes at or before the last left row with the first right one
abbrev pub LeftIsReached : Cert → Type 0
LeftIsReached cert = cert.left.ended ≡ false
    → IsReached cert (length cert.left.rows) (last_of cert.left.rows) 1 (slice_get cert.right.rows 0)

-- where the right side hasn't ended, it comes at or before the first left row with the last right one
abbrev pub RightIsReached : Cert → Type 0
RightIsReached cert = cert.right.ended ≡ false
    → IsReached cert 1 (slice_get cert.left.rows 0) (length cert.right.rows) (last_of cert.right.rows)

-- the certificate proves its answer: scores fall on both sides; the pairs are the first answers of the rows, and no
-- more than are wanted; where they are fewer they are all, and no pair can come; and no row that wasn't drawn can make
-- a pair that comes before the last one
pub record IsGood (cert : Cert) : Type 0 where
  pub falls : FallsOnBothSides cert
  pub pairs : HasFirstPairs cert
  pub enough : HasEnough cert
  pub left : LeftIsReached cert
  pub right : RightIsReached cert
