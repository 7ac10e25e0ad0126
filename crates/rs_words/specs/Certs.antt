-- The certificate of what a join of two feeds gave.
use Rattle.std.specs.Prelude.{ℕ, ◌≡◌, ◌<◌, ◌⊎◌, true, List, length, map, take, Option, Ok}
use Rattle.rs_cert.specs.declared.cert.Cert.{Cert}
use Rattle.rs_cert.specs.declared.cert.CertSide.{CertSide}
use Rattle.rs_feed.specs.declared.feed_row.FeedRow.{FeedRow}
use Rattle.rs_feed_join.specs.declared.feed_pair.FeedPair.{FeedPair}
use Rattle.rs_feed_join.specs.Answers.{IsNext, MayBe}
use Rattle.rs_feed_join.specs.Joins.{FeedJoinState, IsAfter, IsKept, pairs_drawn}
use Rattle.rs_feed_join.specs.Sides.{FeedSide}

-- the rows that were drawn of a side
abbrev pub cert_side : FeedSide → CertSide
cert_side side = record { rows = side.rows; ended = side.ended }

-- the certificate of these pairs
abbrev pub cert_of : FeedJoinState → ℕ → List (ℕ × ℕ) → Cert
cert_of join k pairs = record { k = k; left = cert_side join.left; right = cert_side join.right; pairs = pairs }

-- pairs by the numbers of their rows
abbrev pub numbers_in : List FeedPair → List (ℕ × ℕ)
numbers_in pairs = map (λ pair. (pair.left, pair.right)) pairs

-- these are the pairs that a join gave
abbrev pub AreGiven : FeedJoinState → List (ℕ × ℕ) → Type 0
AreGiven join pairs = pairs ≡ numbers_in (take join.given (pairs_drawn join.left join.right))

-- they are as many as are wanted; or fewer, and the join said that there are no more
abbrev pub AreEnough : FeedJoinState → ℕ → List (ℕ × ℕ) → Type 0
AreEnough join k pairs = (length pairs ≡ k) ⊎ ((length pairs < k) × (join.finished ≡ true))

-- what a call of a join that gave this promises of it
pub record Gave (old new : FeedJoinState) (pair : Option FeedPair) : Type 0 where
  pub before : IsKept old
  pub kept : IsKept new
  pub after : IsAfter old new (Ok pair)
  pub next : (lefts rights : List FeedRow) → MayBe 1 lefts new.left (Ok pair) → MayBe 2 rights new.right (Ok pair) → IsNext lefts rights old.given new.left new.right (Ok pair)
