-- The first pairs of two feeds, gathered for a certificate, and how often both feeds are drawn for them.
use Rattle.std.specs.Prelude.{ℕ, suc, ◌+◌, ◌≡◌, ◌<◌, ◌≤◌, ◌⊎◌, false, true, min, List, length, take, Option, Some, None, Result, Ok, Err, if◌then◌else◌}
use Rattle.rs_cert.specs.declared.cert.CertSide.{CertSide}
use Rattle.rs_words.specs.Certs.{numbers_in}
use Rattle.rs_feed.specs.declared.feed_row.FeedRow.{FeedRow}
use Rattle.rs_feed_join.specs.declared.fault.JoinFault.{JoinFault}
use Rattle.rs_feed_join.specs.declared.fault.JoinFault.TheVariants.{Memory}
use Rattle.rs_feed_join.specs.declared.feed_pair.FeedPair.{FeedPair}
use Rattle.rs_feed_join.specs.Answers.{HasDrawn, IsNext}
use Rattle.rs_feed_join.specs.Joins.{FeedJoinState}
use Rattle.rs_words.specs.Putting.{AreAnswered, draws_in_all, pairs_of}

-- the draws that a side of a certificate shows: one for each row, and one that said that there are no more, where the side ended
abbrev pub draws_shown : CertSide → ℕ
draws_shown side = length side.rows + (if side.ended then 1 else 0)

-- these are the pairs that were wanted, by the numbers of their rows, or all that there are, where they are fewer; and the draws are those that
-- they take, in the last case with those that show that there are no more
pub record GivesAll (lefts rights : List FeedRow) (count : ℕ) (given : List (ℕ × ℕ)) (join : FeedJoinState) : Type 0 where
  pub answered : AreAnswered lefts rights (min count (suc (length (pairs_of lefts rights))))
  pub pairs : given ≡ numbers_in (take count (pairs_of lefts rights))
  pub drawn : HasDrawn (draws_in_all lefts rights count) join.left join.right
  pub number : join.given ≡ min count (length (pairs_of lefts rights))

-- behind n pairs, of as many as are wanted, a call of the join ended with this fault
pub record StopsAtCall (lefts rights : List FeedRow) (count : ℕ) (why : JoinFault) (join : FeedJoinState) : Type 0 where
  pub n : ℕ
  pub within : n < count
  pub gave : n ≤ length (pairs_of lefts rights)
  pub answered : AreAnswered lefts rights n
  pub next : IsNext lefts rights n join.left join.right (Err why)
  pub given : join.given ≡ n
  pub broken : join.broken ≡ true

-- behind n pairs, of as many as are wanted, a call of the join gave the next one, and there was no memory for its numbers
pub record StopsAtPair (lefts rights : List FeedRow) (count : ℕ) (join : FeedJoinState) : Type 0 where
  pub n : ℕ
  pub within : n < count
  pub answered : AreAnswered lefts rights n
  pub pair : FeedPair
  pub next : IsNext lefts rights n join.left join.right (Ok (Some pair))
  pub given : join.given ≡ suc n
  pub whole : join.broken ≡ false

-- all pairs were given that were wanted, or all that there are, and there was no memory for the certificate
pub record StopsAtCert (lefts rights : List FeedRow) (count : ℕ) (join : FeedJoinState) : Type 0 where
  pub answered : AreAnswered lefts rights (min count (suc (length (pairs_of lefts rights))))
  pub drawn : HasDrawn (draws_in_all lefts rights count) join.left join.right
  pub given : join.given ≡ min count (length (pairs_of lefts rights))
  pub whole : join.broken ≡ false

-- a call of the join failed, or there was no memory for what it gave
abbrev pub StopsShort : List FeedRow → List FeedRow → ℕ → JoinFault → FeedJoinState → Type 0
StopsShort lefts rights count why join =
    StopsAtCall lefts rights count why join ⊎ ((why ≡ Memory) × (StopsAtPair lefts rights count join ⊎ StopsAtCert lefts rights count join))

-- the fault of the last call of a join, if it was one
abbrev pub last_call : {A : Type 0} → Result A JoinFault → Result (Option FeedPair) JoinFault
last_call (Ok done) = Ok None
last_call (Err why) = Err why
