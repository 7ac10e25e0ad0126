-- The word `cert`: the certificate of the first pairs of the join of two feeds.
use Rattle.std.specs.Prelude.{ℕ, zero, suc, ◌≡◌, ◌⊎◌, nat_lt, List, [], ◌∷◌, length, take, Option, Some, None, Result, Ok, Err, if◌then◌else◌}
use Rattle.rs_value.specs.Results.{◌>>=◌}
use Rattle.rs_cert.specs.declared.cert.Cert.{Cert}
use Rattle.rs_cert.specs.declared.cert.CertSide.{CertSide}
use Rattle.rs_cert.specs.Records.{most_rows}
use Rattle.rs_cert.specs.Written.{written}
use Rattle.rs_words.specs.Certs.{numbers_in}
use Rattle.rs_feed.specs.declared.feed_row.FeedRow.{FeedRow}
use Rattle.rs_feed_join.specs.declared.fault.JoinFault.{JoinFault}
use Rattle.rs_feed_join.specs.declared.feed_pair.FeedPair.{FeedPair}
use Rattle.rs_feed_join.specs.Answers.{asks_of_cuts, next_answer}
use Rattle.rs_feed_join.specs.Cuts.{cut}
use Rattle.rs_feed_join.specs.Pairs.{joined_pairs}
use Rattle.rs_feed_join.specs.Ranked.{asks_of_rows}
use Rattle.rs_order.specs.Schedule.{Left, Right, SideAsk, asked}
use Rattle.rs_outside.specs.Files.{Finds}
use Rattle.rs_events.specs.Run.{Run, fails, lines_run}
use Rattle.rs_words.specs.declared.fault.WordFault.{WordFault}
use Rattle.rs_words.specs.declared.fault.WordFault.TheVariants.{CertTooLong, Memory}
use Rattle.rs_words.specs.Joining.{join_fault}
use Rattle.rs_words.specs.TwoFeeds.{FeedWords, IsTwoFeedsRun}

-- what so many draws show of a feed: its first rows, and that there are no more, where one draw was behind the last row
abbrev pub side_after : List FeedRow → ℕ → CertSide
side_after rows draws = record { rows = take draws rows; ended = nat_lt (length rows) draws }

-- the certificate of the first n pairs, of which so many are wanted, and of the rows that these asks draw
abbrev pub cert_after : List FeedRow → List FeedRow → ℕ → ℕ → List SideAsk → Cert
cert_after lefts rights count n asks = record {
  k = count;
  left = side_after lefts (asked Left asks);
  right = side_after rights (asked Right asks);
  pairs = numbers_in (take n (joined_pairs (cut lefts) (cut rights)));
}

-- what comes of a call of the join behind n pairs: more is asked for; or there is no pair more; or a row is out of order
abbrev pub certified_after : List FeedRow → List FeedRow → ℕ → ℕ → Result (Option FeedPair) JoinFault → Result Cert WordFault → Result Cert WordFault
certified_after lefts rights count n (Ok (Some pair)) more = more
certified_after lefts rights count n (Ok None) more = Ok (cert_after lefts rights count n (asks_of_cuts lefts rights n))
certified_after lefts rights count n (Err why) more = Err (join_fault why)

-- the certificate behind n pairs, where so many more are asked for, or the row out of order that the asks for them reach
unfoldable pub certified_behind : List FeedRow → List FeedRow → ℕ → ℕ → ℕ → Result Cert WordFault
certified_behind lefts rights count n zero = Ok (cert_after lefts rights count n (asks_of_rows (cut lefts) (cut rights) n))
certified_behind lefts rights count n (suc more) = certified_after lefts rights count n (next_answer lefts rights n) (certified_behind lefts rights count (suc n) more)

-- the same from the first pair on
abbrev pub certified : List FeedRow → List FeedRow → ℕ → Result Cert WordFault
certified lefts rights count = certified_behind lefts rights count 0 count

-- a side with more rows than a certificate takes is refused
abbrev pub few_rows : ℕ → ℕ → Result (Unit {0}) WordFault
few_rows side rows = if nat_lt most_rows rows then Err (CertTooLong side) else Ok tt

-- the bytes of a certificate, where both sides are few; the left one is looked at first
abbrev pub bytes_of : Cert → Result (List ℕ) WordFault
bytes_of cert = do
  left ← few_rows 1 (length cert.left.rows)
  right ← few_rows 2 (length cert.right.rows)
  Ok (written cert)

-- the faults that come of these bytes, and not of a join
abbrev pub IsOfBytes : WordFault → Type 0
IsOfBytes fault = (fault ≡ Memory) ⊎ ((side : ℕ) × (fault ≡ CertTooLong side))

abbrev pub joined_bytes : List FeedRow → List FeedRow → ℕ → Result (List ℕ) WordFault
joined_bytes lefts rights count = certified lefts rights count >>= bytes_of

-- they are put in one put
abbrev pub bytes_run : Result (List ℕ) WordFault → Run WordFault
bytes_run (Ok bytes) = lines_run (bytes ∷ [])
bytes_run (Err fault) = fails fault

abbrev pub joined_cert_run : List FeedRow → List FeedRow → ℕ → Run WordFault
joined_cert_run lefts rights count = bytes_run (joined_bytes lefts rights count)

-- the run of the word: both files are fetched as for `feed`, and then the certificate is put, in one put
abbrev pub IsCertRun : Finds → FeedWords → Run WordFault → Type 0
IsCertRun finds words run = IsTwoFeedsRun joined_cert_run finds words run
