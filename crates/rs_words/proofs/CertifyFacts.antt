-- The certificate of the first pairs of two feeds of tables.
use Rattle.std.proofs.Common.{ℕ, zero, suc, ◌≡◌, ◌∙◌, ◌+◌, ◌-◌, ◌<◌, ◌≤◌, ◌⊎◌, nat_lt, Bool, true, false, cond, List, length, min, take, Option, Some, None, Result, Ok, Err, pos, refl, sym, ap, subst, inl, inr, arith}
use Rattle.std.specs.Prelude.{IfErr, MatchResult}
use Rattle.std.proofs.lemmas.Bool.Decides.{nat_tests}
use Rattle.std.proofs.lemmas.List.{length-take, take_all}
use Rattle.rs_value.specs.Outside.{untold}
use Rattle.rs_outside.specs.DirFiles.{disk_state}
use Rattle.rs_value.specs.Results.{◌>>=◌}
use Rattle.rs_cert.specs.declared.cert.Cert.{Cert}
use Rattle.rs_cert.specs.declared.cert.CertSide.{CertSide}
use Rattle.rs_cert.specs.Records.{most_rows}
use Rattle.rs_cert.specs.Written.{written}
use Rattle.rs_words.specs.Certs.{cert_of, cert_side, numbers_in}
use Rattle.rs_feed.specs.declared.feed_row.FeedRow.{FeedRow}
use Rattle.rs_table_feed.specs.TableFeeds.{TableFeedState}
use Rattle.rs_feed_join.specs.declared.fault.JoinFault.{JoinFault}
use Rattle.rs_feed_join.specs.declared.feed_pair.FeedPair.{FeedPair}
use Rattle.rs_feed_join.specs.Answers.{HasDrawn, next_answer}
use Rattle.rs_feed_join.specs.Cuts.{cut}
use Rattle.rs_feed_join.specs.Joins.{FeedJoinState}
use Rattle.rs_feed_join.specs.Pairs.{joined_pairs}
use Rattle.rs_feed_join.specs.Ranked.{asks_of_rows}
use Rattle.rs_feed_join.specs.Sides.{FeedSide, IsCounted}
use Rattle.rs_order.specs.Schedule.{Left, Right, SideAsk, asked}
use Rattle.rs_ripple.specs.Stands.{BeginsWith}
use Rattle.rs_events.specs.Environment.{Environment}
use Rattle.rs_events.specs.HaltFaults.{Answers, IsFaultOf}
use Rattle.rs_events.specs.Halts.{CallFailed, Ended, FetchFailed, Halt, NoMemory, PutFailed}
use Rattle.rs_events.specs.Run.{fails, lines_run}
use Rattle.rs_events.specs.Running.{Ran}
use Rattle.rs_events.proofs.RanFacts.{HasDone-none, Ran-all, Ran-first}
use Rattle.rs_words.specs.declared.fault.WordFault.{WordFault}
use Rattle.rs_words.specs.declared.fault.WordFault.TheVariants.{CertTooLong, Memory, Order, Write}
use Rattle.rs_words.specs.Certifying.{IsOfBytes, bytes_of, bytes_run, cert_after, certified, certified_after, certified_behind, few_rows, joined_bytes, side_after}
use Rattle.rs_words.specs.Drawing.{AreDrawn, DrawsAsCertified}
use Rattle.rs_words.specs.Faults.{put_faults}
use Rattle.rs_words.specs.Gathering.{GivesAll, StopsShort}
use Rattle.rs_words.specs.Joining.{IsDrawnOfTable, IsJoining, IsOfTables, fault_of, join_fault}
use Rattle.rs_words.specs.Putting.{AreAnswered, draws_in_all, pairs_of}
use Rattle.rs_words.proofs.CallFacts.{fault-told}
use Rattle.rs_words.proofs.DrawingFacts.{draws-of_bytes}
use Rattle.rs_words.proofs.PuttingFacts.{get-behind, less-is, less-not, some-pair}

-- what the draws of a side show of its feed is what the join keeps of it
pub side-drawn : (rows : List FeedRow) (side : FeedSide) (draws : ℕ) → BeginsWith rows side.rows → (side.ended ≡ true → rows ≡ side.rows) → IsCounted side → side.draws ≡ draws → side_after rows draws ≡ cert_side side
side-drawn rows side draws begins ends counted drawn = go side.ended refl where
  both : (ended : Bool) → take draws rows ≡ side.rows → nat_lt (length rows) draws ≡ ended → side.ended ≡ ended → side_after rows draws ≡ cert_side side
  both ended list test is =
      ap (λ (l : List FeedRow). record { rows = l; ended = nat_lt (length rows) draws }) list
      ∙ ap (λ (b : Bool). record { rows = side.rows; ended = b }) (test ∙ sym is)

  draws-are : (ended : Bool) → side.ended ≡ ended → draws ≡ length side.rows + cond ended 1 0
  draws-are ended is = sym drawn ∙ counted ∙ ap (λ b. length side.rows + cond b 1 0) is

  go : (ended : Bool) → side.ended ≡ ended → side_after rows draws ≡ cert_side side
  go true is =
      let all : rows ≡ side.rows = ends is in
      let size : length rows ≡ length side.rows = ap length all in
      let number : draws ≡ length side.rows + 1 = draws-are true is in
      both true (take_all draws rows (omega (arith, size, number)) ∙ all) (grind (arith, nat_tests, size, number)) is
  go false is =
      let front : side.rows ≡ take (length side.rows) rows = begins in
      let number : draws ≡ length side.rows = draws-are false is ∙ (omega arith) in
      let size : length side.rows ≡ min (length side.rows) (length rows) = ap length front ∙ length-take (length side.rows) rows in
      let within : length side.rows ≤ length rows = omega (arith, size) in
      both false (ap (λ n. take n rows) number ∙ sym front) (grind (arith, nat_tests, within, number)) is

side-shown : (rows : List FeedRow) (feed : TableFeedState) (side : FeedSide) (draws : ℕ) → feed.rows ≡ rows → IsDrawnOfTable feed side → IsCounted side → side.draws ≡ draws
    → side_after rows draws ≡ cert_side side
side-shown rows feed side draws same of counted drawn =
    subst (λ list. side_after list draws ≡ cert_side side) same (side-drawn feed.rows side draws of.drawn.rows of.drawn.ended counted drawn)

-- the certificate of a join that made these asks
pub cert-shown : (lefts rights : List FeedRow) (count n : ℕ) (asks : List SideAsk) (join : FeedJoinState) (left right : TableFeedState) (pairs : List (ℕ × ℕ)) → left.rows ≡ lefts → right.rows ≡ rights
    → IsJoining join left right → IsCounted join.left → IsCounted join.right → HasDrawn asks join.left join.right → pairs ≡ numbers_in (take n (joined_pairs (cut lefts) (cut rights)))
    → cert_after lefts rights count n asks ≡ cert_of join count pairs
cert-shown lefts rights count n asks join left right pairs left_rows right_rows joining left_counted right_counted drawn are =
    let first = numbers_in (take n (joined_pairs (cut lefts) (cut rights))) in
    ap (λ (side : CertSide). record { k = count; left = side; right = side_after rights (asked Right asks); pairs = first })
    (side-shown lefts left join.left (asked Left asks) left_rows joining.left_feed left_counted drawn.left_draws)
    ∙ ap (λ (side : CertSide). record { k = count; left = cert_side join.left; right = side; pairs = first })
    (side-shown rights right join.right (asked Right asks) right_rows joining.right_feed right_counted drawn.right_draws)
    ∙ ap (λ (list : List (ℕ × ℕ)). record { k = count; left = cert_side join.left; right = cert_side join.right; pairs = list }) (sym are)

-- the two cases of the definition
pub certified-none : (lefts rights : List FeedRow) (count n : ℕ) → certified_behind lefts rights count n zero ≡ Ok (cert_after lefts rights count n (asks_of_rows (cut lefts) (cut rights) n))
unfolding certified_behind
certified-none lefts rights count n = refl

pub certified-more : (lefts rights : List FeedRow) (count n more : ℕ)
    → certified_behind lefts rights count n (suc more) ≡ certified_after lefts rights count n (next_answer lefts rights n) (certified_behind lefts rights count (suc n) more)
unfolding certified_behind
certified-more lefts rights count n more = refl

-- a fault ends the join
after-fault : (lefts rights : List FeedRow) (count n : ℕ) (answer : Result (Option FeedPair) JoinFault) (more : Result Cert WordFault) (fault : WordFault) → fault_of answer ≡ Some fault
    → certified_after lefts rights count n answer more ≡ Err fault
after-fault lefts rights count n (Ok pair) more fault e = absurd cc
after-fault lefts rights count n (Err why) more fault e = ap Err (let same : join_fault why ≡ fault = cc in same)

-- the certificate behind n pairs, of as many as are wanted, that come without a fault
module _ (lefts rights : List FeedRow) (count : ℕ) where
  -- the next call
  here-from : (n : ℕ) → n < count → certified lefts rights count ≡ certified_behind lefts rights count n (count - n)
      → certified lefts rights count ≡ certified_after lefts rights count n (next_answer lefts rights n) (certified_behind lefts rights count (suc n) (count - suc n))
  here-from n within so_far =
      let left : count - n ≡ suc (count - suc n) = omega (arith, within) in
      so_far ∙ ap (certified_behind lefts rights count n) left ∙ certified-more lefts rights count n (count - suc n)

  certified-from : (n : ℕ) → n ≤ count → n ≤ length (pairs_of lefts rights) → AreAnswered lefts rights n → certified lefts rights count ≡ certified_behind lefts rights count n (count - n)
  certified-from zero within gave answered = let all : count ≡ count - 0 = omega arith in ap (certified_behind lefts rights count 0) all
  certified-from (suc n) within gave answered =
      let found = some-pair (pairs_of lefts rights) n (omega (arith, gave)) in
      here-from n (omega (arith, within)) (certified-from n (omega (arith, within)) (omega (arith, gave)) (λ i h. answered i (omega (arith, h))))
      ∙ ap (λ a. certified_after lefts rights count n a (certified_behind lefts rights count (suc n) (count - suc n))) (answered n (omega arith) ∙ ap Ok found.1)

  here : (n : ℕ) → n < count → n ≤ length (pairs_of lefts rights) → AreAnswered lefts rights n
      → certified lefts rights count ≡ certified_after lefts rights count n (next_answer lefts rights n) (certified_behind lefts rights count (suc n) (count - suc n))
  here n within gave answered = here-from n within (certified-from n (omega (arith, within)) gave answered)

  -- what was gathered is the certificate
  pub certified-given : (state : FeedJoinState) (left right : TableFeedState) (pairs : List (ℕ × ℕ)) → left.rows ≡ lefts → right.rows ≡ rights → IsJoining state left right
      → IsCounted state.left → IsCounted state.right → GivesAll lefts rights count pairs state → certified lefts rights count ≡ Ok (cert_of state count pairs)
  certified-given state left right pairs left_rows right_rows joining left_counted right_counted gives = go (nat_lt (length all) count) refl where
    all : List FeedPair
    all = pairs_of lefts rights

    shown : (n m : ℕ) → min count (suc (length all)) ≡ m → pairs ≡ numbers_in (take n all) → cert_after lefts rights count n (asks_of_rows (cut lefts) (cut rights) m) ≡ cert_of state count pairs
    shown n m wanted are =
        cert-shown lefts rights count n (asks_of_rows (cut lefts) (cut rights) m) state left right pairs left_rows right_rows joining left_counted right_counted
        (subst (λ k. HasDrawn (asks_of_rows (cut lefts) (cut rights) k) state.left state.right) wanted gives.drawn) are

    go : (fewer : Bool) → nat_lt (length all) count ≡ fewer → certified lefts rights count ≡ Ok (cert_of state count pairs)
    go false is =
        let most = less-not (length all) count is in
        let wanted : min count (suc (length all)) ≡ count = omega (arith, most) in
        let none : count - count ≡ 0 = omega arith in
        certified-from count (omega arith) most (subst (AreAnswered lefts rights) wanted gives.answered)
        ∙ ap (certified_behind lefts rights count count) none ∙ certified-none lefts rights count count
        ∙ ap Ok (shown count count wanted gives.pairs)
    go true is =
        let few = less-is (length all) count is in
        let wanted : min count (suc (length all)) ≡ suc (length all) = omega (arith, few) in
        let answered = subst (AreAnswered lefts rights) wanted gives.answered in
        here (length all) few (omega arith) (λ i h. answered i (omega (arith, h)))
        ∙ ap (λ a. certified_after lefts rights count (length all) a (certified_behind lefts rights count (suc (length all)) (count - suc (length all)))) (answered (length all) (omega arith) ∙ ap Ok (get-behind all))
        ∙ ap Ok (shown (length all) (suc (length all)) wanted
        (gives.pairs ∙ ap numbers_in (take_all count all (omega (arith, few)) ∙ sym (take_all (length all) all (omega arith)))))

  -- what ended the join
  pub certified-stopped : (why : JoinFault) (state : FeedJoinState) → IsOfTables why → StopsShort lefts rights count why state → (join_fault why ≡ Memory) ⊎ (certified lefts rights count ≡ Err (join_fault why))
  certified-stopped why state of (inr short) = inl (ap join_fault short.0)
  certified-stopped why state of (inl stops) = elim (fault-told lefts rights stops.n state.left state.right why of stops.next) [
    | inl e ↦ inl e
    | inr e ↦ inr (here stops.n stops.within stops.gave stops.answered
        ∙ after-fault lefts rights count stops.n (next_answer lefts rights stops.n) (certified_behind lefts rights count (suc stops.n) (count - suc stops.n)) (join_fault why) e)
  ]

-- a side that isn't refused is few
pub few-rows : (side rows : ℕ) → Ok tt ≡ few_rows side rows → rows ≤ most_rows
few-rows side rows e = go (nat_lt most_rows rows) refl e where
  go : (many : Bool) → nat_lt most_rows rows ≡ many → ◌≡◌ {A = Result (Unit {0}) WordFault} (Ok tt) (cond many (Err (CertTooLong side)) (Ok tt)) → rows ≤ most_rows
  go true is e = absurd (cc e)
  go false is e = grind (arith, nat_tests, is)

-- the bytes of a certificate
module _ (cert : Cert) where
  pub bytes-left : (fault : WordFault) → Err fault ≡ few_rows 1 (length cert.left.rows) → bytes_of cert ≡ Err fault
  bytes-left fault e = ap (λ few. few >>= λ left. few_rows 2 (length cert.right.rows) >>= λ right. Ok (written cert)) (sym e)

  module _ (l : Ok tt ≡ few_rows 1 (length cert.left.rows)) where
    bytes-second : bytes_of cert ≡ (few_rows 2 (length cert.right.rows) >>= λ right. Ok (written cert))
    bytes-second = ap (λ few. few >>= λ left. few_rows 2 (length cert.right.rows) >>= λ right. Ok (written cert)) (sym l)

    pub bytes-right : (fault : WordFault) → Err fault ≡ few_rows 2 (length cert.right.rows) → bytes_of cert ≡ Err fault
    bytes-right fault e = bytes-second ∙ ap (λ few. few >>= λ right. Ok (written cert)) (sym e)

    pub bytes-both : Ok tt ≡ few_rows 2 (length cert.right.rows) → bytes_of cert ≡ Ok (written cert)
    bytes-both e = bytes-second ∙ ap (λ few. few >>= λ right. Ok (written cert)) (sym e)

-- a side that is too long tells itself
pub few-fault : (side rows : ℕ) (fault : WordFault) → Err fault ≡ few_rows side rows → fault ≡ CertTooLong side
few-fault side rows fault e = go (nat_lt most_rows rows) e where
  go : (many : Bool) → ◌≡◌ {A = Result (Unit {0}) WordFault} (Err fault) (cond many (Err (CertTooLong side)) (Ok tt)) → fault ≡ CertTooLong side
  go true e = cc
  go false e = absurd (cc)

-- the bytes of what was certified
module _ (lefts rights : List FeedRow) (count : ℕ) where
  pub bytes-unjoined : (fault : WordFault) → (fault ≡ Memory) ⊎ (certified lefts rights count ≡ Err fault) → (fault ≡ Memory) ⊎ (joined_bytes lefts rights count ≡ Err fault)
  bytes-unjoined fault (inl e) = inl e
  bytes-unjoined fault (inr e) = inr (ap (λ cert. cert >>= bytes_of) e)

  module _ (cert : Cert) (is : certified lefts rights count ≡ Ok cert) where
    pub bytes-joined : (bytes : List ℕ) → bytes_of cert ≡ Ok bytes → joined_bytes lefts rights count ≡ Ok bytes
    bytes-joined bytes e = ap (λ cert. cert >>= bytes_of) is ∙ e

    pub bytes-refused : (fault : WordFault) → (fault ≡ Memory) ⊎ (bytes_of cert ≡ Err fault) → (fault ≡ Memory) ⊎ (joined_bytes lefts rights count ≡ Err fault)
    bytes-refused fault (inl e) = inl e
    bytes-refused fault (inr e) = inr (ap (λ cert. cert >>= bytes_of) is ∙ e)

-- faults that are none of the order
pub of-bytes-order : (fault : WordFault) → IsOfBytes fault → (side row before got : ℕ) → fault ≡ Order side row before got → ⊥
of-bytes-order fault (inl e) side row before got is = absurd (let f : Memory ≡ Order side row before got = sym e ∙ is in cc)
of-bytes-order fault (inr e) side row before got is = absurd (let f : CertTooLong e.0 ≡ Order side row before got = sym e.1 ∙ is in cc)

-- a put of lines ends with one of two faults
pub put-order : (lines : List (List ℕ)) (fault : WordFault) (old new : Environment) → Ran put_faults (lines_run lines) (Err fault) old new → (side row before got : ℕ) → fault ≡ Order side row before got → ⊥
put-order lines fault old new ran side row before got is = go ran.halt ran.fault ran.is_fault ran.answers where
  no-memory : ◌≡◌ {A = Result (Unit {0}) WordFault} (Err fault) (Err Memory) → ⊥
  no-memory e = absurd (let f : Order side row before got ≡ Memory = sym is ∙ (let same : fault ≡ Memory = cc in same) in cc)

  no-write : ◌≡◌ {A = Result (Unit {0}) WordFault} (Err fault) (Err Write) → ⊥
  no-write e = absurd (let f : Order side row before got ≡ Write = sym is ∙ (let same : fault ≡ Write = cc in same) in cc)

  by : (own : WordFault) → (own ≡ Memory) ⊎ (own ≡ Write) → Answers Memory (Some own) (Err fault) → ⊥
  by own (inl e) (inl a) = no-memory (a ∙ ap Err e)
  by own (inr e) (inl a) = no-write (a ∙ ap Err e)
  by own which (inr a) = no-memory a

  some : (own : Option WordFault) (told : WordFault) → own ≡ Some told → (told ≡ Memory) ⊎ (told ≡ Write) → Answers Memory own (Err fault) → ⊥
  some own told e which answers = by told which (subst (λ o. Answers Memory o (Err fault)) e answers)

  go : (halt : Halt) (own : Option WordFault) → IsFaultOf put_faults None halt own → Answers Memory own (Err fault) → ⊥
  go Ended own e answers = absurd (let a = subst (λ o. Answers Memory o (Err fault)) e answers in cc)
  go NoMemory own e answers = some own Memory e (inl refl) answers
  go (PutFailed part) own e answers = some own Write e (inr refl) answers
  go (FetchFailed name) own e answers = absurd e.1
  go (CallFailed call) own e answers = some own Memory e (inl refl) answers

-- bytes that there are none of
pub bytes-fault : (bytes : Result (List ℕ) WordFault) (fault : WordFault) (at : Environment) → (fault ≡ Memory) ⊎ (bytes ≡ Err fault) → Ran put_faults (bytes_run bytes) (Err fault) at at
bytes-fault bytes fault at (inl e) = subst (λ f. Ran put_faults (bytes_run bytes) (Err f) at at) (sym e) (Ran-first (bytes_run bytes) at)
bytes-fault bytes fault at (inr e) = subst (λ b. Ran put_faults (bytes_run b) (Err fault) at at) (sym e) (Ran-all (fails fault) (Err fault) at at (HasDone-none at) (inl refl))

-- an environment, whichever it is
pub some-environment : Environment
some-environment = record {
  files = disk_state (record { faults = 0; last = None });
  scorer = record { answer = λ predicate values. pos 0; calls = 0; outside = untold 0 };
  out = untold 0;
  err = untold 0;
  references = (0, 0, 0);
}

-- the bytes of what was certified, and how it ended
module _ {B : Type 0} (items : B → List ℕ) (lefts rights : List FeedRow) (count : ℕ) (cert : Cert) (is : certified lefts rights count ≡ Ok cert) where
  pub bytes-of-cert : (result : Result B WordFault) → MatchResult result (λ bytes. bytes_of cert ≡ Ok (items bytes)) (λ fault. (fault ≡ Memory) ⊎ (bytes_of cert ≡ Err fault))
      → MatchResult result (λ bytes. joined_bytes lefts rights count ≡ Ok (items bytes)) (λ fault. (fault ≡ Memory) ⊎ (joined_bytes lefts rights count ≡ Err fault))
  bytes-of-cert (Ok bytes) e = bytes-joined lefts rights count cert is (items bytes) e
  bytes-of-cert (Err fault) e = bytes-refused lefts rights count cert is fault e

module _ (lefts rights : List FeedRow) (count : ℕ) (left right : TableFeedState) (drawn : AreDrawn (draws_in_all lefts rights count) left right) where
  pub draws-of-result : (B : Type 0) (result : Result B WordFault) → IfErr result (λ fault. IsOfBytes fault) → DrawsAsCertified {A = B} lefts rights count result left right
  draws-of-result B (Ok bytes) of = drawn
  draws-of-result B (Err fault) of = draws-of_bytes B lefts rights count fault left right (of-bytes-order fault of) drawn

  pub draws-of-put : (lines : List (List ℕ)) (result : Result (Unit {0}) WordFault) (old new : Environment) → Ran put_faults (lines_run lines) result old new → DrawsAsCertified {A = Unit {0}} lefts rights count result left right
  draws-of-put lines (Ok done) old new ran = drawn
  draws-of-put lines (Err fault) old new ran = draws-of_bytes (Unit {0}) lefts rights count fault left right (put-order lines fault old new ran) drawn
