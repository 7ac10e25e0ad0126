-- What the word `cert` puts is a good certificate, and the word `check` says yes to it.
use Rattle.std.proofs.Common.{ℕ, zero, suc, ◌≡◌, ◌∙◌, ◌⊎◌, ◌+◌, ◌<◌, ◌≤◌, Bool, true, false, cond, List, [], ◌∷◌, find, length, min, take, slice_get, Option, Some, None, Result, Ok, Err, refl, sym, ap, subst, inl, inr, arith}
use Rattle.std.proofs.lemmas.Bool.{le-leb}
use Rattle.std.proofs.lemmas.List.{length-map, length-take}
use Rattle.std.proofs.lemmas.Option.{slice_get_within}
use Rattle.rs_value.specs.Results.{◌>>=◌}
use Rattle.std.specs.Prelude.{IfSome}
use Rattle.rs_outside.specs.Files.{Contents, finds_in, found_in}
use Rattle.rs_outside.specs.declared.files.FetchFault.TheVariants.{TooLong}
use Rattle.rs_feed.specs.declared.feed_row.FeedRow.{FeedRow}
use Rattle.rs_cert.specs.declared.cert.Cert.{Cert}
use Rattle.rs_cert.specs.declared.cert.CertSide.{CertSide}
use Rattle.rs_cert.specs.declared.verdict.Verdict.TheVariants.{Yes}
use Rattle.rs_cert.specs.Good.{IsGood, answers_of, first_answers}
use Rattle.rs_cert.specs.Pairs.{Answer}
use Rattle.rs_cert.specs.Records.{HasFewRows, most_wanted}
use Rattle.rs_cert.specs.Written.{AreWritablePairs, AreWritableRows, IsWritablePair, IsWritableRow, written}
use Rattle.rs_cert.proofs.AnswerFacts.{In-answers-back}
use Rattle.rs_cert.proofs.PairFacts.{IsPair}
use Rattle.rs_cert.proofs.WrittenFacts.{written-back}
use Rattle.rs_words.specs.Certs.{AreGiven, cert_of, cert_side, numbers_in}
use Rattle.rs_words.proofs.GivenGoodFacts.{given-good}
use Rattle.rs_events.specs.Events.{puts}
use Rattle.rs_events.specs.Fetching.{fetched_bytes}
use Rattle.rs_events.specs.Run.{Run, lines_run}
use Rattle.rs_events.proofs.OneRun.{found-one}
use Rattle.rs_feed_join.specs.declared.feed_pair.FeedPair.{FeedPair}
use Rattle.rs_feed_join.specs.Answers.{answer_by, asks_of_cuts, is_refused}
use Rattle.rs_feed_join.specs.Cuts.{HaveScores, cut}
use Rattle.rs_feed_join.specs.Joins.{IsKept}
use Rattle.rs_feed_join.specs.Pairs.{joined_pairs}
use Rattle.rs_feed_join.specs.Parts.{join_state}
use Rattle.rs_feed_join.specs.Ranked.{asks_of_rows}
use Rattle.rs_order.specs.Schedule.{Left, Right, SideAsk, asked}
use Rattle.rs_order.proofs.ClimbingFacts.{AllByRecursion-from_In}
use Rattle.rs_order.proofs.EachFacts.{each-map, each-take}
use Rattle.rs_order.proofs.PartFacts.{In-take}
use Rattle.rs_ripple.proofs.LawFacts.{slice_get_none}
use Rattle.rs_words.specs.declared.fault.WordFault.{WordFault}
use Rattle.rs_words.specs.Certifying.{IsCertRun, bytes_of, bytes_run, cert_after, certified, certified_after, certified_behind, few_rows, joined_bytes, joined_cert_run, side_after}
use Rattle.rs_words.specs.Checking.{IsCheckRun, IsReadRun, judged, verdict_line}
use Rattle.rs_words.specs.Faults.{or_read}
use Rattle.rs_words.specs.FeedFiles.{feed_file, file_limit}
use Rattle.rs_words.specs.GoodCerts.{IsGoodCert, yes_run}
use Rattle.rs_words.specs.TwoFeeds.{FeedWords, LeftRun, right_run}
use Rattle.rs_words.proofs.CertifyFacts.{certified-more, certified-none, few-rows, side-drawn}
use Rattle.rs_words.proofs.CheckedFacts.{IsCheckRun-one}
use Rattle.rs_words.proofs.FeedFileFacts.{IsFeed, file-feed, ok-same}
use Rattle.rs_words.proofs.ReplayFacts.{Replayed, given-within, kept-now, kept-whole, left-on, replayed-first, replayed-next, replayed-on, right-on}

-- the certificate of two lists of rows is that of their join, which is good
module _ (lefts rights : List FeedRow) (scores : HaveScores lefts) (scoring : HaveScores rights) (count : ℕ) where
  abbrev first_pairs : ℕ → List (ℕ × ℕ)
  first_pairs n = numbers_in (take n (joined_pairs (cut lefts) (cut rights)))

  module _ (made : List SideAsk) (n : ℕ) (r : Replayed lefts rights made n) (finished : Bool) where
    shown : cert_after lefts rights count n made ≡ cert_of (join_state r.parts finished false) count (first_pairs n)
    shown =
        ap (λ (side : CertSide). record { k = count; left = side; right = side_after rights (asked Right made); pairs = first_pairs n })
        (side-drawn lefts r.parts.left (asked Left made) r.left.begins r.left.ends (r.at.left_draws ∙ r.at.left_asked) r.at.left_draws)
        ∙ ap (λ (side : CertSide). record { k = count; left = cert_side r.parts.left; right = side; pairs = first_pairs n })
        (side-drawn rights r.parts.right (asked Right made) r.right.begins r.right.ends (r.at.right_draws ∙ r.at.right_asked) r.at.right_draws)

    size : length (first_pairs n) ≡ n
    size =
        let all = given-within lefts rights scores scoring made n r in
        length-map (take n (joined_pairs (cut lefts) (cut rights))) (λ (pair : FeedPair). (pair.left, pair.right))
        ∙ length-take n (joined_pairs (cut lefts) (cut rights))
        ∙ (let same : min n (length (joined_pairs (cut lefts) (cut rights))) ≡ n = omega (arith, all) in same)

    good-shown : IsKept (join_state r.parts finished false) → (n ≡ count) ⊎ ((n < count) × (finished ≡ true)) → IsGood (cert_after lefts rights count n made)
    good-shown kept enough =
        subst IsGood (sym shown)
        (given-good (join_state r.parts finished false) count (first_pairs n) kept given
        (elim enough [ inl all ↦ inl (size ∙ all) | inr fewer ↦ inr (subst (λ m. m < count) (sym size) fewer.0, fewer.1) ]))
      where
        given : AreGiven (join_state r.parts finished false) (first_pairs n)
        given =
            ap first_pairs (sym r.gave)
            ∙ ap numbers_in (kept.certain (cut lefts) (cut rights) (left-on lefts rights scores scoring made n r) (right-on lefts rights scores scoring made n r))

  -- a certificate of these rows that is good
  pub record IsGoodOf (cert : Cert) : Type 0 where
    pub given : ℕ
    pub made : List SideAsk
    pub is : cert ≡ cert_after lefts rights count given made
    pub good : IsGood cert

  behind-good : (more n : ℕ) (cert : Cert) → n + more ≡ count → Replayed lefts rights (asks_of_rows (cut lefts) (cut rights) n) n → certified_behind lefts rights count n more ≡ Ok cert → IsGoodOf cert
  behind-good zero n cert sum r e =
      let made = asks_of_rows (cut lefts) (cut rights) n in
      let is : cert_after lefts rights count n made ≡ cert = ok-same (sym (certified-none lefts rights count n) ∙ e) in record {
        given = n;
        made = made;
        is = sym is;
        good = subst IsGood is (good-shown made n r false (kept-now lefts rights scores scoring made n r) (inl (omega (arith, sum))));
      }
  behind-good (suc more) n cert sum r e =
      go (find (is_refused lefts rights) (asks_of_cuts lefts rights n)) refl (sym (certified-more lefts rights count n more) ∙ e)
      (λ next rest. behind-good more (suc n) cert (omega (arith, sum)) next rest)
    where
      go : (refused : Option SideAsk) → find (is_refused lefts rights) (asks_of_cuts lefts rights n) ≡ refused
          → certified_after lefts rights count n (answer_by lefts rights n refused) (certified_behind lefts rights count (suc n) more) ≡ Ok cert
          → (Replayed lefts rights (asks_of_cuts lefts rights n) (suc n) → certified_behind lefts rights count (suc n) more ≡ Ok cert → IsGoodOf cert) → IsGoodOf cert
      go (Some ask) free e further = absurd cc
      go None free e further = next (slice_get (joined_pairs (cut lefts) (cut rights)) n) refl e where
        all-made : Replayed lefts rights (asks_of_cuts lefts rights n) n
        all-made = replayed-on lefts rights scores scoring n free (asks_of_rows (cut lefts) (cut rights) n) r

        next : (pair : Option FeedPair) → slice_get (joined_pairs (cut lefts) (cut rights)) n ≡ pair
            → certified_after lefts rights count n (Ok pair) (certified_behind lefts rights count (suc n) more) ≡ Ok cert → IsGoodOf cert
        next (Some pair) at e = further (replayed-next lefts rights scores scoring n free all-made (slice_get_within (joined_pairs (cut lefts) (cut rights)) n pair at)) e
        next None at e =
            let is : cert_after lefts rights count n (asks_of_cuts lefts rights n) ≡ cert = ok-same e in
            let kept = kept-whole lefts rights scores scoring n free all-made (slice_get_none (joined_pairs (cut lefts) (cut rights)) n at) in record {
              given = n;
              made = asks_of_cuts lefts rights n;
              is = sym is;
              good = subst IsGood is (good-shown (asks_of_cuts lefts rights n) n all-made true kept (inr (omega (arith, sum), refl)));
            }

  pub certified-good : (cert : Cert) → certified lefts rights count ≡ Ok cert → IsGoodOf cert
  certified-good cert e = behind-good count 0 cert (omega arith) (replayed-first lefts rights) e

-- the pairs of a good certificate are numbers of its rows
good-writable : (cert : Cert) → IsGood cert → HasFewRows cert → AreWritablePairs cert.pairs
good-writable cert good few =
    subst AreWritablePairs (sym good.pairs.first)
    (each-map IsWritablePair (λ (pair : Answer). (pair.left, pair.right)) (first_answers cert)
    (AllByRecursion-from_In (λ (pair : Answer). IsWritablePair (pair.left, pair.right)) (first_answers cert)
    (λ pair h. at pair (In-answers-back cert.left.rows cert.right.rows pair (In-take (length cert.pairs) (answers_of cert) pair h)))))
  where
    at : (pair : Answer) → IsPair 1 cert.left.rows cert.right.rows pair → IsWritablePair (pair.left, pair.right)
    at pair z =
        let left = slice_get_within cert.left.rows z.left_place z.left z.left_at in
        let right = slice_get_within cert.right.rows z.right_place z.right z.right_at in
        let lefts = few.left in
        let rights = few.right in
        let left_is = ap (λ (p : Answer). p.left) z.is in
        let right_is = ap (λ (p : Answer). p.right) z.is in (omega (arith, left, lefts, left_is), omega (arith, right, rights, right_is))

-- the bytes that are made of both feeds
both-few : {A B C E : Type 0} (first : Result A E) (second : Result B E) (c d : C) → (first >>= λ a. second >>= λ b. Ok c) ≡ Ok d → (a : A) × (first ≡ Ok a) × (b : B) × (second ≡ Ok b) × (c ≡ d)
both-few (Ok a) (Ok b) c d e = (a, refl, b, refl, ok-same e)
both-few (Ok a) (Err fault) c d e = absurd cc
both-few (Err fault) second c d e = absurd cc

bytes-good : (lefts rights : List FeedRow) (count : ℕ) (bytes : List ℕ) → IsFeed lefts → IsFeed rights → count ≤ most_wanted → joined_bytes lefts rights count ≡ Ok bytes → IsGoodCert count bytes
bytes-good lefts rights count bytes left right wanted e = go (certified lefts rights count) refl e where
  go : (result : Result Cert WordFault) → certified lefts rights count ≡ result → (result >>= bytes_of) ≡ Ok bytes → IsGoodCert count bytes
  go (Err fault) is e = absurd cc
  go (Ok cert) is e =
      let found = certified-good lefts rights left.scores right.scores count cert is in
      let parts = both-few (few_rows 1 (length cert.left.rows)) (few_rows 2 (length cert.right.rows)) (written cert) bytes e in
      let few : HasFewRows cert = record { left = few-rows 1 (length cert.left.rows) (sym parts.1); right = few-rows 2 (length cert.right.rows) (sym parts.3) } in
      let wants : cert.k ≡ count = ap (λ (c : Cert). c.k) found.is in record {
        cert = cert;
        are = written-back cert bytes (sym parts.4) (omega (arith, wants, wanted)) few
            (subst (λ (c : Cert). AreWritableRows c.left.rows) (sym found.is) (each-take IsWritableRow (asked Left found.made) lefts left.writable))
            (subst (λ (c : Cert). AreWritableRows c.right.rows) (sym found.is) (each-take IsWritableRow (asked Right found.made) rights right.writable))
            (good-writable cert found.good few);
        wants = wants;
        good = found.good;
      }

-- what a run of the word puts is made of the rows of both files
module _ (contents : Contents) (words : FeedWords) (bytes : List ℕ) (wanted : words.count ≤ most_wanted) where
  same-put : {a b : List ℕ} → a ∷ [] ≡ b ∷ [] → a ≡ b
  same-put e = cc

  of-rows : (lefts rights : List FeedRow) → IsFeed lefts → IsFeed rights → puts (joined_cert_run lefts rights words.count).events ≡ bytes ∷ [] → IsGoodCert words.count bytes
  of-rows lefts rights left right put = go (joined_bytes lefts rights words.count) refl put where
    go : (made : Result (List ℕ) WordFault) → joined_bytes lefts rights words.count ≡ made → puts (bytes_run made).events ≡ bytes ∷ [] → IsGoodCert words.count bytes
    go (Ok own) e put = bytes-good lefts rights words.count bytes left right wanted (e ∙ ap Ok (same-put put))
    go (Err fault) e put = absurd cc

  of-right : (lefts : List FeedRow) → IsFeed lefts → (rights : Result (List FeedRow) WordFault) → ((rows : List FeedRow) → rights ≡ Ok rows → IsFeed rows)
      → puts (right_run joined_cert_run lefts words.count rights).events ≡ bytes ∷ [] → IsGoodCert words.count bytes
  of-right lefts left (Err fault) feed put = absurd cc
  of-right lefts left (Ok rights) feed put = of-rows lefts rights left (feed rights refl) put

  of-left : (lefts : Result (List FeedRow) WordFault) → ((rows : List FeedRow) → lefts ≡ Ok rows → IsFeed rows) → (more : Run WordFault) → LeftRun joined_cert_run (finds_in contents) words lefts more
      → puts more.events ≡ bytes ∷ [] → IsGoodCert words.count bytes
  of-left (Err fault) feed more is put = absurd (let none : [] ≡ bytes ∷ [] = sym (ap (λ (run : Run WordFault). puts run.events) is) ∙ put in cc)
  of-left (Ok lefts) feed more is put =
      of-right lefts (feed lefts refl) (feed_file 2 is.0) (λ rows e. file-feed 2 is.0 rows e) (sym (ap (λ (run : Run WordFault). puts run.events) is.2) ∙ put)

  pub put-good : (run : Run WordFault) → IsCertRun (finds_in contents) words run → puts run.events ≡ bytes ∷ [] → IsGoodCert words.count bytes
  put-good run is put =
      of-left (feed_file 1 is.0) (λ rows e. file-feed 1 is.0 rows e) is.2 is.3 (sym (ap (λ (run : Run WordFault). puts run.events) is.4) ∙ put)

-- a good certificate is one to which the word `check` says yes
pub good-yes : (contents : Contents) (file bytes : List ℕ) (wanted : ℕ) (run : Run WordFault) → IsGoodCert wanted bytes → contents file ≡ Some (Some bytes) → length bytes ≤ file_limit
    → IsCheckRun (finds_in contents) file run → run ≡ yes_run file
good-yes contents file bytes wanted run good known within is =
    IsCheckRun-one (found_in (λ name. Some bytes)) (found-one (λ name. Some bytes)) file run (yes_run file)
    (is.0, subst (λ known. IfSome known (λ k. k ≡ is.0)) known is.1, is.2, is.3, is.4)
    (Some bytes, refl, lines_run (verdict_line Yes ∷ []), subst (λ read. IsReadRun read (lines_run (verdict_line Yes ∷ []))) (sym read) (judged good.cert Yes good.are good.good), refl)
  where
    read : or_read 1 (fetched_bytes file_limit (Some bytes)) ≡ Ok bytes
    read = ap (λ few. or_read 1 (cond few (Ok bytes) (Err TooLong))) (le-leb (length bytes) file_limit within)
