-- The run of a word over two feeds, put together from what its parts did.
use Rattle.std.proofs.Common.{ℕ, zero, suc, ◌≡◌, ◌∙◌, ◌⊎◌, List, [], ◌∷◌, Option, Some, None, Result, Ok, Err, refl, sym, ap, subst, inl, inr}
use Rattle.rs_value.specs.Results.{◌>>=◌}
use Rattle.rs_outside.specs.Files.{FilesState, Finds, finds_in}
use Rattle.rs_outside.proofs.ContentsFacts.{finds-before, finds-some}
use Rattle.rs_outside.specs.declared.files.FetchFault.TheVariants as fetch
use Rattle.rs_feed.specs.declared.feed_row.FeedRow.{FeedRow}
use Rattle.rs_table_feed.specs.TableFeeds.{TableFeedState, new_feed}
use Rattle.rs_events.specs.Environment.{Environment}
use Rattle.rs_events.specs.Events.{Fetch, calls}
use Rattle.rs_events.specs.Fetching.{FetchFails, Fetched, FetchesFile, NotFetched}
use Rattle.rs_events.specs.HaltFaults.{IsFaultOf}
use Rattle.rs_events.specs.Halts.{CallFailed, Ended, FetchFailed, Halt, NoMemory, PutFailed}
use Rattle.rs_events.specs.Run.{Run, behind, fails}
use Rattle.rs_events.specs.Running.{Ran, Runs}
use Rattle.rs_events.proofs.FetchFacts.{Ran-unfetched, fetched-ok, found-before}
use Rattle.rs_events.proofs.OneRun.{OneFile}
use Rattle.rs_events.proofs.RanFacts.{Ran-behind}
use Rattle.rs_feed_join.specs.declared.fault.JoinFault.{JoinFault}
use Rattle.rs_feed_join.specs.declared.feed_pair.FeedPair.{FeedPair}
use Rattle.rs_feed_join.specs.Answers.{next_answer}
use Rattle.rs_words.specs.declared.fault.WordFault.{WordFault}
use Rattle.rs_words.specs.declared.fault.WordFault.TheVariants.{Memory, Read}
use Rattle.rs_words.specs.Faults.{feed_faults, put_faults}
use Rattle.rs_words.specs.FeedFiles.{IsFeedFile, feed_file}
use Rattle.rs_words.specs.Certifying.{IsCertRun, bytes_run, joined_bytes, joined_cert_run}
use Rattle.rs_words.specs.Feeding.{IsFeedRun, call_run, run_behind, pairs_run}
use Rattle.rs_words.specs.TwoFeeds.{FeedWords, IsTwoFeedsRun, JoinRun, LeftRun, right_run}

-- a run of puts alone has the same faults where fetches are told too
module _ (left right : List ℕ) where
  fault-of-puts : (own : Option WordFault) (halt : Halt) (fault : Option WordFault) → IsFaultOf put_faults own halt fault → IsFaultOf (feed_faults left right) own halt fault
  fault-of-puts own Ended fault is = is
  fault-of-puts own NoMemory fault is = is
  fault-of-puts own (PutFailed part) fault is = is
  fault-of-puts own (FetchFailed name) fault is = absurd is.1
  fault-of-puts own (CallFailed call) fault is = is

  pub Ran-puts : (run : Run WordFault) (result : Result (Unit {0}) WordFault) (old new : Environment) → Ran put_faults run result old new → Ran (feed_faults left right) run result old new
  Ran-puts run result old new ran = record {
    halt = ran.halt;
    did = ran.did;
    fault = ran.fault;
    is_fault = fault-of-puts run.fault ran.halt ran.fault ran.is_fault;
    answers = ran.answers;
    keeps = ran.keeps;
  }

-- a fault of a fetch that is told more loosely
unfoldable pub fetches-loosely : {A : Type 0} {Tells Others : WordFault → Type 0} (file : List ℕ) (result : Result A WordFault) (gives : Option (List ℕ) → Result A WordFault → Type 0) (old new : FilesState)
    → ((why : WordFault) → Tells why → Others why) → FetchesFile Memory Tells file result gives old new → FetchesFile Memory Others file result gives old new
fetches-loosely {A} {Tells} {Others} file result gives old new loosely f = record { there = f.there; is_found = f.is_found; learned = f.learned; does = go f.does; keeps = f.keeps } where
  go : (NotFetched {A = A} Memory result old new ⊎ FetchFails {A = A} Memory Tells file result old new) ⊎ Fetched {A = A} Memory file (gives f.there) result old new
      → (NotFetched {A = A} Memory result old new ⊎ FetchFails {A = A} Memory Others file result old new) ⊎ Fetched {A = A} Memory file (gives f.there) result old new
  go (inl (inl nothing)) = inl (inl nothing)
  go (inl (inr failed)) = inl (inr (record {
    fetched = failed.fetched;
    faulted = failed.faulted;
    answers = elim failed.answers [ inl told ↦ inl (told.0, loosely told.0 told.1, told.2) | inr e ↦ inr e ];
  }))
  go (inr fetched) = inr fetched

-- what a file gives, of what was made of it
bound-err : (rows : Result (List FeedRow) WordFault) (fault : WordFault) → ◌≡◌ {A = Result TableFeedState WordFault} (Err fault) (rows >>= λ rows. Ok (new_feed rows)) → rows ≡ Err fault
bound-err (Ok rows) fault e = absurd cc
bound-err (Err own) fault e = ap Err (let same : own ≡ fault = cc in same)

bound-ok : (rows : Result (List FeedRow) WordFault) (feed : TableFeedState) → ◌≡◌ {A = Result TableFeedState WordFault} (Ok feed) (rows >>= λ rows. Ok (new_feed rows)) → rows ≡ Ok feed.rows
bound-ok (Ok rows) feed e = ap Ok (let same : feed ≡ new_feed rows = cc in sym (ap (λ (f : TableFeedState). f.rows) same))
bound-ok (Err own) feed e = absurd cc

pub bound-new : (rows : Result (List FeedRow) WordFault) (feed : TableFeedState) → ◌≡◌ {A = Result TableFeedState WordFault} (Ok feed) (rows >>= λ rows. Ok (new_feed rows)) → feed ≡ new_feed feed.rows
bound-new (Ok rows) feed e = let same : feed ≡ new_feed rows = cc in same ∙ ap new_feed (sym (ap (λ (f : TableFeedState). f.rows) same))
bound-new (Err own) feed e = absurd cc

-- the run behind the fetch of the left file
left-run : (joined : JoinRun) (finds : Finds) (words : FeedWords) (lefts : Result (List FeedRow) WordFault) → ((there : Option (List ℕ)) × finds words.right there) → (more : Run WordFault) × LeftRun joined finds words lefts more
left-run joined finds words (Err fault) some = (fails fault, refl)
left-run joined finds words (Ok lefts) some = (behind (Fetch words.right ∷ []) (right_run joined lefts words.count (feed_file 2 some.0)), (some.0, some.1, refl))

left-run-err : (joined : JoinRun) (finds : Finds) (words : FeedWords) (lefts : Result (List FeedRow) WordFault) (more : Run WordFault) (fault : WordFault) → LeftRun joined finds words lefts more → lefts ≡ Err fault → more ≡ fails fault
left-run-err joined finds words (Ok lefts) more fault is e = absurd cc
left-run-err joined finds words (Err own) more fault is e = is ∙ ap fails (let same : own ≡ fault = cc in same)

module _ (joined : JoinRun) (words : FeedWords) (environment : Environment) (lefts : FilesState) where
  -- the left file is no feed
  pub Ran-no_left : (fault : WordFault) → FetchesFile {A = TableFeedState} Memory (λ why. why ≡ Read 1 fetch.Failed) words.left (Err fault) (IsFeedFile 1) environment.files lefts
      → Runs (feed_faults words.left words.right) (IsTwoFeedsRun joined (finds_in environment.files.contents) words) (Err fault) environment (record environment { files = lefts })
  unfolding fetches-loosely
  Ran-no_left fault f =
      let more = left-run joined (finds_in environment.files.contents) words (feed_file 1 f.there) (finds-some environment.files.contents words.right) in record {
        run = behind (Fetch words.left ∷ []) more.0;
        is = (f.there, found-before words.left _ _ environment.files lefts f, more.0, more.1, refl);
        ran = Ran-unfetched environment lefts words.left fault (IsFeedFile 1) (behind (Fetch words.left ∷ []) more.0) more.0.events
            (fetches-loosely {A = TableFeedState} words.left (Err fault) (IsFeedFile 1) environment.files lefts (λ why is. inl (refl, is)) f) refl
            (λ given. ap (behind (Fetch words.left ∷ [])) (left-run-err joined (finds_in environment.files.contents) words (feed_file 1 f.there) more.0 fault more.1 (bound-err (feed_file 1 f.there) fault given)));
      }

  module _ (left : TableFeedState) (rights : FilesState) (f : FetchesFile {A = TableFeedState} Memory (λ why. why ≡ Read 1 fetch.Failed) words.left (Ok left) (IsFeedFile 1) environment.files lefts) where
    middle : Environment
    middle = record environment { files = lefts }

    -- the run of which the left file is a feed
    is-run : (there : Option (List ℕ)) → finds_in lefts.contents words.right there
        → IsTwoFeedsRun joined (finds_in environment.files.contents) words (behind (Fetch words.left ∷ []) (behind (Fetch words.right ∷ []) (right_run joined left.rows words.count (feed_file 2 there))))
    is-run there found =
        let read = fetched-ok environment lefts words.left left (IsFeedFile 1) f in (
          f.there,
          found-before words.left _ _ environment.files lefts f,
          behind (Fetch words.right ∷ []) (right_run joined left.rows words.count (feed_file 2 there)),
          subst (λ rows. LeftRun joined (finds_in environment.files.contents) words rows (behind (Fetch words.right ∷ []) (right_run joined left.rows words.count (feed_file 2 there)))) (sym (bound-ok (feed_file 1 f.there) left read.given))
              (there, finds-before environment.files.contents lefts.contents f.keeps.contents words.right there found, refl),
          refl,
        )

    -- the right file is no feed
    pub Ran-no_right : (fault : WordFault) → FetchesFile {A = TableFeedState} Memory (λ why. why ≡ Read 2 fetch.Failed) words.right (Err fault) (IsFeedFile 2) lefts rights
        → Runs (feed_faults words.left words.right) (IsTwoFeedsRun joined (finds_in environment.files.contents) words) (Err fault) environment (record environment { files = rights })
    unfolding middle fetches-loosely
    Ran-no_right fault s =
        let read = fetched-ok environment lefts words.left left (IsFeedFile 1) f in record {
          run = behind (Fetch words.left ∷ []) (behind (Fetch words.right ∷ []) (right_run joined left.rows words.count (feed_file 2 s.there)));
          is = is-run s.there (found-before words.right _ _ lefts rights s);
          ran = Ran-behind (Fetch words.left ∷ []) (behind (Fetch words.right ∷ []) (right_run joined left.rows words.count (feed_file 2 s.there))) (Err fault) environment middle (record environment { files = rights }) read.has
              (Ran-unfetched middle rights words.right fault (IsFeedFile 2) (behind (Fetch words.right ∷ []) (right_run joined left.rows words.count (feed_file 2 s.there))) (right_run joined left.rows words.count (feed_file 2 s.there)).events
              (fetches-loosely {A = TableFeedState} words.right (Err fault) (IsFeedFile 2) lefts rights (λ why is. inr (refl, is)) s) refl
              (λ given. ap (λ rows. behind (Fetch words.right ∷ []) (right_run joined left.rows words.count rows)) (bound-err (feed_file 2 s.there) fault given)));
        }

    -- both are
    pub Ran-joined : (right : TableFeedState) (result : Result (Unit {0}) WordFault) (new : Environment) → FetchesFile {A = TableFeedState} Memory (λ why. why ≡ Read 2 fetch.Failed) words.right (Ok right) (IsFeedFile 2) lefts rights
        → Ran put_faults (joined left.rows right.rows words.count) result (record environment { files = rights }) new
        → Runs (feed_faults words.left words.right) (IsTwoFeedsRun joined (finds_in environment.files.contents) words) result environment new
    unfolding middle
    Ran-joined right result new s ran =
        let read = fetched-ok environment lefts words.left left (IsFeedFile 1) f in
        let other = fetched-ok middle rights words.right right (IsFeedFile 2) s in
        let rest = subst (λ rows. Ran (feed_faults words.left words.right) (right_run joined left.rows words.count rows) result (record environment { files = rights }) new) (sym (bound-ok (feed_file 2 s.there) right other.given))
        (Ran-puts words.left words.right (joined left.rows right.rows words.count) result (record environment { files = rights }) new ran) in record {
          run = behind (Fetch words.left ∷ []) (behind (Fetch words.right ∷ []) (right_run joined left.rows words.count (feed_file 2 s.there)));
          is = is-run s.there (found-before words.right _ _ lefts rights s);
          ran = Ran-behind (Fetch words.left ∷ []) (behind (Fetch words.right ∷ []) (right_run joined left.rows words.count (feed_file 2 s.there))) result environment middle new read.has
              (Ran-behind (Fetch words.right ∷ []) (right_run joined left.rows words.count (feed_file 2 s.there)) result middle (record environment { files = rights }) new other.has rest);
        }

-- the word has a run, and one alone where a name has one file
module _ (joined : JoinRun) (finds : Finds) where
  pub some-words_run : ((name : List ℕ) → (there : Option (List ℕ)) × finds name there) → (words : FeedWords) → (run : Run WordFault) × IsTwoFeedsRun joined finds words run
  some-words_run has words =
      let left = has words.left in
      let more = left-run joined finds words (feed_file 1 left.0) (has words.right) in
      (behind (Fetch words.left ∷ []) more.0, (left.0, left.1, more.0, more.1, refl))

  LeftRun-one : OneFile finds → (words : FeedWords) (lefts : Result (List FeedRow) WordFault) (a b : Run WordFault) → LeftRun joined finds words lefts a → LeftRun joined finds words lefts b → a ≡ b
  LeftRun-one one words (Err fault) a b p q = p ∙ sym q
  LeftRun-one one words (Ok lefts) a b p q =
      p.2 ∙ ap (λ there. behind (Fetch words.right ∷ []) (right_run joined lefts words.count (feed_file 2 there))) (one words.right p.0 q.0 p.1 q.1) ∙ sym q.2

  pub one-run : OneFile finds → (words : FeedWords) (a b : Run WordFault) → IsTwoFeedsRun joined finds words a → IsTwoFeedsRun joined finds words b → a ≡ b
  one-run one words a b p q =
      let same = LeftRun-one one words (feed_file 1 q.0) p.2 q.2 (subst (λ there. LeftRun joined finds words (feed_file 1 there) p.2) (one words.left p.0 q.0 p.1 q.1) p.3) q.3 in
      p.4 ∙ ap (behind (Fetch words.left ∷ [])) same ∙ sym q.4

  -- it calls no scorer where what it does with both feeds calls none
  module _ (silent : (lefts rights : List FeedRow) (count : ℕ) → calls (joined lefts rights count).events ≡ []) where
    calls-right : (lefts : List FeedRow) (count : ℕ) (rights : Result (List FeedRow) WordFault) → calls (right_run joined lefts count rights).events ≡ []
    calls-right lefts count (Err fault) = refl
    calls-right lefts count (Ok rights) = silent lefts rights count

    calls-left : (words : FeedWords) (lefts : Result (List FeedRow) WordFault) (more : Run WordFault) → LeftRun joined finds words lefts more → calls more.events ≡ []
    calls-left words (Err fault) more is = ap (λ (run : Run WordFault). calls run.events) is
    calls-left words (Ok lefts) more is = ap (λ (run : Run WordFault). calls run.events) is.2 ∙ calls-right lefts words.count (feed_file 2 is.0)

    silent-run : (words : FeedWords) (run : Run WordFault) → IsTwoFeedsRun joined finds words run → calls run.events ≡ []
    silent-run words run is = ap (λ (run : Run WordFault). calls run.events) is.4 ∙ calls-left words (feed_file 1 is.0) is.2 is.3

-- the word `feed` calls none
calls-call : (lefts rights : List FeedRow) (n : ℕ) (answer : Result (Option FeedPair) JoinFault) (more : Run WordFault) → calls more.events ≡ [] → calls (call_run lefts rights n answer more).events ≡ []
calls-call lefts rights n (Ok (Some pair)) more e = e
calls-call lefts rights n (Ok None) more e = refl
calls-call lefts rights n (Err why) more e = refl

calls-pairs : (lefts rights : List FeedRow) (n more : ℕ) → calls (run_behind lefts rights n more).events ≡ []
unfolding run_behind
calls-pairs lefts rights n zero = refl
calls-pairs lefts rights n (suc more) = calls-call lefts rights n (next_answer lefts rights n) (run_behind lefts rights (suc n) more) (calls-pairs lefts rights (suc n) more)

pub feed-no_calls : (finds : Finds) (words : FeedWords) (run : Run WordFault) → IsFeedRun finds words run → calls run.events ≡ []
feed-no_calls finds words run is = silent-run pairs_run finds (λ lefts rights count. calls-pairs lefts rights 0 count) words run is

-- nor does `cert`
calls-bytes : (bytes : Result (List ℕ) WordFault) → calls (bytes_run bytes).events ≡ []
calls-bytes (Ok bytes) = refl
calls-bytes (Err fault) = refl

pub cert-no_calls : (finds : Finds) (words : FeedWords) (run : Run WordFault) → IsCertRun finds words run → calls run.events ≡ []
cert-no_calls finds words run is = silent-run joined_cert_run finds (λ lefts rights count. calls-bytes (joined_bytes lefts rights count)) words run is
