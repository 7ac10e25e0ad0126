-- The run of the word `check`, put together from what its parts did.
use Rattle.std.proofs.Common.{ℕ, ◌≡◌, ◌∙◌, ◌<◌, ◌≤◌, ◌^◌, List, [], ◌∷◌, length, Option, Result, Ok, Err, MatchResult, refl, sym, ap, subst, inl, inr, arith}
use Rattle.std.specs.declared.alloc.Global.{Global}
use Rattle.std.specs.declared.vec.Vec.{Vec}
use Rattle.rs_outside.specs.Files.{FilesState, Finds, finds_in}
use Rattle.rs_outside.specs.declared.files.FetchFault.TheVariants as fetch
use Rattle.rs_cert.specs.declared.cert.Cert.{Cert}
use Rattle.rs_cert.specs.declared.verdict.Verdict.{Verdict}
use Rattle.rs_lines.specs.Records.{records_of}
use Rattle.rs_cert.specs.Records.{AreRecordsOf, IsForm}
use Rattle.rs_cert.specs.Verdicts.{IsVerdict}
use Rattle.rs_lines.proofs.RecordsFacts.{few-records}
use Rattle.rs_events.specs.Environment.{Environment}
use Rattle.rs_events.specs.Events.{Fetch, calls}
use Rattle.rs_events.specs.Fetching.{FetchesFile, fetched_bytes}
use Rattle.rs_events.specs.HaltFaults.{IsFaultOf}
use Rattle.rs_events.specs.Halts.{CallFailed, Ended, FetchFailed, Halt, NoMemory, PutFailed}
use Rattle.rs_events.specs.Run.{Run, behind, fails, lines_run}
use Rattle.rs_events.specs.Running.{Ran, Runs}
use Rattle.rs_events.proofs.FetchFacts.{Ran-unfetched, fetched-ok, found-before}
use Rattle.rs_events.proofs.OneRun.{OneFile}
use Rattle.rs_events.proofs.RanFacts.{HasDone-none, Ran-all, Ran-behind, Ran-first}
use Rattle.rs_words.specs.declared.fault.WordFault.{WordFault}
use Rattle.rs_words.specs.declared.fault.WordFault.TheVariants.{CertForm, Memory, Read}
use Rattle.rs_words.specs.Checking.{IsCertIn, IsCheckRun, IsCheckedRun, IsReadRun, judged, strange, verdict_line}
use Rattle.rs_words.specs.Faults.{feed_faults, file_faults, or_read, put_faults}
use Rattle.rs_words.specs.FeedFiles.{file_limit}
use Rattle.rs_cert.proofs.CertFacts.{one-cert, reads-it}
use Rattle.rs_cert.specs.declared.fault.CertFault.TheVariants.{Form}
use Rattle.rs_words.proofs.RunFacts.{fetches-loosely}
use Rattle.rs_words.proofs.VerdictFacts.{one-form, one-verdict, some-read, some-verdict}

-- a run of puts alone has the same faults where the fetch of a file is told too, and a run with one file those with two
module _ (file : List ℕ) where
  of-puts : (own : Option WordFault) (halt : Halt) (fault : Option WordFault) → IsFaultOf put_faults own halt fault → IsFaultOf (file_faults file) own halt fault
  of-puts own Ended fault is = is
  of-puts own NoMemory fault is = is
  of-puts own (PutFailed part) fault is = is
  of-puts own (FetchFailed name) fault is = absurd is.1
  of-puts own (CallFailed call) fault is = is

  Ran-puts : (run : Run WordFault) (result : Result (Unit {0}) WordFault) (old new : Environment) → Ran put_faults run result old new → Ran (file_faults file) run result old new
  Ran-puts run result old new ran = record {
    halt = ran.halt;
    did = ran.did;
    fault = ran.fault;
    is_fault = of-puts run.fault ran.halt ran.fault ran.is_fault;
    answers = ran.answers;
    keeps = ran.keeps;
  }

  of-both : (own : Option WordFault) (halt : Halt) (fault : Option WordFault) → IsFaultOf (file_faults file) own halt fault → IsFaultOf (feed_faults file file) own halt fault
  of-both own Ended fault is = is
  of-both own NoMemory fault is = is
  of-both own (PutFailed part) fault is = is
  of-both own (FetchFailed name) fault is = (is.0, inl is.1, is.2)
  of-both own (CallFailed call) fault is = is

  pub Runs-both : (of : Run WordFault → Type 0) (result : Result (Unit {0}) WordFault) (old new : Environment) → Runs (file_faults file) of result old new → Runs (feed_faults file file) of result old new
  Runs-both of result old new made = record {
    run = made.run;
    is = made.is;
    ran = record {
      halt = made.ran.halt;
      did = made.ran.did;
      fault = made.ran.fault;
      is_fault = of-both made.run.fault made.ran.halt made.ran.fault made.ran.is_fault;
      answers = made.ran.answers;
      keeps = made.ran.keeps;
    };
  }

-- a file of a table's size has fewer records than a number counts
pub numbered-records : (bytes : List ℕ) → length bytes ≤ file_limit → length (records_of bytes) < 2 ^ 32
numbered-records bytes within = omega (arith, few-records bytes)

-- some run behind the fetch
some-checked : (bytes : List ℕ) → (run : Run WordFault) × IsCheckedRun bytes run
some-checked bytes = elim (some-read (records_of bytes)) [
  | inl are ↦ let verdict = some-verdict are.0 in (lines_run (verdict_line verdict.0 ∷ []), judged are.0 verdict.0 are.1 verdict.1)
  | inr form ↦ (fails (CertForm form.0), strange form.0 form.1)
]

some-read_run : (bytes : Result (List ℕ) WordFault) → (run : Run WordFault) × IsReadRun bytes run
some-read_run (Ok bytes) = some-checked bytes
some-read_run (Err fault) = (fails fault, refl)

read-err : (bytes : Result (List ℕ) WordFault) (run : Run WordFault) (fault : WordFault) → IsReadRun bytes run → bytes ≡ Err fault → run ≡ fails fault
read-err bytes run fault is e = subst (λ b. IsReadRun b run) e is

-- what a fetch of bytes gives
abbrev pub IsBytesOf : Option (List ℕ) → Result (Vec ℕ Global) WordFault → Type 0
IsBytesOf there result =
    MatchResult result (λ bytes. or_read 1 (fetched_bytes file_limit there) ≡ Ok bytes.items) (λ fault. or_read 1 (fetched_bytes file_limit there) ≡ Err fault)

module _ (file : List ℕ) (environment : Environment) (files : FilesState) where
  -- the file was not read
  pub Ran-unread : (fault : WordFault) → FetchesFile {A = Vec ℕ Global} Memory (λ why. why ≡ Read 1 fetch.Failed) file (Err fault) IsBytesOf environment.files files
      → Runs (file_faults file) (IsCheckRun (finds_in environment.files.contents) file) (Err fault) environment (record environment { files = files })
  unfolding fetches-loosely
  Ran-unread fault f =
      let more = some-read_run (or_read 1 (fetched_bytes file_limit f.there)) in record {
        run = behind (Fetch file ∷ []) more.0;
        is = (f.there, found-before file _ _ environment.files files f, more.0, more.1, refl);
        ran = Ran-unfetched environment files file fault IsBytesOf (behind (Fetch file ∷ []) more.0) more.0.events
            (fetches-loosely {A = Vec ℕ Global} file (Err fault) IsBytesOf environment.files files (λ why is. (refl, is)) f) refl
            (λ given. ap (behind (Fetch file ∷ [])) (read-err (or_read 1 (fetched_bytes file_limit f.there)) more.0 fault more.1 given));
      }

  -- it was read
  pub Ran-checked : (bytes : Vec ℕ Global) (result : Result (Unit {0}) WordFault) (new : Environment) → FetchesFile {A = Vec ℕ Global} Memory (λ why. why ≡ Read 1 fetch.Failed) file (Ok bytes) IsBytesOf environment.files files
      → Runs put_faults (IsCheckedRun bytes.items) result (record environment { files = files }) new → Runs (file_faults file) (IsCheckRun (finds_in environment.files.contents) file) result environment new
  Ran-checked bytes result new f made =
      let read = fetched-ok environment files file bytes IsBytesOf f in record {
        run = behind (Fetch file ∷ []) made.run;
        is = (f.there, found-before file _ _ environment.files files f, made.run, subst (λ b. IsReadRun b made.run) (sym read.given) made.is, refl);
        ran = Ran-behind (Fetch file ∷ []) made.run result environment (record environment { files = files }) new read.has
            (Ran-puts file made.run result (record environment { files = files }) new made.ran);
      }

-- the run behind the fetch, of a call that ended with a fault
module _ (bytes : List ℕ) (at : Environment) where
  pub Ran-no_cert : (fault : WordFault) → IsCertIn bytes (Err fault) → Runs put_faults (IsCheckedRun bytes) (Err fault) at at
  Ran-no_cert fault (inl e) =
      let some = some-checked bytes in record { run = some.0; is = some.1; ran = subst (λ f. Ran put_faults some.0 (Err f) at at) (sym e) (Ran-first some.0 at) }
  Ran-no_cert fault (inr form) =
      record {
        run = fails (CertForm form.0);
        is = strange form.0 form.2;
        ran = Ran-all (fails (CertForm form.0)) (Err fault) at at (HasDone-none at) (inl (ap Err form.1));
      }

  pub Ran-no_verdict : Runs put_faults (IsCheckedRun bytes) (Err Memory) at at
  Ran-no_verdict = let some = some-checked bytes in record { run = some.0; is = some.1; ran = Ran-first some.0 at }

  pub Ran-verdict : (cert : Cert) (verdict : Verdict) (result : Result (Unit {0}) WordFault) (new : Environment) → AreRecordsOf cert (records_of bytes) → IsVerdict cert verdict
      → Ran put_faults (lines_run (verdict_line verdict ∷ [])) result at new → Runs put_faults (IsCheckedRun bytes) result at new
  Ran-verdict cert verdict result new are is ran = record { run = lines_run (verdict_line verdict ∷ []); is = judged cert verdict are is; ran = ran }

-- the word has a run
pub some-check_run : (finds : Finds) → ((name : List ℕ) → (there : Option (List ℕ)) × finds name there) → (file : List ℕ) → (run : Run WordFault) × IsCheckRun finds file run
some-check_run finds has file =
    let there = has file in
    let more = some-read_run (or_read 1 (fetched_bytes file_limit there.0)) in
    (behind (Fetch file ∷ []) more.0, (there.0, there.1, more.0, more.1, refl))

-- and one alone
both : (bytes : List ℕ) (cert : Cert) (place : ℕ) → AreRecordsOf cert (records_of bytes) → IsForm (records_of bytes) place → ⊥
both bytes cert place are form = elim (reads-it cert (records_of bytes) (Err (Form place)) are form) [ inl e ↦ cc | inr e ↦ cc ]

IsCheckedRun-one : (bytes : List ℕ) (a b : Run WordFault) → IsCheckedRun bytes a → IsCheckedRun bytes b → a ≡ b
IsCheckedRun-one bytes _ _ (strange place form) (strange other also) = ap (λ n. fails (CertForm n)) (one-form (records_of bytes) place other form also)
IsCheckedRun-one bytes _ _ (strange place form) (judged cert verdict are is) = absurd (both bytes cert place are form)
IsCheckedRun-one bytes _ _ (judged cert verdict are is) (strange place form) = absurd (both bytes cert place are form)
IsCheckedRun-one bytes _ _ (judged cert verdict are is) (judged other judgement also has) =
    ap (λ v. lines_run (verdict_line v ∷ []))
    (one-verdict other verdict judgement (subst (λ c. IsVerdict c verdict) (one-cert cert other (records_of bytes) are also) is) has)

IsReadRun-one : (bytes : Result (List ℕ) WordFault) (a b : Run WordFault) → IsReadRun bytes a → IsReadRun bytes b → a ≡ b
IsReadRun-one (Err fault) a b p q = p ∙ sym q
IsReadRun-one (Ok bytes) a b p q = IsCheckedRun-one bytes a b p q

pub IsCheckRun-one : (finds : Finds) → OneFile finds → (file : List ℕ) (a b : Run WordFault) → IsCheckRun finds file a → IsCheckRun finds file b → a ≡ b
IsCheckRun-one finds one file a b p q =
    let same = IsReadRun-one (or_read 1 (fetched_bytes file_limit q.0)) p.2 q.2 (subst (λ there. IsReadRun (or_read 1 (fetched_bytes file_limit there)) p.2) (one file p.0 q.0 p.1 q.1) p.3) q.3 in
    p.4 ∙ ap (behind (Fetch file ∷ [])) same ∙ sym q.4

-- it calls no scorer
calls-checked : (bytes : List ℕ) (run : Run WordFault) → IsCheckedRun bytes run → calls run.events ≡ []
calls-checked bytes _ (strange place form) = refl
calls-checked bytes _ (judged cert verdict are is) = refl

calls-read : (bytes : Result (List ℕ) WordFault) (run : Run WordFault) → IsReadRun bytes run → calls run.events ≡ []
calls-read (Err fault) run is = ap (λ (run : Run WordFault). calls run.events) is
calls-read (Ok bytes) run is = calls-checked bytes run is

pub check-no_calls : (finds : Finds) (file : List ℕ) (run : Run WordFault) → IsCheckRun finds file run → calls run.events ≡ []
check-no_calls finds file run is = ap (λ (run : Run WordFault). calls run.events) is.4 ∙ calls-read (or_read 1 (fetched_bytes file_limit is.0)) is.2 is.3
