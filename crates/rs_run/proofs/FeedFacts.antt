-- The runs of the words over feeds and certificates, with their faults told by the names of their files.
use Rattle.std.proofs.Common.{ℕ, ◌≡◌, ◌∙◌, ◌⊎◌, ◌++◌, List, [], ◌∷◌, Option, Some, None, Ok, Err, refl, sym, ap, subst, inl, inr}
use Rattle.std.specs.Prelude.{option_map}
use Rattle.rs_outside.specs.declared.files.FetchFault.TheVariants as fetch
use Rattle.rs_expr.specs.Scoring.{Answering}
use Rattle.rs_expr.specs.declared.scorer.Call.{Call}
use Rattle.rs_events.specs.Environment.{Environment}
use Rattle.rs_events.specs.Events.{Event, Score, calls}
use Rattle.rs_outside.specs.Files.{Finds}
use Rattle.rs_events.specs.HaltFaults.{Answers, IsFaultOf}
use Rattle.rs_events.specs.Halts.{CallFailed, Ended, FetchFailed, Halt, HaltsAt, NoMemory, PutFailed}
use Rattle.rs_events.specs.Run.{Run, with_fault}
use Rattle.rs_events.specs.Running.{Runs}
use Rattle.rs_events.proofs.RanFacts.{calls-append}
use Rattle.rs_words.specs.declared.fault.WordFault.{WordFault}
use Rattle.rs_words.specs.declared.fault.WordFault.TheVariants as word
use Rattle.rs_words.specs.Certifying.{IsCertRun}
use Rattle.rs_words.specs.Checking.{IsCheckRun}
use Rattle.rs_words.specs.Faults.{feed_faults, file_faults}
use Rattle.rs_words.specs.Feeding.{IsFeedRun}
use Rattle.rs_words.specs.TwoFeeds.{FeedWords}
use Rattle.rs_words.proofs.CheckedFacts.{Runs-both, check-no_calls}
use Rattle.rs_words.proofs.RunFacts.{cert-no_calls, feed-no_calls}
use Rattle.rs_statement.specs.declared.fault.Fault.TheVariants as of_statement
use Rattle.rs_run.specs.declared.fault.RunFault.{RunFault}
use Rattle.rs_run.specs.declared.fault.RunFault.TheVariants.{Statement}
use Rattle.rs_run.specs.Faults.{WordsRun, run_faults}
use Rattle.rs_run.specs.FeedTold.{word_fault}
use Rattle.rs_run.specs.Running.{IsFormRun}
use Rattle.rs_run.specs.Words.{Certify, Check, Feed}

-- a call of the scorer is none of the events of a run that has none
no-call : (events done more : List Event) (call : Call) → calls events ≡ [] → events ≡ done ++ (Score call ∷ more) → ⊥
no-call events done more call none split = go (calls done) (sym (calls-append done (Score call ∷ more)) ∙ sym (ap calls split) ∙ none) where
  go : (made : List Call) → made ++ (call ∷ calls more) ≡ [] → ⊥
  go [] e = cc
  go (first ∷ made) e = cc

module _ (left right : List ℕ) where
  -- a halt of such a run has the fault that is told
  fault-told : (own : Option WordFault) (halt : Halt) (fault : Option WordFault) → ((call : Call) → halt ≡ CallFailed call → ⊥) → IsFaultOf (feed_faults left right) own halt fault
      → IsFaultOf run_faults (option_map (word_fault left right) own) halt (option_map (word_fault left right) fault)
  fault-told own Ended fault never is = ap (option_map (word_fault left right)) is
  fault-told own NoMemory fault never is = ap (option_map (word_fault left right)) is
  fault-told own (PutFailed part) fault never is = ap (option_map (word_fault left right)) is
  fault-told own (FetchFailed name) fault never is = (word_fault left right is.0, told is.1, ap (option_map (word_fault left right)) is.2) where
    told : ((name ≡ left) × (is.0 ≡ word.Read 1 fetch.Failed)) ⊎ ((name ≡ right) × (is.0 ≡ word.Read 2 fetch.Failed)) → word_fault left right is.0 ≡ Statement (of_statement.Read name fetch.Failed)
    told (inl both) = ap (word_fault left right) both.1 ∙ ap (λ n. Statement (of_statement.Read n fetch.Failed)) (sym both.0)
    told (inr both) = ap (word_fault left right) both.1 ∙ ap (λ n. Statement (of_statement.Read n fetch.Failed)) (sym both.0)
  fault-told own (CallFailed call) fault never is = absurd (never call refl)

  answers-ok : (fault : Option WordFault) → Answers word.Memory fault (Ok tt) → Answers run_faults.memory (option_map (word_fault left right) fault) (Ok tt)
  answers-ok None answers = refl
  answers-ok (Some why) answers = absurd (elim answers [ inl e ↦ cc | inr e ↦ cc ])

  answers-err : (fault : Option WordFault) (why : WordFault) (told : RunFault) → (told ≡ word_fault left right why) ⊎ (told ≡ Statement of_statement.Memory) → Answers word.Memory fault (Err why)
      → Answers run_faults.memory (option_map (word_fault left right) fault) (Err told)
  answers-err None why told is answers = absurd cc
  answers-err (Some own) why told (inr e) answers = inr (ap Err e)
  answers-err (Some own) why told (inl e) (inl same) = inl (ap Err (e ∙ ap (word_fault left right) (let f : why ≡ own = cc in f)))
  answers-err (Some own) why told (inl e) (inr same) = inr (ap Err (e ∙ ap (word_fault left right) (let f : why ≡ word.Memory = cc in f)))

-- a run of a word that calls no scorer, with its faults told so
abbrev IsToldRun : List ℕ → List ℕ → (Run WordFault → Type 0) → WordsRun → Type 0
IsToldRun left right of run = (own : Run WordFault) × of own × (run ≡ with_fault (word_fault left right) own)

module _ (left right : List ℕ) (of : Run WordFault → Type 0) (silent : (run : Run WordFault) → of run → calls run.events ≡ []) (old new : Environment) where
  -- no call of the scorer halts it
  never : (run : Run WordFault) (done rest : List Event) (halt : Halt) → of run → run.events ≡ done ++ rest → HaltsAt halt rest old new → (call : Call) → halt ≡ CallFailed call → ⊥
  never run done rest halt is split halts call e =
      let at = subst (λ h. HaltsAt h rest old new) e halts in
      no-call run.events done at.0 call (silent run is) (split ∙ ap (λ r. done ++ r) at.1)

  Runs-told_ok : Runs (feed_faults left right) of (Ok tt) old new → Runs run_faults (IsToldRun left right of) (Ok tt) old new
  Runs-told_ok made =
      let ran = made.ran in record {
        run = with_fault (word_fault left right) made.run;
        is = (made.run, made.is, refl);
        ran = record {
          halt = ran.halt;
          did = ran.did;
          fault = option_map (word_fault left right) ran.fault;
          is_fault = fault-told left right made.run.fault ran.halt ran.fault (never made.run ran.did.done ran.did.rest ran.halt made.is ran.did.split ran.did.halts) ran.is_fault;
          answers = answers-ok left right ran.fault ran.answers;
          keeps = ran.keeps;
        };
      }

  Runs-told_err : (why : WordFault) (told : RunFault) → (told ≡ word_fault left right why) ⊎ (told ≡ Statement of_statement.Memory) → Runs (feed_faults left right) of (Err why) old new
      → Runs run_faults (IsToldRun left right of) (Err told) old new
  Runs-told_err why told is made =
      let ran = made.ran in record {
        run = with_fault (word_fault left right) made.run;
        is = (made.run, made.is, refl);
        ran = record {
          halt = ran.halt;
          did = ran.did;
          fault = option_map (word_fault left right) ran.fault;
          is_fault = fault-told left right made.run.fault ran.halt ran.fault (never made.run ran.did.done ran.did.rest ran.halt made.is ran.did.split ran.did.halts) ran.is_fault;
          answers = answers-err left right ran.fault why told is ran.answers;
          keeps = ran.keeps;
        };
      }

-- the words over two feeds
module _ (finds : Finds) (answer : Answering) (words : FeedWords) (old new : Environment) where
  pub Runs-feed_ok : Runs (feed_faults words.left words.right) (IsFeedRun finds words) (Ok tt) old new → Runs run_faults (IsFormRun finds answer (Feed words)) (Ok tt) old new
  Runs-feed_ok made = Runs-told_ok words.left words.right (IsFeedRun finds words) (feed-no_calls finds words) old new made

  pub Runs-feed_err : (why : WordFault) (told : RunFault) → (told ≡ word_fault words.left words.right why) ⊎ (told ≡ Statement of_statement.Memory) → Runs (feed_faults words.left words.right) (IsFeedRun finds words) (Err why) old new
      → Runs run_faults (IsFormRun finds answer (Feed words)) (Err told) old new
  Runs-feed_err why told is made = Runs-told_err words.left words.right (IsFeedRun finds words) (feed-no_calls finds words) old new why told is made

  pub Runs-cert_ok : Runs (feed_faults words.left words.right) (IsCertRun finds words) (Ok tt) old new → Runs run_faults (IsFormRun finds answer (Certify words)) (Ok tt) old new
  Runs-cert_ok made = Runs-told_ok words.left words.right (IsCertRun finds words) (cert-no_calls finds words) old new made

  pub Runs-cert_err : (why : WordFault) (told : RunFault) → (told ≡ word_fault words.left words.right why) ⊎ (told ≡ Statement of_statement.Memory) → Runs (feed_faults words.left words.right) (IsCertRun finds words) (Err why) old new
      → Runs run_faults (IsFormRun finds answer (Certify words)) (Err told) old new
  Runs-cert_err why told is made = Runs-told_err words.left words.right (IsCertRun finds words) (cert-no_calls finds words) old new why told is made

-- the word over one file, which stands for both
module _ (finds : Finds) (answer : Answering) (file : List ℕ) (old new : Environment) where
  pub Runs-check_ok : Runs (file_faults file) (IsCheckRun finds file) (Ok tt) old new → Runs run_faults (IsFormRun finds answer (Check file)) (Ok tt) old new
  Runs-check_ok made = Runs-told_ok file file (IsCheckRun finds file) (check-no_calls finds file) old new (Runs-both file (IsCheckRun finds file) (Ok tt) old new made)

  pub Runs-check_err : (why : WordFault) (told : RunFault) → (told ≡ word_fault file file why) ⊎ (told ≡ Statement of_statement.Memory) → Runs (file_faults file) (IsCheckRun finds file) (Err why) old new
      → Runs run_faults (IsFormRun finds answer (Check file)) (Err told) old new
  Runs-check_err why told is made =
      Runs-told_err file file (IsCheckRun finds file) (check-no_calls finds file) old new why told is (Runs-both file (IsCheckRun finds file) (Err why) old new made)
