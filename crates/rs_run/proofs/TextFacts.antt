-- What the text of a script did, from what the lexer, the parser and the statements did; and what its file did.
use Rattle.std.proofs.Common.{ℕ, ◌≡◌, ◌∙◌, ◌≤◌, List, [], ◌∷◌, refl, sym, ap, subst, inl, inr}
use Rattle.std.specs.Prelude.{IfErr, Option, Some, None, option_map, Result, Ok, Err, IsErr, IsErrAnd, length, ◌⊎◌}
use Rattle.rs_value.specs.Outside.{Outside}
use Rattle.rs_outside.specs.Files.{FilesState, Finds, finds_in}
use Rattle.rs_lex.specs.Spelling as spelling
use Rattle.rs_lex.specs.Spelling.{Spells, most_tokens}
use Rattle.rs_lex.specs.declared.fault.LexFault.{LexFault}
use Rattle.rs_lex.specs.declared.fault.LexFault.TheVariants as lex
use Rattle.rs_lex.specs.declared.token.Token.{Token}
use Rattle.rs_expr.specs.Scoring.{ScorerState}
use Rattle.rs_syntax.specs.Scripts.{Refuses}
use Rattle.rs_syntax.specs.Syntax.{Command, commands_of}
use Rattle.rs_syntax.specs.declared.statement.Statement as syntax_statement
use Rattle.rs_syntax.specs.declared.fault.SyntaxFault.{SyntaxFault}
use Rattle.rs_syntax.specs.declared.fault.SyntaxFault.TheVariants as syntax
use Rattle.rs_statement.specs.declared.fault.Fault.{Fault}
use Rattle.rs_statement.specs.declared.fault.Fault.TheVariants.{Memory}
use Rattle.rs_statement.specs.Faults.{lex_fault, parse_fault}
use Rattle.rs_events.specs.Fetching as fetching
use Rattle.rs_events.specs.Fetching.{FetchFails, Fetched, NotFetched}
use Rattle.rs_events.specs.HaltFaults.{HaltFaults}
use Rattle.rs_events.specs.Run as events
use Rattle.rs_events.specs.Running as running
use Rattle.rs_statement.specs.Parts.Steps.{FetchesFile}
use Rattle.rs_run.specs.Parts.Read.{IsSource}
use Rattle.rs_run.specs.Parts.Script.{IsRefused, IsScriptRead, ScriptRead, TellScript}
use Rattle.rs_run.specs.Plain.{HasStatements, HasTokens, ScriptRuns, TextRuns, as_it_is, read, runs, unlexed, unparsed, unread}
use Rattle.rs_events.specs.Events.{Event, Fetch}
use Rattle.rs_statement.specs.Steps.{Run, statement_faults}
use Rattle.rs_events.specs.Run.{behind, fails, with_fault}
use Rattle.rs_events.specs.Sequence.{RunOf, RunsOn, Step}
use Rattle.rs_events.specs.Environment.{Environment}
use Rattle.rs_events.proofs.FetchFacts.{Ran-unfetched, fetched-ok, found-before}
use Rattle.rs_events.proofs.RanFacts.{HasDone-none, Ran-all, Ran-behind, Ran-first, Runs-apart}
use Rattle.rs_outside.proofs.ContentsFacts.{finds-before}
use Rattle.rs_run.proofs.EachFacts.{script-has_run}

-- the lexer refuses the text
unlexed-refused : (script : List ℕ) (why : LexFault) → (why ≡ lex.Memory) ⊎ spelling.RefusesBytes 0 0 script why → IsRefused script (lex_fault why) ⊎ (lex_fault why ≡ Memory)
unlexed-refused script lex.Memory refused = inr refl
unlexed-refused script (lex.BadByte at) refused = elim refused [ inl e ↦ absurd cc | inr r ↦ inl (unlexed _ r) ]
unlexed-refused script (lex.OpenText at) refused = elim refused [ inl e ↦ absurd cc | inr r ↦ inl (unlexed _ r) ]
unlexed-refused script (lex.NumberTooWide at) refused = elim refused [ inl e ↦ absurd cc | inr r ↦ inl (unlexed _ r) ]
unlexed-refused script (lex.TooManyTokens at) refused = elim refused [ inl e ↦ absurd cc | inr r ↦ inl (unlexed _ r) ]

-- the parser refuses the tokens
unparsed-refused : (script : List ℕ) (tokens : List Token) (why : SyntaxFault) → HasTokens script tokens → (why ≡ syntax.Memory) ⊎ Refuses script tokens why
    → IsRefused script (parse_fault why) ⊎ (parse_fault why ≡ Memory)
unparsed-refused script tokens syntax.Memory lexed refused = inr refl
unparsed-refused script tokens (syntax.Expected at) lexed refused = elim refused [ inl e ↦ absurd cc | inr r ↦ inl (unparsed tokens _ lexed r) ]
unparsed-refused script tokens (syntax.TooDeep at) lexed refused = elim refused [ inl e ↦ absurd cc | inr r ↦ inl (unparsed tokens _ lexed r) ]
unparsed-refused script tokens (syntax.TooManyStatements at) lexed refused = elim refused [ inl e ↦ absurd cc | inr r ↦ inl (unparsed tokens _ lexed r) ]
unparsed-refused script tokens (syntax.NotInProfile at) lexed refused = elim refused [ inl e ↦ absurd cc | inr r ↦ inl (unparsed tokens _ lexed r) ]

-- so no statements are made of it, whatever they do
either : {A B : Type 0} → A ⊎ B → B ⊎ A
either (inl a) = inr a
either (inr b) = inl b

pub refused-unlexed : {A : Type 0} (script : List ℕ) (why : LexFault) (result : Result A Fault) → IsErr result × IsErrAnd result (λ fault. fault ≡ lex_fault why)
    → (why ≡ lex.Memory) ⊎ spelling.RefusesBytes 0 0 script why → IfErr result (λ fault. (fault ≡ Memory) ⊎ IsRefused script fault)
refused-unlexed script why (Ok a) err refused = absurd err.1
refused-unlexed script why (Err fault) err refused =
    subst (λ f. (f ≡ Memory) ⊎ IsRefused script f) (sym err.1) (either (unlexed-refused script why refused))

pub refused-unparsed : {A : Type 0} (script : List ℕ) (tokens : List Token) (why : SyntaxFault) (result : Result A Fault) → IsErr result × IsErrAnd result (λ fault. fault ≡ parse_fault why)
    → HasTokens script tokens → (why ≡ syntax.Memory) ⊎ Refuses script tokens why → IfErr result (λ fault. (fault ≡ Memory) ⊎ IsRefused script fault)
refused-unparsed script tokens why (Ok a) err lexed refused = absurd err.1
refused-unparsed script tokens why (Err fault) err lexed refused =
    subst (λ f. (f ≡ Memory) ⊎ IsRefused script f) (sym err.1) (either (unparsed-refused script tokens why lexed refused))

-- the same text has the same refusals whatever the statements do, and whatever the type of faults
TextRuns-refused : {F : Type 0} (told : Fault → F) (statements : List Command → events.Run F → Type 0) (script : List ℕ) (fault : Fault) → IsRefused script fault
    → TextRuns told statements script (fails (told fault))
TextRuns-refused {F} told statements script fault refused = go (fails fault) refused where
  go : (run : Run) → TextRuns as_it_is (λ commands run. ⊥) script run → TextRuns told statements script (with_fault told run)
  go _ (unlexed why refuses) = unlexed why refuses
  go _ (unparsed tokens why lexed refuses) = unparsed tokens why lexed refuses
  go run (runs commands _ made is) = absurd is

-- the text is refused
module _ {F : Type 0} (faults : HaltFaults F) (told : Fault → F) (memory_is : told Memory ≡ faults.memory) (statements : List Command → events.Run F → Type 0) (script : List ℕ) where
  Text-fails : ((run : events.Run F) × TextRuns told statements script run) → (fault : Fault) (environment : Environment)
      → (fault ≡ Memory) ⊎ IsRefused script fault → running.Runs faults (TextRuns told statements script) (Err (told fault)) environment environment
  Text-fails each fault environment (inr is) = record {
    run = fails (told fault);
    is = TextRuns-refused told statements script fault is;
    ran = Ran-all (fails (told fault)) (Err (told fault)) environment environment (HasDone-none environment) (inl refl);
  }
  Text-fails each fault environment (inl memory) = record {
    run = each.0;
    is = each.1;
    ran = subst (λ (fault : F). running.Ran faults each.0 (Err fault) environment environment) (sym (ap told memory ∙ memory_is)) (Ran-first each.0 environment);
  }

  pub Text-refused : ((run : events.Run F) × TextRuns told statements script run) → (why : Fault) (result : Result (Unit {0}) F)
      (environment : Environment) → IsErr result × IsErrAnd result (λ fault. fault ≡ told why) → (why ≡ Memory) ⊎ IsRefused script why
      → running.Runs faults (TextRuns told statements script) result environment environment
  Text-refused each why (Ok done) environment err refused = absurd err.1
  Text-refused each why (Err fault) environment err refused =
      subst (λ (fault : F). running.Runs faults (TextRuns told statements script) (Err fault) environment environment) (sym err.1) (Text-fails each why environment refused)

  -- statements are made of it, and they were run
  pub Text-made : (commands : List Command) (result : Result (Unit {0}) F) (old new : Environment)
      → HasStatements script commands → running.Runs faults (statements commands) result old new → running.Runs faults (TextRuns told statements script) result old new
  Text-made commands result old new made ran = record { run = ran.run; is = runs commands ran.run made ran.is; ran = ran.ran }

-- other statements that do as much
TextRuns-turn : {F : Type 0} (told : Fault → F) (a b : List Command → events.Run F → Type 0) → ((commands : List Command) (run : events.Run F) → a commands run → b commands run)
    → (script : List ℕ) (run : events.Run F) → TextRuns told a script run → TextRuns told b script run
TextRuns-turn told a b turn script _ (unlexed fault refuses) = unlexed fault refuses
TextRuns-turn told a b turn script _ (unparsed tokens fault lexed refuses) = unparsed tokens fault lexed refuses
TextRuns-turn told a b turn script run (runs commands _ made is) = runs commands run made (turn commands run is)

pub ScriptRuns-turn : {F : Type 0} (told : Fault → F) (finds : Finds) (a b : List Command → events.Run F → Type 0) → ((commands : List Command) (run : events.Run F) → a commands run → b commands run)
    → (name : List ℕ) (run : events.Run F) → ScriptRuns told finds a name run → ScriptRuns told finds b name run
ScriptRuns-turn told finds a b turn name _ (unread there fault found is) = unread there fault found is
ScriptRuns-turn told finds a b turn name _ (read there script run found is text) = read there script run found is (TextRuns-turn told a b turn script run text)

-- a script that was read is made of its statements
pub script-made : (read : Option ScriptRead) (text : List ℕ) (statements : List syntax_statement.Statement) → option_map (λ (r : ScriptRead). r.text) read ≡ Some text
    → ((r : ScriptRead) → read ≡ Some r → statements ≡ r.statements) → ((r : ScriptRead) → read ≡ Some r → IsScriptRead r) → HasStatements text (commands_of statements)
script-made None text statements is same made = cc
script-made (Some r) text statements is same made =
    let own : r.text ≡ text = cc in
    subst (λ t. HasStatements t (commands_of statements)) own (subst (λ all. HasStatements r.text (commands_of all)) (sym (same r refl)) (made r refl).made)

-- the tokens of the script, as the slice that is parsed
pub HasTokens-slice : (script : List ℕ) (made slice : List Token) → Spells 0 script made → length made ≤ most_tokens → slice ≡ made → HasTokens script slice
HasTokens-slice script made slice spells few same = subst (HasTokens script) (sym same) (record { spells = spells; few = few })

-- runs where files hold as much
pub RunOf-finds : {F S C : Type 0} (a b : S → C → Step F S → Type 0) → ((state : S) (command : C) (step : Step F S) → a state command step → b state command step)
    → (state : S) (commands : List C) (run : events.Run F) → RunOf a state commands run → RunOf b state commands run
RunOf-finds a b more state [] run is = is
RunOf-finds {F} {S} {C} a b more state (command ∷ rest) run is = (
  is.0,
  more state command is.0 is.1,
  on is.0.events is.0.outcome (λ next later r. RunOf-finds a b more next rest later r) is.2,
) where
  on : (made : List Event) (outcome : Result S F) → ((next : S) (later : events.Run F) → RunOf a next rest later → RunOf b next rest later)
      → RunsOn (λ next more. RunOf a next rest more) made outcome run → RunsOn (λ next more. RunOf b next rest more) made outcome run
  on made (Err fault) turn r = r
  on made (Ok next) turn r = (r.0, turn next r.0 r.1, r.2)

-- a fetch that did not go well, told as one of another type of faults
FetchesFile-told : {F A : Type 0} (told : Fault → F) (memory : F) (Tells : F → Type 0) (name : List ℕ) → told Memory ≡ memory → ((fault : Fault) → statement_faults.IsFailedFetch name fault → Tells (told fault))
    → (fault : Fault) (gives : Option (List ℕ) → Result A Fault → Type 0) (old new : FilesState) → FetchesFile {A = A} name (Err fault) gives old new
    → fetching.FetchesFile {A = A} memory Tells name (Err (told fault)) (λ there r. gives there (Err fault) × (r ≡ Err (told fault))) old new
FetchesFile-told {F} {A} told memory Tells name memory_is tell fault gives old new f =
    record { there = f.there; is_found = f.is_found; learned = tt; does = go f.does; keeps = f.keeps } where
      none : ◌≡◌ {A = Result A Fault} (Err fault) (Err Memory) → ◌≡◌ {A = Result A F} (Err (told fault)) (Err memory)
      none e = ap Err (ap told (let same : fault ≡ Memory = cc in same) ∙ memory_is)

      go : (NotFetched {A = A} Memory (Err fault) old new ⊎ FetchFails {A = A} Memory (statement_faults.IsFailedFetch name) name (Err fault) old new) ⊎ Fetched {A = A} Memory name (gives f.there) (Err fault) old new
          → (NotFetched {A = A} memory (Err (told fault)) old new ⊎ FetchFails {A = A} memory Tells name (Err (told fault)) old new)
          ⊎ Fetched {A = A} memory name (λ r. gives f.there (Err fault) × (r ≡ Err (told fault))) (Err (told fault)) old new
      go (inl (inl nothing)) = inl (inl (record { same = nothing.same; answers = none nothing.answers }))
      go (inl (inr failed)) = inl (inr (record {
        fetched = failed.fetched;
        faulted = failed.faulted;
        answers = elim failed.answers [
          | inl why ↦ inl (told fault, tell fault (subst (statement_faults.IsFailedFetch name) (let same : why.0 ≡ fault = let e = why.2 in cc in same) why.1), refl)
          | inr e ↦ inr (none e)
        ];
      }))
      go (inr fetched) = inr (record { fetched = fetched.fetched; answers = elim fetched.answers [ inl e ↦ inl (e, refl) | inr e ↦ inr (none e) ] })

-- the run of a script over what a fetch found
module _ {F : Type 0} (told : Fault → F) (faults : HaltFaults F) (tell : TellScript told faults) (name : List ℕ) (environment : Environment) (files : FilesState) where
  -- there was no script
  pub Script-unread : (statements : List Command → events.Run F → Type 0) → ((commands : List Command) → (run : events.Run F) × statements commands run)
      → (fault : Fault) → FetchesFile {A = List ℕ} name (Err fault) (IsSource name) environment.files files
      → running.Runs faults (ScriptRuns told (finds_in environment.files.contents) statements name) (Err (told fault)) environment (record environment { files = files })
  Script-unread statements each fault f = go f.does where
    as_told : fetching.FetchesFile {A = List ℕ} faults.memory (faults.IsFailedFetch name) name (Err (told fault)) (λ there r. IsSource name there (Err fault) × (r ≡ Err (told fault))) environment.files files
    as_told = FetchesFile-told told faults.memory (faults.IsFailedFetch name) name tell.memory (tell.failed_fetch name) fault (IsSource name) environment.files files f

    -- the fetch failed, or there was no memory for the text
    broken : (FetchesFile {A = List ℕ} name (Err fault) (λ there r. ⊥) environment.files files)
        → running.Runs faults (ScriptRuns told (finds_in environment.files.contents) statements name) (Err (told fault)) environment (record environment { files = files })
    broken does =
        let some = script-has_run told statements each (finds_in environment.files.contents) name f.there (found-before name _ _ environment.files files f) in record {
          run = some.0;
          is = some.2;
          ran = Ran-unfetched environment files name (told fault) (λ there r. ⊥ × (r ≡ Err (told fault))) some.0 some.1
              (FetchesFile-told told faults.memory (faults.IsFailedFetch name) name tell.memory (tell.failed_fetch name) fault (λ there r. ⊥) environment.files files does)
              some.3 (λ no. absurd no.0);
        }

    go : (NotFetched {A = List ℕ} Memory (Err fault) environment.files files ⊎ FetchFails {A = List ℕ} Memory (statement_faults.IsFailedFetch name) name (Err fault) environment.files files) ⊎ Fetched Memory name (IsSource name f.there) (Err fault) environment.files files
        → running.Runs faults (ScriptRuns told (finds_in environment.files.contents) statements name) (Err (told fault)) environment (record environment { files = files })
    go (inl none) = broken (record { there = f.there; is_found = f.is_found; learned = tt; does = inl none; keeps = f.keeps })
    go (inr fetched) = elim fetched.answers [
      | inl e ↦ record {
        run = behind (Fetch name ∷ []) (fails (told fault));
        is = unread f.there fault (found-before name _ _ environment.files files f) (sym e);
        ran = Ran-unfetched environment files name (told fault) (λ there r. IsSource name there (Err fault) × (r ≡ Err (told fault))) (behind (Fetch name ∷ []) (fails (told fault))) [] as_told refl (λ e. refl);
      }
      | inr e ↦ broken (record { there = f.there; is_found = f.is_found; learned = tt; does = inr (record { fetched = fetched.fetched; answers = inr e }); keeps = f.keeps })
    ]

  -- the script was read, and its text was run
  pub Script-read : (statements later : List Command → events.Run F → Type 0) → ((commands : List Command) (run : events.Run F) → ((name : List ℕ) (there : Option (List ℕ)) → finds_in files.contents name there → finds_in environment.files.contents name there) → later commands run → statements commands run)
      → (script : List ℕ) (result : Result (Unit {0}) F) (new : Environment) → FetchesFile name (Ok script) (IsSource name) environment.files files
      → running.Runs faults (TextRuns told later script) result (record environment { files = files }) new
      → running.Runs faults (ScriptRuns told (finds_in environment.files.contents) statements name) result environment new
  Script-read statements later turn script result new f text =
      let source = fetched-ok environment files name script (IsSource name) f in record {
        run = behind (Fetch name ∷ []) text.run;
        is = read f.there script text.run (found-before name _ _ environment.files files f) (sym source.given)
            (TextRuns-turn told later statements (λ commands run is. turn commands run (finds-before environment.files.contents files.contents f.keeps.contents) is) script text.run text.is);
        ran = Ran-behind (Fetch name ∷ []) text.run result environment (record environment { files = files }) new source.has text.ran;
      }

-- a run told of a caller's own objects, which are those that it left, beside a standard error of its own
pub Runs-of : {F : Type 0} {faults : HaltFaults F} (of : events.Run F → Type 0) (result : Result (Unit {0}) F) (old new beside : Environment) (files : FilesState) (scorer : ScorerState) (out : Outside (List (List ℕ)))
    → files ≡ new.files → scorer ≡ new.scorer → out ≡ new.out → running.Runs faults of result old new
    → running.Runs faults of result (record beside { files = old.files; scorer = old.scorer; out = old.out }) (record beside { files = files; scorer = scorer; out = out })
Runs-of of result old new beside files scorer out same_files same_scorer same_out ran =
    rw (same_files, same_scorer, same_out) (Runs-apart of result old new beside.err beside.references ran)
