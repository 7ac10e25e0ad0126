-- The runs of words, put together from what the parts did.
use Rattle.std.proofs.Common.{ℕ, ◌≡◌, ◌∙◌, List, [], ◌∷◌, map, refl, sym, ap, subst, inl, inr}
use Rattle.std.specs.Prelude.{None, Some, Result, Ok, Err, ◌⊎◌}
use Rattle.rs_outside.specs.Files.{FilesState, Finds, finds_in}
use Rattle.rs_table.specs.Relation.{Relation}
use Rattle.rs_value.specs.Results.{◌>>=◌}
use Rattle.rs_rank.specs.declared.answer.Answer.{Answer}
use Rattle.rs_expr.specs.Scoring.{Answering}
use Rattle.rs_statement.specs.declared.fault.Fault.{Fault}
use Rattle.rs_statement.specs.declared.fault.Fault.TheVariants.{Memory}
use Rattle.rs_run.specs.Words.{Form, Top, TopWords, form_of}
use Rattle.rs_statement.specs.Lines.{rank_lines}
use Rattle.rs_run.specs.Top.{best_rows, ranked_lines, top_lines}
use Rattle.rs_events.specs.Events.{Event, Fetch, Put}
use Rattle.rs_events.specs.Run.{fails, fetch_then, lines_run, with_fault}
use Rattle.rs_events.specs.HaltFaults.{TellAs}
use Rattle.rs_events.specs.Running as running
use Rattle.rs_run.specs.Running.{IsFormRun, IsRun, IsRunOf, OfForm}
use Rattle.rs_events.specs.Environment.{Environment}
use Rattle.rs_statement.specs.Steps.{Run, statement_faults}
use Rattle.rs_run.specs.declared.fault.RunFault.{RunFault}
use Rattle.rs_run.specs.declared.fault.RunFault.TheVariants.{Statement, Usage}
use Rattle.rs_run.specs.Faults.{WordsRun, run_faults}
use Rattle.rs_statement.specs.Parts.Steps.{FetchesFile, Ran, Runs}
use Rattle.rs_run.specs.Parts.Read.{IsTopTable}
use Rattle.rs_events.proofs.FetchFacts.{Ran-unfetched, fetched-ok, found-before}
use Rattle.rs_events.proofs.ToldFacts.{Ran-told_err, Ran-told_ok}
use Rattle.rs_events.proofs.RanFacts.{HasDone-none, Ran-all, Ran-behind, Ran-no_memory}

-- what is left of a run behind its fetch
rest_of : Result (List (List ℕ)) Fault → List Event
rest_of (Ok lines) = map Put lines
rest_of (Err fault) = []

events-fetch_then : (name : List ℕ) (lines : Result (List (List ℕ)) Fault) → (fetch_then name lines).events ≡ Fetch name ∷ rest_of lines
unfolding rest_of
events-fetch_then name (Ok lines) = refl
events-fetch_then name (Err fault) = refl

-- the run of `top` over what a fetch found
module _ (answer : Answering) (top : TopWords) (environment : Environment) (files : FilesState) where
  -- no table was fetched
  pub RanTop-no_table : (fault : Fault) → FetchesFile {A = Relation} top.file (Err fault) (IsTopTable top.file top.column) environment.files files
      → Runs (IsRunOf (finds_in environment.files.contents) answer (Top top)) (Err fault) environment (record environment { files = files })
  RanTop-no_table fault f = record {
    run = fetch_then top.file (top_lines top f.there);
    is = (f.there, found-before top.file _ _ environment.files files f, refl);
    ran = Ran-unfetched environment files top.file fault (IsTopTable top.file top.column) (fetch_then top.file (top_lines top f.there)) (rest_of (top_lines top f.there)) f
        (events-fetch_then top.file (top_lines top f.there)) (λ e. ap (λ r. fetch_then top.file (r >>= ranked_lines top)) (sym e));
  }

  -- a table was fetched, and no memory or no score ended the run
  pub RanTop-unranked : (table : Relation) (fault : Fault) → FetchesFile top.file (Ok table) (IsTopTable top.file top.column) environment.files files
      → (fault ≡ Memory) ⊎ (best_rows top.column top.max top.count table ≡ Err fault)
      → Runs (IsRunOf (finds_in environment.files.contents) answer (Top top)) (Err fault) environment (record environment { files = files })
  RanTop-unranked table fault f tells = record { run = fetch_then top.file (top_lines top f.there); is = (f.there, found-before top.file _ _ environment.files files f, refl); ran = go tells } where
    go : (fault ≡ Memory) ⊎ (best_rows top.column top.max top.count table ≡ Err fault) → Ran (fetch_then top.file (top_lines top f.there)) (Err fault) environment (record environment { files = files })
    go (inl memory) = subst (λ fault. Ran (fetch_then top.file (top_lines top f.there)) (Err fault) environment (record environment { files = files })) (sym memory)
        (Ran-no_memory (fetch_then top.file (top_lines top f.there)) (Fetch top.file ∷ []) (rest_of (top_lines top f.there)) environment (record environment { files = files })
        (events-fetch_then top.file (top_lines top f.there)) (fetched-ok environment files top.file table (IsTopTable top.file top.column) f).has)
    go (inr bad) =
        let read = fetched-ok environment files top.file table (IsTopTable top.file top.column) f in
        let lines : Err fault ≡ top_lines top f.there = sym (ap (λ r. r >>= (λ rows. Ok (rank_lines 1 rows))) bad) ∙ ap (λ r. r >>= ranked_lines top) read.given in
        subst (λ r. Ran (fetch_then top.file r) (Err fault) environment (record environment { files = files })) lines
        (Ran-all (fetch_then top.file (Err fault)) (Err fault) environment (record environment { files = files }) read.has (inl refl))

  -- its rows were ranked, and their lines were put
  pub RanTop-ranked : (table : Relation) (rows : List Answer) (result : Result (Unit {0}) Fault) (new : Environment) → FetchesFile top.file (Ok table) (IsTopTable top.file top.column) environment.files files
      → best_rows top.column top.max top.count table ≡ Ok rows → Ran (lines_run (rank_lines 1 rows)) result (record environment { files = files }) new
      → Runs (IsRunOf (finds_in environment.files.contents) answer (Top top)) result environment new
  RanTop-ranked table rows result new f best puts =
      let read = fetched-ok environment files top.file table (IsTopTable top.file top.column) f in record {
        run = fetch_then top.file (top_lines top f.there);
        is = (f.there, found-before top.file _ _ environment.files files f, refl);
        ran = subst (λ r. Ran (fetch_then top.file r) result environment new) (sym (ap (λ r. r >>= (λ rows. Ok (rank_lines 1 rows))) best) ∙ ap (λ r. r >>= ranked_lines top) read.given)
            (Ran-behind (Fetch top.file ∷ []) (lines_run (rank_lines 1 rows)) result environment (record environment { files = files }) new read.has puts);
      }

-- faults of statements, told as those of words
pub statement-faults : TellAs Statement statement_faults run_faults
statement-faults = record { memory = refl; write = refl; failed_call = λ call. refl; failed_fetch = λ name fault is. ap Statement is }

-- the run of a form whose faults are those of statements, told as those of words
abbrev pub Told : Finds → Answering → Form → WordsRun → Type 0
Told finds answer form run = (own : Run) × IsRunOf finds answer form own × (run ≡ with_fault Statement own)

module _ (finds : Finds) (answer : Answering) (form : Form) (old new : Environment) where
  pub Runs-told_ok : Runs (IsRunOf finds answer form) (Ok tt) old new → running.Runs run_faults (Told finds answer form) (Ok tt) old new
  Runs-told_ok ran = record {
    run = with_fault Statement ran.run;
    is = (ran.run, ran.is, refl);
    ran = Ran-told_ok Statement statement_faults run_faults statement-faults ran.run old new ran.ran;
  }

  pub Runs-told_err : (fault : Fault) → Runs (IsRunOf finds answer form) (Err fault) old new → running.Runs run_faults (Told finds answer form) (Err (Statement fault)) old new
  Runs-told_err fault ran = record {
    run = with_fault Statement ran.run;
    is = (ran.run, ran.is, refl);
    ran = Ran-told_err Statement statement_faults run_faults statement-faults ran.run old new fault ran.ran;
  }

-- a run of words whose form is known
pub Runs-words : (finds : Finds) (answer : Answering) (words : List (List ℕ)) (form : Form) (result : Result (Unit {0}) RunFault) (old new : Environment) → form_of words ≡ Some form
    → running.Runs run_faults (IsFormRun finds answer form) result old new → running.Runs run_faults (IsRun finds answer words) result old new
Runs-words finds answer words form result old new is_form ran = subst (λ form. running.Runs run_faults (OfForm finds answer form) result old new) (sym is_form) ran

-- words of no form
pub Runs-usage : (finds : Finds) (answer : Answering) (words : List (List ℕ)) (environment : Environment) → form_of words ≡ None
    → running.Runs run_faults (IsRun finds answer words) (Err Usage) environment environment
Runs-usage finds answer words environment is_form = record {
  run = fails Usage;
  is = subst (λ form. OfForm finds answer form (fails Usage)) (sym is_form) refl;
  ran = Ran-all (fails Usage) (Err Usage) environment environment (HasDone-none environment) (inl refl);
}
