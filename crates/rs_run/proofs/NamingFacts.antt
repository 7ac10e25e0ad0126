-- What a look for the predicates of names gives, where the script can't be fetched or isn't made of statements.
use Rattle.std.proofs.Common.{ℕ, ◌≡◌, List, [], ◌∷◌, sym, subst, inl, inr}
use Rattle.std.specs.Prelude.{◌≢◌, ◌⊎◌, IfOk, Option, None, Result, Ok, Err}
use Rattle.rs_value.specs.Outside.{Faulted}
use Rattle.rs_outside.specs.Files.{FilesState, finds_in}
use Rattle.rs_events.specs.Events.{Fetch}
use Rattle.rs_events.specs.Fetching.{FetchFails, Fetched, NotFetched}
use Rattle.rs_events.specs.Run.{behind, fails}
use Rattle.rs_statement.specs.Parts.Steps.{FetchesFile}
use Rattle.rs_statement.specs.Steps.{statement_faults}
use Rattle.rs_statement.specs.declared.fault.Fault.{Fault}
use Rattle.rs_statement.specs.declared.fault.Fault.TheVariants.{Memory}
use Rattle.rs_run.specs.Naming.{IsNoScript}
use Rattle.rs_run.specs.Parts.Read.{IsSource}
use Rattle.rs_run.specs.Parts.Script.{IsRefused}
use Rattle.rs_run.specs.Plain.{read, unread}

-- no name is given
pub if-none : {A E : Type 0} (result : Result (Option A) E) (P : Option A → Type 0) (fault : Fault) → (fault ≢ Memory → P None)
    → IfOk result (λ name. (name ≡ None) × (fault ≢ Memory)) → IfOk result P
if-none (Ok name) P fault gives is = subst P (sym is.0) (gives is.1)
if-none (Err e) P fault gives is = is

-- the script can't be fetched
pub no-script : (name : List ℕ) (fault : Fault) (old new : FilesState) → fault ≢ Memory
    → FetchesFile {A = List ℕ} name (Err fault) (IsSource name) old new → IsNoScript (finds_in new.contents) name ⊎ Faulted old.outside new.outside
no-script name fault old new not_memory f = go f.does where
  go : (NotFetched {A = List ℕ} Memory (Err fault) old new ⊎ FetchFails {A = List ℕ} Memory (statement_faults.IsFailedFetch name) name (Err fault) old new) ⊎ Fetched Memory name (IsSource name f.there) (Err fault) old new
      → IsNoScript (finds_in new.contents) name ⊎ Faulted old.outside new.outside
  go (inl (inl none)) = absurd (let e = none.answers in let same : fault ≡ Memory = cc in not_memory same)
  go (inl (inr failed)) = inr failed.faulted
  go (inr fetched) = elim fetched.answers [
    | inl e ↦ inl (behind (Fetch name ∷ []) (fails fault), unread f.there fault f.is_found (sym e))
    | inr e ↦ absurd (let same : fault ≡ Memory = cc in not_memory same)
  ]

-- its text isn't made of statements
pub no-statements : (name text : List ℕ) (fault : Fault) (old new : FilesState) → fault ≢ Memory → (fault ≡ Memory) ⊎ IsRefused text fault
    → FetchesFile {A = List ℕ} name (Ok text) (IsSource name) old new → IsNoScript (finds_in new.contents) name ⊎ Faulted old.outside new.outside
no-statements name text fault old new not_memory (inl memory) f = absurd (not_memory memory)
no-statements name text fault old new not_memory (inr refused) f = go f.does where
  go : (NotFetched {A = List ℕ} Memory (Ok text) old new ⊎ FetchFails {A = List ℕ} Memory (statement_faults.IsFailedFetch name) name (Ok text) old new) ⊎ Fetched Memory name (IsSource name f.there) (Ok text) old new
      → IsNoScript (finds_in new.contents) name ⊎ Faulted old.outside new.outside
  go (inl (inl none)) = absurd (let e = none.answers in cc)
  go (inl (inr failed)) = inr failed.faulted
  go (inr fetched) = elim fetched.answers [
    | inl e ↦ inl (behind (Fetch name ∷ []) (fails fault), read f.there text (fails fault) f.is_found (sym e) refused)
    | inr e ↦ absurd cc
  ]
