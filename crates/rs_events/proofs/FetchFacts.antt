-- What follows of a fetch in the calls above it, whatever the type of faults.
use Rattle.std.proofs.Common.{ℕ, ◌≡◌, ◌∙◌, ◌++◌, List, [], ◌∷◌, refl, sym, ap, subst, inl, inr}
use Rattle.std.specs.Prelude.{Option, Some, Result, Ok, Err, ◌⊎◌}
use Rattle.rs_outside.specs.Files.{FilesState, finds_in}
use Rattle.rs_outside.proofs.ContentsFacts.{finds-before}
use Rattle.rs_events.specs.Environment.{Environment}
use Rattle.rs_events.specs.Events.{Event, Fetch}
use Rattle.rs_events.specs.Fetching.{FetchFails, Fetched, FetchesFile, NotFetched}
use Rattle.rs_events.specs.HaltFaults.{HaltFaults}
use Rattle.rs_events.specs.Halts.{FetchFailed}
use Rattle.rs_events.specs.Run.{Run}
use Rattle.rs_events.specs.Running.{HasDone, Ran}
use Rattle.rs_events.proofs.RanFacts.{HasDone-files, Ran-all, Ran-no_memory, told-none}

-- the same fault, of a call that answers something else
pub fault-at : {F A B : Type 0} (f g : F) → ◌≡◌ {A = Result A F} (Err f) (Err g) → ◌≡◌ {A = Result B F} (Err f) (Err g)
fault-at f g e = ap Err (let same : f ≡ g = cc in same)

-- what a fetch found it would have found before
pub found-before : {F A : Type 0} {memory : F} {Tells : F → Type 0} (file : List ℕ) (result : Result A F) (gives : Option (List ℕ) → Result A F → Type 0) (old new : FilesState)
    → (f : FetchesFile memory Tells file result gives old new) → finds_in old.contents file f.there
found-before file result gives old new f = finds-before old.contents new.contents f.keeps.contents file f.there f.is_found

-- a file that was fetched, and what it gives
pub record IsFetched {F A : Type 0} (file : List ℕ) (a : A) (gives : Result A F → Type 0) (old new : Environment) : Type 0 where
  pub has : HasDone (Fetch file ∷ []) old new
  pub given : gives (Ok a)

pub fetched-ok : {F A : Type 0} {memory : F} {Tells : F → Type 0} (environment : Environment) (files : FilesState) (file : List ℕ) (a : A) (gives : Option (List ℕ) → Result A F → Type 0)
    → (f : FetchesFile memory Tells file (Ok a) gives environment.files files) → IsFetched file a (gives f.there) environment (record environment { files = files })
fetched-ok {F} {A} {memory} {Tells} environment files file a gives f = go f.does where
  go : (NotFetched {A = A} memory (Ok a) environment.files files ⊎ FetchFails {A = A} memory Tells file (Ok a) environment.files files)
      ⊎ Fetched {A = A} memory file (gives f.there) (Ok a) environment.files files → IsFetched file a (gives f.there) environment (record environment { files = files })
  go (inl (inl nothing)) = absurd (let e = nothing.answers in cc)
  go (inl (inr failed)) = absurd (elim failed.answers [ inl told ↦ let e = told.2 in cc | inr e ↦ cc ])
  go (inr fetched) = record {
    has = HasDone-files environment files (Fetch file ∷ []) fetched.fetched refl refl f.keeps;
    given = elim fetched.answers [ inl e ↦ e | inr e ↦ absurd cc ];
  }

-- a run that begins with a fetch, and ends with the fault that what is there gives
pub Ran-unfetched : {F A : Type 0} {faults : HaltFaults F} (environment : Environment) (files : FilesState) (file : List ℕ) (fault : F) (gives : Option (List ℕ) → Result A F → Type 0)
    (run : Run F) (more : List Event) → (f : FetchesFile faults.memory (faults.IsFailedFetch file) file (Err fault) gives environment.files files) → run.events ≡ Fetch file ∷ more
    → (gives f.there (Err fault) → run ≡ record { events = Fetch file ∷ []; fault = Some fault }) → Ran faults run (Err fault) environment (record environment { files = files })
Ran-unfetched {F} {A} {faults} environment files file fault gives run more f begins is = go f.does where
  new : Environment
  new = record environment { files = files }

  cut : (done rest : List Event) → run.events ≡ done ++ rest → HasDone done environment new → ◌≡◌ {A = Result A F} (Err fault) (Err faults.memory) → Ran faults run (Err fault) environment new
  cut done rest split has e = subst (λ r. Ran faults run r environment new) (sym (fault-at fault faults.memory e)) (Ran-no_memory run done rest environment new split has)

  go : (NotFetched {A = A} faults.memory (Err fault) environment.files files ⊎ FetchFails {A = A} faults.memory (faults.IsFailedFetch file) file (Err fault) environment.files files)
      ⊎ Fetched faults.memory file (gives f.there) (Err fault) environment.files files → Ran faults run (Err fault) environment new
  go (inl (inl nothing)) =
      cut [] run.events refl (HasDone-files environment files [] (nothing.same ∙ told-none environment.files.outside.told) refl refl f.keeps) nothing.answers
  go (inl (inr failed)) =
      let has = HasDone-files environment files (Fetch file ∷ []) failed.fetched refl refl f.keeps in
      elim failed.answers [
        | inl told ↦ record {
          halt = FetchFailed file;
          did = record { done = []; rest = Fetch file ∷ more; split = begins; halts = (more, refl, failed.faulted); all = has.all };
          fault = Some told.0;
          is_fault = (told.0, told.1, refl);
          answers = inl (fault-at fault told.0 told.2);
          keeps = has.keeps;
        }
        | inr e ↦ cut (Fetch file ∷ []) more begins has e
      ]
  go (inr fetched) =
      let has = HasDone-files environment files (Fetch file ∷ []) fetched.fetched refl refl f.keeps in
      elim fetched.answers [
        | inl e ↦ subst (λ run. Ran faults run (Err fault) environment new) (sym (is e))
            (Ran-all (record { events = Fetch file ∷ []; fault = Some fault }) (Err fault) environment new has (inl refl))
        | inr e ↦ cut (Fetch file ∷ []) more begins has e
      ]
