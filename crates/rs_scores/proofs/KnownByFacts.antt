-- What is known by the bytes of a file that was fetched.
use Rattle.std.proofs.Common.{ℕ, ◌≡◌, ◌∙◌, Bool, true, false, cond, length, nat_le, Some, None, refl, List, Option, Result, Ok, Err, ◌⊎◌, ap, inl, inr, subst, sym}
use Rattle.std.specs.Prelude.{IfOk}
use Rattle.rs_value.specs.Results.{◌>>=◌}
use Rattle.rs_outside.specs.Files.{FilesState, Remembers}
use Rattle.rs_outside.specs.declared.files.FetchFault.{FetchFault}
use Rattle.rs_outside.specs.declared.files.FetchFault.TheVariants.{Missing, TooLong}
use Rattle.rs_outside.specs.declared.files.FetchFault.TheVariants as fetch
use Rattle.rs_events.specs.Fetching.{FetchFails, Fetched, FetchesFile, NotFetched, fetched_bytes}
use Rattle.rs_scores.specs.Known.{Known}
use Rattle.rs_scores.specs.KnownBy.{IsKnownBy, KnowsBy, or_refused, score_bytes, scores_there}
use Rattle.rs_scores.specs.Reading.{scores_in}
use Rattle.rs_scores.specs.declared.scores_fault.ScoresFault.{ScoresFault}
use Rattle.rs_scores.specs.declared.scores_fault.ScoresFault.TheVariants.{Memory}

-- the scores of bytes that are there
there-are : (names : List (List ℕ)) (there : Option (List ℕ)) (bytes : Result (List ℕ) ScoresFault) → score_bytes there ≡ bytes
    → scores_there names there ≡ (bytes >>= λ all. or_refused (scores_in names all))
there-are names there bytes e = ap (λ answer. answer >>= λ all. or_refused (scores_in names all)) e

of-any : {A F : Type 0} {P : Type 0} (result : Result A F) → P → IfOk result (λ a. P)
of-any (Ok a) p = p
of-any (Err fault) p = tt

-- bytes were fetched, and read
pub known-read : {A : Type 0} {Tells : ScoresFault → Type 0} (names : List (List ℕ)) (file : List ℕ) (fetched : A) (bytes : List ℕ) (gives : Option (List ℕ) → Result A ScoresFault → Type 0)
    (result : Result Known ScoresFault) (old new : FilesState) → FetchesFile Memory Tells file (Ok fetched) gives old new
    → ((there : Option (List ℕ)) → gives there (Ok fetched) → score_bytes there ≡ Ok bytes)
    → KnowsBy names (or_refused (scores_in names bytes)) result ⊎ (result ≡ Err Memory) → FetchesFile Memory Tells file result (IsKnownBy names) old new
known-read {A} {Tells} names file fetched bytes gives result old new f are knows = record {
  there = f.there;
  is_found = f.is_found;
  learned = of-any result f.learned;
  does = go f.does;
  keeps = f.keeps;
}
  where
    go : (NotFetched {A = A} Memory (Ok fetched) old new ⊎ FetchFails {A = A} Memory Tells file (Ok fetched) old new) ⊎ Fetched {A = A} Memory file (gives f.there) (Ok fetched) old new
        → (NotFetched {A = Known} Memory result old new ⊎ FetchFails {A = Known} Memory Tells file result old new) ⊎ Fetched {A = Known} Memory file (IsKnownBy names f.there) result old new
    go (inl (inl nothing)) = absurd (let e = nothing.answers in cc)
    go (inl (inr failed)) = absurd (elim failed.answers [ inl told ↦ let e = told.2 in cc | inr e ↦ cc ])
    go (inr done) = inr (record {
      fetched = done.fetched;
      answers = elim knows [
        | inl by ↦ inl (subst (λ answer. KnowsBy names answer result)
            (sym (there-are names f.there (Ok bytes) (are f.there (elim done.answers [ inl given ↦ given | inr e ↦ absurd cc ])))) by)
        | inr memory ↦ inr memory
      ];
    })

-- no bytes were fetched
pub known-unread : {A : Type 0} {Tells : ScoresFault → Type 0} (names : List (List ℕ)) (file : List ℕ) (fault : ScoresFault) (gives : Option (List ℕ) → Result A ScoresFault → Type 0)
    (old new : FilesState) → FetchesFile Memory Tells file (Err fault) gives old new
    → ((there : Option (List ℕ)) → gives there (Err fault) → score_bytes there ≡ Err fault)
    → FetchesFile {A = Known} Memory Tells file (Err fault) (IsKnownBy names) old new
known-unread {A} {Tells} names file fault gives old new f are = record {
  there = f.there;
  is_found = f.is_found;
  learned = tt;
  does = go f.does;
  keeps = f.keeps;
}
  where
    other : (g : ScoresFault) → ◌≡◌ {A = Result A ScoresFault} (Err fault) (Err g) → ◌≡◌ {A = Result Known ScoresFault} (Err fault) (Err g)
    other g e = ap Err (let same : fault ≡ g = cc in same)

    go : (NotFetched {A = A} Memory (Err fault) old new ⊎ FetchFails {A = A} Memory Tells file (Err fault) old new) ⊎ Fetched {A = A} Memory file (gives f.there) (Err fault) old new
        → (NotFetched {A = Known} Memory (Err fault) old new ⊎ FetchFails {A = Known} Memory Tells file (Err fault) old new) ⊎ Fetched {A = Known} Memory file (IsKnownBy names f.there) (Err fault) old new
    go (inl (inl nothing)) = inl (inl (record { same = nothing.same; answers = other Memory nothing.answers }))
    go (inl (inr failed)) = inl (inr (record {
      fetched = failed.fetched;
      faulted = failed.faulted;
      answers = elim failed.answers [ inl told ↦ inl (told.0, told.1, other told.0 told.2) | inr e ↦ inr (other Memory e) ];
    }))
    go (inr done) = inr (record {
      fetched = done.fetched;
      answers = elim done.answers [ inl given ↦ inl (there-are names f.there (Err fault) (are f.there given)) | inr e ↦ inr (other Memory e) ];
    })

-- no file was there, which is remembered
none-there : (limit : ℕ) (there : Option (List ℕ)) → fetched_bytes limit there ≡ Err Missing → there ≡ None
none-there limit None e = refl
none-there limit (Some bytes) e = absurd (of (nat_le (length bytes) limit) e) where
  of : (few : Bool) → ◌≡◌ {A = Result (List ℕ) FetchFault} (cond few (Ok bytes) (Err TooLong)) (Err Missing) → ⊥
  of true e = cc
  of false e = cc

pub known-absent : {A B : Type 0} {Tells : ScoresFault → Type 0} (limit : ℕ) (file : List ℕ) (empty : A) (below : Option (List ℕ) → Result B FetchFault → Type 0) (gives : Option (List ℕ) → Result A ScoresFault → Type 0)
    (old new : FilesState) → FetchesFile fetch.Memory (λ why. why ≡ fetch.Failed) file (Err Missing) below old new → Remembers new file None
    → ((there : Option (List ℕ)) → below there (Err Missing) → (fetched_bytes limit there ≡ Err Missing) × gives there (Ok empty))
    → FetchesFile Memory Tells file (Ok empty) gives old new
known-absent {A} {B} {Tells} limit file empty below gives old new f remembered are = go f.does where
  go : (NotFetched {A = B} fetch.Memory (Err Missing) old new ⊎ FetchFails {A = B} fetch.Memory (λ why. why ≡ fetch.Failed) file (Err Missing) old new) ⊎ Fetched {A = B} fetch.Memory file (below f.there) (Err Missing) old new
      → FetchesFile Memory Tells file (Ok empty) gives old new
  go (inl (inl nothing)) = absurd (let e = nothing.answers in cc)
  go (inl (inr failed)) = absurd (elim failed.answers [ inl told ↦ let e = told.2 in let why = told.1 in cc | inr e ↦ cc ])
  go (inr done) =
      let absent = are f.there (elim done.answers [ inl given ↦ given | inr e ↦ absurd cc ]) in record {
        there = f.there;
        is_found = f.is_found;
        learned = λ remembers. remembered remembers ∙ ap Some (sym (none-there limit f.there absent.0));
        does = inr (record { fetched = done.fetched; answers = inl absent.1 });
        keeps = f.keeps;
      }
