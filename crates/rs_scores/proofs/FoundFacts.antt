-- What is found under a name, and what is known of files by it.
use Rattle.std.proofs.Common.{◌≡◌, ℕ, Bool, true, false, cond, List, [], ◌∷◌, ◌++◌, Option, Some, None, Result, Ok, Err, refl, sym, ap, subst, inl, inr}
use Rattle.std.specs.Cmp.Lexicographic.{bytes_decides}
use Rattle.std.specs.Prelude.{◌≢◌, IfErr, IfSome, OnOk, find, option_map}
use Rattle.rs_value.specs.Outside.{Counts}
use Rattle.std.specs.Str.{bytes_eq}
use Rattle.rs_outside.specs.Files.{Contents, Fetches, FilesState, StaysKnown, TellsFile, finds_in, told_after}
use Rattle.rs_outside.specs.declared.files.FetchFault.{FetchFault}
use Rattle.rs_outside.specs.declared.files.FetchFault.TheVariants.{Failed, Memory, Missing, TooLong}
use Rattle.rs_scores.specs.KnownFiles.{Found, Looks, found_under, found_with, known_contents, there_or}

-- what was added last, where nothing was found before
pub found_under-added : (name : List ℕ) (there : Option (List ℕ)) (found : List Found) → found_under name found ≡ None
    → found_under name (found_with name there found) ≡ Some (record { name = name; there = there })
found_under-added name there [] none =
    let same : bytes_eq name name ≡ true = (bytes_decides name name).1 refl in rw same refl
found_under-added name there (file ∷ rest) none =
    (elim (bytes_eq file.name name) as (λ b. cond b (Some file) (find (λ f. bytes_eq f.name name) rest) ≡ None
    → cond b (Some file) (find (λ f. bytes_eq f.name name) (rest ++ record { name = name; there = there } ∷ [])) ≡ Some (record { name = name; there = there })) [
      | true ↦ λ e. absurd (cc)
      | false ↦ λ e. found_under-added name there rest e
    ]) none

-- what was found under a name is known
pub known-exactly : (name : List ℕ) (found : List Found) (below : Contents) (file : Found) → found_under name found ≡ Some file → known_contents found below name ≡ Some file.there
known-exactly name found below file e = ap (λ f. there_or f (below name)) e

pub known-found : (name : List ℕ) (found : List Found) (below : Contents) (file : Found) → found_under name found ≡ Some file → finds_in (known_contents found below) name file.there
known-found name found below file e = subst (λ f. IfSome (there_or f (below name)) (λ known. known ≡ file.there)) (sym e) refl

-- where nothing was found, what the files below give
pub known-below : (name : List ℕ) (found : List Found) (below : Contents) (there : Option (List ℕ)) → found_under name found ≡ None → finds_in below name there
    → finds_in (known_contents found below) name there
known-below name found below there e gives = subst (λ f. IfSome (there_or f (below name)) (λ known. known ≡ there)) (sym e) gives

-- the files below alone go on
pub known-stays : (found : List Found) (old new : Contents) → StaysKnown old new → StaysKnown (known_contents found old) (known_contents found new)
known-stays found old new stays name there = go (found_under name found) where
  go : (file : Option Found) → there_or file (old name) ≡ Some there → there_or file (new name) ≡ Some there
  go (Some file) e = e
  go None e = stays name there e

-- what is added is what the files below gave, so that it differs from nothing that was known of them
pub known-added : (name : List ℕ) (there : Option (List ℕ)) (found : List Found) (old new : Contents) → StaysKnown old new → finds_in new name there
    → StaysKnown (known_contents found old) (known_contents (found_with name there found) new)
known-added name there found old new stays gives other known was = go found was where
  last : Found
  last = record { name = name; there = there }

  of_last : (b : Bool) → bytes_eq name other ≡ b → old other ≡ Some known → there_or (cond b (Some last) None) (new other) ≡ Some known
  of_last false e was = stays other known was
  of_last true e was =
      let same : name ≡ other = (bytes_decides name other).0 e in
      ap Some (sym (subst (λ k. IfSome k (λ k. k ≡ there)) (stays other known was) (subst (λ n. finds_in new n there) same gives)))

  go : (found : List Found) → known_contents found old other ≡ Some known → known_contents (found_with name there found) new other ≡ Some known
  go [] was = of_last (bytes_eq name other) refl was
  go (file ∷ rest) was =
      (elim (bytes_eq file.name other) as (λ b. there_or (cond b (Some file) (find (λ f. bytes_eq f.name other) rest)) (old other) ≡ Some known
      → there_or (cond b (Some file) (find (λ f. bytes_eq f.name other) (rest ++ last ∷ []))) (new other) ≡ Some known) [
        | true ↦ λ was. was
        | false ↦ λ was. go rest was
      ]) was

-- a fetch that was refused leaves what it appends to as it was, whatever that is
pub refused-any : (there : Option (List ℕ)) (limit : ℕ) (fault : FetchFault) (bytes : List ℕ) → Fetches there limit [] (Err fault) [] → Fetches there limit bytes (Err fault) bytes
refused-any there limit Missing bytes is = (is.0, refl)
refused-any there limit TooLong bytes is = (is.0, is.1, is.2, refl)
refused-any there limit Failed bytes is = refl
refused-any there limit Memory bytes is = refl

-- what was fetched was kept, or there was no memory for that
pub looks-kept : (name : List ℕ) (limit : ℕ) (result : Result (Unit {0}) FetchFault) (old new : FilesState) (found more : List Found) (bytes : List ℕ)
    → finds_in new.contents name (Some bytes) → StaysKnown old.contents new.contents → new.outside.told ≡ option_map (told_after name (Ok tt)) old.outside.told
    → Counts (◌≡◌ {A = Result (Unit {0}) FetchFault} (Ok tt) (Err Failed)) old.outside new.outside
    → OnOk result (more ≡ found_with name (Some bytes) found) → IfErr result (λ fault. (fault ≡ Memory) × (more ≡ found)) → Looks name limit result old new found more
looks-kept name limit (Ok done) old new found more bytes gives stays told counts added refused = record {
  there = Some bytes;
  is_found = gives;
  stays_known = stays;
  told = inl told;
  counts = counts;
  added = added;
  same = tt;
  refused = tt;
  missing_is_added = λ e. absurd cc;
}
looks-kept name limit (Err fault) old new found more bytes gives stays told counts added refused = record {
  there = Some bytes;
  is_found = gives;
  stays_known = stays;
  told = inr (ap Err refused.0);
  counts = record {
    keeps = counts.keeps;
    failed = λ e. absurd (let memory = refused.0 in cc);
    sure = λ steady. ((counts.sure steady).0, λ e. absurd (let memory = refused.0 in cc));
  };
  added = tt;
  same = refused.1;
  refused = subst (λ f. Fetches (Some bytes) limit [] (Err f) []) (sym refused.0) refl;
  missing_is_added = λ e. absurd (let memory = refused.0 in cc);
}

-- where looking is refused, nothing is told of the file
pub untold : (fault : FetchFault) → ◌≢◌ {A = Result (Unit {0}) FetchFault} (Err fault) (Err Missing) → TellsFile (Err fault) → ⊥
untold Missing not_missing told = not_missing refl
untold TooLong not_missing told = told
untold Failed not_missing told = told
untold Memory not_missing told = told
