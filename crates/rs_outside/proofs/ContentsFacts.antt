-- What is known of files, for as long as fetches go on.
use Rattle.std.proofs.Common.{ℕ, ◌≡◌, ◌∙◌, List, Some, None, subst, refl}
use Rattle.std.specs.Prelude.{Option, IfSome}
use Rattle.rs_value.proofs.OutsideFacts.{Keeps-refl, Keeps-then}
use Rattle.rs_outside.specs.Files.{Contents, FilesState, KeepsFiles, StaysKnown, finds_in}

pub StaysKnown-refl : (contents : Contents) → StaysKnown contents contents
StaysKnown-refl contents name there e = e

pub StaysKnown-then : (old middle new : Contents) → StaysKnown old middle → StaysKnown middle new → StaysKnown old new
StaysKnown-then old middle new one two name there e = two name there (one name there e)

pub KeepsFiles-refl : (files : FilesState) → KeepsFiles files files
KeepsFiles-refl files = record { outside = Keeps-refl files.outside; contents = StaysKnown-refl files.contents; remembers = refl }

pub KeepsFiles-then : (old middle new : FilesState) → KeepsFiles old middle → KeepsFiles middle new → KeepsFiles old new
KeepsFiles-then old middle new one two = record {
  outside = Keeps-then old.outside middle.outside new.outside one.outside two.outside;
  contents = StaysKnown-then old.contents middle.contents new.contents one.contents two.contents;
  remembers = two.remembers ∙ one.remembers;
}

-- what a fetch finds later it would have found before: what was known is what is found, and where nothing was known anything may be
pub finds-before : (old new : Contents) → StaysKnown old new → (name : List ℕ) (there : Option (List ℕ)) → finds_in new name there → finds_in old name there
finds-before old new stays name there found = go (old name) refl where
  go : (known : Option (Option (List ℕ))) → old name ≡ known → IfSome known (λ k. k ≡ there)
  go None e = tt
  go (Some k) e = subst (λ known. IfSome known (λ k. k ≡ there)) (stays name k e) found

-- something is there, known or not
pub finds-some : (contents : Contents) (name : List ℕ) → (there : Option (List ℕ)) × finds_in contents name there
finds-some contents name = go (contents name) where
  go : (known : Option (Option (List ℕ))) → (there : Option (List ℕ)) × IfSome known (λ k. k ≡ there)
  go None = (None, tt)
  go (Some k) = (k, refl)
