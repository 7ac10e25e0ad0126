-- The objects of the outside that a run is given, as contracts see them.
use Rattle.std.specs.Prelude.{ℕ, ◌≡◌, List}
use Rattle.rs_value.specs.Outside.{Faulted, Keeps, Outside}
use Rattle.rs_outside.specs.Files.{FilesState, KeepsFiles}
use Rattle.rs_expr.specs.Scoring.{KeepsScorer, ScorerState}

-- the files, the scorer, standard output and standard error, and which references the first three are behind: the number that
-- proofs know each by
pub record Environment : Type 0 where
  pub files : FilesState
  pub scorer : ScorerState
  pub out : Outside (List (List ℕ))
  pub err : Outside (List (List ℕ))
  pub references : ℕ × ℕ × ℕ

-- these objects, behind no reference
abbrev pub environment : FilesState → ScorerState → Outside (List (List ℕ)) → Outside (List (List ℕ)) → Environment
environment files scorer out err = record { files = files; scorer = scorer; out = out; err = err; references = (0, 0, 0) }

-- for as long as calls go on, the scorer's answers stay, what is known of files stays known, no count of faults falls, each object
-- that is steady stays so, and the references stay the same
pub record KeepsEnvironment (old new : Environment) : Type 0 where
  pub files : KeepsFiles old.files new.files
  pub scorer : KeepsScorer old.scorer new.scorer
  pub out : Keeps old.out new.out
  pub err : Keeps old.err new.err
  pub references : new.references ≡ old.references

-- no fetch, no call of the scorer and no put on standard output failed
pub record NoneFailed (old new : Environment) : Type 0 where
  pub fetch : ¬ Faulted old.files.outside new.files.outside
  pub call : ¬ Faulted old.scorer.outside new.scorer.outside
  pub put : ¬ Faulted old.out new.out
