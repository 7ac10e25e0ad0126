-- What the system tells of files, and which of them are one.
use Rattle.std.specs.Prelude.{ℕ, ◌≡◌, ◌==◌, Bool, List, Option, Some, None, Result, Ok, Err, bit_and, if◌then◌else◌}
use Rattle.std.specs.declared.fs.options.OpenOptions.{OpenOptions}
use Rattle.std.specs.declared.io.Error.{Error}
use Rattle.rs_prepare.specs.declared.node.About.{About}
use Rattle.rs_prepare.specs.declared.node.FileKind.{FileKind}
use Rattle.rs_prepare.specs.declared.node.FileKind.TheVariants as kinds
use Rattle.rs_prepare.specs.declared.node.Node.{Node}
use Rattle.rs_prepare.specs.declared.open_fault.OpenFault.{OpenFault}
use Rattle.rs_prepare.specs.declared.open_fault.OpenFault.TheVariants.{OneFile}
use Rattle.rs_prepare.specs.declared.open_fault.Stream.{Stream}
use Rattle.rs_prepare.specs.declared.open_fault.Stream.TheVariants.{Error as ErrorStream, Output, Questions, Scores}
use Rattle.rs_prepare.specs.declared.seen.Seen.{Seen}

-- what the system may answer: where a file is to be opened so, of what an open file is, of what the file of a name itself is, of what standard output and standard error are, and whether another program has locked an open file
pub record SystemTells (S F : Type 0) : Type 1 where
  pub opens : S → OpenOptions → List ℕ → Result F Error → Type 0
  pub open_file : S → F → Option About → Type 0
  pub file_named : S → List ℕ → Option About → Type 0
  pub output : S → Option About → Type 0
  pub error : S → Option About → Type 0
  pub in_use : S → F → Bool → Type 0

-- each answer may come
abbrev pub tells_anything : {S F : Type 0} → SystemTells S F
tells_anything = record {
  opens = λ _ _ _ _. Unit {0};
  open_file = λ _ _ _. Unit {0};
  file_named = λ _ _ _. Unit {0};
  output = λ _ _. Unit {0};
  error = λ _ _. Unit {0};
  in_use = λ _ _ _. Unit {0};
}

-- the kind of a file with this mode: the bits under `S_IFMT`
abbrev pub file_kind : ℕ → FileKind
file_kind mode = kind_of (bit_and mode 0o170000) where
  kind_of : ℕ → FileKind
  kind_of bits = if bits == 0o100000 then kinds.Regular else (if bits == 0o010000 then kinds.Fifo else (if bits == 0o020000 then kinds.CharacterDevice else kinds.Other))

-- the node of a file of this kind: a character device has none, and number 0 is none
abbrev pub node_at : FileKind → Node → Option Node
node_at kinds.CharacterDevice node = None
node_at _ node = if node.number == 0 then None else Some node

-- the node of a file of which this is told, if anything
abbrev pub node_of : Option About → Option Node
node_of None = None
node_of (Some about) = node_at about.kind about.node

-- both files have a node, and it is the same
abbrev pub AreOne : Option Node → Option Node → Type 0
AreOne own other = (same : Node) × (own ≡ Some same) × (other ≡ Some same)

-- a file with this node is none of those that are open
pub record IsNew (seen : Seen) (own : Option Node) : Type 0 where
  pub output : ¬ AreOne own seen.output
  pub scores : ¬ AreOne own seen.scores
  pub questions : ¬ AreOne own seen.questions

-- the first of those that are open that this file is
abbrev pub IsSeen : Seen → Option Node → Stream → Type 0
IsSeen seen own Output = AreOne own seen.output
IsSeen seen own Scores = (¬ AreOne own seen.output) × AreOne own seen.scores
IsSeen seen own Questions = (¬ AreOne own seen.output) × (¬ AreOne own seen.scores) × AreOne own seen.questions
IsSeen seen own ErrorStream = ⊥

-- a file with this node is let through exactly where it is none of those that are open, and else the first one that it is is told
abbrev pub Refuses : Seen → Option Node → Result (Unit {0}) OpenFault → Type 0
Refuses seen own (Ok done) = IsNew seen own
Refuses seen own (Err (OneFile stream)) = IsSeen seen own stream
Refuses seen own (Err fault) = ⊥

-- whether two files are told as one, and as which
abbrev pub RefusesOne : Option Node → Option Node → Stream → Result (Unit {0}) OpenFault → Type 0
RefusesOne own other stream (Ok done) = ¬ AreOne own other
RefusesOne own other stream (Err fault) = AreOne own other × (fault ≡ OneFile stream)

-- a file with this node is let through exactly where it isn't standard error
abbrev pub RefusesError : Seen → Option Node → Result (Unit {0}) OpenFault → Type 0
RefusesError seen own (Ok done) = ¬ AreOne own seen.error
RefusesError seen own (Err (OneFile ErrorStream)) = AreOne own seen.error
RefusesError seen own (Err fault) = ⊥
