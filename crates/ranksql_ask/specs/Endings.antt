-- How the program ends: its exit status, what it put, and its lines on standard error.
use Rattle.std.specs.Prelude.{ℕ, ◌≡◌, ◌⊎◌, List, [], ◌∷◌, Option, Some, None, Ok, Err, length}
use Rattle.rs_value.specs.Outside.{Keeps, Outside}
use Rattle.rs_run.specs.Naming.{Looks}
use Rattle.rs_run.specs.Outcome.{PutsLine, PutsNothing}
use Rattle.rs_events.specs.Status.{exit_status_of}
use Rattle.rs_outside.specs.Files.{FilesState, KeepsFiles}
use Rattle.rs_run.specs.Words.{Form, RunScript}
use Rattle.rs_scores.specs.Known.{Known}
use Rattle.rs_ask.specs.Asking.{AskingState, ChannelState, Ends, StopsAfter}
use Rattle.rs_ask.specs.declared.asked.Asked.{Asked}
use Rattle.rs_ask.specs.declared.channel.Channel.{Channel}
use Rattle.rs_ask.specs.declared.pass.Pass.{Pass}
use Rattle.rs_ask.specs.declared.stop.Stop.{Stop}
use Rattle.rs_prepare.specs.Preparing.{EndWords, Openings, Prepares}
use Rattle.rs_prepare.specs.declared.fault.PrepareFault.{PrepareFault}
use Rattle.rs_prepare.specs.declared.ready.Prepared.{Prepared}
use Rattle.ranksql_ask.specs.AskFaults as fault
use Rattle.ranksql_ask.specs.AskFaults.{Refusal, ask_line, ask_status, unready}
use Rattle.ranksql_ask.specs.Lines.{end_lines, end_status, memory_line, stop_lines, stop_status}
use Rattle.ranksql_ask.specs.Passes.{IsPass}
use Rattle.ranksql_ask.specs.Words.{Request}

-- what a sink tells, and its faults
abbrev pub Lines : Type 0
Lines = Outside (List (List ℕ))

-- the line of want of memory was put, or there was no memory for that either
abbrev pub TellsMemory : Lines → Lines → Type 0
TellsMemory old new = PutsNothing old new ⊎ PutsLine memory_line old new

-- these lines were put one after another, and the program ends with this status; or there was no memory for one of them, and it tells that, and ends with 1
abbrev pub Tells : List (List ℕ) → ℕ → ℕ → Lines → Lines → Type 0
Tells [] status answer old new = (answer ≡ status) × (new ≡ old)
Tells (line ∷ rest) status answer old new =
    ((middle : Lines) × Keeps old middle × PutsLine line old middle × Tells rest status answer middle new) ⊎ ((answer ≡ 1) × TellsMemory old new)

-- it asked and ran, and told how that ended or what stopped it
abbrev pub Obeys : {R : Type 0} → (R → Known → Pass → R → Lines → Lines → Type 0) → ℕ → R → Known → R → Known → AskingState → AskingState → Lines → Lines → Type 0
Obeys ran answer old known new knows before after err told =
    ((asked : Asked) × Ends ran asked old known new knows before after × Tells (end_lines asked (length known.scores)) (end_status asked) answer err told)
    ⊎ ((stop : Stop) × StopsAfter ran stop old known new knows before after × Tells (stop_lines stop) (stop_status stop) answer err told)

-- nothing was put on standard output, and this was told
abbrev pub Refuses : Refusal → ℕ → Lines → Lines → Lines → Lines → Type 0
Refuses refusal answer out rows err told = (rows ≡ out) × Tells (ask_line refusal ∷ []) (exit_status_of (ask_status refusal)) answer err told

-- what is run again and again: words of this form, over these files, of which is known what was found
pub record Runner : Type 0 where
  pub form : Form
  pub files : FilesState

-- one run of it
pub record RunsOnce (old : Runner) (known : Known) (pass : Pass) (new : Runner) (rows puts : Lines) : Type 0 where
  pub ran : IsPass old.form known pass old.files new.files rows puts
  pub form : new.form ≡ old.form

-- the name of the script that words of this form run
abbrev pub script_of : Form → List ℕ
script_of (RunScript script evaluating) = script
script_of _ = []

-- what a command works with beside its script: the object that opens files, the files that known scores are read from, and where rows and lines go
pub record Work (H : Type 0) : Type 0 where
  pub opens : H
  pub kept : FilesState
  pub out : Lines
  pub err : Lines

-- nothing was opened, no known scores were read, and this was told
abbrev pub RefusesFirst : {H : Type 0} → Refusal → ℕ → Work H → Work H → Type 0
RefusesFirst refusal answer old new = (new.opens ≡ old.opens) × (new.kept ≡ old.kept) × Refuses refusal answer old.out new.out old.err new.err

-- what stood ready asked and ran: the known scores are those of their file, and the channel has the files that the words name
pub record AsksBy {H Q A K R : Type 0} (outside : Openings H Q A K) (state : Channel Q A K → ChannelState) (ran : R → Known → Pass → R → Lines → Lines → Type 0) (names : List (List ℕ)) (ends : EndWords) (answer : ℕ) (runs ended : R) (old new : Work H) : Type 0 where
  pub prepared : Prepared Q A K
  pub ready : Prepares outside names ends (Ok prepared) old.opens new.opens old.kept new.kept
  pub knows : Known
  pub left : ChannelState
  pub obeys : Obeys ran answer runs prepared.known ended knows
      (record { channel = state prepared.channel; out = old.out }) (record { channel = left; out = new.out }) old.err new.err

-- something did not stand ready, which was told
pub record IsUnready {H Q A K : Type 0} (outside : Openings H Q A K) (names : List (List ℕ)) (ends : EndWords) (answer : ℕ) (old new : Work H) : Type 0 where
  pub fault : PrepareFault
  pub prepares : Prepares outside names ends (Err fault) old.opens new.opens old.kept new.kept
  pub refuses : Refuses (unready ends fault) answer old.out new.out old.err new.err

-- all was made ready, and asked and ran; or something did not stand ready
abbrev pub Readies : {H Q A K R : Type 0} → Openings H Q A K → (Channel Q A K → ChannelState) → (R → Known → Pass → R → Lines → Lines → Type 0) → List (List ℕ) → EndWords → ℕ → R → R → Work H → Work H → Type 0
Readies outside state ran names ends answer runs ended old new =
    IsUnready outside names ends answer old new ⊎ AsksBy outside state ran names ends answer runs ended old new

-- what was done where the script makes no predicate of this name, or of each name one
abbrev pub DoesBy : {H Q A K : Type 0} → Openings H Q A K → (Channel Q A K → ChannelState) → Request → FilesState → ℕ → Work H → Work H → Option (List ℕ) → Type 0
DoesBy outside state request seen answer old new (Some name) = RefusesFirst (fault.NoPredicate name) answer old new
DoesBy outside state request seen answer old new None =
    (ended : Runner) × Readies outside state RunsOnce request.names request.ends answer (record { form = request.form; files = seen }) ended old new

-- it was looked for the predicates in the script: where it makes none of one of the names that is refused, and nothing is run; else all is made ready, and runs are made. A script that has no statements, or can't be
-- fetched, is run, which tells why
pub record Does {H Q A K : Type 0} (outside : Openings H Q A K) (state : Channel Q A K → ChannelState) (request : Request) (files : FilesState) (answer : ℕ) (old new : Work H) : Type 0 where
  pub name : Option (List ℕ)
  pub seen : FilesState
  pub looks : Looks (script_of request.form) request.names name files seen
  pub kept : KeepsFiles files seen
  pub does : DoesBy outside state request seen answer old new name

-- words of no form are refused by the usage line, and other words never. Want of memory before the first run may be told at any time
abbrev pub Commands : {H Q A K : Type 0} → Openings H Q A K → (Channel Q A K → ChannelState) → Option Request → FilesState → ℕ → Work H → Work H → Type 0
Commands outside state None files answer old new = RefusesFirst fault.Usage answer old new ⊎ RefusesFirst fault.Memory answer old new
Commands outside state (Some request) files answer old new = Does outside state request files answer old new ⊎ RefusesFirst fault.Memory answer old new
