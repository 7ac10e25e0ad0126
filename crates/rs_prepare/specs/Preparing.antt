-- What stands ready before the first run, and why nothing does.
use Rattle.std.specs.Prelude.{ℕ, ◌≡◌, List, Result, Ok, Err}
use Rattle.rs_outside.specs.Files.{FilesState}
use Rattle.rs_outside.specs.declared.files.FetchFault.TheVariants as fetch
use Rattle.rs_events.specs.Fetching.{FetchesFile}
use Rattle.rs_scores.specs.Known.{Known}
use Rattle.rs_scores.specs.KnownBy.{IsKnownBy}
use Rattle.rs_scores.specs.declared.scores_fault.ScoresFault.{ScoresFault}
use Rattle.rs_scores.specs.declared.scores_fault.ScoresFault.TheVariants as scores
use Rattle.rs_prepare.specs.declared.fault.PrepareFault.{PrepareFault}
use Rattle.rs_prepare.specs.declared.fault.PrepareFault.TheVariants.{Unopened, Unread}
use Rattle.rs_prepare.specs.declared.open_fault.End.{End}
use Rattle.rs_prepare.specs.declared.open_fault.End.TheVariants.{Answers, Questions, Scores}
use Rattle.rs_prepare.specs.declared.open_fault.OpenFault.{OpenFault}
use Rattle.rs_prepare.specs.declared.ready.EndNames.{EndNames}
use Rattle.rs_prepare.specs.declared.ready.Prepared.{Prepared}

-- the names of the three files
pub record EndWords : Type 0 where
  pub scores : List ℕ
  pub questions : List ℕ
  pub answers : List ℕ

abbrev pub end_words : EndNames → EndWords
end_words ends = record { scores = ends.scores.now; questions = ends.questions.now; answers = ends.answers.now }

-- what an object that opens files says: that it opens the file of a name for an end so, or refuses to, and what it is afterwards
pub record Openings (H Q A K : Type 0) : Type 1 where
  pub questions_to : H → List ℕ → Q → H → Type 0
  pub answers_from : H → List ℕ → A → H → Type 0
  pub scores_in : H → List ℕ → K → H → Type 0
  pub refuses : H → End → List ℕ → OpenFault → H → Type 0

abbrev pub openings : {H Q A K : Type 0} → (H → List ℕ → Q → H → Type 0) → (H → List ℕ → A → H → Type 0) → (H → List ℕ → K → H → Type 0) → (H → End → List ℕ → OpenFault → H → Type 0) → Openings H Q A K
openings questions_to answers_from scores_in refuses = record { questions_to = questions_to; answers_from = answers_from; scores_in = scores_in; refuses = refuses }

-- the file of questions was opened and then that of answers, or one of them was refused, and nothing was opened behind it
abbrev pub Opened : {H Q A K : Type 0} → Openings H Q A K → EndWords → Result (Q × A) PrepareFault → H → H → Type 0
Opened {H = H} outside words (Ok pair) old new = (asks : H) × outside.questions_to old words.questions pair.0 asks × outside.answers_from asks words.answers pair.1 new
Opened outside words (Err (Unopened Scores fault)) old new = ⊥
Opened outside words (Err (Unopened Questions fault)) old new = outside.refuses old Questions words.questions fault new
Opened {H = H} {Q = Q} outside words (Err (Unopened Answers fault)) old new =
    (questions : Q) × (asks : H) × outside.questions_to old words.questions questions asks × outside.refuses asks Answers words.answers fault new
Opened outside words (Err (Unread fault)) old new = ⊥

-- what is known was read from the file of scores of this name, or not, for this reason
abbrev pub ReadsKnown : List (List ℕ) → List ℕ → Result Known ScoresFault → FilesState → FilesState → Type 0
ReadsKnown names file result old new = FetchesFile scores.Memory (λ why. why ≡ scores.Fetch fetch.Failed) file result (IsKnownBy names) old new

-- the file of scores was opened first, and what is known was read from it; and the object that opens files behind that
pub record HasKnown {H Q A K : Type 0} (outside : Openings H Q A K) (names : List (List ℕ)) (words : EndWords) (scores : K) (known : Known) (before after : H) (old new : FilesState) : Type 0 where
  pub opened : outside.scores_in before words.scores scores after
  pub reads : ReadsKnown names words.scores (Ok known) old new

-- what is known and a channel stand ready: the file of scores was opened and read, and then those of questions and answers were opened; or the first of these that failed is told, and nothing was done behind it
abbrev pub Prepares : {H Q A K : Type 0} → Openings H Q A K → List (List ℕ) → EndWords → Result (Prepared Q A K) PrepareFault → H → H → FilesState → FilesState → Type 0
Prepares {H = H} outside names words (Ok prepared) before after old new =
    (opened : H) × HasKnown outside names words prepared.channel.scores prepared.known before opened old new × Opened outside words (Ok (prepared.channel.questions, prepared.channel.answers)) opened after
Prepares outside names words (Err (Unopened Scores fault)) before after old new = outside.refuses before Scores words.scores fault after × (new ≡ old)
Prepares {H = H} {K = K} outside names words (Err (Unopened end fault)) before after old new =
    (opened : H) × (scores : K) × (known : Known) × HasKnown outside names words scores known before opened old new × Opened outside words (Err (Unopened end fault)) opened after
Prepares {K = K} outside names words (Err (Unread fault)) before after old new =
    (scores : K) × outside.scores_in before words.scores scores after × ReadsKnown names words.scores (Err fault) old new
