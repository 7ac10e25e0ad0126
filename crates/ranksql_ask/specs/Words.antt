-- The words behind the files.
use Rattle.std.specs.Prelude.{ℕ, List, [], ◌∷◌, Option, Some, None}
use Rattle.rs_run.specs.Words.{Form, WordForm, first_form, plain_words, run_words}
use Rattle.rs_prepare.specs.Preparing.{EndWords}
use Rattle.rs_scores.specs.Names.{names_in}
use Rattle.rs_statement.specs.declared.sampling.Sampling.TheVariants.{ByGuesses}

-- the words behind the files: `plain SCRIPT` and `run SCRIPT SEED` as the command line has them, but that plans are chosen by guesses
abbrev pub asking_forms : List WordForm
asking_forms = plain_words ∷ run_words ByGuesses ∷ []

-- what all words ask for: the names of the predicates that are asked for, those of the three files, and what is run
pub record Request : Type 0 where
  pub names : List (List ℕ)
  pub ends : EndWords
  pub form : Form

-- a request, where there are names and a form
abbrev pub request_with : EndWords → Option (List (List ℕ)) → Option Form → Option Request
request_with ends (Some names) (Some form) = Some (record { names = names; ends = ends; form = form })
request_with ends (Some names) None = None
request_with ends None form = None

-- what words ask for: NAMES SCORES QUESTIONS ANSWERS, and such words behind them
abbrev pub request_of : List (List ℕ) → Option Request
request_of (names ∷ scores ∷ questions ∷ answers ∷ rest) =
    request_with (record { scores = scores; questions = questions; answers = answers }) (names_in names) (first_form asking_forms rest)
request_of _ = None
