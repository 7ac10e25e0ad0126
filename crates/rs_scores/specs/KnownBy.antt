-- What is known by a file of scores that is fetched.
use Rattle.std.specs.Prelude.{ℕ, ◌≡◌, List, [], Option, Result, Ok, Err}
use Rattle.rs_value.specs.Results.{◌>>=◌}
use Rattle.rs_outside.specs.declared.files.FetchFault.{FetchFault}
use Rattle.rs_outside.specs.declared.files.FetchFault.TheVariants.{Missing}
use Rattle.rs_events.specs.Fetching.{fetched_bytes}
use Rattle.rs_scores.specs.Known.{Known}
use Rattle.rs_scores.specs.Reading.{Knows, scores_in}
use Rattle.rs_scores.specs.declared.fault.KnownFault.{KnownFault}
use Rattle.rs_scores.specs.declared.fault.KnownFault.TheVariants as fault
use Rattle.rs_scores.specs.declared.known_score.KnownScore.{KnownScore}
use Rattle.rs_scores.specs.declared.scores_fault.ScoresFault.{ScoresFault}
use Rattle.rs_scores.specs.declared.scores_fault.ScoresFault.TheVariants.{Fetch, Memory, Refused}

-- the bytes of a file, or none where no file is there
abbrev pub or_nothing : Result (List ℕ) FetchFault → Result (List ℕ) ScoresFault
or_nothing (Ok bytes) = Ok bytes
or_nothing (Err Missing) = Ok []
or_nothing (Err fault) = Err (Fetch fault)

-- the bytes of a file of scores, which are at most 33,554,432, where these are there, or no file is
abbrev pub score_bytes : Option (List ℕ) → Result (List ℕ) ScoresFault
score_bytes there = or_nothing (fetched_bytes 33554432 there)

-- why no scores are known, where a file's records are refused
abbrev pub refused_for : KnownFault → ScoresFault
refused_for fault.Memory = Memory
refused_for why = Refused why

-- the scores of a file that was read, or why it is refused
abbrev pub or_refused : Result (List KnownScore) KnownFault → Result (List KnownScore) ScoresFault
or_refused (Ok scores) = Ok scores
or_refused (Err fault) = Err (refused_for fault)

-- the scores that are known where these bytes are there, or no file is
abbrev pub scores_there : List (List ℕ) → Option (List ℕ) → Result (List KnownScore) ScoresFault
scores_there names there = score_bytes there >>= λ bytes. or_refused (scores_in names bytes)

-- a table has exactly the scores of an answer, or there is no table for its fault
abbrev pub KnowsBy : List (List ℕ) → Result (List KnownScore) ScoresFault → Result Known ScoresFault → Type 0
KnowsBy names answer (Ok known) = (scores : List KnownScore) × (answer ≡ Ok scores) × Knows names scores known
KnowsBy names answer (Err fault) = answer ≡ Err fault

-- a table has exactly the scores that are known then, or they are refused by this fault
abbrev pub IsKnownBy : List (List ℕ) → Option (List ℕ) → Result Known ScoresFault → Type 0
IsKnownBy names there result = KnowsBy names (scores_there names there) result
