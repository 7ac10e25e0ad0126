-- Files of known scores: the scores that their records have, or the first record that is refused.
use Rattle.std.specs.Prelude.{ℕ, ℤ, ◌≡◌, ◌⊎◌, ◌+◌, ◌-◌, nat_lt, Bool, List, [], ◌∷◌, ◌++◌, find, length, slice_index_or, take, Option, Some, None, option_map, Result, Ok, Err, if◌then◌else◌}
use Rattle.std.specs.Ordering.{int_eq}
use Rattle.std.specs.Str.{is_utf8}
use Rattle.csv.specs.Reading.{strip_bom}
use Rattle.rs_value.specs.Number.{int_value}
use Rattle.rs_value.specs.Results.{◌>>=◌}
use Rattle.rs_lines.specs.Records.{records_of}
use Rattle.rs_scores.specs.Known.{Known, is_asked, score_of}
use Rattle.rs_scores.specs.Names.{has_marked}
use Rattle.rs_scores.specs.Places.{is_record, place_behind}
use Rattle.rs_scores.specs.Questions.{is_same_question}
use Rattle.rs_scores.specs.declared.place.Place.TheVariants.{Record}
use Rattle.rs_scores.specs.declared.fault.KnownFault.{KnownFault}
use Rattle.rs_scores.specs.declared.fault.KnownFault.TheVariants.{NotEnded, FieldCount, NotUtf8, NotAsked, NotScore, Twice, Memory}
use Rattle.rs_scores.specs.declared.known_score.KnownScore.{KnownScore}

-- the texts of a record's fields, from the field of this number on
abbrev pub texts_from : ℕ → ℕ → List (List ℕ) → Result (List (List ℕ)) KnownFault
texts_from number place [] = Ok []
texts_from number place (field ∷ rest) =
    if is_utf8 field then (texts_from number (place + 1) rest >>= λ more. Ok (field ∷ more)) else Err (NotUtf8 number place)

-- the question and the score of texts: the score is the last one
abbrev pub known_in : List (List ℕ) → ℕ → List (List ℕ) → Result KnownScore KnownFault
known_in names number texts =
    if is_asked names (slice_index_or texts 0 []) then scored (int_value (slice_index_or texts (length texts - 1) [])) else Err (NotAsked number) where
      scored : Option ℤ → Result KnownScore KnownFault
      scored (Some score) = Ok (record { question = take (length texts - 1) texts; score = score })
      scored None = Err (NotScore number)

-- the question and the score of the record of this number
abbrev pub known_of : List (List ℕ) → ℕ → List (List ℕ) → Result KnownScore KnownFault
known_of names number fields =
    if nat_lt (length fields) 3 then Err (FieldCount number (length fields))
    else if nat_lt 10 (length fields) then Err (FieldCount number (length fields))
    else (texts_from number 1 fields >>= known_in names number)

-- the score of a question among these
abbrev pub score_in : List (List ℕ) → List KnownScore → Option ℤ
score_in question scores = option_map (λ known. known.score) (find (λ known. is_same_question known.question question) scores)

-- scores, and one more: where its question has this score already it is taken once
abbrev pub with_entry : ℕ → List KnownScore → KnownScore → Result (List KnownScore) KnownFault
with_entry number before known = unless (score_in known.question before) where
  unless : Option ℤ → Result (List KnownScore) KnownFault
  unless None = Ok (before ++ known ∷ [])
  unless (Some score) = if int_eq score known.score then Ok before else Err (Twice number)

-- the scores of the records so far, and that of the record of this number
abbrev pub with_record : List (List ℕ) → ℕ → List KnownScore → List (List ℕ) → Result (List KnownScore) KnownFault
with_record names number before fields = known_of names number fields >>= with_entry number before

-- the scores of the records so far, and those of the next ones, from the record of this number on
abbrev pub scores_from : List (List ℕ) → ℕ → List KnownScore → List (List (List ℕ)) → Result (List KnownScore) KnownFault
scores_from names number before [] = Ok before
scores_from names number before (fields ∷ rest) = with_record names number before fields >>= λ all. scores_from names (number + 1) all rest

-- each record is ended by a line feed that stands in no quotes, behind one byte order mark
abbrev pub is_ended : List ℕ → Bool
is_ended bytes = is_record (place_behind Record (strip_bom bytes))

-- the scores of the records behind one byte order mark, or why there are none
abbrev pub scores_behind : List (List ℕ) → List ℕ → Result (List KnownScore) KnownFault
scores_behind names bytes = if is_ended bytes then scores_from names 1 [] (records_of bytes) else Err NotEnded

-- where a name begins with a byte order mark, one that stands at the start of a file belongs to its first record: another one is put in front of it
abbrev pub marked : List (List ℕ) → List ℕ → List ℕ
marked names bytes = if has_marked names then 0xEF ∷ 0xBB ∷ 0xBF ∷ bytes else bytes

-- the scores of a file, or why it has none
abbrev pub scores_in : List (List ℕ) → List ℕ → Result (List KnownScore) KnownFault
scores_in names bytes = scores_behind names (marked names bytes)

-- a table has exactly these scores
pub record Knows (names : List (List ℕ)) (scores : List KnownScore) (known : Known) : Type 0 where
  pub asked : known.names ≡ names
  pub each : (question : List (List ℕ)) → score_of question known ≡ score_in question scores
  pub count : length known.scores ≡ length scores

-- what reading into a table left, and answered; there may be no memory
abbrev pub Reads : List (List ℕ) → Result (List KnownScore) KnownFault → Result (Unit {0}) KnownFault → Known → Type 0
Reads names answer (Ok done) known = (scores : List KnownScore) × (answer ≡ Ok scores) × Knows names scores known
Reads names answer (Err fault) known = (fault ≡ Memory) ⊎ (answer ≡ Err fault)

-- what reading made, or answered
abbrev pub ReadsTable : List (List ℕ) → Result (List KnownScore) KnownFault → Result Known KnownFault → Type 0
ReadsTable names answer (Ok known) = (scores : List KnownScore) × (answer ≡ Ok scores) × Knows names scores known
ReadsTable names answer (Err fault) = (fault ≡ Memory) ⊎ (answer ≡ Err fault)
