-- The lines on standard error where runs ended.
use Rattle.std.specs.Prelude.{ℕ, ℤ, ◌+◌, ◌-◌, ◌^◌, List, [], ◌∷◌, ◌++◌, Option, Some, None, codes, if◌then◌else◌, min, slice_index_or}
use Rattle.std.specs.Fmt.{decimal, signed_decimal}
use Rattle.std.specs.List.{concat}
use Rattle.rs_scores.specs.Lines.{question_line}
use Rattle.rs_ask.specs.declared.asked.Asked.{Asked}
use Rattle.rs_ask.specs.declared.no_answer.NoAnswer.{NoAnswer}
use Rattle.rs_ask.specs.declared.no_answer.NoAnswer.TheVariants.{Ended, NotNumber, OutOfRange, TooLong, Unasked, Unread}
use Rattle.rs_ask.specs.declared.pass.Pass.{Pass}
use Rattle.rs_ask.specs.declared.stop.Stop.{Stop}
use Rattle.rs_ask.specs.declared.stop.Stop.TheVariants.{Differs, Lost, Memory, Write}

-- the line of want of memory
abbrev pub memory_line : List ℕ
memory_line = codes "memory\n"

-- the line of a run, which may be empty; a run that lacked memory may not have kept its line
abbrev pub pass_line : Pass → List ℕ
pass_line pass = if pass.lacked_memory then memory_line else concat pass.err.pieces

-- the name of the predicate that a question asks for
abbrev pub predicate_of : List (List ℕ) → List ℕ
predicate_of question = slice_index_or question 0 []

-- the line of a question whose answer is none for this reason
abbrev pub probe_line : List (List ℕ) → List ℕ → List ℕ
probe_line question why = codes "probe: " ++ predicate_of question ++ codes ": " ++ why ++ codes "\n"

-- what is told of a line that has no number
abbrev pub no_number : List ℕ → List ℕ
no_number answer = codes "\"" ++ answer ++ codes "\" is no whole number"

-- the line of a question whose answer is this number, which is no score of its predicate
abbrev pub out_of_range_line : List (List ℕ) → ℕ → ℤ → List ℕ
out_of_range_line question most number = codes "score: " ++ signed_decimal number ++ codes " is not in 0.." ++ decimal most ++ codes ": " ++ question_line question

-- the line of a question that has no answer
abbrev pub unanswered_line : List (List ℕ) → ℕ → NoAnswer → List ℕ
unanswered_line question most Unasked = probe_line question (codes "closed")
unanswered_line question most Unread = probe_line question (codes "read")
unanswered_line question most Ended = probe_line question (codes "closed")
unanswered_line question most TooLong = probe_line question (codes "more than 64 bytes")
unanswered_line question most (NotNumber answer) = probe_line question (no_number answer)
unanswered_line question most (OutOfRange number) = out_of_range_line question most number

-- the line of how the last run ended; where its question has no answer it says why
abbrev pub line_of : Pass → Option (List (List ℕ)) → Option NoAnswer → List ℕ
line_of pass (Some question) (Some why) = unanswered_line question pass.most why
line_of pass (Some question) None = pass_line pass
line_of pass None why = pass_line pass

abbrev pub last_line : Asked → List ℕ
last_line asked = line_of asked.pass asked.pass.missing asked.unanswered

-- the status of the program where it ended with a run: that of a bad score where the last answer is none, and else that of the run
abbrev pub status_by : Pass → Option NoAnswer → ℕ
status_by pass (Some (OutOfRange number)) = 7
status_by pass (Some Unasked) = pass.status
status_by pass (Some Unread) = pass.status
status_by pass (Some Ended) = pass.status
status_by pass (Some TooLong) = pass.status
status_by pass (Some (NotNumber answer)) = pass.status
status_by pass None = pass.status

abbrev pub end_status : Asked → ℕ
end_status asked = status_by asked.pass asked.unanswered

-- how many questions were asked: those that were answered, and one that has no answer
abbrev pub unanswered_in : Option (List (List ℕ)) → ℕ
unanswered_in None = 0
unanswered_in (Some question) = 1

abbrev pub question_count : Asked → ℕ
question_count asked = min (asked.answers + unanswered_in asked.pass.missing) (2 ^ 64 - 1)

-- the line with the counts, where so many scores were known before
abbrev pub counts_line : Asked → ℕ → List ℕ
counts_line asked known =
    codes "calls=" ++ decimal asked.pass.calls ++ codes " questions=" ++ decimal (question_count asked) ++ codes " known=" ++ decimal known ++ codes "\n"

-- the lines behind the last run
abbrev pub end_lines : Asked → ℕ → List (List ℕ)
end_lines asked known = last_line asked ∷ counts_line asked known ∷ []

-- the lines and the status of what stopped it. A score that couldn't be kept is told by the line that isn't in the file, so that it can be written there by hand
abbrev pub stop_lines : Stop → List (List ℕ)
stop_lines Differs = codes "differs\n" ∷ []
stop_lines Write = codes "write\n" ∷ []
stop_lines (Lost line) = codes "write: not kept:\n" ∷ line ∷ []
stop_lines Memory = memory_line ∷ []

abbrev pub stop_status : Stop → ℕ
stop_status Differs = 10
stop_status Write = 4
stop_status (Lost line) = 4
stop_status Memory = 1
