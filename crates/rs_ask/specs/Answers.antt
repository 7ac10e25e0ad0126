-- Answers: lines with a whole number, one after another.
use Rattle.std.specs.Prelude.{ℕ, ℤ, pos, negsuc, ◌≡◌, ◌+◌, ◌==◌, ◌||◌, Bool, false, List, [], ◌∷◌, length, min, nat_le, nat_lt, take, Option, Some, None, IfSome, Result, Ok, Err, if◌then◌else◌}
use Rattle.std.specs.Io.KnownBytes.{Consumes, IsAtEnd}
use Rattle.std.specs.List.{list_all, position_or_len}
use Rattle.rs_value.specs.Number.{int_value}
use Rattle.rs_value.specs.Outside.{Faulted, Outside}
use Rattle.rs_scores.specs.declared.known_score.KnownScore.{KnownScore}
use Rattle.rs_ask.specs.declared.no_answer.NoAnswer.{NoAnswer}
use Rattle.rs_ask.specs.declared.no_answer.NoAnswer.TheVariants.{Ended, NotNumber, OutOfRange, TooLong, Unasked, Unread}

-- what reading one byte does to the bytes that are left, where they are known: it takes the first one; where none is left it takes none, and where the read fails it takes none either
abbrev pub ReadsByte : {E : Type 0} → Result (Option ℕ) E → Option (List ℕ) → Option (List ℕ) → Type 0
ReadsByte (Ok (Some byte)) old new = Consumes old new (byte ∷ [])
ReadsByte (Ok None) old new = Consumes old new [] × IsAtEnd new
ReadsByte (Err fault) old new = Consumes old new []

-- a line without a carriage return at its end
abbrev pub without_return : List ℕ → List ℕ
without_return [] = []
without_return (byte ∷ []) = if byte == 13 then [] else byte ∷ []
without_return (byte ∷ next ∷ rest) = byte ∷ without_return (next ∷ rest)

-- a byte that is blank: a space or a tab
abbrev pub is_blank : ℕ → Bool
is_blank byte = byte == 32 || byte == 9

-- a line without the blanks at its end
abbrev pub without_blanks : List ℕ → List ℕ
without_blanks [] = []
without_blanks (byte ∷ rest) = if list_all is_blank (byte ∷ rest) then [] else byte ∷ without_blanks rest

-- the number of a line, if it has one: blanks may stand behind it, and then a carriage return
abbrev pub answer_in : List ℕ → Option ℤ
answer_in line = int_value (without_blanks (without_return line))

-- a number, or that this line has none
abbrev pub or_not_number : List ℕ → Option ℤ → Result ℤ NoAnswer
or_not_number line (Some number) = Ok number
or_not_number line None = Err (NotNumber line)

-- a line's number, or that it has none
abbrev pub line_answer : List ℕ → Result ℤ NoAnswer
line_answer line = or_not_number line (answer_in line)

-- how many bytes stand before the first line feed, which are all where there is none
abbrev pub line_length : List ℕ → ℕ
line_length bytes = position_or_len (λ byte. byte == 10) bytes

-- why there is no ended line of at most 64 bytes: there are more bytes than these, or they end
abbrev pub no_line : List ℕ → NoAnswer
no_line bytes = if nat_lt 64 (length bytes) then TooLong else Ended

-- the number of the first line of these bytes, where it is ended, has at most 64 bytes, and has a number; or why there is none
abbrev pub next_answer : List ℕ → Result ℤ NoAnswer
next_answer bytes = if nat_lt (line_length bytes) (min 65 (length bytes)) then line_answer (take (line_length bytes) bytes) else Err (no_line bytes)

-- the bytes that are read for it: up to the first line feed, and at most 65
abbrev pub answer_bytes : List ℕ → List ℕ
answer_bytes bytes = take (min 65 (line_length bytes + 1)) bytes

-- an answer was read of bytes that were left, which are those that are known, where they are: it is the next one, or why there is none
pub record ReadsAnswer (answer : Result ℤ NoAnswer) (old new : Option (List ℕ)) : Type 0 where
  pub left : List ℕ
  pub known : IfSome old (λ bytes. bytes ≡ left)
  pub is : answer ≡ next_answer left
  pub consumed : Consumes old new (answer_bytes left)

-- what was read as the next answer: a read failed, or the bytes that were left say it
abbrev pub ReadsNext : Result ℤ NoAnswer → Outside (List ℕ) → Outside (List ℕ) → Type 0
ReadsNext (Err Unread) old new = Faulted old new
ReadsNext (Ok number) old new = ReadsAnswer (Ok number) old.told new.told
ReadsNext (Err Unasked) old new = ⊥
ReadsNext (Err (OutOfRange number)) old new = ⊥
ReadsNext (Err Ended) old new = ReadsAnswer (Err Ended) old.told new.told
ReadsNext (Err TooLong) old new = ReadsAnswer (Err TooLong) old.told new.told
ReadsNext (Err (NotNumber line)) old new = ReadsAnswer (Err (NotNumber line)) old.told new.told

-- a number is a score of a predicate with this greatest one
abbrev pub is_score : ℕ → ℤ → Bool
is_score most (pos score) = nat_le score most
is_score most (negsuc less) = false

-- an answer as a score of a predicate with this greatest one
abbrev pub score_in : ℕ → Result ℤ NoAnswer → Result ℤ NoAnswer
score_in most (Ok number) = if is_score most number then Ok number else Err (OutOfRange number)
score_in most (Err why) = Err why

-- the next answers were read, one after another: they are the scores of these questions
abbrev pub ReadsScores : List KnownScore → Option (List ℕ) → Option (List ℕ) → Type 0
ReadsScores [] old new = new ≡ old
ReadsScores (entry ∷ rest) old new = (middle : Option (List ℕ)) × ReadsAnswer (Ok entry.score) old middle × ReadsScores rest middle new
