-- Runs whose scores are asked for: what is learned between one run and the next, and what all of them put, asked and kept.
use Rattle.std.specs.Prelude.{ℕ, ℤ, ◌≡◌, ◌⊎◌, ◌+◌, true, false, List, [], ◌∷◌, length, Option, Some, None, option_map, Result, Ok, Err}
use Rattle.std.specs.List.{concat}
use Rattle.rs_value.specs.Outside.{Faulted, Keeps, Outside}
use Rattle.rs_outside.specs.Sink.{IsPrefix}
use Rattle.rs_scores.specs.Known.{Known, score_of, score_with}
use Rattle.rs_scores.specs.Lines.{known_line, known_lines, question_line, question_lines}
use Rattle.rs_scores.specs.declared.known_score.KnownScore.{KnownScore}
use Rattle.rs_ask.specs.Answers.{ReadsAnswer, ReadsScores, is_score}
use Rattle.rs_ask.specs.Putting.{PutFails, PutsAll, PutsAndPart, PutsBytes, all_put}
use Rattle.rs_ask.specs.Stops.{StopsAt}
use Rattle.rs_ask.specs.declared.answering.Reply.{Reply}
use Rattle.rs_ask.specs.declared.answering.Reply.TheVariants.{Learned, Nothing, Unanswered}
use Rattle.rs_ask.specs.declared.asked.Asked.{Asked}
use Rattle.rs_ask.specs.declared.channel.Channel.{Channel}
use Rattle.rs_ask.specs.declared.no_answer.NoAnswer.{NoAnswer}
use Rattle.rs_ask.specs.declared.no_answer.NoAnswer.TheVariants.{Ended, NotNumber, OutOfRange, TooLong, Unasked, Unread}
use Rattle.rs_ask.specs.declared.pass.Pass.{Pass}
use Rattle.rs_ask.specs.declared.stop.Stop.{Stop}
use Rattle.rs_ask.specs.declared.stop.Stop.TheVariants.{Differs, Lost, Memory, Write}

-- one more score is known, whose question had none
pub record Learns (known new : Known) (last : KnownScore) : Type 0 where
  pub unknown : score_of last.question known ≡ None
  pub names : new.names ≡ known.names
  pub scores : (other : List (List ℕ)) → score_of other new ≡ score_with last.question last.score known other

-- a run over what is known put these rows, which begin with what was put before, and missed this question, whose score was then learned
pub record LearnsOne {R : Type 0} (ran : R → Known → Pass → R → Outside (List (List ℕ)) → Outside (List (List ℕ)) → Type 0) (entry : KnownScore) (old : R) (known : Known) (before : List ℕ) (new : R) (next : Known) (put : List ℕ) : Type 0 where
  pub pass : Pass
  pub pieces : List (List ℕ)
  pub did : ran old known pass new (all_put []) (all_put pieces)
  pub puts : concat pieces ≡ put
  pub begins : IsPrefix before put
  pub missing : pass.missing ≡ Some entry.question
  pub is_score : is_score pass.most entry.score ≡ true
  pub learns : Learns known next entry

-- these scores were learned one after another, each between two runs, of which each puts what the one before it put, and may put more
abbrev pub LearnsAll : {R : Type 0} → (R → Known → Pass → R → Outside (List (List ℕ)) → Outside (List (List ℕ)) → Type 0) → List KnownScore → R → Known → List ℕ → R → Known → List ℕ → Type 0
LearnsAll ran [] old known before new knows put = (new ≡ old) × (knows ≡ known) × (put ≡ before)
LearnsAll {R = R} ran (entry ∷ rest) old known before new knows put =
    (after : R) × (next : Known) × (more : List ℕ) × LearnsOne ran entry old known before after next more × LearnsAll ran rest after next more new knows put

-- a channel: where questions go, what answers are read from, and where known scores are kept
pub record ChannelState : Type 0 where
  pub questions : Outside (List (List ℕ))
  pub answers : Outside (List ℕ)
  pub scores : Outside (List (List ℕ))

-- what contracts see of a channel
abbrev pub channel_state : {Q A K : Type 0} → (Q → Outside (List (List ℕ))) → (A → Outside (List ℕ)) → (K → Outside (List (List ℕ))) → Channel Q A K → ChannelState
channel_state questions answers scores channel = record { questions = questions channel.questions; answers = answers channel.answers; scores = scores channel.scores }

-- the same, and where rows go
pub record AskingState : Type 0 where
  pub channel : ChannelState
  pub out : Outside (List (List ℕ))

-- no count of faults of a channel fell
pub record KeepsChannel (old new : ChannelState) : Type 0 where
  pub questions : Keeps old.questions new.questions
  pub answers : Keeps old.answers new.answers
  pub scores : Keeps old.scores new.scores

-- these questions were put one after another, the next answers were read and are their scores, and these were kept
pub record AnswersAll (entries : List KnownScore) (before after : ChannelState) : Type 0 where
  pub questions : PutsAll (question_lines entries) before.questions after.questions
  pub answers : ReadsScores entries before.answers.told after.answers.told
  pub kept : PutsAll (known_lines entries) before.scores after.scores
  pub keeps : KeepsChannel before after

-- a question was put, and this was read in place of a score of a predicate with this greatest one
abbrev pub ReadsNone : ℕ → NoAnswer → Outside (List ℕ) → Outside (List ℕ) → Type 0
ReadsNone most Unasked old new = ⊥
ReadsNone most Unread old new = Faulted old new
ReadsNone most Ended old new = ReadsAnswer (Err Ended) old.told new.told
ReadsNone most TooLong old new = ReadsAnswer (Err TooLong) old.told new.told
ReadsNone most (NotNumber line) old new = ReadsAnswer (Err (NotNumber line)) old.told new.told
ReadsNone most (OutOfRange number) old new = (is_score most number ≡ false) × ReadsAnswer (Ok number) old.told new.told

-- a question was asked: what its answer is, or why there is none
abbrev pub GivesAnswer : List (List ℕ) → ℕ → Result ℤ NoAnswer → Outside (List (List ℕ)) → Outside (List (List ℕ)) → Outside (List ℕ) → Outside (List ℕ) → Type 0
GivesAnswer question most (Ok score) asked asks answers left =
    PutsAll (question_line question ∷ []) asked asks × (is_score most score ≡ true) × ReadsAnswer (Ok score) answers.told left.told
GivesAnswer question most (Err Unasked) asked asks answers left = PutFails (question_line question) asked asks × (left ≡ answers)
GivesAnswer question most (Err why) asked asks answers left = PutsAll (question_line question ∷ []) asked asks × ReadsNone most why answers left

-- why a question has no answer: its put failed, and nothing was read; or it was put, and then no score was read
abbrev pub HasNoAnswer : List (List ℕ) → ℕ → NoAnswer → ChannelState → ChannelState → Type 0
HasNoAnswer question most why before after = GivesAnswer question most (Err why) before.questions after.questions before.answers after.answers

-- asking ends where nothing is missing, and then nothing is done, or where the question that is missing has no answer, and then no score is kept
abbrev pub EndsAsking : Option (List (List ℕ)) → ℕ → Option NoAnswer → ChannelState → ChannelState → Type 0
EndsAsking None most None before after = after ≡ before
EndsAsking None most (Some why) before after = ⊥
EndsAsking (Some question) most None before after = ⊥
EndsAsking (Some question) most (Some why) before after = HasNoAnswer question most why before after × (after.scores ≡ before.scores)

-- the answer to what is missing was read, and is a score: it has this line
pub record ReadsScore (missing : Option (List (List ℕ))) (most : ℕ) (line : List ℕ) (before after : ChannelState) : Type 0 where
  pub entry : KnownScore
  pub is : missing ≡ Some entry.question
  pub is_line : line ≡ known_line entry
  pub is_score : is_score most entry.score ≡ true
  pub asked : PutsAll (question_line entry.question ∷ []) before.questions after.questions
  pub read : ReadsAnswer (Ok entry.score) before.answers.told after.answers.told

-- asking was stopped: the put of a score failed, whose line is told; or for want of memory, and then no answer was read and no score was kept, or it was read and of its score's line at most a part was kept
abbrev pub StopsAsking : Option (List (List ℕ)) → ℕ → Stop → ChannelState → ChannelState → Type 0
StopsAsking missing most Differs before after = ⊥
StopsAsking missing most Write before after = ⊥
StopsAsking missing most (Lost line) before after = ReadsScore missing most line before after × PutFails line before.scores after.scores
StopsAsking missing most Memory before after =
    (PutsAndPart [] (option_map question_line missing) before.questions after.questions × (after.answers ≡ before.answers) × (after.scores ≡ before.scores))
    ⊎ ((line : List ℕ) × ReadsScore missing most line before after × PutsAndPart [] (Some line) before.scores after.scores)

-- the put of a score's line failed, or there was no memory, and then at most a part of it was put
abbrev pub KeepStops : Stop → List ℕ → Outside (List (List ℕ)) → Outside (List (List ℕ)) → Type 0
KeepStops Differs line old new = ⊥
KeepStops Write line old new = ⊥
KeepStops (Lost lost) line old new = (lost ≡ line) × PutFails line old new
KeepStops Memory line old new = PutsAndPart [] (Some line) old new

-- runs up to the last one, and the rows that it put: the scores that were learned before it, and what was put by then
pub record RunsUpTo {R : Type 0} (ran : R → Known → Pass → R → Outside (List (List ℕ)) → Outside (List (List ℕ)) → Type 0) (entries : List KnownScore) (pass : Pass) (put : List ℕ) (rows : Outside (List (List ℕ))) (old : R) (known : Known) (new : R) (knows : Known) : Type 0 where
  pub before : R
  pub learned : LearnsAll ran entries old known [] before knows put
  pub did : ran before knows pass new (all_put []) rows

-- all that the last run puts was put, which begins with all that was put before it
pub record PutsRun {R : Type 0} (ran : R → Known → Pass → R → Outside (List (List ℕ)) → Outside (List (List ℕ)) → Type 0) (entries : List KnownScore) (pass : Pass) (old : R) (known : Known) (new : R) (knows : Known) (before after : Outside (List (List ℕ))) : Type 0 where
  pub put : List ℕ
  pub pieces : List (List ℕ)
  pub runs : RunsUpTo ran entries pass put (all_put pieces) old known new knows
  pub begins : IsPrefix put (concat pieces)
  pub rows : PutsBytes (concat pieces) before after

-- it ended with a run: all that was put is what that run puts. Each score that was learned before it was asked for, read and kept; and then nothing was missing, or the question that the run missed has no answer
pub record Ends {R : Type 0} (ran : R → Known → Pass → R → Outside (List (List ℕ)) → Outside (List (List ℕ)) → Type 0) (asked : Asked) (old : R) (known : Known) (new : R) (knows : Known) (before after : AskingState) : Type 0 where
  pub entries : List KnownScore
  pub last : ChannelState
  pub puts : PutsRun ran entries asked.pass old known new knows before.out after.out
  pub count : asked.answers ≡ length entries
  pub answered : AnswersAll entries before.channel last
  pub ends : EndsAsking asked.pass.missing asked.pass.most asked.unanswered last after.channel

-- it was stopped in a run: all that was put before it stays, and what was put of it is told by the stop. Nothing was asked behind the scores that were learned before it
pub record StopsInRun {R : Type 0} (ran : R → Known → Pass → R → Outside (List (List ℕ)) → Outside (List (List ℕ)) → Type 0) (entries : List KnownScore) (pass : Pass) (stop : Stop) (old : R) (known : Known) (new : R) (knows : Known) (last : ChannelState) (before after : AskingState) : Type 0 where
  pub put : List ℕ
  pub rows : Outside (List (List ℕ))
  pub runs : RunsUpTo ran entries pass put rows old known new knows
  pub stops : StopsAt stop pass.lacked_memory put rows before.out after.out
  pub same : after.channel ≡ last

-- it was stopped behind a run, while its question was asked: all of that run was put
pub record StopsBehind {R : Type 0} (ran : R → Known → Pass → R → Outside (List (List ℕ)) → Outside (List (List ℕ)) → Type 0) (entries : List KnownScore) (pass : Pass) (stop : Stop) (old : R) (known : Known) (new : R) (knows : Known) (last : ChannelState) (before after : AskingState) : Type 0 where
  pub puts : PutsRun ran entries pass old known new knows before.out after.out
  pub stops : StopsAsking pass.missing pass.most stop last after.channel

-- it was stopped in a run, or behind one. Each score that was learned before it was asked for, read and kept
pub record StopsAfter {R : Type 0} (ran : R → Known → Pass → R → Outside (List (List ℕ)) → Outside (List (List ℕ)) → Type 0) (stop : Stop) (old : R) (known : Known) (new : R) (knows : Known) (before after : AskingState) : Type 0 where
  pub entries : List KnownScore
  pub pass : Pass
  pub last : ChannelState
  pub answered : AnswersAll entries before.channel last
  pub stops : StopsInRun ran entries pass stop old known new knows last before after ⊎ StopsBehind ran entries pass stop old known new knows last before after

-- a question was asked, and its answer read, kept and learned
pub record Answered (missing : Option (List (List ℕ))) (most : ℕ) (known new : Known) (before after : ChannelState) : Type 0 where
  pub entry : KnownScore
  pub is : missing ≡ Some entry.question
  pub is_score : is_score most entry.score ≡ true
  pub learns : Learns known new entry
  pub count : length new.scores ≡ length known.scores + 1
  pub answered : AnswersAll (entry ∷ []) before after

-- what asking left, by its reply: a score was learned, or nothing was
abbrev pub Replies : Option (List (List ℕ)) → ℕ → Reply → Known → Known → ChannelState → ChannelState → Type 0
Replies missing most Nothing known new before after = (new ≡ known) × EndsAsking missing most None before after
Replies missing most Learned known new before after = Answered missing most known new before after
Replies missing most (Unanswered why) known new before after = (new ≡ known) × EndsAsking missing most (Some why) before after

-- it was stopped: nothing was learned
pub record AskStops (missing : Option (List (List ℕ))) (most : ℕ) (stop : Stop) (known new : Known) (before after : ChannelState) : Type 0 where
  pub same : new ≡ known
  pub stops : StopsAsking missing most stop before after
