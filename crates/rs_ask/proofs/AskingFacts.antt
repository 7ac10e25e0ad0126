-- One run after another: what holds behind each, and how they end.
use Rattle.std.proofs.Common.{◌≡◌, ◌∙◌, ◌+◌, ◌-◌, ℕ, ℤ, Bool, true, false, List, [], ◌∷◌, ◌++◌, arith, cond, inl, inr, length, length-append, None, Option, Some, Err, Ok, Result, ap, refl, subst, sym}
use Rattle.std.specs.List.{concat}
use Rattle.std.specs.Prelude.{IfSome, option_map}
use Rattle.std.proofs.lemmas.List.{map-append}
use Rattle.rs_value.specs.Outside.{Outside}
use Rattle.rs_value.proofs.OutsideFacts.{Keeps-refl, Keeps-then}
use Rattle.rs_outside.specs.Sink.{IsPrefix}
use Rattle.rs_scores.specs.Known.{Known, score_of}
use Rattle.rs_scores.specs.Lines.{known_line, known_lines, question_line, question_lines}
use Rattle.rs_scores.specs.declared.known_score.KnownScore.{KnownScore}
use Rattle.rs_ask.proofs.AnswerFacts.{ReadsScores-more}
use Rattle.rs_ask.proofs.PutFacts.{Pieces, PutsAll-none, PutsAll-then}
use Rattle.rs_ask.specs.Asking.{Answered, AnswersAll, AskStops, AskingState, ChannelState, Ends, EndsAsking, GivesAnswer, KeepStops, LearnsAll, LearnsOne, PutsRun, ReadsScore, RunsUpTo, StopsAfter, StopsAsking}
use Rattle.rs_ask.specs.Answers.{ReadsAnswer, ReadsNext, is_score, score_in}
use Rattle.rs_ask.specs.Putting.{PutFails, PutsAll, PutsBytes, all_put}
use Rattle.rs_ask.specs.Running.{RunStops, RunsWhole}
use Rattle.rs_ask.specs.declared.no_answer.NoAnswer.{NoAnswer}
use Rattle.rs_ask.specs.declared.no_answer.NoAnswer.TheVariants.{Ended, NotNumber, OutOfRange, TooLong, Unasked, Unread}
use Rattle.rs_ask.specs.declared.pass.Pass.{Pass}
use Rattle.rs_ask.specs.declared.stop.Stop.{Stop}
use Rattle.rs_ask.specs.declared.stop.Stop.TheVariants.{Differs, Lost, Memory, Write}

-- no question was asked
pub AnswersAll-none : (channel : ChannelState) → AnswersAll [] channel channel
AnswersAll-none channel = record {
  questions = PutsAll-none channel.questions;
  answers = refl;
  kept = PutsAll-none channel.scores;
  keeps = record { questions = Keeps-refl channel.questions; answers = Keeps-refl channel.answers; scores = Keeps-refl channel.scores };
}

-- questions, and then more
pub AnswersAll-then : (entries more : List KnownScore) (before middle after : ChannelState) → AnswersAll entries before middle → AnswersAll more middle after → AnswersAll (entries ++ more) before after
AnswersAll-then entries more before middle after first then = record {
  questions =
      PutsAll-then (question_lines entries) (question_lines more) before.questions middle.questions after.questions first.questions then.questions
      ∙ ap (λ pieces. option_map (λ told. told ++ pieces) before.questions.told) (sym (map-append (λ (e : KnownScore). question_line e.question) entries more));
  answers = ReadsScores-more entries more before.answers.told middle.answers.told after.answers.told first.answers then.answers;
  kept =
      PutsAll-then (known_lines entries) (known_lines more) before.scores middle.scores after.scores first.kept then.kept
      ∙ ap (λ pieces. option_map (λ told. told ++ pieces) before.scores.told) (sym (map-append known_line entries more));
  keeps = record {
    questions = Keeps-then before.questions middle.questions after.questions first.keeps.questions then.keeps.questions;
    answers = Keeps-then before.answers middle.answers after.answers first.keeps.answers then.keeps.answers;
    scores = Keeps-then before.scores middle.scores after.scores first.keeps.scores then.keeps.scores;
  };
}

-- what asks and runs: what a run does
module _ {R : Type 0} (ran : R → Known → Pass → R → Outside (List (List ℕ)) → Outside (List (List ℕ)) → Type 0) where
  -- one more score is learned behind others
  LearnsAll-more : (entries : List KnownScore) (entry : KnownScore) (old : R) (known : Known) (before : List ℕ) (middle : R) (some : Known) (put : List ℕ) (new : R) (knows : Known) (bytes : List ℕ)
      → LearnsAll ran entries old known before middle some put → LearnsOne ran entry middle some put new knows bytes → LearnsAll ran (entries ++ entry ∷ []) old known before new knows bytes
  LearnsAll-more [] entry old known before middle some put new knows bytes learned last = (
    new,
    knows,
    bytes,
    subst (λ (m : R). LearnsOne ran entry m known before new knows bytes) learned.0
        (subst (λ (k : Known). LearnsOne ran entry middle k before new knows bytes) learned.1 (subst (λ (p : List ℕ). LearnsOne ran entry middle some p new knows bytes) learned.2 last)),
    (refl, refl, refl),
  )
  LearnsAll-more (first ∷ rest) entry old known before middle some put new knows bytes learned last =
      (learned.0, learned.1, learned.2, learned.3, LearnsAll-more rest entry learned.0 learned.1 learned.2 middle some put new knows bytes learned.4 last)

  -- what holds behind each run, when all that it puts is put
  pub record Going (pass : Pass) (answers : ℕ) (old : R) (known : Known) (new : R) (knows : Known) (before : AskingState) (channel : ChannelState) (out : Pieces) (bytes : List ℕ) : Type 0 where
    pub entries : List KnownScore
    pub put : List ℕ
    pub pieces : List (List ℕ)
    pub runs : RunsUpTo ran entries pass put (all_put pieces) old known new knows
    pub are : concat pieces ≡ bytes
    pub begins : IsPrefix put bytes
    pub rows : PutsBytes bytes before.out out
    pub count : answers ≡ length entries
    pub more : length knows.scores ≡ length known.scores + answers
    pub unknown : IfSome pass.missing (λ question. score_of question knows ≡ None)
    pub answered : AnswersAll entries before.channel channel

  -- behind the first run
  pub Going-first : (pass : Pass) (old : R) (known : Known) (new : R) (before : AskingState) (out : Pieces) (bytes : List ℕ)
      → RunsWhole ran pass old known new [] bytes before.out out → IfSome pass.missing (λ question. score_of question known ≡ None)
      → Going pass 0 old known new known before before.channel out bytes
  Going-first pass old known new before out bytes whole unknown = record {
    entries = [];
    put = [];
    pieces = whole.pieces;
    runs = record { before = old; learned = (refl, refl, refl); did = whole.did };
    are = whole.are;
    begins = record { rest = bytes; split = refl };
    rows = whole.puts;
    count = refl;
    more = sym (plus_zero (length known.scores));
    unknown = unknown;
    answered = AnswersAll-none before.channel;
  } where
    plus_zero : (n : ℕ) → n + 0 ≡ n
    plus_zero n = omega arith

  -- the scores that are learned before the next run
  learned-next : (pass : Pass) (answers : ℕ) (old : R) (known : Known) (new : R) (knows all : Known) (before : AskingState) (channel then : ChannelState) (out : Pieces) (bytes : List ℕ)
      → (going : Going pass answers old known new knows before channel out bytes) (answered : Answered pass.missing pass.most knows all channel then)
      → LearnsAll ran (going.entries ++ answered.entry ∷ []) old known [] new all bytes
  learned-next pass answers old known new knows all before channel then out bytes going answered =
      LearnsAll-more going.entries answered.entry old known [] going.runs.before knows going.put new all bytes going.runs.learned (record {
        pass = pass;
        pieces = going.pieces;
        did = going.runs.did;
        puts = going.are;
        begins = going.begins;
        missing = answered.is;
        is_score = answered.is_score;
        learns = answered.learns;
      })

  -- behind the next run, which many scores are known before
  pub Going-next : (pass next : Pass) (answers count first : ℕ) (old : R) (known : Known) (new : R) (knows : Known) (last : R) (all : Known) (before : AskingState) (channel then : ChannelState) (out rest : Pieces) (bytes more : List ℕ)
      → Going pass answers old known new knows before channel out bytes → Answered pass.missing pass.most knows all channel then
      → RunsWhole ran next new all last bytes more before.out rest → IfSome next.missing (λ question. score_of question all ≡ None)
      → first ≡ length known.scores → count ≡ length all.scores
      → Going next (count - first) old known last all before then rest more
  Going-next pass next answers count first old known new knows last all before channel then out rest bytes more going answered whole unknown is_first is_count = record {
    entries = going.entries ++ answered.entry ∷ [];
    put = bytes;
    pieces = whole.pieces;
    runs = record { before = new; learned = learned-next pass answers old known new knows all before channel then out bytes going answered; did = whole.did };
    are = whole.are;
    begins = record { rest = whole.fresh; split = whole.goes };
    rows = whole.puts;
    count = omega (arith, answered.count, going.more, going.count, is_first, is_count, length-append going.entries (answered.entry ∷ []));
    more = omega (arith, answered.count, going.more, is_first, is_count);
    unknown = unknown;
    answered = AnswersAll-then going.entries (answered.entry ∷ []) before.channel channel then going.answered answered.answered;
  }

  -- all of the run was put
  PutsRun-going : (pass : Pass) (answers : ℕ) (old : R) (known : Known) (new : R) (knows all : Known) (before : AskingState) (channel : ChannelState) (out : Pieces) (bytes : List ℕ) → all ≡ knows
      → (going : Going pass answers old known new knows before channel out bytes) → PutsRun ran going.entries pass old known new all before.out out
  PutsRun-going pass answers old known new knows all before channel out bytes same going = record {
    put = going.put;
    pieces = going.pieces;
    runs = subst (λ (k : Known). RunsUpTo ran going.entries pass going.put (all_put going.pieces) old known new k) (sym same) going.runs;
    begins = subst (λ (b : List ℕ). IsPrefix going.put b) (sym going.are) going.begins;
    rows = subst (λ (b : List ℕ). PutsBytes b before.out out) (sym going.are) going.rows;
  }

  -- it ends
  pub Ends-going : (pass : Pass) (answers : ℕ) (unanswered : Option NoAnswer) (old : R) (known : Known) (new : R) (knows all : Known) (before : AskingState) (channel then : ChannelState) (out : Pieces) (bytes : List ℕ)
      → Going pass answers old known new knows before channel out bytes → all ≡ knows → EndsAsking pass.missing pass.most unanswered channel then
      → Ends ran (record { pass = pass; answers = answers; unanswered = unanswered }) old known new all before (record { channel = then; out = out })
  Ends-going pass answers unanswered old known new knows all before channel then out bytes going same ends = record {
    entries = going.entries;
    last = channel;
    puts = PutsRun-going pass answers old known new knows all before channel out bytes same going;
    count = going.count;
    answered = going.answered;
    ends = ends;
  }

  -- it is stopped while it asks
  pub StopsAfter-asking : (pass : Pass) (why : Stop) (answers : ℕ) (old : R) (known : Known) (new : R) (knows all : Known) (before : AskingState) (channel then : ChannelState) (out : Pieces) (bytes : List ℕ)
      → Going pass answers old known new knows before channel out bytes → AskStops pass.missing pass.most why knows all channel then
      → StopsAfter ran why old known new all before (record { channel = then; out = out })
  StopsAfter-asking pass why answers old known new knows all before channel then out bytes going asked = record {
    entries = going.entries;
    pass = pass;
    last = channel;
    answered = going.answered;
    stops = inr (record { puts = PutsRun-going pass answers old known new knows all before channel out bytes asked.same going; stops = asked.stops });
  }

  -- it is stopped in the first run
  pub StopsAfter-first : (why : Stop) (old : R) (known : Known) (new : R) (before : AskingState) (out : Pieces)
      → RunStops ran why old known new [] before.out out → StopsAfter ran why old known new known before (record { channel = before.channel; out = out })
  StopsAfter-first why old known new before out stopped = record {
    entries = [];
    pass = stopped.pass;
    last = before.channel;
    answered = AnswersAll-none before.channel;
    stops = inl (record { put = []; rows = stopped.rows; runs = record { before = old; learned = (refl, refl, refl); did = stopped.did }; stops = stopped.stops; same = refl });
  }

  -- it is stopped in a later run
  pub StopsAfter-next : (pass : Pass) (why : Stop) (answers : ℕ) (old : R) (known : Known) (new : R) (knows : Known) (last : R) (all : Known) (before : AskingState) (channel then : ChannelState) (out rest : Pieces) (bytes : List ℕ)
      → Going pass answers old known new knows before channel out bytes → Answered pass.missing pass.most knows all channel then → RunStops ran why new all last bytes before.out rest
      → StopsAfter ran why old known last all before (record { channel = then; out = rest })
  StopsAfter-next pass why answers old known new knows last all before channel then out rest bytes going answered stopped = record {
    entries = going.entries ++ answered.entry ∷ [];
    pass = stopped.pass;
    last = then;
    answered = AnswersAll-then going.entries (answered.entry ∷ []) before.channel channel then going.answered answered.answered;
    stops = inl (record {
      put = bytes;
      rows = stopped.rows;
      runs = record { before = new; learned = learned-next pass answers old known new knows all before channel then out bytes going answered; did = stopped.did };
      stops = stopped.stops;
      same = refl;
    });
  }

-- it was stopped while it kept the score of an answer
pub AskStops-kept : (missing : Option (List (List ℕ))) (most : ℕ) (entry : KnownScore) (why : Stop) (known new : Known) (before after : ChannelState) → missing ≡ Some entry.question → new ≡ known
    → is_score most entry.score ≡ true → PutsAll (question_line entry.question ∷ []) before.questions after.questions → ReadsAnswer (Ok entry.score) before.answers.told after.answers.told
    → KeepStops why (known_line entry) before.scores after.scores → AskStops missing most why known new before after
AskStops-kept missing most entry why known new before after is same score asked read kept = record { same = same; stops = go why kept } where
  reads : (line : List ℕ) → line ≡ known_line entry → ReadsScore missing most line before after
  reads line is_line = record { entry = entry; is = is; is_line = is_line; is_score = score; asked = asked; read = read }

  go : (stop : Stop) → KeepStops stop (known_line entry) before.scores after.scores → StopsAsking missing most stop before after
  go Differs kept = absurd kept
  go Write kept = absurd kept
  go (Lost line) kept = (reads line kept.0, subst (λ (l : List ℕ). PutFails l before.scores after.scores) (sym kept.0) kept.1)
  go Memory kept = inr (known_line entry, reads (known_line entry) refl, kept)

-- a question was put, and this was read
pub GivesAnswer-read : (question : List (List ℕ)) (most : ℕ) (read answer : Result ℤ NoAnswer) (asked asks : Pieces) (answers left : Outside (List ℕ)) → answer ≡ score_in most read → ReadsNext read answers left
    → PutsAll (question_line question ∷ []) asked asks → GivesAnswer question most answer asked asks answers left
GivesAnswer-read question most read answer asked asks answers left is reads put =
    subst (λ (a : Result ℤ NoAnswer). GivesAnswer question most a asked asks answers left) (sym is) (go read reads) where
      scored : (number : ℤ) (fits : Bool) → is_score most number ≡ fits → ReadsAnswer (Ok number) answers.told left.told → GivesAnswer question most (cond fits (Ok number) (Err (OutOfRange number))) asked asks answers left
      scored number true fits reads = (put, fits, reads)
      scored number false fits reads = (put, (fits, reads))

      go : (read : Result ℤ NoAnswer) → ReadsNext read answers left → GivesAnswer question most (score_in most read) asked asks answers left
      go (Ok number) reads = scored number (is_score most number) refl reads
      go (Err Unasked) reads = absurd reads
      go (Err Unread) reads = (put, reads)
      go (Err Ended) reads = (put, reads)
      go (Err TooLong) reads = (put, reads)
      go (Err (NotNumber line)) reads = (put, reads)
      go (Err (OutOfRange number)) reads = absurd reads
