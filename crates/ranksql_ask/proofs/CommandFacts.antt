-- What holds of runs of one type holds of them as runs of another.
use Rattle.std.proofs.Common.{ℕ, List, [], ◌∷◌, ap, inl, inr}
use Rattle.rs_scores.specs.Known.{Known}
use Rattle.rs_scores.specs.declared.known_score.KnownScore.{KnownScore}
use Rattle.rs_ask.specs.Asking.{AskingState, ChannelState, Ends, LearnsAll, LearnsOne, PutsRun, RunsUpTo, StopsAfter, StopsBehind, StopsInRun}
use Rattle.rs_ask.specs.declared.asked.Asked.{Asked}
use Rattle.rs_ask.specs.declared.channel.Channel.{Channel}
use Rattle.rs_ask.specs.declared.pass.Pass.{Pass}
use Rattle.rs_ask.specs.declared.stop.Stop.{Stop}
use Rattle.rs_prepare.specs.Preparing.{EndWords, Openings}
use Rattle.ranksql_ask.specs.Endings.{AsksBy, Lines, Obeys, Readies, Work}

module _ {R S : Type 0} (f : R → S) (ran : R → Known → Pass → R → Lines → Lines → Type 0) (runs : S → Known → Pass → S → Lines → Lines → Type 0)
    (each : (old : R) (known : Known) (pass : Pass) (new : R) (rows puts : Lines) → ran old known pass new rows puts → runs (f old) known pass (f new) rows puts) where
  LearnsOne-map : (entry : KnownScore) (old : R) (known : Known) (before : List ℕ) (new : R) (next : Known) (put : List ℕ)
      → LearnsOne ran entry old known before new next put → LearnsOne runs entry (f old) known before (f new) next put
  LearnsOne-map entry old known before new next put one = record {
    pass = one.pass;
    pieces = one.pieces;
    did = each _ _ _ _ _ _ one.did;
    puts = one.puts;
    begins = one.begins;
    missing = one.missing;
    is_score = one.is_score;
    learns = one.learns;
  }

  LearnsAll-map : (entries : List KnownScore) (old : R) (known : Known) (before : List ℕ) (new : R) (knows : Known) (put : List ℕ)
      → LearnsAll ran entries old known before new knows put → LearnsAll runs entries (f old) known before (f new) knows put
  LearnsAll-map [] old known before new knows put learned = (ap f learned.0, learned.1, learned.2)
  LearnsAll-map (entry ∷ rest) old known before new knows put learned = (
    f learned.0,
    learned.1,
    learned.2,
    LearnsOne-map entry old known before learned.0 learned.1 learned.2 learned.3,
    LearnsAll-map rest learned.0 learned.1 learned.2 new knows put learned.4,
  )

  RunsUpTo-map : (entries : List KnownScore) (pass : Pass) (put : List ℕ) (rows : Lines) (old : R) (known : Known) (new : R) (knows : Known)
      → RunsUpTo ran entries pass put rows old known new knows → RunsUpTo runs entries pass put rows (f old) known (f new) knows
  RunsUpTo-map entries pass put rows old known new knows up = record {
    before = f up.before;
    learned = LearnsAll-map entries old known [] up.before knows put up.learned;
    did = each _ _ _ _ _ _ up.did;
  }

  PutsRun-map : (entries : List KnownScore) (pass : Pass) (old : R) (known : Known) (new : R) (knows : Known) (before after : Lines)
      → PutsRun ran entries pass old known new knows before after → PutsRun runs entries pass (f old) known (f new) knows before after
  PutsRun-map entries pass old known new knows before after puts = record {
    put = puts.put;
    pieces = puts.pieces;
    runs = RunsUpTo-map _ _ _ _ _ _ _ _ puts.runs;
    begins = puts.begins;
    rows = puts.rows;
  }

  Ends-map : (asked : Asked) (old : R) (known : Known) (new : R) (knows : Known) (before after : AskingState)
      → Ends ran asked old known new knows before after → Ends runs asked (f old) known (f new) knows before after
  Ends-map asked old known new knows before after ends = record {
    entries = ends.entries;
    last = ends.last;
    puts = PutsRun-map _ _ _ _ _ _ _ _ ends.puts;
    count = ends.count;
    answered = ends.answered;
    ends = ends.ends;
  }

  StopsInRun-map : (entries : List KnownScore) (pass : Pass) (stop : Stop) (old : R) (known : Known) (new : R) (knows : Known) (last : ChannelState) (before after : AskingState)
      → StopsInRun ran entries pass stop old known new knows last before after → StopsInRun runs entries pass stop (f old) known (f new) knows last before after
  StopsInRun-map entries pass stop old known new knows last before after stops = record {
    put = stops.put;
    rows = stops.rows;
    runs = RunsUpTo-map _ _ _ _ _ _ _ _ stops.runs;
    stops = stops.stops;
    same = stops.same;
  }

  StopsBehind-map : (entries : List KnownScore) (pass : Pass) (stop : Stop) (old : R) (known : Known) (new : R) (knows : Known) (last : ChannelState) (before after : AskingState)
      → StopsBehind ran entries pass stop old known new knows last before after → StopsBehind runs entries pass stop (f old) known (f new) knows last before after
  StopsBehind-map entries pass stop old known new knows last before after stops = record { puts = PutsRun-map _ _ _ _ _ _ _ _ stops.puts; stops = stops.stops }

  StopsAfter-map : (stop : Stop) (old : R) (known : Known) (new : R) (knows : Known) (before after : AskingState)
      → StopsAfter ran stop old known new knows before after → StopsAfter runs stop (f old) known (f new) knows before after
  StopsAfter-map stop old known new knows before after stops = record {
    entries = stops.entries;
    pass = stops.pass;
    last = stops.last;
    answered = stops.answered;
    stops = elim stops.stops [
      | inl inside ↦ inl (StopsInRun-map _ _ _ _ _ _ _ _ _ _ inside)
      | inr behind ↦ inr (StopsBehind-map _ _ _ _ _ _ _ _ _ _ behind)
    ];
  }

  Obeys-map : (answer : ℕ) (old : R) (known : Known) (new : R) (knows : Known) (before after : AskingState) (err told : Lines)
      → Obeys ran answer old known new knows before after err told → Obeys runs answer (f old) known (f new) knows before after err told
  Obeys-map answer old known new knows before after err told (inl ended) = inl (ended.0, Ends-map _ _ _ _ _ _ _ ended.1, ended.2)
  Obeys-map answer old known new knows before after err told (inr stopped) = inr (stopped.0, StopsAfter-map _ _ _ _ _ _ _ stopped.1, stopped.2)

  pub Readies-map : {H Q A K : Type 0} (outside : Openings H Q A K) (state : Channel Q A K → ChannelState) (names : List (List ℕ)) (ends : EndWords) (answer : ℕ) (old new : R) (before after : Work H)
      → Readies outside state ran names ends answer old new before after → Readies outside state runs names ends answer (f old) (f new) before after
  Readies-map outside state names ends answer old new before after (inl unready) = inl unready
  Readies-map outside state names ends answer old new before after (inr asks) = inr (record {
    prepared = asks.prepared;
    ready = asks.ready;
    knows = asks.knows;
    left = asks.left;
    obeys = Obeys-map _ _ _ _ _ _ _ _ _ asks.obeys;
  })
