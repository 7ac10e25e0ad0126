use Rattle.std.proofs.Common.{None, Ok, Some, subst}
use Rattle.rs_feed.specs.Feeds.{GivesNext}
use Rattle.rs_stream.specs.Records.{records_left}
use Rattle.rs_stream.specs.Rows.{stream_left}
use Rattle.rs_stream.specs.StreamFeeds.{StreamFeedState, rows_in}
use Rattle.rs_stream.proofs.FeedFacts.{at-next, gives-next, gives-none, none-of}
use Rattle.rs_stream.proofs.stream_feed.StreamFeedFeed.draw.Goals as goal

pub invariant_of-self-in-Ok-Some : goal.invariant_of-self-in-Ok-Some
invariant_of-self-in-Ok-Some g c =
    let old = c.self.inside in
    let new = c.next.new.self in (
      λ none. at-next g.B.Whole.stream (stream_left old.rows.ended old.rows.number (records_left g.R.Read.remaining old.rows.records)) (stream_left new.ended new.number (records_left g.R.Read.remaining new.records))
          old.given c.in-Ok-Some.field-0 c.in-Ok-Some.row c.in-Ok-Some.field-0-is (c.self.invariant.0 none) c.in-Ok-Some.ensures,
      c.self.invariant.1,
      c.self.invariant.2,
    )

pub returns-in-Ok-Some-clause-row : goal.returns-in-Ok-Some-clause-row
returns-in-Ok-Some-clause-row g c =
    let old = c.self.inside in
    let new = c.next.new.self in
    subst (λ (s : StreamFeedState). GivesNext (rows_in g.B.Whole.stream) s.given (Ok (Some c.in-Ok-Some.row))) c.self.view_is
    (gives-next g.B.Whole.stream (stream_left old.rows.ended old.rows.number (records_left g.R.Read.remaining old.rows.records)) (stream_left new.ended new.number (records_left g.R.Read.remaining new.records))
    old.given c.in-Ok-Some.field-0 c.in-Ok-Some.row c.in-Ok-Some.field-0-is (c.self.invariant.0 (none-of old.why c.is_some.result c.is_some.ensures c.if-is_some.false)) c.in-Ok-Some.ensures)

pub returns-in-Ok-None-clause-row : goal.returns-in-Ok-None-clause-row
returns-in-Ok-None-clause-row g c =
    let old = c.self.inside in
    let new = c.next.new.self in
    subst (λ (s : StreamFeedState). GivesNext (rows_in g.B.Whole.stream) s.given (Ok None)) c.self.view_is
    (gives-none g.B.Whole.stream (stream_left old.rows.ended old.rows.number (records_left g.R.Read.remaining old.rows.records)) (stream_left new.ended new.number (records_left g.R.Read.remaining new.records))
    old.given c.in-Ok-None.field-0 c.in-Ok-None.field-0-is (c.self.invariant.0 (none-of old.why c.is_some.result c.is_some.ensures c.if-is_some.false)) c.in-Ok-None.ensures)
