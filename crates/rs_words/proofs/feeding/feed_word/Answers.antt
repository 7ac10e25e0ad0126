use Rattle.rs_value.proofs.ResultFacts.{given-err}
use Rattle.rs_words.proofs.RunFacts.{Ran-joined, Ran-no_left, Ran-no_right}
use Rattle.rs_words.specs.Feeding.{pairs_run}
use Rattle.rs_words.proofs.feeding.feed_word.Goals as goal

pub returns-in_err-left : goal.returns-in_err-left
returns-in_err-left g c = λ beside.
    rw (given-err c.from_residual.result c.in_err-left.field-0.0 c.from_residual.ensures) (Ran-no_left pairs_run (record { left = c.args.left.now; right = c.args.right.now; count = c.args.k })
    (record beside { files = g.F.Files.state c.args.files.now; out = g.O.Sink.state c.args.out.now }) (g.F.Files.state c.read_feed.new.files) c.in_err-left.field-0.0 c.in_err-left.ensures.fetches)

pub returns-in_err-right : goal.returns-in_err-right
returns-in_err-right g c = λ beside.
    rw (given-err c.from_residual-in_err-right.result c.in_err-right.field-0.0 c.from_residual-in_err-right.ensures) (Ran-no_right pairs_run (record { left = c.args.left.now; right = c.args.right.now; count = c.args.k })
    (record beside { files = g.F.Files.state c.args.files.now; out = g.O.Sink.state c.args.out.now }) (g.F.Files.state c.read_feed.new.files) c.in_ok-left.left (g.F.Files.state c.read_feed-2.new.files)
    c.in_ok-left.ensures.fetches c.in_err-right.field-0.0 c.in_err-right.ensures.fetches)

pub put_join-requires-clause-left : goal.put_join-requires-clause-left
put_join-requires-clause-left g c = record { new = c.in_ok-left.ensures.unused; scores = c.in_ok-left.ensures.scores; few = c.in_ok-left.ensures.few }

pub put_join-requires-clause-right : goal.put_join-requires-clause-right
put_join-requires-clause-right g c = record { new = c.in_ok-right.ensures.unused; scores = c.in_ok-right.ensures.scores; few = c.in_ok-right.ensures.few }

pub returns : goal.returns
returns g c = λ beside.
    let rights = g.F.Files.state c.read_feed-2.new.files in
    Ran-joined pairs_run (record { left = c.args.left.now; right = c.args.right.now; count = c.args.k })
    (record beside { files = g.F.Files.state c.args.files.now; out = g.O.Sink.state c.args.out.now }) (g.F.Files.state c.read_feed.new.files) c.in_ok-left.left rights
    c.in_ok-left.ensures.fetches c.in_ok-right.right c.put_join.result (record beside { files = rights; out = g.O.Sink.state c.put_join.new.out }) c.in_ok-right.ensures.fetches
    (c.put_join.ensures.puts (record beside { files = rights }))
