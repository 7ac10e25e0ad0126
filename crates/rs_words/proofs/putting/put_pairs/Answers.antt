use Rattle.rs_words.specs.Putting.{PutsPairs, call_of}
use Rattle.rs_words.proofs.PuttingFacts.{told-of}
use Rattle.rs_words.proofs.putting.put_pairs.Goals as goal

pub returns-clause-told : goal.returns-clause-told
returns-clause-told g c = λ beside.
    told-of (λ lefts rights. PutsPairs lefts rights c.args.count c.put_each.result c.put_each.new.join (record beside { out = g.O.Sink.state c.args.out.now }) (record beside { out = g.O.Sink.state c.put_each.new.out }))
    c.put_each.new.join (g.L.Feed.state c.args.left.now) (g.L.Feed.state c.put_each.new.left) (g.R.Feed.state c.args.right.now) (g.R.Feed.state c.put_each.new.right) (call_of c.put_each.result)
    c.put_each.ensures.leaves (c.put_each.ensures.puts beside)
