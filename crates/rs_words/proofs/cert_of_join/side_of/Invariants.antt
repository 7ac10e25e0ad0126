use Rattle.std.proofs.Common.{◌≡◌, take}
use Rattle.rs_feed_join.specs.Joins.{side_in}
use Rattle.rs_words.proofs.cert_of_join.side_of.Given as goal

abbrev pub invariant-loop-number : goal.invariant-loop-number
invariant-loop-number l = l.rows.items ≡ take l.number (side_in l.side l.join).rows
