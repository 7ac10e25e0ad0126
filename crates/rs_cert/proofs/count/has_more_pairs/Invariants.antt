use Rattle.std.proofs.Common.{◌≡◌, ◌+◌, drop}
use Rattle.rs_cert.proofs.CountFacts.{count_from}
use Rattle.rs_cert.proofs.count.has_more_pairs.Given as goal

abbrev pub invariant-loop-index : goal.invariant-loop-index
invariant-loop-index l = count_from l.bar 1 l.lefts l.rights + l.room ≡ l.most + count_from l.bar (l.index + 1) (drop l.index l.lefts) l.rights
