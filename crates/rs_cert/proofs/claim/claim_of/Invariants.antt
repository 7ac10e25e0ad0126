use Rattle.std.proofs.Common.{◌≡◌, take}
use Rattle.rs_order.specs.Last.{last_of}
use Rattle.rs_cert.specs.Claims.{AreInOrder, claimed}
use Rattle.rs_cert.proofs.claim.claim_of.Given as goal

abbrev pub invariant-loop-left : goal.invariant-loop-left
invariant-loop-left l = record {
  order : AreInOrder l.lefts l.rights (claimed l.lefts l.rights (take l.left-index l.pairs));
  last : l.last ≡ last_of (claimed l.lefts l.rights (take l.left-index l.pairs));
}
