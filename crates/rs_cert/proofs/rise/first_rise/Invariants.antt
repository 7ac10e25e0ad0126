use Rattle.std.proofs.Common.{◌≡◌, take}
use Rattle.rs_cert.specs.Rows.{Falls}
use Rattle.rs_cert.proofs.RowFacts.{score_before}
use Rattle.rs_cert.proofs.rise.first_rise.Given as goal

abbrev pub invariant-loop-index : goal.invariant-loop-index
invariant-loop-index l = record {
  falls : Falls (take l.index l.rows);
  before : l.before ≡ score_before (take l.index l.rows);
}
