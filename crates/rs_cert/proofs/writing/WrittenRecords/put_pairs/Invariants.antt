use Rattle.std.proofs.Common.{◌≡◌, ◌++◌, map, take}
use Rattle.rs_cert.specs.Writers.{IsReady, text_in}
use Rattle.rs_cert.specs.Written.{AreWritablePairs, pair_record, text_of}
use Rattle.rs_cert.proofs.writing.WrittenRecords.put_pairs.Given as goal

abbrev pub invariant-loop-pair : goal.invariant-loop-pair
invariant-loop-pair l = record {
  text : text_in l.self.writer ≡ text_in l.initial.self.writer ++ text_of (map pair_record (take l.pair-index l.pairs));
  ready : IsReady l.self.writer;
  pairs : AreWritablePairs (take l.pair-index l.pairs);
}
