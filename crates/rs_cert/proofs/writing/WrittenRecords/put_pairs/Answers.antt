use Rattle.rs_cert.specs.Writers.{text_in}
use Rattle.rs_cert.specs.Written.{IsWritablePair, pair_record}
use Rattle.rs_cert.proofs.WrittenFacts.{each-at, text-at}
use Rattle.rs_cert.proofs.writing.WrittenRecords.put_pairs.Goals as goal

pub loop-pair-preserved : goal.loop-pair-preserved
loop-pair-preserved c = record {
  text = text-at pair_record c.args.pairs.now c.loop-pair.pair-index _ (text_in c.args.self.now.writer) (text_in c.loop-pair.self.writer) (text_in c.put_pair.new.self.writer) c.loop-pair-test.true c.loop-pair.invariant.text c.in_ok-put_pair.ensures.bytes.text;
  ready = c.in_ok-put_pair.ensures.bytes.ready;
  pairs = each-at IsWritablePair c.args.pairs.now c.loop-pair.pair-index _ c.loop-pair-test.true c.loop-pair.invariant.pairs c.put_pair.ensures.fits;
}
