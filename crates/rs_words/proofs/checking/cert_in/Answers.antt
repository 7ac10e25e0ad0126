use Rattle.rs_words.proofs.CheckedFacts.{numbered-records}
use Rattle.rs_words.proofs.checking.cert_in.Goals as goal

pub read_cert-requires : goal.read_cert-requires
read_cert-requires c = numbered-records c.args.bytes.now c.requires
