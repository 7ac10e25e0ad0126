use Rattle.std.proofs.Common.{subst, arith}
use Rattle.std.specs.Prelude.{IsUtf8}
use Rattle.std.proofs.lemmas.Str.{is_utf8-from_IsUtf8}
use Rattle.rs_cert.proofs.writing.WrittenRecords.put_row.Goals as goal

pub returns-clause-fits : goal.returns-clause-fits
returns-clause-fits c = (
  omega arith,
  is_utf8-from_IsUtf8 c.args.row.now.join (subst IsUtf8 c.bytes.ensures.value c.bytes.ensures.utf8),
)
