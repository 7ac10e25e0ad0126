use Rattle.std.proofs.Common.{arith}
use Rattle.rs_lines.proofs.RecordsFacts.{length-records_of}
use Rattle.rs_scores.proofs.reading.read_records.Goals as goal

pub overflow_add-number : goal.overflow_add-number
overflow_add-number c = omega (arith, c.loop-row.invariant.counted, length-records_of c.args.bytes.now, c.requires.few)
