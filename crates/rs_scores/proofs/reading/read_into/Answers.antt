use Rattle.std.proofs.Common.{◌∙◌, ap, arith, length}
use Rattle.rs_lines.proofs.RecordsFacts.{length-strip_bom}
use Rattle.rs_scores.proofs.PlaceFacts.{strip_bom-behind}
use Rattle.rs_scores.proofs.reading.read_into.Goals as goal

pub read_behind-requires-clause-few : goal.read_behind-requires-clause-few
read_behind-requires-clause-few c =
    let all = c.deref.ensures.value ∙ c.in_ok-behind_mark.ensures in
    omega (arith, ap length (strip_bom-behind c.args.bytes.now c.deref.result.now all), c.requires.few)

pub read_behind-requires-else-has_marked-clause-few : goal.read_behind-requires-else-has_marked-clause-few
read_behind-requires-else-has_marked-clause-few c = omega (arith, length-strip_bom c.args.bytes.now, c.requires.few)
