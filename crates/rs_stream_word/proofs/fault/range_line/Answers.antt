use Rattle.std.proofs.Common.{rules, w64}
use Rattle.std.proofs.lemmas.Int.{to_z-of_z}
use Rattle.std.proofs.lemmas.List.{append_assoc}
use Rattle.rs_stream_word.proofs.fault.range_line.Goals as goal

pub returns : goal.returns
returns c = simp append_assoc (rw (c.as_str-name.ensures, to_z-of_z w64 c.args.got (search rules)) at c.in_ok-format.ensures.ok)
