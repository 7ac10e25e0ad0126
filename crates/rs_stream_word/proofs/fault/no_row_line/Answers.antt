use Rattle.std.proofs.lemmas.List.{append_assoc}
use Rattle.rs_stream_word.proofs.fault.no_row_line.Goals as goal

pub returns : goal.returns
returns c = simp append_assoc (rw c.as_str-name.ensures at c.in_ok-format.ensures.ok)
