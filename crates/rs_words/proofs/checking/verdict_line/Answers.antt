use Rattle.std.proofs.lemmas.List.{append_assoc}
use Rattle.rs_words.proofs.checking.verdict_line.Goals as goal

pub returns-in_ok-format-in-Order : goal.returns-in_ok-format-in-Order
returns-in_ok-format-in-Order c = rw c.in-Order.is (simp append_assoc c.in_ok-format-in-Order.ensures.ok)
