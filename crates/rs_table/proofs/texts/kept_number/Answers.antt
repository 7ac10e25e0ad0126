use Rattle.std.proofs.Common.{◌∙◌, sym}
use Rattle.rs_table.proofs.TextFacts.{found-at}
use Rattle.rs_table.proofs.texts.kept_number.Goals as goal

pub returns-in-Some-clause-stored : goal.returns-in-Some-clause-stored
returns-in-Some-clause-stored c = found-at c.args.kept.now.keys c.args.text.now c.in-Some.number (sym c.get_index_of.ensures.index ∙ c.in-Some.is)
