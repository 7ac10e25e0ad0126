use Rattle.std.proofs.Common.{◌∙◌, lit<}
use Rattle.std.proofs.lemmas.Iterator.Consumers.{YieldsList-end}
use Rattle.std.proofs.lemmas.Iterator.Splits.{YieldsList-from_str_split}
use Rattle.rs_scores.proofs.names.parts_of.Goals as goal

pub returns : goal.returns
returns c =
    c.loop-part.invariant
    ∙ (YieldsList-end (YieldsList-from_str_split 44 c.args.word.now (lit< tt) (cc) (cc) (cc)) c.loop-part.yielded _ c.loop-part.yielded_by _ _ c.in-None.is c.next.ensures.steps).0
