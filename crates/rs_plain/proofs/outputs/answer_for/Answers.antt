use Rattle.std.proofs.Common.{◌∙◌, ap}
use Rattle.rs_query.specs.Meaning.{is_inside}
use Rattle.rs_query.specs.WellFormed.{entries_mask}
use Rattle.rs_query.proofs.EntryFacts.{items-inside}
use Rattle.rs_plain.proofs.outputs.answer_for.Goals as goal

pub outputs-requires-clause-inside : goal.outputs-requires-clause-inside
outputs-requires-clause-inside c =
    ap (is_inside (entries_mask c.args.block.now.items)) c.requires.row.mask ∙ items-inside c.args.catalog.now c.args.block.now c.requires.block
