-- Where duplicates are kept, what is found of each signature is all.
use Rattle.std.proofs.Common.{◌∙◌, sym, ap}
use Rattle.rs_query.specs.declared.block.Block.{Block}
use Rattle.rs_enum.proofs.FoundFacts.{found-lower}
use Rattle.rs_enum.proofs.fill.fill_block.Goals as goal

pub fill_distinct-requires-clause-wanted : goal.fill_distinct-requires-clause-wanted
fill_distinct-requires-clause-wanted c = ap (λ (b : Block). b.distinct) (sym c.block_in.ensures) ∙ c.if-not-wanted.false

pub returns-then-not-wanted-clause-found : goal.returns-then-not-wanted-clause-found
returns-then-not-wanted-clause-found c =
    found-lower c.args.planning.now c.requires.planning c.args.number c.fill_signatures.new.places.items c.fill_signatures.ensures.filled c.fill_signatures.ensures.all
    c.requires.block c.fill_signatures.ensures.built (ap (λ (b : Block). b.distinct) (sym c.block_in.ensures) ∙ c.if-not-wanted.true)
