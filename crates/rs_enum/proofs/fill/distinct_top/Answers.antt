-- The row of the plans that drop duplicates, above that of all entries.
use Rattle.std.proofs.Common.{◌∙◌, ◌^◌, refl, ap, length}
use Rattle.rs_query.specs.Tables.{all_entries}
use Rattle.rs_query.specs.declared.block.Block.{Block}
use Rattle.rs_sample.specs.Kept.{cards_of}
use Rattle.rs_enum.specs.Given.{block_at, kept_of}
use Rattle.rs_enum.specs.Tops.{distinct_base}
use Rattle.rs_enum.proofs.FoundFacts.{tops-of-row}
use Rattle.rs_enum.proofs.fill.distinct_top.Goals as goal

pub first-requires-clause-row : goal.first-requires-clause-row
first-requires-clause-row c = record { planning = c.requires.planning; extent = c.requires.number; topped = c.requires.wanted }

pub first-requires-clause-tops : goal.first-requires-clause-tops
first-requires-clause-tops c = record {
  view = kept_of c.args.planning.now c.args.number c.args.places.now (2 ^ length (block_at c.args.planning.now c.args.number).from);
  are = tops-of-row _ c.args.number c.args.evaluated refl (c.distinct_row.ensures ∙ ap (λ (b : Block). 2 ^ length b.from) c.block_in.ensures) c.requires.tops;
}

pub returns : goal.returns
returns c =
    c.first.ensures
    (distinct_base c.args.planning.now.query.now (cards_of c.args.planning.now.cards.now) c.args.number c.args.evaluated
    (kept_of c.args.planning.now c.args.number c.args.places.now (all_entries (block_at c.args.planning.now c.args.number)) c.args.evaluated))
    (kept_of c.args.planning.now c.args.number c.args.places.now (2 ^ length (block_at c.args.planning.now c.args.number).from))
    c.distinct_over-base.ensures.base c.distinct_over-base.ensures.value
    (tops-of-row _ c.args.number c.args.evaluated refl (c.distinct_row.ensures ∙ ap (λ (b : Block). 2 ^ length b.from) c.block_in.ensures) c.requires.tops)
