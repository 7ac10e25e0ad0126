-- All entries of a block are a mask of it, and each of its terms speaks of some of them.
use Rattle.std.proofs.Common.{◌≡◌, ◌∙◌, ◌<◌, ◌^◌, sym, ap, subst}
use Rattle.rs_query.specs.Tables.{all_entries}
use Rattle.rs_sample.specs.Cards.{IsEstimated}
use Rattle.rs_sample.specs.Kept.{cards_of}
use Rattle.rs_query.specs.Blocks.{block_in}
use Rattle.rs_enum.specs.QueryCards.{cards_at}
use Rattle.rs_enum.proofs.BoundFacts.{rows-most}
use Rattle.rs_enum.proofs.CostFacts.{all-small, block-cards, block-formed, masks-all}
use Rattle.rs_enum.proofs.costs.rows_of_all.Goals as goal

pub rows_of-requires-clause-masks : goal.rows_of-requires-clause-masks
rows_of-requires-clause-masks c =
    let own = cards_at (cards_of c.args.planning.now.cards.now) c.args.number in
    let block = block_in c.args.planning.now.query.now c.args.number in
    let are = block-cards c.args.planning.now.query.now (cards_of c.args.planning.now.cards.now) c.args.number c.requires.planning.cards c.requires.number in
    let formed = block-formed c.args.planning.now.catalog.now c.args.planning.now.query.now c.args.number c.requires.planning.query in
    subst (λ n. IsEstimated own n c.args.evaluated) (sym (c.all_entries.ensures ∙ ap all_entries c.block_in.ensures))
    (masks-all block own are c.args.planning.now.catalog.now c.args.evaluated formed c.requires.evaluated)

pub returns-clause-most : goal.returns-clause-most
returns-clause-most c =
    let block = block_in c.args.planning.now.query.now c.args.number in
    let formed = block-formed c.args.planning.now.catalog.now c.args.planning.now.query.now c.args.number c.requires.planning.query in
    let all : c.all_entries.result ≡ all_entries block = c.all_entries.ensures ∙ ap all_entries c.block_in.ensures in
    rows-most c.all_entries.result c.rows_of.result (subst (λ n. n < 2 ^ 6) (sym all) (all-small block formed.most_entries)) c.rows_of.ensures.most
