-- As many rows are expected as of all entries of both blocks.
use Rattle.std.proofs.Common.{◌∙◌, ◌+◌, ◌<◌, ◌^◌, length, sym, subst}
use Rattle.rs_query.specs.Tables.{all_entries}
use Rattle.rs_sample.specs.Kept.{cards_of}
use Rattle.rs_query.specs.Blocks.{block_in}
use Rattle.rs_plan.specs.Shapes.{tree_of}
use Rattle.rs_enum.specs.QueryCards.{cards_at}
use Rattle.rs_enum.proofs.CostFacts.{set-below-left, set-below-right, set-numbers, set-rows}
use Rattle.rs_enum.proofs.costs.set_rows.Goals as goal

pub signature-evaluated-requires : goal.signature-evaluated-requires
signature-evaluated-requires c = set-numbers c.args.planning.now.catalog.now c.args.planning.now.query.now (tree_of c.args.plan.now) c.requires.planning.query c.requires.part

pub rows_of_all-left-requires-clause-evaluated : goal.rows_of_all-left-requires-clause-evaluated
rows_of_all-left-requires-clause-evaluated c =
    subst (λ n. n < 2 ^ length (block_in c.args.planning.now.query.now 1).terms) (sym c.signature-evaluated.ensures.terms)
    (set-below-left c.args.planning.now.catalog.now c.args.planning.now.query.now (tree_of c.args.plan.now) c.requires.part)

pub rows_of_all-right-requires-clause-evaluated : goal.rows_of_all-right-requires-clause-evaluated
rows_of_all-right-requires-clause-evaluated c =
    subst (λ n. n < 2 ^ length (block_in c.args.planning.now.query.now 2).terms) (sym c.signature-evaluated.ensures.terms)
    (set-below-right c.args.planning.now.catalog.now c.args.planning.now.query.now (tree_of c.args.plan.now) c.requires.planning.query c.requires.part)

pub returns-clause-value : goal.returns-clause-value
returns-clause-value c =
    let cards = cards_of c.args.planning.now.cards.now in
    let terms = c.signature-evaluated.ensures.terms in
    (λ at. c.rows_of_all-left.ensures.value at + c.rows_of_all-right.ensures.value at)
    ∙ (λ at. (cards_at cards 1).estimate (all_entries (block_in c.args.planning.now.query.now 1)) (terms at)
    + (cards_at cards 2).estimate (all_entries (block_in c.args.planning.now.query.now 2)) (terms at))
    ∙ sym (set-rows c.args.planning.now.catalog.now c.args.planning.now.query.now cards (tree_of c.args.plan.now) c.requires.part)
