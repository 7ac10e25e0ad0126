-- The score of the row in the ranking of the index.
use Rattle.std.proofs.Common.{◌≡◌, subst, sym}
use Rattle.rs_ta.specs.IndexLists.{IndexListsState, index_lists_state}
use Rattle.rs_ta.specs.Lists.{IsList, IsRow, list_at, rows_in, score_of}
use Rattle.rs_ta.proofs.IndexListFacts.{row-within, score-is}
use Rattle.rs_ta.proofs.index_lists.IndexListsLists.random.Goals as goal

pub score_of-requires-clause-row_in : goal.score_of-requires-clause-row_in
score_of-requires-clause-row_in c =
    row-within c.self.inside.catalog.now c.self.inside.indexes.items c.self.inside.rows c.args.list c.from.result c.index-index.result.now c.self.invariant
    (subst (λ (s : IndexListsState). IsList (index_lists_state s).lists c.args.list) (sym c.self.view_is) c.requires.list) c.from.ensures c.index-index.ensures c.args.row
    (subst (λ (s : IndexListsState). IsRow (rows_in (index_lists_state s).lists) c.args.row) (sym c.self.view_is) c.requires.row)

pub returns-clause-score : goal.returns-clause-score
returns-clause-score c =
    subst (λ (s : IndexListsState). c.score_of.result ≡ score_of c.args.row (list_at (index_lists_state s).lists c.args.list)) c.self.view_is
    (score-is c.self.inside.catalog.now c.self.inside.indexes.items c.self.inside.rows c.args.list c.from.result c.index-index.result.now c.self.invariant
    (subst (λ (s : IndexListsState). IsList (index_lists_state s).lists c.args.list) (sym c.self.view_is) c.requires.list) c.from.ensures c.index-index.ensures c.args.row
    c.score_of.result c.score_of.ensures)
