-- The place is one of the ranking of the index.
use Rattle.std.proofs.Common.{get_or, subst, sym, arith}
use Rattle.rs_ta.specs.IndexLists.{IndexListsState, index_lists_state}
use Rattle.rs_ta.specs.Lists.{IsList}
use Rattle.rs_ta.proofs.IndexListFacts.{place-in}
use Rattle.rs_ta.proofs.index_lists.IndexListsLists.sorted.Goals as goal

pub index_row-requires-clause-place_in : goal.index_row-requires-clause-place_in
index_row-requires-clause-place_in c =
    place-in c.self.inside.catalog.now c.self.inside.indexes.items c.self.inside.rows c.args.list c.from-3.result c.index-index.result.now c.self.invariant
    (subst (λ (s : IndexListsState). IsList (index_lists_state s).lists c.args.list) (sym c.self.view_is) c.requires) c.from-3.ensures c.index-index.ensures
    (get_or c.self.inside.sorted c.from.result 0) (omega (arith, c.from-2.ensures))
