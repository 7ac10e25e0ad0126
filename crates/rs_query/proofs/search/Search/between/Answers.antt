-- The range of the first step is set, and what is found by the steps is sorted.
use Rattle.std.proofs.Common.{◌∙◌, sym, subst}
use Rattle.std.specs.List.{AllByRecursion}
use Rattle.rs_query.specs.Tables.{HasRows, all_entries}
use Rattle.rs_query.proofs.PieceFacts.{HasRows-between, between-fails, between-found}
use Rattle.rs_query.proofs.search.Search.between.Goals as goal

pub returns-then-not-holds_of_all-clause-value : goal.returns-then-not-holds_of_all-clause-value
returns-then-not-holds_of_all-clause-value c =
    c.new-found.ensures.items
    ∙ between-fails c.args.catalog.now c.args.block.now c.requires.block c.args.above c.args.last (sym c.holds_of_all.ensures ∙ c.if-not-holds_of_all.true)

pub returns-clause-value : goal.returns-clause-value
returns-clause-value c =
    between-found c.args.catalog.now c.args.block.now c.requires.block c.args.above c.args.last c.args.self.now.steps.items c.deref.result.now
    c.new-found.result.items c.extend.new.found.items c.sort_unstable.new.self.items c.requires.search (c.deref.ensures.value ∙ c.set_range.ensures) c.new-found.ensures.items
    c.in_ok-extend.ensures c.sort_unstable.ensures.permutation c.sort_unstable.ensures.sorted

pub returns-clause-each : goal.returns-clause-each
returns-clause-each c =
    subst (AllByRecursion (HasRows c.args.catalog.now c.args.block.now (all_entries c.args.block.now)))
    (sym (between-found c.args.catalog.now c.args.block.now c.requires.block c.args.above c.args.last c.args.self.now.steps.items c.deref.result.now
    c.new-found.result.items c.extend.new.found.items c.sort_unstable.new.self.items c.requires.search (c.deref.ensures.value ∙ c.set_range.ensures) c.new-found.ensures.items
    c.in_ok-extend.ensures c.sort_unstable.ensures.permutation c.sort_unstable.ensures.sorted))
    (HasRows-between c.args.catalog.now c.args.block.now c.args.above c.args.last c.requires.block.most_entries)
