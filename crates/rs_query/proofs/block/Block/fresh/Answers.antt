-- What was found is sorted.
use Rattle.std.proofs.Common.{sym, subst, arith, rules}
use Rattle.std.specs.List.{AllByRecursion}
use Rattle.rs_query.specs.Tables.{HasRows, all_entries}
use Rattle.rs_query.proofs.FreshFacts.{HasRows-fresh, fresh-found}
use Rattle.rs_query.proofs.block.Block.fresh.Goals as goal

pub returns-clause-value : goal.returns-clause-value
returns-clause-value c =
    fresh-found c.args.catalog.now c.args.self.now c.requires c.args.old.now c.new-found.result.items c.find_all.new.found.items c.sort_unstable.new.self.items
    (first_of (omega arith, search rules)) c.new-found.ensures.items c.in_ok-find_all.ensures c.sort_unstable.ensures.permutation c.sort_unstable.ensures.sorted

pub returns-clause-each : goal.returns-clause-each
returns-clause-each c =
    subst (AllByRecursion (HasRows c.args.catalog.now c.args.self.now (all_entries c.args.self.now)))
    (sym (fresh-found c.args.catalog.now c.args.self.now c.requires c.args.old.now c.new-found.result.items c.find_all.new.found.items c.sort_unstable.new.self.items
    (first_of (omega arith, search rules)) c.new-found.ensures.items c.in_ok-find_all.ensures c.sort_unstable.ensures.permutation c.sort_unstable.ensures.sorted))
    (HasRows-fresh c.args.catalog.now c.args.self.now c.args.old.now c.requires.most_entries)
