-- What is behind in the index's list stands in order, and of it the first whose row is in sight is the first of all such.
use Rattle.std.proofs.Common.{◌≡◌, ◌∙◌, ◌-◌, ap, drop, length, nat_le, subst, sym, take}
use Rattle.std.proofs.lemmas.List.{take_rest}
use Rattle.std.specs.List.{filter}
use Rattle.rs_catalog.specs.After.{entries_within, entry_after, first_entry, is_behind}
use Rattle.rs_catalog.specs.Indexes.{EntriesInOrder, ranking_at}
use Rattle.rs_catalog.proofs.AfterFacts.{filter-swapped}
use Rattle.rs_catalog.proofs.InsideFacts.{ranked_at, ranking_at-index}
use Rattle.rs_catalog.proofs.catalog.Catalog.index_after.Goals as goal

pub place_behind-requires : goal.place_behind-requires
place_behind-requires c =
    let fields = c.self.inside in
    subst EntriesInOrder (sym c.as_slice-ranking.ensures.value)
    (ranked_at fields.tables.entries fields.predicates.entries fields.indexes.entries c.self.invariant c.args.index c.index.result.now c.index.ensures).ranking.ordered

pub returns : goal.returns
returns c =
    let fields = c.self.inside in
    let ranking : ranking_at c.args.self.now c.args.index ≡ c.index.result.now.ranking.items =
    ranking_at-index fields.tables.entries fields.predicates.entries fields.indexes.entries c.args.self.now c.self.view_is c.args.index c.index.result.now c.index.ensures in
    let slice = c.as_slice-ranking.result.now in
    let behind : filter (is_behind c.args.after) slice ≡ drop c.place_behind.result slice = c.place_behind.ensures.behind in
    let found : c.first_within.result ≡ first_entry (entries_within c.args.rows (take (length slice - c.place_behind.result) (drop c.place_behind.result slice))) = c.first_within.ensures in
    found
    ∙ ap (λ entries. first_entry (entries_within c.args.rows entries)) (take_rest slice c.place_behind.result ∙ sym behind)
    ∙ ap first_entry (filter-swapped (λ e. nat_le e.row c.args.rows) (is_behind c.args.after) slice)
    ∙ ap (λ entries. entry_after c.args.after c.args.rows entries) (c.as_slice-ranking.ensures.value ∙ sym ranking)
