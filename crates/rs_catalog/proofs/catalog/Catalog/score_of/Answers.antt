-- The index stands in the catalogue where it stands in the map, and its scores are those of its ranking.
use Rattle.std.proofs.Common.{◌≡◌, ◌∙◌, ◌-◌, ◌<◌, ◌≤◌, Some, ap, arith, length, subst, sym}
use Rattle.std.proofs.lemmas.List.{get_or_read}
use Rattle.rs_catalog.specs.Indexes.{ranking_at, score_in}
use Rattle.rs_catalog.proofs.InsideFacts.{ranking_at-index, scores_at}
use Rattle.rs_catalog.proofs.catalog.Catalog.score_of.Goals as goal

pub index-requires-2 : goal.index-requires-2
index-requires-2 c =
    let fields = c.self.inside in
    let ranking : ranking_at c.args.self.now c.args.index ≡ c.index.result.now.ranking.items =
    ranking_at-index fields.tables.entries fields.predicates.entries fields.indexes.entries c.args.self.now c.self.view_is c.args.index c.index.result.now c.index.ensures in
    let all = (scores_at fields.tables.entries fields.predicates.entries fields.indexes.entries c.self.invariant c.args.index c.index.result.now c.index.ensures).all in
    let within : c.args.row ≤ length c.index.result.now.ranking.items = subst (λ ranking. c.args.row ≤ length ranking) ranking c.requires.row_in in
    omega (arith, c.index.result.now.scores.ok.0)

pub returns : goal.returns
returns c =
    let fields = c.self.inside in
    let ranking : ranking_at c.args.self.now c.args.index ≡ c.index.result.now.ranking.items =
    ranking_at-index fields.tables.entries fields.predicates.entries fields.indexes.entries c.args.self.now c.self.view_is c.args.index c.index.result.now c.index.ensures in
    let scores = scores_at fields.tables.entries fields.predicates.entries fields.indexes.entries c.self.invariant c.args.index c.index.result.now c.index.ensures in
    let all = scores.all in
    let within : c.args.row ≤ length c.index.result.now.ranking.items = subst (λ ranking. c.args.row ≤ length ranking) ranking c.requires.row_in in
    let in_scores : c.args.row - 1 < length c.index.result.now.scores.items = omega arith in
    ap (score_in c.args.row) ranking
    ∙ scores.each c.args.row c.requires.some_row within
    ∙ ap (λ score. Some score) (sym (get_or_read c.index.result.now.scores.items (c.args.row - 1) c.index-2.result.now in_scores c.index-2.ensures 0))
