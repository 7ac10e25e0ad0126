-- Each step tries the plan whose code starts next.
use Rattle.std.proofs.Common.{◌≡◌, ◌∙◌, ◌+◌, ◌*◌, ◌≤◌, sym, ap, subst₂, arith, length}
use Rattle.rs_query.specs.declared.block.Block.{Block}
use Rattle.rs_enum.specs.Places.{IsTheFirst}
use Rattle.rs_enum.proofs.CostFacts.{block-formed}
use Rattle.rs_enum.proofs.SearchFacts.{first-ranks, first-scans}
use Rattle.rs_enum.proofs.StartFacts.{IsTheFirst-cheaper}
use Rattle.rs_enum.specs.Given.{block_of, cards_in, kept_in, query_in}
use Rattle.rs_enum.proofs.search.Search.with_ranks.Goals as goal

pub loop-place-init : goal.loop-place-init
loop-place-init c = first-scans c.args.self.now.planning.catalog.now (query_in c.args.self.now) (cards_in c.args.self.now) (block-formed c.args.self.now.planning.catalog.now c.args.self.now.planning.query.now c.args.self.now.number c.requires.search.planning.query)
    (kept_in c.args.self.now) c.args.of.entries c.args.of.terms c.args.found c.requires.found

pub loop-place-preserved : goal.loop-place-preserved
loop-place-preserved c =
    let next : 3 * 256 + (c.loop-place.place + 1) + 1 ≡ 3 * 256 + (c.loop-place.place + 1 + 1) = omega arith in
    subst₂ (IsTheFirst c.args.self.now.planning.catalog.now (query_in c.args.self.now) (cards_in c.args.self.now) (kept_in c.args.self.now) c.args.of.entries c.args.of.terms) next (sym c.cheaper-best.ensures)
    (IsTheFirst-cheaper c.args.self.now.planning.catalog.now (query_in c.args.self.now) (cards_in c.args.self.now) (block-formed c.args.self.now.planning.catalog.now c.args.self.now.planning.query.now c.args.self.now.number c.requires.search.planning.query)
    (kept_in c.args.self.now) c.args.of.entries c.args.of.terms (3 * 256 + (c.loop-place.place + 1)) c.loop-place.best c.rank.result c.loop-place.invariant c.rank.ensures)

pub returns : goal.returns
returns c =
    let formed = block-formed c.args.self.now.planning.catalog.now c.args.self.now.planning.query.now c.args.self.now.number c.requires.search.planning.query in
    let few : length (block_of c.args.self.now).terms ≤ 8 = formed.most_terms in
    let count : c.len-count.result ≡ length (block_of c.args.self.now).terms = c.len-count.ensures ∙ ap (λ (b : Block). length b.terms) c.block_in.ensures in
    let within = c.loop-place.auto.place-end in
    let done = c.loop-place-test.false in
    first-ranks c.args.self.now.planning.catalog.now (query_in c.args.self.now) (cards_in c.args.self.now) formed (kept_in c.args.self.now) c.args.of.entries c.args.of.terms
    c.loop-place.place c.loop-place.best (omega arith) (omega arith) c.loop-place.invariant
