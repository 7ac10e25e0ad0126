-- Each step tries the plan whose code starts next.
use Rattle.std.proofs.Common.{◌≡◌, ◌+◌, ◌*◌, sym, subst₂, arith}
use Rattle.rs_enum.specs.Places.{IsTheFirst}
use Rattle.rs_enum.proofs.CostFacts.{block-formed}
use Rattle.rs_enum.proofs.SearchFacts.{entries-few, first-nested}
use Rattle.rs_enum.proofs.StartFacts.{IsTheFirst-cheaper}
use Rattle.rs_enum.specs.Given.{cards_in, kept_in, query_in}
use Rattle.rs_enum.proofs.search.Search.with_nested_joins.Goals as goal

pub loop-left-init : goal.loop-left-init
loop-left-init c = (c.requires.found, omega arith)

pub loop-left-preserved : goal.loop-left-preserved
loop-left-preserved c =
    let next : 5 * 256 + c.loop-left.left + 1 ≡ 5 * 256 + (c.loop-left.left + 1) = omega arith in
    let less = c.loop-left-test.true in (
      subst₂ (IsTheFirst c.args.self.now.planning.catalog.now (query_in c.args.self.now) (cards_in c.args.self.now) (kept_in c.args.self.now) c.args.of.entries c.args.of.terms) next (sym c.cheaper-best.ensures)
          (IsTheFirst-cheaper c.args.self.now.planning.catalog.now (query_in c.args.self.now) (cards_in c.args.self.now) (block-formed c.args.self.now.planning.catalog.now c.args.self.now.planning.query.now c.args.self.now.number c.requires.search.planning.query)
          (kept_in c.args.self.now) c.args.of.entries c.args.of.terms (5 * 256 + c.loop-left.left) c.loop-left.best c.nested_join.result c.loop-left.invariant.0 c.nested_join.ensures),
      omega arith,
    )

pub returns : goal.returns
returns c =
    let formed = block-formed c.args.self.now.planning.catalog.now c.args.self.now.planning.query.now c.args.self.now.number c.requires.search.planning.query in
    let few = entries-few c.args.self.now.planning.catalog.now (query_in c.args.self.now) (cards_in c.args.self.now) formed (kept_in c.args.self.now) c.args.of.entries c.args.of.terms c.requires.entries in
    let within = c.loop-left.invariant.1 in
    first-nested c.args.self.now.planning.catalog.now (query_in c.args.self.now) (cards_in c.args.self.now) formed (kept_in c.args.self.now) c.args.of.entries c.args.of.terms
    c.loop-left.left c.loop-left.best c.loop-left-test.false (omega arith) c.loop-left.invariant.0
