-- There is no plan where a term speaks of other entries.
use Rattle.std.proofs.Common.{◌∙◌, ◌*◌, ap, bit_and}
use Rattle.rs_enum.specs.Given.{cards_in, kept_in, query_in}
use Rattle.rs_enum.proofs.CostFacts.{block-formed}
use Rattle.rs_enum.proofs.SearchFacts.{entries-less, none-outside}
use Rattle.rs_enum.proofs.search.Search.first_candidate.Goals as goal

pub terms_inside-inside-requires-clause-entries : goal.terms_inside-inside-requires-clause-entries
terms_inside-inside-requires-clause-entries c =
    entries-less c.args.self.now.planning.catalog.now (query_in c.args.self.now) (cards_in c.args.self.now) (block-formed c.args.self.now.planning.catalog.now c.args.self.now.planning.query.now c.args.self.now.number c.requires.search.planning.query)
    (kept_in c.args.self.now) c.args.of.entries c.args.of.terms c.requires.entries

pub returns-then-of-inside : goal.returns-then-of-inside
returns-then-of-inside c =
    none-outside c.args.self.now.planning.catalog.now (query_in c.args.self.now) (cards_in c.args.self.now) (block-formed c.args.self.now.planning.catalog.now c.args.self.now.planning.query.now c.args.self.now.number c.requires.search.planning.query)
    (kept_in c.args.self.now) c.args.of.entries c.args.of.terms
    (λ same. c.if-of-inside.true (ap (bit_and c.args.of.terms) c.terms_inside-inside.ensures ∙ same)) (6 * 256)
