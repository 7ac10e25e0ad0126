-- There is one nested join of the sides, or none.
use Rattle.std.proofs.Common.{◌≡◌, ◌+◌, ◌*◌, refl, sym, subst, arith}
use Rattle.std.specs.Prelude.{Some}
use Rattle.rs_sample.specs.Kept.{cards_of}
use Rattle.rs_enum.specs.declared.candidate.Candidate.{Candidate}
use Rattle.rs_enum.specs.declared.candidate.Choice.TheVariants as choice
use Rattle.rs_enum.specs.Places.{AreTheSides, IsOne, IsTheOne}
use Rattle.rs_enum.proofs.CostFacts.{block-formed}
use Rattle.rs_enum.proofs.FindFacts.{nested-none, nested-one}
use Rattle.rs_enum.proofs.AloneFacts.{alone-are}
use Rattle.rs_enum.proofs.SearchFacts.{one-fits, sides-masks}
use Rattle.rs_enum.specs.Given.{cards_in, kept_in, query_in}
use Rattle.rs_enum.proofs.search.Search.nested_join.Goals as goal

pub returns-in_err-found : goal.returns-in_err-found
returns-in_err-found c =
    subst (IsTheOne c.args.self.now.planning.catalog.now (query_in c.args.self.now) (cards_in c.args.self.now) (kept_in c.args.self.now) c.args.of.entries c.args.of.terms (5 * 256 + c.args.left))
    (sym c.from_residual.ensures)
    (nested-none c.args.self.now.planning.catalog.now (query_in c.args.self.now) (cards_in c.args.self.now) (block-formed c.args.self.now.planning.catalog.now c.args.self.now.planning.query.now c.args.self.now.number c.requires.search.planning.query)
    (kept_in c.args.self.now) c.requires.search.kept c.args.of.entries c.args.of.terms c.requires.terms c.args.left (omega arith)
    (subst (AreTheSides c.args.self.now.planning.catalog.now (query_in c.args.self.now) (cards_in c.args.self.now) (kept_in c.args.self.now) c.args.of.entries c.args.of.terms c.args.left) c.in_err-found.was c.sides.ensures))

are : (c : goal.After-rows_of-rows)
    → AreTheSides c.args.self.now.planning.catalog.now (query_in c.args.self.now) (cards_in c.args.self.now) (kept_in c.args.self.now) c.args.of.entries c.args.of.terms c.args.left (Some c.in_ok-found.found)
are c = subst (AreTheSides c.args.self.now.planning.catalog.now (query_in c.args.self.now) (cards_in c.args.self.now) (kept_in c.args.self.now) c.args.of.entries c.args.of.terms c.args.left) c.in_ok-found.was c.sides.ensures

pub rows_of-rows-requires-clause-masks : goal.rows_of-rows-requires-clause-masks
rows_of-rows-requires-clause-masks c =
    sides-masks c.args.self.now.planning.catalog.now (query_in c.args.self.now) (cards_in c.args.self.now) (block-formed c.args.self.now.planning.catalog.now c.args.self.now.planning.query.now c.args.self.now.number c.requires.search.planning.query)
    (kept_in c.args.self.now) c.args.of.entries c.args.of.terms (alone-are c.args.self.now.planning.query.now (cards_of c.args.self.now.planning.cards.now) c.args.self.now.number c.requires.search.planning.cards c.requires.search.number) c.args.left c.in_ok-found.found
    (subst (AreTheSides c.args.self.now.planning.catalog.now (query_in c.args.self.now) (cards_in c.args.self.now) (kept_in c.args.self.now) c.args.of.entries c.args.of.terms c.args.left) c.in_ok-found.was c.sides.ensures)

one : (c : goal.After-rows_of-rows) (found : Candidate)
    → found.cost ≡ c.in_ok-found.found.left_cost + c.in_ok-found.found.right_cost + c.in_ok-found.found.left_rows * c.in_ok-found.found.right_rows + c.rows_of-rows.result
    → found.choice ≡ choice.NestedJoin c.args.left
    → IsOne c.args.self.now.planning.catalog.now (query_in c.args.self.now) (cards_in c.args.self.now) (kept_in c.args.self.now) c.args.of.entries c.args.of.terms (5 * 256 + c.args.left) found
one c found cost_is choice_is =
    nested-one c.args.self.now.planning.catalog.now (query_in c.args.self.now) (cards_in c.args.self.now) (block-formed c.args.self.now.planning.catalog.now c.args.self.now.planning.query.now c.args.self.now.number c.requires.search.planning.query)
    (kept_in c.args.self.now) c.requires.search.kept c.args.of.entries c.args.of.terms c.requires.terms c.args.left c.in_ok-found.found (are c)
    c.rows_of-rows.result c.rows_of-rows.ensures.value c.rows_of-rows.ensures.most found cost_is choice_is

pub nested_cost-cost-requires : goal.nested_cost-cost-requires
nested_cost-cost-requires c =
    let found : Candidate = record {
      cost = c.in_ok-found.found.left_cost + c.in_ok-found.found.right_cost + c.in_ok-found.found.left_rows * c.in_ok-found.found.right_rows + c.rows_of-rows.result;
      choice = choice.NestedJoin c.args.left;
    } in
    let fits = one-fits c.args.self.now.planning.catalog.now (query_in c.args.self.now) (cards_in c.args.self.now) (block-formed c.args.self.now.planning.catalog.now c.args.self.now.planning.query.now c.args.self.now.number c.requires.search.planning.query)
    (kept_in c.args.self.now) c.args.of.entries c.args.of.terms (5 * 256 + c.args.left) found (one c found refl refl) in
    omega arith

pub returns : goal.returns
returns c = one (record { before = c.before.before; type_inv = record { self = c.type_inv.self } }) (record { cost = c.nested_cost-cost.result; choice = choice.NestedJoin c.args.left }) c.nested_cost-cost.ensures refl
