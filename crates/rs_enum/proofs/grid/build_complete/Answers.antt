-- Where a plan is kept, there is a choice.
use Rattle.std.proofs.Common.{sym, subst, length}
use Rattle.std.specs.Prelude.{IsSome}
use Rattle.rs_enum.specs.Places.{candidate_at}
use Rattle.rs_enum.specs.Given.{top_row}
use Rattle.rs_enum.proofs.BuildFacts.{found-kept}
use Rattle.rs_enum.proofs.grid.build_complete.Goals as goal

pub build-requires-clause-found : goal.build-requires-clause-found
build-requires-clause-found c =
    subst (λ n. IsSome (candidate_at (length c.args.block.now.terms) c.args.places.now n c.args.evaluated)) (sym c.top_row.ensures)
    (found-kept c.args.block.now.terms c.args.places.now (top_row c.args.block.now) c.args.evaluated c.requires.found)
