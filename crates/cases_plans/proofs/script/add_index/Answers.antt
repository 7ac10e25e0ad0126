use Rattle.rs_expr.specs.MemScorer.{scorer_state}
use Rattle.rs_catalog.proofs.HeldFacts.{held-makes}
use Rattle.cases_plans.proofs.script.add_index.Goals as goal

pub returns : goal.returns
returns c =
    held-makes c.args.catalog.now c.add_index.new.self c.args.def c.add_index.result (scorer_state c.args.scorer.now) (scorer_state c.add_index.new.scorer)
    c.requires.fits c.requires.held c.add_index.ensures.makes
