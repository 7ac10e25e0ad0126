-- The first row that fits the tie is the first one of the step.
use Rattle.rs_query.proofs.WalkFacts.{tie-first, tie-last, tie-of}
use Rattle.rs_query.proofs.step.Step.first.Goals as goal

pub first-requires-clause-tied : goal.first-requires-clause-tied
first-requires-clause-tied c =
    let step = c.requires.step in
    (step.0, c.args.self.now.entry, tie-of c.args.catalog.now c.args.block.now c.requires.block step.0 c.args.self.now step.1 c.in-Some.tie c.in-Some.is, step.2)

pub first-requires-clause-last : goal.first-requires-clause-last
first-requires-clause-last c =
    let step = c.requires.step in
    tie-last c.args.catalog.now c.args.block.now c.requires.block step.0 c.args.self.now step.1 c.in-Some.tie c.in-Some.is

pub returns-in-Some : goal.returns-in-Some
returns-in-Some c =
    let step = c.requires.step in
    tie-first c.args.catalog.now c.args.block.now c.requires.block step.0 c.args.self.now step.1 c.in-Some.tie c.in-Some.is c.args.rows.now c.first.result c.first.ensures
