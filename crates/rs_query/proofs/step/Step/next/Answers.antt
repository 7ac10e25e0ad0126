-- The next row that fits the tie is the next one of the step.
use Rattle.std.proofs.Common.{subst, sym}
use Rattle.rs_query.specs.EqualRows.{IsNext}
use Rattle.rs_query.specs.Searching.{Fits}
use Rattle.rs_query.proofs.WalkFacts.{tie-last, tie-of}
use Rattle.rs_query.proofs.step.Step.next.Goals as goal

pub next-requires-clause-tied : goal.next-requires-clause-tied
next-requires-clause-tied c =
    let step = c.requires.step in
    (step.0, c.args.self.now.entry, tie-of c.args.catalog.now c.args.block.now c.requires.block step.0 c.args.self.now step.1 c.in-Some.tie c.in-Some.is, step.2)

pub next-requires-clause-last : goal.next-requires-clause-last
next-requires-clause-last c =
    let step = c.requires.step in
    tie-last c.args.catalog.now c.args.block.now c.requires.block step.0 c.args.self.now step.1 c.in-Some.tie c.in-Some.is

pub next-requires-clause-fits : goal.next-requires-clause-fits
next-requires-clause-fits c = subst (λ tie. Fits c.args.catalog.now c.args.block.now tie c.args.rows.now c.args.row) c.in-Some.is c.requires.fits

pub returns-in-Some : goal.returns-in-Some
returns-in-Some c =
    subst (λ tie. IsNext (Fits c.args.catalog.now c.args.block.now tie c.args.rows.now) c.args.row c.args.self.now.last c.next.result) (sym c.in-Some.is) c.next.ensures
