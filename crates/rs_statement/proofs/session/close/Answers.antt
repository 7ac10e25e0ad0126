use Rattle.std.proofs.Common.{subst, sym}
use Rattle.rs_statement.specs.Parts.Session.{CanAllBeAsked, CanBeAsked}
use Rattle.rs_statement.proofs.EntryFacts.{each-without}
use Rattle.rs_statement.proofs.SessionSteps.{Leaves-closed}
use Rattle.rs_statement.proofs.session.close.Goals as goal

pub returns-clause-closes : goal.returns-clause-closes
returns-clause-closes c = λ catalogue.
    Leaves-closed catalogue c.args.session.now.cursors.held.entries c.remove.new.self.held.entries c.args.name.now c.remove.result c.remove.ensures.gives c.remove.ensures.left

pub returns-clause-asked : goal.returns-clause-asked
returns-clause-asked c = λ answer catalogue all. subst (CanAllBeAsked answer catalogue) (sym c.remove.ensures.left)
    (each-without (CanBeAsked answer catalogue) c.args.name.now.text c.args.session.now.cursors.held.entries all)
