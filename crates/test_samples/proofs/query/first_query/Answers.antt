use Rattle.std.proofs.Common.{◌≡◌, ◌∙◌, ℕ, ◌<◌, List, length, get_or, refl, ap, subst}
use Rattle.std.specs.Option.{option_map}
use Rattle.std.proofs.lemmas.Option.{slice_get-map, slice_get_read}
use Rattle.rs_order.proofs.EachFacts.{each-slice_get}
use Rattle.rs_syntax.specs.Syntax.{command_of, commands_of}
use Rattle.rs_syntax.specs.Written.{AreWritten, IsWritten}
use Rattle.rs_syntax.specs.declared.statement.Statement.{Statement}
use Rattle.test_samples.proofs.query.first_query.Goals as goal

-- a statement of a script is written as statements are
written-at : (statements : List Statement) (i : ℕ) (statement : Statement) → i < length statements → statement ≡ get_or statements i statement
    → AreWritten (commands_of statements) → IsWritten (command_of statement)
written-at statements i statement within is written =
    each-slice_get IsWritten (commands_of statements) i (command_of statement) written
    (slice_get-map command_of statements i ∙ ap (option_map command_of) (slice_get_read statements _ i statement refl within is))

pub bound-requires : goal.bound-requires
bound-requires c =
    subst (λ (statement : Statement). IsWritten (command_of statement)) c.in-Query.is
    (written-at c.args.statements.now c.loop-statement.statement-index c.statement-item.result c.loop-statement-test.true c.statement-item.is c.requires)

pub make-requires : goal.make-requires
make-requires c = written-at c.args.statements.now c.loop-statement.statement-index c.statement-item.result c.loop-statement-test.true c.statement-item.is c.requires
