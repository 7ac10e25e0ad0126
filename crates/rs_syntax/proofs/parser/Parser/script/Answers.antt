use Rattle.std.proofs.Common.{rules, sym}
use Rattle.rs_syntax.proofs.Steps.{goes_on}
use Rattle.rs_syntax.proofs.Scripting.{Scripting-start, Scripting-more, Scripting-end, Scripting-last, Scripting-halts, Scripting-halts_behind, Scripting-shorter}
use Rattle.rs_syntax.proofs.parser.Parser.script.Goals as goal

pub statements-init : goal.statements-init
statements-init c = rw c.new-statements.ensures.items (Scripting-start c.args.self.now)

pub returns-in_err-statement : goal.returns-in_err-statement
returns-in_err-statement c = goes_on _ _ (search rules) (Scripting-halts c.statements.invariant (sym c.statements-test.ensures) c.in_err-statement.ensures)

pub returns-then-not-at : goal.returns-then-not-at
returns-then-not-at c =
    rw c.in_ok-push.ensures.items
    (Scripting-last c.in_ok-statement.field-0 c.statements.statements.items c.statements.invariant (sym c.statements-test.ensures)
    c.in_ok-statement.ensures.read c.in_ok-statement.ensures.means (sym c.if-not-at.ensures))

pub statements-smaller : goal.statements-smaller
statements-smaller c = Scripting-shorter c.in_ok-statement.ensures.read c.in_ok-expect.ensures.read

pub statements-preserved : goal.statements-preserved
statements-preserved c =
    rw c.in_ok-push.ensures.items
    (Scripting-more c.in_ok-statement.field-0 c.statements.statements.items c.statements.invariant (sym c.statements-test.ensures)
    c.in_ok-statement.ensures.read c.in_ok-statement.ensures.means (sym c.if-not-at.ensures) c.in_ok-expect.ensures.read)

pub returns-in_err-expect : goal.returns-in_err-expect
returns-in_err-expect c =
    goes_on _ _ (search rules)
    (Scripting-halts_behind c.statements.invariant (sym c.statements-test.ensures) c.in_ok-statement.ensures.read (sym c.if-not-at.ensures) c.in_err-expect.ensures)

pub returns : goal.returns
returns c = Scripting-end c.statements.statements.items c.statements.invariant (sym c.statements-test.ensures)
