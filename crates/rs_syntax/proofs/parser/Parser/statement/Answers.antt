use Rattle.std.proofs.Common.{rules, sym, ap}
use Rattle.rs_syntax.specs.Syntax.{Ask}
use Rattle.rs_syntax.proofs.Steps.{found, goes_on, halts-rule, halts-that, halts-this, read-rule, read-that, read-this}
use Rattle.rs_syntax.proofs.Scripting.{goes_rule, goes_this, goes_that}
use Rattle.rs_syntax.proofs.parser.Parser.statement.Goals as goal

pub returns-then-at : goal.returns-then-at
returns-then-at c = goes_rule _ _ _ _ _ _ (goes_this _ _ _ _ _ _ _ (sym c.if-at.ensures) c.create.ensures)

pub returns-in_err-select : goal.returns-in_err-select
returns-in_err-select c = goes_on _ _ (search rules) (halts-rule (halts-that (sym c.if-at.ensures) (halts-this (sym c.if-at-2.ensures) c.in_err-select.ensures)))

pub returns-then-at-2 : goal.returns-then-at-2
returns-then-at-2 c =
    found (read-rule (read-that (sym c.if-at.ensures) (read-this (sym c.if-at-2.ensures) c.in_ok-select.ensures.read))) (ap Ask c.in_ok-select.ensures.means)

pub returns-then-at-3 : goal.returns-then-at-3
returns-then-at-3 c = goes_rule _ _ _ _ _ _ (goes_that _ _ _ _ _ _ _ (sym c.if-at.ensures) (goes_that _ _ _ _ _ _ _ (sym c.if-at-2.ensures) (goes_this _ _ _ _ _ _ _ (sym c.if-at-3.ensures) c.declare.ensures)))

pub returns-then-at-4 : goal.returns-then-at-4
returns-then-at-4 c = goes_rule _ _ _ _ _ _ (goes_that _ _ _ _ _ _ _ (sym c.if-at.ensures) (goes_that _ _ _ _ _ _ _ (sym c.if-at-2.ensures) (goes_that _ _ _ _ _ _ _ (sym c.if-at-3.ensures) (goes_this _ _ _ _ _ _ _ (sym c.if-at-4.ensures) c.fetch.ensures))))

pub returns-then-at-5 : goal.returns-then-at-5
returns-then-at-5 c = goes_rule _ _ _ _ _ _ (goes_that _ _ _ _ _ _ _ (sym c.if-at.ensures) (goes_that _ _ _ _ _ _ _ (sym c.if-at-2.ensures) (goes_that _ _ _ _ _ _ _ (sym c.if-at-3.ensures) (goes_that _ _ _ _ _ _ _ (sym c.if-at-4.ensures) (goes_this _ _ _ _ _ _ _ (sym c.if-at-5.ensures) c.close.ensures)))))

pub returns-then-at-6 : goal.returns-then-at-6
returns-then-at-6 c = goes_rule _ _ _ _ _ _ (goes_that _ _ _ _ _ _ _ (sym c.if-at.ensures) (goes_that _ _ _ _ _ _ _ (sym c.if-at-2.ensures) (goes_that _ _ _ _ _ _ _ (sym c.if-at-3.ensures) (goes_that _ _ _ _ _ _ _ (sym c.if-at-4.ensures) (goes_that _ _ _ _ _ _ _ (sym c.if-at-5.ensures) (goes_this _ _ _ _ _ _ _ (sym c.if-at-6.ensures) c.explain.ensures))))))

pub returns : goal.returns
returns c = goes_rule _ _ _ _ _ _ (goes_that _ _ _ _ _ _ _ (sym c.if-at.ensures) (goes_that _ _ _ _ _ _ _ (sym c.if-at-2.ensures) (goes_that _ _ _ _ _ _ _ (sym c.if-at-3.ensures) (goes_that _ _ _ _ _ _ _ (sym c.if-at-4.ensures) (goes_that _ _ _ _ _ _ _ (sym c.if-at-5.ensures) (goes_that _ _ _ _ _ _ _ (sym c.if-at-6.ensures) c.insert.ensures))))))
