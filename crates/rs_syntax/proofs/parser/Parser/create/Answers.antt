use Rattle.std.proofs.Common.{rules, sym}
use Rattle.rs_syntax.proofs.Steps.{goes_on, halts-first, halts-rule}
use Rattle.rs_syntax.proofs.Scripting.{goes_rule, goes_this, goes_that, goes_then}
use Rattle.rs_syntax.proofs.parser.Parser.create.Goals as goal

pub returns-in_err-expect : goal.returns-in_err-expect
returns-in_err-expect c = goes_on _ _ (search rules) (halts-rule (halts-first c.in_err-expect.ensures))

pub returns-then-at : goal.returns-then-at
returns-then-at c = goes_rule _ _ _ _ _ _ (goes_then _ _ _ _ _ c.in_ok-expect.ensures.read (goes_this _ _ _ _ _ _ _ (sym c.if-at.ensures) c.create_table.ensures))

pub returns-then-at-2 : goal.returns-then-at-2
returns-then-at-2 c =
    goes_rule _ _ _ _ _ _ (goes_then _ _ _ _ _ c.in_ok-expect.ensures.read (goes_that _ _ _ _ _ _ _ (sym c.if-at.ensures) (goes_this _ _ _ _ _ _ _ (sym c.if-at-2.ensures) c.create_predicate.ensures)))

pub returns : goal.returns
returns c =
    goes_rule _ _ _ _ _ _ (goes_then _ _ _ _ _ c.in_ok-expect.ensures.read (goes_that _ _ _ _ _ _ _ (sym c.if-at.ensures) (goes_that _ _ _ _ _ _ _ (sym c.if-at-2.ensures) c.create_rank_index.ensures)))
