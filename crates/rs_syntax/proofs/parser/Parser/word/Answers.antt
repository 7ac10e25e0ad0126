use Rattle.std.proofs.Common.{◌∙◌, rules, sym, ap}
use Rattle.rs_syntax.specs.Trees.{qualified}
use Rattle.rs_syntax.specs.declared.parser.expressions.Word.TheVariants.{Column, Function}
use Rattle.rs_syntax.proofs.Steps.{read-both, read-this, read-that, found, halts-first, halts-then, halts-this, halts-that, goes_on}
use Rattle.rs_syntax.proofs.parser.Parser.word.Goals as goal

pub returns-in_err-kind : goal.returns-in_err-kind
returns-in_err-kind c = goes_on _ _ (search rules) (halts-first (c.in_err-kind.ensures.reads _ c.at_any-accepted.ensures))

pub returns-in_err-expect : goal.returns-in_err-expect
returns-in_err-expect c = goes_on _ _ (search rules) (halts-then (c.in_ok-kind.ensures.reads _ c.at_any-accepted.ensures).read (halts-this (sym c.if-at.ensures) c.in_err-expect.ensures))

pub returns-then-at : goal.returns-then-at
returns-then-at c =
    let token = c.in_ok-kind.ensures.reads _ c.at_any-accepted.ensures in
    found (read-both token.read (read-this (sym c.if-at.ensures) c.in_ok-expect.ensures.read)) (ap (λ l. Function l.kind l.at.start) token.means)

pub returns-in_err-column : goal.returns-in_err-column
returns-in_err-column c = goes_on _ _ (search rules) (halts-then (c.in_ok-kind.ensures.reads _ c.at_any-accepted.ensures).read (halts-that (sym c.if-at.ensures) c.in_err-column.ensures))

pub returns : goal.returns
returns c =
    let token = c.in_ok-kind.ensures.reads _ c.at_any-accepted.ensures in
    let rest = c.in_ok-column.ensures in
    found (read-both token.read (read-that (sym c.if-at.ensures) rest.read)) (ap (λ l. Column (qualified (record { text = l.text; at = l.at }) rest.tree)) token.means ∙ ap Column rest.means)
