use Rattle.std.proofs.Common.{rules, refl, sym}
use Rattle.rs_syntax.proofs.Lists.{Listing-start, Listing-more, Listing-end, Listing-halts, read-shorter}
use Rattle.rs_syntax.proofs.Steps.{read-both, read-rule, found, halts-first, halts-then, halts-rule, goes_on}
use Rattle.rs_syntax.proofs.parser.Parser.cells.Goals as goal

pub returns-in_err-cell : goal.returns-in_err-cell
returns-in_err-cell c = goes_on _ _ (search rules) (halts-rule (halts-first c.in_err-cell.ensures))

pub loop-self-init : goal.loop-self-init
loop-self-init c = rw (c.in_ok-push.ensures.items, c.new-cells.ensures.items) (Listing-start c.in_ok-cell.ensures)

pub returns-in_err-expect : goal.returns-in_err-expect
returns-in_err-expect c =
    goes_on _ _ (search rules) (halts-rule (Listing-halts c.loop-self.invariant (sym c.loop-self-test.ensures) (halts-first c.in_err-expect.ensures)))

pub returns-in_err-cell-2 : goal.returns-in_err-cell-2
returns-in_err-cell-2 c =
    goes_on _ _ (search rules)
    (halts-rule (Listing-halts c.loop-self.invariant (sym c.loop-self-test.ensures) (halts-then c.in_ok-expect.ensures.read c.in_err-cell-2.ensures)))

pub loop-self-smaller : goal.loop-self-smaller
loop-self-smaller c = read-shorter refl (read-both c.in_ok-expect.ensures.read c.in_ok-cell-2.ensures.read)

pub loop-self-preserved : goal.loop-self-preserved
loop-self-preserved c =
    rw c.in_ok-push-2.ensures.items
    (Listing-more c.loop-self.invariant (sym c.loop-self-test.ensures) (read-both c.in_ok-expect.ensures.read c.in_ok-cell-2.ensures.read) c.in_ok-cell-2.ensures.means)

pub returns : goal.returns
returns c = let all = Listing-end c.loop-self.invariant (sym c.loop-self-test.ensures) in rw c.of.ensures (found (read-rule all.read) all.means)
