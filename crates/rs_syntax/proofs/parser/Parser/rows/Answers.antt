use Rattle.std.proofs.Common.{rules, refl, sym}
use Rattle.rs_syntax.proofs.Lists.{Listing-start, Listing-more, Listing-end, Listing-halts, read-shorter}
use Rattle.rs_syntax.proofs.Steps.{read-both, read-rule, found, halts-first, halts-then, halts-rule, goes_on}
use Rattle.rs_syntax.proofs.parser.Parser.rows.Goals as goal

pub returns-in_err-row : goal.returns-in_err-row
returns-in_err-row c = goes_on _ _ (search rules) (halts-rule (halts-first c.in_err-row.ensures))

pub loop-alloc-init : goal.loop-alloc-init
loop-alloc-init c = rw (c.in_ok-push.ensures.items, c.new-rows.ensures.items) (Listing-start c.in_ok-row.ensures)

pub returns-in_err-expect : goal.returns-in_err-expect
returns-in_err-expect c =
    goes_on _ _ (search rules) (halts-rule (Listing-halts c.loop-alloc.invariant (sym c.loop-alloc-test.ensures) (halts-first c.in_err-expect.ensures)))

pub returns-in_err-row-2 : goal.returns-in_err-row-2
returns-in_err-row-2 c =
    goes_on _ _ (search rules)
    (halts-rule (Listing-halts c.loop-alloc.invariant (sym c.loop-alloc-test.ensures) (halts-then c.in_ok-expect.ensures.read c.in_err-row-2.ensures)))

pub loop-alloc-smaller : goal.loop-alloc-smaller
loop-alloc-smaller c = read-shorter refl (read-both c.in_ok-expect.ensures.read c.in_ok-row-2.ensures.read)

pub loop-alloc-preserved : goal.loop-alloc-preserved
loop-alloc-preserved c =
    rw c.in_ok-push-2.ensures.items
    (Listing-more c.loop-alloc.invariant (sym c.loop-alloc-test.ensures) (read-both c.in_ok-expect.ensures.read c.in_ok-row-2.ensures.read) c.in_ok-row-2.ensures.means)

pub returns : goal.returns
returns c = let all = Listing-end c.loop-alloc.invariant (sym c.loop-alloc-test.ensures) in rw c.of.ensures (found (read-rule all.read) all.means)
