use Rattle.std.proofs.Common.{rules, refl, sym}
use Rattle.rs_syntax.proofs.Lists.{Listing-start, Listing-more, Listing-end, Listing-halts, read-shorter}
use Rattle.rs_syntax.proofs.Steps.{read-both, read-rule, found, halts-first, halts-then, halts-rule, goes_on}
use Rattle.rs_syntax.proofs.parser.Parser.terms.Goals as goal

pub returns-in_err-term : goal.returns-in_err-term
returns-in_err-term c = goes_on _ _ (search rules) (halts-rule (halts-first c.in_err-term.ensures))

pub more-init : goal.more-init
more-init c = rw (c.in_ok-push.ensures.items, c.new-terms.ensures.items) (Listing-start c.in_ok-term.ensures)

pub returns-in_err-expect : goal.returns-in_err-expect
returns-in_err-expect c =
    goes_on _ _ (search rules) (halts-rule (Listing-halts c.more.invariant (sym c.more-test.ensures) (halts-first c.in_err-expect.ensures)))

pub returns-in_err-term-2 : goal.returns-in_err-term-2
returns-in_err-term-2 c =
    goes_on _ _ (search rules)
    (halts-rule (Listing-halts c.more.invariant (sym c.more-test.ensures) (halts-then c.in_ok-expect.ensures.read c.in_err-term-2.ensures)))

pub more-smaller : goal.more-smaller
more-smaller c = read-shorter refl (read-both c.in_ok-expect.ensures.read c.in_ok-term-2.ensures.read)

pub more-preserved : goal.more-preserved
more-preserved c =
    rw c.in_ok-push-2.ensures.items
    (Listing-more c.more.invariant (sym c.more-test.ensures) (read-both c.in_ok-expect.ensures.read c.in_ok-term-2.ensures.read) c.in_ok-term-2.ensures.means)

pub returns : goal.returns
returns c = let all = Listing-end c.more.invariant (sym c.more-test.ensures) in rw c.of.ensures (found (read-rule all.read) all.means)
