use Rattle.std.proofs.Common.{rules, arith, sym, refl, ◌≡◌, ◌<◌, ◌++◌, [], ◌∷◌}
use Rattle.rs_syntax.proofs.Chains.{chain-start, chain-more, chain-end, chain-halts, chain-halts-first, operator-less, operand-less}
use Rattle.rs_syntax.proofs.Cycle.{Repeating-start, Repeating-push, Repeating-end, Repeating-halts, token-less, counted-less, part-less, when-less, neg-that, neg-this, comp-that, comp-this, sign-that, sign-this, case-found, when-found}
use Rattle.rs_syntax.proofs.Operands.{base-absolute, base-extreme, base-brackets, base-case, before, expr_before-found, halts-pair, called-less, halts-word, halts-called, absolute-column, absolute-function, extreme-column, extreme-function, brackets-behind}
use Rattle.rs_syntax.proofs.Steps.{halts-first, halts-then, halts-this, halts-rule, halts-memory, halts-made, goes_on}
use Rattle.rs_syntax.proofs.parser.Parser.+expr.Goals as goal

pub chain-operand-requires : goal.chain-operand-requires
chain-operand-requires t c = (omega (arith, c.decreases), tt)

pub chain-returns-in_err-node : goal.chain-returns-in_err-node
chain-returns-in_err-node t c = goes_on _ _ (search rules) (chain-halts-first c.args.level c.in_err-node.ensures)

pub chain-more-init : goal.chain-more-init
chain-more-init t c = record { chain = chain-start c.args.level c.start-from.result c.start-from.ensures c.in_ok-node.ensures; left = operand-less c.args.level c.in_ok-node.ensures }

pub chain-returns-in-Err : goal.chain-returns-in-Err
chain-returns-in-Err t c = chain-halts c.args.level c.start-from.result c.more.invariant.chain (sym c.more-test.ensures) (halts-first c.in-Err.ensures)

pub chain-operand-requires-in-more : goal.chain-operand-requires-in-more
chain-operand-requires-in-more t c = (omega (arith, c.decreases, operator-less c.args.level c.in-Ok.ensures, c.more.invariant.left), tt)

pub chain-returns-in-Err-operand : goal.chain-returns-in-Err-operand
chain-returns-in-Err-operand t c = chain-halts c.args.level c.start-from.result c.more.invariant.chain (sym c.more-test.ensures) (halts-then c.in-Ok.ensures.read c.in-Err-operand.ensures)

pub chain-returns-in_err-node-2 : goal.chain-returns-in_err-node-2
chain-returns-in_err-node-2 t c = goes_on _ _ (search rules) (halts-made c.in_err-node-2.ensures)

pub chain-more-smaller : goal.chain-more-smaller
chain-more-smaller t c = omega (arith, operator-less c.args.level c.in-Ok.ensures, operand-less c.args.level c.in-Ok-operand.ensures)

pub chain-more-preserved : goal.chain-more-preserved
chain-more-preserved t c = record {
  chain = chain-more c.args.level c.start-from.result c.more.invariant.chain (sym c.more-test.ensures) c.in-Ok.ensures c.in-Ok-operand.ensures c.since-at.ensures c.in_ok-node-2.ensures;
  left = omega (arith, operator-less c.args.level c.in-Ok.ensures, operand-less c.args.level c.in-Ok-operand.ensures, c.more.invariant.left);
}

pub chain-returns : goal.chain-returns
chain-returns t c = chain-end c.args.level c.start-from.result c.more.invariant.chain (sym c.more-test.ensures)

pub absolute-returns-in_err-word : goal.absolute-returns-in_err-word
absolute-returns-in_err-word t c = goes_on _ _ (search rules) (halts-rule (halts-word c.in_err-word.ensures))

pub absolute-returns-in-Column : goal.absolute-returns-in-Column
absolute-returns-in-Column t c = absolute-column (rw c.in-Column.is at c.in_ok-word.ensures)

pub absolute-expr_before-requires : goal.absolute-expr_before-requires
absolute-expr_before-requires t c = let word = rw c.in-Function.is at c.in_ok-word.ensures in (omega (arith, c.decreases, called-less word refl), tt)

pub absolute-returns-in_err-part-in-Function : goal.absolute-returns-in_err-part-in-Function
absolute-returns-in_err-part-in-Function t c = let word = rw c.in-Function.is at c.in_ok-word.ensures in goes_on _ _ (search rules) (halts-rule (halts-called word c.in_err-part-in-Function.ensures))

pub absolute-returns-in_ok-part-in-Function : goal.absolute-returns-in_ok-part-in-Function
absolute-returns-in_ok-part-in-Function t c = let word = rw c.in-Function.is at c.in_ok-word.ensures in absolute-function _ word c.in_ok-part-in-Function.ensures c.since-at.ensures c.abs.ensures

pub base-absolute-requires : goal.base-absolute-requires
base-absolute-requires t c = (omega (arith, c.decreases), tt)

pub base-returns-then-at : goal.base-returns-then-at
base-returns-then-at t c = base-absolute _ _ _ (sym c.if-at.ensures) c.absolute.ensures

pub base-extreme-requires : goal.base-extreme-requires
base-extreme-requires t c = (omega (arith, c.decreases), tt)

pub base-returns-then-at_any : goal.base-returns-then-at_any
base-returns-then-at_any t c = base-extreme _ _ _ (sym c.if-at.ensures) (sym c.if-at_any.ensures) c.extreme.ensures

pub base-brackets-requires : goal.base-brackets-requires
base-brackets-requires t c = (omega (arith, c.decreases), tt)

pub base-returns-then-at-2 : goal.base-returns-then-at-2
base-returns-then-at-2 t c = base-brackets _ _ _ (sym c.if-at.ensures) (sym c.if-at_any.ensures) (sym c.if-at-2.ensures) c.brackets.ensures

pub base-case-requires : goal.base-case-requires
base-case-requires t c = (omega (arith, c.decreases), tt)

pub base-returns-then-at-3 : goal.base-returns-then-at-3
base-returns-then-at-3 t c = base-case _ _ _ (sym c.if-at.ensures) (sym c.if-at_any.ensures) (sym c.if-at-2.ensures) (sym c.if-at-3.ensures) c.case.ensures

pub brackets-returns-in_err-expect : goal.brackets-returns-in_err-expect
brackets-returns-in_err-expect t c = goes_on _ _ (search rules) (halts-rule (halts-first c.in_err-expect.ensures))

pub brackets-expr_before-requires : goal.brackets-expr_before-requires
brackets-expr_before-requires t c = (omega (arith, c.decreases, counted-less c.in_ok-expect.ensures refl refl), tt)

pub brackets-returns : goal.brackets-returns
brackets-returns t c = brackets-behind _ _ _ _ c.in_ok-expect.ensures c.expr_before.ensures

pub case-returns-in_err-expect : goal.case-returns-in_err-expect
case-returns-in_err-expect t c = goes_on _ _ (search rules) (halts-rule (halts-first c.in_err-expect.ensures))

pub case-when-requires : goal.case-when-requires
case-when-requires t c = (omega (arith, c.decreases, token-less c.in_ok-expect.ensures refl), tt)

pub case-returns-in_err-first : goal.case-returns-in_err-first
case-returns-in_err-first t c = goes_on _ _ (search rules) (halts-rule (halts-then c.in_ok-expect.ensures.read (halts-first c.in_err-first.ensures)))

pub case-whens-requires : goal.case-whens-requires
case-whens-requires t c = (omega (arith, c.decreases, token-less c.in_ok-expect.ensures refl, when-less c.in_ok-first.ensures), tt)

pub case-returns-in-Err : goal.case-returns-in-Err
case-returns-in-Err t c = halts-rule (halts-then c.in_ok-expect.ensures.read (halts-then c.in_ok-first.ensures.read (halts-first c.in-Err.ensures)))

pub case-returns-in-Err-expect : goal.case-returns-in-Err-expect
case-returns-in-Err-expect t c = halts-rule (halts-then c.in_ok-expect.ensures.read (halts-then c.in_ok-first.ensures.read (halts-then c.in-Ok.ensures.read (halts-first c.in-Err-expect.ensures))))

pub case-expr_before-requires : goal.case-expr_before-requires
case-expr_before-requires t c = (omega (arith, c.decreases, token-less c.in_ok-expect.ensures refl, when-less c.in_ok-first.ensures, part-less c.in-Ok.ensures refl, token-less c.in-Ok-expect.ensures refl), tt)

pub case-returns-in-Err-expr_before : goal.case-returns-in-Err-expr_before
case-returns-in-Err-expr_before t c = halts-rule (halts-then c.in_ok-expect.ensures.read (halts-then c.in_ok-first.ensures.read (halts-then c.in-Ok.ensures.read (halts-then c.in-Ok-expect.ensures.read c.in-Err-expr_before.ensures))))

pub case-returns : goal.case-returns
case-returns t c = case-found c.start-from.result _ c.start-from.ensures c.in_ok-expect.ensures c.in_ok-first.ensures c.in-Ok.ensures c.in-Ok-expect.ensures c.in-Ok-expr_before.ensures c.since-at.ensures c.cases.ensures

pub expr_before-chain-requires : goal.expr_before-chain-requires
expr_before-chain-requires t c = (omega (arith, c.decreases), tt)

pub expr_before-returns-in_err-node : goal.expr_before-returns-in_err-node
expr_before-returns-in_err-node t c = goes_on _ _ (search rules) (halts-first c.in_err-node.ensures)

pub expr_before-returns-in-Err : goal.expr_before-returns-in-Err
expr_before-returns-in-Err t c = halts-then c.in_ok-node.ensures.read c.in-Err.ensures

pub expr_before-returns : goal.expr_before-returns
expr_before-returns t c = expr_before-found c.in_ok-node.ensures c.in-Ok.ensures

pub extreme-returns-in_err-word : goal.extreme-returns-in_err-word
extreme-returns-in_err-word t c = goes_on _ _ (search rules) (halts-rule (halts-word c.in_err-word.ensures))

pub extreme-returns-in-Column : goal.extreme-returns-in-Column
extreme-returns-in-Column t c = extreme-column (rw c.in-Column.is at c.in_ok-word.ensures)

pub extreme-expr_before-requires : goal.extreme-expr_before-requires
extreme-expr_before-requires t c = let word = rw c.in-Function.is at c.in_ok-word.ensures in (omega (arith, c.decreases, called-less word refl), tt)

pub extreme-returns-in_err-first-in-Function : goal.extreme-returns-in_err-first-in-Function
extreme-returns-in_err-first-in-Function t c = let word = rw c.in-Function.is at c.in_ok-word.ensures in goes_on _ _ (search rules) (halts-rule (halts-called word (halts-pair c.in_err-first-in-Function.ensures)))

pub extreme-expr_before-requires-in-Function : goal.extreme-expr_before-requires-in-Function
extreme-expr_before-requires-in-Function t c =
    let word = rw c.in-Function.is at c.in_ok-word.ensures in (omega (arith, c.decreases, called-less word refl, part-less c.in_ok-first-in-Function.ensures refl), tt)

pub extreme-returns-in-Err : goal.extreme-returns-in-Err
extreme-returns-in-Err t c =
    let word = rw c.in-Function.is at c.in_ok-word.ensures in
    let first = before c.in_ok-first-in-Function.ensures in
    halts-rule (halts-called word (halts-then first.read (halts-then first.closed c.in-Err.ensures)))

pub extreme-returns-in-Ok : goal.extreme-returns-in-Ok
extreme-returns-in-Ok t c =
    let word = rw c.in-Function.is at c.in_ok-word.ensures in extreme-function _ word c.in_ok-first-in-Function.ensures c.in-Ok.ensures c.since-at.ensures c.extreme.ensures

pub when-returns-in_err-expect : goal.when-returns-in_err-expect
when-returns-in_err-expect t c = goes_on _ _ (search rules) (halts-rule (halts-first c.in_err-expect.ensures))

pub when-expr_before-requires : goal.when-expr_before-requires
when-expr_before-requires t c = (omega (arith, c.decreases, counted-less c.in_ok-expect.ensures refl refl), tt)

pub when-returns-in_err-condition : goal.when-returns-in_err-condition
when-returns-in_err-condition t c = goes_on _ _ (search rules) (halts-rule (halts-then c.in_ok-expect.ensures.read (halts-pair c.in_err-condition.ensures)))

pub when-chain-requires : goal.when-chain-requires
when-chain-requires t c = (omega (arith, c.decreases, counted-less c.in_ok-expect.ensures refl refl, part-less c.in_ok-condition.ensures refl), tt)

pub when-returns-in-Err : goal.when-returns-in-Err
when-returns-in-Err t c = let condition = before c.in_ok-condition.ensures in halts-rule (halts-then c.in_ok-expect.ensures.read (halts-then condition.read (halts-then condition.closed c.in-Err.ensures)))

pub when-returns : goal.when-returns
when-returns t c = when-found c.start-from.result c.start-from.ensures c.in_ok-expect.ensures c.in_ok-condition.ensures c.in-Ok.ensures

pub comp-chain-requires : goal.comp-chain-requires
comp-chain-requires t c = (omega (arith, c.decreases), tt)

pub comp-returns-in_err-left : goal.comp-returns-in_err-left
comp-returns-in_err-left t c = goes_on _ _ (search rules) (halts-rule (halts-first c.in_err-left.ensures))

pub comp-returns-then-not-at_any : goal.comp-returns-then-not-at_any
comp-returns-then-not-at_any t c = comp-that c.in_ok-left.ensures (sym c.if-not-at_any.ensures)

pub comp-returns-in-Err : goal.comp-returns-in-Err
comp-returns-in-Err t c = halts-rule (halts-then c.in_ok-left.ensures.read (halts-this (sym c.if-not-at_any.ensures) (halts-first c.in-Err.ensures)))

pub comp-chain-requires-2 : goal.comp-chain-requires-2
comp-chain-requires-2 t c = (omega (arith, c.decreases, part-less c.in_ok-left.ensures refl, token-less c.in-Ok.ensures refl), tt)

pub comp-returns-in-Err-chain : goal.comp-returns-in-Err-chain
comp-returns-in-Err-chain t c = halts-rule (halts-then c.in_ok-left.ensures.read (halts-this (sym c.if-not-at_any.ensures) (halts-then c.in-Ok.ensures.read c.in-Err-chain.ensures)))

pub comp-returns : goal.comp-returns
comp-returns t c = comp-this c.start-from.result _ c.start-from.ensures c.in_ok-left.ensures (sym c.if-not-at_any.ensures) c.in-Ok.ensures c.in-Ok-chain.ensures c.since-at.ensures c.compare.ensures

pub neg-comp-requires : goal.neg-comp-requires
neg-comp-requires t c = (omega (arith, c.decreases), tt)

pub neg-returns-then-not-at : goal.neg-returns-then-not-at
neg-returns-then-not-at t c = neg-that _ _ _ (sym c.if-not-at.ensures) c.comp.ensures

pub neg-returns-in_err-expect : goal.neg-returns-in_err-expect
neg-returns-in_err-expect t c = goes_on _ _ (search rules) (halts-rule (halts-this (sym c.if-not-at.ensures) (halts-first c.in_err-expect.ensures)))

pub neg-neg-requires : goal.neg-neg-requires
neg-neg-requires t c = (omega (arith, c.decreases, counted-less c.in_ok-expect.ensures refl refl), tt)

pub neg-returns-in_err-part : goal.neg-returns-in_err-part
neg-returns-in_err-part t c = goes_on _ _ (search rules) (halts-rule (halts-this (sym c.if-not-at.ensures) (halts-then c.in_ok-expect.ensures.read c.in_err-part.ensures)))

pub neg-returns : goal.neg-returns
neg-returns t c = neg-this c.start-from.result _ c.start-from.ensures (sym c.if-not-at.ensures) c.in_ok-expect.ensures c.in_ok-part.ensures c.since-at.ensures c.not.ensures

pub sign-base-requires : goal.sign-base-requires
sign-base-requires t c = (omega (arith, c.decreases), tt)

pub sign-returns-then-not-at : goal.sign-returns-then-not-at
sign-returns-then-not-at t c = sign-that _ _ _ (sym c.if-not-at.ensures) c.base.ensures

pub sign-returns-in_err-expect : goal.sign-returns-in_err-expect
sign-returns-in_err-expect t c = goes_on _ _ (search rules) (halts-rule (halts-this (sym c.if-not-at.ensures) (halts-first c.in_err-expect.ensures)))

pub sign-sign-requires : goal.sign-sign-requires
sign-sign-requires t c = (omega (arith, c.decreases, counted-less c.in_ok-expect.ensures refl refl), tt)

pub sign-returns-in_err-part : goal.sign-returns-in_err-part
sign-returns-in_err-part t c = goes_on _ _ (search rules) (halts-rule (halts-this (sym c.if-not-at.ensures) (halts-then c.in_ok-expect.ensures.read c.in_err-part.ensures)))

pub sign-returns : goal.sign-returns
sign-returns t c = sign-this c.start-from.result _ c.start-from.ensures (sym c.if-not-at.ensures) c.in_ok-expect.ensures c.in_ok-part.ensures c.since-at.ensures c.neg.ensures

pub whens-more-init : goal.whens-more-init
whens-more-init t c = record { parts = rw c.new-parts.ensures.items (Repeating-start _); left = omega arith }

pub whens-when-requires : goal.whens-when-requires
whens-when-requires t c = (omega (arith, c.decreases, c.more.invariant.left), tt)

pub whens-returns-in_err-part : goal.whens-returns-in_err-part
whens-returns-in_err-part t c = goes_on _ _ (search rules) (Repeating-halts c.more.invariant.parts (sym c.more-test.ensures) c.in_err-part.ensures)

pub whens-more-smaller : goal.whens-more-smaller
whens-more-smaller t c = when-less c.in_ok-part.ensures

pub whens-more-preserved : goal.whens-more-preserved
whens-more-preserved t c = let pushed : c.push.new.self.items ≡ c.more.parts.items ++ c.in_ok-part.part ∷ [] = search rules in
    let less : c.when.new.self.left < c.more.self.left = when-less c.in_ok-part.ensures in
    let within = c.more.invariant.left in
    record { parts = Repeating-push c.more.parts.items c.push.new.self.items c.in_ok-part.part pushed c.more.invariant.parts (sym c.more-test.ensures) c.in_ok-part.ensures; left = omega arith }

pub whens-returns-in_err-push : goal.whens-returns-in_err-push
whens-returns-in_err-push t c = goes_on _ _ (search rules) halts-memory

pub whens-returns : goal.whens-returns
whens-returns t c = Repeating-end c.more.invariant.parts (sym c.more-test.ensures)
