use Rattle.std.proofs.Common.{◌≡◌, rules, refl, ap}
use Rattle.rs_syntax.specs.Statements.{limit_of, terms_of}
use Rattle.rs_syntax.specs.Trees.{if_there, last, part}
use Rattle.rs_syntax.proofs.Steps.{read-both, read-rule, found, halts-first, halts-then, halts-rule, goes_on}
use Rattle.rs_syntax.proofs.parser.Parser.select.Goals as goal

pub returns-in_err-left : goal.returns-in_err-left
returns-in_err-left c = goes_on _ _ (search rules) (halts-rule (halts-first c.in_err-left.ensures))

pub returns-in-Err : goal.returns-in-Err
returns-in-Err c = halts-rule (halts-then c.in_ok-left.ensures.read (halts-first c.in-Err.ensures))

pub returns-in-Err-order : goal.returns-in-Err-order
returns-in-Err-order c = halts-rule (halts-then c.in_ok-left.ensures.read (halts-then c.in-Ok.ensures.read c.in-Err-order.ensures))

pub returns : goal.returns
returns c =
    let l = c.in_ok-left.ensures.means in
    let r = c.in-Ok.ensures.means in
    let o = c.in-Ok-order.ensures.means in
    let t : terms_of (part 2 c.in-Ok-order.ensures.tree) ≡ c.in-Ok-order.value.0 = ap (λ p. p.0) o in
    let n : if_there limit_of (last 4 c.in-Ok-order.ensures.tree) ≡ c.in-Ok-order.value.1 = ap (λ p. p.1) o in
    found (read-rule (read-both c.in_ok-left.ensures.read (read-both c.in-Ok.ensures.read c.in-Ok-order.ensures.read))) (rw (l, r, t, n) refl)
