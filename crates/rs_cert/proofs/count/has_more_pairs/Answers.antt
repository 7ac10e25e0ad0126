use Rattle.std.proofs.Common.{◌≡◌, ℕ, ◌+◌, ◌<◌, ◌≤◌, false, [], drop, length, nat_lt, sym, ap, arith}
use Rattle.std.proofs.lemmas.Bool.{lt-ltb}
use Rattle.std.proofs.lemmas.Bool.Decides.{nat_tests}
use Rattle.std.proofs.lemmas.List.{drop_all}
use Rattle.rs_order.specs.Asks.{those_before}
use Rattle.rs_cert.specs.Pairs.{pair_cmp, pairs_of_row}
use Rattle.rs_cert.proofs.CountFacts.{count-step, count_from}
use Rattle.rs_cert.proofs.count.has_more_pairs.Goals as goal

pub returns-in-None : goal.returns-in-None
returns-in-None c =
    let step = count-step c.args.bar.now c.loop-index.index c.args.lefts.now c.args.rights.now c.index-lefts-index.result c.loop-index-test.true c.index-lefts-index.is in
    let before = c.loop-index.invariant in
    let full : c.loop-index.room < length (those_before pair_cmp (λ pair. pair) c.args.bar.now (pairs_of_row (c.loop-index.index + 1) c.index-lefts-index.result 1 c.args.rights.now)) = c.in-None.ensures in
    sym (lt-ltb c.args.most (count_from c.args.bar.now 1 c.args.lefts.now c.args.rights.now) (omega arith))

pub returns : goal.returns
returns c =
    let before = c.loop-index.invariant in
    let none : drop c.loop-index.index c.args.lefts.now ≡ [] = drop_all c.loop-index.index c.args.lefts.now (omega arith) in
    let last : count_from c.args.bar.now (c.loop-index.index + 1) (drop c.loop-index.index c.args.lefts.now) c.args.rights.now ≡ 0 =
    ap (λ list. count_from c.args.bar.now (c.loop-index.index + 1) list c.args.rights.now) none in
    not_below c.args.most (count_from c.args.bar.now 1 c.args.lefts.now c.args.rights.now) (omega arith)
  where
    not_below : (m n : ℕ) → n ≤ m → false ≡ nat_lt m n
    not_below m n h = grind (arith, nat_tests)

pub loop-index-preserved : goal.loop-index-preserved
loop-index-preserved c =
    let step = count-step c.args.bar.now c.loop-index.index c.args.lefts.now c.args.rights.now c.index-lefts-index.result c.loop-index-test.true c.index-lefts-index.is in
    let before = c.loop-index.invariant in
    let rest = c.in-Some.ensures in
    omega arith
