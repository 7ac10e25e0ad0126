use Rattle.std.proofs.Common.{◌≡◌, ◌+◌, ◌<◌, ◌≤◌, length, get_or, sym, ◌∙◌, ap, arith}
use Rattle.std.proofs.lemmas.Option.{slice_get_within}
use Rattle.rs_order.specs.Asks.{those_before}
use Rattle.rs_cert.specs.ByText.{numbers_with}
use Rattle.rs_cert.specs.Pairs.{pair_cmp, pairs_of_row}
use Rattle.rs_cert.proofs.CountFacts.{at-index, length-before, length-numbers, none-behind, one-before, the-pair}
use Rattle.rs_cert.proofs.count.room_behind.Goals as goal

pub overflow_sub-right : goal.overflow_sub-right
overflow_sub-right c =
    let made = at-index c.args.number c.args.left.now c.args.rights.now c.numbers-right-items.result.now c.loop-right.right-index c.numbers-right-items.ensures c.loop-right-test.true in
    let number : get_or c.numbers-right-items.result.now c.loop-right.right-index 0 ≡ 1 + made.place = made.number in
    omega arith

pub bounds-rows-right : goal.bounds-rows-right
bounds-rows-right c =
    let made = at-index c.args.number c.args.left.now c.args.rights.now c.numbers-right-items.result.now c.loop-right.right-index c.numbers-right-items.ensures c.loop-right-test.true in
    let number : get_or c.numbers-right-items.result.now c.loop-right.right-index 0 ≡ 1 + made.place = made.number in
    let within : made.place < length c.args.rights.now = slice_get_within c.args.rights.now made.place made.row made.at in
    let size : length c.rows.result.now ≡ length c.args.rights.now = ap length c.rows.ensures in
    omega arith

pub returns-then-not-comes_before : goal.returns-then-not-comes_before
returns-then-not-comes_before c =
    let made = at-index c.args.number c.args.left.now c.args.rights.now c.numbers-right-items.result.now c.loop-right.right-index c.numbers-right-items.ensures c.loop-right-test.true in
    let at = the-pair c.args.number c.args.left.now c.args.rights.now c.rows.result.now c.loop-right.right-index _ c.index-rows-right.result c.of-pair.result c.rows.ensures made c.index-rows-right.is c.of-pair.ensures in
    let most : length (those_before pair_cmp (λ pair. pair) c.args.bar.now (pairs_of_row c.args.number c.args.left.now 1 c.args.rights.now)) ≤ c.loop-right.right-index =
    none-behind c.args.number c.args.left.now c.args.rights.now c.requires c.args.bar.now c.loop-right.right-index c.of-pair.result at (sym c.comes_before.ensures ∙ c.if-not-comes_before.true) in
    let least = c.loop-right.invariant.before in
    let room = c.loop-right.invariant.room in
    omega arith

pub returns-then-rest-eq0 : goal.returns-then-rest-eq0
returns-then-rest-eq0 c =
    let made = at-index c.args.number c.args.left.now c.args.rights.now c.numbers-right-items.result.now c.loop-right.right-index c.numbers-right-items.ensures c.loop-right-test.true in
    let at = the-pair c.args.number c.args.left.now c.args.rights.now c.rows.result.now c.loop-right.right-index _ c.index-rows-right.result c.of-pair.result c.rows.ensures made c.index-rows-right.is c.of-pair.ensures in
    let more : c.loop-right.right-index < length (those_before pair_cmp (λ pair. pair) c.args.bar.now (pairs_of_row c.args.number c.args.left.now 1 c.args.rights.now)) =
    one-before c.args.number c.args.left.now c.args.rights.now c.requires c.args.bar.now c.loop-right.right-index c.of-pair.result at (sym c.comes_before.ensures ∙ c.if-not-comes_before.false) in
    let room = c.loop-right.invariant.room in
    omega arith

pub loop-right-preserved : goal.loop-right-preserved
loop-right-preserved c =
    let made = at-index c.args.number c.args.left.now c.args.rights.now c.numbers-right-items.result.now c.loop-right.right-index c.numbers-right-items.ensures c.loop-right-test.true in
    let at = the-pair c.args.number c.args.left.now c.args.rights.now c.rows.result.now c.loop-right.right-index _ c.index-rows-right.result c.of-pair.result c.rows.ensures made c.index-rows-right.is c.of-pair.ensures in
    let more : c.loop-right.right-index < length (those_before pair_cmp (λ pair. pair) c.args.bar.now (pairs_of_row c.args.number c.args.left.now 1 c.args.rights.now)) =
    one-before c.args.number c.args.left.now c.args.rights.now c.requires c.args.bar.now c.loop-right.right-index c.of-pair.result at (sym c.comes_before.ensures ∙ c.if-not-comes_before.false) in
    let room = c.loop-right.invariant.room in
    record { room = omega arith; before = omega arith }

pub returns : goal.returns
returns c =
    let least = c.loop-right.invariant.before in
    let room = c.loop-right.invariant.room in
    let most = length-before c.args.bar.now (pairs_of_row c.args.number c.args.left.now 1 c.args.rights.now) in
    let size = length-numbers c.args.number c.args.left.now 1 c.args.rights.now in
    let same : length c.numbers-right-items.result.now ≡ length (numbers_with c.args.left.now.join 1 c.args.rights.now) = ap length c.numbers-right-items.ensures in
    omega arith
