-- The conjunct that equates the columns is one of the block.
use Rattle.std.proofs.Common.{◌≡◌, ◌<◌, length, get_or}
use Rattle.rs_query.specs.Conjuncts.{ConjunctDef}
use Rattle.rs_query.proofs.TieFacts.{equates-at}
use Rattle.rs_query.proofs.block.Block.equated.Goals as goal

pub returns-in-Some : goal.returns-in-Some
returns-in-Some c =
    let place = c.loop-conjunct.conjunct-index in
    let conjunct : ConjunctDef = c.conjunct-item.result in
    let is : conjunct ≡ get_or c.args.self.now.conjuncts place conjunct = rw (c.deref-conjunct-items.ensures.value, c.items.ensures) at c.conjunct-item.is in
    let within : place < length c.args.self.now.conjuncts = rw (c.deref-conjunct-items.ensures.value, c.items.ensures) at c.loop-conjunct-test.true in
    equates-at c.args.self.now c.args.mask c.args.entry place conjunct c.in-Some.columns.0 c.in-Some.columns.1 within is c.in-Some.ensures
