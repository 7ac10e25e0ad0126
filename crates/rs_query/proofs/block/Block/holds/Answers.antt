-- The conjuncts behind this one decide, where it isn't in the mask or holds.
use Rattle.std.proofs.Common.{◌≡◌, ◌∙◌, ◌/◌, ◌%◌, ◌^◌, ◌<◌, eqb, true, false, length, get_or, refl, sym, arith}
use Rattle.std.proofs.lemmas.Bool.{eq-eqb, ne_eqb}
use Rattle.std.proofs.lemmas.Option.{slice_get_read}
use Rattle.rs_query.specs.Conjuncts.{ConjunctDef}
use Rattle.rs_query.proofs.HoldFacts.{AreInside-at, hold_from-more, hold_from-out}
use Rattle.rs_query.proofs.block.Block.holds.Goals as goal

pub conjunct_holds-requires-clause-inside : goal.conjunct_holds-requires-clause-inside
conjunct_holds-requires-clause-inside c =
    let place = c.loop-place.place in
    let conjunct : ConjunctDef = c.conjunct-item.result in
    let is : conjunct ≡ get_or c.args.self.now.conjuncts place conjunct = rw (c.deref-conjunct-items.ensures.value, c.items.ensures) at c.conjunct-item.is in
    let within : place < length c.args.self.now.conjuncts = rw (c.deref-conjunct-items.ensures.value, c.items.ensures) at c.loop-place-test.true in
    AreInside-at c.args.conjuncts c.args.ids.now.mask c.args.self.now.conjuncts place conjunct c.requires.inside
    (slice_get_read c.args.self.now.conjuncts (length c.args.self.now.conjuncts) place conjunct refl within is) (omega arith)

pub loop-place-preserved-then-conjuncts-place-eq0 :
    goal.loop-place-preserved-then-conjuncts-place-eq0
loop-place-preserved-then-conjuncts-place-eq0 c =
    let place = c.loop-place.place in
    let conjunct : ConjunctDef = c.conjunct-item.result in
    let is : conjunct ≡ get_or c.args.self.now.conjuncts place conjunct = rw (c.deref-conjunct-items.ensures.value, c.items.ensures) at c.conjunct-item.is in
    let within : place < length c.args.self.now.conjuncts = rw (c.deref-conjunct-items.ensures.value, c.items.ensures) at c.loop-place-test.true in
    let out : eqb (c.args.conjuncts / 2 ^ place % 2) 1 ≡ false = ne_eqb (c.args.conjuncts / 2 ^ place % 2) 1 (λ one. omega arith) in
    sym (hold_from-out c.args.catalog.now c.args.self.now c.args.ids.now.rows c.args.conjuncts c.args.self.now.conjuncts place conjunct within is out)
    ∙ c.loop-place.invariant

pub loop-place-preserved : goal.loop-place-preserved
loop-place-preserved c =
    let place = c.loop-place.place in
    let conjunct : ConjunctDef = c.conjunct-item.result in
    let is : conjunct ≡ get_or c.args.self.now.conjuncts place conjunct = rw (c.deref-conjunct-items.ensures.value, c.items.ensures) at c.conjunct-item.is in
    let within : place < length c.args.self.now.conjuncts = rw (c.deref-conjunct-items.ensures.value, c.items.ensures) at c.loop-place-test.true in
    let in_ : eqb (c.args.conjuncts / 2 ^ place % 2) 1 ≡ true = eq-eqb (c.args.conjuncts / 2 ^ place % 2) 1 (omega arith) in
    sym (hold_from-more c.args.catalog.now c.args.self.now c.args.ids.now.rows c.args.conjuncts c.args.self.now.conjuncts place conjunct within is in_
    (sym c.conjunct_holds.ensures ∙ c.if-not-conjunct_holds.false))
    ∙ c.loop-place.invariant
