-- Each conjunct holds as its truth says.
use Rattle.std.proofs.Common.{◌≡◌, ◌∙◌, ◌<◌, ◌≤◌, cond, false, true, get_or, length, refl, sym, ap, subst, arith}
use Rattle.std.specs.List.{AllByRecursion, list_all}
use Rattle.std.proofs.lemmas.List.{take_all}
use Rattle.std.proofs.lemmas.Option.{slice_get_read}
use Rattle.rs_order.proofs.EachFacts.{each-map}
use Rattle.rs_query.specs.Combinations.{holds_inside}
use Rattle.rs_query.specs.Conjuncts.{ConjunctDef}
use Rattle.rs_query.specs.Meaning.{is_inside}
use Rattle.rs_query.specs.WellFormed.{IsConjunct}
use Rattle.rs_sample.specs.Finding.{choice_place}
use Rattle.rs_sample.proofs.ListFacts.{each-at}
use Rattle.rs_sample.proofs.TruthFacts.{found-truth, list_all-fails, list_all-more}
use Rattle.rs_sample.proofs.combinations.satisfies.Goals as goal

pub holds_if_inside-requires-clause-sampled : goal.holds_if_inside-requires-clause-sampled
holds_if_inside-requires-clause-sampled c =
    subst (AllByRecursion (λ size. size ≤ 256)) (sym c.requires.sampled) (each-map (λ size. size ≤ 256) length c.args.samples.now c.requires.few)

pub loop-place-preserved : goal.loop-place-preserved
loop-place-preserved c = λ catalogue formed are h.
    let block = c.args.block.now in
    let samples = c.args.samples.now in
    let conjuncts = block.conjuncts in
    let truths = c.args.truths.now in
    let place = c.loop-place.place in
    let conjunct : ConjunctDef = c.conjunct-item.result in
    let items : c.deref-conjunct-items.result.now ≡ conjuncts = c.deref-conjunct-items.ensures.value ∙ c.items.ensures in
    let within : place < length conjuncts = subst (λ cs. place < length cs) items c.loop-place-test.true in
    let is : conjunct ≡ get_or conjuncts place conjunct = subst (λ cs. conjunct ≡ get_or cs place conjunct) items c.conjunct-item.is in
    let count = c.requires.truths in
    let there : place < length truths = omega arith in
    let found : c.holds_if_inside.result ≡ holds_inside catalogue block c.args.mask c.args.rows.now conjunct =
    c.holds_if_inside.ensures
    ∙ (λ i. cond (is_inside (c.entries.ensures i) c.args.mask) (get_or ((c.deref.ensures.value ∙ c.items-truths.ensures) i)
    (choice_place (c.entries.ensures i) (c.requires.sampled i) (c.places_of-places.ensures.value i)) false) true)
    ∙ found-truth catalogue block samples truths c.args.mask place c.args.rows.now c.index-truths-place.result conjunct
    (each-at (IsConjunct catalogue block) conjuncts place conjunct formed.conjuncts within is) are
    (slice_get_read truths _ place c.index-truths-place.result refl there c.index-truths-place.is)
    (slice_get_read conjuncts _ place conjunct refl within is) h in
    list_all-more (holds_inside catalogue block c.args.mask c.args.rows.now) conjuncts place conjunct within is (c.loop-place.invariant catalogue formed are h)
    (sym found ∙ c.if-not-holds_if_inside.false)

pub returns-then-not-holds_if_inside : goal.returns-then-not-holds_if_inside
returns-then-not-holds_if_inside c = λ catalogue formed are h.
    let block = c.args.block.now in
    let samples = c.args.samples.now in
    let conjuncts = block.conjuncts in
    let truths = c.args.truths.now in
    let place = c.loop-place.place in
    let conjunct : ConjunctDef = c.conjunct-item.result in
    let items : c.deref-conjunct-items.result.now ≡ conjuncts = c.deref-conjunct-items.ensures.value ∙ c.items.ensures in
    let within : place < length conjuncts = subst (λ cs. place < length cs) items c.loop-place-test.true in
    let is : conjunct ≡ get_or conjuncts place conjunct = subst (λ cs. conjunct ≡ get_or cs place conjunct) items c.conjunct-item.is in
    let count = c.requires.truths in
    let there : place < length truths = omega arith in
    let found : c.holds_if_inside.result ≡ holds_inside catalogue block c.args.mask c.args.rows.now conjunct =
    c.holds_if_inside.ensures
    ∙ (λ i. cond (is_inside (c.entries.ensures i) c.args.mask) (get_or ((c.deref.ensures.value ∙ c.items-truths.ensures) i)
    (choice_place (c.entries.ensures i) (c.requires.sampled i) (c.places_of-places.ensures.value i)) false) true)
    ∙ found-truth catalogue block samples truths c.args.mask place c.args.rows.now c.index-truths-place.result conjunct
    (each-at (IsConjunct catalogue block) conjuncts place conjunct formed.conjuncts within is) are
    (slice_get_read truths _ place c.index-truths-place.result refl there c.index-truths-place.is)
    (slice_get_read conjuncts _ place conjunct refl within is) h in
    sym (list_all-fails (holds_inside catalogue block c.args.mask c.args.rows.now) conjuncts place conjunct within is (sym found ∙ c.if-not-holds_if_inside.true))

pub returns : goal.returns
returns c = λ catalogue formed are h.
    let conjuncts = c.args.block.now.conjuncts in
    let items : c.deref-conjunct-items.result.now ≡ conjuncts = c.deref-conjunct-items.ensures.value ∙ c.items.ensures in
    let all : length conjuncts ≤ c.loop-place.place = subst (λ cs. length cs ≤ c.loop-place.place) items c.loop-place-test.false in
    sym (c.loop-place.invariant catalogue formed are h)
    ∙ ap (list_all (holds_inside catalogue c.args.block.now c.args.mask c.args.rows.now)) (take_all c.loop-place.place conjuncts all)
