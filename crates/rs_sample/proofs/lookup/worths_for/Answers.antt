use Rattle.std.proofs.Common.{◌≡◌, ◌∙◌, ◌<◌, ◌≤◌, cond, get_or, length, map, set, refl, sym, ap, ap₂, subst, arith}
use Rattle.std.specs.List.{AllByRecursion}
use Rattle.std.proofs.lemmas.List.{take_all}
use Rattle.std.proofs.lemmas.Option.{slice_get_read}
use Rattle.rs_order.proofs.EachFacts.{each-map}
use Rattle.rs_query.specs.Answers.{padded}
use Rattle.rs_query.specs.Meaning.{is_inside}
use Rattle.rs_query.specs.WellFormed.{IsTerm}
use Rattle.rs_query.specs.declared.term.Term.{Term}
use Rattle.rs_query.proofs.WeightFacts.{padded-more}
use Rattle.rs_sample.specs.Finding.{choice_place, known_worth}
use Rattle.rs_sample.proofs.FindFacts.{found-known}
use Rattle.rs_sample.proofs.ListFacts.{each-at}
use Rattle.rs_sample.proofs.lookup.worths_for.Goals as goal

pub worth_if_inside-requires-clause-sampled : goal.worth_if_inside-requires-clause-sampled
worth_if_inside-requires-clause-sampled c =
    subst (AllByRecursion (λ size. size ≤ 256)) (sym c.requires.sampled) (each-map (λ size. size ≤ 256) length c.args.samples.now c.requires.few)

pub loop-place-preserved : goal.loop-place-preserved
loop-place-preserved c = λ answer catalogue formed are h.
    let block = c.args.block.now in
    let samples = c.args.samples.now in
    let terms = block.terms in
    let worths = c.args.worths.now in
    let place = c.loop-place.place in
    let term : Term = c.term-item.result in
    let items : c.deref-term-items.result.now ≡ terms = c.deref-term-items.ensures.value ∙ c.items.ensures in
    let within : place < length terms = subst (λ ts. place < length ts) items c.loop-place-test.true in
    let is : term ≡ get_or terms place term = subst (λ ts. term ≡ get_or ts place term) items c.term-item.is in
    let count = c.requires.worths in
    let there : place < length worths = omega arith in
    let known = known_worth answer catalogue block c.args.mask c.args.rows.now in
    let found : c.worth_if_inside.result ≡ known term =
    c.worth_if_inside.ensures
    ∙ ap (λ ws. cond (is_inside term.entries c.args.mask) (get_or ws (choice_place term.entries c.args.sampled.now c.places_of-places.result) 0) 0) (c.deref.ensures.value ∙ c.items-in-loop-place.ensures)
    ∙ ap₂ (λ ss ps. cond (is_inside term.entries c.args.mask) (get_or c.index-worths-place.result (choice_place term.entries ss ps) 0) 0) c.requires.sampled c.places_of-places.ensures.value
    ∙ found-known answer catalogue block samples worths c.args.mask place c.args.rows.now c.index-worths-place.result term
    (each-at (IsTerm catalogue block) terms place term formed.terms within is) are
    (slice_get_read worths _ place c.index-worths-place.result refl there c.index-worths-place.is)
    (slice_get_read terms _ place term refl within is) h in
    ap (set c.loop-place.known place) found
    ∙ padded-more known terms place term c.loop-place.known within c.requires.terms is (c.loop-place.invariant answer catalogue formed are h)

pub returns : goal.returns
returns c = λ answer catalogue formed are h.
    let terms = c.args.block.now.terms in
    let items : c.deref-term-items.result.now ≡ terms = c.deref-term-items.ensures.value ∙ c.items.ensures in
    let all : length terms ≤ c.loop-place.place = subst (λ ts. length ts ≤ c.loop-place.place) items c.loop-place-test.false in
    c.loop-place.invariant answer catalogue formed are h
    ∙ ap (λ ts. padded 8 (map (known_worth answer catalogue c.args.block.now c.args.mask c.args.rows.now) ts)) (take_all c.loop-place.place terms all)
