-- Each conjunct is looked at, for the choices of its own entries.
use Rattle.std.proofs.Common.{◌≡◌, ◌∙◌, ◌<◌, ◌++◌, [], ◌∷◌, Some, get_or, length, map, take, refl, sym, ap, subst}
use Rattle.std.specs.List.{AllByRecursion}
use Rattle.std.specs.Prelude.{slice_get}
use Rattle.std.proofs.lemmas.Option.{slice_get_read}
use Rattle.rs_query.specs.Conjuncts.{ConjunctDef}
use Rattle.rs_query.specs.Meaning.{conjunct_holds}
use Rattle.rs_query.specs.Tables.{HasRows}
use Rattle.rs_sample.specs.Choosing.{sampled_choices}
use Rattle.rs_sample.proofs.ListFacts.{map-with}
use Rattle.rs_sample.proofs.MemberFacts.{HasRows-sampled}
use Rattle.rs_sample.proofs.truths.evaluate_conjuncts.Goals as goal

pub evaluate_conjunct-requires-clause-rows : goal.evaluate_conjunct-requires-clause-rows
evaluate_conjunct-requires-clause-rows c = λ other at.
    let conjuncts = c.args.block.now.conjuncts in
    let place = c.loop-place.place in
    let conjunct : ConjunctDef = c.conjunct-item.result in
    let items : c.deref-conjunct-items.result.now ≡ conjuncts = c.deref-conjunct-items.ensures.value ∙ c.items.ensures in
    let within : place < length conjuncts = subst (λ cs. place < length cs) items c.loop-place-test.true in
    let is : conjunct ≡ get_or conjuncts place conjunct = subst (λ cs. conjunct ≡ get_or cs place conjunct) items c.conjunct-item.is in
    let here : slice_get conjuncts place ≡ Some conjunct = slice_get_read conjuncts _ place conjunct refl within is in
    let choices : c.deref.result.now ≡ sampled_choices conjunct.entries c.args.samples.now =
    c.deref.ensures.value ∙ c.in_ok-choices.ensures ∙ ap (λ m. sampled_choices m c.args.samples.now) c.entries.ensures in
    let both : Some conjunct ≡ Some other = sym here ∙ at in
    let same : conjunct ≡ other = cc in
    subst (λ (d : ConjunctDef). AllByRecursion (HasRows c.args.catalog.now c.args.block.now d.entries) c.deref.result.now) same
    (subst (AllByRecursion (HasRows c.args.catalog.now c.args.block.now conjunct.entries)) (sym choices)
    (HasRows-sampled c.args.catalog.now c.args.block.now c.args.samples.now conjunct.entries c.requires.block.most_entries c.requires.samples))

pub loop-place-preserved : goal.loop-place-preserved
loop-place-preserved c =
    let conjuncts = c.args.block.now.conjuncts in
    let place = c.loop-place.place in
    let conjunct : ConjunctDef = c.conjunct-item.result in
    let items : c.deref-conjunct-items.result.now ≡ conjuncts = c.deref-conjunct-items.ensures.value ∙ c.items.ensures in
    let within : place < length conjuncts = subst (λ cs. place < length cs) items c.loop-place-test.true in
    let is : conjunct ≡ get_or conjuncts place conjunct = subst (λ cs. conjunct ≡ get_or cs place conjunct) items c.conjunct-item.is in
    let here : slice_get conjuncts place ≡ Some conjunct = slice_get_read conjuncts _ place conjunct refl within is in
    let choices : c.deref.result.now ≡ sampled_choices conjunct.entries c.args.samples.now =
    c.deref.ensures.value ∙ c.in_ok-choices.ensures ∙ ap (λ m. sampled_choices m c.args.samples.now) c.entries.ensures in
    let truths = λ (d : ConjunctDef). map (λ rows. conjunct_holds c.args.catalog.now c.args.block.now rows d) (sampled_choices d.entries c.args.samples.now) in
    c.in_ok-push.ensures.items ∙ ap (λ ts. ts ++ c.of.result ∷ []) c.loop-place.invariant
    ∙ ap (λ t. map truths (take place conjuncts) ++ t ∷ [])
    (c.of.ensures ∙ c.in_ok-held.ensures conjunct here ∙ ap (map (λ rows. conjunct_holds c.args.catalog.now c.args.block.now rows conjunct)) choices)
    ∙ sym (map-with truths conjuncts place conjunct within is)
