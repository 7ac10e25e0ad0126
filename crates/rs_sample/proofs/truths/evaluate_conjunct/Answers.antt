-- One conjunct is looked at, for each choice.
use Rattle.std.proofs.Common.{◌≡◌, ◌∙◌, ◌<◌, ◌^◌, ◌++◌, [], ◌∷◌, Some, get_or, length, map, take, refl, sym, ap, subst, arith}
use Rattle.std.specs.Prelude.{slice_get}
use Rattle.std.proofs.lemmas.List.{take_all}
use Rattle.std.proofs.lemmas.Option.{slice_get_read}
use Rattle.rs_query.specs.Conjuncts.{ConjunctDef}
use Rattle.rs_query.specs.Meaning.{AreInside, all_hold, conjunct_holds}
use Rattle.rs_query.specs.Tables.{HasRows}
use Rattle.rs_sample.proofs.ListFacts.{each-at, get_or-other, map-with}
use Rattle.rs_sample.proofs.TruthFacts.{one-holds, one-inside}
use Rattle.rs_sample.proofs.truths.evaluate_conjunct.Goals as goal

pub one_conjunct-only-requires : goal.one_conjunct-only-requires
one_conjunct-only-requires c =
    let within = c.requires.place in
    let most = c.requires.block.most_conjuncts in
    omega arith

pub holds-requires-clause-inside : goal.holds-requires-clause-inside
holds-requires-clause-inside c =
    let conjuncts = c.args.block.now.conjuncts in
    let conjunct : ConjunctDef = c.index.result.now in
    let within : c.args.place < length conjuncts = c.requires.place in
    let is : conjunct ≡ get_or conjuncts c.args.place conjunct = c.index.ensures ∙ ap (λ cs. get_or cs c.args.place conjunct) c.items.ensures in
    let at : slice_get conjuncts c.args.place ≡ Some conjunct = slice_get_read conjuncts (length conjuncts) c.args.place conjunct refl within is in
    subst (λ n. AreInside n c.entries-mask.result conjuncts) (sym c.one_conjunct-only.ensures)
    (subst (λ m. AreInside (2 ^ c.args.place) m conjuncts) (sym c.entries-mask.ensures) (one-inside conjuncts c.args.place conjunct at))

pub holds-requires-clause-rows : goal.holds-requires-clause-rows
holds-requires-clause-rows c =
    let conjuncts = c.args.block.now.conjuncts in
    let conjunct : ConjunctDef = c.index.result.now in
    let within : c.args.place < length conjuncts = c.requires.place in
    let is : conjunct ≡ get_or conjuncts c.args.place conjunct = c.index.ensures ∙ ap (λ cs. get_or cs c.args.place conjunct) c.items.ensures in
    let at : slice_get conjuncts c.args.place ≡ Some conjunct = slice_get_read conjuncts (length conjuncts) c.args.place conjunct refl within is in
    let choices = c.args.choices.now in
    let i = c.loop-rows.rows-index in
    let rows = get_or choices i [] in
    subst (λ m. HasRows c.args.catalog.now c.args.block.now m rows) (sym c.entries-mask.ensures)
    (each-at (HasRows c.args.catalog.now c.args.block.now conjunct.entries) choices i rows (c.requires.rows conjunct at) c.loop-rows-test.true
    (get_or-other choices i [] c.loop-rows-test.true))

pub loop-rows-preserved : goal.loop-rows-preserved
loop-rows-preserved c = λ conjunct at.
    let choices = c.args.choices.now in
    let i = c.loop-rows.rows-index in
    let rows = get_or choices i [] in
    let holds = conjunct_holds c.args.catalog.now c.args.block.now rows conjunct in
    let one : c.holds.result ≡ holds =
    c.holds.ensures
    ∙ ap (λ n. all_hold c.args.catalog.now c.args.block.now n rows c.args.block.now.conjuncts) c.one_conjunct-only.ensures
    ∙ one-holds c.args.catalog.now c.args.block.now rows c.args.block.now.conjuncts c.args.place conjunct at in
    c.in_ok-push.ensures.items ∙ ap (λ ts. ts ++ c.holds.result ∷ []) (c.loop-rows.invariant conjunct at)
    ∙ ap (λ b. map (λ rs. conjunct_holds c.args.catalog.now c.args.block.now rs conjunct) (take i choices) ++ b ∷ []) one
    ∙ sym (map-with (λ rs. conjunct_holds c.args.catalog.now c.args.block.now rs conjunct) choices i rows c.loop-rows-test.true (get_or-other choices i [] c.loop-rows-test.true))

pub returns : goal.returns
returns c = λ conjunct at.
    c.loop-rows.invariant conjunct at
    ∙ ap (map (λ rs. conjunct_holds c.args.catalog.now c.args.block.now rs conjunct)) (take_all c.loop-rows.rows-index c.args.choices.now c.loop-rows-test.false)
