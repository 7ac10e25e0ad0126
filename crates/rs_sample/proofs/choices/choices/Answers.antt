use Rattle.std.proofs.Common.{suc, ◌≡◌, ◌∙◌, ◌+◌, ◌-◌, ◌<◌, ◌/◌, ◌%◌, ◌^◌, [], length, map, set, get_or, ap, arith}
use Rattle.std.specs.List.{flat_map}
use Rattle.rs_sample.proofs.ChoiceFacts.{choices_from, choices_from-each, choices_from-first, choices_from-none}
use Rattle.rs_sample.proofs.ListFacts.{get_or-other}
use Rattle.rs_sample.proofs.choices.choices.Goals as goal

pub loop-behind-preserved-then-mask-place-eq0 : goal.loop-behind-preserved-then-mask-place-eq0
loop-behind-preserved-then-mask-place-eq0 c =
    let samples = c.args.samples.now in
    let place = 5 - c.loop-behind.behind in
    let less = c.loop-behind-test.true in
    let six = c.requires in
    let within : place < length samples = omega arith in
    let so_far = c.loop-behind.invariant ∙ ap (choices_from c.args.mask samples) (let same : 6 - c.loop-behind.behind ≡ suc place = omega arith in same) in
    choices_from-none c.args.mask samples place (get_or samples place []) c.loop-behind.choices.items within (get_or-other samples place [] within) c.if-mask-place-eq0.true so_far
    ∙ ap (choices_from c.args.mask samples) (let same : place ≡ 6 - (c.loop-behind.behind + 1) = omega arith in same)

pub loop-behind-preserved : goal.loop-behind-preserved
loop-behind-preserved c =
    let samples = c.args.samples.now in
    let place = 5 - c.loop-behind.behind in
    let less = c.loop-behind-test.true in
    let six = c.requires in
    let within : place < length samples = omega arith in
    let some = c.if-mask-place-eq0.false in
    let bit : c.args.mask / 2 ^ place % 2 ≡ 1 = omega arith in
    let so_far = c.loop-behind.invariant ∙ ap (choices_from c.args.mask samples) (let same : 6 - c.loop-behind.behind ≡ suc place = omega arith in same) in
    c.in_ok-choices-2.ensures
    ∙ ap (λ cs. flat_map (λ row. map (λ rows. set rows place row) cs) c.deref-in-loop-behind.result.now) c.deref.ensures.value
    ∙ ap (λ sample. flat_map (λ row. map (λ rows. set rows place row) c.loop-behind.choices.items) sample) (c.deref-in-loop-behind.ensures.value ∙ c.items.ensures)
    ∙ choices_from-each c.args.mask samples place c.index-samples-place.result c.loop-behind.choices.items within c.index-samples-place.is bit so_far
    ∙ ap (choices_from c.args.mask samples) (let same : place ≡ 6 - (c.loop-behind.behind + 1) = omega arith in same)

pub returns : goal.returns
returns c =
    let all = c.loop-behind-test.false in
    c.loop-behind.invariant ∙ ap (choices_from c.args.mask c.args.samples.now) (let none : 6 - c.loop-behind.behind ≡ 0 = omega arith in none)
    ∙ choices_from-first c.args.mask c.args.samples.now
