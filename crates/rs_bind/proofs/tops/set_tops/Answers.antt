use Rattle.std.proofs.Common.{◌≡◌, ◌∙◌, ◌<◌, max, length, get_or, set, sym, ap, ap₂, arith}
use Rattle.std.proofs.lemmas.List.{take_all}
use Rattle.rs_query.specs.Answers.{padded}
use Rattle.rs_query.specs.Tops.{set_tops, top_of}
use Rattle.rs_query.specs.declared.term.Term.{Term}
use Rattle.rs_bind.proofs.TopFacts.{greater-at, length-greater_of, padded-more}
use Rattle.rs_bind.proofs.tops.set_tops.Goals as goal

pub loop-place-preserved : goal.loop-place-preserved
loop-place-preserved c =
    let catalogue = c.args.catalog.now in
    let left = c.args.left.now in
    let right = c.args.right.now in
    let place = c.loop-place.place in
    let own : Term = c.index.result.now in
    let other : Term = c.index-in-loop-place.result.now in
    let own_is : own ≡ get_or left.terms place own = c.index.ensures ∙ ap (λ ts. get_or ts place own) c.items.ensures in
    let other_is : other ≡ get_or right.terms place other = c.index-in-loop-place.ensures ∙ ap (λ ts. get_or ts place other) c.items-in-loop-place.ensures in
    let len = c.len-place-end.ensures in
    let test = c.loop-place-test.true in
    let same = c.requires.same in
    let within : place < length left.terms = omega arith in
    let inside : place < length right.terms = omega arith in
    let few = c.requires.left.most_terms in
    let count : length (set_tops catalogue left right) ≡ length left.terms = length-greater_of (top_of catalogue left) (top_of catalogue right) left.terms right.terms same in
    let value : c.greater.result ≡ max (top_of catalogue left own) (top_of catalogue right other) = c.greater.ensures ∙ ap₂ max c.top_of-own.ensures c.top_of-other.ensures in
    ap (λ ts. set ts place c.greater.result) c.loop-place.invariant
    ∙ padded-more 8 (set_tops catalogue left right) place c.greater.result (omega arith) (omega arith)
    (value ∙ greater-at (top_of catalogue left) (top_of catalogue right) left.terms right.terms place own other within inside own_is other_is
    ∙ ap (λ d. get_or (set_tops catalogue left right) place d) (sym value))

pub returns : goal.returns
returns c =
    let catalogue = c.args.catalog.now in
    let left = c.args.left.now in
    let right = c.args.right.now in
    let count : length (set_tops catalogue left right) ≡ length left.terms = length-greater_of (top_of catalogue left) (top_of catalogue right) left.terms right.terms c.requires.same in
    let len = c.len-place-end.ensures in
    let test = c.loop-place-test.false in
    c.loop-place.invariant ∙ ap (padded 8) (take_all c.loop-place.place (set_tops catalogue left right) (omega arith))
