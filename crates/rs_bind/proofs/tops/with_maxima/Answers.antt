use Rattle.std.proofs.Common.{◌≡◌, ◌∙◌, ◌<◌, length, get_or, set, ap, arith}
use Rattle.rs_query.specs.declared.term.Term.{Term}
use Rattle.rs_bind.proofs.TopFacts.{with_maxima-more}
use Rattle.rs_bind.proofs.tops.with_maxima.Goals as goal

pub loop-place-preserved : goal.loop-place-preserved
loop-place-preserved c =
    let place = c.loop-place.place in
    let maxima = c.args.maxima.now in
    let term : Term = c.index_mut.result.now in
    let kept = c.loop-place.invariant in
    let count : length c.into_items-bounded.result.items ≡ length c.args.terms = ap (λ ts. length ts) c.into_items-bounded.ensures in
    let len = c.len-place-end.ensures in
    let test = c.loop-place-test.true in
    let few = c.requires in
    let eight = c.told-maxima in
    let within : place < length c.args.terms = omega arith in
    let room : place < length maxima = omega arith in
    ap (λ ts. set ts place (record term { max = get_or maxima place 0 })) kept
    ∙ with_maxima-more maxima c.args.terms place term within room (c.index_mut.ensures.value ∙ ap (λ ts. get_or ts place term) kept)
