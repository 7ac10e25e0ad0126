use Rattle.std.proofs.Common.{◌≡◌, ◌∙◌, ◌<◌, length, get_or, set, sym, ap, arith}
use Rattle.std.proofs.lemmas.List.{length-map}
use Rattle.rs_query.specs.Tops.{top_of, tops_of}
use Rattle.rs_query.specs.declared.term.Term.{Term}
use Rattle.rs_bind.proofs.TopFacts.{padded-more, top-at}
use Rattle.rs_bind.proofs.tops.tops_of.Goals as goal

pub loop-place-preserved : goal.loop-place-preserved
loop-place-preserved c =
    let catalogue = c.args.catalog.now in
    let block = c.args.block.now in
    let place = c.loop-place.place in
    let term : Term = c.index.result.now in
    let is : term ≡ get_or block.terms place term = c.index.ensures ∙ ap (λ ts. get_or ts place term) c.items.ensures in
    let len = c.len-place-end.ensures in
    let test = c.loop-place-test.true in
    let within : place < length block.terms = omega arith in
    let few = c.requires.most_terms in
    let count : length (tops_of catalogue block) ≡ length block.terms = length-map block.terms (top_of catalogue block) in
    let value = c.top_of.ensures in
    ap (λ ts. set ts place c.top_of.result) c.loop-place.invariant
    ∙ padded-more 8 (tops_of catalogue block) place c.top_of.result (omega arith) (omega arith)
    (value ∙ top-at (top_of catalogue block) block.terms place term within is ∙ ap (λ d. get_or (tops_of catalogue block) place d) (sym value))
