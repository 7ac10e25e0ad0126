use Rattle.std.proofs.Common.{◌∙◌, ◌≤◌, [], get_or, length, sym, subst, arith}
use Rattle.rs_order.proofs.EachFacts.{each-get_or}
use Rattle.rs_sample.specs.Finding.{places_in}
use Rattle.rs_sample.proofs.PlaceFacts.{length-places, place-few, places-at}
use Rattle.rs_sample.proofs.SixFacts.{each-number, same-numbers}
use Rattle.rs_sample.proofs.lookup.places_of.Goals as goal

pub returns-clause-value : goal.returns-clause-value
returns-clause-value c =
    let samples = c.args.samples.now in
    let rows = c.args.rows.now in
    let count = c.loop-place.invariant.count in
    let six = c.requires.six in
    let six_rows = c.told-rows in
    let all = c.loop-place-test.false in
    same-numbers c.loop-place.places (places_in samples rows) (count ∙ sym (length-places samples rows (six ∙ sym six_rows) ∙ six))
    (λ k within. c.loop-place.invariant.are k (omega arith) ∙ sym (places-at samples rows k (omega arith) (omega arith)))

pub returns-clause-few : goal.returns-clause-few
returns-clause-few c =
    let samples = c.args.samples.now in
    let count = c.loop-place.invariant.count in
    let six = c.requires.six in
    let all = c.loop-place-test.false in
    each-number 256 c.loop-place.places
    (λ k within. subst (λ n. n ≤ 256) (sym (c.loop-place.invariant.are k (omega arith)))
    (place-few (get_or c.args.rows.now k 0) 256 (get_or samples k []) (each-get_or (λ sample. length sample ≤ 256) samples k [] c.requires.few (omega arith))))
