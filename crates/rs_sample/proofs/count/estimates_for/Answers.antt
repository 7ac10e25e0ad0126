use Rattle.std.proofs.Common.{◌∙◌, ◌*◌, ◌<◌, ◌≤◌, [], ◌∷◌, ◌++◌, get_or, length, map, take, sym, ap, subst, arith}
use Rattle.std.specs.Int.{div_ceil}
use Rattle.std.specs.List.{AllByRecursion, filter}
use Rattle.std.proofs.lemmas.List.{get_or-map, length-map, take_all}
use Rattle.rs_order.specs.Climbing.{In}
use Rattle.rs_order.proofs.ClimbingFacts.{AllByRecursion-from_In}
use Rattle.rs_order.proofs.EachFacts.{each-push, each-weaker}
use Rattle.rs_order.proofs.ItemFacts.{In-filter-back}
use Rattle.rs_query.specs.Combinations.{satisfies}
use Rattle.rs_query.specs.WellFormed.{IsTerm}
use Rattle.rs_query.specs.declared.term.Term.{Term}
use Rattle.rs_sample.specs.Choosing.{sampled_choices}
use Rattle.rs_sample.specs.Finding.{known_reaches}
use Rattle.rs_sample.specs.Quotients.{most_expected, product_inside}
use Rattle.rs_sample.proofs.FewFacts.{mask-small, product-small, sampled-wide, samples-small}
use Rattle.rs_sample.proofs.GridFacts.{each-within}
use Rattle.rs_sample.proofs.ListFacts.{get_or-other, map-with}
use Rattle.rs_sample.proofs.MemberFacts.{length-choices}
use Rattle.rs_sample.proofs.count.estimates_for.Goals as goal

pub combinations-requires-clause-few : goal.combinations-requires-clause-few
combinations-requires-clause-few c =
    samples-small (length c.args.block.now.from) c.args.sizes.now c.args.samples.now c.requires.block.1.some_entries c.requires.block.1.most_entries c.requires.samples

pub combinations-requires-clause-mask : goal.combinations-requires-clause-mask
combinations-requires-clause-mask c = mask-small (length c.args.block.now.from) c.args.mask c.requires.block.1.most_entries c.requires.mask

pub count_each-requires-clause-few : goal.count_each-requires-clause-few
count_each-requires-clause-few c =
    let samples = c.args.samples.now in
    let rows = ap length c.deref.ensures.value in
    let few = c.in_ok-rows.ensures.few in
    let count = length-choices c.args.mask samples in
    let small = product-small (length c.args.block.now.from) c.args.sizes.now samples c.requires.block.1.some_entries c.requires.block.1.most_entries c.requires.samples c.args.mask c.requires.mask in
    omega arith

pub count_each-requires-clause-limits : goal.count_each-requires-clause-limits
count_each-requires-clause-limits c =
    each-weaker (IsTerm c.requires.block.0 c.args.block.now) (λ (t : Term). t.weight ≤ 1000000) (λ t is. is.most_weight) c.args.block.now.terms c.requires.block.1.terms

pub count_each-requires-clause-few_rows : goal.count_each-requires-clause-few_rows
count_each-requires-clause-few_rows c =
    samples-small (length c.args.block.now.from) c.args.sizes.now c.args.samples.now c.requires.block.1.some_entries c.requires.block.1.most_entries c.requires.samples

pub expected_count-requires-clause-sampled : goal.expected_count-requires-clause-sampled
expected_count-requires-clause-sampled c =
    subst (AllByRecursion (λ size. size ≤ 131072)) (sym c.requires.sampled)
    (sampled-wide (length c.args.block.now.from) c.args.sizes.now c.args.samples.now c.requires.block.1.some_entries c.requires.block.1.most_entries c.requires.samples)

pub expected_count-requires-clause-few : goal.expected_count-requires-clause-few
expected_count-requires-clause-few c =
    let samples = c.args.samples.now in
    let i = c.loop-count.count-index in
    let rows = ap length c.deref.ensures.value in
    let few = c.in_ok-rows.ensures.few in
    let count = length-choices c.args.mask samples in
    let here = each-within (length c.deref.result.now) c.in_ok-counts.counts.items i c.in_ok-counts.ensures.limit in
    let at = ap (λ cs. get_or cs i 0) c.deref-count-items.ensures.value in
    let sampled = ap (product_inside c.args.mask) c.requires.sampled in
    omega arith

pub expected_count-requires-clause-counted : goal.expected_count-requires-clause-counted
expected_count-requires-clause-counted c =
    let samples = c.args.samples.now in
    let i = c.loop-count.count-index in
    let rows = ap length c.deref.ensures.value in
    let few = c.in_ok-rows.ensures.few in
    let count = length-choices c.args.mask samples in
    let small = product-small (length c.args.block.now.from) c.args.sizes.now samples c.requires.block.1.some_entries c.requires.block.1.most_entries c.requires.samples c.args.mask c.requires.mask in
    let here = each-within (length c.deref.result.now) c.in_ok-counts.counts.items i c.in_ok-counts.ensures.limit in
    let at = ap (λ cs. get_or cs i 0) c.deref-count-items.ensures.value in
    omega arith

pub loop-count-preserved : goal.loop-count-preserved
loop-count-preserved c =
    let counts = c.deref-count-items.result.now in
    let i = c.loop-count.count-index in
    let count = get_or counts i 0 in
    let within : i < length counts = c.loop-count-test.true in
    record {
      value = c.in_ok-push.ensures.items ∙ ap (λ ns. ns ++ c.expected_count.result ∷ []) c.loop-count.invariant.value
          ∙ ap (λ n. map (λ k. div_ceil (k * product_inside c.args.mask c.args.sizes.now) (product_inside c.args.mask c.args.sampled.now)) (take i counts) ++ n ∷ []) c.expected_count.ensures.value
          ∙ sym (map-with (λ k. div_ceil (k * product_inside c.args.mask c.args.sizes.now) (product_inside c.args.mask c.args.sampled.now)) counts i count within (get_or-other counts i 0 within));
      limit = subst (AllByRecursion (λ n. n ≤ most_expected c.args.mask)) (sym c.in_ok-push.ensures.items)
          (each-push (λ n. n ≤ most_expected c.args.mask) c.loop-count.numbers.items c.expected_count.result c.loop-count.invariant.limit c.expected_count.ensures.limit);
    }

pub returns-clause-length : goal.returns-clause-length
returns-clause-length c =
    let all = take_all c.loop-count.count-index c.deref-count-items.result.now c.loop-count-test.false in
    ap length (c.of.ensures ∙ c.loop-count.invariant.value)
    ∙ length-map (take c.loop-count.count-index c.deref-count-items.result.now) (λ k. div_ceil (k * product_inside c.args.mask c.args.sizes.now) (product_inside c.args.mask c.args.sampled.now))
    ∙ ap length (all ∙ c.deref-count-items.ensures.value) ∙ c.in_ok-counts.ensures.length

pub returns-clause-limit : goal.returns-clause-limit
returns-clause-limit c = subst (AllByRecursion (λ n. n ≤ most_expected c.args.mask)) (sym c.of.ensures) c.loop-count.invariant.limit

pub returns-clause-value : goal.returns-clause-value
returns-clause-value c = λ answer catalogue formed truths are k less.
    let samples = c.args.samples.now in
    let counts = c.in_ok-counts.counts.items in
    let combos = c.deref.ensures.value ∙ c.in_ok-rows.ensures.value catalogue formed truths in
    let long = c.in_ok-counts.ensures.length in
    let within : k < length counts = omega arith in
    let each = subst (AllByRecursion (λ rows. In rows (sampled_choices c.args.mask samples))) (sym combos)
    (AllByRecursion-from_In (λ rows. In rows (sampled_choices c.args.mask samples)) (filter (satisfies catalogue c.args.block.now c.args.mask) (sampled_choices c.args.mask samples))
    (λ rows h. (In-filter-back (satisfies catalogue c.args.block.now c.args.mask) rows (sampled_choices c.args.mask samples) h).0)) in
    ap (λ ns. get_or ns k 0) (c.of.ensures ∙ c.loop-count.invariant.value
    ∙ ap (map (λ n. div_ceil (n * product_inside c.args.mask c.args.sizes.now) (product_inside c.args.mask c.args.sampled.now)))
    (take_all c.loop-count.count-index c.deref-count-items.result.now c.loop-count-test.false ∙ c.deref-count-items.ensures.value))
    ∙ get_or-map (λ n. div_ceil (n * product_inside c.args.mask c.args.sizes.now) (product_inside c.args.mask c.args.sampled.now)) counts k 0 0 within
    ∙ ap (λ n. div_ceil (n * product_inside c.args.mask c.args.sizes.now) (product_inside c.args.mask c.args.sampled.now))
    (c.in_ok-counts.ensures.value answer catalogue formed are each k less
    ∙ ap (λ all. length (filter (known_reaches answer catalogue c.args.block.now c.args.cutoff c.args.mask k) all)) combos)
    ∙ ap (λ all. div_ceil (length (filter (known_reaches answer catalogue c.args.block.now c.args.cutoff c.args.mask k)
    (filter (satisfies catalogue c.args.block.now c.args.mask) (sampled_choices c.args.mask samples))) * product_inside c.args.mask c.args.sizes.now) (product_inside c.args.mask all)) c.requires.sampled
