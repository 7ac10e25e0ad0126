use Rattle.std.proofs.Common.{ℕ, ◌≡◌, ◌∙◌, ◌<◌, ◌≤◌, ◌^◌, List, [], get_or, length, map, sym, ap, subst, arith}
use Rattle.std.specs.List.{AllByRecursion}
use Rattle.std.proofs.lemmas.List.{length-map}
use Rattle.rs_order.proofs.EachFacts.{each-slice_get}
use Rattle.rs_query.specs.declared.term.Term.{Term}
use Rattle.rs_sample.specs.Quotients.{most_expected, product_inside}
use Rattle.rs_sample.specs.Samples.{most_sampled}
use Rattle.rs_sample.proofs.DrawFacts.{length-samples}
use Rattle.rs_sample.proofs.FewFacts.{each-few, each-less, most-few, product-small, samples-small}
use Rattle.rs_sample.proofs.IndexFacts.{index-limits, index_number, worths-count}
use Rattle.rs_sample.proofs.sample.estimates_of.Goals as goal

pub sample_sizes-requires-clause-six : goal.sample_sizes-requires-clause-six
sample_sizes-requires-clause-six c =
    length-samples (most_sampled (length c.args.block.now.from)) c.args.sizes.now c.args.samples.now c.requires.samples ∙ c.told-sizes

pub sample_sizes-requires-clause-few : goal.sample_sizes-requires-clause-few
sample_sizes-requires-clause-few c =
    samples-small (length c.args.block.now.from) c.args.sizes.now c.args.samples.now c.requires.some_entries c.requires.most_entries c.requires.samples

pub index_estimates-requires-clause-sampled : goal.index_estimates-requires-clause-sampled
index_estimates-requires-clause-sampled c =
    let n = length c.args.block.now.from in
    let few = most-few n c.requires.some_entries c.requires.most_entries in
    subst (AllByRecursion (λ size. size ≤ 131072)) (sym c.sample_sizes.ensures)
    (each-less (most_sampled n) (map length c.args.samples.now) 131072 (omega (arith, few)) (each-few (most_sampled n) c.args.sizes.now c.args.samples.now c.requires.samples))

pub index_estimates-requires-clause-each : goal.index_estimates-requires-clause-each
index_estimates-requires-clause-each c = λ place t at.
    let n = length c.args.block.now.from in
    let terms = c.args.block.now.terms in
    let samples = c.args.samples.now in
    let worths = c.args.worths.now in
    let count = worths-count worths samples terms c.requires.worths place t at in
    let inside = each-slice_get (λ (u : Term). u.entries < 2 ^ n) terms place t c.requires.inside at in
    let small = product-small n c.args.sizes.now samples c.requires.some_entries c.requires.most_entries c.requires.samples t.entries inside in
    let few : length (get_or worths place []) ≤ product_inside t.entries (map length samples) = omega (arith, count) in
    subst (λ ss. (length (get_or worths place []) ≤ product_inside t.entries ss) × (product_inside t.entries ss ≤ 65536)) (sym c.sample_sizes.ensures) (few, small)

pub invariant_of-result-clause-rows : goal.invariant_of-result-clause-rows
invariant_of-result-clause-rows c =
    let long = ap length c.in_ok-reads.ensures ∙ length-map c.args.block.now.terms (λ (t : Term). t.entries) in
    subst (λ k. AllByRecursion (λ (row : List ℕ). length row ≡ 2 ^ k) c.args.numbers.items) (sym long) c.requires.grid_rows

pub invariant_of-result-clause-indexes : goal.invariant_of-result-clause-indexes
invariant_of-result-clause-indexes c =
    let long = ap length c.in_ok-reads.ensures ∙ length-map c.args.block.now.terms (λ (t : Term). t.entries) in
    c.in_ok-index_numbers.ensures.length ∙ sym long

pub invariant_of-result-clause-index_limits : goal.invariant_of-result-clause-index_limits
invariant_of-result-clause-index_limits c = λ n.
    let numbers = c.in_ok-index_numbers.index_numbers.items in
    subst (λ rs. get_or numbers n 0 ≤ most_expected (get_or rs n 0)) (sym c.in_ok-reads.ensures)
    (index-limits c.args.block.now.terms numbers c.in_ok-index_numbers.ensures.length c.in_ok-index_numbers.ensures.limit n)

pub returns-clause-index_numbers : goal.returns-clause-index_numbers
returns-clause-index_numbers c = λ place t at.
    subst (λ ss. get_or c.in_ok-index_numbers.index_numbers.items place 0 ≡ index_number c.args.block.now c.args.sizes.now ss c.args.worths.now c.args.cutoff place t)
    c.sample_sizes.ensures (c.in_ok-index_numbers.ensures.value place t at)
