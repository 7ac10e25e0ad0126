use Rattle.std.proofs.Common.{◌≡◌, ◌∙◌, ◌+◌, ◌*◌, ◌%◌, ◌^◌, ◌<◌, ◌≤◌, [], ◌∷◌, get_or, length, nat_le, refl, ap, subst, arith}
use Rattle.std.specs.Int.{div_ceil}
use Rattle.std.specs.List.{filter}
use Rattle.std.proofs.lemmas.List.{length-append}
use Rattle.std.proofs.lemmas.Nat.{one_shl}
use Rattle.std.proofs.lemmas.Option.{slice_get_read, slice_get_within}
use Rattle.rs_rank.specs.Weights.{rest}
use Rattle.rs_query.specs.Answers.{weights_of}
use Rattle.rs_query.specs.declared.term.Term.{Term}
use Rattle.rs_sample.specs.Quotients.{product_inside}
use Rattle.rs_sample.proofs.IndexFacts.{index_number, next-limit, next-value}
use Rattle.rs_sample.proofs.ListFacts.{get_or-any}
use Rattle.rs_sample.proofs.index.index_estimates.Goals as goal

pub count_worths-count-requires-clause-few : goal.count_worths-count-requires-clause-few
count_worths-count-requires-clause-few c =
    let terms = c.args.block.now.terms in
    let place = c.loop-place.place in
    let term : Term = c.term-item.result in
    let items : c.deref-term-items.result.now ≡ terms = c.deref-term-items.ensures.value ∙ c.items.ensures in
    let within : place < length terms = subst (λ ts. place < length ts) items c.loop-place-test.true in
    let is : term ≡ get_or terms place term = subst (λ ts. term ≡ get_or ts place term) items c.term-item.is in
    let both = c.requires.each place term (slice_get_read terms _ place term refl within is) in
    let counts = c.requires.worths in
    let there : place < length c.args.worths.now = omega arith in
    let same = ap length (c.deref.ensures.value ∙ c.items-in-loop-place.ensures ∙ c.index-worths-place.is ∙ get_or-any c.args.worths.now place c.index-worths-place.result [] there) in
    let few = both.0 in
    let small = both.1 in
    omega arith

pub expected_count-requires-clause-few : goal.expected_count-requires-clause-few
expected_count-requires-clause-few c =
    let terms = c.args.block.now.terms in
    let place = c.loop-place.place in
    let term : Term = c.term-item.result in
    let items : c.deref-term-items.result.now ≡ terms = c.deref-term-items.ensures.value ∙ c.items.ensures in
    let within : place < length terms = subst (λ ts. place < length ts) items c.loop-place-test.true in
    let is : term ≡ get_or terms place term = subst (λ ts. term ≡ get_or ts place term) items c.term-item.is in
    let both = c.requires.each place term (slice_get_read terms _ place term refl within is) in
    let counts = c.requires.worths in
    let there : place < length c.args.worths.now = omega arith in
    let same = ap length (c.deref.ensures.value ∙ c.items-in-loop-place.ensures ∙ c.index-worths-place.is ∙ get_or-any c.args.worths.now place c.index-worths-place.result [] there) in
    let few = both.0 in
    let limit = c.count_worths-count.ensures.limit in
    omega arith

pub expected_count-requires-clause-counted : goal.expected_count-requires-clause-counted
expected_count-requires-clause-counted c =
    let terms = c.args.block.now.terms in
    let place = c.loop-place.place in
    let term : Term = c.term-item.result in
    let items : c.deref-term-items.result.now ≡ terms = c.deref-term-items.ensures.value ∙ c.items.ensures in
    let within : place < length terms = subst (λ ts. place < length ts) items c.loop-place-test.true in
    let is : term ≡ get_or terms place term = subst (λ ts. term ≡ get_or ts place term) items c.term-item.is in
    let both = c.requires.each place term (slice_get_read terms _ place term refl within is) in
    let counts = c.requires.worths in
    let there : place < length c.args.worths.now = omega arith in
    let same = ap length (c.deref.ensures.value ∙ c.items-in-loop-place.ensures ∙ c.index-worths-place.is ∙ get_or-any c.args.worths.now place c.index-worths-place.result [] there) in
    let few = both.0 in
    let small = both.1 in
    let limit = c.count_worths-count.ensures.limit in
    omega arith

pub returns-clause-value : goal.returns-clause-value
returns-clause-value c = λ place t at.
    let terms = c.args.block.now.terms in
    let items : c.deref-term-items.result.now ≡ terms = c.deref-term-items.ensures.value ∙ c.items.ensures in
    let all : length terms ≤ c.loop-place.place = subst (λ ts. length ts ≤ c.loop-place.place) items c.loop-place-test.false in
    let within = slice_get_within terms place t at in
    c.loop-place.invariant.value place t (omega arith) at

pub loop-place-preserved : goal.loop-place-preserved
loop-place-preserved c =
    let block = c.args.block.now in
    let terms = block.terms in
    let worths = c.args.worths.now in
    let sizes = c.args.sizes.now in
    let sampled = c.args.sampled.now in
    let cutoff = c.args.cutoff in
    let place = c.loop-place.place in
    let numbers = c.loop-place.numbers.items in
    let term : Term = c.term-item.result in
    let items : c.deref-term-items.result.now ≡ terms = c.deref-term-items.ensures.value ∙ c.items.ensures in
    let within : place < length terms = subst (λ ts. place < length ts) items c.loop-place-test.true in
    let is : term ≡ get_or terms place term = subst (λ ts. term ≡ get_or ts place term) items c.term-item.is in
    let at = slice_get_read terms _ place term refl within is in
    let few = c.requires.few_terms in
    let counts = c.requires.worths in
    let there : place < length worths = omega arith in
    let small : place < 8 = omega arith in
    let same = c.deref.ensures.value ∙ c.items-in-loop-place.ensures ∙ c.index-worths-place.is ∙ get_or-any worths place c.index-worths-place.result [] there in
    let others : c.rest-rest.result ≡ rest (weights_of block) (2 ^ place) =
    c.rest-rest.ensures.value ∙ ap (λ ws. rest ws (1 * 2 ^ place % 2 ^ 8)) c.weights-weights.ensures.value ∙ ap (rest (weights_of block)) (one_shl place 8 small) in
    let counted = c.count_worths-count.ensures.value
    ∙ ap (λ n. length (filter (λ worth. nat_le cutoff (term.weight * worth + n)) c.deref.result.now)) others
    ∙ ap (λ ws. length (filter (λ worth. nat_le cutoff (term.weight * worth + rest (weights_of block) (2 ^ place))) ws)) same in
    let number : c.expected_count.result ≡ index_number block sizes sampled worths cutoff place term =
    c.expected_count.ensures.value ∙ ap (λ n. div_ceil (n * product_inside term.entries sizes) (product_inside term.entries sampled)) counted in
    let pushed = c.in_ok-push.ensures.items in
    let count = c.loop-place.invariant.count in
    record {
      count = ap length pushed ∙ length-append numbers (c.expected_count.result ∷ []) ∙ ap (λ n. n + 1) count;
      value = next-value block sizes sampled worths cutoff numbers c.push.new.self.items place c.expected_count.result term pushed count at c.loop-place.invariant.value number;
      limit = next-limit block sizes sampled worths cutoff numbers c.push.new.self.items place c.expected_count.result term pushed count at c.loop-place.invariant.limit c.expected_count.ensures.limit;
    }
