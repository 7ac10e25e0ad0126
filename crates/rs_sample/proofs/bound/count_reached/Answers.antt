use Rattle.std.proofs.Common.{◌≡◌, ◌∙◌, ◌+◌, ◌<◌, ◌≤◌, cond, get_or, length, nat_le, ap, ap₂, arith, rules}
use Rattle.rs_sample.proofs.ListFacts.{get_or-any}
use Rattle.rs_sample.proofs.ReachFacts.{CountedTo-more, byte-if, byte-one}
use Rattle.rs_sample.proofs.bound.count_reached.Goals as goal

pub overflow_add-index_mut : goal.overflow_add-index_mut
overflow_add-index_mut c =
    let items = c.loop-terms.counts.items in
    let terms = c.loop-terms.terms in
    let end = c.len-terms-end.ensures in
    let less = c.loop-terms-test.true in
    let same = c.loop-terms.invariant.count in
    let within : terms < length items = omega arith in
    let here = c.index_mut.ensures.value ∙ get_or-any items terms c.index_mut.result.now 0 within ∙ c.loop-terms.invariant.others terms (omega arith) in
    let room = c.requires.room terms (omega arith) in
    let one = byte-one (nat_le c.args.cutoff (get_or c.bounds-bounds.result terms 0)) in
    let added = c.from.ensures in
    let total : c.index_mut.result.now + c.from.result ≤ 4294967295 = omega arith in
    search rules

pub loop-terms-preserved : goal.loop-terms-preserved
loop-terms-preserved c =
    let items = c.loop-terms.counts.items in
    let terms = c.loop-terms.terms in
    let end = c.len-terms-end.ensures in
    let less = c.loop-terms-test.true in
    let same = c.loop-terms.invariant.count in
    let few = c.requires.masks in
    let within : terms < length items = omega arith in
    let here = c.index_mut.ensures.value ∙ get_or-any items terms c.index_mut.result.now 0 within in
    let added : c.from.result ≡ cond (nat_le c.args.cutoff (get_or c.bounds-bounds.result terms 0)) 1 0 = c.from.ensures ∙ byte-if (nat_le c.args.cutoff (get_or c.bounds-bounds.result terms 0)) in
    let bound_is = c.bounds-bounds.ensures terms (omega arith) in
    CountedTo-more c.args.weights.now c.args.worths.now c.args.cutoff c.args.counts.now.items items terms (c.index_mut.result.now + c.from.result) within
    (ap₂ (λ n m. n + m) here (added ∙ ap (λ b. cond (nat_le c.args.cutoff b) 1 0) bound_is)) c.loop-terms.invariant
