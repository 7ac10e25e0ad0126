use Rattle.std.proofs.Common.{◌≡◌, ◌∙◌, ◌<◌, ◌≤◌, get_or, length, subst}
use Rattle.rs_query.specs.declared.term.Term.{Term}
use Rattle.cases_plans.proofs.ReadFacts.{ReadFrom-all, ReadFrom-end, ReadFrom-more}
use Rattle.cases_plans.proofs.cards.are_read.Goals as goal

pub loop-place-init : goal.loop-place-init
loop-place-init c = ReadFrom-all c.args.terms c.args.mask c.args.block.now.terms

pub loop-place-preserved : goal.loop-place-preserved
loop-place-preserved c = λ behind.
    let terms = c.args.block.now.terms in
    let place = c.loop-place.place in
    let term : Term = c.term-item.result in
    let items : c.deref-term-items.result.now ≡ terms = c.deref-term-items.ensures.value ∙ c.items.ensures in
    let within : place < length terms = subst (λ ts. place < length ts) items c.loop-place-test.true in
    let is : term ≡ get_or terms place term = subst (λ ts. term ≡ get_or ts place term) items c.term-item.is in
    c.loop-place.invariant (ReadFrom-more c.args.terms c.args.mask terms place term within is (c.reads_outside.ensures c.if-reads_outside.false) behind)

pub returns : goal.returns
returns c = λ e.
    let terms = c.args.block.now.terms in
    let items : c.deref-term-items.result.now ≡ terms = c.deref-term-items.ensures.value ∙ c.items.ensures in
    let all : length terms ≤ c.loop-place.place = subst (λ ts. length ts ≤ c.loop-place.place) items c.loop-place-test.false in
    c.loop-place.invariant (ReadFrom-end c.args.terms c.args.mask terms c.loop-place.place all)
