use Rattle.std.proofs.Common.{ℕ, ◌≡◌, ◌∙◌, ◌+◌, ◌-◌, ◌<◌, ◌≤◌, List, [], ◌∷◌, ◌++◌, Some, get_or, length, map, take, refl, sym, ap, subst, arith}
use Rattle.std.specs.List.{AllByRecursion}
use Rattle.std.specs.Prelude.{Err, Ok, slice_get}
use Rattle.std.proofs.lemmas.Option.{slice_get_read}
use Rattle.rs_expr.specs.InOrder.{Inquires}
use Rattle.rs_query.specs.Answers.{worth_of}
use Rattle.rs_query.specs.Questions.{question_of}
use Rattle.rs_query.specs.Tables.{HasRows}
use Rattle.rs_query.specs.declared.term.Term.{Term}
use Rattle.rs_sample.specs.Choosing.{sampled_choices}
use Rattle.rs_sample.specs.Sampling.{as_list, asking_all, term_questions}
use Rattle.rs_sample.specs.declared.fault.SampleFault.TheVariants.{Memory}
use Rattle.rs_sample.proofs.EachFacts.{EachAsked, EachAsked-all, EachAsked-before, EachAsked-behind, EachAsked-faulted, EachAsked-more}
use Rattle.rs_sample.proofs.MemberFacts.{HasRows-sampled}
use Rattle.rs_value.proofs.ResultFacts.{given-err}
use Rattle.rs_sample.proofs.ask.ask_terms.Goals as goal

pub returns-in_err-choices : goal.returns-in_err-choices
returns-in_err-choices g c =
    let terms = c.args.block.now.terms in
    let place = c.loop-place.place in
    let term : Term = c.term-item.result in
    let items : c.deref-term-items.result.now ≡ terms = c.deref-term-items.ensures.value ∙ c.items.ensures in
    let within : place < length terms = subst (λ ts. place < length ts) items c.loop-place-test.true in
    let is : term ≡ get_or terms place term = subst (λ ts. term ≡ get_or ts place term) items c.term-item.is in
    let old = g.S.Scorer.state c.args.scorer.now in
    let middle = g.S.Scorer.state c.loop-place.scorer in
    EachAsked-before c.args.catalog.now (term_questions c.args.number c.args.block.now c.args.samples.now)
    (λ answer (t : Term). map (λ rows. worth_of answer c.args.catalog.now c.args.block.now rows t) (sampled_choices t.entries c.args.samples.now))
    terms place term c.loop-place.worths.items old middle within is c.loop-place.invariant {B = List (List ℕ)} _ (as_list c.from_residual.result)
    (ap as_list (given-err c.from_residual.result Memory c.from_residual.ensures))

pub ask_choices-requires-clause-rows : goal.ask_choices-requires-clause-rows
ask_choices-requires-clause-rows g c = λ t at.
    let terms = c.args.block.now.terms in
    let place = c.loop-place.place in
    let term : Term = c.term-item.result in
    let items : c.deref-term-items.result.now ≡ terms = c.deref-term-items.ensures.value ∙ c.items.ensures in
    let within : place < length terms = subst (λ ts. place < length ts) items c.loop-place-test.true in
    let is : term ≡ get_or terms place term = subst (λ ts. term ≡ get_or ts place term) items c.term-item.is in
    let here : slice_get terms place ≡ Some term = slice_get_read terms _ place term refl within is in
    let both : Some term ≡ Some t = sym here ∙ ap (slice_get terms) (let one : place ≡ place + 1 - 1 = omega arith in one) ∙ at in
    let same : term ≡ t = cc in
    subst (λ (u : Term). AllByRecursion (HasRows c.args.catalog.now c.args.block.now u.entries) c.deref.result.now) same
    (subst (AllByRecursion (HasRows c.args.catalog.now c.args.block.now term.entries)) (sym (c.deref.ensures.value ∙ c.in_ok-choices.ensures))
    (HasRows-sampled c.args.catalog.now c.args.block.now c.args.samples.now term.entries c.requires.block.most_entries c.requires.samples))

pub returns-in_err-asked : goal.returns-in_err-asked
returns-in_err-asked g c =
    let terms = c.args.block.now.terms in
    let place = c.loop-place.place in
    let term : Term = c.term-item.result in
    let items : c.deref-term-items.result.now ≡ terms = c.deref-term-items.ensures.value ∙ c.items.ensures in
    let within : place < length terms = subst (λ ts. place < length ts) items c.loop-place-test.true in
    let is : term ≡ get_or terms place term = subst (λ ts. term ≡ get_or ts place term) items c.term-item.is in
    let at = ap (slice_get terms) (let one : place + 1 - 1 ≡ place = omega arith in one) ∙ slice_get_read terms _ place term refl within is in
    let old = g.S.Scorer.state c.args.scorer.now in
    let middle = g.S.Scorer.state c.loop-place.scorer in
    let new = g.S.Scorer.state c.ask_choices.new.scorer in
    EachAsked-faulted c.args.catalog.now (term_questions c.args.number c.args.block.now c.args.samples.now)
    (λ answer (t : Term). map (λ rows. worth_of answer c.args.catalog.now c.args.block.now rows t) (sampled_choices t.entries c.args.samples.now))
    terms place term c.loop-place.worths.items old middle new within is c.loop-place.invariant {B = List (List ℕ)} _ c.in_err-asked.field-0.0
    (as_list c.from_residual-in_err-asked.result) (ap as_list (given-err c.from_residual-in_err-asked.result c.in_err-asked.field-0.0 c.from_residual-in_err-asked.ensures))
    (subst (λ cs. Inquires Memory (asking_all c.args.catalog.now (map (λ rows. question_of c.args.number c.args.block.now rows term) cs)
    (map (λ rows. worth_of middle.answer c.args.catalog.now c.args.block.now rows term) cs)) (Err c.in_err-asked.field-0.0) middle new) (c.deref.ensures.value ∙ c.in_ok-choices.ensures)
    (c.in_err-asked.ensures term at))

pub returns-in_err-push : goal.returns-in_err-push
returns-in_err-push g c =
    let terms = c.args.block.now.terms in
    let place = c.loop-place.place in
    let term : Term = c.term-item.result in
    let items : c.deref-term-items.result.now ≡ terms = c.deref-term-items.ensures.value ∙ c.items.ensures in
    let within : place < length terms = subst (λ ts. place < length ts) items c.loop-place-test.true in
    let is : term ≡ get_or terms place term = subst (λ ts. term ≡ get_or ts place term) items c.term-item.is in
    let at = ap (slice_get terms) (let one : place + 1 - 1 ≡ place = omega arith in one) ∙ slice_get_read terms _ place term refl within is in
    let old = g.S.Scorer.state c.args.scorer.now in
    let middle = g.S.Scorer.state c.loop-place.scorer in
    let new = g.S.Scorer.state c.ask_choices.new.scorer in
    EachAsked-behind c.args.catalog.now (term_questions c.args.number c.args.block.now c.args.samples.now)
    (λ answer (t : Term). map (λ rows. worth_of answer c.args.catalog.now c.args.block.now rows t) (sampled_choices t.entries c.args.samples.now))
    terms place term c.loop-place.worths.items old middle new within is c.loop-place.invariant {B = List (List ℕ)} _ c.in_ok-asked.asked.items
    (as_list c.from_residual-in_err-push.result) (ap as_list (given-err c.from_residual-in_err-push.result Memory c.from_residual-in_err-push.ensures))
    (subst (λ cs. Inquires Memory (asking_all c.args.catalog.now (map (λ rows. question_of c.args.number c.args.block.now rows term) cs)
    (map (λ rows. worth_of middle.answer c.args.catalog.now c.args.block.now rows term) cs)) (Ok c.in_ok-asked.asked.items) middle new) (c.deref.ensures.value ∙ c.in_ok-choices.ensures)
    (c.in_ok-asked.ensures term at))

pub loop-place-preserved : goal.loop-place-preserved
loop-place-preserved g c =
    let terms = c.args.block.now.terms in
    let place = c.loop-place.place in
    let term : Term = c.term-item.result in
    let items : c.deref-term-items.result.now ≡ terms = c.deref-term-items.ensures.value ∙ c.items.ensures in
    let within : place < length terms = subst (λ ts. place < length ts) items c.loop-place-test.true in
    let is : term ≡ get_or terms place term = subst (λ ts. term ≡ get_or ts place term) items c.term-item.is in
    let at = ap (slice_get terms) (let one : place + 1 - 1 ≡ place = omega arith in one) ∙ slice_get_read terms _ place term refl within is in
    let old = g.S.Scorer.state c.args.scorer.now in
    let middle = g.S.Scorer.state c.loop-place.scorer in
    let new = g.S.Scorer.state c.ask_choices.new.scorer in
    let pushed : c.push.new.self.items ≡ c.loop-place.worths.items ++ c.in_ok-asked.asked.items ∷ [] =
    c.in_ok-push.ensures.items ∙ ap (λ ws. c.loop-place.worths.items ++ ws ∷ []) c.of.ensures in
    subst (λ ws. EachAsked c.args.catalog.now (term_questions c.args.number c.args.block.now c.args.samples.now)
    (λ answer (t : Term). map (λ rows. worth_of answer c.args.catalog.now c.args.block.now rows t) (sampled_choices t.entries c.args.samples.now))
    (take (place + 1) terms) ws old new) (sym pushed)
    (EachAsked-more c.args.catalog.now (term_questions c.args.number c.args.block.now c.args.samples.now)
    (λ answer (t : Term). map (λ rows. worth_of answer c.args.catalog.now c.args.block.now rows t) (sampled_choices t.entries c.args.samples.now))
    terms place term c.loop-place.worths.items old middle new within is c.loop-place.invariant c.in_ok-asked.asked.items
    (subst (λ cs. Inquires Memory (asking_all c.args.catalog.now (map (λ rows. question_of c.args.number c.args.block.now rows term) cs)
    (map (λ rows. worth_of middle.answer c.args.catalog.now c.args.block.now rows term) cs)) (Ok c.in_ok-asked.asked.items) middle new) (c.deref.ensures.value ∙ c.in_ok-choices.ensures)
    (c.in_ok-asked.ensures term at)))

pub returns : goal.returns
returns g c =
    let terms = c.args.block.now.terms in
    let items : c.deref-term-items.result.now ≡ terms = c.deref-term-items.ensures.value ∙ c.items.ensures in
    let all : length terms ≤ c.loop-place.place = subst (λ ts. length ts ≤ c.loop-place.place) items c.loop-place-test.false in
    EachAsked-all c.args.catalog.now (term_questions c.args.number c.args.block.now c.args.samples.now)
    (λ answer (t : Term). map (λ rows. worth_of answer c.args.catalog.now c.args.block.now rows t) (sampled_choices t.entries c.args.samples.now))
    terms c.loop-place.place c.loop-place.worths.items (g.S.Scorer.state c.args.scorer.now) (g.S.Scorer.state c.loop-place.scorer) all c.loop-place.invariant
