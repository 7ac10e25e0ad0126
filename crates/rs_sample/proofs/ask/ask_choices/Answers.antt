use Rattle.std.proofs.Common.{ℕ, ◌+◌, ◌<◌, List, [], ◌∷◌, get_or, length, map, take, sym, ap, subst}
use Rattle.std.specs.Prelude.{Ok}
use Rattle.rs_expr.specs.InOrder.{Inquires}
use Rattle.rs_query.specs.Answers.{worth_of}
use Rattle.rs_query.specs.Questions.{question_of}
use Rattle.rs_sample.specs.Sampling.{as_list, asking_all}
use Rattle.rs_sample.specs.declared.fault.SampleFault.TheVariants.{Memory}
use Rattle.rs_sample.proofs.EachFacts.{EachAsked, EachAsked-all, EachAsked-behind, EachAsked-faulted, EachAsked-more}
use Rattle.rs_sample.proofs.ListFacts.{flat_map-one, get_or-other}
use Rattle.rs_value.proofs.ResultFacts.{given-err}
use Rattle.rs_sample.proofs.ask.ask_choices.Goals as goal

pub returns-in_err-ask_term : goal.returns-in_err-ask_term
returns-in_err-ask_term g c = λ t at.
    let choices = c.args.choices.now in
    let i = c.loop-rows.rows-index in
    let old = g.S.Scorer.state c.args.scorer.now in
    let middle = g.S.Scorer.state c.loop-rows.scorer in
    let new = g.S.Scorer.state c.ask_term.new.scorer in
    let within : i < length choices = c.loop-rows-test.true in
    subst (λ qs. Inquires Memory (asking_all c.args.catalog.now qs (map (λ rows. worth_of old.answer c.args.catalog.now c.args.block.now rows t) choices)) (as_list c.from_residual.result) old new)
    (flat_map-one (λ rows. question_of c.args.number c.args.block.now rows t) choices)
    (EachAsked-faulted c.args.catalog.now (λ rows. question_of c.args.number c.args.block.now rows t ∷ []) (λ answer rows. worth_of answer c.args.catalog.now c.args.block.now rows t)
    choices i (get_or choices i []) c.loop-rows.worths.items old middle new within (get_or-other choices i [] within) (c.loop-rows.invariant t at) {B = List ℕ} _ c.in_err-ask_term.field-0.0
    (as_list c.from_residual.result) (ap as_list (given-err c.from_residual.result c.in_err-ask_term.field-0.0 c.from_residual.ensures)) (c.in_err-ask_term.ensures t at))

pub returns-in_err-push : goal.returns-in_err-push
returns-in_err-push g c = λ t at.
    let choices = c.args.choices.now in
    let i = c.loop-rows.rows-index in
    let old = g.S.Scorer.state c.args.scorer.now in
    let middle = g.S.Scorer.state c.loop-rows.scorer in
    let new = g.S.Scorer.state c.ask_term.new.scorer in
    let within : i < length choices = c.loop-rows-test.true in
    subst (λ qs. Inquires Memory (asking_all c.args.catalog.now qs (map (λ rows. worth_of old.answer c.args.catalog.now c.args.block.now rows t) choices)) (as_list c.from_residual-in_err-push.result) old new)
    (flat_map-one (λ rows. question_of c.args.number c.args.block.now rows t) choices)
    (EachAsked-behind c.args.catalog.now (λ rows. question_of c.args.number c.args.block.now rows t ∷ []) (λ answer rows. worth_of answer c.args.catalog.now c.args.block.now rows t)
    choices i (get_or choices i []) c.loop-rows.worths.items old middle new within (get_or-other choices i [] within) (c.loop-rows.invariant t at) {B = List ℕ} _ c.in_ok-ask_term.field-0
    (as_list c.from_residual-in_err-push.result) (ap as_list (given-err c.from_residual-in_err-push.result Memory c.from_residual-in_err-push.ensures)) (c.in_ok-ask_term.ensures t at))

pub loop-rows-preserved : goal.loop-rows-preserved
loop-rows-preserved g c = λ t at.
    let choices = c.args.choices.now in
    let i = c.loop-rows.rows-index in
    let old = g.S.Scorer.state c.args.scorer.now in
    let middle = g.S.Scorer.state c.loop-rows.scorer in
    let new = g.S.Scorer.state c.ask_term.new.scorer in
    let within : i < length choices = c.loop-rows-test.true in
    subst (λ ws. EachAsked c.args.catalog.now (λ rows. question_of c.args.number c.args.block.now rows t ∷ []) (λ answer rows. worth_of answer c.args.catalog.now c.args.block.now rows t)
    (take (i + 1) choices) ws old new) (sym c.in_ok-push.ensures.items)
    (EachAsked-more c.args.catalog.now (λ rows. question_of c.args.number c.args.block.now rows t ∷ []) (λ answer rows. worth_of answer c.args.catalog.now c.args.block.now rows t)
    choices i (get_or choices i []) c.loop-rows.worths.items old middle new within (get_or-other choices i [] within) (c.loop-rows.invariant t at) c.in_ok-ask_term.field-0 (c.in_ok-ask_term.ensures t at))

pub returns : goal.returns
returns g c = λ t at.
    let choices = c.args.choices.now in
    let old = g.S.Scorer.state c.args.scorer.now in
    let new = g.S.Scorer.state c.loop-rows.scorer in
    subst (λ qs. Inquires Memory (asking_all c.args.catalog.now qs (map (λ rows. worth_of old.answer c.args.catalog.now c.args.block.now rows t) choices)) (Ok c.loop-rows.worths.items) old new)
    (flat_map-one (λ rows. question_of c.args.number c.args.block.now rows t) choices)
    (EachAsked-all c.args.catalog.now (λ rows. question_of c.args.number c.args.block.now rows t ∷ []) (λ answer rows. worth_of answer c.args.catalog.now c.args.block.now rows t)
    choices c.loop-rows.rows-index c.loop-rows.worths.items old new c.loop-rows-test.false (c.loop-rows.invariant t at))
