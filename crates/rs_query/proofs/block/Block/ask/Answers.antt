use Rattle.std.proofs.Common.{◌≡◌, ◌∙◌, ◌-◌, ◌<◌, length, get_or, refl, sym, ap, subst, arith, rules}
use Rattle.std.specs.Prelude.{Err}
use Rattle.std.specs.Int.{w128}
use Rattle.std.proofs.lemmas.Int.{to_z-of_z}
use Rattle.std.proofs.lemmas.Option.{slice_get_read, slice_get_within}
use Rattle.rs_value.specs.Value.{all_fit}
use Rattle.rs_order.proofs.EachFacts.{each-slice_get}
use Rattle.rs_expr.specs.InOrder.{Inquires}
use Rattle.rs_expr.specs.Scoring.{call_of}
use Rattle.rs_expr.proofs.ScoringFacts.{Scored}
use Rattle.rs_query.specs.WellFormed.{IsTerm}
use Rattle.rs_query.specs.Asking.{ask_faults, asking_worth, worth_for}
use Rattle.rs_query.specs.declared.ask.AskFault.TheVariants.{Memory, Probe}
use Rattle.rs_query.proofs.AskFacts.{Inquires-got, Inquires-no_call, Inquires-no_memory, Inquires-refused}
use Rattle.rs_value.proofs.ResultFacts.{given-err}
use Rattle.rs_query.proofs.block.Block.ask.Goals as goal

pub predicate-predicate-requires : goal.predicate-predicate-requires
predicate-predicate-requires g c =
    let is : c.index-term.result.now ≡ get_or c.args.self.now.terms (c.args.number - 1) c.index-term.result.now =
    subst (λ terms. c.index-term.result.now ≡ get_or terms (c.args.number - 1) c.index-term.result.now) c.items.ensures c.index-term.ensures in
    let within : c.args.number - 1 < length c.args.self.now.terms = omega arith in
    let t = each-slice_get (IsTerm c.args.catalog.now c.args.self.now) c.args.self.now.terms (c.args.number - 1) c.index-term.result.now c.requires.block.terms
    (slice_get_read c.args.self.now.terms _ (c.args.number - 1) c.index-term.result.now refl within is) in
    slice_get_within c.args.catalog.now.predicates c.index-term.result.now.predicate t.predicate t.has_predicate

pub score-requires : goal.score-requires
score-requires g c =
    let is : c.index-term.result.now ≡ get_or c.args.self.now.terms (c.args.number - 1) c.index-term.result.now =
    subst (λ terms. c.index-term.result.now ≡ get_or terms (c.args.number - 1) c.index-term.result.now) c.items.ensures c.index-term.ensures in
    let within : c.args.number - 1 < length c.args.self.now.terms = omega arith in
    let at = slice_get_read c.args.self.now.terms _ (c.args.number - 1) c.index-term.result.now refl within is in
    ap (all_fit c.predicate-predicate.result.now.params) c.deref.ensures.value
    ∙ c.in_ok-args.ensures.fit c.index-term.result.now c.predicate-predicate.result.now at c.predicate-predicate.ensures

pub returns-in_err-args : goal.returns-in_err-args
returns-in_err-args g c = λ term e.
    let old = g.S.Scorer.state c.args.scorer.now in
    subst (λ r. Inquires Memory (asking_worth ask_faults old.answer c.args.catalog.now c.args.self.now c.args.ids.now term) r old old)
    (sym (given-err c.from_residual.result Memory c.from_residual.ensures))
    (Inquires-no_call ask_faults Memory c.args.catalog.now c.args.self.now c.args.ids.now term old)

pub returns-in-Ok : goal.returns-in-Ok
returns-in-Ok g c = λ term e.
    let is : c.index-term.result.now ≡ get_or c.args.self.now.terms (c.args.number - 1) c.index-term.result.now =
    subst (λ terms. c.index-term.result.now ≡ get_or terms (c.args.number - 1) c.index-term.result.now) c.items.ensures c.index-term.ensures in
    let within : c.args.number - 1 < length c.args.self.now.terms = omega arith in
    let at = slice_get_read c.args.self.now.terms _ (c.args.number - 1) c.index-term.result.now refl within is in
    let same : c.index-term.result.now ≡ term = cc in
    let old = g.S.Scorer.state c.args.scorer.now in
    let new = g.S.Scorer.state c.score.new.self in
    subst (λ t. Inquires Memory (asking_worth ask_faults old.answer c.args.catalog.now c.args.self.now c.args.ids.now t) c.worth_for.result old new) same
    (Inquires-got ask_faults Memory c.args.catalog.now c.args.self.now c.args.ids.now c.index-term.result.now old new c.predicate-predicate.result.now c.deref.result.now
    c.predicate-predicate.ensures (c.deref.ensures.value ∙ c.in_ok-args.ensures.value c.index-term.result.now at)
    c.max.result c.in-Ok.got c.worth_for.result c.max.ensures.value c.in-Ok.ensures.answers
    (c.worth_for.ensures ∙ ap (worth_for ask_faults c.index-term.result.now c.args.ids.now c.max.result) (to_z-of_z w128 c.in-Ok.got (search rules)))
    (record { same = c.in-Ok.ensures.same; told = c.in-Ok.ensures.told; calls = c.in-Ok.ensures.calls; counts = c.in-Ok.ensures.counts }))

pub returns-in-Err-Failed : goal.returns-in-Err-Failed
returns-in-Err-Failed g c = λ term e.
    let is : c.index-term.result.now ≡ get_or c.args.self.now.terms (c.args.number - 1) c.index-term.result.now =
    subst (λ terms. c.index-term.result.now ≡ get_or terms (c.args.number - 1) c.index-term.result.now) c.items.ensures c.index-term.ensures in
    let within : c.args.number - 1 < length c.args.self.now.terms = omega arith in
    let at = slice_get_read c.args.self.now.terms _ (c.args.number - 1) c.index-term.result.now refl within is in
    let same : c.index-term.result.now ≡ term = cc in
    let old = g.S.Scorer.state c.args.scorer.now in
    let new = g.S.Scorer.state c.score.new.self in
    subst (λ t. Inquires Memory (asking_worth ask_faults old.answer c.args.catalog.now c.args.self.now c.args.ids.now t) (Err (Probe c.index-term.result.now.predicate)) old new) same
    (Inquires-refused ask_faults Memory c.args.catalog.now c.args.self.now c.args.ids.now c.index-term.result.now old new c.predicate-predicate.result.now c.deref.result.now
    c.predicate-predicate.ensures (c.deref.ensures.value ∙ c.in_ok-args.ensures.value c.index-term.result.now at)
    (subst (λ f. Scored (call_of c.predicate-predicate.result.now c.deref.result.now) (Err f) old new) c.in-Err-Failed.field-0-is
    (record { same = c.in-Err-Failed.ensures.same; told = c.in-Err-Failed.ensures.told; calls = c.in-Err-Failed.ensures.calls; counts = c.in-Err-Failed.ensures.counts })))

pub returns-in-Err-Memory : goal.returns-in-Err-Memory
returns-in-Err-Memory g c = λ term e.
    let is : c.index-term.result.now ≡ get_or c.args.self.now.terms (c.args.number - 1) c.index-term.result.now =
    subst (λ terms. c.index-term.result.now ≡ get_or terms (c.args.number - 1) c.index-term.result.now) c.items.ensures c.index-term.ensures in
    let within : c.args.number - 1 < length c.args.self.now.terms = omega arith in
    let at = slice_get_read c.args.self.now.terms _ (c.args.number - 1) c.index-term.result.now refl within is in
    let same : c.index-term.result.now ≡ term = cc in
    let old = g.S.Scorer.state c.args.scorer.now in
    let new = g.S.Scorer.state c.score.new.self in
    subst (λ t. Inquires Memory (asking_worth ask_faults old.answer c.args.catalog.now c.args.self.now c.args.ids.now t) (Err Memory) old new) same
    (Inquires-no_memory ask_faults Memory c.args.catalog.now c.args.self.now c.args.ids.now c.index-term.result.now old new c.predicate-predicate.result.now c.deref.result.now
    c.predicate-predicate.ensures (c.deref.ensures.value ∙ c.in_ok-args.ensures.value c.index-term.result.now at)
    (subst (λ f. Scored (call_of c.predicate-predicate.result.now c.deref.result.now) (Err f) old new) c.in-Err-Memory.field-0-is
    (record { same = c.in-Err-Memory.ensures.same; told = c.in-Err-Memory.ensures.told; calls = c.in-Err-Memory.ensures.calls; counts = c.in-Err-Memory.ensures.counts })))
