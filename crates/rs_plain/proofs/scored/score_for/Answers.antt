use Rattle.std.proofs.Common.{ℕ, ◌≡◌, ◌∙◌, ◌≤◌, ◌<◌, ◌+◌, ◌-◌, ◌∷◌, [], Some, length, get_or, map, take, drop, slice_get, true, refl, sym, ap, subst, arith}
use Rattle.std.proofs.lemmas.List.{take_all}
use Rattle.std.proofs.lemmas.Option.{slice_get_read}
use Rattle.std.specs.Prelude.{Err, Ok}
use Rattle.rs_expr.specs.Scoring.{Answering}
use Rattle.rs_query.specs.Answers.{worth_of}
use Rattle.rs_query.specs.Meaning.{is_inside}
use Rattle.rs_query.specs.Tables.{HasRows, all_entries}
use Rattle.rs_query.specs.WellFormed.{IsTerm}
use Rattle.rs_query.specs.declared.term.Term.{Term as BoundTerm}
use Rattle.rs_query.proofs.EntryFacts.{terms-inside}
use Rattle.rs_order.proofs.EachFacts.{each-slice_get}
use Rattle.rs_query.specs.Questions.{question_of}
use Rattle.rs_plain.specs.Plain.{plain_fault, plain_faults, row_questions}
use Rattle.rs_query.proofs.QuestionFacts.{AllAsked, AllAsked-more, Ended-behind, Gave-behind, Failed-behind}
use Rattle.rs_query.proofs.ToldFacts.{Inquires-told}
use Rattle.rs_value.proofs.ResultFacts.{given-err}
use Rattle.rs_plain.proofs.RowFacts.{each-at, map-at, map-split, score-all, score-bound, score-more}
use Rattle.rs_plain.specs.declared.fault.PlainFault.TheVariants.{Memory}
use Rattle.rs_plain.proofs.scored.score_for.Goals as goal

pub ask-requires-clause-inside : goal.ask-requires-clause-inside
ask-requires-clause-inside g c = λ t at.
    ap (is_inside t.entries) c.requires.all
    ∙ each-slice_get (λ (term : BoundTerm). is_inside term.entries (all_entries c.args.block.now) ≡ true) c.args.block.now.terms (c.loop-index.index + 1 - 1) t
    (terms-inside c.args.catalog.now c.args.block.now c.requires.block) at

pub ask-requires-clause-rows : goal.ask-requires-clause-rows
ask-requires-clause-rows g c =
    subst (λ mask. HasRows c.args.catalog.now c.args.block.now mask c.args.ids.now.rows) (sym c.requires.all) c.requires.rows

pub returns-in_err-worth : goal.returns-in_err-worth
returns-in_err-worth g c =
    let items : c.deref-term-items.result.now ≡ c.args.block.now.terms = c.deref-term-items.ensures.value ∙ c.items.ensures in
    let is : c.term-item.result ≡ get_or c.args.block.now.terms c.loop-index.index c.term-item.result =
    subst (λ terms. c.term-item.result ≡ get_or terms c.loop-index.index c.term-item.result) items c.term-item.is in
    let within : c.loop-index.index < length c.args.block.now.terms = subst (λ terms. c.loop-index.index < length terms) items c.loop-index-test.true in
    let place : c.loop-index.index ≡ c.loop-index.index + 1 - 1 = omega arith in
    let at = subst (λ n. slice_get c.args.block.now.terms n ≡ Some c.term-item.result) place (slice_get_read c.args.block.now.terms _ c.loop-index.index c.term-item.result refl within is) in
    let question = question_of c.args.ids.now.block c.args.block.now c.args.ids.now.rows in
    let fault = plain_fault c.in_err-worth.field-0.0 in
    Failed-behind plain_faults Memory c.args.catalog.now {A = ℕ} {B = ℕ}
    (map question (take c.loop-index.index c.args.block.now.terms)) (question c.term-item.result ∷ []) (map question (drop (c.loop-index.index + 1) c.args.block.now.terms))
    (row_questions c.args.ids.now.block c.args.block.now c.args.ids.now.rows)
    (λ (a : Answering). worth_of a c.args.catalog.now c.args.block.now c.args.ids.now.rows c.term-item.result) _ fault c.from_residual.result
    (g.S.Scorer.state c.args.scorer.now) (g.S.Scorer.state c.loop-index.scorer) (g.S.Scorer.state c.ask.new.scorer)
    (map-split question c.args.block.now.terms c.loop-index.index c.term-item.result within is)
    (given-err c.from_residual.result fault c.from_residual.ensures) c.loop-index.invariant.asked
    (Inquires-told plain_fault c.args.catalog.now c.args.block.now c.args.ids.now c.term-item.result (Err c.in_err-worth.field-0.0)
    (g.S.Scorer.state c.loop-index.scorer) (g.S.Scorer.state c.ask.new.scorer) (c.in_err-worth.ensures c.term-item.result at))

pub loop-index-preserved : goal.loop-index-preserved
loop-index-preserved g c =
    let items : c.deref-term-items.result.now ≡ c.args.block.now.terms = c.deref-term-items.ensures.value ∙ c.items.ensures in
    let is : c.term-item.result ≡ get_or c.args.block.now.terms c.loop-index.index c.term-item.result =
    subst (λ terms. c.term-item.result ≡ get_or terms c.loop-index.index c.term-item.result) items c.term-item.is in
    let within : c.loop-index.index < length c.args.block.now.terms = subst (λ terms. c.loop-index.index < length terms) items c.loop-index-test.true in
    let place : c.loop-index.index ≡ c.loop-index.index + 1 - 1 = omega arith in
    let at = subst (λ n. slice_get c.args.block.now.terms n ≡ Some c.term-item.result) place (slice_get_read c.args.block.now.terms _ c.loop-index.index c.term-item.result refl within is) in
    let question = question_of c.args.ids.now.block c.args.block.now c.args.ids.now.rows in
    let term = each-at (IsTerm c.args.catalog.now c.args.block.now) c.args.block.now.terms c.loop-index.index c.term-item.result c.requires.block.terms within is in
    let old = g.S.Scorer.state c.args.scorer.now in
    let middle = g.S.Scorer.state c.loop-index.scorer in
    let new = g.S.Scorer.state c.ask.new.scorer in
    let first = map question (take c.loop-index.index c.args.block.now.terms) in
    let gave = Gave-behind plain_faults Memory c.args.catalog.now {A = ℕ} first (question c.term-item.result ∷ [])
    (λ (a : Answering). worth_of a c.args.catalog.now c.args.block.now c.args.ids.now.rows c.term-item.result) c.in_ok-worth.worth old middle new c.loop-index.invariant.asked
    (Inquires-told plain_fault c.args.catalog.now c.args.block.now c.args.ids.now c.term-item.result (Ok c.in_ok-worth.worth) middle new (c.in_ok-worth.ensures c.term-item.result at)) in
    let light : c.from.result ≤ 1000000 = subst (λ n. n ≤ 1000000) (sym c.from.ensures) term.most_weight in
    let small : c.from-in-loop-index.result ≤ 4294967295 = omega arith in
    record {
      asked = subst (λ questions. AllAsked old.answer c.args.catalog.now questions old new)
          (sym (map-at question c.args.block.now.terms c.loop-index.index c.term-item.result within is))
          (AllAsked-more old.answer c.args.catalog.now first (question c.term-item.result ∷ []) old middle new c.loop-index.invariant.asked gave.asked);
      sum = score-more old.answer c.args.catalog.now c.args.block.now c.args.ids.now.rows c.args.block.now.terms c.loop-index.index c.term-item.result
          c.loop-index.score c.from.result c.from-in-loop-index.result _ within is c.from.ensures (c.from-in-loop-index.ensures ∙ gave.is_value) c.loop-index.invariant.sum;
      bound = score-bound c.loop-index.index c.loop-index.score c.from.result c.from-in-loop-index.result c.loop-index.invariant.bound light small;
    }

pub returns : goal.returns
returns g c =
    let items : c.deref-term-items.result.now ≡ c.args.block.now.terms = c.deref-term-items.ensures.value ∙ c.items.ensures in
    let all : length c.args.block.now.terms ≤ c.loop-index.index = subst (λ terms. length terms ≤ c.loop-index.index) items c.loop-index-test.false in
    let question = question_of c.args.ids.now.block c.args.block.now c.args.ids.now.rows in
    let old = g.S.Scorer.state c.args.scorer.now in
    Ended-behind plain_faults Memory c.args.catalog.now {A = ℕ} (map question (take c.loop-index.index c.args.block.now.terms))
    (row_questions c.args.ids.now.block c.args.block.now c.args.ids.now.rows) _ c.loop-index.score old (g.S.Scorer.state c.loop-index.scorer)
    (ap (map question) (sym (take_all c.loop-index.index c.args.block.now.terms all)))
    (score-all old.answer c.args.catalog.now c.args.block.now c.args.ids.now.rows c.args.block.now.terms c.loop-index.index c.loop-index.score _ all c.loop-index.invariant.sum)
    c.loop-index.invariant.asked
