use Rattle.std.proofs.Common.{ℕ, ◌++◌, [], refl, sym, subst, append_assoc}
use Rattle.std.specs.Prelude.{OnOk, Option}
use Rattle.std.proofs.lemmas.Result.{on_ok_weaker}
use Rattle.rs_value.proofs.ResultFacts.{given-err}
use Rattle.rs_expr.specs.InOrder.{Inquires}
use Rattle.rs_expr.specs.Scoring.{Answering}
use Rattle.rs_query.specs.Tables.{sizes_of}
use Rattle.rs_query.specs.Views.{all_rows}
use Rattle.rs_query.specs.Questions.{asking}
use Rattle.rs_query.proofs.QuestionFacts.{AllAsked-none, Failed-behind, Gave-ok}
use Rattle.rs_plain.specs.Keeping.{HasBest, scored_block, scored_query}
use Rattle.rs_plain.specs.Plain.{block_questions, plain_faults, questions_of}
use Rattle.rs_plain.specs.declared.fault.PlainFault.TheVariants.{Memory}
use Rattle.rs_plain.proofs.AskFacts.{Asked-then}
use Rattle.rs_plain.proofs.BestFacts.{HasBest-more}
use Rattle.rs_plain.proofs.limited.add_query.Goals as goal

pub returns-in-One-clause-asks : goal.returns-in-One-clause-asks
returns-in-One-clause-asks g c =
    let old = g.S.Scorer.state c.args.scorer.now in
    subst (λ query. Inquires Memory (asking plain_faults old.answer c.args.catalog.now (questions_of c.args.catalog.now query (all_rows c.args.catalog.now query)) tt)
    c.add_block.result old (g.S.Scorer.state c.add_block.new.scorer))
    (sym c.in-One.is) c.add_block.ensures.asks

pub returns-in-One-clause-best : goal.returns-in-One-clause-best
returns-in-One-clause-best g c =
    let old = g.S.Scorer.state c.args.scorer.now in
    subst (λ query. OnOk c.add_block.result
    (HasBest c.args.best.now.limit c.add_block.new.best.rows.items (c.args.best.now.rows.items ++ scored_query old.answer c.args.catalog.now query)))
    (sym c.in-One.is) c.add_block.ensures.best

pub returns-in_err-add_block-in-Set-clause-asks : goal.returns-in_err-add_block-in-Set-clause-asks
returns-in_err-add_block-in-Set-clause-asks g c =
    let left = block_questions c.args.catalog.now 1 c.in-Set.left (sizes_of c.args.catalog.now c.in-Set.left) in
    let right = block_questions c.args.catalog.now 2 c.in-Set.right (sizes_of c.args.catalog.now c.in-Set.right) in
    let old = g.S.Scorer.state c.args.scorer.now in
    let middle = g.S.Scorer.state c.add_block-in-Set.new.scorer in
    subst (λ query. Inquires Memory (asking plain_faults old.answer c.args.catalog.now (questions_of c.args.catalog.now query (all_rows c.args.catalog.now query)) tt)
    c.from_residual.result old middle)
    (sym c.in-Set.is)
    (Failed-behind plain_faults Memory c.args.catalog.now {A = Unit {0}} {B = Unit {0}} [] left right (left ++ right) (λ (a : Answering). tt) tt
    c.in_err-add_block-in-Set.field-0.0 c.from_residual.result old old middle refl (given-err c.from_residual.result c.in_err-add_block-in-Set.field-0.0 c.from_residual.ensures)
    (AllAsked-none old.answer c.args.catalog.now old) c.in_err-add_block-in-Set.ensures.asks)

pub returns-in_ok-add_block-in-Set-clause-asks : goal.returns-in_ok-add_block-in-Set-clause-asks
returns-in_ok-add_block-in-Set-clause-asks g c =
    let left = block_questions c.args.catalog.now 1 c.in-Set.left (sizes_of c.args.catalog.now c.in-Set.left) in
    let right = block_questions c.args.catalog.now 2 c.in-Set.right (sizes_of c.args.catalog.now c.in-Set.right) in
    let old = g.S.Scorer.state c.args.scorer.now in
    let middle = g.S.Scorer.state c.add_block-in-Set.new.scorer in
    let new = g.S.Scorer.state c.add_block-in-Set-2.new.scorer in
    let gave = Gave-ok plain_faults Memory old.answer c.args.catalog.now left tt c.in_ok-add_block-in-Set.field-0 old middle c.in_ok-add_block-in-Set.ensures.asks in
    subst (λ query. Inquires Memory (asking plain_faults old.answer c.args.catalog.now (questions_of c.args.catalog.now query (all_rows c.args.catalog.now query)) tt)
    c.add_block-in-Set-2.result old new)
    (sym c.in-Set.is)
    (Asked-then c.args.catalog.now left right old middle new c.add_block-in-Set-2.result gave.asked c.add_block-in-Set-2.ensures.asks)

pub returns-in_ok-add_block-in-Set-clause-best : goal.returns-in_ok-add_block-in-Set-clause-best
returns-in_ok-add_block-in-Set-clause-best g c =
    let left = block_questions c.args.catalog.now 1 c.in-Set.left (sizes_of c.args.catalog.now c.in-Set.left) in
    let old = g.S.Scorer.state c.args.scorer.now in
    let middle = g.S.Scorer.state c.add_block-in-Set.new.scorer in
    let gave = Gave-ok plain_faults Memory old.answer c.args.catalog.now left tt c.in_ok-add_block-in-Set.field-0 old middle c.in_ok-add_block-in-Set.ensures.asks in
    let limit = c.args.best.now.limit in
    let start = c.args.best.now.rows.items in
    let first = c.add_block-in-Set.new.best in
    let kept = c.add_block-in-Set-2.new.best.rows.items in
    let lefts = scored_block old.answer c.args.catalog.now 1 c.in-Set.left in
    let rights = λ (a : Answering). scored_block a c.args.catalog.now 2 c.in-Set.right in
    on_ok_weaker c.add_block-in-Set-2.result
    (λ (more : HasBest first.limit kept (first.rows.items ++ rights middle.answer)).
    subst (λ query. HasBest limit kept (start ++ scored_query old.answer c.args.catalog.now query)) (sym c.in-Set.is)
    (subst (HasBest limit kept) (append_assoc start lefts (rights old.answer))
    (HasBest-more limit first.rows.items (start ++ lefts) (rights old.answer) kept c.in_ok-add_block-in-Set.ensures.best
    (subst (λ (a : Answering). HasBest limit kept (first.rows.items ++ rights a)) gave.asked.keeps.answer
    (subst (λ (most : Option ℕ). HasBest most kept (first.rows.items ++ rights middle.answer)) c.add_block-in-Set.ensures.limit more)))))
    c.add_block-in-Set-2.ensures.best
