-- The rows so far were put, and those that are put next are the ones behind them.
use Rattle.std.proofs.Common.{ℕ, ◌≡◌, ◌∙◌, ◌≤◌, ◌+◌, ◌-◌, List, arith, ap, length, map, min, refl, subst, sym, take}
use Rattle.std.specs.Prelude.{Ok, Result}
use Rattle.std.proofs.lemmas.List.{length-map}
use Rattle.rs_value.proofs.ResultFacts.{given-err}
use Rattle.rs_rank.specs.declared.answer.Answer.{Answer}
use Rattle.rs_view.specs.Views.{rows_in}
use Rattle.rs_view.proofs.PieceFacts.{take-within}
use Rattle.rs_query.specs.Blocks.{block_in}
use Rattle.rs_plain.specs.Keeping.{answer_for}
use Rattle.rs_events.specs.Events.{Put}
use Rattle.rs_events.specs.Run.{lines_run}
use Rattle.rs_events.specs.Running.{HasDone}
use Rattle.rs_events.proofs.RanFacts.{HasDone-none, Ran-all}
use Rattle.rs_statement.specs.declared.fault.Fault.{Fault}
use Rattle.rs_statement.specs.Lines.{rank_lines}
use Rattle.rs_statement.specs.Parts.Steps.{Ran}
use Rattle.rs_run.proofs.PutSteps.{HasDone-some, Ran-some}
use Rattle.rs_run.proofs.views.put_first.Goals as goal

-- how many rows there are, and how many of them are wanted
few : (count given some wanted view_len row_count : ℕ) → wanted ≡ min count view_len → row_count ≡ view_len → some ≡ min 64 (wanted - given) → given ≤ wanted
    → (given + some ≤ count) × (given ≤ row_count) × (given + some ≤ wanted)
few count given some wanted view_len row_count first same more within = (omega (arith, first, more), omega (arith, first, same), omega (arith, more))

pub loop-given-init : goal.loop-given-init
loop-given-init g c = record { has = λ beside. HasDone-none (record beside { out = g.O.Sink.state c.args.out.now }); within = omega arith }

pub loop-given-preserved : goal.loop-given-preserved
loop-given-preserved g c =
    let rows = rows_in c.args.catalog.now c.args.view.now in
    let given = c.loop-given.given in
    let some = c.min-some.result in
    let all : length rows ≡ c.len.result = length-map c.args.view.now.rows (answer_for c.args.catalog.now (block_in c.args.view.now.query 1)) ∙ sym c.len.ensures in
    let bounds = few c.args.count given some c.min-wanted.result c.len.result (length rows) (omega (arith, c.min-wanted.ensures)) all (omega (arith, c.min-some.ensures)) c.loop-given.invariant.within in
    record {
      has = λ beside. HasDone-some rows given some (record beside { out = g.O.Sink.state c.args.out.now }) (record beside { out = g.O.Sink.state c.loop-given.out }) (record beside { out = g.O.Sink.state c.put_some.new.out })
          bounds.1 (c.loop-given.invariant.has beside) (c.in_ok-put_some.ensures beside);
      within = bounds.2;
    }

pub returns-in_err-put_some : goal.returns-in_err-put_some
returns-in_err-put_some g c = λ beside.
    let rows = rows_in c.args.catalog.now c.args.view.now in
    let given = c.loop-given.given in
    let some = c.min-some.result in
    let all : length rows ≡ c.len.result = length-map c.args.view.now.rows (answer_for c.args.catalog.now (block_in c.args.view.now.query 1)) ∙ sym c.len.ensures in
    let bounds = few c.args.count given some c.min-wanted.result c.len.result (length rows) (omega (arith, c.min-wanted.ensures)) all (omega (arith, c.min-some.ensures)) c.loop-given.invariant.within in
    let old = record beside { out = g.O.Sink.state c.args.out.now } in
    let new = record beside { out = g.O.Sink.state c.put_some.new.out } in
    subst (λ (result : Result (Unit {0}) Fault). Ran (lines_run (rank_lines 1 (take c.args.count rows))) result old new) (sym (given-err c.from_residual.result c.in_err-put_some.field-0.0 c.from_residual.ensures))
    (Ran-some rows c.args.count given some c.in_err-put_some.field-0.0 old (record beside { out = g.O.Sink.state c.loop-given.out }) new
    bounds.0 bounds.1 (c.loop-given.invariant.has beside) (c.in_err-put_some.ensures beside))

pub returns : goal.returns
returns g c = λ beside.
    let rows = rows_in c.args.catalog.now c.args.view.now in
    let given = c.loop-given.given in
    let all : length rows ≡ c.len.result = length-map c.args.view.now.rows (answer_for c.args.catalog.now (block_in c.args.view.now.query 1)) ∙ sym c.len.ensures in
    let end : given ≡ min c.args.count (length rows) = omega (arith, c.min-wanted.ensures, all, c.loop-given.invariant.within, c.loop-given-test.false) in
    let old = record beside { out = g.O.Sink.state c.args.out.now } in
    let new = record beside { out = g.O.Sink.state c.loop-given.out } in
    Ran-all (lines_run (rank_lines 1 (take c.args.count rows))) (Ok tt) old new
    (subst (λ (some : List Answer). HasDone (map Put (rank_lines 1 some)) old new) (ap (λ (n : ℕ). take n rows) end ∙ take-within c.args.count rows) (c.loop-given.invariant.has beside)) refl
