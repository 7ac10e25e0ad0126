-- The pieces of a search are scored one behind another.
use Rattle.std.proofs.Common.{ℕ, List, ◌≡◌, ◌≤◌, ◌∙◌, ◌++◌, [], map, refl, sym, ap, subst, append_assoc, append-nil, arith}
use Rattle.std.specs.List.{flat_map}
use Rattle.std.specs.Prelude.{Option, Ok, Err}
use Rattle.rs_value.proofs.ResultFacts.{given-err}
use Rattle.rs_rank.specs.declared.row.RankRow.{RankRow}
use Rattle.rs_expr.specs.InOrder.{Inquires}
use Rattle.rs_expr.specs.Scoring.{Answering}
use Rattle.rs_query.specs.Combinations.{all_combinations}
use Rattle.rs_query.specs.Pieces.{combinations_between}
use Rattle.rs_query.specs.Questions.{asking}
use Rattle.rs_query.specs.Tables.{size_of}
use Rattle.rs_query.proofs.PieceFacts.{between-all, between-none}
use Rattle.rs_query.proofs.QuestionFacts.{AllAsked, AllAsked-more, AllAsked-none, Ended-behind, Failed-behind, Gave-behind, Stopped-within}
use Rattle.rs_plain.specs.Keeping.{HasBest, scored_for}
use Rattle.rs_plain.specs.Plain.{plain_faults, row_questions}
use Rattle.rs_plain.specs.declared.fault.PlainFault.TheVariants.{Memory}
use Rattle.rs_plain.proofs.BestFacts.{HasBest-all, HasBest-more}
use Rattle.rs_plain.proofs.PieceFacts.{flat_map-more, flat_map-parted, flat_map-piece, map-more}
use Rattle.rs_plain.proofs.limited.add_block.Goals as goal

pub returns-in_err-search-clause-asks : goal.returns-in_err-search-clause-asks
returns-in_err-search-clause-asks g c =
    let questions = flat_map (row_questions c.args.number c.args.block.now) (all_combinations c.args.catalog.now c.args.block.now) in
    let old = g.S.Scorer.state c.args.scorer.now in
    Stopped-within plain_faults Memory c.args.catalog.now {A = Unit {0}} [] questions questions tt c.from_residual.result old old refl
    (given-err c.from_residual.result Memory c.from_residual.ensures) (AllAsked-none old.answer c.args.catalog.now old)

pub loop-above-init : goal.loop-above-init
loop-above-init g c =
    let old = g.S.Scorer.state c.args.scorer.now in
    let none = sym (between-none c.args.catalog.now c.args.block.now 0) in
    let start = c.args.best.now.rows.items in
    let limit = c.args.best.now.limit in
    record {
      within = omega arith;
      search = c.in_ok-search.ensures;
      asked = subst (λ combinations. AllAsked old.answer c.args.catalog.now (flat_map (row_questions c.args.number c.args.block.now) combinations) old old) none
          (AllAsked-none old.answer c.args.catalog.now old);
      limit = refl;
      best = subst (λ combinations. HasBest limit start (start ++ map (scored_for old.answer c.args.catalog.now c.args.number c.args.block.now) combinations)) none
          (subst (HasBest limit start) (sym (append-nil start)) (HasBest-all limit start));
    }

pub returns-in_err-piece-clause-asks : goal.returns-in_err-piece-clause-asks
returns-in_err-piece-clause-asks g c =
    let catalogue = c.args.catalog.now in
    let block = c.args.block.now in
    let questions = flat_map (row_questions c.args.number block) in
    let above = c.loop-above.above in
    let size = size_of catalogue block 1 in
    let inside : above ≤ size = subst (λ n. above ≤ n) c.size_of-size.ensures.value c.loop-above.invariant.within in
    Stopped-within plain_faults Memory catalogue {A = Unit {0}} (questions (combinations_between catalogue block 0 above)) (questions (combinations_between catalogue block above size))
    (questions (all_combinations catalogue block)) tt c.from_residual-in_err-piece.result (g.S.Scorer.state c.args.scorer.now) (g.S.Scorer.state c.loop-above.scorer)
    (flat_map-parted catalogue block c.requires (row_questions c.args.number block) above inside)
    (given-err c.from_residual-in_err-piece.result Memory c.from_residual-in_err-piece.ensures) c.loop-above.invariant.asked

pub returns-in_err-add_rows-clause-asks : goal.returns-in_err-add_rows-clause-asks
returns-in_err-add_rows-clause-asks g c =
    let catalogue = c.args.catalog.now in
    let block = c.args.block.now in
    let questions = flat_map (row_questions c.args.number block) in
    let above = c.loop-above.above in
    let last = c.min-last.result in
    let size = size_of catalogue block 1 in
    let middle = g.S.Scorer.state c.loop-above.scorer in
    let new = g.S.Scorer.state c.add_rows.new.scorer in
    let fault = c.in_err-add_rows.field-0.0 in
    let is_size = c.size_of-size.ensures.value in
    let is_last = c.min-last.ensures in
    let some = c.rows_at_once-many.ensures.least in
    let more = c.loop-above-test.true in
    let up : above ≤ last = omega arith in
    let inside : last ≤ size = omega arith in
    Failed-behind plain_faults Memory catalogue {A = Unit {0}} {B = Unit {0}} (questions (combinations_between catalogue block 0 above)) (questions (combinations_between catalogue block above last))
    (questions (combinations_between catalogue block last size)) (questions (all_combinations catalogue block)) (λ (a : Answering). tt) tt fault
    c.from_residual-in_err-add_rows.result (g.S.Scorer.state c.args.scorer.now) middle new
    (flat_map-piece catalogue block c.requires (row_questions c.args.number block) above last up inside)
    (given-err c.from_residual-in_err-add_rows.result fault c.from_residual-in_err-add_rows.ensures) c.loop-above.invariant.asked
    (subst (λ combinations. Inquires Memory (asking plain_faults middle.answer catalogue (questions combinations) tt) (Err fault) middle new)
    (c.deref.ensures.value ∙ c.in_ok-piece.ensures.value) c.in_err-add_rows.ensures.asks)

pub loop-above-preserved : goal.loop-above-preserved
loop-above-preserved g c =
    let catalogue = c.args.catalog.now in
    let block = c.args.block.now in
    let questions = flat_map (row_questions c.args.number block) in
    let above = c.loop-above.above in
    let last = c.min-last.result in
    let old = g.S.Scorer.state c.args.scorer.now in
    let middle = g.S.Scorer.state c.loop-above.scorer in
    let new = g.S.Scorer.state c.add_rows.new.scorer in
    let first = combinations_between catalogue block 0 above in
    let piece = combinations_between catalogue block above last in
    let is_piece = c.deref.ensures.value ∙ c.in_ok-piece.ensures.value in
    let is_last = c.min-last.ensures in
    let some = c.rows_at_once-many.ensures.least in
    let more = c.loop-above-test.true in
    let low : 0 ≤ above = omega arith in
    let up : above ≤ last = omega arith in
    let start = c.args.best.now.rows.items in
    let limit = c.args.best.now.limit in
    let kept = c.loop-above.best.rows.items in
    let now_kept = c.add_rows.new.best.rows.items in
    let scored : Answering → List (List ℕ) → List RankRow = λ a combinations. map (scored_for a catalogue c.args.number block) combinations in
    let gave = Gave-behind plain_faults Memory catalogue {A = Unit {0}} (questions first) (questions piece) (λ (a : Answering). tt) c.in_ok-add_rows.field-0 old middle new c.loop-above.invariant.asked
    (subst (λ combinations. Inquires Memory (asking plain_faults middle.answer catalogue (questions combinations) tt) (Ok c.in_ok-add_rows.field-0) middle new)
    is_piece c.in_ok-add_rows.ensures.asks) in
    record {
      within = omega arith;
      search = c.between.ensures.search;
      asked = subst (λ asked. AllAsked old.answer catalogue asked old new) (flat_map-more catalogue block (row_questions c.args.number block) 0 above last low up)
          (AllAsked-more old.answer catalogue (questions first) (questions piece) old middle new c.loop-above.invariant.asked gave.asked);
      limit = c.add_rows.ensures.limit ∙ c.loop-above.invariant.limit;
      best = subst (HasBest limit now_kept)
          (append_assoc start (scored old.answer first) (scored old.answer piece)
          ∙ ap (λ rows. start ++ rows) (map-more catalogue block (scored_for old.answer catalogue c.args.number block) 0 above last low up))
          (HasBest-more limit kept (start ++ scored old.answer first) (scored old.answer piece) now_kept c.loop-above.invariant.best
          (subst (λ (a : Answering). HasBest limit now_kept (kept ++ scored a piece)) c.loop-above.invariant.asked.keeps.answer
          (subst (λ combinations. HasBest limit now_kept (kept ++ scored middle.answer combinations)) is_piece
          (subst (λ (most : Option ℕ). HasBest most now_kept (kept ++ scored middle.answer c.deref.result.now)) c.loop-above.invariant.limit c.in_ok-add_rows.ensures.best))));
    }

pub returns-clause-asks : goal.returns-clause-asks
returns-clause-asks g c =
    let catalogue = c.args.catalog.now in
    let block = c.args.block.now in
    let questions = flat_map (row_questions c.args.number block) in
    let is_size = c.size_of-size.ensures.value in
    let whole : c.loop-above.above ≡ size_of catalogue block 1 = (let within = c.loop-above.invariant.within in let none = c.loop-above-test.false in omega arith) in
    Ended-behind plain_faults Memory catalogue {A = Unit {0}} (questions (combinations_between catalogue block 0 c.loop-above.above)) (questions (all_combinations catalogue block)) tt tt
    (g.S.Scorer.state c.args.scorer.now) (g.S.Scorer.state c.loop-above.scorer)
    (ap questions (sym (ap (combinations_between catalogue block 0) whole ∙ between-all catalogue block c.requires))) refl c.loop-above.invariant.asked

pub returns-clause-best : goal.returns-clause-best
returns-clause-best g c =
    let catalogue = c.args.catalog.now in
    let block = c.args.block.now in
    let old = g.S.Scorer.state c.args.scorer.now in
    let is_size = c.size_of-size.ensures.value in
    let whole : c.loop-above.above ≡ size_of catalogue block 1 = (let within = c.loop-above.invariant.within in let none = c.loop-above-test.false in omega arith) in
    subst (λ combinations. HasBest c.args.best.now.limit c.loop-above.best.rows.items
    (c.args.best.now.rows.items ++ map (scored_for old.answer catalogue c.args.number block) combinations))
    (ap (combinations_between catalogue block 0) whole ∙ between-all catalogue block c.requires) c.loop-above.invariant.best
