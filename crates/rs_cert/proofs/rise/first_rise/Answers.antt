use Rattle.std.proofs.Common.{◌≡◌, ℕ, ◌+◌, ◌<◌, get_or, length, ◌++◌, ◌∷◌, [], List, take, sym, ◌∙◌, ap, subst, arith}
use Rattle.std.proofs.lemmas.Bool.{true≢false}
use Rattle.std.proofs.lemmas.List.{take_all, take_more}
use Rattle.rs_feed.specs.declared.feed_row.FeedRow.{FeedRow}
use Rattle.rs_cert.specs.Rows.{Falls, rises}
use Rattle.rs_cert.proofs.RowFacts.{Falls-push, falls-next, last-push, score_before}
use Rattle.rs_cert.proofs.rise.first_rise.Goals as goal

-- the rows up to the next one
more : (rows : List FeedRow) (i : ℕ) (row : FeedRow) → i < length rows → row ≡ get_or rows i row → take (i + 1) rows ≡ take i rows ++ row ∷ []
more rows i row within e = take_more rows i row within ∙ ap (λ r. take i rows ++ r ∷ []) (sym e)

pub returns-then-rises : goal.returns-then-rises
returns-then-rises c =
    let next = more c.args.rows.now c.loop-index.index c.index-rows-index.result c.loop-index-test.true c.index-rows-index.is in
    record {
      before = subst (λ n. Falls (take n c.args.rows.now)) (omega arith) c.loop-index.invariant.falls;
      there = λ falls.
          true≢false (sym (sym c.rises.ensures ∙ c.if-rises.true)
          ∙ ap (λ before. rises before c.index-rows-index.result.score) c.loop-index.invariant.before
          ∙ falls-next (take c.loop-index.index c.args.rows.now) c.index-rows-index.result (subst Falls next falls));
    }

pub loop-index-preserved : goal.loop-index-preserved
loop-index-preserved c =
    let next = more c.args.rows.now c.loop-index.index c.index-rows-index.result c.loop-index-test.true c.index-rows-index.is in
    record {
      falls = subst Falls (sym next) (Falls-push (take c.loop-index.index c.args.rows.now) c.index-rows-index.result c.loop-index.invariant.falls
          (ap (λ before. rises before c.index-rows-index.result.score) (sym c.loop-index.invariant.before) ∙ sym c.rises.ensures ∙ c.if-rises.false));
      before = sym (ap score_before next ∙ last-push (take c.loop-index.index c.args.rows.now) c.index-rows-index.result);
    }

pub returns : goal.returns
returns c = subst Falls (take_all c.loop-index.index c.args.rows.now (omega arith)) c.loop-index.invariant.falls
