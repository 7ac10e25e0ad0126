use Rattle.std.proofs.Common.{◌≡◌, ◌≤◌, min, arith}
use Rattle.rs_catalog.specs.Indexes.{ranking_at}
use Rattle.rs_query.specs.Answers.{predicate_at}
use Rattle.rs_query.specs.Tops.{first_score}
use Rattle.rs_bind.proofs.TopFacts.{low-by}
use Rattle.rs_bind.proofs.tops.top_by.Goals as goal

pub first_score-requires : goal.first_score-requires
first_score-requires c = rw c.in-Some.is at c.requires.within

-- no first score passes the greatest score of the predicate
pub returns-in-Some : goal.returns-in-Some
returns-in-Some c =
    let catalogue = c.args.catalog.now in
    let low : c.first_score.result ≤ (predicate_at catalogue c.args.predicate).max =
    low-by catalogue c.args.predicate c.in-Some.number c.first_score.result (rw c.in-Some.is at c.requires.within)
    (c.requires.index c.in-Some.number c.in-Some.is) c.first_score.ensures.low in
    let value = c.first_score.ensures.value in
    let same : c.first_score.result ≡ min (first_score (ranking_at catalogue c.in-Some.number)) (predicate_at catalogue c.args.predicate).max = omega arith in
    rw c.in-Some.is same
