use Rattle.std.proofs.Common.{◌≡◌, ◌≤◌, ◌-◌, ◌++◌, map}
use Rattle.std.specs.List.{flat_map}
use Rattle.rs_query.specs.Pieces.{IsSearch, combinations_between}
use Rattle.rs_plain.specs.Keeping.{HasBest, scored_for}
use Rattle.rs_plain.specs.Plain.{row_questions}
use Rattle.rs_query.proofs.QuestionFacts.{AllAsked}
use Rattle.rs_plain.proofs.limited.add_block.Given as goal

-- the combinations up to a row of the first entry were asked for, and the best of them are kept
abbrev pub invariant-loop-above : goal.invariant-loop-above
invariant-loop-above g l = record {
  within : l.above ≤ l.size;
  search : IsSearch l.catalog l.block l.search;
  asked : AllAsked (g.S.Scorer.state l.fn.scorer).answer l.catalog (flat_map (row_questions l.number l.block) (combinations_between l.catalog l.block 0 l.above))
      (g.S.Scorer.state l.fn.scorer) (g.S.Scorer.state l.scorer);
  limit : l.best.limit ≡ l.fn.best.limit;
  best : HasBest l.fn.best.limit l.best.rows.items
      (l.fn.best.rows.items ++ map (scored_for (g.S.Scorer.state l.fn.scorer).answer l.catalog l.number l.block) (combinations_between l.catalog l.block 0 l.above));
}

abbrev pub decreases-loop-above : goal.decreases-loop-above
decreases-loop-above g l = l.size - l.above
