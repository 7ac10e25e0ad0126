use Rattle.std.proofs.Common.{◌≡◌, ◌++◌, map, take}
use Rattle.std.specs.List.{flat_map}
use Rattle.rs_plain.specs.Keeping.{HasBest, scored_for}
use Rattle.rs_plain.specs.Plain.{row_questions}
use Rattle.rs_query.proofs.QuestionFacts.{AllAsked}
use Rattle.rs_plain.proofs.limited.add_rows.Given as goal

-- the first combinations were asked for, and the best of them are kept
abbrev pub invariant-loop-rows : goal.invariant-loop-rows
invariant-loop-rows g l = record {
  asked : AllAsked (g.S.Scorer.state l.fn.scorer).answer l.catalog (flat_map (row_questions l.number l.block) (take l.rows-index l.combinations))
      (g.S.Scorer.state l.fn.scorer) (g.S.Scorer.state l.scorer);
  limit : l.best.limit ≡ l.fn.best.limit;
  best : HasBest l.fn.best.limit l.best.rows.items
      (l.fn.best.rows.items ++ map (scored_for (g.S.Scorer.state l.fn.scorer).answer l.catalog l.number l.block) (take l.rows-index l.combinations));
}
