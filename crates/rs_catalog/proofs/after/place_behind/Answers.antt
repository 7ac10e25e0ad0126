-- Entries are in order, so those behind one stand together.
use Rattle.std.proofs.Common.{◌∙◌, ap, not, of_calls, rules}
use Rattle.std.specs.Prelude.{Some}
use Rattle.std.specs.List.{filter}
use Rattle.std.proofs.lemmas.Fn.{always_returns_same}
use Rattle.rs_rank.specs.declared.scored_row.ScoredRow.{ScoredRow}
use Rattle.rs_catalog.specs.After.{is_behind}
use Rattle.rs_catalog.proofs.AfterFacts.{filter-end, filter-none, partitioned}
use Rattle.rs_catalog.proofs.after.place_behind.Goals as goal

pub returns-in-None-clause-behind : goal.returns-in-None-clause-behind
returns-in-None-clause-behind c = ap (λ after. filter (is_behind after) c.args.ranking.now) c.in-None.is ∙ filter-none c.args.ranking.now

pub returns-in-Some-clause-behind : goal.returns-in-Some-clause-behind
returns-in-Some-clause-behind c =
    let p = λ (e : ScoredRow). not (is_behind (Some (c.in-Some.score, c.in-Some.row)) e) in
    let key = always_returns_same _ _ _ (λ a r f k. search (rules, of_calls)) in
    let point = c.partition_point.ensures.partitioned p key (partitioned c.args.ranking.now c.in-Some.score c.in-Some.row c.requires) in
    ap (λ after. filter (is_behind after) c.args.ranking.now) c.in-Some.is
    ∙ filter-end (is_behind (Some (c.in-Some.score, c.in-Some.row))) c.args.ranking.now c.partition_point.result point.0 point.1
