use Rattle.std.proofs.Common.{◌≡◌, ◌∙◌, List, map, take, ap}
use Rattle.std.proofs.lemmas.Simd.{map-map}
use Rattle.rs_value.specs.declared.value.Value.{Value}
use Rattle.rs_expr.specs.InOrder.{Request, calls_of}
use Rattle.rs_expr.specs.Predicates.{PredicateDef}
use Rattle.rs_expr.specs.Scoring.{call_of}
use Rattle.rs_catalog.specs.Indexes.{args_in, row_request}
use Rattle.rs_catalog.specs.declared.index.BoundArg.{BoundArg}
use Rattle.rs_catalog.specs.declared.index.IndexFault.{IndexFault}
use Rattle.rs_catalog.proofs.RankingFacts.{IsFirstBad-made, IsRanking-made, asked_rows-bad, asked_rows-made, scores-made}
use Rattle.rs_catalog.proofs.laws.rankings_are_in_order.Goals as goal

-- the calls for some rows
calls_for : (predicate : PredicateDef) (args : List BoundArg) (rows : List (List Value)) → calls_of (map (row_request predicate args) rows) ≡ map (λ row. call_of predicate (args_in args row)) rows
calls_for predicate args rows = map-map (λ (request : Request IndexFault). request.call) (row_request predicate args) rows

pub returns-clause-ranking : goal.returns-clause-ranking
returns-clause-ranking c answer predicate args rows ranking e = IsRanking-made (λ row. answer predicate (args_in args row)) predicate.max rows ranking e

pub returns-clause-scores : goal.returns-clause-scores
returns-clause-scores c answer predicate args rows ranking e = scores-made (λ row. answer predicate (args_in args row)) predicate.max rows ranking e

pub returns-clause-calls : goal.returns-clause-calls
returns-clause-calls c answer predicate args rows ranking e =
    ap (λ asked. calls_of (map (row_request predicate args) asked)) (asked_rows-made (λ row. answer predicate (args_in args row)) predicate.max rows ranking e) ∙ calls_for predicate args rows

pub returns-clause-bad : goal.returns-clause-bad
returns-clause-bad c answer predicate args rows fault e = IsFirstBad-made (λ row. answer predicate (args_in args row)) predicate.max rows fault e

pub returns-clause-bad_calls : goal.returns-clause-bad_calls
returns-clause-bad_calls c answer predicate args rows row got max e =
    ap (λ asked. calls_of (map (row_request predicate args) asked)) (asked_rows-bad (λ row. answer predicate (args_in args row)) predicate.max rows row got max e) ∙ calls_for predicate args (take row rows)
