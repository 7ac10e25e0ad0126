-- What a call did that makes a rank index.
use Rattle.std.specs.Prelude.{ℕ, ℤ, ◌≡◌, List, [], ◌∷◌, map, ok_or, option_map, Result, Ok, Err}
use Rattle.std.specs.declared.alloc.Global.{Global}
use Rattle.std.specs.declared.vec.Vec.{Vec}
use Rattle.rs_value.specs.declared.value.Value.{Value}
use Rattle.rs_expr.specs.Predicates.{PredicateDef}
use Rattle.rs_expr.specs.Scores.{score_within}
use Rattle.rs_expr.specs.Scoring.{Answering, ScorerState}
use Rattle.rs_expr.specs.InOrder.{Inquires, Inquiry}
use Rattle.rs_catalog.specs.Catalog.{CatalogDef, with_index}
use Rattle.rs_catalog.specs.Indexes.{args_in, asked_rows, row_request, scored_from}
use Rattle.rs_catalog.specs.declared.index.BoundArg.{BoundArg}
use Rattle.rs_catalog.specs.declared.index.IndexDef.{IndexDef}
use Rattle.rs_catalog.specs.declared.ranked.Ranked.{Ranked}
use Rattle.rs_rank.specs.declared.scored_row.ScoredRow.{ScoredRow}
use Rattle.rs_catalog.specs.declared.index.IndexFault.{IndexFault}
use Rattle.rs_catalog.specs.declared.index.IndexFault.TheVariants.{BadScore, Memory}

-- the rows of an answer, as contracts see them
abbrev pub as_ranking : Result (Vec ScoredRow Global) IndexFault → Result (List ScoredRow) IndexFault
as_ranking (Ok ranking) = Ok ranking.items
as_ranking (Err fault) = Err fault

-- the same of rows with their scores kept beside
abbrev pub as_ranked : Result Ranked IndexFault → Result (List ScoredRow) IndexFault
as_ranked (Ok ranked) = Ok ranked.ranking.items
as_ranked (Err fault) = Err fault

-- the same calls, with the scores in the order of the rows
abbrev pub scoring_of : Answering → PredicateDef → List BoundArg → List (List Value) → Inquiry (List ScoredRow) IndexFault
scoring_of answer predicate args rows =
    let scored = scored_from (λ row. answer predicate (args_in args row)) predicate.max 1 rows in
    record { requests = map (row_request predicate args) (asked_rows scored rows); outcome = scored }

-- a row with the number that it got, where that is a score
abbrev pub score_for : ℕ → ℕ → ℤ → Result ScoredRow IndexFault
score_for max row got = ok_or (option_map (λ score. record { score = score; row = row }) (score_within max got)) (BadScore row got max)

-- the call for one row, and the row with its score
abbrev pub scoring_row : Answering → PredicateDef → List BoundArg → ℕ → List Value → Inquiry ScoredRow IndexFault
scoring_row answer predicate args row values = record {
  requests = row_request predicate args values ∷ [];
  outcome = score_for predicate.max row (answer predicate (args_in args values));
}

-- what is answered of such a result
abbrev pub without_ranking : Result (List ScoredRow) IndexFault → Result (Unit {0}) IndexFault
without_ranking (Ok ranking) = Ok tt
without_ranking (Err fault) = Err fault

-- the catalogue behind such a result: the index joins it, or it is as before
abbrev pub catalogue_after : IndexDef → Result (List ScoredRow) IndexFault → CatalogDef → CatalogDef
catalogue_after def (Ok ranking) catalogue = with_index def ranking catalogue
catalogue_after def (Err fault) catalogue = catalogue

-- the ranking that was made joined the catalogue, or nothing did, and its fault is answered
pub record MakesIndex (making : Inquiry (List ScoredRow) IndexFault) (def : IndexDef) (old new : CatalogDef) (result : Result (Unit {0}) IndexFault) (before after : ScorerState) : Type 0 where
  pub ranking : Result (List ScoredRow) IndexFault
  pub inquires : Inquires Memory making ranking before after
  pub answers : result ≡ without_ranking ranking
  pub joins : new ≡ catalogue_after def ranking old
