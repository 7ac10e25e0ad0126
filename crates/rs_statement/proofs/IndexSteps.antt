-- What the step of a rank index did, from what the catalogue did.
use Rattle.std.proofs.Common.{ℕ, ◌≡◌, ◌∙◌, List, [], ◌∷◌, map, Some, None, refl, sym, ap, subst, inl, append-nil}
use Rattle.std.specs.Prelude.{Result, Ok, Err, slice_get}
use Rattle.rs_rank.specs.declared.scored_row.ScoredRow.{ScoredRow}
use Rattle.rs_value.specs.declared.value.Value.{Value}
use Rattle.rs_expr.specs.InOrder.{Inquires}
use Rattle.rs_expr.specs.Predicates.{PredicateDef}
use Rattle.rs_expr.specs.Scoring.{Answering, ScorerState}
use Rattle.rs_catalog.specs.Catalog.{CatalogDef}
use Rattle.rs_catalog.specs.Indexes.{making, predicate_for, row_request}
use Rattle.rs_catalog.specs.Making.{MakesIndex, without_ranking, catalogue_after}
use Rattle.rs_catalog.specs.declared.index.BoundArg.{BoundArg}
use Rattle.rs_catalog.specs.declared.index.IndexDef.{IndexDef}
use Rattle.rs_catalog.specs.declared.index.IndexFault.{IndexFault}
use Rattle.rs_catalog.specs.declared.index.IndexFault.TheVariants as index
use Rattle.rs_statement.specs.declared.fault.Fault.{Fault}
use Rattle.rs_statement.specs.Parts.Steps.{Ran, Stepped}
use Rattle.rs_events.specs.Sequence.{run_of}
use Rattle.rs_events.specs.Events.{calls_in}
use Rattle.rs_statement.specs.Faults.{index_fault}
use Rattle.rs_statement.specs.Statements.{index_outcome, index_step}
use Rattle.rs_events.specs.Environment.{Environment}
use Rattle.rs_statement.specs.Steps.{statement_faults}
use Rattle.rs_events.proofs.InquirySteps.{TellFailedCalls, Ran-unasked, asked-ok}
use Rattle.rs_events.proofs.RanFacts.{Ran-all}
use Rattle.rs_events.proofs.SteppedFacts.{events-run_of, step_of}

-- what a ranking was where the call answered so
ranked-ok : (ranking : Result (List ScoredRow) IndexFault) → Ok tt ≡ without_ranking ranking → (entries : List ScoredRow) × (ranking ≡ Ok entries)
ranked-ok (Ok entries) e = (entries, refl)
ranked-ok (Err why) e = absurd cc

ranked-err : (ranking : Result (List ScoredRow) IndexFault) (why : IndexFault) → Err why ≡ without_ranking ranking → ranking ≡ Err why
ranked-err (Ok entries) why e = absurd cc
ranked-err (Err other) why e = let same : other ≡ why = cc in ap Err same

-- each call is of the index's predicate
Probes-index : (predicate : PredicateDef) (args : List BoundArg) (rows : List (List Value)) → TellFailedCalls statement_faults (index_fault predicate.name) (map (row_request predicate args) rows)
Probes-index predicate args [] = tt
Probes-index predicate args (row ∷ rest) = (refl, Probes-index predicate args rest)

module _ (answer : Answering) (catalogue new : CatalogDef) (def : IndexDef) (environment : Environment) (scorer : ScorerState) where
  -- the index was made
  pub Index-made : MakesIndex (making answer catalogue def) def catalogue new (Ok tt) environment.scorer scorer
      → Stepped (λ step. step ≡ index_step answer catalogue def) new (Ok tt) environment (record environment { scorer = scorer })
  Index-made makes =
      let ranked = ranked-ok makes.ranking makes.answers in
      let asked = asked-ok index.Memory (making answer catalogue def) ranked.0 environment scorer
      (subst (λ r. Inquires index.Memory (making answer catalogue def) r environment.scorer scorer) ranked.1 makes.inquires) in record {
        step = index_step answer catalogue def;
        does = refl;
        ran = subst (λ r. Ran (run_of (step_of (calls_in (making answer catalogue def)) (index_outcome catalogue def r))) (Ok tt) environment (record environment { scorer = scorer })) (sym asked.given)
            (Ran-all (record { events = calls_in (making answer catalogue def); fault = None }) (Ok tt) environment (record environment { scorer = scorer }) asked.has refl);
        leaves = ap (index_outcome catalogue def) asked.given ∙ ap Ok (sym (makes.joins ∙ ap (λ r. catalogue_after def r catalogue) ranked.1));
      }

  -- it wasn't
  pub Index-unmade : (why : IndexFault) (fault : Fault) → MakesIndex (making answer catalogue def) def catalogue new (Err why) environment.scorer scorer → fault ≡ index_fault (predicate_for catalogue def).name why
      → Stepped (λ step. step ≡ index_step answer catalogue def) new (Err fault) environment (record environment { scorer = scorer })
  Index-unmade why fault makes told = record {
    step = index_step answer catalogue def;
    does = refl;
    ran = Ran-unasked (index_fault (predicate_for catalogue def).name) index.Memory (making answer catalogue def) why environment scorer (run_of (index_step answer catalogue def)) [] fault
        (Probes-index (predicate_for catalogue def) def.args _) refl (events-run_of (calls_in (making answer catalogue def)) (index_outcome catalogue def (making answer catalogue def).outcome) ∙ sym (append-nil (calls_in (making answer catalogue def))))
        (λ e. ap (λ r. run_of (step_of (calls_in (making answer catalogue def)) (index_outcome catalogue def r))) e) (inl told)
        (subst (λ r. Inquires index.Memory (making answer catalogue def) r environment.scorer scorer) (ranked-err makes.ranking why makes.answers) makes.inquires);
    leaves = tt;
  }

-- the name of the predicate of an index
pub name-for : (catalogue : CatalogDef) (def : IndexDef) (predicate : PredicateDef) (name : List ℕ) → slice_get catalogue.predicates def.predicate ≡ Some predicate → name ≡ predicate.name
    → name ≡ (predicate_for catalogue def).name
name-for catalogue def predicate name e n = n ∙ (rw e refl)
