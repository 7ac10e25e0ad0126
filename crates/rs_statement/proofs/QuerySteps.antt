-- What the step of a query did, from what binding and its calls did.
use Rattle.std.proofs.Common.{ℕ, ◌≡◌, ◌∙◌, List, [], ◌∷◌, map, ap, inl, inr}
use Rattle.std.specs.Prelude.{Result, Ok, Err}
use Rattle.rs_value.specs.Answer.{Gives}
use Rattle.rs_syntax.specs.Syntax as syntax
use Rattle.rs_value.specs.Results.{◌>>=◌}
use Rattle.rs_catalog.specs.Catalog.{CatalogDef}
use Rattle.rs_bind.specs.Queries.{bound_query}
use Rattle.rs_typing.specs.declared.fault.BindFault.{BindFault}
use Rattle.rs_typing.specs.declared.fault.BindFault.TheVariants as bind
use Rattle.rs_query.specs.Answers.{predicate_at}
use Rattle.rs_query.specs.declared.query.Query.{Query}
use Rattle.rs_query.specs.Questions.{Faults, Question, request_for}
use Rattle.rs_statement.specs.declared.fault.Fault.{Fault}
use Rattle.rs_statement.specs.declared.fault.Fault.TheVariants.{Memory, Probe}
use Rattle.rs_statement.specs.Statements.{bind_fault, explain_outcome, or_bind_fault}
use Rattle.rs_statement.specs.Steps.{statement_faults}
use Rattle.rs_events.proofs.InquirySteps.{TellFailedCalls}
use Rattle.rs_statement.proofs.StepFacts.{bound-ok}

-- each question's call is of the predicate that is told where it fails
pub Probes-questions : {F : Type 0} (faults : Faults F) (tells : F → Fault) (catalogue : CatalogDef) → ((number : ℕ) → tells (faults.failed number) ≡ Probe (predicate_at catalogue number).name)
    → (questions : List Question) → TellFailedCalls statement_faults tells (map (request_for faults catalogue) questions)
Probes-questions faults tells catalogue told [] = tt
Probes-questions faults tells catalogue told (question ∷ rest) = (told question.term.predicate, Probes-questions faults tells catalogue told rest)

-- what is bound, as a run tells it
pub Gives-bound : (bound : Result Query BindFault) (query : Query) → Gives bind.Memory bound (Ok query) → Gives Memory (or_bind_fault bound) (Ok query)
Gives-bound bound query (inl e) = inl (ap or_bind_fault e)
Gives-bound bound query (inr e) = absurd cc

pub Gives-unbound : (bound : Result Query BindFault) (why : BindFault) (fault : Fault) → Gives bind.Memory bound (Err why) → fault ≡ bind_fault why → Gives Memory (or_bind_fault bound) (Err fault)
Gives-unbound bound why fault (inl e) told = inl (ap Err told ∙ ap or_bind_fault e)
Gives-unbound bound why fault (inr e) told = inr (ap Err (told ∙ ap bind_fault (let same : why ≡ bind.Memory = cc in same)))

-- EXPLAIN leaves the catalogue as it is, or the query isn't bound
pub explained : (catalogue : CatalogDef) (query : syntax.Query) (bound : Query) → Gives bind.Memory (bound_query catalogue query) (Ok bound) → explain_outcome catalogue query ≡ Ok catalogue
explained catalogue query bound gives = ap (λ r. r >>= (λ bound. Ok catalogue)) (bound-ok (or_bind_fault (bound_query catalogue query)) bound (Gives-bound _ bound gives))
