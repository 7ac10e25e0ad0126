-- Questions behind others that were asked.
use Rattle.std.proofs.Common.{◌++◌, List, [], refl, sym, ap, append-nil}
use Rattle.std.specs.Prelude.{Result, Ok, Err}
use Rattle.rs_expr.specs.InOrder.{Inquires}
use Rattle.rs_expr.specs.Scoring.{ScorerState}
use Rattle.rs_catalog.specs.Catalog.{CatalogDef}
use Rattle.rs_query.specs.Questions.{Question, asking}
use Rattle.rs_query.proofs.QuestionFacts.{AllAsked, AllAsked-more, Ended-behind, Failed-behind, Gave-behind}
use Rattle.rs_plain.specs.Plain.{plain_faults}
use Rattle.rs_plain.specs.declared.fault.PlainFault.{PlainFault}
use Rattle.rs_plain.specs.declared.fault.PlainFault.TheVariants.{Memory}

-- an inquiry that gives no value, behind questions that had no bad answer
pub Asked-then : (catalogue : CatalogDef) (done next : List Question) (old middle new : ScorerState) (result : Result (Unit {0}) PlainFault) → AllAsked old.answer catalogue done old middle
    → Inquires Memory (asking plain_faults middle.answer catalogue next tt) result middle new → Inquires Memory (asking plain_faults old.answer catalogue (done ++ next) tt) result old new
Asked-then catalogue done next old middle new (Ok given) asked inquired =
    let also = Gave-behind plain_faults Memory catalogue {A = Unit {0}} done next (λ a. tt) given old middle new asked inquired in
    Ended-behind plain_faults Memory catalogue {A = Unit {0}} (done ++ next) (done ++ next) tt given old new refl also.is_value
    (AllAsked-more old.answer catalogue done next old middle new asked also.asked)
Asked-then catalogue done next old middle new (Err fault) asked inquired =
    Failed-behind plain_faults Memory catalogue {A = Unit {0}} {B = Unit {0}} done next [] (done ++ next) (λ a. tt) tt fault (Err fault) old middle new
    (ap (λ more. done ++ more) (sym (append-nil next))) refl asked inquired
