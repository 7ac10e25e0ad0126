-- The definitions of runs that begin at a statement, computed on examples.
use Rattle.std.proofs.Common.{ℕ, zero, suc, ◌≡◌, ◌+◌, [], ◌∷◌, Some, refl}
use Rattle.std.specs.Prelude.{Err}
use Rattle.rs_syntax.specs.declared.name.Name.{Name}
use Rattle.rs_syntax.specs.Syntax.{Declare}
use Rattle.rs_syntax.specs.Syntax as syntax
use Rattle.rs_catalog.specs.Catalog.{CatalogDef}
use Rattle.rs_expr.specs.Scoring.{Answering}
use Rattle.rs_outside.specs.Files.{Contents, finds_in}
use Rattle.rs_events.specs.Events.{Put}
use Rattle.rs_events.specs.Run.{fails}
use Rattle.rs_events.specs.Sequence.{Step, lines_step, still}
use Rattle.rs_run.specs.declared.fault.RunFault.TheVariants.{NotEligible}
use Rattle.rs_run.specs.declared.fault.ScriptWord.TheVariants.{Ta}
use Rattle.rs_run.specs.Later.{Leads}
use Rattle.rs_run.specs.Numbered.{NumberedRun, numbered_step}
use Rattle.rs_run.specs.Rest.{EndsByFault, IsJoined, events_to}
use Rattle.rs_run.specs.Threshold.{DoesByScan}

-- commands that are numbers: each is put and added, and 0 ends the run
abbrev Adds : ℕ → ℕ → Step (Unit {0}) ℕ → Type 0
Adds sum zero step = step ≡ still (Err tt)
Adds sum (suc number) step = step ≡ lines_step ((suc number ∷ []) ∷ []) (sum + suc number)

-- two of them lead to their sum
leads : Leads Adds 5 (1 ∷ 2 ∷ []) 8
leads = (6, lines_step ((1 ∷ []) ∷ []) 6, refl, refl, (8, lines_step ((2 ∷ []) ∷ []) 8, refl, refl, refl))

events : events_to Adds 5 (1 ∷ 2 ∷ []) 8 leads ≡ Put (1 ∷ []) ∷ Put (2 ∷ []) ∷ []
unfolding leads
events = refl

-- the rest goes on from the sum, up to the 0
joined : IsJoined Adds 5 (1 ∷ 2 ∷ []) (3 ∷ 0 ∷ 4 ∷ []) (record { events = Put (1 ∷ []) ∷ Put (2 ∷ []) ∷ Put (3 ∷ []) ∷ []; fault = Some tt })
unfolding leads
joined = record {
  later = 8;
  leads = leads;
  goes_on = record {
    more = record { events = Put (3 ∷ []) ∷ []; fault = Some tt };
    is = (lines_step ((3 ∷ []) ∷ []) 11, refl, (fails tt, (still (Err tt), refl, refl), refl));
    run_is = refl;
  };
}

-- a 0 among the first ones ends the run, whatever stands behind it
ended : EndsByFault Adds 5 (1 ∷ 0 ∷ []) (record { events = Put (1 ∷ []) ∷ []; fault = Some tt })
ended = record { is = (lines_step ((1 ∷ []) ∷ []) 6, refl, (fails tt, (still (Err tt), refl, refl), refl)); fault = tt; is_fault = refl }

-- under `ta` a DECLARE behind six statements is told as the seventh, also where the run begins with it
seventh : (contents : Contents) (answer : Answering) (catalogue : CatalogDef) (name : Name) (query : syntax.Query)
    → NumberedRun (DoesByScan (finds_in contents) answer) (record { number = 7; kept = catalogue }) (Declare name query ∷ []) (fails (NotEligible Ta 7))
seventh contents answer catalogue name query =
    (numbered_step 7 (still (Err (NotEligible Ta 7))), (still (Err (NotEligible Ta 7)), refl, refl), refl)
