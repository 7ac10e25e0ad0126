-- Outcomes of runs, from what was done and what was reported.
use Rattle.std.proofs.Common.{◌≡◌, ◌∙◌, ◌++◌, List, [], ◌∷◌, ℕ, Some, None, refl, sym, ap, subst, inl, inr}
use Rattle.std.specs.Prelude.{Option, Ok, Err, ◌⊎◌}
use Rattle.rs_value.specs.Outside.{Faulted, Keeps, Outside}
use Rattle.rs_events.specs.Environment.{Environment, KeepsEnvironment, NoneFailed}
use Rattle.rs_events.specs.Events.{Event}
use Rattle.rs_outside.specs.Files.{finds_in}
use Rattle.rs_events.specs.HaltFaults.{Answers, IsFaultOf}
use Rattle.rs_events.specs.Halts.{CallFailed, Did, Done, Ended, FetchFailed, Halt, HaltsAt, NoMemory, PutFailed, halt_events}
use Rattle.rs_events.specs.Run.{fails}
use Rattle.rs_events.specs.Running.{Runs}
use Rattle.rs_statement.specs.declared.fault.Fault.TheVariants as of_statement
use Rattle.rs_run.specs.declared.fault.RunFault.{RunFault}
use Rattle.rs_run.specs.declared.fault.RunFault.TheVariants.{CertForm, CertTooLong, NotEligible, Order, Statement, Usage}
use Rattle.rs_events.specs.declared.status.Status.{Status}
use Rattle.rs_events.specs.declared.status.Status.TheVariants as status
use Rattle.rs_run.specs.Faults.{WordsRun, run_faults, status_of}
use Rattle.rs_run.specs.Outcome.{FormRunsTo, HasCause, Outcome, Reports, RunEnds}
use Rattle.rs_run.specs.Running.{OfForm}
use Rattle.rs_run.specs.Words.{Form}
use Rattle.rs_events.proofs.RanFacts.{Did-apart}
use Rattle.rs_statement.proofs.OwnFaults.{IsOwn}
use Rattle.rs_run.proofs.OwnRuns.{OwnFault, own_fault}

-- the report of a call that answers without a fault
Reports-ok : (fault : Option RunFault) (err : Outside (List (List ℕ))) → Answers run_faults.memory fault (Ok tt) → Reports fault status.Done err err
Reports-ok None err answers = (refl, refl)
Reports-ok (Some fault) err answers = absurd (elim answers [ inl e ↦ cc | inr e ↦ cc ])

-- the report of a call that answers a fault
Reports-fault : (fault : Option RunFault) (told : RunFault) (s : Status) (old new : Outside (List (List ℕ))) → Answers run_faults.memory fault (Err told) → Reports (Some told) s old new
    → Reports fault s old new
Reports-fault None told s old new answers reports = absurd cc
Reports-fault (Some fault) told s old new (inl e) reports = subst (λ f. Reports (Some f) s old new) (let same : told ≡ fault = cc in same) reports
Reports-fault (Some fault) told s old new (inr e) reports =
    elim (subst (λ f. Reports (Some f) s old new) (let same : told ≡ run_faults.memory = cc in same) reports) [
      | inl whole ↦ inr (whole.0, inr whole.1)
      | inr less ↦ inr less
    ]

-- what the report of a fault says of the status
status-reports : (fault : Option RunFault) (s : Status) (old new : Outside (List (List ℕ))) → Reports fault s old new → (s ≡ status_of fault) ⊎ (s ≡ status.Memory)
status-reports None s old new reports = inl reports.0
status-reports (Some fault) s old new (inl whole) = inl whole.0
status-reports (Some fault) s old new (inr less) = inr less.0

-- the fault of a run that ends with Done, with Usage, and with Write
is_done : (fault : Option RunFault) (s : Status) → (s ≡ status_of fault) ⊎ (s ≡ status.Memory) → s ≡ status.Done → fault ≡ None
is_done fault s (inr e) done = absurd cc
is_done None s (inl e) done = refl
is_done (Some Usage) s (inl e) done = absurd cc
is_done (Some (NotEligible word statement)) s (inl e) done = absurd cc
is_done (Some (Order name row before got)) s (inl e) done = absurd cc
is_done (Some (CertTooLong name)) s (inl e) done = absurd cc
is_done (Some (CertForm name place)) s (inl e) done = absurd cc
is_done (Some (Statement of_statement.Memory)) s (inl e) done = absurd cc
is_done (Some (Statement (of_statement.Read name why))) s (inl e) done = absurd cc
is_done (Some (Statement of_statement.Write)) s (inl e) done = absurd cc
is_done (Some (Statement (of_statement.Table name why))) s (inl e) done = absurd cc
is_done (Some (Statement (of_statement.BadScore predicate row got max))) s (inl e) done = absurd cc
is_done (Some (Statement (of_statement.Probe predicate))) s (inl e) done = absurd cc
is_done (Some (Statement (of_statement.Script why))) s (inl e) done = absurd cc
is_done (Some (Statement (of_statement.Session why name))) s (inl e) done = absurd cc

is_usage : (fault : Option RunFault) (s : Status) → (s ≡ status_of fault) ⊎ (s ≡ status.Memory) → s ≡ status.Usage → fault ≡ Some Usage
is_usage fault s (inr e) usage = absurd cc
is_usage None s (inl e) usage = absurd cc
is_usage (Some Usage) s (inl e) usage = refl
is_usage (Some (NotEligible word statement)) s (inl e) usage = absurd cc
is_usage (Some (Order name row before got)) s (inl e) usage = absurd cc
is_usage (Some (CertTooLong name)) s (inl e) usage = absurd cc
is_usage (Some (CertForm name place)) s (inl e) usage = absurd cc
is_usage (Some (Statement of_statement.Memory)) s (inl e) usage = absurd cc
is_usage (Some (Statement (of_statement.Read name why))) s (inl e) usage = absurd cc
is_usage (Some (Statement of_statement.Write)) s (inl e) usage = absurd cc
is_usage (Some (Statement (of_statement.Table name why))) s (inl e) usage = absurd cc
is_usage (Some (Statement (of_statement.BadScore predicate row got max))) s (inl e) usage = absurd cc
is_usage (Some (Statement (of_statement.Probe predicate))) s (inl e) usage = absurd cc
is_usage (Some (Statement (of_statement.Script why))) s (inl e) usage = absurd cc
is_usage (Some (Statement (of_statement.Session why name))) s (inl e) usage = absurd cc

is_write : (fault : Option RunFault) (s : Status) → (s ≡ status_of fault) ⊎ (s ≡ status.Memory) → s ≡ status.Write → fault ≡ Some (Statement of_statement.Write)
is_write fault s (inr e) write = absurd cc
is_write None s (inl e) write = absurd cc
is_write (Some Usage) s (inl e) write = absurd cc
is_write (Some (NotEligible word statement)) s (inl e) write = absurd cc
is_write (Some (Order name row before got)) s (inl e) write = absurd cc
is_write (Some (CertTooLong name)) s (inl e) write = absurd cc
is_write (Some (CertForm name place)) s (inl e) write = absurd cc
is_write (Some (Statement of_statement.Memory)) s (inl e) write = absurd cc
is_write (Some (Statement (of_statement.Read name why))) s (inl e) write = absurd cc
is_write (Some (Statement of_statement.Write)) s (inl e) write = refl
is_write (Some (Statement (of_statement.Table name why))) s (inl e) write = absurd cc
is_write (Some (Statement (of_statement.BadScore predicate row got max))) s (inl e) write = absurd cc
is_write (Some (Statement (of_statement.Probe predicate))) s (inl e) write = absurd cc
is_write (Some (Statement (of_statement.Script why))) s (inl e) write = absurd cc
is_write (Some (Statement (of_statement.Session why name))) s (inl e) write = absurd cc

is_probe : (fault : Option RunFault) (s : Status) → (s ≡ status_of fault) ⊎ (s ≡ status.Memory) → s ≡ status.Probe → (predicate : List ℕ) × (fault ≡ Some (Statement (of_statement.Probe predicate)))
is_probe fault s (inr e) probe = absurd cc
is_probe None s (inl e) probe = absurd cc
is_probe (Some Usage) s (inl e) probe = absurd cc
is_probe (Some (NotEligible word statement)) s (inl e) probe = absurd cc
is_probe (Some (Order name row before got)) s (inl e) probe = absurd cc
is_probe (Some (CertTooLong name)) s (inl e) probe = absurd cc
is_probe (Some (CertForm name place)) s (inl e) probe = absurd cc
is_probe (Some (Statement of_statement.Memory)) s (inl e) probe = absurd cc
is_probe (Some (Statement (of_statement.Read name why))) s (inl e) probe = absurd cc
is_probe (Some (Statement of_statement.Write)) s (inl e) probe = absurd cc
is_probe (Some (Statement (of_statement.Table name why))) s (inl e) probe = absurd cc
is_probe (Some (Statement (of_statement.BadScore predicate row got max))) s (inl e) probe = absurd cc
is_probe (Some (Statement (of_statement.Probe predicate))) s (inl e) probe = (predicate, refl)
is_probe (Some (Statement (of_statement.Script why))) s (inl e) probe = absurd cc
is_probe (Some (Statement (of_statement.Session why name))) s (inl e) probe = absurd cc

-- what a run did up to a halt, and what was reported of it
record Reported (run : WordsRun) (s : Status) (old new : Environment) : Type 0 where
  pub halt : Halt
  pub did : Did run.events halt old new
  pub fault : Option RunFault
  pub is_fault : IsFaultOf run_faults run.fault halt fault
  pub reports : Reports fault s old.err new.err

module _ (run : WordsRun) (s : Status) (old new : Environment) (o : Reported run s old new) where
  status-is : (s ≡ status_of o.fault) ⊎ (s ≡ status.Memory)
  status-is = status-reports o.fault s old.err new.err o.reports

  -- the status of a run with this fault, at its halt
  status-at : (fault : RunFault) → o.fault ≡ Some fault → (s ≡ status_of (Some fault)) ⊎ (s ≡ status.Memory)
  status-at fault e = subst (λ f. (s ≡ status_of f) ⊎ (s ≡ status.Memory)) e status-is

  all-done : o.did.rest ≡ [] → Done (o.did.done ++ []) old new → Done run.events old new
  all-done none all = subst (λ events. Done events old new) (sym (o.did.split ∙ ap (λ rest. o.did.done ++ rest) none)) all

  cause-of : HasCause run s old new
  cause-of = of_halt o.halt o.is_fault o.did.halts where
    of_halt : (halt : Halt) → IsFaultOf run_faults run.fault halt o.fault → HaltsAt halt o.did.rest old new → HasCause run s old new
    of_halt Ended is halts = inl (subst (λ f. (s ≡ status_of f) ⊎ (s ≡ status.Memory)) is status-is)
    of_halt NoMemory is halts = inl (inr (elim (status-at run_faults.memory is) [ inl e ↦ e | inr e ↦ e ]))
    of_halt (PutFailed part) is halts = elim (status-at run_faults.write is) [ inl e ↦ inr (inl (e, halts.4)) | inr e ↦ inl (inr e) ]
    of_halt (FetchFailed name) is halts =
        elim (status-at is.0 is.2) [ inl e ↦ inr (inr (inl (e ∙ ap (λ f. status_of (Some f)) is.1, halts.2))) | inr e ↦ inl (inr e) ]
    of_halt (CallFailed call) is halts = elim (status-at (run_faults.failed_call call) is) [ inl e ↦ inr (inr (inr (e, halts.2))) | inr e ↦ inl (inr e) ]

  well-of : s ≡ status.Done → (run.fault ≡ None) × Done run.events old new
  well-of done = of_halt o.halt o.is_fault (is_done o.fault s status-is done) o.did.halts o.did.all where
    of_halt : (halt : Halt) → IsFaultOf run_faults run.fault halt o.fault → o.fault ≡ None → HaltsAt halt o.did.rest old new
        → Done (o.did.done ++ halt_events halt) old new → (run.fault ≡ None) × Done run.events old new
    of_halt Ended is none halts all = (sym is ∙ none, all-done halts all)
    of_halt NoMemory is none halts all = absurd (let e = sym is ∙ none in cc)
    of_halt (PutFailed part) is none halts all = absurd (let e = sym is ∙ none in cc)
    of_halt (FetchFailed name) is none halts all = absurd (let e = sym is.2 ∙ none in cc)
    of_halt (CallFailed call) is none halts all = absurd (let e = sym is ∙ none in cc)

  complete-of : NoneFailed old new → RunEnds run s old new ⊎ (s ≡ status.Memory)
  complete-of none = of_halt o.halt o.is_fault o.did.halts o.did.all where
    of_halt : (halt : Halt) → IsFaultOf run_faults run.fault halt o.fault → HaltsAt halt o.did.rest old new → Done (o.did.done ++ halt_events halt) old new
        → RunEnds run s old new ⊎ (s ≡ status.Memory)
    of_halt Ended is halts all = elim (subst (λ f. (s ≡ status_of f) ⊎ (s ≡ status.Memory)) is status-is) [ inl e ↦ inl (record { status_is = e; all = all-done halts all }) | inr e ↦ inr e ]
    of_halt NoMemory is halts all = inr (elim (status-at run_faults.memory is) [ inl e ↦ e | inr e ↦ e ])
    of_halt (PutFailed part) is halts all = absurd (none.put halts.4)
    of_halt (FetchFailed name) is halts all = absurd (none.fetch halts.2)
    of_halt (CallFailed call) is halts all = absurd (none.call halts.2)

  outcome-of : Outcome run s old new
  outcome-of = record {
    halt = o.halt;
    did = o.did;
    fault = o.fault;
    is_fault = o.is_fault;
    reports = o.reports;
    cause = cause-of;
    well = well-of;
    complete = complete-of;
  }

-- what follows of the outcome of a run of this form
module _ (form : Option Form) (run : WordsRun) (s : Status) (old new : Environment) (is_run : OfForm (finds_in old.files.contents) old.scorer.answer form run)
    (o : Reported run s old new) where
  own : OwnFault form run.fault
  own = own_fault (finds_in old.files.contents) old.scorer.answer form run is_run

  -- it ends with Usage only where there is no form
  usage-outcome : s ≡ status.Usage → form ≡ None
  unfolding OwnFault
  usage-outcome usage = of_halt o.halt o.is_fault (is_usage o.fault s (status-is run s old new o) usage) where
    of_halt : (halt : Halt) → IsFaultOf run_faults run.fault halt o.fault → o.fault ≡ Some Usage → form ≡ None
    of_halt Ended is e = subst (OwnFault form) (sym is ∙ e) own
    of_halt NoMemory is e = absurd (let both = sym is ∙ e in cc)
    of_halt (PutFailed part) is e = absurd (let both = sym is ∙ e in cc)
    of_halt (FetchFailed name) is e = absurd (let both = sym (is.2 ∙ ap Some is.1) ∙ e in cc)
    of_halt (CallFailed call) is e = absurd (let both = sym is ∙ e in cc)

  -- where there is none, it ends with Usage, or there was no memory
  outcome-usage : form ≡ None → (s ≡ status.Usage) ⊎ (s ≡ status.Memory)
  outcome-usage none = of_halt o.halt o.is_fault o.did.halts where
    run_is : run ≡ fails Usage
    run_is = subst (λ form. OfForm (finds_in old.files.contents) old.scorer.answer form run) none is_run

    no_rest : (done rest : List Event) → [] ≡ done ++ rest → rest ≡ []
    no_rest [] rest e = sym e
    no_rest (event ∷ done) rest e = absurd cc

    rest_is : o.did.rest ≡ []
    rest_is = no_rest o.did.done o.did.rest (sym (ap (λ (run : WordsRun). run.events) run_is) ∙ o.did.split)

    of_halt : (halt : Halt) → IsFaultOf run_faults run.fault halt o.fault → HaltsAt halt o.did.rest old new → (s ≡ status.Usage) ⊎ (s ≡ status.Memory)
    of_halt Ended is halts = status-at run s old new o Usage (is ∙ ap (λ (run : WordsRun). run.fault) run_is)
    of_halt NoMemory is halts = inr (elim (status-at run s old new o run_faults.memory is) [ inl e ↦ e | inr e ↦ e ])
    of_halt (PutFailed part) is halts = absurd (let e = sym rest_is ∙ halts.2 in cc)
    of_halt (FetchFailed name) is halts = absurd (let e = sym rest_is ∙ halts.1 in cc)
    of_halt (CallFailed call) is halts = absurd (let e = sym rest_is ∙ halts.1 in cc)

  -- it ends with Write only where a put failed
  write-outcome : s ≡ status.Write → Faulted old.out new.out
  unfolding OwnFault IsOwn
  write-outcome write = of_halt o.halt o.is_fault (is_write o.fault s (status-is run s old new o) write) o.did.halts where
    of_halt : (halt : Halt) → IsFaultOf run_faults run.fault halt o.fault → o.fault ≡ Some (Statement of_statement.Write) → HaltsAt halt o.did.rest old new → Faulted old.out new.out
    of_halt Ended is e halts = absurd (subst (OwnFault form) (sym is ∙ e) own)
    of_halt NoMemory is e halts = absurd (let both = sym is ∙ e in cc)
    of_halt (PutFailed part) is e halts = halts.4
    of_halt (FetchFailed name) is e halts = absurd (let both = sym (is.2 ∙ ap Some is.1) ∙ e in cc)
    of_halt (CallFailed call) is e halts = absurd (let both = sym is ∙ e in cc)

  -- and with Probe only where a call did
  probe-outcome : s ≡ status.Probe → Faulted old.scorer.outside new.scorer.outside
  unfolding OwnFault IsOwn
  probe-outcome probe =
      let found = is_probe o.fault s (status-is run s old new o) probe in
      of_halt o.halt o.is_fault found.0 found.1 o.did.halts where
        of_halt : (halt : Halt) → IsFaultOf run_faults run.fault halt o.fault → (predicate : List ℕ) → o.fault ≡ Some (Statement (of_statement.Probe predicate)) → HaltsAt halt o.did.rest old new
            → Faulted old.scorer.outside new.scorer.outside
        of_halt Ended is predicate e halts = absurd (subst (OwnFault form) (sym is ∙ e) own)
        of_halt NoMemory is predicate e halts = absurd (let both = sym is ∙ e in cc)
        of_halt (PutFailed part) is predicate e halts = absurd (let both = sym is ∙ e in cc)
        of_halt (FetchFailed name) is predicate e halts = absurd (let both = sym (is.2 ∙ ap Some is.1) ∙ e in cc)
        of_halt (CallFailed call) is predicate e halts = halts.2

-- all that a run tells, from its outcome
pub record Tells (form : Option Form) (s : Status) (old new : Environment) : Type 0 where
  pub run : FormRunsTo form s old new
  pub usage : s ≡ status.Usage → form ≡ None
  pub no_form : form ≡ None → (s ≡ status.Usage) ⊎ (s ≡ status.Memory)
  pub write : s ≡ status.Write → Faulted old.out new.out
  pub probe : s ≡ status.Probe → Faulted old.scorer.outside new.scorer.outside
  pub keeps : KeepsEnvironment old new

tells : (form : Option Form) (run : WordsRun) (s : Status) (old new : Environment) → OfForm (finds_in old.files.contents) old.scorer.answer form run
    → Reported run s old new → KeepsEnvironment old new → Tells form s old new
tells form run s old new is o keeps = record {
  run = (run, is, outcome-of run s old new o);
  usage = usage-outcome form run s old new is o;
  no_form = outcome-usage form run s old new is o;
  write = write-outcome form run s old new is o;
  probe = probe-outcome form run s old new is o;
  keeps = keeps;
}

-- of a call that answers without a fault, and of one that answers a fault that is reported
pub tells-ok : (form : Option Form) (old new : Environment) → new.err ≡ old.err → Runs run_faults (OfForm (finds_in old.files.contents) old.scorer.answer form) (Ok tt) old new
    → Tells form status.Done old new
tells-ok form old new same ran =
    tells form ran.run status.Done old new ran.is
    (record {
      halt = ran.ran.halt;
      did = ran.ran.did;
      fault = ran.ran.fault;
      is_fault = ran.ran.is_fault;
      reports = subst (λ err. Reports ran.ran.fault status.Done old.err err) (sym same) (Reports-ok ran.ran.fault old.err ran.ran.answers);
    })
    ran.ran.keeps

pub tells-fault : (form : Option Form) (fault : RunFault) (s : Status) (old new : Environment) (err : Outside (List (List ℕ))) → Reports (Some fault) s old.err err → Keeps old.err err
    → Runs run_faults (OfForm (finds_in old.files.contents) old.scorer.answer form) (Err fault) old new → Tells form s old (record new { err = err })
tells-fault form fault s old new err reports keeps ran =
    tells form ran.run s old (record new { err = err }) ran.is
    (record {
      halt = ran.ran.halt;
      did = Did-apart ran.run.events ran.ran.halt old new old.err err old.references new.references ran.ran.did;
      fault = ran.ran.fault;
      is_fault = ran.ran.is_fault;
      reports = Reports-fault ran.ran.fault fault s old.err err ran.ran.answers reports;
    })
    (record { files = ran.ran.keeps.files; scorer = ran.ran.keeps.scorer; out = ran.ran.keeps.out; err = keeps; references = ran.ran.keeps.references })
