-- Events that were done, and runs up to their halts.
use Rattle.std.proofs.Common.{ℕ, ◌≡◌, ◌∙◌, ◌++◌, List, [], ◌∷◌, map, Some, None, refl, sym, ap, subst, inl, inr, append_assoc, append-nil}
use Rattle.std.specs.Prelude.{Option, Result, Ok, Err, option_map}
use Rattle.rs_value.specs.Outside.{Counts, Faulted, Keeps, Outside}
use Rattle.rs_value.proofs.OutsideFacts.{Faulted-from, Faulted-one, Keeps-refl, Keeps-then}
use Rattle.rs_outside.specs.Files.{FilesState, KeepsFiles}
use Rattle.rs_outside.proofs.ContentsFacts.{KeepsFiles-refl, KeepsFiles-then}
use Rattle.rs_outside.specs.Sink.{IsPrefix, Puts}
use Rattle.rs_outside.specs.declared.sink.SinkFault.{SinkFault}
use Rattle.rs_outside.specs.declared.sink.SinkFault.TheVariants.{Failed, Memory}
use Rattle.rs_expr.specs.Scoring.{KeepsScorer, Made, ScorerState}
use Rattle.rs_expr.specs.declared.scorer.Call.{Call}
use Rattle.rs_expr.proofs.ScoringFacts.{KeepsScorer-refl, KeepsScorer-then, Made-append, Made-none}
use Rattle.rs_events.specs.Environment.{Environment, KeepsEnvironment}
use Rattle.rs_events.specs.Events.{Event, Fetch, Put, Score, calls, fetches, puts}
use Rattle.rs_events.specs.HaltFaults.{Answers, HaltFaults, IsFaultOf, put_fault}
use Rattle.rs_events.specs.Halts.{CallFailed, Did, Done, Ended, FetchFailed, Halt, HaltsAt, NoMemory, PutFailed, fetched_more, halt_events}
use Rattle.rs_events.specs.Run.{Run, behind, lines_run}
use Rattle.rs_events.specs.Running.{HasDone, Ran, Runs}

-- events, and others behind them
pub fetches-append : (a b : List Event) → fetches (a ++ b) ≡ fetches a ++ fetches b
fetches-append [] b = refl
fetches-append (Fetch name ∷ rest) b = ap (λ more. name ∷ more) (fetches-append rest b)
fetches-append (Score call ∷ rest) b = fetches-append rest b
fetches-append (Put bytes ∷ rest) b = fetches-append rest b

pub calls-append : (a b : List Event) → calls (a ++ b) ≡ calls a ++ calls b
calls-append [] b = refl
calls-append (Fetch name ∷ rest) b = calls-append rest b
calls-append (Score call ∷ rest) b = ap (λ more. call ∷ more) (calls-append rest b)
calls-append (Put bytes ∷ rest) b = calls-append rest b

pub puts-append : (a b : List Event) → puts (a ++ b) ≡ puts a ++ puts b
puts-append [] b = refl
puts-append (Fetch name ∷ rest) b = puts-append rest b
puts-append (Score call ∷ rest) b = puts-append rest b
puts-append (Put bytes ∷ rest) b = ap (λ more. bytes ∷ more) (puts-append rest b)

-- calls alone
pub fetches-scores : (made : List Call) → fetches (map Score made) ≡ []
fetches-scores [] = refl
fetches-scores (call ∷ rest) = fetches-scores rest

pub calls-scores : (made : List Call) → calls (map Score made) ≡ made
calls-scores [] = refl
calls-scores (call ∷ rest) = ap (λ more. call ∷ more) (calls-scores rest)

pub puts-scores : (made : List Call) → puts (map Score made) ≡ []
puts-scores [] = refl
puts-scores (call ∷ rest) = puts-scores rest

pub map-both : {A B : Type 0} (f : A → B) (a b : List A) → map f (a ++ b) ≡ map f a ++ map f b
map-both f [] b = refl
map-both f (x ∷ rest) b = ap (λ more. f x ∷ more) (map-both f rest b)

-- what is told stays as it is where nothing is added, and what is added is added behind
pub told-none : {A : Type 0} (told : Option (List A)) → told ≡ option_map (λ held. held ++ []) told
told-none None = refl
told-none (Some held) = ap Some (sym (append-nil held))

pub told-more : {A : Type 0} (first more : List A) (told : Option (List A))
    → option_map (λ held. held ++ more) (option_map (λ held. held ++ first) told) ≡ option_map (λ held. held ++ (first ++ more)) told
told-more first more None = refl
told-more first more (Some held) = ap Some (append_assoc held first more)

-- no event, and events behind others
pub Done-none : (environment : Environment) → Done [] environment environment
Done-none environment = record { fetched = told-none environment.files.outside.told; called = Made-none environment.scorer; put = told-none environment.out.told }

pub Done-append : (first more : List Event) (old middle new : Environment) → Done first old middle → Done more middle new → Done (first ++ more) old new
Done-append first more old middle new one two = record {
  fetched = two.fetched ∙ ap (option_map (fetched_more (fetches more))) one.fetched ∙ told-more (fetches first) (fetches more) old.files.outside.told
      ∙ ap (λ names. option_map (fetched_more names) old.files.outside.told) (sym (fetches-append first more));
  called = subst (λ all. Made all old.scorer new.scorer) (sym (calls-append first more))
      (Made-append (calls first) (calls more) old.scorer middle.scorer new.scorer one.called two.called);
  put = two.put ∙ ap (option_map (λ held. held ++ puts more)) one.put ∙ told-more (puts first) (puts more) old.out.told
      ∙ ap (λ all. option_map (λ held. held ++ all) old.out.told) (sym (puts-append first more));
}

pub KeepsEnvironment-refl : (environment : Environment) → KeepsEnvironment environment environment
KeepsEnvironment-refl environment = record { files = KeepsFiles-refl environment.files; scorer = KeepsScorer-refl environment.scorer; out = Keeps-refl environment.out; err = Keeps-refl environment.err; references = refl }

pub KeepsEnvironment-then : (old middle new : Environment) → KeepsEnvironment old middle → KeepsEnvironment middle new → KeepsEnvironment old new
KeepsEnvironment-then old middle new one two = record {
  files = KeepsFiles-then old.files middle.files new.files one.files two.files;
  scorer = KeepsScorer-then old.scorer middle.scorer new.scorer one.scorer two.scorer;
  out = Keeps-then old.out middle.out new.out one.out two.out;
  err = Keeps-then old.err middle.err new.err one.err two.err;
  references = two.references ∙ one.references;
}

pub HasDone-none : (environment : Environment) → HasDone [] environment environment
HasDone-none environment = record { all = Done-none environment; keeps = KeepsEnvironment-refl environment }

pub HasDone-append : (first more : List Event) (old middle new : Environment) → HasDone first old middle → HasDone more middle new → HasDone (first ++ more) old new
HasDone-append first more old middle new one two = record {
  all = Done-append first more old middle new one.all two.all;
  keeps = KeepsEnvironment-then old middle new one.keeps two.keeps;
}

-- what was done with one of the objects, beside others that stay as they are
pub HasDone-files : (environment : Environment) (files : FilesState) (events : List Event) → files.outside.told ≡ option_map (fetched_more (fetches events)) environment.files.outside.told
    → calls events ≡ [] → puts events ≡ [] → KeepsFiles environment.files files → HasDone events environment (record environment { files = files })
HasDone-files environment files events fetched uncalled unput keeps = record {
  all = record {
    fetched = fetched;
    called = subst (λ all. Made all environment.scorer environment.scorer) (sym uncalled) (Made-none environment.scorer);
    put = told-none environment.out.told ∙ ap (λ all. option_map (λ held. held ++ all) environment.out.told) (sym unput);
  };
  keeps = record { files = keeps; scorer = KeepsScorer-refl environment.scorer; out = Keeps-refl environment.out; err = Keeps-refl environment.err; references = refl };
}

pub HasDone-scorer : (environment : Environment) (scorer : ScorerState) (made : List Call) → Made made environment.scorer scorer → KeepsScorer environment.scorer scorer
    → HasDone (map Score made) environment (record environment { scorer = scorer })
HasDone-scorer environment scorer made called keeps = record {
  all = record {
    fetched = told-none environment.files.outside.told ∙ ap (λ names. option_map (fetched_more names) environment.files.outside.told) (sym (fetches-scores made));
    called = subst (λ all. Made all environment.scorer scorer) (sym (calls-scores made)) called;
    put = told-none environment.out.told ∙ ap (λ all. option_map (λ held. held ++ all) environment.out.told) (sym (puts-scores made));
  };
  keeps = record { files = KeepsFiles-refl environment.files; scorer = keeps; out = Keeps-refl environment.out; err = Keeps-refl environment.err; references = refl };
}

pub HasDone-out : (environment : Environment) (out : Outside (List (List ℕ))) (events : List Event) → out.told ≡ option_map (λ held. held ++ puts events) environment.out.told
    → fetches events ≡ [] → calls events ≡ [] → Keeps environment.out out → HasDone events environment (record environment { out = out })
HasDone-out environment out events put unfetched uncalled keeps = record {
  all = record {
    fetched = told-none environment.files.outside.told ∙ ap (λ names. option_map (fetched_more names) environment.files.outside.told) (sym unfetched);
    called = subst (λ all. Made all environment.scorer environment.scorer) (sym uncalled) (Made-none environment.scorer);
    put = put;
  };
  keeps = record { files = KeepsFiles-refl environment.files; scorer = KeepsScorer-refl environment.scorer; out = keeps; err = Keeps-refl environment.err; references = refl };
}

-- all events of a run were done
pub Ran-all : {F : Type 0} {faults : HaltFaults F} (run : Run F) (result : Result (Unit {0}) F) (old new : Environment) → HasDone run.events old new
    → Answers faults.memory run.fault result → Ran faults run result old new
Ran-all run result old new has answers = record {
  halt = Ended;
  did = record {
    done = run.events;
    rest = [];
    split = sym (append-nil run.events);
    halts = refl;
    all = subst (λ events. Done events old new) (sym (append-nil run.events)) has.all;
  };
  fault = run.fault;
  is_fault = refl;
  answers = answers;
  keeps = has.keeps;
}

-- there was no memory to go on
pub Ran-no_memory : {F : Type 0} {faults : HaltFaults F} (run : Run F) (done rest : List Event) (old new : Environment) → run.events ≡ done ++ rest → HasDone done old new
    → Ran faults run (Err faults.memory) old new
Ran-no_memory {F} {faults} run done rest old new split has = record {
  halt = NoMemory;
  did = record { done = done; rest = rest; split = split; halts = tt; all = subst (λ events. Done events old new) (sym (append-nil done)) has.all };
  fault = Some faults.memory;
  is_fault = refl;
  answers = inl refl;
  keeps = has.keeps;
}

pub Ran-first : {F : Type 0} {faults : HaltFaults F} (run : Run F) (environment : Environment) → Ran faults run (Err faults.memory) environment environment
Ran-first run environment = Ran-no_memory run [] run.events environment environment refl (HasDone-none environment)

-- what comes behind a part of a run doesn't matter to a halt before its end
HaltsAt-more : (halt : Halt) (rest more : List Event) (old new : Environment) → (halt ≡ Ended → ⊥) → HaltsAt halt rest old new → HaltsAt halt (rest ++ more) old new
HaltsAt-more Ended rest more old new unended halts = absurd (unended refl)
HaltsAt-more NoMemory rest more old new unended halts = tt
HaltsAt-more (PutFailed part) rest more old new unended halts = (halts.0, halts.1 ++ more, ap (λ all. all ++ more) halts.2, halts.3, halts.4)
HaltsAt-more (FetchFailed name) rest more old new unended halts = (halts.0 ++ more, ap (λ all. all ++ more) halts.1, halts.2)
HaltsAt-more (CallFailed call) rest more old new unended halts = (halts.0 ++ more, ap (λ all. all ++ more) halts.1, halts.2)

-- the fault of a run that broke off is not the run's own
IsFaultOf-broken : {F : Type 0} (faults : HaltFaults F) (a b : Option F) (halt : Halt) (fault : Option F) → (halt ≡ Ended → ⊥) → IsFaultOf faults a halt fault → IsFaultOf faults b halt fault
IsFaultOf-broken faults a b Ended fault unended is = absurd (unended refl)
IsFaultOf-broken faults a b NoMemory fault unended is = is
IsFaultOf-broken faults a b (PutFailed part) fault unended is = is
IsFaultOf-broken faults a b (FetchFailed name) fault unended is = is
IsFaultOf-broken faults a b (CallFailed call) fault unended is = is

-- a run that broke off is the beginning of each run that goes on from it
pub Ran-longer : {F : Type 0} {faults : HaltFaults F} (events : List Event) (more : Run F) (fault : F) (old new : Environment) → Ran faults (record { events = events; fault = None }) (Err fault) old new
    → Ran faults (behind events more) (Err fault) old new
Ran-longer {F} {faults} events more fault old new ran = record {
  halt = ran.halt;
  did = record {
    done = ran.did.done;
    rest = ran.did.rest ++ more.events;
    split = ap (λ all. all ++ more.events) ran.did.split ∙ append_assoc ran.did.done ran.did.rest more.events;
    halts = HaltsAt-more ran.halt ran.did.rest more.events old new unended ran.did.halts;
    all = ran.did.all;
  };
  fault = ran.fault;
  is_fault = IsFaultOf-broken faults None more.fault ran.halt ran.fault unended ran.is_fault;
  answers = ran.answers;
  keeps = ran.keeps;
} where
  unended : ran.halt ≡ Ended → ⊥
  unended e =
      let none : ran.fault ≡ None = subst (λ halt. IsFaultOf faults None halt ran.fault) e ran.is_fault in
      let answers : Err fault ≡ Ok tt = subst (λ f. Answers faults.memory f (Err fault)) none ran.answers in cc

-- a halt behind what was done before
HaltsAt-later : (halt : Halt) (rest : List Event) (old middle new : Environment) → KeepsEnvironment old middle → HaltsAt halt rest middle new → HaltsAt halt rest old new
HaltsAt-later Ended rest old middle new keeps halts = halts
HaltsAt-later NoMemory rest old middle new keeps halts = tt
HaltsAt-later (PutFailed part) rest old middle new keeps halts =
    (halts.0, halts.1, halts.2, halts.3, Faulted-from old.out middle.out new.out keeps.out halts.4)
HaltsAt-later (FetchFailed name) rest old middle new keeps halts = (halts.0, halts.1, Faulted-from old.files.outside middle.files.outside new.files.outside keeps.files.outside halts.2)
HaltsAt-later (CallFailed call) rest old middle new keeps halts =
    (halts.0, halts.1, Faulted-from old.scorer.outside middle.scorer.outside new.scorer.outside keeps.scorer.outside halts.2)

-- events that were done, and a run behind them
pub Ran-behind : {F : Type 0} {faults : HaltFaults F} (made : List Event) (run : Run F) (result : Result (Unit {0}) F) (old middle new : Environment) → HasDone made old middle
    → Ran faults run result middle new → Ran faults (behind made run) result old new
Ran-behind made run result old middle new has ran = record {
  halt = ran.halt;
  did = record {
    done = made ++ ran.did.done;
    rest = ran.did.rest;
    split = ap (λ rest. made ++ rest) ran.did.split ∙ sym (append_assoc made ran.did.done ran.did.rest);
    halts = HaltsAt-later ran.halt ran.did.rest old middle new has.keeps ran.did.halts;
    all = subst (λ events. Done events old new) (sym (append_assoc made ran.did.done (halt_events ran.halt)))
        (Done-append made (ran.did.done ++ halt_events ran.halt) old middle new has.all ran.did.all);
  };
  fault = ran.fault;
  is_fault = ran.is_fault;
  answers = ran.answers;
  keeps = KeepsEnvironment-then old middle new has.keeps ran.keeps;
}

-- what was done doesn't speak of standard error, nor of the references
pub Did-apart : (events : List Event) (halt : Halt) (old new : Environment) (err later : Outside (List (List ℕ))) (references later_references : ℕ × ℕ × ℕ) → Did events halt old new
    → Did events halt (record old { err = err; references = references }) (record new { err = later; references = later_references })
Did-apart events halt old new err later references later_references did = record {
  done = did.done;
  rest = did.rest;
  split = did.split;
  halts = halts halt did.rest did.halts;
  all = record { fetched = did.all.fetched; called = did.all.called; put = did.all.put };
} where
  halts : (halt : Halt) (rest : List Event) → HaltsAt halt rest old new
      → HaltsAt halt rest (record old { err = err; references = references }) (record new { err = later; references = later_references })
  halts Ended rest h = h
  halts NoMemory rest h = h
  halts (PutFailed part) rest h = h
  halts (FetchFailed name) rest h = h
  halts (CallFailed call) rest h = h

pub Runs-apart : {F : Type 0} {faults : HaltFaults F} (of : Run F → Type 0) (result : Result (Unit {0}) F) (old new : Environment) (err : Outside (List (List ℕ))) (references : ℕ × ℕ × ℕ)
    → Runs faults of result old new → Runs faults of result (record old { err = err; references = references }) (record new { err = err; references = references })
Runs-apart of result old new err references made =
    let ran = made.ran in record {
      run = made.run;
      is = made.is;
      ran = record {
        halt = ran.halt;
        did = Did-apart made.run.events ran.halt old new err err references references ran.did;
        fault = ran.fault;
        is_fault = ran.is_fault;
        answers = ran.answers;
        keeps = record { files = ran.keeps.files; scorer = ran.keeps.scorer; out = ran.keeps.out; err = Keeps-refl err; references = refl };
      };
    }

-- a run that answered without a fault had none, and all its events were done
pub record RanWell {F : Type 0} (run : Run F) (old new : Environment) : Type 0 where
  pub has : HasDone run.events old new
  pub well : run.fault ≡ None

pub some-ok : {F : Type 0} (memory fault : F) → Answers memory (Some fault) (Ok tt) → ⊥
some-ok memory fault (inl e) = cc
some-ok memory fault (inr e) = cc

unfaulted : {F : Type 0} (memory : F) (fault : Option F) → Answers memory fault (Ok tt) → fault ≡ None
unfaulted memory None answers = refl
unfaulted memory (Some fault) answers = absurd (some-ok memory fault answers)

-- a call that answers without a fault had no halt before the end
pub IsFaultOf-none : {F : Type 0} (faults : HaltFaults F) (own : Option F) (halt : Halt) (fault : Option F) → IsFaultOf faults own halt fault → fault ≡ None → (halt ≡ Ended) × (own ≡ None)
IsFaultOf-none faults own Ended fault is none = (refl, sym is ∙ none)
IsFaultOf-none faults own NoMemory fault is none = absurd cc
IsFaultOf-none faults own (PutFailed part) fault is none = absurd cc
IsFaultOf-none faults own (FetchFailed name) fault is none = absurd (let e = is.2 in cc)
IsFaultOf-none faults own (CallFailed call) fault is none = absurd cc

pub Ran-done : {F : Type 0} {faults : HaltFaults F} (run : Run F) (old new : Environment) → Ran faults run (Ok tt) old new → RanWell run old new
Ran-done {F} {faults} run old new ran =
    let ended = IsFaultOf-none faults run.fault ran.halt ran.fault ran.is_fault (unfaulted faults.memory ran.fault ran.answers) in record {
      has = record { all = go ran.halt ended.0 ran.did.halts ran.did.all; keeps = ran.keeps };
      well = ended.1;
    } where
      go : (halt : Halt) → halt ≡ Ended → HaltsAt halt ran.did.rest old new → Done (ran.did.done ++ halt_events halt) old new → Done run.events old new
      go Ended e halts all = subst (λ events. Done events old new) (sym (ran.did.split ∙ ap (λ rest. ran.did.done ++ rest) halts)) all
      go NoMemory e halts all = absurd cc
      go (PutFailed part) e halts all = absurd cc
      go (FetchFailed name) e halts all = absurd cc
      go (CallFailed call) e halts all = absurd cc

-- the lines that were put, and one of which the put broke off
pub Ran-lines : {F : Type 0} {faults : HaltFaults F} (whole done rest : List (List ℕ)) (line : List ℕ) (fault : F) (old middle new : Environment) → whole ≡ done ++ (line ∷ [] ++ rest)
    → HasDone (map Put done) old middle → Ran faults (lines_run (line ∷ [])) (Err fault) middle new → Ran faults (lines_run whole) (Err fault) old new
Ran-lines {F} {faults} whole done rest line fault old middle new split has ran =
    subst (λ (events : List Event). Ran faults (record { events = events; fault = None }) (Err fault) old new)
    (sym (ap (map Put) split ∙ map-both Put done (line ∷ [] ++ rest)))
    (Ran-behind (map Put done) (behind (Put line ∷ []) (lines_run rest)) (Err fault) old middle new has (Ran-longer (Put line ∷ []) (lines_run rest) fault middle new ran))

-- one more line
pub HasDone-line : {F : Type 0} {faults : HaltFaults F} (more done : List (List ℕ)) (line : List ℕ) (old middle new : Environment) → more ≡ done ++ line ∷ [] → HasDone (map Put done) old middle
    → Ran faults (lines_run (line ∷ [])) (Ok tt) middle new → HasDone (map Put more) old new
HasDone-line more done line old middle new split has ran =
    subst (λ events. HasDone events old new) (sym (ap (map Put) split ∙ map-both Put done (line ∷ [])))
    (HasDone-append (map Put done) (Put line ∷ []) old middle new has (Ran-done (lines_run (line ∷ [])) middle new ran).has)

-- one line was put; or there was no memory for it; or its put failed; or one of these two
module _ {F : Type 0} (faults : HaltFaults F) (environment : Environment) (line : List ℕ) (out : Outside (List (List ℕ))) where
  pub Ran-put : out.told ≡ option_map (λ held. held ++ line ∷ []) environment.out.told → Keeps environment.out out
      → Ran faults (lines_run (line ∷ [])) (Ok tt) environment (record environment { out = out })
  Ran-put put keeps =
      Ran-all (lines_run (line ∷ [])) (Ok tt) environment (record environment { out = out }) (HasDone-out environment out (Put line ∷ []) put refl refl keeps) refl

  pub Ran-unput : out.told ≡ environment.out.told → Keeps environment.out out → Ran faults (lines_run (line ∷ [])) (Err faults.memory) environment (record environment { out = out })
  Ran-unput same keeps =
      Ran-no_memory (lines_run (line ∷ [])) [] (Put line ∷ []) environment (record environment { out = out }) refl
      (HasDone-out environment out [] (same ∙ told-none environment.out.told) refl refl keeps)

  pub Ran-put_failed : (part : List ℕ) → IsPrefix part line → Faulted environment.out out → out.told ≡ option_map (λ held. held ++ part ∷ []) environment.out.told
      → Keeps environment.out out → Ran faults (lines_run (line ∷ [])) (Err faults.write) environment (record environment { out = out })
  Ran-put_failed part prefix faulted put keeps =
      let has = HasDone-out environment out (Put part ∷ []) put refl refl keeps in record {
        halt = PutFailed part;
        did = record { done = []; rest = Put line ∷ []; split = refl; halts = (line, [], refl, prefix, faulted); all = has.all };
        fault = Some faults.write;
        is_fault = refl;
        answers = inl refl;
        keeps = has.keeps;
      }

  pub Ran-unanswered : (why : SinkFault) → Puts line (Err why) environment.out.told out.told → Counts (◌≡◌ {A = Result (Unit {0}) SinkFault} (Err why) (Err Failed)) environment.out out
      → Ran faults (lines_run (line ∷ [])) (Err (put_fault faults why)) environment (record environment { out = out })
  Ran-unanswered Failed puts counts = Ran-put_failed puts.0 puts.1 (Faulted-one environment.out out counts refl) puts.2 counts.keeps
  Ran-unanswered Memory puts counts = Ran-unput puts counts.keeps
