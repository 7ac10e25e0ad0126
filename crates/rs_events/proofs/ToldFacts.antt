-- A run whose faults are told as those of another type.
use Rattle.std.proofs.Common.{◌≡◌, ◌∙◌, Some, None, refl, ap, inl, inr}
use Rattle.std.specs.Prelude.{Option, Ok, Err, option_map}
use Rattle.rs_events.specs.Environment.{Environment}
use Rattle.rs_events.specs.HaltFaults.{Answers, HaltFaults, IsFaultOf, TellAs}
use Rattle.rs_events.specs.Halts.{CallFailed, Ended, FetchFailed, Halt, NoMemory, PutFailed}
use Rattle.rs_events.specs.Run.{Run, with_fault}
use Rattle.rs_events.specs.Running.{Ran}

module _ {F G : Type 0} (tells : F → G) (faults : HaltFaults F) (others : HaltFaults G) (alike : TellAs tells faults others) where
  IsFaultOf-told : (own : Option F) (halt : Halt) (fault : Option F) → IsFaultOf faults own halt fault → IsFaultOf others (option_map tells own) halt (option_map tells fault)
  IsFaultOf-told own Ended fault is = ap (option_map tells) is
  IsFaultOf-told own NoMemory fault is = ap (option_map tells) is ∙ ap Some alike.memory
  IsFaultOf-told own (PutFailed part) fault is = ap (option_map tells) is ∙ ap Some alike.write
  IsFaultOf-told own (FetchFailed name) fault is = (tells is.0, alike.failed_fetch name is.0 is.1, ap (option_map tells) is.2)
  IsFaultOf-told own (CallFailed call) fault is = ap (option_map tells) is ∙ ap Some (alike.failed_call call)

  Answers-ok : (fault : Option F) → Answers faults.memory fault (Ok tt) → Answers others.memory (option_map tells fault) (Ok tt)
  Answers-ok None answers = refl
  Answers-ok (Some fault) answers = absurd (elim answers [ inl e ↦ cc | inr e ↦ cc ])

  Answers-err : (fault : Option F) (why : F) → Answers faults.memory fault (Err why) → Answers others.memory (option_map tells fault) (Err (tells why))
  Answers-err None why answers = absurd cc
  Answers-err (Some fault) why (inl e) = inl (ap Err (ap tells (let same : why ≡ fault = cc in same)))
  Answers-err (Some fault) why (inr e) = inr (ap Err (ap tells (let same : why ≡ faults.memory = cc in same) ∙ alike.memory))

  module _ (run : Run F) (old new : Environment) where
    pub Ran-told_ok : Ran faults run (Ok tt) old new → Ran others (with_fault tells run) (Ok tt) old new
    Ran-told_ok ran = record {
      halt = ran.halt;
      did = ran.did;
      fault = option_map tells ran.fault;
      is_fault = IsFaultOf-told run.fault ran.halt ran.fault ran.is_fault;
      answers = Answers-ok ran.fault ran.answers;
      keeps = ran.keeps;
    }

    pub Ran-told_err : (why : F) → Ran faults run (Err why) old new → Ran others (with_fault tells run) (Err (tells why)) old new
    Ran-told_err why ran = record {
      halt = ran.halt;
      did = ran.did;
      fault = option_map tells ran.fault;
      is_fault = IsFaultOf-told run.fault ran.halt ran.fault ran.is_fault;
      answers = Answers-err ran.fault why ran.answers;
      keeps = ran.keeps;
    }
