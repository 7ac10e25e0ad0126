-- The script makes the predicates that are asked for, or not.
use Rattle.std.proofs.Common.{List, [], ◌∷◌, ℕ, ◌≡◌, ap, inl, refl, subst}
use Rattle.std.specs.Prelude.{None, Option, Some, option_map}
use Rattle.rs_outside.specs.Files.{FilesState, KeepsFiles}
use Rattle.rs_run.specs.Naming.{Looks}
use Rattle.rs_scores.specs.KnownFiles.{known_state}
use Rattle.rs_events.specs.Status.{exit_status_of}
use Rattle.ranksql_ask.specs.AskFaults.{NoPredicate, ask_line, ask_status}
use Rattle.ranksql_ask.specs.Endings.{RunsOnce, Tells}
use Rattle.ranksql_ask.specs.Parts.Runners.{runner_of}
use Rattle.ranksql_ask.proofs.CommandFacts.{Readies-map}
use Rattle.ranksql_ask.proofs.command.answer.Goals as goal

-- a look over the names and the files that a request has
looked : (script : List ℕ) (names asked : List (List ℕ)) (found name : Option (List ℕ)) (old files new : FilesState)
    → names ≡ asked → old ≡ files → found ≡ name → Looks script names found old new → Looks script asked name files new
looked script names asked found name old files new are is gives looks =
    subst (λ name. Looks script asked name files new) gives
    (subst (λ names. Looks script names found files new) are (subst (λ old. Looks script names found old new) is looks))

pub returns-in-Ok-None : goal.returns-in-Ok-None
returns-in-Ok-None g c = inl (record {
  name = None;
  seen = known_state c.unmade_predicate.new.files.found (g.G.Files.state c.unmade_predicate.new.files.files);
  looks = looked _ _ _ _ _ _ _ _ c.deref.ensures.value (ap (λ known. known_state known.found (g.G.Files.state known.files)) c.new-files.ensures)
      (ap (option_map (λ name. name.now)) c.in-Ok-None.field-0-is) c.in-Ok-None.ensures.looks;
  kept = subst (λ old. KeepsFiles old (known_state c.unmade_predicate.new.files.found (g.G.Files.state c.unmade_predicate.new.files.files)))
      (ap (λ known. known_state known.found (g.G.Files.state known.files)) c.new-files.ensures) c.unmade_predicate.ensures.keeps;
  does = (
    runner_of g.G.Files.state c.make_ready.new.runs,
    Readies-map (runner_of g.G.Files.state) _ RunsOnce (λ old known pass new rows puts did. did) _ _ _ _ _ _ _ _ _ c.make_ready.ensures,
  );
})

pub returns-in-Ok-Some : goal.returns-in-Ok-Some
returns-in-Ok-Some g c = inl (record {
  name = Some c.in-Ok-Some.name.now;
  seen = known_state c.unmade_predicate.new.files.found (g.G.Files.state c.unmade_predicate.new.files.files);
  looks = looked _ _ _ _ _ _ _ _ c.deref.ensures.value (ap (λ known. known_state known.found (g.G.Files.state known.files)) c.new-files.ensures)
      (ap (option_map (λ name. name.now)) c.in-Ok-Some.field-0-is) c.in-Ok-Some.ensures.looks;
  kept = subst (λ old. KeepsFiles old (known_state c.unmade_predicate.new.files.found (g.G.Files.state c.unmade_predicate.new.files.files)))
      (ap (λ known. known_state known.found (g.G.Files.state known.files)) c.new-files.ensures) c.unmade_predicate.ensures.keeps;
  does = (
    refl,
    refl,
    (
      refl,
      subst (λ name. Tells (ask_line (NoPredicate name.now) ∷ []) (exit_status_of (ask_status (NoPredicate name.now))) c.refuse_name.result (g.E.Sink.state c.args.err.now) (g.E.Sink.state c.refuse_name.new.err))
          c.in-Ok-Some.name-is c.refuse_name.ensures,
    ),
  );
})
