use Rattle.std.proofs.Common.{◌≡◌, ◌∙◌, Bor, None, Some, ap, is_some, subst, sym}
use Rattle.std.specs.Prelude.{option_map}
use Rattle.rs_outside.specs.Files.{Fetches, StaysKnown, TellsFile}
use Rattle.rs_scores.specs.KnownFiles.{Found, KnownFilesState, found_under, known_contents}
use Rattle.rs_scores.proofs.FoundFacts.{found_under-added, known-added, known-below, known-exactly, known-found, known-stays, refused-any, untold}
use Rattle.rs_scores.proofs.known_files.KnownFilesFiles.fetch.Goals as goal
use Rattle.rs_scores.proofs.known_files.KnownFilesFiles.fetch.Goals.{in-Err, in-Ok}

-- what was looked for is found
pub give_found-requires : goal.give_found-requires
give_found-requires g c =
    let name = c.args.name.now in
    let looked = c.in-Ok.ensures in
    let before : found_under name c.args.self.now.found ≡ None =
    ap (found_under name) (sym (ap (λ (k : KnownFilesState _). k.found) c.self.view_is) ∙ sym c.deref.ensures.value)
    ∙ sym c.found_under.ensures
    ∙ ap (option_map (λ (file : Bor Found). file.now)) c.in_default.is in
    ap is_some
    (ap (found_under name) (c.deref-in-Ok.ensures.value ∙ ap (λ (k : KnownFilesState _). k.found) c.self-2.view_is ∙ looked.added)
    ∙ found_under-added name looked.there c.args.self.now.found before)

-- what was found before is given
pub returns-in-Some-clause-fetches : goal.returns-in-Some-clause-fetches
returns-in-Some-clause-fetches g c =
    let name = c.args.name.now in
    let held : c.in-Some.file.now ≡ record { name = c.file.inside.name; there = c.file.inside.there } = sym c.file.view_is in
    let found : found_under name c.args.self.now.found ≡ Some c.in-Some.file.now =
    ap (found_under name) (sym (ap (λ (k : KnownFilesState _). k.found) c.self.view_is) ∙ sym c.deref.ensures.value)
    ∙ sym c.found_under.ensures
    ∙ ap (option_map (λ (file : Bor Found). file.now)) c.in-Some.is in
    record {
      there = c.in-Some.file.now.there;
      is_found = known-found name c.args.self.now.found (g.F.Files.state c.args.self.now.files).contents c.in-Some.file.now found;
      fetches = subst (λ (file : Found). Fetches file.there c.args.limit c.args.into.now.items c.give.result c.give.new.into.items) (sym held) c.give.ensures.fetches;
      learned = λ told remembers. known-exactly name c.args.self.now.found (g.F.Files.state c.args.self.now.files).contents c.in-Some.file.now found;
    }

-- what is found now is given, and where the files below refuse it that is the answer
pub returns-clause-fetches : goal.returns-clause-fetches
returns-clause-fetches g c =
    let name = c.args.name.now in
    let before : found_under name c.args.self.now.found ≡ None =
    ap (found_under name) (sym (ap (λ (k : KnownFilesState _). k.found) c.self.view_is) ∙ sym c.deref.ensures.value)
    ∙ sym c.found_under.ensures
    ∙ ap (option_map (λ (file : Bor Found). file.now)) c.in_default.is in
    elim c.match-look.branch [
      | in-Ok w ↦
          let given = w.give_found.ensures.fetches in
          let found : found_under name c.look.new.self.found ≡ Some given.0 =
          ap (found_under name) (sym (w.deref-in-Ok.ensures.value ∙ ap (λ (k : KnownFilesState _). k.found) c.self-2.view_is)) ∙ given.1 in
          record {
            there = given.0.there;
            is_found = known-found name c.look.new.self.found (g.F.Files.state c.look.new.self.files).contents given.0 found;
            fetches = rw (w.into-is, w.result-is) given.2;
            learned = λ told remembers. known-exactly name c.look.new.self.found (g.F.Files.state c.look.new.self.files).contents given.0 found;
          }
      | in-Err w ↦
          let looked = w.in-Err.ensures in
          record {
            there = looked.there;
            is_found = known-below name c.look.new.self.found (g.F.Files.state c.look.new.self.files).contents looked.there (ap (found_under name) looked.same ∙ before) looked.is_found;
            fetches = rw (w.into-is, w.result-is) (refused-any looked.there c.args.limit w.in-Err.refused c.args.into.now.items looked.refused);
            learned = λ told. absurd (untold w.in-Err.refused looked.missing_is_added (subst TellsFile w.result-is told));
          }
    ]

-- what was known stays known, and what is found now is what the files below gave
pub returns-clause-stays_known : goal.returns-clause-stays_known
returns-clause-stays_known g c =
    elim c.match-look.branch [
      | in-Ok w ↦
          let looked = w.in-Ok.ensures in
          subst (λ found. StaysKnown (known_contents c.args.self.now.found (g.F.Files.state c.args.self.now.files).contents) (known_contents found (g.F.Files.state c.look.new.self.files).contents)) (sym looked.added)
          (known-added c.args.name.now looked.there c.args.self.now.found (g.F.Files.state c.args.self.now.files).contents (g.F.Files.state c.look.new.self.files).contents looked.stays_known looked.is_found)
      | in-Err w ↦
          let looked = w.in-Err.ensures in
          subst (λ found. StaysKnown (known_contents c.args.self.now.found (g.F.Files.state c.args.self.now.files).contents) (known_contents found (g.F.Files.state c.look.new.self.files).contents)) (sym looked.same)
          (known-stays c.args.self.now.found (g.F.Files.state c.args.self.now.files).contents (g.F.Files.state c.look.new.self.files).contents looked.stays_known)
    ]
