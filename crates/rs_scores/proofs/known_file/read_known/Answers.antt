use Rattle.std.proofs.Common.{◌≡◌, ◌⊎◌, Err, List, ℕ, subst}
use Rattle.rs_scores.specs.KnownBy.{KnowsBy, or_refused}
use Rattle.rs_scores.specs.Reading.{scores_in}
use Rattle.rs_scores.specs.declared.scores_fault.ScoresFault.TheVariants.{Memory}
use Rattle.rs_scores.proofs.KnownByFacts.{known-read, known-unread}
use Rattle.rs_scores.proofs.known_file.read_known.Goals as goal

pub returns-in-Ok : goal.returns-in-Ok
returns-in-Ok g c =
    known-read c.args.names.items c.args.file.now c.in-Ok.bytes c.in-Ok.bytes.items _ c.known_by.result (g.F.Files.state c.args.files.now) (g.F.Files.state c.bytes_of.new.files)
    c.in-Ok.ensures.fetches (λ there given. given)
    (subst (λ (bytes : List ℕ). KnowsBy c.args.names.items (or_refused (scores_in c.args.names.items bytes)) c.known_by.result ⊎ (c.known_by.result ≡ Err Memory))
    c.deref.ensures.value c.known_by.ensures)

pub returns-in-Err : goal.returns-in-Err
returns-in-Err g c =
    known-unread c.args.names.items c.args.file.now c.in-Err.fault _ (g.F.Files.state c.args.files.now) (g.F.Files.state c.bytes_of.new.files)
    c.in-Err.ensures.fetches (λ there given. given)
