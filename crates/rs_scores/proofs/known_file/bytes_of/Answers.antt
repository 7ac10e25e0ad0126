use Rattle.std.proofs.Common.{◌≡◌, ◌∙◌, Err, Global, Ok, Vec, ap, subst, sym, ℕ}
use Rattle.std.specs.Prelude.{MatchResult}
use Rattle.rs_outside.specs.declared.files.FetchFault.TheVariants as fetch
use Rattle.rs_events.specs.Fetching.{FetchesFile, fetched_bytes}
use Rattle.rs_scores.specs.KnownBy.{or_nothing}
use Rattle.rs_scores.proofs.KnownByFacts.{known-absent}
use Rattle.rs_scores.proofs.known_file.bytes_of.Goals as goal

pub returns-in-Err-Missing-clause-fetches : goal.returns-in-Err-Missing-clause-fetches
returns-in-Err-Missing-clause-fetches g c =
    let old = g.F.Files.state c.args.files.now in
    let new = g.F.Files.state c.fetch_file.new.files in
    let missing : c.fetch_file.result ≡ Err fetch.Missing = c.in-Err-Missing.is ∙ ap Err c.in-Err-Missing.field-0-is in
    known-absent 33554432 c.args.file.now c.new.result
    (λ there r. MatchResult r (λ bytes. fetched_bytes 33554432 there ≡ Ok bytes.items) (λ why. fetched_bytes 33554432 there ≡ Err why)) _ old new
    (subst (λ r. FetchesFile {A = Vec ℕ Global} fetch.Memory (λ why. why ≡ fetch.Failed) c.args.file.now r
    (λ there r. MatchResult r (λ bytes. fetched_bytes 33554432 there ≡ Ok bytes.items) (λ why. fetched_bytes 33554432 there ≡ Err why)) old new) missing c.fetch_file.ensures.fetches)
    (c.fetch_file.ensures.missing missing) (λ there e. (e, ap or_nothing e ∙ ap Ok (sym c.new.ensures.items)))
