use Rattle.std.proofs.Common.{◌≡◌, ◌∙◌, ◌++◌, Some, ap, subst, sym}
use Rattle.rs_outside.specs.Files.{finds_in}
use Rattle.rs_scores.proofs.FoundFacts.{looks-kept}
use Rattle.rs_scores.proofs.known_files.KnownFiles.look.Goals as goal

pub returns-in-Ok : goal.returns-in-Ok
returns-in-Ok g c =
    let given = c.in-Ok.ensures.fetches in
    let same : given.there ≡ Some c.of.result = given.fetches.1 ∙ ap (λ none. Some (none ++ given.fetches.0)) (sym c.new-bytes.ensures.items) ∙ ap Some (sym given.fetches.3 ∙ sym c.of.ensures) in
    rw (← c.self.view_is)
    (looks-kept c.args.name.now c.args.limit c.keep.result (g.F.Files.state c.self.inside.files) (g.F.Files.state c.fetch.new.self) c.self.inside.found.items c.keep.new.found.items c.of.result
    (subst (λ there. finds_in (g.F.Files.state c.fetch.new.self).contents c.args.name.now there) same given.is_found) c.in-Ok.ensures.stays_known c.in-Ok.ensures.told c.in-Ok.ensures.counts
    c.keep.ensures.ok c.keep.ensures.err)
