use Rattle.std.proofs.Common.{ap, ◌∙◌, take}
use Rattle.rs_outside.proofs.FetchFacts.{Fetches-appended, Fetches-cut_off}
use Rattle.rs_outside.proofs.dir_files.fetch_rest.Goals as goal

pub returns-in_default-clause-fetches : goal.returns-in_default-clause-fetches
returns-in_default-clause-fetches g c =
    Fetches-appended (g.F.Read.remaining c.args.file.now.reader) c.args.limit c.args.into.now.items c.append_rest.new.into.items c.in_default.ensures.appends

pub returns-clause-fetches : goal.returns-clause-fetches
returns-clause-fetches g c =
    Fetches-cut_off (g.F.Read.remaining c.args.file.now.reader) c.args.limit c.args.into.now.items c.append_rest.new.into.items c.truncate.new.self.items c.in-Err.fault c.in-Err.ensures.appends
    (c.truncate.ensures.items ∙ ap (λ n. take n c.append_rest.new.into.items) (c.len-start.ensures ∙ c.args.into.now.ok.0))
