use Rattle.std.proofs.Common.{sym, ap, ◌∙◌}
use Rattle.rs_outside.specs.Files.{File}
use Rattle.rs_outside.proofs.FolderFacts.{with_file-at, with_file-absent}
use Rattle.rs_outside.proofs.mem_files.MemFiles.add.Goals as goal

pub returns-in-Some-clause-ok : goal.returns-in-Some-clause-ok
returns-in-Some-clause-ok c =
    let replaced = with_file-at c.args.name c.args.bytes.items c.self.inside.files.items c.in-Some.at c.index_mut.result.now (sym c.in-Some.ensures) in
    let same_name = ap (λ (file : File). file.name) (c.behind-self.view_is ∙ c.index_mut.ensures.value) in
    rw (← c.self.view_is, replaced, c.of-bytes.ensures, ← same_name)

pub returns-in_ok-push-in-None-clause-ok : goal.returns-in_ok-push-in-None-clause-ok
returns-in_ok-push-in-None-clause-ok c =
    let added = with_file-absent c.args.name c.args.bytes.items c.self.inside.files.items (sym c.in-None.ensures) in
    rw (c.in_ok-push-in-None.ensures.items, ← c.self.view_is, added, c.of-bytes.ensures)
