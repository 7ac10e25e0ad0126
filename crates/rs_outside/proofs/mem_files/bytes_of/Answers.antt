use Rattle.std.proofs.Common.{sym, ap, ◌∙◌, Some}
use Rattle.rs_outside.specs.Files.{File}
use Rattle.rs_outside.proofs.FolderFacts.{file_named-at, file_named-absent}
use Rattle.rs_outside.proofs.mem_files.bytes_of.Goals as goal

pub returns-in_err-at : goal.returns-in_err-at
returns-in_err-at c =
    rw c.from_residual.ensures (file_named-absent c.args.name.now c.args.files.now.items (sym c.in_err-at.ensures))

pub returns : goal.returns
returns c =
    file_named-at c.args.name.now c.args.files.now.items c.in_ok-at.at c.index.result.now (sym c.in_ok-at.ensures)
    ∙ ap (λ (file : File). Some file.bytes) (sym c.index.ensures ∙ sym c.behind-files.view_is)
