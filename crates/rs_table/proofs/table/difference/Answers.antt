use Rattle.std.proofs.Common.{◌≡◌, ◌+◌, length, ap, sym, ◌∙◌, arith}
use Rattle.std.specs.Prelude.{Some}
use Rattle.csv.specs.Records.{fields_of}
use Rattle.rs_table.proofs.HeaderFacts.{difference_from-long}
use Rattle.rs_table.proofs.table.difference.Goals as goal

pub returns-then-len-columns : goal.returns-then-len-columns
returns-then-len-columns c =
    let columns = c.args.columns.now in
    let i = c.loop-index.index in
    let at_end : i ≡ length columns = omega arith in
    ap (λ n. Some (n + 1)) (sym at_end)
    ∙ sym (difference_from-long columns (fields_of c.args.header.now) (i + 1) i (omega arith) (omega arith))
    ∙ c.loop-index.invariant.so_far
