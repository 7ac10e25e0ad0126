use Rattle.std.proofs.Common.{ℕ, List, subst}
use Rattle.rs_value.specs.Answer.{Gives}
use Rattle.rs_stream.specs.declared.fault.StreamFault.TheVariants.{Memory}
use Rattle.rs_stream.specs.Records.{records_left}
use Rattle.rs_stream.specs.Rows.{row_in}
use Rattle.rs_stream.proofs.RowFacts.{refused-row}
use Rattle.rs_stream.proofs.stream_rows.StreamRows.read_row.Goals as goal

pub returns : goal.returns
returns g c =
    refused-row c.in-Err.why c.args.self.now.ended c.next_record.new.self.ended c.args.self.now.number c.next_record.new.self.number c.in_ok-bytes.bytes.items
    (records_left g.R.Read.remaining c.args.self.now.records) (records_left g.R.Read.remaining c.next_record.new.self.records) c.row_in.result
    c.requires.goes_on c.requires.behind c.in_ok-bytes.ensures.number c.in_ok-bytes.ensures.reads
    (subst (λ (bytes : List ℕ). Gives Memory (row_in c.next_record.new.self.number bytes) c.row_in.result) c.deref.ensures.value c.row_in.ensures) c.in-Err.is
