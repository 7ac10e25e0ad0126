use Rattle.std.proofs.Common.{◌≡◌}
use Rattle.rs_stream.specs.Records.{Leaves, is_quoted}
use Rattle.rs_stream.proofs.records.Records.next.Given as goal

abbrev pub invariant-loop : goal.invariant-loop
invariant-loop g l = record {
  quoted : l.self-inside.quoted ≡ is_quoted l.self-inside.begun.items;
  left : Leaves l.initial.self-inside.begun.items (g.R.Read.remaining l.initial.self-inside.reader) l.self-inside.begun.items (g.R.Read.remaining l.self-inside.reader);
}
