-- The cell of the column at the row's place is that of the row.
use Rattle.std.proofs.Common.{arith}
use Rattle.std.proofs.lemmas.Option.{slice_get_within}
use Rattle.rs_value.specs.declared.kind.Kind.TheVariants as kind
use Rattle.rs_value.specs.declared.value.Value.TheVariants.{Text}
use Rattle.rs_table.proofs.StoredFacts.{IsPlaced, placed}
use Rattle.rs_table.proofs.columns.Columns.text.Goals as goal

at_index : (c : goal.After-index) → IsPlaced c.args.self.now c.args.column c.index.result.now
at_index c = placed c.args.self.now c.self.inside.len c.args.column c.self.inside.columns.items c.index.result.now c.self.view_is c.self.invariant (slice_get_within c.args.self.now.kinds c.args.column kind.Text c.requires.texts) c.index.ensures

at_text : (c : goal.After-text) → IsPlaced c.args.self.now c.args.column c.index.result.now
at_text c = placed c.args.self.now c.self.inside.len c.args.column c.self.inside.columns.items c.index.result.now c.self.view_is c.self.invariant (slice_get_within c.args.self.now.kinds c.args.column kind.Text c.requires.texts) c.index.ensures

pub text-requires-clause-place : goal.text-requires-clause-place
text-requires-clause-place c = let size = (at_index c).size in omega (arith, size)

pub returns : goal.returns
returns c = (at_text c).at c.args.row (Text c.text.result.now) c.requires.row_in c.text.ensures
