-- The columns get the values of the row, and stay even.
use Rattle.std.proofs.Common.{ap, arith, length, sym, subst, ◌≡◌, ◌+◌, ◌<◌, ◌≤◌, ◌^◌, ◌∙◌, List, take, drop, ◌++◌}
use Rattle.std.specs.List.{All}
use Rattle.std.proofs.lemmas.List.{with_items_is}
use Rattle.std.proofs.lemmas.List.Elements.{All-weaker}
use Rattle.rs_value.specs.declared.value.Value.{Value}
use Rattle.rs_table.specs.Stored.{AreEven, StoredRows, cells_in, pushed, rooms_in, rows_across}
use Rattle.rs_table.proofs.StoredFacts.{HaveRow, have_row, length-stored}
use Rattle.rs_table.proofs.columns.Columns.push_row.Goals as goal

pub push_values-requires-clause-few : goal.push_values-requires-clause-few
push_values-requires-clause-few c =
    let few = c.requires.few in
    let size = length-stored c.args.self.now c.self.inside.len c.self.inside.columns.items c.self.view_is in
    subst (λ columns. All (λ (cells : List Value). length cells + 1 < 2 ^ 32) (cells_in columns)) (sym c.as_mut_slice.ensures.value)
    (All-weaker (λ (cells : List Value). length cells ≡ c.self.inside.len) (λ (cells : List Value). length cells + 1 < 2 ^ 32) (λ cells is. omega arith) (cells_in c.self.inside.columns.items) c.self.invariant)

pub overflow_add-self : goal.overflow_add-self
overflow_add-self c =
    let size = length-stored c.args.self.now c.self.inside.len c.self.inside.columns.items c.self.view_is in
    omega (arith, size)

has_row : (c : goal.After-self-2-1) → HaveRow c.args.self.now c.self.inside.len c.push_values.new.columns c.args.row
has_row c =
    have_row c.args.self.now c.self.inside.len c.self.inside.columns.items c.push_values.new.columns c.args.row c.self.view_is c.self.invariant c.requires.kinds
    (c.push_values.ensures.cells ∙ ap (λ columns. pushed (cells_in columns) c.into_items.result.items) c.as_mut_slice.ensures.value ∙ ap (λ row. pushed (cells_in c.self.inside.columns.items) row) c.into_items.ensures)

written : (c : goal.After-self-2-1) → take c.self.inside.columns.len (c.push_values.new.columns ++ drop (length c.push_values.new.columns) c.self.inside.columns.items) ≡ c.push_values.new.columns
written c =
    let same = c.push_values.auto.columns in
    let size = c.as_mut_slice.ensures.len in
    with_items_is c.self.inside.columns c.push_values.new.columns (omega arith)

pub invariant_of-self : goal.invariant_of-self
invariant_of-self c = subst (λ columns. AreEven (c.self.inside.len + 1) (cells_in columns)) (sym (written c)) (has_row c).even

pub returns-clause-rows : goal.returns-clause-rows
returns-clause-rows c = ap (λ columns. rows_across (c.self.inside.len + 1) (cells_in columns)) (written c) ∙ (has_row c).rows

pub returns-clause-room : goal.returns-clause-room
returns-clause-room c n h =
    subst (λ columns. All (λ room. n ≤ room) (rooms_in columns)) (sym (written c))
    (c.push_values.ensures.room n
    (subst (λ columns. All (λ room. n + 1 ≤ room) (rooms_in columns)) (sym c.as_mut_slice.ensures.value)
    (subst (λ rooms. All (λ room. n + 1 ≤ room) rooms) (sym (ap (λ (s : StoredRows). s.rooms) c.self.view_is)) h)))
