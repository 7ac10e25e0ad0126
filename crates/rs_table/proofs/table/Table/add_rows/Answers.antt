-- The rows fit the columns, and so does the table with them.
use Rattle.std.proofs.Common.{◌≡◌, ◌++◌, ◌+◌, ◌≤◌, ◌∙◌, true, ap, length, map, subst, sym}
use Rattle.std.specs.List.{AllByRecursion}
use Rattle.rs_table.specs.Column.{Column}
use Rattle.rs_table.specs.Relation.{IsTable, Relation, most_rows, row_fits}
use Rattle.rs_table.proofs.RelationFacts.{IsTable-with_rows, kinds-rows}
use Rattle.rs_table.proofs.table.Table.add_rows.Goals as goal

pub push_rows-requires-clause-kinds : goal.push_rows-requires-clause-kinds
push_rows-requires-clause-kinds c =
    kinds-rows c.args.self.now.schema c.reserve.new.self.kinds c.args.rows.items
    (c.reserve.ensures.kinds ∙ c.self.invariant.kinds ∙ ap (λ (t : Relation). map (λ (column : Column). column.1) t.schema) c.self.view_is) c.requires.fit

pub invariant_of-self-2 : goal.invariant_of-self-2
invariant_of-self-2 c =
    let before : Relation = record { schema = c.self.inside.schema; rows = c.self.inside.rows.rows } in
    let fit = subst (λ (t : Relation). AllByRecursion (λ row. row_fits t.schema row ≡ true) c.args.rows.items) (sym c.self.view_is) c.requires.fit in
    let few = subst (λ (t : Relation). length t.rows + length c.args.rows.items ≤ most_rows) (sym c.self.view_is) c.requires.few in
    record {
      table =
          subst (λ rows. IsTable (record { schema = c.self.inside.schema; rows = rows })) (sym (c.push_rows.ensures.rows ∙ ap (λ rows. rows ++ c.args.rows.items) c.reserve.ensures.rows))
          (IsTable-with_rows before c.args.rows.items c.self.invariant.table fit few);
      kinds = c.push_rows.ensures.kinds ∙ c.reserve.ensures.kinds ∙ c.self.invariant.kinds;
    }
