-- Each column gives its cell, which is what a comparison looks at, since it has the column's kind.
use Rattle.std.proofs.Common.{◌≡◌, ◌∙◌, ℕ, ◌+◌, ◌≤◌, List, get_or, length, map, take, sym, ap, subst, arith}
use Rattle.std.specs.List.{AllByRecursion}
use Rattle.std.proofs.lemmas.List.{take_all}
use Rattle.rs_order.proofs.EachFacts.{each-get_or}
use Rattle.rs_value.specs.declared.value.Value.{Value}
use Rattle.rs_query.specs.Meaning.{column_value}
use Rattle.rs_query.specs.Tables.{HasRow}
use Rattle.rs_query.specs.WellFormed.{IsColumn}
use Rattle.rs_filter.specs.JoinValues.{own_column}
use Rattle.rs_filter.specs.declared.conditions.JoinConditions.{JoinConditions}
use Rattle.rs_filter.proofs.JoinColumnFacts.{AreColumns, HasKindOf, column-own, conditions-columns, each-more, read-more, values-own}
use Rattle.rs_filter.proofs.join_values.side_values.Goals as goal

pub push_cell-requires-clause-column : goal.push_cell-requires-clause-column
push_cell-requires-clause-column c =
    let k = c.args.conditions.now in
    let all = conditions-columns c.args.catalog.now c.args.block.now k c.requires.block c.requires.conditions in
    let are = each-get_or (AreColumns c.args.catalog.now c.args.block.now k.left k.right) c.deref-pair-items.result.now c.loop-pair.pair-index ((0, 0), (0, 0))
    (subst (AllByRecursion (AreColumns c.args.catalog.now c.args.block.now k.left k.right)) (sym (c.deref-pair-items.ensures.value ∙ c.items-columns.ensures)) all) c.loop-pair-test.true in
    subst (IsColumn c.args.catalog.now c.args.block.now) (sym c.own_column-column.ensures) (column-own c.args.catalog.now c.args.block.now c.args.side k _ are).0

pub push_cell-requires-clause-row : goal.push_cell-requires-clause-row
push_cell-requires-clause-row c =
    let k = c.args.conditions.now in
    let all = conditions-columns c.args.catalog.now c.args.block.now k c.requires.block c.requires.conditions in
    let are = each-get_or (AreColumns c.args.catalog.now c.args.block.now k.left k.right) c.deref-pair-items.result.now c.loop-pair.pair-index ((0, 0), (0, 0))
    (subst (AllByRecursion (AreColumns c.args.catalog.now c.args.block.now k.left k.right)) (sym (c.deref-pair-items.ensures.value ∙ c.items-columns.ensures)) all) c.loop-pair-test.true in
    let own = column-own c.args.catalog.now c.args.block.now c.args.side k _ are in
    subst (λ (column : ℕ × ℕ). HasRow c.args.catalog.now c.args.block.now c.args.ids.now.rows column.0) (sym c.own_column-column.ensures)
    (c.requires.rows (own_column c.args.side (get_or c.deref-pair-items.result.now c.loop-pair.pair-index ((0, 0), (0, 0)))).0 own.0.0 own.0.1 own.1)

pub loop-pair-preserved : goal.loop-pair-preserved
loop-pair-preserved c =
    let catalogue = c.args.catalog.now in
    let block = c.args.block.now in
    let rows = c.args.ids.now.rows in
    let seen = c.deref-pair-items.result.now in
    let i = c.loop-pair.pair-index in
    let read : (ℕ × ℕ) × (ℕ × ℕ) → Value = λ pair. column_value catalogue block rows (own_column c.args.side pair) in
    let has : (ℕ × ℕ) × (ℕ × ℕ) → Type 0 = λ pair. HasKindOf catalogue block (own_column c.args.side pair) (read pair) in
    let same = c.deref-pair-items.ensures.value ∙ c.items-columns.ensures in
    record {
      values_are = subst (λ (columns : List ((ℕ × ℕ) × (ℕ × ℕ))). c.push_cell.new.values.items ≡ map read (take (i + 1) columns)) same
          (read-more read seen i ((0, 0), (0, 0)) c.loop-pair.values.items c.push_cell.new.values.items (column_value catalogue block rows c.own_column-column.result) c.loop-pair-test.true
          (subst (λ (columns : List ((ℕ × ℕ) × (ℕ × ℕ))). c.loop-pair.values.items ≡ map read (take i columns)) (sym same) c.loop-pair.invariant.values_are)
          (ap (column_value catalogue block rows) c.own_column-column.ensures) c.in_ok-push_cell.ensures.value);
      kinds = subst (λ (columns : List ((ℕ × ℕ) × (ℕ × ℕ))). AllByRecursion has (take (i + 1) columns)) same
          (each-more has seen i ((0, 0), (0, 0)) c.loop-pair-test.true
          (subst (λ (columns : List ((ℕ × ℕ) × (ℕ × ℕ))). AllByRecursion has (take i columns)) (sym same) c.loop-pair.invariant.kinds)
          (subst (λ (column : ℕ × ℕ). HasKindOf catalogue block column (column_value catalogue block rows column)) c.own_column-column.ensures c.in_ok-push_cell.ensures.fit));
    }

pub returns : goal.returns
returns c =
    let catalogue = c.args.catalog.now in
    let block = c.args.block.now in
    let k = c.args.conditions.now in
    let rows = c.args.ids.now.rows in
    let read : (ℕ × ℕ) × (ℕ × ℕ) → Value = λ pair. column_value catalogue block rows (own_column c.args.side pair) in
    let has : (ℕ × ℕ) × (ℕ × ℕ) → Type 0 = λ pair. HasKindOf catalogue block (own_column c.args.side pair) (read pair) in
    let size : length c.deref-pair-items.result.now ≡ length k.columns = ap length (c.deref-pair-items.ensures.value ∙ c.items-columns.ensures) in
    let end = c.loop-pair-test.false in
    let most : length k.columns ≤ c.loop-pair.pair-index = omega arith in
    let whole = take_all c.loop-pair.pair-index k.columns most ∙ ap (λ (conditions : JoinConditions). conditions.columns) c.requires.conditions in
    c.loop-pair.invariant.values_are
    ∙ ap (map read) whole
    ∙ values-own catalogue block c.args.side k.left k.right rows c.requires.block.conjuncts (subst (AllByRecursion has) whole c.loop-pair.invariant.kinds)
