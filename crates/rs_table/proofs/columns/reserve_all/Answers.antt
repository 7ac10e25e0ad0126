-- A column keeps its kind and its cells, and has room.
use Rattle.std.proofs.Common.{◌∙◌, arith, sym, ap, subst, ◌≤◌}
use Rattle.std.specs.List.{All}
use Rattle.std.proofs.lemmas.List.{take_all}
use Rattle.rs_table.specs.Stored.{StoredCells, rooms_in}
use Rattle.rs_table.proofs.StoredFacts.{room-more, same_column}
use Rattle.rs_table.proofs.columns.reserve_all.Goals as goal

pub returns-in_err-reserve-clause-kinds : goal.returns-in_err-reserve-clause-kinds
returns-in_err-reserve-clause-kinds c =
    (same_column c.loop-cells.cells-index c.loop-cells.columns c.cells-item.result c.reserve.new.self c.cells-item.is
    (c.reserve.ensures.kind ∙ ap (λ (cells : StoredCells). cells.kind) (sym c.cells-item.is)) (c.reserve.ensures.cells ∙ ap (λ (cells : StoredCells). cells.cells) (sym c.cells-item.is))).0 ∙ c.loop-cells.invariant.kinds

pub returns-in_err-reserve-clause-cells : goal.returns-in_err-reserve-clause-cells
returns-in_err-reserve-clause-cells c =
    (same_column c.loop-cells.cells-index c.loop-cells.columns c.cells-item.result c.reserve.new.self c.cells-item.is
    (c.reserve.ensures.kind ∙ ap (λ (cells : StoredCells). cells.kind) (sym c.cells-item.is)) (c.reserve.ensures.cells ∙ ap (λ (cells : StoredCells). cells.cells) (sym c.cells-item.is))).1 ∙ c.loop-cells.invariant.cells

pub loop-cells-preserved : goal.loop-cells-preserved
loop-cells-preserved c =
    let same =
    same_column c.loop-cells.cells-index c.loop-cells.columns c.cells-item.result c.reserve.new.self c.cells-item.is
    (c.reserve.ensures.kind ∙ ap (λ (cells : StoredCells). cells.kind) (sym c.cells-item.is)) (c.reserve.ensures.cells ∙ ap (λ (cells : StoredCells). cells.cells) (sym c.cells-item.is)) in
    let size = c.loop-cells.auto.columns in
    record {
      kinds = same.0 ∙ c.loop-cells.invariant.kinds;
      cells = same.1 ∙ c.loop-cells.invariant.cells;
      room = room-more c.args.count c.loop-cells.cells-index c.loop-cells.columns c.reserve.new.self (omega arith) c.in_ok-reserve.ensures.ok c.loop-cells.invariant.room;
    }

pub returns-clause-ok : goal.returns-clause-ok
returns-clause-ok c =
    let past = c.loop-cells-test.false in
    let size = c.loop-cells.auto.columns in
    subst (λ columns. All (λ room. c.args.count ≤ room) (rooms_in columns)) (take_all c.loop-cells.cells-index c.loop-cells.columns (omega arith)) c.loop-cells.invariant.room
