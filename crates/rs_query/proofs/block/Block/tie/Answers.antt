-- The columns are two of the block, of one kind.
use Rattle.rs_query.proofs.TieFacts.{equated-kinds}
use Rattle.rs_query.proofs.block.Block.tie.Goals as goal

pub kind-requires-clause-column : goal.kind-requires-clause-column
kind-requires-clause-column c = (equated-kinds c.args.catalog.now c.args.self.now c.args.mask c.args.entry c.in-Some.left c.in-Some.right c.requires.block c.in-Some.ensures).0

pub kind-requires-in-Some-clause-column : goal.kind-requires-in-Some-clause-column
kind-requires-in-Some-clause-column c = (equated-kinds c.args.catalog.now c.args.self.now c.args.mask c.args.entry c.in-Some.left c.in-Some.right c.requires.block c.in-Some.ensures).1

pub listed-requires-clause-left : goal.listed-requires-clause-left
listed-requires-clause-left c = (equated-kinds c.args.catalog.now c.args.self.now c.args.mask c.args.entry c.in-Some.left c.in-Some.right c.requires.block c.in-Some.ensures).0

pub listed-requires-clause-right : goal.listed-requires-clause-right
listed-requires-clause-right c = (equated-kinds c.args.catalog.now c.args.self.now c.args.mask c.args.entry c.in-Some.left c.in-Some.right c.requires.block c.in-Some.ensures).1

pub listed-requires-clause-kinds : goal.listed-requires-clause-kinds
listed-requires-clause-kinds c = (equated-kinds c.args.catalog.now c.args.self.now c.args.mask c.args.entry c.in-Some.left c.in-Some.right c.requires.block c.in-Some.ensures).2

pub returns-in_ok-listed-in-Some : goal.returns-in_ok-listed-in-Some
returns-in_ok-listed-in-Some c =
    let kinds = equated-kinds c.args.catalog.now c.args.self.now c.args.mask c.args.entry c.in-Some.left c.in-Some.right c.requires.block c.in-Some.ensures in
    record {
      columns = record {
        left_column = kinds.0;
        right_column = kinds.1;
        left_kind = c.kind.ensures.cells;
        right_kind = c.kind-in-Some.ensures.cells;
        equated = c.in-Some.ensures;
      };
      listed = c.in_ok-listed-in-Some.ensures;
    }
