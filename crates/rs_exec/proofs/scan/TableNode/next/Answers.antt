-- The first row that passes is given; those before it are drawn and let go.
use Rattle.std.proofs.Common.{◌∙◌, ◌+◌, Some, None, sym, ap, subst}
use Rattle.rs_scan.specs.Scans.{TableScan, rows_of_table}
use Rattle.rs_exec.specs.Drawing.{passes}
use Rattle.rs_exec.specs.declared.scan.TableNode.{TableNode}
use Rattle.rs_exec.proofs.NextFacts.{NonePassed, ended, entry-inside, entry-passes, entry-rows, none-more, passed, table-drew, table-ended, table-gave, table-goes_on, table-nearer, table-place, table-row, table-stayed}
use Rattle.rs_exec.proofs.scan.TableNode.next.Goals as goal

pub passes-requires-clause-inside : goal.passes-requires-clause-inside
passes-requires-clause-inside c =
    let old = c.args.self.now in
    let loop = c.loop-row.self in
    let is = c.loop-row.invariant.self_is in
    let row = c.in-Some.row in
    let there = table-place old loop is (Some row) c.in-Some.ensures.row in
    let of_entry = table-row old loop is row c.requires.same_entry c.requires.same_block there in
    entry-inside c.args.context.now.catalog.now c.args.context.now.query.now c.block-block.result.now old.block old.entry old.scan.rows old.conjuncts loop.conjuncts row of_entry
    c.block-block.ensures c.requires.entry (ap (λ (node : TableNode). node.conjuncts) is)

pub passes-requires-clause-rows : goal.passes-requires-clause-rows
passes-requires-clause-rows c =
    let old = c.args.self.now in
    let loop = c.loop-row.self in
    let is = c.loop-row.invariant.self_is in
    let row = c.in-Some.row in
    let there = table-place old loop is (Some row) c.in-Some.ensures.row in
    let of_entry = table-row old loop is row c.requires.same_entry c.requires.same_block there in
    entry-rows c.args.context.now.catalog.now c.args.context.now.query.now c.block-block.result.now old.block old.entry old.scan.rows old.conjuncts loop.conjuncts row of_entry
    c.block-block.ensures c.requires.entry (ap (λ (node : TableNode). node.conjuncts) is)

pub returns-then-passes-clause-row : goal.returns-then-passes-clause-row
returns-then-passes-clause-row c =
    let old = c.args.self.now in
    let loop = c.loop-row.self in
    let is = c.loop-row.invariant.self_is in
    let row = c.in-Some.row in
    let there = table-place old loop is (Some row) c.in-Some.ensures.row in
    let of_entry = table-row old loop is row c.requires.same_entry c.requires.same_block there in
    let test = entry-passes c.args.context.now.catalog.now c.args.context.now.query.now c.block-block.result.now old.block old.entry old.scan.rows old.conjuncts loop.conjuncts row of_entry
    c.block-block.ensures c.requires.entry (ap (λ (node : TableNode). node.conjuncts) is) c.passes.result c.passes.ensures in
    let one = passed (passes c.args.context.now.catalog.now c.args.context.now.query.now) (rows_of_table old.scan) old.scan.drawn loop.scan.drawn row there (sym test ∙ c.if-passes.true) c.loop-row.invariant.none in
    one.next

pub returns-then-passes-clause-after : goal.returns-then-passes-clause-after
returns-then-passes-clause-after c =
    let old = c.args.self.now in
    let loop = c.loop-row.self in
    let is = c.loop-row.invariant.self_is in
    let row = c.in-Some.row in
    let there = table-place old loop is (Some row) c.in-Some.ensures.row in
    let of_entry = table-row old loop is row c.requires.same_entry c.requires.same_block there in
    let test = entry-passes c.args.context.now.catalog.now c.args.context.now.query.now c.block-block.result.now old.block old.entry old.scan.rows old.conjuncts loop.conjuncts row of_entry
    c.block-block.ensures c.requires.entry (ap (λ (node : TableNode). node.conjuncts) is) c.passes.result c.passes.ensures in
    let one = passed (passes c.args.context.now.catalog.now c.args.context.now.query.now) (rows_of_table old.scan) old.scan.drawn loop.scan.drawn row there (sym test ∙ c.if-passes.true) c.loop-row.invariant.none in
    let drew = table-drew old loop is c.next.new.self row there c.next.ensures.after in
    table-gave old loop is c.next.new.self c.give.new.self row (loop.scan.drawn + 1) _ drew c.give.ensures one.drawn

pub loop-row-smaller : goal.loop-row-smaller
loop-row-smaller c =
    let old = c.args.self.now in
    let loop = c.loop-row.self in
    let is = c.loop-row.invariant.self_is in
    let row = c.in-Some.row in
    let there = table-place old loop is (Some row) c.in-Some.ensures.row in
    let drew = table-drew old loop is c.next.new.self row there c.next.ensures.after in
    table-nearer old loop is c.next.new.self row there drew

pub loop-row-preserved : goal.loop-row-preserved
loop-row-preserved c =
    let old = c.args.self.now in
    let loop = c.loop-row.self in
    let is = c.loop-row.invariant.self_is in
    let row = c.in-Some.row in
    let there = table-place old loop is (Some row) c.in-Some.ensures.row in
    let of_entry = table-row old loop is row c.requires.same_entry c.requires.same_block there in
    let test = entry-passes c.args.context.now.catalog.now c.args.context.now.query.now c.block-block.result.now old.block old.entry old.scan.rows old.conjuncts loop.conjuncts row of_entry
    c.block-block.ensures c.requires.entry (ap (λ (node : TableNode). node.conjuncts) is) c.passes.result c.passes.ensures in
    let drew = table-drew old loop is c.next.new.self row there c.next.ensures.after in
    record {
      none = subst (λ n. NonePassed (passes c.args.context.now.catalog.now c.args.context.now.query.now) (rows_of_table old.scan) old.scan.drawn n) (sym (ap (λ (s : TableScan). s.drawn) drew))
          (none-more (passes c.args.context.now.catalog.now c.args.context.now.query.now) (rows_of_table old.scan) old.scan.drawn loop.scan.drawn row there (sym test ∙ c.if-passes.false) c.loop-row.invariant.none);
      self_is = table-goes_on old loop is c.next.new.self (loop.scan.drawn + 1) drew;
    }

pub returns-clause-row : goal.returns-clause-row
returns-clause-row c =
    let old = c.args.self.now in
    let loop = c.loop-row.self in
    let is = c.loop-row.invariant.self_is in
    let past = table-place old loop is None (sym c.in_default.is ∙ c.next.ensures.row) in
    let end = ended (passes c.args.context.now.catalog.now c.args.context.now.query.now) (rows_of_table old.scan) old.scan.drawn loop.scan.drawn past c.loop-row.invariant.none in
    end.next

pub returns-clause-after : goal.returns-clause-after
returns-clause-after c =
    let old = c.args.self.now in
    let loop = c.loop-row.self in
    let is = c.loop-row.invariant.self_is in
    let past = table-place old loop is None (sym c.in_default.is ∙ c.next.ensures.row) in
    let end = ended (passes c.args.context.now.catalog.now c.args.context.now.query.now) (rows_of_table old.scan) old.scan.drawn loop.scan.drawn past c.loop-row.invariant.none in
    let at_end = c.next.ensures.end.0 c.in_default.is in
    let stayed = table-stayed old loop is c.next.new.self at_end c.next.ensures.after in
    table-ended old loop is c.next.new.self loop.scan.drawn _ stayed end.drawn
