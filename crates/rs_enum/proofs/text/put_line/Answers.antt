-- The parts of a line, one after another.
use Rattle.std.proofs.Common.{◌*◌, ◌∷◌, [], replicate, codes, decimal}
use Rattle.rs_plan.specs.Shapes.{tree_of}
use Rattle.rs_enum.specs.Texts.{done_by, name_of}
use Rattle.rs_enum.proofs.TextFacts.{line-text}
use Rattle.rs_enum.proofs.text.put_line.Goals as goal

pub returns : goal.returns
returns c =
    line-text c.args.text.now.items c.put_indent.new.text.items c.put_name.new.text.items c.put_number.new.text.items c.put_number-2.new.text.items
    c.put_done.new.text.items c.push.new.self.items (replicate (2 * c.args.line.level) 32) (name_of c.args.catalog.now c.args.query.now c.args.number (tree_of c.args.plan.now))
    (codes " est=") (decimal c.args.line.rows) (codes " cost=") (decimal c.args.line.cost) (done_by (tree_of c.args.plan.now) c.args.line.done) (10 ∷ [])
    c.in_ok-put_indent.ensures c.in_ok-put_name.ensures c.in_ok-put_number.ensures c.in_ok-put_number-2.ensures c.in_ok-put_done.ensures c.in_ok-push.ensures.items
