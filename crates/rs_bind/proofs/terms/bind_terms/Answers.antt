use Rattle.std.proofs.Common.{◌≢◌, arith, length}
use Rattle.std.specs.Option.{option_copied}
use Rattle.std.proofs.lemmas.Result.{err_from_is_err_and}
use Rattle.rs_bind.proofs.TermSteps.{next-given, refused-given}
use Rattle.rs_bind.proofs.terms.bind_terms.Goals as goal

pub returns-in_err-bind_term : goal.returns-in_err-bind_term
returns-in_err-bind_term g c =
    let room : length c.loop-term.made.items ≢ 8 = omega arith in
    let p = err_from_is_err_and c.from_residual.result c.from_residual.ensures.1 in
    rw (p.1, p.2)
    (refused-given c.args.catalog.now (g.C.Columns.finds c.args.columns.now) (option_copied c.args.needed) c.args.terms.now c.loop-term.made.items
    c.loop-term.term-index c.term-item.result c.in_err-bind_term.field-0.0 (omega arith) c.term-item.is c.loop-term.invariant.so_far room
    c.in_err-bind_term.ensures)

pub loop-term-preserved : goal.loop-term-preserved
loop-term-preserved g c =
    let room : length c.loop-term.made.items ≢ 8 = omega arith in
    record {
      few = omega arith;
      so_far = next-given c.args.catalog.now (g.C.Columns.finds c.args.columns.now) (option_copied c.args.needed) c.args.terms.now c.loop-term.made.items
          c.loop-term.term-index c.term-item.result c.in_ok-bind_term.field-0 (omega arith) c.term-item.is c.loop-term.invariant.so_far room
          c.in_ok-bind_term.ensures c.push.new.self.items c.in_ok-push.ensures.items;
    }
