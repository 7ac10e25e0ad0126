use Rattle.std.proofs.Common.{◌∙◌, ◌++◌, ◌∷◌, [], sym, ap, take, ◌+◌}
use Rattle.rs_value.specs.Value.{all_fit}
use Rattle.rs_catalog.specs.Indexes.{args_in, row_at}
use Rattle.rs_catalog.proofs.ArgumentFacts.{HasKind-at, all_fit-all, all_fit-more, args_in-more}
use Rattle.rs_catalog.proofs.make.arguments_of.Goals as goal

pub argument_of-requires-clause-fits : goal.argument_of-requires-clause-fits
argument_of-requires-clause-fits c =
    let has = HasKind-at c.args.table.now.schema c.requires.fits.0 c.args.args.now c.loop-arg.arg-index c.arg-item.result c.requires.fits.1 c.loop-arg-test.true c.arg-item.is in
    (has.kind, has.fit)

pub loop-arg-preserved : goal.loop-arg-preserved
loop-arg-preserved c =
    record {
      values = c.in_ok-push.ensures.items
          ∙ ap (λ made. made ++ c.in_ok-argument_of.field-0 ∷ []) c.loop-arg.invariant.values
          ∙ ap (λ v. args_in (take c.loop-arg.arg-index c.args.args.now) (row_at c.args.table.now.rows c.args.row) ++ v ∷ []) c.in_ok-argument_of.ensures.value
          ∙ sym (args_in-more (row_at c.args.table.now.rows c.args.row) c.args.args.now c.loop-arg.arg-index c.arg-item.result c.loop-arg-test.true c.arg-item.is);
      fit = λ kinds e. ap (all_fit (take (c.loop-arg.arg-index + 1) kinds)) c.in_ok-push.ensures.items
          ∙ all_fit-more c.args.table.now.schema kinds c.args.args.now c.loop-arg.arg-index c.arg-item.result c.loop-arg.values.items c.in_ok-argument_of.field-0 e
          c.loop-arg-test.true c.arg-item.is (c.loop-arg.invariant.fit kinds e) c.in_ok-argument_of.ensures.fit;
    }

pub returns-clause-fit : goal.returns-clause-fit
returns-clause-fit c kinds e =
    all_fit-all c.args.table.now.schema kinds c.args.args.now c.loop-arg.arg-index c.loop-arg.values.items e c.loop-arg-test.false (c.loop-arg.invariant.fit kinds e)
