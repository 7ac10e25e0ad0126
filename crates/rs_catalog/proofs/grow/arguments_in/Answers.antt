use Rattle.std.proofs.Common.{◌∙◌, ◌++◌, ◌∷◌, [], sym, ap, take, ◌+◌}
use Rattle.rs_value.specs.Value.{all_fit}
use Rattle.rs_catalog.specs.Indexes.{args_in}
use Rattle.rs_catalog.proofs.ArgumentFacts.{HasKind-at, all_fit-all, all_fit-more, args_in-more}
use Rattle.rs_catalog.proofs.grow.arguments_in.Goals as goal

pub argument_in-requires : goal.argument_in-requires
argument_in-requires c =
    let fit = c.requires.fits.1.1 in
    let has = HasKind-at c.requires.fits.0 c.requires.fits.1.0 c.args.args.now c.loop-arg.arg-index c.arg-item.result fit.1 c.loop-arg-test.true c.arg-item.is in
    record { fits = (c.requires.fits.0, (has.kind, (fit.0, has.fit))) }

pub loop-arg-preserved : goal.loop-arg-preserved
loop-arg-preserved c =
    record {
      values = c.in_ok-push.ensures.items
          ∙ ap (λ made. made ++ c.in_ok-argument_in.field-0 ∷ []) c.loop-arg.invariant.values
          ∙ ap (λ v. args_in (take c.loop-arg.arg-index c.args.args.now) c.args.row.now ++ v ∷ []) c.in_ok-argument_in.ensures.value
          ∙ sym (args_in-more c.args.row.now c.args.args.now c.loop-arg.arg-index c.arg-item.result c.loop-arg-test.true c.arg-item.is);
      fit = λ columns kinds row e. ap (all_fit (take (c.loop-arg.arg-index + 1) kinds)) c.in_ok-push.ensures.items
          ∙ all_fit-more columns kinds c.args.args.now c.loop-arg.arg-index c.arg-item.result c.loop-arg.values.items c.in_ok-argument_in.field-0 e
          c.loop-arg-test.true c.arg-item.is (c.loop-arg.invariant.fit columns kinds row e) (λ kind. c.in_ok-argument_in.ensures.fit columns kind row);
    }

pub returns-clause-fit : goal.returns-clause-fit
returns-clause-fit c columns kinds row e =
    all_fit-all columns kinds c.args.args.now c.loop-arg.arg-index c.loop-arg.values.items e c.loop-arg-test.false (c.loop-arg.invariant.fit columns kinds row e)
