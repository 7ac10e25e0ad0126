-- The value of the next argument is the argument's, of its kind.
use Rattle.std.proofs.Common.{◌≡◌, ◌∙◌, ◌+◌, ◌++◌, [], ◌∷◌, Some, length, take, refl, sym, ap}
use Rattle.std.specs.Prelude.{slice_get}
use Rattle.std.proofs.lemmas.Option.{slice_get_read}
use Rattle.rs_value.specs.Value.{all_fit}
use Rattle.rs_query.specs.Meaning.{argument_value}
use Rattle.rs_query.proofs.ArgFacts.{HasKind-at, all_fit-all, all_fit-more}
use Rattle.rs_query.proofs.EntryFacts.{arg-inside}
use Rattle.rs_query.proofs.ListFacts.{map-take-more}
use Rattle.rs_query.proofs.block.Block.args_of.Goals as goal

pub push_arg-requires-clause-arg : goal.push_arg-requires-clause-arg
push_arg-requires-clause-arg c =
    let args = c.args.args.now in
    let i = c.loop-arg.arg-index in
    let at : slice_get args i ≡ Some c.arg-item.result = slice_get_read args (length args) i c.arg-item.result refl c.loop-arg-test.true c.arg-item.is in
    let has = HasKind-at c.args.catalog.now c.args.self.now c.requires.args.0 args i c.arg-item.result c.requires.args.1 at in
    (has.kind, has.is)

pub push_arg-requires-clause-inside : goal.push_arg-requires-clause-inside
push_arg-requires-clause-inside c =
    let args = c.args.args.now in
    let i = c.loop-arg.arg-index in
    let at : slice_get args i ≡ Some c.arg-item.result = slice_get_read args (length args) i c.arg-item.result refl c.loop-arg-test.true c.arg-item.is in
    arg-inside args i c.arg-item.result c.args.ids.now.mask c.requires.inside at

pub loop-arg-preserved : goal.loop-arg-preserved
loop-arg-preserved c =
    let args = c.args.args.now in
    let i = c.loop-arg.arg-index in
    let at : slice_get args i ≡ Some c.arg-item.result = slice_get_read args (length args) i c.arg-item.result refl c.loop-arg-test.true c.arg-item.is in
    let value = argument_value c.args.catalog.now c.args.self.now c.args.ids.now.rows c.arg-item.result in
    record {
      values = c.in_ok-push_arg.ensures.value
          ∙ ap (λ made. made ++ value ∷ []) c.loop-arg.invariant.values
          ∙ sym (map-take-more (argument_value c.args.catalog.now c.args.self.now c.args.ids.now.rows) args i c.arg-item.result at);
      fit = λ kinds are. ap (all_fit (take (i + 1) kinds)) c.in_ok-push_arg.ensures.value
          ∙ all_fit-more c.args.catalog.now c.args.self.now kinds args i c.arg-item.result c.loop-arg.values.items value are at
          (c.loop-arg.invariant.fit kinds are) c.in_ok-push_arg.ensures.fit;
    }

pub returns-clause-fit : goal.returns-clause-fit
returns-clause-fit c kinds are =
    all_fit-all c.args.catalog.now c.args.self.now kinds c.args.args.now c.loop-arg.arg-index c.loop-arg.values.items are c.loop-arg-test.false (c.loop-arg.invariant.fit kinds are)
