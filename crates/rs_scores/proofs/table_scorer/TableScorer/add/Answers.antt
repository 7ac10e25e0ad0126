use Rattle.std.proofs.Common.{◌∙◌, ◌∷◌, ◌++◌, [], ap, sym}
use Rattle.rs_expr.specs.declared.scorer.Call.{Call}
use Rattle.rs_scores.specs.TableScorer.{TableScorerState, missing_for, missing_last}
use Rattle.rs_scores.proofs.TableFacts.{missing_last-push}
use Rattle.rs_scores.proofs.table_scorer.TableScorer.add.Goals as goal

pub invariant_of-self-2 : goal.invariant_of-self-2
invariant_of-self-2 c =
    let call : Call = record { predicate = c.args.predicate.now; args = c.args.args.now } in
    record {
      missing =
          c.requires
          ∙ ap (λ (scorer : TableScorerState). missing_for scorer.known call) (sym c.self.view_is)
          ∙ sym (missing_last-push c.self.inside.known.now c.self.inside.calls.items call)
          ∙ sym (ap (missing_last c.self.inside.known.now) (c.in_ok-push.ensures.items ∙ ap (λ (last : Call). c.self.inside.calls.items ++ last ∷ []) c.in_ok-call.ensures));
    }
