-- The question of the last call.
use Rattle.std.proofs.Common.{◌≡◌, List, [], ◌∷◌, ◌++◌, refl}
use Rattle.rs_expr.specs.declared.scorer.Call.{Call}
use Rattle.rs_scores.specs.Known.{Known}
use Rattle.rs_scores.specs.TableScorer.{missing_for, missing_last}

-- after one more call it is that call's
pub missing_last-push : (known : Known) (calls : List Call) (call : Call) → missing_last known (calls ++ call ∷ []) ≡ missing_for known call
missing_last-push known [] call = refl
missing_last-push known (first ∷ []) call = refl
missing_last-push known (first ∷ next ∷ rest) call = missing_last-push known (next ∷ rest) call
