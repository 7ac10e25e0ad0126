use Rattle.std.proofs.Common.{◌≡◌, Some, map, take}
use Rattle.std.specs.Prelude.{slice_get}
use Rattle.rs_query.specs.Conjuncts.{ConjunctDef}
use Rattle.rs_query.specs.Meaning.{conjunct_holds}
use Rattle.rs_sample.proofs.truths.evaluate_conjunct.Given as goal

-- the first choices have their truths
abbrev pub invariant-loop-rows : goal.invariant-loop-rows
invariant-loop-rows l =
    (conjunct : ConjunctDef) → slice_get l.block.conjuncts l.place ≡ Some conjunct
    → l.truths.items ≡ map (λ rows. conjunct_holds l.catalog l.block rows conjunct) (take l.rows-index l.choices)
