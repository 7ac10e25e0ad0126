use Rattle.std.proofs.Common.{◌≡◌, map, take}
use Rattle.rs_query.specs.Conjuncts.{ConjunctDef}
use Rattle.rs_query.specs.Meaning.{conjunct_holds}
use Rattle.rs_sample.specs.Choosing.{sampled_choices}
use Rattle.rs_sample.proofs.truths.evaluate_conjuncts.Given as goal

-- the first conjuncts have their truths
abbrev pub invariant-loop-place : goal.invariant-loop-place
invariant-loop-place l =
    l.truths.items ≡ map (λ (conjunct : ConjunctDef). map (λ rows. conjunct_holds l.catalog l.block rows conjunct) (sampled_choices conjunct.entries l.samples))
    (take l.place l.block.conjuncts)
