-- The weights and maxima so far are those of the first terms.
use Rattle.std.proofs.Common.{◌≡◌, map, take}
use Rattle.rs_rank.specs.Weights.{IsWeights}
use Rattle.rs_query.specs.Answers.{padded}
use Rattle.rs_query.specs.declared.term.Term.{Term}
use Rattle.rs_query.proofs.block.Block.weights.Given as goal

abbrev pub invariant-loop-place : goal.invariant-loop-place
invariant-loop-place l = record {
  weight : l.weights.weight ≡ padded 8 (map (λ (t : Term). t.weight) (take l.place l.self.terms));
  max : l.weights.max ≡ padded 8 (map (λ (t : Term). t.max) (take l.place l.self.terms));
  limits : IsWeights l.weights;
}
