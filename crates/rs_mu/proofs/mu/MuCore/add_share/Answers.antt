-- The share is at most weight times maximum, and with it the sum is one that all the terms can give.
use Rattle.std.proofs.Common.{◌+◌, ◌≤◌, bit_or, ap, subst, rules, arith}
use Rattle.rs_rank.specs.Masks.{mask_of}
use Rattle.rs_rank.specs.Weights.{most_evaluated, score_limit}
use Rattle.rs_mu.specs.Mu.{Mu}
use Rattle.rs_rank.proofs.WeightFacts.{most_evaluated-limit}
use Rattle.rs_mu.proofs.MuFacts.{sum_with-term}
use Rattle.rs_mu.proofs.mu.MuCore.add_share.Goals as goal

-- the new sum, of what the operator keeps
total : (c : goal.After-share) → c.args.row.now.sum + c.share.result ≤ most_evaluated c.self.inside.weights (bit_or c.self.inside.terms (mask_of c.self.inside.term))
total c =
    let weights = ap (λ (mu : Mu). mu.weights) c.self.view_is in
    let terms = ap (λ (mu : Mu). mu.terms) c.self.view_is in
    let term = ap (λ (mu : Mu). mu.term) c.self.view_is in
    rw (c.share.ensures, c.from.ensures)
    (sum_with-term c.self.inside.weights c.self.inside.terms c.self.inside.term c.args.row.now.sum c.args.worth c.self.invariant.0 c.self.invariant.1
    (rw (weights, terms) c.requires.sum) (rw (weights, term) c.requires.limit))

pub overflow_add-result : goal.overflow_add-result
overflow_add-result c =
    let within = total c in
    let limit = most_evaluated-limit c.self.inside.weights (bit_or c.self.inside.terms (mask_of c.self.inside.term)) c.self.invariant.0 in
    let low : c.args.row.now.sum + c.share.result ≤ score_limit = omega arith in
    search rules

pub returns-clause-sum : goal.returns-clause-sum
returns-clause-sum c =
    subst (λ (mu : Mu). c.args.row.now.sum + c.share.result ≤ most_evaluated mu.weights (bit_or mu.terms (mask_of mu.term))) c.self.view_is (total c)
