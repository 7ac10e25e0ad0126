-- What the operator does next is told by the first key, and what it holds is told by the queue of keys.
use Rattle.std.proofs.Common.{◌≡◌, ◌+◌, sym, ◌∙◌, ap, subst}
use Rattle.std.specs.List.{AllByRecursion}
use Rattle.rs_order.specs.Climbing.{Climbs}
use Rattle.rs_rank.specs.Keys.{key_cmp}
use Rattle.rs_mu.specs.Mu.{Mu, ask_first, ask_of, full_key, rows_of_keys}
use Rattle.rs_mu.proofs.MuFacts.{first_key-keys, keys-rest, rising-keys}
use Rattle.rs_mu.proofs.mu.MuCore.ask.Goals as goal

pub returns-clause-ask : goal.returns-clause-ask
returns-clause-ask c =
    let kept = c.self.inside in
    c.ask_first.ensures
    ∙ ap (ask_first kept.last kept.ended) (c.peek.ensures.first ∙ sym (first_key-keys kept.above kept.held))
    ∙ ap ask_of c.self.view_is

pub returns-clause-ordered : goal.returns-clause-ordered
returns-clause-ordered c =
    subst (λ (mu : Mu). Climbs key_cmp (λ pair. pair.0) mu.held) c.self.view_is
    (rising-keys c.self.inside.above c.self.inside.held c.peek.ensures.ordered)

pub returns-clause-keys : goal.returns-clause-keys
returns-clause-keys c =
    let kept = c.self.inside in
    subst (λ (mu : Mu). AllByRecursion (λ pair. pair.0 ≡ full_key mu pair.1) mu.held) c.self.view_is
    (subst (λ rest. AllByRecursion (λ pair. pair.0 ≡ record { bound = pair.1.sum + rest; ids = pair.1.ids }) (rows_of_keys kept.above kept.held)) c.self.invariant.3
    (keys-rest kept.above kept.held c.self.invariant.4))
