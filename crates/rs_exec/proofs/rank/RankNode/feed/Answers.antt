use Rattle.std.proofs.Common.{ℕ, ◌≡◌, ◌∙◌, ◌-◌, ◌+◌, sym, ap, subst}
use Rattle.std.specs.Prelude.{Err, Ok, Some, slice_get}
use Rattle.rs_mu.specs.Mu.{CanFeed, Mu, fed}
use Rattle.rs_query.specs.declared.block.Block.{Block}
use Rattle.rs_query.specs.declared.term.Term.{Term as BoundTerm}
use Rattle.rs_value.proofs.ResultFacts.{given-err}
use Rattle.rs_query.specs.Blocks.{block_in}
use Rattle.rs_query.proofs.ToldFacts.{Inquires-told}
use Rattle.rs_exec.specs.Asking.{exec_fault}
use Rattle.rs_exec.specs.declared.fault.ExecFault.TheVariants.{Memory}
use Rattle.rs_exec.specs.declared.rank.RankNode.{RankNode}
use Rattle.rs_exec.proofs.FeedFacts.{asked-worth, feed-done, feed-failed, feed-stopped}
use Rattle.rs_exec.proofs.rank.RankNode.feed.Goals as goal

-- a term of the block by its number
term-in : (block own : Block) (place : ℕ) (term : BoundTerm) → block ≡ own → slice_get own.terms place ≡ Some term → slice_get block.terms place ≡ Some term
term-in block own place term is e = ap (λ (b : Block). slice_get b.terms place) is ∙ e

pub returns-in_err-worth : goal.returns-in_err-worth
returns-in_err-worth g c = λ term e.
    feed-failed c.args.context.now.catalog.now c.args.context.now.query.now c.args.row term c.args.self.now (g.S.Scorer.state c.args.scorer.now) (g.S.Scorer.state c.ask.new.scorer)
    c.block-block.result.now c.block-block.ensures (exec_fault c.in_err-worth.field-0.0) c.from_residual.result c.args.self.now
    (given-err c.from_residual.result (exec_fault c.in_err-worth.field-0.0) c.from_residual.ensures)
    (Inquires-told exec_fault c.args.context.now.catalog.now c.block-block.result.now c.args.row.ids term (Err c.in_err-worth.field-0.0)
    (g.S.Scorer.state c.args.scorer.now) (g.S.Scorer.state c.ask.new.scorer)
    (c.in_err-worth.ensures term (term-in c.block-block.result.now (block_in c.args.context.now.query.now c.args.row.ids.block) (c.args.self.now.term - 1) term c.block-block.ensures e)))

pub feed-requires : goal.feed-requires
feed-requires g c =
    let can = c.requires.can in
    let gave = asked-worth c.args.context.now.catalog.now c.args.context.now.query.now c.args.row can.term c.args.self.now (g.S.Scorer.state c.args.scorer.now) (g.S.Scorer.state c.ask.new.scorer)
    c.block-block.result.now c.block-block.ensures c.in_ok-worth.worth
    (Inquires-told exec_fault c.args.context.now.catalog.now c.block-block.result.now c.args.row.ids can.term (Ok c.in_ok-worth.worth)
    (g.S.Scorer.state c.args.scorer.now) (g.S.Scorer.state c.ask.new.scorer)
    (c.in_ok-worth.ensures can.term (term-in c.block-block.result.now (block_in c.args.context.now.query.now c.args.row.ids.block) (c.args.self.now.term - 1) can.term c.block-block.ensures can.is_term))) in
    subst (λ worth. CanFeed c.args.row worth c.args.self.now.core) (sym gave.is_value) can.feeds

pub returns-in_err-feed : goal.returns-in_err-feed
returns-in_err-feed g c = λ term e.
    let old = g.S.Scorer.state c.args.scorer.now in
    let new = g.S.Scorer.state c.ask.new.scorer in
    let gave = asked-worth c.args.context.now.catalog.now c.args.context.now.query.now c.args.row term c.args.self.now old new c.block-block.result.now c.block-block.ensures c.in_ok-worth.worth
    (Inquires-told exec_fault c.args.context.now.catalog.now c.block-block.result.now c.args.row.ids term (Ok c.in_ok-worth.worth)
    (g.S.Scorer.state c.args.scorer.now) (g.S.Scorer.state c.ask.new.scorer)
    (c.in_ok-worth.ensures term (term-in c.block-block.result.now (block_in c.args.context.now.query.now c.args.row.ids.block) (c.args.self.now.term - 1) term c.block-block.ensures e))) in
    feed-stopped c.args.context.now.catalog.now c.args.context.now.query.now c.args.row term c.args.self.now old new c.from_residual-in_err-feed.result _
    (given-err c.from_residual-in_err-feed.result Memory c.from_residual-in_err-feed.ensures) gave.asked

pub returns : goal.returns
returns g c = λ term e.
    let old = g.S.Scorer.state c.args.scorer.now in
    let new = g.S.Scorer.state c.ask.new.scorer in
    let head = c.args.self.now in
    let gave = asked-worth c.args.context.now.catalog.now c.args.context.now.query.now c.args.row term head old new c.block-block.result.now c.block-block.ensures c.in_ok-worth.worth
    (Inquires-told exec_fault c.args.context.now.catalog.now c.block-block.result.now c.args.row.ids term (Ok c.in_ok-worth.worth)
    (g.S.Scorer.state c.args.scorer.now) (g.S.Scorer.state c.ask.new.scorer)
    (c.in_ok-worth.ensures term (term-in c.block-block.result.now (block_in c.args.context.now.query.now c.args.row.ids.block) (head.term - 1) term c.block-block.ensures e))) in
    let node : Mu → RankNode = λ core. record { core = core; term = head.term; args = tt; tally = head.tally; calls = head.calls + 1 } in
    feed-done c.args.context.now.catalog.now c.args.context.now.query.now c.args.row term head old new (node c.feed.new.self)
    (ap node c.in_ok-feed.ensures.ok ∙ ap (λ worth. node (fed c.args.row worth head.core)) gave.is_value) gave.asked
