-- The sort by falling scores is stable, so it gives the stable order.
use Rattle.std.proofs.Common.{rules}
use Rattle.std.proofs.lemmas.List.Sorted.{answers_always}
use Rattle.rs_rank.proofs.StableFacts.{stable-sorted}
use Rattle.rs_rank.proofs.stable.sort_stably.Goals as goal

pub returns-clause-ok : goal.returns-clause-ok
returns-clause-ok g c =
    stable-sorted g.T.Scored.score_of c.args.rows.now.items c.sort_by_key.new.self.items
    (c.in_ok-sort_by_key.ensures.sorted (λ row. record { 0 = g.T.Scored.score_of row }) (answers_always _ _ _ (λ f a r f' k. search rules)))
    (c.in_ok-sort_by_key.ensures.stable (λ row. record { 0 = g.T.Scored.score_of row }) (answers_always _ _ _ (λ f a r f' k. search rules)))
