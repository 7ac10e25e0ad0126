-- A pair behind the last one of a run goes on with it.
use Rattle.std.proofs.Common.{◌≡◌, ◌-◌, ◌<◌, suc, length, refl, sym, ◌∙◌, ap, subst, arith}
use Rattle.std.specs.Ordering.{is_lt}
use Rattle.std.specs.declared.cmp.Ordering.TheVariants.{Less}
use Rattle.rs_order.proofs.PartFacts.{is_lt-Less}
use Rattle.rs_queue.proofs.RunFacts.{Climbs-first, Climbs-push, none-left}
use Rattle.rs_queue.proofs.queue.is_behind.Goals as goal

pub returns-in-Some : goal.returns-in-Some
returns-in-Some g c item behind =
    let cmp = g.K.Ord.cmp in
    let run = c.args.run.now in
    let last = c.in-Some.last.now in
    let asked = c.cmp.ensures ∙ ap (λ key. cmp key c.args.key.now) c.key.ensures in
    let held : 0 < run.len = c.in-Some.ensures.variant.0 refl in
    let count : length run.items ≡ suc (run.len - 1) = omega (arith, run.ok.0) in
    Climbs-push cmp g.met.K.Ord.total (c.args.key.now, item) last run.items (run.len - 1) count c.requires
    (subst (λ pair. cmp pair.0 c.args.key.now ≡ Less) c.in-Some.ensures.lookup (is_lt-Less (cmp last.0 c.args.key.now) (ap is_lt (sym asked) ∙ sym c.is_lt.ensures ∙ behind)))

pub returns-in-None : goal.returns-in-None
returns-in-None g c item behind =
    Climbs-first g.K.Ord.cmp g.met.K.Ord.total (c.args.key.now, item) c.args.run.now.items (sym c.args.run.now.ok.0 ∙ none-left c.args.run.now.len c.in-None.ensures.variant.1)
