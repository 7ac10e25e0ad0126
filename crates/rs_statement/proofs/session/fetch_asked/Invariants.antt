use Rattle.std.proofs.Common.{◌-◌}
use Rattle.rs_statement.specs.Parts.Session.{wanted_step}
use Rattle.rs_events.proofs.SoFar.{SoFar}
use Rattle.rs_statement.proofs.WantedSteps.{IsFetching}
use Rattle.rs_statement.proofs.session.fetch_asked.Given as goal

-- some of the asks that are wanted were made and their rows put; the others are left
abbrev pub invariant-loop : goal.invariant-loop
invariant-loop g l =
    let answer = (g.W.Host.state l.fn.host).scorer.answer in record {
      so_far : SoFar (wanted_step l.catalog answer l.fn.cursor l.count) (wanted_step l.catalog answer l.cursor (l.count - l.counter))
          (g.W.Host.state l.fn.host) (g.W.Host.state l.host);
      fetching : IsFetching l.catalog answer l.fn.cursor l.count l.cursor (l.count - l.counter);
    }
