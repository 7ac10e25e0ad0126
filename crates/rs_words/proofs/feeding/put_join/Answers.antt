use Rattle.std.proofs.Common.{◌∙◌, Err, ap, refl, subst, sym}
use Rattle.rs_events.specs.Running.{Ran}
use Rattle.rs_feed_join.specs.declared.fault.JoinFault.{JoinFault}
use Rattle.rs_words.specs.declared.fault.PutFault.{PutFault}
use Rattle.rs_words.specs.declared.fault.WordFault.{WordFault}
use Rattle.rs_words.specs.Drawing.{DrawsAsPut}
use Rattle.rs_words.specs.Faults.{put_fault, put_faults}
use Rattle.rs_words.specs.Feeding.{pairs_run}
use Rattle.rs_words.specs.Joining.{IsOfTables, join_fault}
use Rattle.rs_words.specs.Putting.{call_before, draws_in_all}
use Rattle.rs_words.proofs.CallFacts.{of-leaves}
use Rattle.rs_words.proofs.CertifyFacts.{some-environment}
use Rattle.rs_words.proofs.DrawingFacts.{draws-ended, draws-stopped, draws-unput, stops-join, stops-put}
use Rattle.rs_words.proofs.FeedingFacts.{draws-line, run-ended, run-stopped, run-unput}
use Rattle.rs_words.proofs.feeding.put_join.Goals as goal

pub returns-in-Ok-clause-puts : goal.returns-in-Ok-clause-puts
returns-in-Ok-clause-puts g c = λ beside.
    let left = c.args.left.now in
    let right = c.args.right.now in
    let ensures = c.in-Ok.ensures in
    let middle = record beside { out = g.O.Sink.state c.put_pairs.new.out } in
    let new = record beside { out = g.O.Sink.state c.put_draws.new.out } in
    let puts = ensures.told beside left.rows right.rows refl refl c.requires.left.scores c.requires.right.scores in
    run-ended left.rows right.rows c.args.count (record beside { out = g.O.Sink.state c.args.out.now }) c.put_draws.result c.put_pairs.new.join middle new puts
    (draws-line (draws_in_all left.rows right.rows c.args.count) c.put_pairs.new.left.draws c.put_pairs.new.right.draws c.draws.result c.draws-in-Ok.result c.put_draws.result middle new c.draws.ensures c.draws-in-Ok.ensures
    (ensures.leaves.left_drawn.draws ∙ puts.drawn.left_draws) (ensures.leaves.right_drawn.draws ∙ puts.drawn.right_draws) (c.put_draws.ensures beside))

pub returns-in-Ok-clause-draws : goal.returns-in-Ok-clause-draws
returns-in-Ok-clause-draws g c = λ beside.
    let left = c.args.left.now in
    let right = c.args.right.now in
    let ensures = c.in-Ok.ensures in
    let middle = record beside { out = g.O.Sink.state c.put_pairs.new.out } in
    let new = record beside { out = g.O.Sink.state c.put_draws.new.out } in
    let puts = ensures.told beside left.rows right.rows refl refl c.requires.left.scores c.requires.right.scores in
    draws-ended left.rows right.rows c.args.count c.put_pairs.new.join c.put_pairs.new.left c.put_pairs.new.right ensures.leaves.left_drawn.draws ensures.leaves.right_drawn.draws
    (record beside { out = g.O.Sink.state c.args.out.now }) middle new c.put_draws.result puts
    (draws-line (draws_in_all left.rows right.rows c.args.count) c.put_pairs.new.left.draws c.put_pairs.new.right.draws c.draws.result c.draws-in-Ok.result c.put_draws.result middle new c.draws.ensures c.draws-in-Ok.ensures
    (ensures.leaves.left_drawn.draws ∙ puts.drawn.left_draws) (ensures.leaves.right_drawn.draws ∙ puts.drawn.right_draws) (c.put_draws.ensures beside))

pub join_fault-requires : goal.join_fault-requires
join_fault-requires g c =
    let left = c.args.left.now in
    let right = c.args.right.now in
    let ensures = c.in-Err-Join.ensures in
    let stops = stops-join left right c.args.count c.put_pairs.new.join (g.O.Sink.state c.args.out.now) (g.O.Sink.state c.put_pairs.new.out) c.in-Err-Join.field-0 c.in-Err-Join.why c.in-Err-Join.field-0-is
    (λ beside. ensures.told beside left.rows right.rows refl refl c.requires.left.scores c.requires.right.scores) some-environment in
    subst IsOfTables (sym c.in-Err-Join.why-is)
    (of-leaves left right c.put_pairs.new.left c.put_pairs.new.right c.requires.left c.requires.right c.put_pairs.new.join (call_before c.in-Err-Join.field-0) ensures.leaves stops.n c.in-Err-Join.why
    (ap call_before c.in-Err-Join.field-0-is) stops.next)

pub returns-in-Err-Join-clause-puts : goal.returns-in-Err-Join-clause-puts
returns-in-Err-Join-clause-puts g c = λ beside.
    let left = c.args.left.now in
    let right = c.args.right.now in
    let ensures = c.in-Err-Join.ensures in
    let old = record beside { out = g.O.Sink.state c.args.out.now } in
    let new = record beside { out = g.O.Sink.state c.put_pairs.new.out } in
    let stops = stops-join left right c.args.count c.put_pairs.new.join (g.O.Sink.state c.args.out.now) (g.O.Sink.state c.put_pairs.new.out) c.in-Err-Join.field-0 c.in-Err-Join.why c.in-Err-Join.field-0-is
    (λ beside. ensures.told beside left.rows right.rows refl refl c.requires.left.scores c.requires.right.scores) beside in
    let of = of-leaves left right c.put_pairs.new.left c.put_pairs.new.right c.requires.left c.requires.right c.put_pairs.new.join (call_before c.in-Err-Join.field-0) ensures.leaves stops.n c.in-Err-Join.why
    (ap call_before c.in-Err-Join.field-0-is) stops.next in
    subst (λ (fault : WordFault). Ran put_faults (pairs_run left.rows right.rows c.args.count) (Err fault) old new) (sym c.join_fault.ensures)
    (subst (λ (why : JoinFault). Ran put_faults (pairs_run left.rows right.rows c.args.count) (Err (join_fault why)) old new) (sym c.in-Err-Join.why-is)
    (run-stopped left.rows right.rows c.args.count old c.in-Err-Join.why c.put_pairs.new.join new of stops))

pub returns-in-Err-Join-clause-draws : goal.returns-in-Err-Join-clause-draws
returns-in-Err-Join-clause-draws g c = λ beside.
    let left = c.args.left.now in
    let right = c.args.right.now in
    let ensures = c.in-Err-Join.ensures in
    let old = record beside { out = g.O.Sink.state c.args.out.now } in
    let new = record beside { out = g.O.Sink.state c.put_pairs.new.out } in
    let stops = stops-join left right c.args.count c.put_pairs.new.join (g.O.Sink.state c.args.out.now) (g.O.Sink.state c.put_pairs.new.out) c.in-Err-Join.field-0 c.in-Err-Join.why c.in-Err-Join.field-0-is
    (λ beside. ensures.told beside left.rows right.rows refl refl c.requires.left.scores c.requires.right.scores) beside in
    let of = of-leaves left right c.put_pairs.new.left c.put_pairs.new.right c.requires.left c.requires.right c.put_pairs.new.join (call_before c.in-Err-Join.field-0) ensures.leaves stops.n c.in-Err-Join.why
    (ap call_before c.in-Err-Join.field-0-is) stops.next in
    subst (λ (fault : WordFault). DrawsAsPut left.rows right.rows c.args.count (Err fault) c.put_pairs.new.left c.put_pairs.new.right old new) (sym c.join_fault.ensures)
    (subst (λ (why : JoinFault). DrawsAsPut left.rows right.rows c.args.count (Err (join_fault why)) c.put_pairs.new.left c.put_pairs.new.right old new) (sym c.in-Err-Join.why-is)
    (draws-stopped left.rows right.rows c.args.count c.put_pairs.new.join c.put_pairs.new.left c.put_pairs.new.right ensures.leaves.left_drawn.draws ensures.leaves.right_drawn.draws old new c.in-Err-Join.why of stops))

pub returns-clause-puts : goal.returns-clause-puts
returns-clause-puts g c = λ beside.
    let left = c.args.left.now in
    let right = c.args.right.now in
    let old = record beside { out = g.O.Sink.state c.args.out.now } in
    let new = record beside { out = g.O.Sink.state c.put_pairs.new.out } in
    subst (λ (fault : WordFault). Ran put_faults (pairs_run left.rows right.rows c.args.count) (Err fault) old new) (sym c.put_fault.ensures)
    (subst (λ (why : PutFault). Ran put_faults (pairs_run left.rows right.rows c.args.count) (Err (put_fault why)) old new) (sym c.in-Err-Put.why-is)
    (run-unput left.rows right.rows c.args.count old c.in-Err-Put.why c.put_pairs.new.join new
    (stops-put left right c.args.count c.put_pairs.new.join (g.O.Sink.state c.args.out.now) (g.O.Sink.state c.put_pairs.new.out) c.in-Err-Put.field-0 c.in-Err-Put.why c.in-Err-Put.field-0-is
    (λ beside. c.in-Err-Put.ensures.told beside left.rows right.rows refl refl c.requires.left.scores c.requires.right.scores) beside)))

pub returns-clause-draws : goal.returns-clause-draws
returns-clause-draws g c = λ beside.
    let left = c.args.left.now in
    let right = c.args.right.now in
    let ensures = c.in-Err-Put.ensures in
    let old = record beside { out = g.O.Sink.state c.args.out.now } in
    let new = record beside { out = g.O.Sink.state c.put_pairs.new.out } in
    subst (λ (fault : WordFault). DrawsAsPut left.rows right.rows c.args.count (Err fault) c.put_pairs.new.left c.put_pairs.new.right old new) (sym c.put_fault.ensures)
    (subst (λ (why : PutFault). DrawsAsPut left.rows right.rows c.args.count (Err (put_fault why)) c.put_pairs.new.left c.put_pairs.new.right old new) (sym c.in-Err-Put.why-is)
    (draws-unput left.rows right.rows c.args.count c.put_pairs.new.join c.put_pairs.new.left c.put_pairs.new.right ensures.leaves.left_drawn.draws ensures.leaves.right_drawn.draws old new c.in-Err-Put.why
    (stops-put left right c.args.count c.put_pairs.new.join (g.O.Sink.state c.args.out.now) (g.O.Sink.state c.put_pairs.new.out) c.in-Err-Put.field-0 c.in-Err-Put.why c.in-Err-Put.field-0-is
    (λ beside. ensures.told beside left.rows right.rows refl refl c.requires.left.scores c.requires.right.scores) beside)))
