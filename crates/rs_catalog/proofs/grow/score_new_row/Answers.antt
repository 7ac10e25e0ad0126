-- The call is the one request, whether it is answered or fails.
use Rattle.std.proofs.Common.{ℕ, ℤ, ◌≡◌, ◌∙◌, ap, sym, subst, rules, Ok, Err, if◌then◌else◌}
use Rattle.std.specs.Int.{w128}
use Rattle.std.proofs.lemmas.Int.{to_z-of_z}
use Rattle.std.specs.Prelude.{option_map, Result}
use Rattle.rs_expr.specs.InOrder.{Inquires, Request}
use Rattle.rs_expr.specs.Scores.{as_score, is_score}
use Rattle.rs_expr.specs.Scoring.{call_of, calls_after}
use Rattle.rs_expr.specs.declared.scorer.ScorerFault.TheVariants.{Failed}
use Rattle.rs_expr.proofs.InOrderFacts.{Inquires-failed, Inquires-one, one}
use Rattle.rs_rank.specs.declared.scored_row.ScoredRow.{ScoredRow}
use Rattle.rs_catalog.specs.Indexes.{args_in}
use Rattle.rs_catalog.specs.declared.growth.GrowFault.{GrowFault}
use Rattle.rs_catalog.specs.declared.growth.GrowFault.TheVariants.{BadScore, Memory, Probe}
use Rattle.rs_catalog.proofs.grow.score_new_row.Goals as goal

-- a row with a number as its score, where it is one
abbrev outcome : ℕ → ℕ → ℕ → ℤ → Result ScoredRow GrowFault
outcome index row max got = if is_score max got then Ok (record { score = as_score got; row = row }) else Err (BadScore index row got max)

pub returns-in-Ok : goal.returns-in-Ok
returns-in-Ok g c =
    let predicate = c.args.predicate.now in
    let old = g.S.Scorer.state c.args.scorer.now in
    let new = g.S.Scorer.state c.score.new.self in
    let values : c.deref-2.result.now ≡ args_in c.args.args.now c.args.values.now =
    c.deref-2.ensures.value ∙ c.in_ok-given.ensures.values ∙ ap (args_in c.args.args.now) (c.deref.ensures.value ∙ c.items.ensures) in
    let call = call_of predicate (args_in c.args.args.now c.args.values.now) in
    let request : Request GrowFault = record { call = call; failed = Probe c.args.index } in
    let got = old.answer predicate (args_in c.args.args.now c.args.values.now) in
    let says = c.in-Ok.ensures in
    let answers : c.in-Ok.got ≡ got = says.answers ∙ ap (old.answer predicate) values in
    let result_is : c.new_score.result ≡ outcome c.args.index c.args.row predicate.max got =
    c.new_score.ensures
    ∙ ap (outcome c.args.index c.args.row c.max.result) (to_z-of_z w128 c.in-Ok.got (search rules))
    ∙ ap (λ max. outcome c.args.index c.args.row max c.in-Ok.got) c.max.ensures.value ∙ ap (outcome c.args.index c.args.row predicate.max) answers in
    subst (λ result. Inquires Memory (one request (outcome c.args.index c.args.row predicate.max got)) result old new) (sym result_is)
    (Inquires-one Memory request (outcome c.args.index c.args.row predicate.max got) c.in-Ok.got old new (record {
      same = says.same;
      told = subst (λ args. new.outside.told ≡ option_map (calls_after (call_of predicate args) (Ok c.in-Ok.got)) old.outside.told) values says.told;
      calls = says.calls;
      counts = says.counts;
    }))

pub returns-in-Err-Failed : goal.returns-in-Err-Failed
returns-in-Err-Failed g c =
    let predicate = c.args.predicate.now in
    let old = g.S.Scorer.state c.args.scorer.now in
    let new = g.S.Scorer.state c.score.new.self in
    let values : c.deref-2.result.now ≡ args_in c.args.args.now c.args.values.now =
    c.deref-2.ensures.value ∙ c.in_ok-given.ensures.values ∙ ap (args_in c.args.args.now) (c.deref.ensures.value ∙ c.items.ensures) in
    let request : Request GrowFault = record { call = call_of predicate (args_in c.args.args.now c.args.values.now); failed = Probe c.args.index } in
    let got = old.answer predicate (args_in c.args.args.now c.args.values.now) in
    let says = rw c.in-Err-Failed.field-0-is at c.in-Err-Failed.ensures in
    Inquires-failed Memory request (outcome c.args.index c.args.row predicate.max got) old new (record {
      same = says.same;
      told = subst (λ args. new.outside.told ≡ option_map (calls_after (call_of predicate args) (Err Failed)) old.outside.told) values says.told;
      calls = says.calls;
      counts = says.counts;
    })
