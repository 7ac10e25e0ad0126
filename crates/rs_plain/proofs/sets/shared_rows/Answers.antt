use Rattle.std.proofs.Common.{◌∙◌, ap, rules}
use Rattle.std.proofs.lemmas.Fn.{filter_same}
use Rattle.rs_rank.specs.declared.answer.Answer.{Answer}
use Rattle.rs_query.specs.Answers.{occurs_in}
use Rattle.rs_outputs.specs.Seen.{has_list}
use Rattle.rs_plain.proofs.FirstFacts.{filter-alike, has_list-occurs}
use Rattle.rs_plain.proofs.sets.shared_rows.Goals as goal

pub returns : goal.returns
returns c =
    let outputs = c.in_ok-outputs.outputs.lists in
    filter_same _ (λ (row : Answer). (has_list row.values outputs)) _ (λ x b f' k. search rules) _ _ c.retain.ensures.filtered
    ∙ filter-alike (λ (row : Answer). (has_list row.values outputs)) (λ (row : Answer). (occurs_in c.args.right.now row))
    (λ row. ap (λ b. b) (has_list-occurs outputs c.args.right.now row c.in_ok-outputs.ensures)) c.args.left.items
