-- Both lists rise by one key and have the same rows.
use Rattle.rs_exec.proofs.JoinListFacts.{join-list}
use Rattle.rs_exec.proofs.join_laws.joins_give_the_pairs_that_match.Goals as goal

pub returns : goal.returns
returns c = λ w number kind left right formed bounded weights view part.
    join-list w number left right (record { formed = formed; bounded = bounded; weights = weights; view = view; left_part = part.0; right_part = part.1; joined = part.2 }) kind
