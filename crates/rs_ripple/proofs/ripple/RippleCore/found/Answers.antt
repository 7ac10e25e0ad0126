-- No held pair has the new key, and the pair's sum is put in with it.
use Rattle.std.proofs.Common.{◌≡◌, List, sym, ◌∙◌, ap}
use Rattle.rs_order.specs.Sorting.{put}
use Rattle.rs_queue.specs.Queue.{has_key}
use Rattle.rs_queue.proofs.ItemFacts.{has_key-items}
use Rattle.rs_rank.specs.declared.key.Key.{Key}
use Rattle.rs_rank.specs.declared.row.RankRow.{RankRow}
use Rattle.rs_rank.specs.Keys.{key_cmp}
use Rattle.rs_rank.specs.Rows.{rows_of_sums}
use Rattle.rs_rank.proofs.SumFacts.{put-sums, row_with}
use Rattle.rs_ripple.specs.Ripple.{Ripple, full_key}
use Rattle.rs_ripple.proofs.ripple.RippleCore.found.Goals as goal

abbrev pair_key : Key × RankRow → Key
pair_key pair = pair.0

pub push-requires : goal.push-requires
push-requires c =
    let now = c.args.self.now in
    let key = c.full_key-key.result in
    sym (has_key-items key_cmp row_with key c.self.inside.held)
    ∙ ap (λ (ripple : Ripple). has_key key_cmp key ripple.held) c.self.view_is
    ∙ ap (λ (key : Key). has_key key_cmp key now.held) c.full_key-key.ensures
    ∙ c.requires.absent

pub returns-in-Ok-clause-ok : goal.returns-in-Ok-clause-ok
returns-in-Ok-clause-ok c =
    let now = c.args.self.now in
    let key = c.full_key-key.result in
    let row = c.args.row in
    let held : rows_of_sums c.push.new.self ≡ put key_cmp pair_key (full_key now row, row) now.held =
    ap rows_of_sums c.in-Ok.ensures.ok
    ∙ put-sums key row c.self.inside.held (ap (λ (key : Key). key.ids) c.full_key-key.ensures)
    ∙ ap (λ (ripple : Ripple). put key_cmp pair_key (key, row) ripple.held) c.self.view_is
    ∙ ap (λ (key : Key). put key_cmp pair_key (key, row) now.held) c.full_key-key.ensures in
    ap (λ (ripple : Ripple). record ripple { held = rows_of_sums c.push.new.self }) c.self.view_is
    ∙ ap (λ (held : List (Key × RankRow)). record now { held = held }) held
