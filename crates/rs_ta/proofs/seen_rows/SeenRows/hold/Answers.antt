-- No row held has the key's ids, and its row is put in where the key is.
use Rattle.std.proofs.Common.{◌≡◌, List, sym, ◌∙◌, ap, subst}
use Rattle.std.specs.Prelude.{⊤, OnOk}
use Rattle.std.specs.List.{AllByRecursion}
use Rattle.rs_order.specs.Sorting.{put}
use Rattle.rs_rank.specs.declared.key.Key.{Key}
use Rattle.rs_rank.specs.declared.row.RankRow.{RankRow}
use Rattle.rs_rank.specs.Ids.{AreOtherIds}
use Rattle.rs_rank.specs.Keys.{key_cmp}
use Rattle.rs_ta.specs.Depths.{row_key}
use Rattle.rs_ta.specs.Rounds.{SeenState, row_of_key, rows_of_keys}
use Rattle.rs_ta.proofs.SeenFacts.{has_key-other, put-rows}
use Rattle.rs_ta.proofs.seen_rows.SeenRows.hold.Goals as goal
use Rattle.rs_ta.proofs.seen_rows.SeenRows.hold.Goals.{in-Ok, in-Err}

pub push-requires : goal.push-requires
push-requires c =
    has_key-other c.args.key c.self.inside.held
    (subst (λ (s : SeenState). AllByRecursion (λ (row : RankRow). AreOtherIds row.ids c.args.key.ids) s.held) (sym c.self.view_is) c.requires)

pub returns : goal.returns
returns c =
    let kept = c.self.inside in
    let now = c.args.self.now in
    let with_rows : List RankRow → SeenState = λ held. record { seen = kept.seen.keys; held = held; rounds = kept.rounds; given = kept.given } in
    elim c.match-push.branch [
      | in-Ok w ↦
          subst (λ r. OnOk r (with_rows (rows_of_keys c.push.new.self) ≡ record now { held = put key_cmp row_key (row_of_key c.args.key) now.held })) (sym w.result-is)
          (ap (λ (pairs : List (Key × ⊤)). with_rows (rows_of_keys pairs)) w.in-Ok.ensures.ok
          ∙ ap with_rows (put-rows c.args.key kept.held)
          ∙ ap (λ (s : SeenState). record s { held = put key_cmp row_key (row_of_key c.args.key) s.held }) c.self.view_is)
      | in-Err w ↦ subst (λ r. OnOk r (with_rows (rows_of_keys c.push.new.self) ≡ record now { held = put key_cmp row_key (row_of_key c.args.key) now.held })) (sym w.result-is) tt
    ]
