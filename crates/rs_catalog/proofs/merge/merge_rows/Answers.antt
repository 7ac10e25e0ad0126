-- From the last one on, each other row is put behind the rows that have its score at least.
use Rattle.std.proofs.Common.{◌≡◌, ◌∙◌, ◌+◌, ◌-◌, ◌≤◌, ◌++◌, List, true, false, suc, nat_le, arith, append-nil, get_or, length, length-append, set, take, subst, sym, ap, of_calls, rules}
use Rattle.std.specs.List.{copy_within}
use Rattle.std.specs.List.Sorted.{IsPartitionPoint}
use Rattle.std.proofs.lemmas.Fn.{always_returns_same}
use Rattle.std.proofs.lemmas.List.{drop_all, length-take-le, take_all, take_at}
use Rattle.rs_rank.specs.Stable.{put_all, stable}
use Rattle.rs_rank.specs.declared.scored_row.ScoredRow.{ScoredRow}
use Rattle.rs_rank.proofs.StableFacts.{Falls}
use Rattle.rs_catalog.proofs.MergeFacts.{Falls-fixed, IsMerging, IsMerging-step, IsPartitionedBy-falls, appended-ok, stable-behind}
use Rattle.rs_catalog.proofs.RankingFacts.{score}
use Rattle.rs_catalog.proofs.merge.merge_rows.Goals as goal

pub loop-left-init : goal.loop-left-init
loop-left-init c =
    let rows = c.args.rows.now.items in
    let others = c.args.others.now in
    let size : c.len-end.result ≡ length rows = omega (arith, c.len-end.ensures, c.args.rows.now.ok.0) in
    let all : c.extend_from_slice.new.self.items ≡ rows ++ others =
    c.extend_from_slice.ensures.items ∙ appended-ok c.extend_from_slice.result (rows ++ others) rows (c.extend_from_slice.ensures.succeeds (omega (arith, c.args.rows.now.ok.0))) in
    let is : IsMerging score (stable score (rows ++ others)) others (rows ++ others) (length rows) (length others) = record {
      falls = subst (Falls score) (sym (take_at rows others (length rows) (λ i. length rows))) (Falls-fixed score rows c.requires.rows);
      same = stable-behind score rows others c.requires.rows
          ∙ ap (λ (first : List ScoredRow). put_all score first others) (sym (take_at rows others (length rows) (λ i. length rows)))
          ∙ ap (put_all score (take (length rows) (rows ++ others))) (sym (take_all (length others) others (omega arith)))
          ∙ sym (append-nil (put_all score (take (length rows) (rows ++ others)) (take (length others) others)))
          ∙ ap (λ (last : List ScoredRow). put_all score (take (length rows) (rows ++ others)) (take (length others) others) ++ last)
          (sym (drop_all (length rows + length others) (rows ++ others) (omega (arith, length-append rows others))));
      within = omega (arith, length-append rows others);
      few = omega arith;
    } in
    subst (λ n. IsMerging score (stable score (rows ++ others)) others c.extend_from_slice.new.self.items n (length others)) (sym size)
    (subst (λ (list : List ScoredRow). IsMerging score (stable score (rows ++ others)) others list (length rows) (length others)) (sym all) is)

pub loop-left-preserved : goal.loop-left-preserved
loop-left-preserved c =
    let others = c.args.others.now in
    let rows = c.loop-left.rows.items in
    let end = c.loop-left.end in
    let left = c.loop-left.left - 1 in
    let place = c.partition_point-place.result in
    let other : ScoredRow = get_or others left (record { score = 0; row = 0 }) in
    let is = c.loop-left.invariant in
    let within = is.within in
    let falls = is.falls in
    let more : c.loop-left.left ≡ suc left = omega arith in
    let first : take end c.deref.result.now ≡ take end rows = ap (take end) c.deref.ensures.value in
    let point : IsPartitionPoint (λ (row : ScoredRow). nat_le other.score row.score ≡ true) (λ (row : ScoredRow). nat_le other.score row.score ≡ false) (take end rows) place =
    subst (λ (list : List ScoredRow). IsPartitionPoint (λ (row : ScoredRow). nat_le other.score row.score ≡ true) (λ (row : ScoredRow). nat_le other.score row.score ≡ false) list place) first
    (c.partition_point-place.ensures.partitioned (λ (row : ScoredRow). nat_le other.score row.score) (always_returns_same _ _ _ (λ a r f k. search (rules, of_calls)))
    (IsPartitionedBy-falls score other.score (take end c.deref.result.now) (subst (Falls score) (sym first) falls))) in
    let before : place ≤ end = omega (arith, c.partition_point-place.ensures.bound, ap length first, length-take-le end rows (omega arith)) in
    IsMerging-step score (stable score (c.args.rows.now.items ++ others)) others rows _ end c.loop-left.left left place (record { score = 0; row = 0 })
    (Falls-fixed score others c.requires.others) is more before point
    (ap (λ (list : List ScoredRow). set list (place + c.loop-left.left - 1) other) c.copy_within.ensures.items
    ∙ ap (λ n. set (copy_within rows place end (place + c.loop-left.left)) n other) (let e : place + c.loop-left.left - 1 ≡ place + left = omega arith in e))
