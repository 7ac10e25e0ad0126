-- The rows at or before the first new one stay in front, and the others are merged behind them.
use Rattle.std.proofs.Common.{◌≡◌, ◌∙◌, ◌++◌, false, true, List, length, take, drop, sym, ap, ap₂, subst}
use Rattle.std.specs.Prelude.{OnOk, Some, slice_get}
use Rattle.std.specs.List.{AllByRecursion}
use Rattle.std.specs.Option.{option_copied}
use Rattle.std.specs.Ordering.{is_gt}
use Rattle.rs_order.specs.Merging.{merged}
use Rattle.rs_rank.specs.Keys.{key_cmp}
use Rattle.rs_rank.specs.declared.row.RankRow.{RankRow}
use Rattle.rs_view.specs.Keeping.{key_of_row}
use Rattle.rs_view.proofs.MergedFacts.{merged-nothing, merged-one, merged-place}
use Rattle.rs_view.proofs.merge.merge_in.Goals as goal

pub returns-in-None-clause-ok : goal.returns-in-None-clause-ok
returns-in-None-clause-ok c =
    merged-nothing key_cmp key_of_row c.args.rows.now.items c.args.more.items
    (ap (λ more. slice_get more 0) (sym c.deref.ensures.value) ∙ sym c.first.ensures.value ∙ ap option_copied c.in-None.is)

pub returns-then-len-eq1-clause-ok : goal.returns-then-len-eq1-clause-ok
returns-then-len-eq1-clause-ok c =
    let rows = c.args.rows.now.items in
    let more = c.args.more.items in
    let place = c.place_of-place.result in
    let first : slice_get more 0 ≡ Some c.in-Some.first.now = ap (λ list. slice_get list 0) (sym c.deref.ensures.value) ∙ sym c.first.ensures.value ∙ ap option_copied c.in-Some.is in
    let one : length more ≡ 1 = sym c.args.more.ok.0 ∙ sym c.len.ensures ∙ c.if-len-eq1.true in
    let front = subst (λ list. AllByRecursion (λ (row : RankRow). is_gt (key_cmp (key_of_row row) (key_of_row c.in-Some.first.now)) ≡ false) (take place list)) c.deref-in-Some.ensures.value c.place_of-place.ensures.front in
    let behind = subst (λ list. AllByRecursion (λ (row : RankRow). is_gt (key_cmp (key_of_row row) (key_of_row c.in-Some.first.now)) ≡ true) (drop place list)) c.deref-in-Some.ensures.value c.place_of-place.ensures.behind in
    let same : merged key_cmp key_of_row rows more ≡ take place rows ++ (more ++ drop place rows) =
    merged-place key_cmp key_of_row place rows more c.in-Some.first.now first front
    ∙ ap (λ rest. take place rows ++ rest) (merged-one key_cmp key_of_row (drop place rows) more c.in-Some.first.now first one behind) in
    subst (λ list. OnOk c.insert_one.result (c.insert_one.new.rows.items ≡ list)) (sym same) c.insert_one.ensures.ok

pub returns-clause-ok : goal.returns-clause-ok
returns-clause-ok c =
    let rows = c.args.rows.now.items in
    let more = c.args.more.items in
    let place = c.place_of-place.result in
    let first : slice_get more 0 ≡ Some c.in-Some.first.now = ap (λ list. slice_get list 0) (sym c.deref.ensures.value) ∙ sym c.first.ensures.value ∙ ap option_copied c.in-Some.is in
    let front = subst (λ list. AllByRecursion (λ (row : RankRow). is_gt (key_cmp (key_of_row row) (key_of_row c.in-Some.first.now)) ≡ false) (take place list)) c.deref-in-Some.ensures.value c.place_of-place.ensures.front in
    let kept : c.split_off.new.self.items ≡ take place rows = c.in_ok-behind.ensures.items ∙ ap (take place) c.reserve.ensures.items in
    let behind : c.from_vec.result.items ≡ drop place rows = c.from_vec.ensures.items ∙ c.in_ok-behind.ensures.tail ∙ ap (drop place) c.reserve.ensures.items in
    c.push_merged.ensures
    ∙ ap₂ (λ (front rest : List RankRow). front ++ rest) kept (ap₂ (λ (old new : List RankRow). merged key_cmp key_of_row old new) behind c.from_vec-2.ensures.items)
    ∙ sym (merged-place key_cmp key_of_row place rows more c.in-Some.first.now first front)
