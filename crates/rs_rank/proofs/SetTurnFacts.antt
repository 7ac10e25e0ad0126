-- How often a set operator asks each of its sides: at most once more than the side has rows.
use Rattle.std.proofs.Common.{◌≡◌, ◌∙◌, ℕ, zero, suc, ◌+◌, ◌-◌, ◌≤◌, max, List, [], ◌∷◌, ◌++◌, length, Option, refl, ap, arith}
use Rattle.std.proofs.lemmas.List.{length-append}
use Rattle.std.proofs.lemmas.List.Elements.{filter-append}
use Rattle.std.specs.List.{filter}
use Rattle.std.specs.Prelude.{nat_le}
use Rattle.rs_value.specs.declared.set_op.SetOp.{SetOp}
use Rattle.rs_value.specs.declared.set_op.SetOp.TheVariants as op
use Rattle.rs_order.specs.Asks.{asks_for}
use Rattle.rs_order.specs.Schedule.{JoinSide, Left, Right, SideAsk, asked, asks_from, is_of_side}
use Rattle.rs_order.proofs.ItemFacts.{filter-less}
use Rattle.rs_order.proofs.ReorderFacts.{asks_for-most}
use Rattle.rs_order.proofs.ScheduleFacts.{asked-from, asked_left-most, asked_right-most}
use Rattle.rs_rank.specs.Keys.{key_cmp}
use Rattle.rs_rank.specs.SetTurns.{one_by_one, set_schedule, wanted_for}
use Rattle.rs_rank.specs.declared.key.Key.{Key}

-- asks of the right side are none of the left one
left-from : (n count : ℕ) → asked Left (asks_from Right n count) ≡ 0
left-from n zero = refl
left-from n (suc count) = left-from (suc n) count

pub in-two : (side : JoinSide) (xs ys : List SideAsk) → asked side (xs ++ ys) ≡ asked side xs + asked side ys
in-two side xs ys =
    ap (λ (asks : List SideAsk). length asks) (filter-append (is_of_side side) xs ys) ∙ length-append (filter (is_of_side side) xs) (filter (is_of_side side) ys)

-- INTERSECT and EXCEPT ask the left side this many times
pub left-count : (rights lefts : List Key) (n asks count : ℕ) → count ≤ suc (length lefts) → asked Left (one_by_one rights lefts n asks count) ≡ count
left-count rights lefts n asks zero few = refl
left-count rights [] n asks (suc count) few = omega arith
left-count rights (left ∷ lefts) n asks (suc count) few =
    let behind = one_by_one rights lefts (suc n) (max asks (wanted_for rights left)) count in
    let two = in-two Left (asks_from Right (suc asks) (wanted_for rights left - asks)) behind in
    let none = left-from (suc asks) (wanted_for rights left - asks) in
    let rest = left-count rights lefts (suc n) (max asks (wanted_for rights left)) count (omega arith) in
    omega arith

-- and the right one no more often than it has rows, and for its end
right-count-most : (rights lefts : List Key) (n asks count : ℕ) → asks ≤ suc (length rights) → asks + asked Right (one_by_one rights lefts n asks count) ≤ suc (length rights)
right-count-most rights lefts n asks zero few = omega arith
right-count-most rights [] n asks (suc count) few = omega arith
right-count-most rights (left ∷ lefts) n asks (suc count) few =
    let behind = one_by_one rights lefts (suc n) (max asks (wanted_for rights left)) count in
    let two = in-two Right (asks_from Right (suc asks) (wanted_for rights left - asks)) behind in
    let some = asked-from Right (suc asks) (wanted_for rights left - asks) in
    let kept = filter-less (λ (right : Key). nat_le left.bound right.bound) rights in
    let rest = right-count-most rights lefts (suc n) (max asks (wanted_for rights left)) count (omega arith) in
    omega arith

one_by_one-left : (lefts rights : List Key) (bar : Option Key) → asked Left (one_by_one rights lefts 1 0 (asks_for key_cmp (λ (k : Key). k) lefts bar)) ≤ suc (length lefts)
one_by_one-left lefts rights bar =
    let most = asks_for-most key_cmp (λ (k : Key). k) lefts bar in
    let count = left-count rights lefts 1 0 (asks_for key_cmp (λ (k : Key). k) lefts bar) most in
    omega arith

one_by_one-right : (lefts rights : List Key) (bar : Option Key) → asked Right (one_by_one rights lefts 1 0 (asks_for key_cmp (λ (k : Key). k) lefts bar)) ≤ suc (length rights)
one_by_one-right lefts rights bar =
    let count = right-count-most rights lefts 1 0 (asks_for key_cmp (λ (k : Key). k) lefts bar) (omega arith) in
    omega arith

pub set_left-most : (o : SetOp) (lefts rights : List Key) (bar : Option Key) → asked Left (set_schedule o lefts rights bar) ≤ suc (length lefts)
set_left-most op.UnionAll lefts rights bar = asked_left-most key_cmp bar lefts rights
set_left-most op.Union lefts rights bar = asked_left-most key_cmp bar lefts rights
set_left-most op.Intersect lefts rights bar = one_by_one-left lefts rights bar
set_left-most op.Except lefts rights bar = one_by_one-left lefts rights bar

pub set_right-most : (o : SetOp) (lefts rights : List Key) (bar : Option Key) → asked Right (set_schedule o lefts rights bar) ≤ suc (length rights)
set_right-most op.UnionAll lefts rights bar = asked_right-most key_cmp bar lefts rights
set_right-most op.Union lefts rights bar = asked_right-most key_cmp bar lefts rights
set_right-most op.Intersect lefts rights bar = one_by_one-right lefts rights bar
set_right-most op.Except lefts rights bar = one_by_one-right lefts rights bar
