-- The order in which a set operator asks its two sides, over the finished lists of the keys of their rows.
use Rattle.std.specs.Prelude.{ℕ, zero, suc, ◌-◌, max, nat_le, List, [], ◌∷◌, ◌++◌, length, Option}
use Rattle.std.specs.List.{filter}
use Rattle.rs_order.specs.Asks.{asks_for}
use Rattle.rs_order.specs.Schedule.{Left, Right, SideAsk, asks_from, schedule}
use Rattle.rs_rank.specs.declared.key.Key.{Key}
use Rattle.rs_rank.specs.Keys.{key_cmp}
use Rattle.rs_value.specs.declared.set_op.SetOp.{SetOp}
use Rattle.rs_value.specs.declared.set_op.SetOp.TheVariants.{Except, Intersect, Union, UnionAll}

-- how often the right side is asked for a left row, where a row of it has values that the right side may have: one time more than
-- there are right rows whose bound is at least its own
abbrev pub wanted_for : List Key → Key → ℕ
wanted_for rights left = suc (length (filter (λ (right : Key). nat_le left.bound right.bound) rights))

-- each left ask, and behind it the right asks that its row wants and that haven't come yet; the ask that finds the end wants none
abbrev pub one_by_one : List Key → List Key → ℕ → ℕ → ℕ → List SideAsk
one_by_one rights lefts n asked zero = []
one_by_one rights [] n asked (suc count) = record { side = Left; number = n } ∷ []
one_by_one rights (left ∷ lefts) n asked (suc count) =
    record { side = Left; number = n }
    ∷ asks_from Right (suc asked) (wanted_for rights left - asked)
    ++ one_by_one rights lefts (suc n) (max asked (wanted_for rights left)) count

-- the asks of a set operator up to a bar: a union asks its sides in the order of their keys; INTERSECT and EXCEPT ask
-- the left side, and behind each row of it the right one up to the first row whose bound is less
abbrev pub set_schedule : SetOp → List Key → List Key → Option Key → List SideAsk
set_schedule UnionAll lefts rights bar = schedule key_cmp lefts rights bar
set_schedule Union lefts rights bar = schedule key_cmp lefts rights bar
set_schedule Intersect lefts rights bar = one_by_one rights lefts 1 0 (asks_for key_cmp (λ key. key) lefts bar)
set_schedule Except lefts rights bar = one_by_one rights lefts 1 0 (asks_for key_cmp (λ key. key) lefts bar)
