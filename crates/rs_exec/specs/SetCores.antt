-- The core of a set operator as a node: what it does next, what each call does to it, and where it stands.
use Rattle.std.specs.Prelude.{ℕ, ◌≡◌, Bool, true, false, List, Option}
use Rattle.rs_order.specs.Schedule.{SideAsk}
use Rattle.rs_outputs.specs.Rows.{OutputRow}
use Rattle.rs_rank.specs.declared.ask.JoinAsk.{JoinAsk}
use Rattle.rs_rank.specs.declared.row.RankRow.{RankRow}
use Rattle.rs_rank.specs.declared.weights.Weights.{Weights}
use Rattle.rs_setop.specs.Compared as compared
use Rattle.rs_setop.specs.Heads as heads
use Rattle.rs_setop.specs.Sides.{Sides}
use Rattle.rs_setop.specs.Stands.{ComparedStands, UnionStands}
use Rattle.rs_setop.specs.Union as union
use Rattle.rs_value.specs.declared.set_op.SetOp.{SetOp}
use Rattle.rs_value.specs.declared.set_op.SetOp.TheVariants as op
use Rattle.rs_value.specs.declared.value.Value.{Value}
use Rattle.rs_exec.specs.declared.set_core.SetCore.{SetCore}
use Rattle.rs_exec.specs.declared.set_core.SetCore.TheVariants.{Except, Intersect, Union, UnionAll}

-- no side was asked
abbrev pub new_core : SetOp → Weights → ℕ → SetCore
new_core op.UnionAll weights terms = UnionAll (union.new_union weights terms false)
new_core op.Union weights terms = Union (union.new_union weights terms true)
new_core op.Intersect weights terms = Intersect (compared.new_compared weights terms true)
new_core op.Except weights terms = Except (compared.new_compared weights terms false)

-- the terms that are evaluated on the rows of both sides, and whether memory ran out
abbrev pub weights_of_core : SetCore → Weights
weights_of_core (UnionAll u) = u.weights
weights_of_core (Union u) = u.weights
weights_of_core (Intersect c) = c.weights
weights_of_core (Except c) = c.weights

abbrev pub terms_of_core : SetCore → ℕ
terms_of_core (UnionAll u) = u.terms
terms_of_core (Union u) = u.terms
terms_of_core (Intersect c) = c.terms
terms_of_core (Except c) = c.terms

abbrev pub is_spent : SetCore → Bool
is_spent (UnionAll u) = u.spent
is_spent (Union u) = u.spent
is_spent (Intersect c) = c.spent
is_spent (Except c) = c.spent

-- what it does next
abbrev pub core_ask : SetCore → JoinAsk
core_ask (UnionAll u) = heads.ask_of u.heads
core_ask (Union u) = heads.ask_of u.heads
core_ask (Intersect c) = compared.ask_of c
core_ask (Except c) = compared.ask_of c

-- after one more row of a side, and after its end
abbrev pub left_fed : RankRow → List Value → SetCore → SetCore
left_fed row values (UnionAll u) = UnionAll (union.left_fed row values u)
left_fed row values (Union u) = Union (union.left_fed row values u)
left_fed row values (Intersect c) = Intersect (compared.left_fed row values c)
left_fed row values (Except c) = Except (compared.left_fed row values c)

abbrev pub right_fed : RankRow → List Value → SetCore → SetCore
right_fed row values (UnionAll u) = UnionAll (union.right_fed row values u)
right_fed row values (Union u) = Union (union.right_fed row values u)
right_fed row values (Intersect c) = Intersect (compared.right_fed row values c)
right_fed row values (Except c) = Except (compared.right_fed row values c)

abbrev pub left_ended : SetCore → SetCore
left_ended (UnionAll u) = UnionAll (union.left_ended u)
left_ended (Union u) = Union (union.left_ended u)
left_ended (Intersect c) = Intersect (compared.left_ended c)
left_ended (Except c) = Except (compared.left_ended c)

abbrev pub right_ended : SetCore → SetCore
right_ended (UnionAll u) = UnionAll (union.right_ended u)
right_ended (Union u) = Union (union.right_ended u)
right_ended (Intersect c) = Intersect (compared.right_ended c)
right_ended (Except c) = Except (compared.right_ended c)

-- the row that it gives, if it is ready, and what is left without it
abbrev pub taken_from : SetCore → Option RankRow
taken_from (UnionAll u) = union.taken_for (heads.ask_of u.heads) u
taken_from (Union u) = union.taken_for (heads.ask_of u.heads) u
taken_from (Intersect c) = compared.taken_for (compared.ask_of c) c
taken_from (Except c) = compared.taken_for (compared.ask_of c) c

abbrev pub left_in : SetCore → SetCore
left_in (UnionAll u) = UnionAll (union.left_for (heads.ask_of u.heads) u)
left_in (Union u) = Union (union.left_for (heads.ask_of u.heads) u)
left_in (Intersect c) = Intersect (compared.left_for (compared.ask_of c) c)
left_in (Except c) = Except (compared.left_for (compared.ask_of c) c)

-- it is one of this operator, and stands at these asks and this many answers
abbrev pub CoreStands : Sides → SetOp → List OutputRow → List OutputRow → List SideAsk → ℕ → SetCore → Type 0
CoreStands s o lefts rights made count (UnionAll u) = (o ≡ op.UnionAll) × UnionStands s false lefts rights made count u
CoreStands s o lefts rights made count (Union u) = (o ≡ op.Union) × UnionStands s true lefts rights made count u
CoreStands s o lefts rights made count (Intersect c) = (o ≡ op.Intersect) × ComparedStands s true lefts rights made count c
CoreStands s o lefts rights made count (Except c) = (o ≡ op.Except) × ComparedStands s false lefts rights made count c
