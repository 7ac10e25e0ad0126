-- How often a node of a plan asks its children, and in which order, after a number of asks of its own. Nothing is said here of
-- how it finds that out: all is said over the finished lists.
use Rattle.std.specs.Prelude.{ℕ, zero, suc, List, [], map, Option}
use Rattle.rs_order.specs.Asks.{asks_for, bar_after}
use Rattle.rs_order.specs.Schedule.{Left, SideAsk, asks_from}
use Rattle.rs_rank.specs.Keys.{key_cmp}
use Rattle.rs_rank.specs.Merging.{merge_key}
use Rattle.rs_rank.specs.SetTurns.{set_schedule}
use Rattle.rs_rank.specs.Turns.{join_schedule}
use Rattle.rs_rank.specs.declared.key.Key.{Key}
use Rattle.rs_query.specs.declared.query.Query.{Query}
use Rattle.rs_query.specs.declared.query.Query.TheVariants.{One, Set}
use Rattle.rs_plan.specs.Lists.{World, key_under, list_of, weights_in}
use Rattle.rs_plan.specs.Trees.{Distinct, JoinOperator, Rank, RankScan, SeqScan, SetOperator, PlanTree, terms}

-- the keys of a node's list
abbrev pub keys_of : World → ℕ → PlanTree → List Key
keys_of w number tree = map (key_under w (terms tree)) (list_of w number tree)

-- the key of answer n + 1 of a node; it lies beyond all keys where there are fewer
abbrev pub bar_of : World → ℕ → PlanTree → ℕ → Option Key
bar_of w number tree n = bar_after (λ key. key) (keys_of w number tree) n

-- one ask more than there are rows whose key comes before the bar
abbrev pub asks_alone : List Key → Option Key → List SideAsk
asks_alone keys bar = asks_from Left 1 (asks_for key_cmp (λ key. key) keys bar)

-- those of the operator of a query; a query of one block has none
abbrev pub query_schedule : Query → List Key → List Key → Option Key → List SideAsk
query_schedule (One block limit) lefts rights bar = []
query_schedule (Set op left right limit) lefts rights bar = set_schedule op lefts rights bar

-- the asks of a node's children up to a bar, in order; an only child is the left one
abbrev pub asks_upto : World → ℕ → PlanTree → Option Key → List SideAsk
asks_upto w number (SeqScan entry) bar = []
asks_upto w number (RankScan entry term index) bar = []
asks_upto w number (Rank term child) bar = asks_alone (keys_of w number child) bar
asks_upto w number (Distinct child) bar = asks_alone (keys_of w number child) bar
asks_upto w number (JoinOperator kind left right) bar =
    join_schedule key_cmp (merge_key (weights_in w) (terms left) (terms right)) (keys_of w number left) (keys_of w number right) bar
asks_upto w number (SetOperator left right) bar = query_schedule w.query (keys_of w 1 left) (keys_of w 2 right) bar

-- the asks of a node's children after a number of asks of its own
abbrev pub child_asks : World → ℕ → PlanTree → ℕ → List SideAsk
child_asks w number tree zero = []
child_asks w number tree (suc n) = asks_upto w number tree (bar_of w number tree n)
