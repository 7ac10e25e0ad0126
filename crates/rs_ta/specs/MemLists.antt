-- Lists in memory: what they hold, and what contracts see of them.
use Rattle.std.specs.Prelude.{ℕ, List, map, Option}
use Rattle.std.specs.declared.vec.Vec.{Vec}
use Rattle.std.specs.declared.alloc.Global.{Global}
use Rattle.rs_rank.specs.declared.scored_row.ScoredRow.{ScoredRow}
use Rattle.rs_ta.specs.Lists.{ListsState, count_in}
use Rattle.rs_ta.specs.declared.lists.Lookup.{Lookup}

-- the lists; how many sorted and how many random accesses each had, of at most eight; and the random ones, while there is memory to tell them
pub record MemListsState : Type 0 where
  pub lists : List (List ScoredRow)
  pub sorted : List ℕ
  pub random : List ℕ
  pub told : Option (List Lookup)

-- the entry of a score and a row
abbrev pub entry_of : ℕ × ℕ → ScoredRow
entry_of pair = record { score = pair.0; row = pair.1 }

-- the lists of scores and rows
abbrev pub scored_lists : List (Vec (ℕ × ℕ) Global) → List (List ScoredRow)
scored_lists lists = map (λ list. map entry_of list.items) lists

-- what contracts see of them
abbrev pub lists_state : MemListsState → ListsState
lists_state state = record {
  lists = state.lists;
  sorted_count = count_in state.sorted;
  random_count = count_in state.random;
  told = state.told;
}
