-- Where a rank operator stands, of the rows of its input and of the answers that it gives.
use Rattle.std.specs.Prelude.{ℕ, zero, suc, ◌≡◌, ◌≤◌, ◌+◌, ◌-◌, ◌*◌, false, nat_lt, List, length, map, take, drop, bit_or, slice_index}
use Rattle.std.specs.List.{AllByRecursion}
use Rattle.std.specs.Option.{option_map}
use Rattle.rs_order.specs.Asks.{asks_for, bar_after}
use Rattle.rs_order.specs.Climbing.{Climbs}
use Rattle.rs_order.specs.Last.{last_of}
use Rattle.rs_order.specs.Sorting.{sorted}
use Rattle.rs_rank.specs.declared.key.Key.{Key}
use Rattle.rs_rank.specs.declared.row.RankRow.{RankRow}
use Rattle.rs_rank.specs.declared.weights.Weights.{Weights}
use Rattle.rs_rank.specs.Keys.{key_cmp}
use Rattle.rs_rank.specs.Masks.{mask_of}
use Rattle.rs_rank.specs.Rows.{HasSum, HaveOtherIds, key_of}
use Rattle.rs_rank.specs.Weights.{IsWeights}
use Rattle.rs_mu.specs.Mu.{IsNewTerm, Mu}

-- the terms that are evaluated below, the one that is evaluated here, and what it is worth on each row
pub record Evaluation : Type 0 where
  pub weights : Weights
  pub terms : ℕ
  pub term : ℕ
  pub worth : RankRow → ℕ

-- the key of a row of the input, by the terms below
abbrev pub old_key : Evaluation → RankRow → Key
old_key e row = key_of e.weights e.terms row

-- the key of an answer, by all these terms
abbrev pub new_key : Evaluation → RankRow → Key
new_key e row = key_of e.weights (bit_or e.terms (mask_of e.term)) row

-- a row of the input with weight times worth of the term added to its sum
abbrev pub with_worth : Evaluation → RankRow → RankRow
with_worth e row = record row { sum = row.sum + slice_index e.weights.weight (e.term - 1) * e.worth row }

-- the answers of an input, in the order of their keys
abbrev pub answers : Evaluation → List RankRow → List RankRow
answers e rows = sorted key_cmp (new_key e) (map (with_worth e) rows)

-- rows whose keys rise, with sums that the terms below can give, and no worth above the maximum
pub record IsInput (e : Evaluation) (rows : List RankRow) : Type 0 where
  pub weights : IsWeights e.weights
  pub term : IsNewTerm e.terms e.term
  pub rising : Climbs key_cmp (old_key e) rows
  pub sums : AllByRecursion (HasSum e.weights e.terms) rows
  pub limits : AllByRecursion (λ row. e.worth row ≤ slice_index e.weights.max (e.term - 1)) rows
  pub others : HaveOtherIds rows

-- how often the input is asked for this many answers: one more time than it has rows before the key of the last one
abbrev pub asks_of : Evaluation → List RankRow → ℕ → ℕ
asks_of e rows zero = 0
asks_of e rows (suc n) = asks_for key_cmp (old_key e) rows (bar_after (new_key e) (answers e rows) n)

-- what the operator keeps after this many asks of its input and this many answers. The ask behind the last row tells it that
-- no more comes
abbrev pub state_after : Evaluation → List RankRow → ℕ → ℕ → Mu
state_after e rows asks count = record {
  weights = e.weights;
  terms = e.terms;
  term = e.term;
  last = option_map (old_key e) (last_of (take asks rows));
  ended = nat_lt (length rows) asks;
  held = map (λ row. (new_key e row, row)) (drop count (answers e (take asks rows)));
  spent = false;
}

-- the operator keeps this, and has asked as often as its answers take, and not more often than the next one takes
pub record Stands (e : Evaluation) (rows : List RankRow) (asks count : ℕ) (mu : Mu) : Type 0 where
  pub input : IsInput e rows
  pub state : mu ≡ state_after e rows asks count
  pub least : asks_of e rows count ≤ asks
  pub most : asks ≤ asks_of e rows (suc count)
  pub within : count ≤ length rows
