-- What is known of the set operator of a query: its list, and the asks that it makes of its sides.
use Rattle.std.proofs.Common.{◌≡◌, ◌∙◌, ℕ, zero, suc, List, [], ◌∷◌, map, refl, sym, ap}
use Rattle.rs_order.specs.Asks.{bar_after}
use Rattle.rs_order.specs.Schedule.{JoinSide}
use Rattle.rs_rank.specs.Weights.{IsWeights}
use Rattle.rs_rank.specs.declared.key.Key.{Key}
use Rattle.rs_rank.specs.declared.row.RankRow.{RankRow}
use Rattle.rs_rank.specs.SetTurns.{set_schedule}
use Rattle.rs_expr.specs.Scoring.{Answering}
use Rattle.rs_catalog.specs.Catalog.{CatalogDef}
use Rattle.rs_outputs.specs.Rows.{OutputRow}
use Rattle.rs_query.specs.Blocks.{block_in}
use Rattle.rs_query.specs.Tables.{all_entries}
use Rattle.rs_query.specs.Views.{View}
use Rattle.rs_query.specs.WellFormed.{IsQuery}
use Rattle.rs_query.specs.declared.query.Query.{Query}
use Rattle.rs_query.specs.declared.query.Query.TheVariants.{One, Set}
use Rattle.rs_setop.specs.Sides.{AreSides as AreSideRows, answers, keys_of as row_keys, row_key, schedule_of}
use Rattle.rs_plan.specs.Asks.{bar_of, child_asks, keys_of}
use Rattle.rs_plan.specs.Lists.{World, key_under, list_of, weights_in}
use Rattle.rs_plan.specs.Trees.{SetOperator, PlanTree, entries, terms}
use Rattle.rs_exec.specs.OutputValues.{output_row, outputs_in}
use Rattle.rs_exec.specs.Parts.{AreSides}
use Rattle.rs_exec.specs.SetNodes.{operator_of, sides_for}
use Rattle.rs_exec.specs.Sides.{of_side}
use Rattle.rs_exec.proofs.RankFacts.{bar_after-map}
use Rattle.rs_exec.specs.Asked.{IsBoundedWorld}
use Rattle.rs_exec.proofs.SetListFacts.{set-list, set-sides}
use Rattle.rs_exec.proofs.SideFacts.{on-both}

-- the keys of rows with their output values
keys-same : (w : World) (mask : ℕ) (rows : List RankRow) → map (λ (row : OutputRow). key_under w mask row.row) (map (output_row w) rows) ≡ map (key_under w mask) rows
keys-same w mask [] = refl
keys-same w mask (row ∷ rows) = ap (λ (rest : List Key). key_under w mask row ∷ rest) (keys-same w mask rows)

-- what is known of the set operator of a query
pub record SetFacts (w : World) (left right : PlanTree) : Type 0 where
  pub sides : AreSideRows (sides_for w left) (outputs_in w 1 left) (outputs_in w 2 right)
  pub list : outputs_in w 1 (SetOperator left right) ≡ answers (sides_for w left) (operator_of w.query) (outputs_in w 1 left) (outputs_in w 2 right)
  pub asks : (n : ℕ) → child_asks w 1 (SetOperator left right) n ≡ schedule_of (sides_for w left) (operator_of w.query) (outputs_in w 1 left) (outputs_in w 2 right) n
  pub all : (side : JoinSide) → entries (of_side left right side) ≡ all_entries (block_in w.query (of_side 1 2 side))

-- a query that sees this many rows
abbrev pub seen : CatalogDef → Answering → View → Query → World
seen catalogue answer view query = record { catalogue = catalogue; answer = answer; query = query; view = view }

pub set-facts : (catalogue : CatalogDef) (answer : Answering) (view : View) (query : Query) (number : ℕ) (left right : PlanTree) → IsQuery catalogue query → IsBoundedWorld (seen catalogue answer view query)
    → IsWeights (weights_in (seen catalogue answer view query))
    → AreSides catalogue query number left right → SetFacts (seen catalogue answer view query) left right
set-facts catalogue answer view (One block limit) number left right formed bounded weights parts = absurd parts
set-facts catalogue answer view (Set o l r limit) number left right formed bounded weights parts =
    let w = seen catalogue answer view (Set o l r limit) in
    let s = sides_for w left in
    let list = set-list catalogue answer view o l r limit left right formed bounded weights parts.1 parts.2 parts.3 in
    record {
      sides = set-sides catalogue answer view o l r limit left right formed bounded weights parts.1 parts.2 parts.3;
      list = list;
      asks = asks list;
      all = on-both (λ side. entries (of_side left right side) ≡ all_entries (block_in (Set o l r limit) (of_side 1 2 side))) parts.1.all parts.2.all;
    }
  where
    asks : outputs_in (seen catalogue answer view (Set o l r limit)) 1 (SetOperator left right)
        ≡ answers (sides_for (seen catalogue answer view (Set o l r limit)) left) o (outputs_in (seen catalogue answer view (Set o l r limit)) 1 left) (outputs_in (seen catalogue answer view (Set o l r limit)) 2 right)
        → (n : ℕ) → child_asks (seen catalogue answer view (Set o l r limit)) 1 (SetOperator left right) n
        ≡ schedule_of (sides_for (seen catalogue answer view (Set o l r limit)) left) o (outputs_in (seen catalogue answer view (Set o l r limit)) 1 left) (outputs_in (seen catalogue answer view (Set o l r limit)) 2 right) n
    asks list zero = refl
    asks list (suc n) =
        let w = seen catalogue answer view (Set o l r limit) in
        let s = sides_for w left in
        let bar = bar_of w 1 (SetOperator left right) n in
        ap (λ (keys : List Key). set_schedule o keys (keys_of w 2 right) bar) (sym (keys-same w (terms left) (list_of w 1 left)))
        ∙ ap (λ (keys : List Key). set_schedule o (row_keys s (outputs_in w 1 left)) keys bar)
        (ap (λ m. map (key_under w m) (list_of w 2 right)) (sym parts.3) ∙ sym (keys-same w (terms left) (list_of w 2 right)))
        ∙ ap (set_schedule o (row_keys s (outputs_in w 1 left)) (row_keys s (outputs_in w 2 right)))
        (ap (λ (keys : List Key). bar_after (λ (k : Key). k) keys n) (sym (keys-same w (terms left) (list_of w 1 (SetOperator left right))))
        ∙ bar_after-map (row_key s) (outputs_in w 1 (SetOperator left right)) n
        ∙ ap (λ (rows : List OutputRow). bar_after (row_key s) rows n) list)
