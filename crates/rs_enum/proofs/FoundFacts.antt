-- What is found of a block: of each signature first, and then of all entries with duplicates dropped, one mask of terms after another.
use Rattle.std.proofs.Common.{◌≡◌, ◌∙◌, ℕ, ◌+◌, ◌*◌, ◌/◌, ◌%◌, ◌^◌, ◌<◌, ◌≤◌, false, true, List, [], ◌∷◌, ◌++◌, length, refl, sym, ap, subst, arith}
use Rattle.std.specs.Prelude.{Option, Some, None, option_and_then, option_map, slice_get, if◌then◌else◌}
use Rattle.std.proofs.lemmas.List.{length-append}
use Rattle.std.proofs.lemmas.Nat.{div-add-mod', mod_below, mul-add-lt, pow_pos, same_from_place}
use Rattle.std.proofs.Math.Nat.{mul_comm}
use Rattle.std.proofs.lemmas.Option.{none-some, same_Some}
use Rattle.rs_query.specs.Blocks.{block_in}
use Rattle.rs_query.specs.Tables.{all_entries}
use Rattle.rs_query.specs.declared.block.Block.{Block}
use Rattle.rs_query.specs.declared.term.Term.{Term}
use Rattle.rs_sample.specs.Kept.{cards_of}
use Rattle.rs_enum.specs.declared.candidate.Candidate.{Candidate}
use Rattle.rs_enum.specs.declared.extent.Extent.{Extent}
use Rattle.rs_enum.specs.declared.extent.Extent.TheVariants as whole
use Rattle.rs_enum.specs.declared.planning.Planning.{Planning}
use Rattle.rs_enum.specs.declared.row.Row.{Row}
use Rattle.rs_enum.specs.Given.{AreFound, AreTopsIn, AreTopsOf, CanPlan, IsFilledOf, block_at, complete_of, kept_of, top_row}
use Rattle.rs_enum.specs.LeastCosts.{HasBlock, HasCost}
use Rattle.rs_enum.specs.Made.{AreBuilt, IsBuiltOf, kept_plans, made_of, next_plan}
use Rattle.rs_enum.specs.Places.{Placed, candidate_at, kept_at}
use Rattle.rs_enum.specs.Tops.{AreLower, FitsLower, FitsWhole, IsLower, IsMadeTop, IsTheFirstTop, IsTheTop, IsWhole, distinct_base, number_of, whole_cost}
use Rattle.rs_enum.specs.Costs.{cost_in}
use Rattle.rs_enum.proofs.BuildFacts.{built-more, row-built}
use Rattle.rs_enum.proofs.LowerFacts.{least-cost, lower-row, lower-tops}
use Rattle.rs_enum.proofs.MadeFacts.{costs-same, found_cost, kept-length, kept-more, kept_cost}
use Rattle.rs_enum.proofs.PlaceFacts.{front-item, last-item}
use Rattle.rs_enum.proofs.TopFacts.{first-more, first-none, first-same, kept-found, kept-none}

-- what stands at earlier places
pub candidate-front : (count : ℕ) (places : List (Option Candidate)) (found : Option Candidate) (first second : ℕ) → first * 2 ^ count + second < length places
    → candidate_at count (places ++ found ∷ []) first second ≡ candidate_at count places first second
candidate-front count places found first second less =
    ap (λ o. option_and_then (λ (c : Option Candidate). c) o) (front-item places found (first * 2 ^ count + second) less)

pub kept-front : (terms : List Term) (places : List (Option Candidate)) (found : Option Candidate) (first second : ℕ)
    → first * 2 ^ length terms + second < length places
    → kept_at (length terms) (kept_plans terms (places ++ found ∷ [])) first second ≡ kept_at (length terms) (kept_plans terms places) first second
kept-front terms places found first second less =
    let counted = kept-length terms places in
    ap (λ xs. kept_at (length terms) xs first second) (kept-more terms places found)
    ∙ ap (λ o. option_and_then (λ (k : Option Placed). k) o)
    (front-item (kept_plans terms places) (next_plan terms (kept_plans terms places) found) (first * 2 ^ length terms + second) (omega arith))

-- a complete plan costs what was found
pub complete-cost : (planning : Planning) (number : ℕ) (places : List (Option Candidate)) (evaluated : ℕ) (block : Block) (found : Option Candidate)
    → block ≡ block_at planning number → found ≡ candidate_at (length block.terms) places (top_row block) evaluated
    → kept_cost (complete_of planning number places evaluated) ≡ found_cost found
complete-cost planning number places evaluated block found same is =
    costs-same (block_at planning number).terms places (top_row (block_at planning number)) evaluated
    ∙ ap found_cost (sym (is ∙ ap (λ (b : Block). candidate_at (length b.terms) places (top_row b) evaluated) same))

-- what is kept costs what was found, by counts and rows that were worked out
pub cost-found : (planning : Planning) (number : ℕ) (places : List (Option Candidate)) (row first count second : ℕ) (found : Option Candidate)
    → row ≡ first → count ≡ length (block_at planning number).terms → found ≡ candidate_at count places row second
    → kept_cost (kept_of planning number places first second) ≡ found_cost found
cost-found planning number places row first count second found rows counted is =
    costs-same (block_at planning number).terms places first second
    ∙ ap found_cost (sym (is ∙ (λ i. candidate_at (counted i) places (rows i) second)))

-- plans of the row that drop duplicates, as a search above them needs them
pub tops-of-row : (row : Row) (number evaluated : ℕ) → row.extent ≡ whole.Block number → row.entries ≡ 2 ^ length (block_at row.planning number).from
    → AreTopsOf row.planning (whole.Block number) evaluated (kept_of row.planning number row.places.now (2 ^ length (block_at row.planning number).from))
    → AreTopsIn row evaluated (kept_of row.planning number row.places.now (2 ^ length (block_at row.planning number).from))
tops-of-row row number evaluated extent entries tops = record {
  tops = subst (λ (e : Extent). AreTopsOf row.planning e evaluated (kept_of row.planning number row.places.now (2 ^ length (block_at row.planning number).from))) (sym extent) tops;
  costs = λ other less.
      costs-same (block_at row.planning number).terms row.places.now (2 ^ length (block_at row.planning number).from) other
      ∙ (λ i. found_cost (candidate_at (length (block_in row.planning.query.now (number_of (sym extent i))).terms) row.places.now (sym entries i) other));
}

-- the place of a signature that drops no duplicates
pub lower-place : (rows columns first second : ℕ) → first < rows → second < columns → first * columns + second < rows * columns
lower-place rows columns first second row column =
    let within = mul-add-lt first columns second rows row column in
    let turned = mul_comm columns rows in
    omega arith

module _ (planning : Planning) (number : ℕ) where
  abbrev pub HasCosts : List (Option Candidate) → Type 0
  HasCosts places =
      (first second : ℕ) → first < 2 ^ length (block_at planning number).from → second < 2 ^ length (block_at planning number).terms
      → HasCost planning.catalog.now planning.query.now (cards_of planning.cards.now) number first second
      (found_cost (candidate_at (length (block_at planning number).terms) places first second))

  abbrev pub AreLowerOf : List (Option Candidate) → Type 0
  AreLowerOf places =
      AreLower planning.catalog.now planning.query.now (cards_of planning.cards.now) number (2 ^ length (block_at planning number).terms)
      (kept_of planning number places (all_entries (block_at planning number)))

  -- this many places of the row with duplicates dropped are filled
  pub record IsRowFilled (places : List (Option Candidate)) (count : ℕ) : Type 0 where
    pub costs : HasCosts places
    pub lower : AreLowerOf places
    pub tops : AreTopsOf planning (whole.Block number) count (kept_of planning number places (2 ^ length (block_at planning number).from))
    pub built : AreBuilt (block_at planning number).terms places
    pub counted : length places ≡ 2 ^ length (block_at planning number).from * 2 ^ length (block_at planning number).terms + count

module _ (planning : Planning) (can : CanPlan planning) (number : ℕ) where
  module _ (places : List (Option Candidate)) (filled : IsFilledOf planning number places)
      (all : length places ≡ 2 ^ length (block_at planning number).from * 2 ^ length (block_at planning number).terms) where
    costs-found : HasBlock planning.query.now number → HasCosts planning number places
    costs-found block = λ first second row column.
        subst (HasCost planning.catalog.now planning.query.now (cards_of planning.cards.now) number first second)
        (costs-same (block_at planning number).terms places first second)
        (least-cost planning.catalog.now planning.query.now can.query (cards_of planning.cards.now) number
        (kept_plans (block_at planning number).terms places) filled (kept-length (block_at planning number).terms places ∙ all) block first second column)

    pub lower-found : AreLowerOf planning number places
    lower-found =
        lower-row planning.catalog.now planning.query.now can.query (cards_of planning.cards.now) number
        (kept_plans (block_at planning number).terms places) filled (kept-length (block_at planning number).terms places ∙ all)

    -- where duplicates are kept, all is found
    pub found-lower : HasBlock planning.query.now number → AreBuilt (block_at planning number).terms places → (block_at planning number).distinct ≡ false
        → AreFound planning number places
    found-lower block built keeps =
        let row : all_entries (block_at planning number) ≡ top_row (block_at planning number) =
        ap (λ b. (if b then 2 ^ length (block_at planning number).from else all_entries (block_at planning number))) (sym keeps) in
        record {
          costs = costs-found block;
          tops = subst (λ n. AreTopsOf planning (whole.Block number) (2 ^ length (block_at planning number).terms) (kept_of planning number places n)) row
              (lower-tops planning.catalog.now planning.query.now can.query (cards_of planning.cards.now) number (2 ^ length (block_at planning number).terms)
              (kept_of planning number places (all_entries (block_at planning number))) keeps lower-found);
          built = built;
        }

  pub row-none : (places : List (Option Candidate)) → HasBlock planning.query.now number → IsFilledOf planning number places
      → AreBuilt (block_at planning number).terms places
      → length places ≡ 2 ^ length (block_at planning number).from * 2 ^ length (block_at planning number).terms → IsRowFilled planning number places 0
  row-none places block filled built all = record {
    costs = costs-found places filled all block;
    lower = lower-found places filled all;
    tops = first-none (IsWhole planning.catalog.now planning.query.now (whole.Block number))
        (whole_cost planning.catalog.now planning.query.now (cards_of planning.cards.now) (whole.Block number)) (FitsWhole planning.query.now (whole.Block number))
        (kept_of planning number places (2 ^ length (block_at planning number).from));
    built = built;
    counted = all ∙ omega arith;
  }

  pub row-all : (places : List (Option Candidate)) → (block_at planning number).distinct ≡ true
      → IsRowFilled planning number places (2 ^ length (block_at planning number).terms) → AreFound planning number places
  row-all places wanted is =
      let row : 2 ^ length (block_at planning number).from ≡ top_row (block_at planning number) =
      ap (λ b. (if b then 2 ^ length (block_at planning number).from else all_entries (block_at planning number))) (sym wanted) in
      record {
        costs = is.costs;
        tops = subst (λ n. AreTopsOf planning (whole.Block number) (2 ^ length (block_at planning number).terms) (kept_of planning number places n)) row is.tops;
        built = is.built;
      }

  module _ (places : List (Option Candidate)) (count : ℕ) (is : IsRowFilled planning number places count) (within : count < 2 ^ length (block_at planning number).terms)
      (wanted : (block_at planning number).distinct ≡ true) (found : Option Candidate)
      (first : IsTheFirstTop planning.catalog.now planning.query.now (cards_of planning.cards.now) (whole.Block number)
      (distinct_base planning.query.now (cards_of planning.cards.now) number count
      (kept_of planning number places (all_entries (block_at planning number)) count))
      (kept_of planning number places (2 ^ length (block_at planning number).from)) count 10 found) where
    row-place : (e : ℕ) → e < count → 2 ^ length (block_at planning number).from * 2 ^ length (block_at planning number).terms + e < length places
    row-place e less = let counted = is.counted in omega arith

    lower-within : (a b : ℕ) → a < 2 ^ length (block_at planning number).from → b < 2 ^ length (block_at planning number).terms
        → a * 2 ^ length (block_at planning number).terms + b < length places
    lower-within a b row column =
        let counted = is.counted in
        let place = lower-place (2 ^ length (block_at planning number).from) (2 ^ length (block_at planning number).terms) a b row column in
        omega arith

    last-row : all_entries (block_at planning number) < 2 ^ length (block_at planning number).from
    last-row = let some = pow_pos (length (block_at planning number).from) in omega arith

    -- what is kept at the new place
    abbrev new : Candidate → Placed
    new f = record {
      cost = f.cost;
      plan = made_of (block_at planning number).terms (kept_plans (block_at planning number).terms places) (2 ^ length (block_at planning number).from) count f.choice;
    }

    at-new : kept_of planning number (places ++ found ∷ []) (2 ^ length (block_at planning number).from) count ≡ option_map new found
    at-new =
        let terms = (block_at planning number).terms in
        let kept : List (Option Placed) = kept_plans terms places in
        let size : length kept ≡ 2 ^ length (block_at planning number).from * 2 ^ length terms + count = kept-length terms places ∙ is.counted in
        let some : 0 < 2 ^ length terms = pow_pos (length terms) in
        let place = same_from_place (length kept / 2 ^ length terms) (length kept % 2 ^ length terms) (2 ^ length (block_at planning number).from) count (2 ^ length terms)
        (mod_below (length kept) (2 ^ length terms) some) within (div-add-mod' (length kept) (2 ^ length terms) ∙ size) in
        ap (λ xs. kept_at (length terms) xs (2 ^ length (block_at planning number).from) count) (kept-more terms places found)
        ∙ ap (λ n. option_and_then (λ (k : Option Placed). k) (slice_get (kept ++ next_plan terms kept found ∷ []) n)) (sym size)
        ∙ ap (λ o. option_and_then (λ (k : Option Placed). k) o) (last-item kept (next_plan terms kept found))
        ∙ (λ i. option_map (λ (f : Candidate). record { cost = f.cost; plan = made_of terms kept (place.0 i) (place.1 i) f.choice }) found)

    some-row : 1 ≤ 2 ^ length (block_at planning number).from
    some-row = pow_pos (length (block_at planning number).from)

    new-top : IsTheTop planning.catalog.now planning.query.now (cards_of planning.cards.now) (whole.Block number) count (option_map new found)
    new-top = go found first where
      go : (o : Option Candidate)
          → IsTheFirstTop planning.catalog.now planning.query.now (cards_of planning.cards.now) (whole.Block number)
          (distinct_base planning.query.now (cards_of planning.cards.now) number count
          (kept_of planning number places (all_entries (block_at planning number)) count))
          (kept_of planning number places (2 ^ length (block_at planning number).from)) count 10 o
          → IsTheTop planning.catalog.now planning.query.now (cards_of planning.cards.now) (whole.Block number) count (option_map new o)
      go None none =
          kept-none planning.catalog.now planning.query.now can.query (cards_of planning.cards.now) (whole.Block number) wanted
          (distinct_base planning.query.now (cards_of planning.cards.now) number count
          (kept_of planning number places (all_entries (block_at planning number)) count))
          (kept_of planning number places (2 ^ length (block_at planning number).from)) count none
      go (Some f) one =
          let base = distinct_base planning.query.now (cards_of planning.cards.now) number count
          (kept_of planning number places (all_entries (block_at planning number)) count) in
          let tops = kept_of planning number places (2 ^ length (block_at planning number).from) in
          let own = row-built planning.query.now (cards_of planning.cards.now) number (block_at planning number).terms
          (kept_plans (block_at planning number).terms places) (2 ^ length (block_at planning number).from) count some-row f.choice one.tree one.stands.made in
          kept-found planning.catalog.now planning.query.now can.query (cards_of planning.cards.now) (whole.Block number) wanted base tops count
          (new f) f one refl (subst (λ t. IsMadeTop base tops count f.choice t) (sym own.made) one.stands.made)

    new-built : (f : Candidate) → found ≡ Some f
        → IsBuiltOf (block_at planning number).terms (kept_plans (block_at planning number).terms places) (2 ^ length (block_at planning number).from) count f.choice
        (made_of (block_at planning number).terms (kept_plans (block_at planning number).terms places) (2 ^ length (block_at planning number).from) count f.choice)
    new-built f same = go found same first where
      go : (o : Option Candidate) → o ≡ Some f
          → IsTheFirstTop planning.catalog.now planning.query.now (cards_of planning.cards.now) (whole.Block number)
          (distinct_base planning.query.now (cards_of planning.cards.now) number count
          (kept_of planning number places (all_entries (block_at planning number)) count))
          (kept_of planning number places (2 ^ length (block_at planning number).from)) count 10 o
          → IsBuiltOf (block_at planning number).terms (kept_plans (block_at planning number).terms places) (2 ^ length (block_at planning number).from) count f.choice
          (made_of (block_at planning number).terms (kept_plans (block_at planning number).terms places) (2 ^ length (block_at planning number).from) count f.choice)
      go None none one = absurd (none-some f none)
      go (Some g) there one =
          let own = row-built planning.query.now (cards_of planning.cards.now) number (block_at planning number).terms
          (kept_plans (block_at planning number).terms places) (2 ^ length (block_at planning number).from) count some-row g.choice one.tree one.stands.made in
          subst (λ (c : Candidate). IsBuiltOf (block_at planning number).terms (kept_plans (block_at planning number).terms places) (2 ^ length (block_at planning number).from) count c.choice
          (made_of (block_at planning number).terms (kept_plans (block_at planning number).terms places) (2 ^ length (block_at planning number).from) count c.choice))
          (same_Some g f there)
          (subst (IsBuiltOf (block_at planning number).terms (kept_plans (block_at planning number).terms places) (2 ^ length (block_at planning number).from) count g.choice)
          (sym own.made) own.built)

    pub row-next : IsRowFilled planning number (places ++ found ∷ []) (count + 1)
    row-next = record {
      costs = λ a b row column.
          subst (λ o. HasCost planning.catalog.now planning.query.now (cards_of planning.cards.now) number a b (found_cost o))
          (sym (candidate-front (length (block_at planning number).terms) places found a b (lower-within a b row column))) (is.costs a b row column);
      lower = first-same (IsLower planning.catalog.now planning.query.now number)
          (cost_in planning.catalog.now planning.query.now (cards_of planning.cards.now) number) (FitsLower planning.query.now number)
          (2 ^ length (block_at planning number).terms)
          (kept_of planning number places (all_entries (block_at planning number)))
          (kept_of planning number (places ++ found ∷ []) (all_entries (block_at planning number)))
          (λ e less. kept-front (block_at planning number).terms places found (all_entries (block_at planning number)) e
          (lower-within (all_entries (block_at planning number)) e last-row less)) is.lower;
      tops = first-more (IsWhole planning.catalog.now planning.query.now (whole.Block number))
          (whole_cost planning.catalog.now planning.query.now (cards_of planning.cards.now) (whole.Block number)) (FitsWhole planning.query.now (whole.Block number)) count
          (kept_of planning number places (2 ^ length (block_at planning number).from))
          (kept_of planning number (places ++ found ∷ []) (2 ^ length (block_at planning number).from))
          (λ e less. kept-front (block_at planning number).terms places found (2 ^ length (block_at planning number).from) e (row-place e less)) is.tops
          (subst (IsTheTop planning.catalog.now planning.query.now (cards_of planning.cards.now) (whole.Block number) count) (sym at-new) new-top);
      built = built-more (block_at planning number).terms places found (2 ^ length (block_at planning number).from) count within is.counted is.built new-built;
      counted = length-append places (found ∷ []) ∙ (let counted = is.counted in omega arith);
    }
