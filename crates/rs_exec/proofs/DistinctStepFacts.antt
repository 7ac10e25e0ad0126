-- How often an operator that drops duplicates asks its input.
use Rattle.std.proofs.Common.{◌≡◌, ◌∙◌, ℕ, zero, suc, ◌<◌, ◌≤◌, Bool, true, false, List, [], ◌∷◌, length, map, take, refl, sym, ap, inl, inr, arith}
use Rattle.std.proofs.lemmas.Bool.{cases_lt}
use Rattle.std.proofs.lemmas.List.{length-map, take_all}
use Rattle.std.proofs.lemmas.Option.{slice_get-map, slice_get_past, slice_get_within}
use Rattle.std.specs.Prelude.{None, Some, Option, option_map, slice_get}
use Rattle.std.specs.declared.cmp.Ordering.{Ordering}
use Rattle.rs_order.specs.Asks.{asks_for, bar_after, comes_before_bar}
use Rattle.rs_order.specs.Climbing.{Climbs, Precedes}
use Rattle.rs_order.specs.Schedule.{Left, asks_from}
use Rattle.rs_order.proofs.EachFacts.{each-map}
use Rattle.rs_order.proofs.PartFacts.{bar_after-slice_get}
use Rattle.rs_rank.specs.Keys.{key_cmp}
use Rattle.rs_rank.specs.Weights.{IsWeights}
use Rattle.rs_rank.specs.declared.key.Key.{Key}
use Rattle.rs_rank.specs.declared.row.RankRow.{RankRow}
use Rattle.rs_rank.proofs.OrderFacts.{key_cmp-total}
use Rattle.rs_filter.proofs.DistinctLists.{all-asks}
use Rattle.rs_outputs.specs.Rows.{OutputRow, firsts, values_of}
use Rattle.rs_outputs.specs.Seen.{has_list}
use Rattle.rs_outputs.proofs.DistinctFacts.{dropped-asks, firsts-more, firsts-same, given-asks}
use Rattle.rs_query.specs.WellFormed.{IsQuery}
use Rattle.rs_plan.specs.Asks.{bar_of, child_asks, keys_of}
use Rattle.rs_plan.specs.Counts.{asked_of}
use Rattle.rs_plan.specs.Lists.{World, key_under, list_of, numbered_block, weights_in}
use Rattle.rs_plan.specs.Plans.{IsPart}
use Rattle.rs_plan.specs.Trees.{Distinct, PlanTree, terms}
use Rattle.rs_exec.specs.OutputValues.{output_row, outputs_in}
use Rattle.rs_exec.specs.Asked.{HasBoundedWorths}
use Rattle.rs_exec.proofs.DistinctListFacts.{distinct-outputs, output_key}
use Rattle.rs_exec.proofs.ListFacts.{list-climbs}
use Rattle.rs_exec.proofs.RankFacts.{bar_after-map, left-asks, length-filter-map}
use Rattle.rs_exec.proofs.StepFacts.{slice_get-none}

-- what a function makes of a list that rises
pub climbs-map : {X Y K : Type 0} (cmp : K → K → Ordering) (key : Y → K) (f : X → Y) (xs : List X) → Climbs cmp (λ x. key (f x)) xs → Climbs cmp key (map f xs)
climbs-map cmp key f [] climbs = tt
climbs-map cmp key f (x ∷ xs) climbs = (each-map (Precedes cmp key (f x)) f xs climbs.0, climbs-map cmp key f xs climbs.1)

-- the row that is first of its values behind this many first ones
pub record Reached (rows : List OutputRow) (n : ℕ) : Type 0 where
  pub fed : ℕ
  pub row : OutputRow
  pub there : slice_get rows fed ≡ Some row
  pub new : has_list row.values (values_of (take fed rows)) ≡ false
  pub count : length (firsts (take fed rows)) ≡ n

reach : (rows : List OutputRow) (n k : ℕ) → k ≤ length rows → n < length (firsts (take k rows)) → Reached rows n
reach rows n zero within less = absurd (omega arith)
reach rows n (suc k) within less = at (reach rows n k) (slice_get rows k) refl where
  seen : (row : OutputRow) → slice_get rows k ≡ Some row → (k ≤ length rows → n < length (firsts (take k rows)) → Reached rows n)
      → (b : Bool) → has_list row.values (values_of (take k rows)) ≡ b → Reached rows n
  seen row e before true is = let same = firsts-same rows k row e is in before (omega arith) (omega arith)
  seen row e before false is =
      let more = firsts-more rows k row e is in
      elim (cases_lt n (length (firsts (take k rows)))) [
        | inl below ↦ before (omega arith) below
        | inr above ↦ record { fed = k; row = row; there = e; new = is; count = omega arith }
      ]

  at : (k ≤ length rows → n < length (firsts (take k rows)) → Reached rows n) → (found : Option OutputRow) → slice_get rows k ≡ found → Reached rows n
  at before None e = absurd (let past = slice_get-none rows k e in omega arith)
  at before (Some row) e = seen row e before (has_list row.values (values_of (take k rows))) refl

pub reached : (rows : List OutputRow) (n : ℕ) → n < length (firsts rows) → Reached rows n
reached rows n less =
    let all : length (firsts (take (length rows) rows)) ≡ length (firsts rows) = ap (λ xs. length (firsts xs)) (take_all (length rows) rows (omega arith)) in
    reach rows n (length rows) (omega arith) (omega arith)

module _ (w : World) (number : ℕ) (child : PlanTree) where
  abbrev key : OutputRow → Key
  key = output_key w (terms child)

  abbrev rows : List OutputRow
  rows = outputs_in w number child

  -- rows with their output values have their keys
  keys-outputs : (all : List RankRow) → map (output_key w (terms child)) (map (output_row w) all) ≡ map (key_under w (terms child)) all
  keys-outputs [] = refl
  keys-outputs (row ∷ all) = ap (λ (rest : List Key). key_under w (terms child) row ∷ rest) (keys-outputs all)

  pub outputs-climb : Climbs key_cmp (output_key w (terms child)) (outputs_in w number child)
  outputs-climb = climbs-map key_cmp key (output_row w) (list_of w number child) (list-climbs w number child)

  pub outputs-length : length (outputs_in w number child) ≡ length (list_of w number child)
  outputs-length = length-map (list_of w number child) (output_row w)

  -- its asks are those of an only child
  pub distinct-child_asks : (a : ℕ) → child_asks w number (Distinct child) a ≡ asks_from Left 1 (asked_of w number (Distinct child) a Left)
  distinct-child_asks zero = refl
  distinct-child_asks (suc n) =
      ap (asks_from Left 1) (sym (left-asks 1 (asks_for key_cmp (λ (k : Key). k) (keys_of w number child) (bar_of w number (Distinct child) n))))

  module _ (formed : IsQuery w.catalogue w.query) (bounded : HasBoundedWorths w number) (part : IsPart w.catalogue (numbered_block w number) (Distinct child)) (weights : IsWeights (weights_in w)) where
    -- how often the input was asked
    pub distinct-asks : (n : ℕ) → asked_of w number (Distinct child) (suc n) Left
        ≡ asks_for key_cmp (output_key w (terms child)) (outputs_in w number child) (bar_after (output_key w (terms child)) (firsts (outputs_in w number child)) n)
    distinct-asks n =
        let bar = bar_of w number (Distinct child) n in
        left-asks 1 (asks_for key_cmp (λ (k : Key). k) (keys_of w number child) bar)
        ∙ ap (λ (keys : List Key). asks_for key_cmp (λ (k : Key). k) keys bar) (sym (keys-outputs (list_of w number child)))
        ∙ ap suc (length-filter-map (comes_before_bar key_cmp bar) key rows)
        ∙ ap (asks_for key_cmp key rows)
        (ap (λ (keys : List Key). bar_after (λ (k : Key). k) keys n) (sym (keys-outputs (list_of w number (Distinct child))))
        ∙ bar_after-map key (outputs_in w number (Distinct child)) n
        ∙ ap (λ (all : List OutputRow). bar_after key all n) (distinct-outputs w number child formed bounded part weights))

    -- as many rows as there are first ones
    pub distinct-length : length (list_of w number (Distinct child)) ≡ length (firsts (outputs_in w number child))
    distinct-length =
        sym (length-map (list_of w number (Distinct child)) (output_row w)) ∙ ap (λ (all : List OutputRow). length all) (distinct-outputs w number child formed bounded part weights)

    -- as far as this many answers take the input gave as many first ones
    pub record Taken (a : ℕ) : Type 0 where
      pub inside : asked_of w number (Distinct child) a Left ≤ length (outputs_in w number child)
      pub count : length (firsts (take (asked_of w number (Distinct child) a Left) (outputs_in w number child))) ≡ a

    pub taken : (a : ℕ) → a ≤ length (list_of w number (Distinct child)) → Taken a
    taken zero few = record { inside = omega arith; count = refl }
    taken (suc n) few =
        let size = distinct-length in
        let found = reached rows n (omega arith) in
        let asks : asked_of w number (Distinct child) (suc n) Left ≡ suc found.fed =
        distinct-asks n ∙ ap (λ count. asks_for key_cmp key rows (bar_after key (firsts rows) count)) (sym found.count)
        ∙ sym (given-asks key_cmp key_cmp-total key rows outputs-climb found.fed found.row found.there found.new) in
        let within = slice_get_within rows found.fed found.row found.there in
        let same = found.count in
        record {
          inside = omega arith;
          count = ap (λ k. length (firsts (take k rows))) asks ∙ firsts-more rows found.fed found.row found.there found.new ∙ ap suc found.count;
        }

    -- a row of its list by the same one with its output values
    pub row-at : (a : ℕ) (row : RankRow) → slice_get (firsts (outputs_in w number child)) a ≡ Some (output_row w row) → Some row ≡ slice_get (list_of w number (Distinct child)) a
    row-at a row there =
        go (slice_get (list_of w number (Distinct child)) a)
        (sym (slice_get-map (output_row w) (list_of w number (Distinct child)) a)
        ∙ ap (λ (all : List OutputRow). slice_get all a) (distinct-outputs w number child formed bounded part weights) ∙ there) where
          go : (found : Option RankRow) → option_map (output_row w) found ≡ Some (output_row w row) → Some row ≡ found
          go None e = absurd (cc)
          go (Some r) e = sym (ap (option_map (λ (o : OutputRow). o.row)) e)

    -- the input is asked no further than the next answer takes
    pub asks-less : (asks a : ℕ) → asks ≤ length (list_of w number child) → length (firsts (take asks (outputs_in w number child))) ≡ a
        → asks < asked_of w number (Distinct child) (suc a) Left
    asks-less asks a inside counted =
        let exact = distinct-asks a ∙ ap (λ count. asks_for key_cmp key rows (bar_after key (firsts rows) count)) (sym counted) in
        at exact (slice_get rows asks) refl where
          at : asked_of w number (Distinct child) (suc a) Left
              ≡ asks_for key_cmp (output_key w (terms child)) (outputs_in w number child) (bar_after (output_key w (terms child)) (firsts (outputs_in w number child)) (length (firsts (take asks (outputs_in w number child)))))
              → (found : Option OutputRow) → slice_get (outputs_in w number child) asks ≡ found → asks < asked_of w number (Distinct child) (suc a) Left
          at exact None e =
              let past = slice_get-none rows asks e in
              let size = outputs-length in
              let all : length (firsts (take asks rows)) ≡ length (firsts rows) = ap (λ (xs : List OutputRow). length (firsts xs)) (take_all asks rows past) in
              let last : asked_of w number (Distinct child) (suc a) Left ≡ suc (length rows) =
              exact ∙ ap (λ count. asks_for key_cmp key rows (bar_after key (firsts rows) count)) all ∙ all-asks key rows in
              omega arith
          at exact (Some row) e = seen (has_list row.values (values_of (take asks rows))) refl where
            seen : (b : Bool) → has_list row.values (values_of (take asks (outputs_in w number child))) ≡ b → asks < asked_of w number (Distinct child) (suc a) Left
            seen true is =
                let more = dropped-asks key_cmp key_cmp-total key rows outputs-climb asks row e (slice_get_within rows asks row e) is in
                omega arith
            seen false is = let one = given-asks key_cmp key_cmp-total key rows outputs-climb asks row e is in omega arith

    -- the more it is asked, the more its input is
    pub distinct-grows : (a : ℕ) → asked_of w number (Distinct child) a Left ≤ asked_of w number (Distinct child) (suc a) Left
    distinct-grows a = elim (cases_lt (length (list_of w number (Distinct child))) a) [
      | inl over ↦ past a over
      | inr within ↦
          let t = taken a within in
          let inside = t.inside in
          let size = outputs-length in
          let less = asks-less (asked_of w number (Distinct child) a Left) a (omega arith) t.count in
          omega arith
    ]
      where
        past : (a : ℕ) → length (list_of w number (Distinct child)) < a → asked_of w number (Distinct child) a Left ≤ asked_of w number (Distinct child) (suc a) Left
        past zero over = absurd (omega arith)
        past (suc n) over =
            let size = distinct-length in
            let none : (m : ℕ) → length (firsts (outputs_in w number child)) ≤ m → bar_after (output_key w (terms child)) (firsts (outputs_in w number child)) m ≡ None =
            λ m few. bar_after-slice_get key (firsts rows) m ∙ ap (option_map key) (slice_get_past (firsts rows) m few) in
            let one = distinct-asks n ∙ ap (asks_for key_cmp key rows) (none n (omega arith)) in
            let two = distinct-asks (suc n) ∙ ap (asks_for key_cmp key rows) (none (suc n) (omega arith)) in
            omega arith
