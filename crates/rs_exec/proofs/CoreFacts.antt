-- The core of a join, whichever way it finds its pairs: it keeps the same rows, those of a hash join with their join values.
use Rattle.std.proofs.Common.{◌≡◌, ◌∙◌, ℕ, Bool, true, List, [], ◌∷◌, refl, sym, ap, subst, subst₂}
use Rattle.std.specs.List.{AllByRecursion}
use Rattle.rs_catalog.specs.Catalog.{CatalogDef}
use Rattle.rs_filter.specs.JoinValues.{is_equi, left_values, right_values}
use Rattle.rs_filter.specs.Matching.{is_side, joins}
use Rattle.rs_filter.specs.declared.conditions.JoinConditions.{JoinConditions}
use Rattle.rs_filter.proofs.EquiFacts.{equal-values-join}
use Rattle.rs_filter.proofs.JoinValueFacts.{equal-values}
use Rattle.rs_hrjn.specs.Drawn.{DrawnRow, rows_of}
use Rattle.rs_hrjn.specs.Hashed.{Hashed, HaveTheirValues, MatchTheirValues}
use Rattle.rs_order.specs.Schedule.{JoinSide, Left, Right}
use Rattle.rs_plan.specs.Trees.{Hash, JoinKind, Nested}
use Rattle.rs_query.specs.WellFormed.{IsBlock}
use Rattle.rs_query.specs.declared.block.Block.{Block}
use Rattle.rs_rank.specs.Masks.{AreDisjoint}
use Rattle.rs_rank.specs.declared.row.RankRow.{RankRow}
use Rattle.rs_ripple.specs.Joined.{Joined}
use Rattle.rs_ripple.specs.Ripple.{Ripple}
use Rattle.rs_value.specs.declared.value.Value.{Value}
use Rattle.rs_exec.specs.Cores.{CanTake, HasValues, core_of, core_with, joined_in, kind_of, with_values}
use Rattle.rs_exec.specs.declared.join_core.JoinCore.{JoinCore}
use Rattle.rs_exec.specs.declared.join_core.JoinCore.TheVariants as core
use Rattle.rs_exec.specs.Sides.{of_side}

-- rows with their join values are these rows
rows-with : (values : List ℕ → List Value) (rows : List RankRow) → rows_of (with_values values rows) ≡ rows
rows-with values [] = refl
rows-with values (row ∷ rows) = ap (λ (rest : List RankRow). row ∷ rest) (rows-with values rows)

-- the rows of a hash join; a nested one has none with join values
abbrev lefts_in : JoinCore → List DrawnRow
lefts_in (core.Nested joined) = []
lefts_in (core.Hash hashed) = hashed.lefts

abbrev rights_in : JoinCore → List DrawnRow
rights_in (core.Nested joined) = []
rights_in (core.Hash hashed) = hashed.rights

-- the state of the join alone
pub joined-with : (core : JoinCore) (ripple : Ripple) → joined_in (core_with core ripple) ≡ record (joined_in core) { ripple = ripple }
joined-with (core.Nested joined) ripple = refl
joined-with (core.Hash hashed) ripple = refl

pub kind-with : (core : JoinCore) (ripple : Ripple) → kind_of (core_with core ripple) ≡ kind_of core
kind-with (core.Nested joined) ripple = refl
kind-with (core.Hash hashed) ripple = refl

module _ (catalogue : CatalogDef) (block : Block) (left right : ℕ) where
  pub joined-of : (kind : JoinKind) (joined : Joined) → joined_in (core_of kind catalogue block left right joined) ≡ joined
  joined-of Nested joined = refl
  joined-of Hash joined = λ i. record {
    ripple = joined.ripple;
    lefts = rows-with (left_values catalogue block left right) joined.lefts i;
    rights = rows-with (right_values catalogue block left right) joined.rights i;
  }

  pub kind-of : (kind : JoinKind) (joined : Joined) → kind_of (core_of kind catalogue block left right joined) ≡ kind
  kind-of Nested joined = refl
  kind-of Hash joined = refl

  -- a core that keeps these rows with their join values has these rows
  pub of-joined : (kind : JoinKind) (core : JoinCore) (joined : Joined) → core ≡ core_of kind catalogue block left right joined → joined_in core ≡ joined
  of-joined kind core joined is = ap joined_in is ∙ joined-of kind joined

  pub of-values : (kind : JoinKind) (core : JoinCore) (joined : Joined) → core ≡ core_of kind catalogue block left right joined → HasValues catalogue block left right core
  of-values kind core joined is =
      is ∙ (λ i. core_of (sym (ap kind_of is ∙ kind-of kind joined) i) catalogue block left right (sym (of-joined kind core joined is) i))

  pub with-values : (core : JoinCore) (ripple : Ripple) → HasValues catalogue block left right core → HasValues catalogue block left right (core_with core ripple)
  with-values (core.Nested joined) ripple has = refl
  with-values (core.Hash hashed) ripple has = λ i. core.Hash (record { ripple = ripple; lefts = lefts_in (has i); rights = rights_in (has i) })

  -- the join values of a side's rows
  abbrev values_of : JoinSide → List ℕ → List Value
  values_of side = of_side (left_values catalogue block left right) (right_values catalogue block left right) side

  -- the rows that a row of a side matches
  abbrev pub matched_by : JoinSide → RankRow → RankRow → Bool
  matched_by Left row = λ other. joins catalogue block left right row other
  matched_by Right row = λ other. joins catalogue block left right other row

  -- the rows drawn of a side are those rows with their join values
  drawn-is : (side : JoinSide) (hashed : Hashed) → HasValues catalogue block left right (core.Hash hashed)
      → of_side hashed.rights hashed.lefts side ≡ with_values (of_side (right_values catalogue block left right) (left_values catalogue block left right) side) (rows_of (of_side hashed.rights hashed.lefts side))
  drawn-is Left hashed has = ap rights_in has
  drawn-is Right hashed has = ap lefts_in has

  module _ (formed : IsBlock catalogue block) (apart : AreDisjoint left right) where
    -- a row that matches one of the other side has its join values
    theirs : (side : JoinSide) (row : RankRow) (rows : List RankRow)
        → HaveTheirValues (matched_by side row) (values_of side row.ids.rows) (with_values (of_side (right_values catalogue block left right) (left_values catalogue block left right) side) rows)
    theirs side row [] = tt
    theirs Left row (other ∷ rows) = (λ match. equal-values catalogue block left right row other formed apart match, theirs Left row rows)
    theirs Right row (other ∷ rows) = (λ match. sym (equal-values catalogue block left right other row formed apart match), theirs Right row rows)

    have-theirs : (side : JoinSide) (row : RankRow) (values : List Value) (hashed : Hashed) → HasValues catalogue block left right (core.Hash hashed)
        → values ≡ of_side (left_values catalogue block left right) (right_values catalogue block left right) side row.ids.rows
        → HaveTheirValues (matched_by side row) values (of_side hashed.rights hashed.lefts side)
    have-theirs side row values hashed has is =
        subst₂ (λ (v : List Value) (drawn : List DrawnRow). HaveTheirValues (matched_by side row) v drawn) (sym is) (sym (drawn-is side hashed has))
        (theirs side row (rows_of (of_side hashed.rights hashed.lefts side)))

    -- where the join values are all that is compared, a row of the other side that has them matches
    module _ (equi : is_equi left right block.conjuncts ≡ true) where
      matching : (side : JoinSide) (row : RankRow) → is_side catalogue block (of_side left right side) row ≡ true
          → (rows : List RankRow) → AllByRecursion (λ (other : RankRow). is_side catalogue block (of_side right left side) other ≡ true) rows
          → MatchTheirValues (matched_by side row) (values_of side row.ids.rows) (with_values (of_side (right_values catalogue block left right) (left_values catalogue block left right) side) rows)
      matching side row own [] others = tt
      matching Left row own (other ∷ rows) others =
          (λ same. equal-values-join catalogue block left right row other formed apart equi own others.0 same, matching Left row own rows others.1)
      matching Right row own (other ∷ rows) others =
          (λ same. equal-values-join catalogue block left right other row formed apart equi others.0 own (sym same), matching Right row own rows others.1)

      match-theirs : (side : JoinSide) (row : RankRow) (values : List Value) (hashed : Hashed) → HasValues catalogue block left right (core.Hash hashed)
          → values ≡ of_side (left_values catalogue block left right) (right_values catalogue block left right) side row.ids.rows
          → is_side catalogue block (of_side left right side) row ≡ true
          → AllByRecursion (λ (other : RankRow). is_side catalogue block (of_side right left side) other ≡ true) (rows_of (of_side hashed.rights hashed.lefts side))
          → MatchTheirValues (matched_by side row) values (of_side hashed.rights hashed.lefts side)
      match-theirs side row values hashed has is own others =
          subst₂ (λ (v : List Value) (drawn : List DrawnRow). MatchTheirValues (matched_by side row) v drawn) (sym is) (sym (drawn-is side hashed has))
          (matching side row own (rows_of (of_side hashed.rights hashed.lefts side)) others)

-- where a hash join can take a row, the rows that match it have its join values; and where these are all that is compared, those that
-- have them match it
module _ {side : JoinSide} {catalogue : CatalogDef} {block : Block} {conditions : JoinConditions} {row : RankRow} {own : JoinCore} (can : CanTake side catalogue block conditions row own)
    (hashed : Hashed) (is : own ≡ core.Hash hashed) (values : List Value)
    (same : values ≡ of_side (left_values catalogue block conditions.left conditions.right) (right_values catalogue block conditions.left conditions.right) side row.ids.rows) where
  has : HasValues catalogue block conditions.left conditions.right (core.Hash hashed)
  has = subst (HasValues catalogue block conditions.left conditions.right) is can.values

  pub take-values : HaveTheirValues (matched_by catalogue block conditions.left conditions.right side row) values (of_side hashed.rights hashed.lefts side)
  take-values = have-theirs catalogue block conditions.left conditions.right can.block_is can.apart side row values hashed has same

  pub take-exact : conditions.exact ≡ true → MatchTheirValues (matched_by catalogue block conditions.left conditions.right side row) values (of_side hashed.rights hashed.lefts side)
  take-exact exact =
      match-theirs catalogue block conditions.left conditions.right can.block_is can.apart (sym (ap (λ (k : JoinConditions). k.exact) can.conditions_are) ∙ exact) side row values hashed has same can.own
      (others side (subst (λ (c : JoinCore). AllByRecursion (λ (other : RankRow). is_side catalogue block (of_side conditions.right conditions.left side) other ≡ true) (of_side (joined_in c).rights (joined_in c).lefts side)) is can.others))
    where
      others : (s : JoinSide) → AllByRecursion (λ (other : RankRow). is_side catalogue block (of_side conditions.right conditions.left s) other ≡ true) (of_side (rows_of hashed.rights) (rows_of hashed.lefts) s)
          → AllByRecursion (λ (other : RankRow). is_side catalogue block (of_side conditions.right conditions.left s) other ≡ true) (rows_of (of_side hashed.rights hashed.lefts s))
      others Left each = each
      others Right each = each
