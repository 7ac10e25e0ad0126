-- The join values of rows of two sides: what the equalities between a column of the one and a column of the other compare. Rows that
-- match have equal ones.
use Rattle.std.specs.Prelude.{ℕ, ◌==◌, ◌&&◌, ◌||◌, Bool, not, List, [], ◌∷◌, length, map, Option, Some, None, if◌then◌else◌}
use Rattle.std.specs.List.{flat_map, list_all}
use Rattle.rs_value.specs.declared.value.Value.{Value}
use Rattle.rs_value.specs.declared.value.Value.TheVariants as value
use Rattle.rs_rank.specs.Masks.{has_number}
use Rattle.rs_expr.specs.Formulas.{Condition, Texts}
use Rattle.rs_expr.specs.Meaning.{argument_number, argument_text}
use Rattle.rs_catalog.specs.Catalog.{CatalogDef}
use Rattle.rs_query.specs.Conjuncts.{ConjunctDef}
use Rattle.rs_query.specs.Meaning.{column_value}
use Rattle.rs_query.specs.declared.block.Block.{Block}
use Rattle.rs_filter.specs.declared.conditions.JoinConditions.{JoinConditions}
use Rattle.rs_filter.specs.declared.join_values.Side.{Side}
use Rattle.rs_filter.specs.declared.join_values.Side.TheVariants.{Left, Right}
use Rattle.rs_filter.specs.Matching.{is_across}

-- what a comparison looks at of a value: the text of one of texts, the number of one of numbers. A value of the kind of its column
-- is that itself
abbrev pub compared : Condition → Value → Value
compared (Texts rel a b) v = value.Text (argument_text (Some v))
compared condition v = value.Int (argument_number (Some v))

-- two equated columns, that of the left side first, where each side has one of them
abbrev pub in_sides : ℕ → ℕ → Option ((ℕ × ℕ) × (ℕ × ℕ)) → List ((ℕ × ℕ) × (ℕ × ℕ))
in_sides left right None = []
in_sides left right (Some pair) =
    if has_number left pair.0.0 && has_number right pair.1.0 then pair ∷ []
    else (if has_number right pair.0.0 && has_number left pair.1.0 then (pair.1, pair.0) ∷ [] else [])

-- the columns that a conjunct equates, where it speaks of both sides
abbrev pub equated_across : ℕ → ℕ → ConjunctDef → List ((ℕ × ℕ) × (ℕ × ℕ))
equated_across left right conjunct = if is_across left right conjunct then in_sides left right conjunct.equality else []

-- whether each conjunct that speaks of both sides equates a column of the one with a column of the other
abbrev pub is_equi : ℕ → ℕ → List ConjunctDef → Bool
is_equi left right conjuncts =
    list_all (λ (conjunct : ConjunctDef). not (is_across left right conjunct) || (length (equated_across left right conjunct) == 1)) conjuncts

-- the join values of a left row and of a right one, in the order of the conjuncts
abbrev pub left_values : CatalogDef → Block → ℕ → ℕ → List ℕ → List Value
left_values catalogue block left right rows =
    flat_map (λ (conjunct : ConjunctDef).
    map (λ (pair : (ℕ × ℕ) × (ℕ × ℕ)). compared conjunct.condition (column_value catalogue block rows pair.0)) (equated_across left right conjunct)) block.conjuncts

abbrev pub right_values : CatalogDef → Block → ℕ → ℕ → List ℕ → List Value
right_values catalogue block left right rows =
    flat_map (λ (conjunct : ConjunctDef).
    map (λ (pair : (ℕ × ℕ) × (ℕ × ℕ)). compared conjunct.condition (column_value catalogue block rows pair.1)) (equated_across left right conjunct)) block.conjuncts

-- the same by the side: the column that it has of two, the mask of its entries, and the join values of its rows
abbrev pub own_column : Side → (ℕ × ℕ) × (ℕ × ℕ) → ℕ × ℕ
own_column Left pair = pair.0
own_column Right pair = pair.1

abbrev pub own_mask : Side → JoinConditions → ℕ
own_mask Left conditions = conditions.left
own_mask Right conditions = conditions.right

abbrev pub side_values : Side → CatalogDef → Block → ℕ → ℕ → List ℕ → List Value
side_values Left = left_values
side_values Right = right_values
