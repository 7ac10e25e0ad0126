-- Which rows of two sides of a join match.
use Rattle.std.specs.Prelude.{ℕ, ◌≤◌, ◌-◌, ◌/◌, ◌%◌, ◌==◌, ◌&&◌, Bool, true, false, not, nat_le, List, [], ◌∷◌, bit_or, if◌then◌else◌}
use Rattle.std.specs.List.{list_all}
use Rattle.rs_rank.specs.declared.row.RankRow.{RankRow}
use Rattle.rs_rank.specs.Ids.{merge_rows}
use Rattle.rs_catalog.specs.Catalog.{CatalogDef}
use Rattle.rs_query.specs.declared.block.Block.{Block}
use Rattle.rs_query.specs.Conjuncts.{ConjunctDef}
use Rattle.rs_query.specs.Meaning.{conjunct_holds, is_inside, conjuncts_within}
use Rattle.rs_query.specs.Tables.{sizes_of}

-- whether a number is 0 outside, and inside that of one of this many rows, counted from 1
abbrev pub is_row_number : Bool → ℕ → ℕ → Bool
is_row_number true size row = row == 0
is_row_number false size row = nat_le 1 row && nat_le row size

-- whether there is a row number for each entry in a mask, where the entries have this many rows, and 0 at the others
abbrev pub is_choice : ℕ → List ℕ → List ℕ → Bool
is_choice mask [] [] = true
is_choice mask [] (row ∷ rows) = false
is_choice mask (size ∷ sizes) [] = false
is_choice mask (size ∷ sizes) (row ∷ rows) = is_row_number (mask % 2 == 0) size row && is_choice (mask / 2) sizes rows

-- whether a row has the entries in a mask, each with a row of its table
abbrev pub is_side : CatalogDef → Block → ℕ → RankRow → Bool
is_side catalogue block mask row = (row.ids.mask == mask) && is_choice mask (sizes_of catalogue block) row.ids.rows

-- whether a conjunct speaks of both sides: all its entries are in the two masks together, and in neither alone
abbrev pub is_across : ℕ → ℕ → ConjunctDef → Bool
is_across left right conjunct =
    is_inside conjunct.entries (bit_or left right) && (not (is_inside conjunct.entries left) && not (is_inside conjunct.entries right))

-- whether a conjunct holds, where it speaks of both sides
abbrev pub holds_across : CatalogDef → Block → ℕ → ℕ → List ℕ → ConjunctDef → Bool
holds_across catalogue block left right rows conjunct = if is_across left right conjunct then conjunct_holds catalogue block rows conjunct else true

-- whether every conjunct holds that speaks of both sides
abbrev pub satisfies_across : CatalogDef → Block → ℕ → ℕ → List ℕ → Bool
satisfies_across catalogue block left right rows = list_all (holds_across catalogue block left right rows) block.conjuncts

-- whether two rows match: each is one of its side, and every conjunct that speaks of both sides holds of them together
abbrev pub joins : CatalogDef → Block → ℕ → ℕ → RankRow → RankRow → Bool
joins catalogue block left right l r =
    is_side catalogue block left l && (is_side catalogue block right r && satisfies_across catalogue block left right (merge_rows l.ids.rows r.ids.rows))

-- what matches the rows of two sides: of which block, the masks of the sides, and how many calls were made
pub record Matching : Type 0 where
  pub catalogue : CatalogDef
  pub block : Block
  pub left : ℕ
  pub right : ℕ
  pub calls : ℕ

abbrev pub new_matching : CatalogDef → Block → ℕ → ℕ → Matching
new_matching catalogue block left right = record { catalogue = catalogue; block = block; left = left; right = right; calls = 0 }

-- the mask of the conjuncts that speak of both sides: those of both together, without those of one side
abbrev pub conjuncts_across : ℕ → ℕ → List ConjunctDef → ℕ
conjuncts_across left right conjuncts = conjuncts_within (bit_or left right) conjuncts - bit_or (conjuncts_within left conjuncts) (conjuncts_within right conjuncts)

-- a view gives each entry a number of rows, at most those of its table
abbrev pub IsView : List ℕ → List ℕ → Type 0
IsView [] [] = Unit {0}
IsView [] (most ∷ all) = ⊥
IsView (size ∷ sizes) [] = ⊥
IsView (size ∷ sizes) (most ∷ all) = (size ≤ most) × IsView sizes all
