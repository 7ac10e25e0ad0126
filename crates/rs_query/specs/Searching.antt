-- How combinations are found: entry by entry, along the equalities of the conditions.
use Rattle.std.specs.Prelude.{ℕ, ◌≡◌, ◌⊎◌, ◌↔◌, ◌≤◌, ◌<◌, ◌-◌, ◌++◌, Bool, true, false, pos, List, [], ◌∷◌, length, bit_or, map, Option, Some, None, IfSome, unwrap_or, option_and_then}
use Rattle.std.specs.Cmp.Lexicographic.{slice_cmp}
use Rattle.std.specs.List.{AllByRecursion, IsDistinct}
use Rattle.std.specs.Ordering.{eq_by_cmp, nat_cmp}
use Rattle.rs_value.specs.Value.{kind_of}
use Rattle.rs_value.specs.declared.kind.Kind.{Kind}
use Rattle.rs_value.specs.declared.value.Value.{Value}
use Rattle.rs_value.specs.declared.value.Value.TheVariants as value
use Rattle.rs_order.specs.Climbing.{In}
use Rattle.rs_rank.specs.Masks.{has_number, mask_of}
use Rattle.rs_table.specs.Relation.{Relation, cell_at}
use Rattle.rs_catalog.specs.Catalog.{CatalogDef}
use Rattle.rs_query.specs.Choices.{AgreeOn, IsChoice}
use Rattle.rs_query.specs.Combinations.{satisfies}
use Rattle.rs_query.specs.Conjuncts.{ConjunctDef}
use Rattle.rs_query.specs.EqualRows.{AreSameRows}
use Rattle.rs_query.specs.Meaning.{conjuncts_within}
use Rattle.rs_query.specs.Tables.{all_entries, entry_table, row_number, size_of, sizes_of}
use Rattle.rs_query.specs.WellFormed.{IsColumn, column_kind}
use Rattle.rs_query.specs.declared.block.Block.{Block}
use Rattle.rs_query.specs.declared.equal_rows.EqualRows.{EqualRows}
use Rattle.rs_query.specs.declared.listed.Listed.{Listed}
use Rattle.rs_query.specs.declared.step.Step.{Step}
use Rattle.rs_query.specs.declared.tie.Tie.{Tie}

-- the cell of a column in the row of this number
abbrev pub cell_of : CatalogDef → Block → ℕ × ℕ → ℕ → Value
cell_of catalogue block column row =
    unwrap_or (option_and_then (λ (table : Relation). cell_at table row column.1) (entry_table catalogue block column.0)) (value.Int (pos 0))

-- the cells of a column are of its kind
abbrev pub HasKinds : CatalogDef → Block → ℕ × ℕ → Type 0
HasKinds catalogue block column =
    (kind : Kind) (row : ℕ) → column_kind catalogue block column ≡ Some kind → 1 ≤ row → row ≤ size_of catalogue block column.0 → kind_of (cell_of catalogue block column row) ≡ kind

-- the cells of a row in the first columns of some pairs, and in the second ones
abbrev pub left_cells : CatalogDef → Block → List ((ℕ × ℕ) × (ℕ × ℕ)) → ℕ → List Value
left_cells catalogue block columns row = map (λ (pair : (ℕ × ℕ) × (ℕ × ℕ)). cell_of catalogue block pair.0 row) columns

abbrev pub right_cells : CatalogDef → Block → List ((ℕ × ℕ) × (ℕ × ℕ)) → ℕ → List Value
right_cells catalogue block columns row = map (λ (pair : (ℕ × ℕ) × (ℕ × ℕ)). cell_of catalogue block pair.1 row) columns

-- for each row of the one entry the first row of the other one whose cells are equal in all of these columns, and for each row of the other one the next such row
abbrev pub AreEqualRows : CatalogDef → Block → ℕ → ℕ → List ((ℕ × ℕ) × (ℕ × ℕ)) → EqualRows → Type 0
AreEqualRows catalogue block left right columns rows =
    AreSameRows (left_cells catalogue block columns) (right_cells catalogue block columns) (size_of catalogue block left) (size_of catalogue block right) rows.first.items rows.next.items

-- a conjunct equates a column of an entry in a mask, the left one, with a column of this entry
pub record IsEquatedBy (conjunct : ConjunctDef) (mask entry : ℕ) (left right : ℕ × ℕ) : Type 0 where
  pub is_equality : (conjunct.equality ≡ Some (left, right)) ⊎ (conjunct.equality ≡ Some (right, left))
  pub is_chosen : has_number mask left.0 ≡ true
  pub is_next : right.0 ≡ entry

-- a conjunct of the block does
pub record AreEquated (block : Block) (mask entry : ℕ) (left right : ℕ × ℕ) : Type 0 where
  pub conjunct : ConjunctDef
  pub is_in : In conjunct block.conjuncts
  pub is_by : IsEquatedBy conjunct mask entry left right

-- such columns, and their cells are of their kinds
pub record AreTied (catalogue : CatalogDef) (block : Block) (mask entry : ℕ) (left right : ℕ × ℕ) : Type 0 where
  pub left_column : IsColumn catalogue block left
  pub right_column : IsColumn catalogue block right
  pub left_kind : HasKinds catalogue block left
  pub right_kind : HasKinds catalogue block right
  pub equated : AreEquated block mask entry left right

-- more columns of the same two entries, and their rows with equal cells in all of them
pub record AreListed (catalogue : CatalogDef) (block : Block) (left right : ℕ × ℕ) (listed : Listed) : Type 0 where
  pub others : AllByRecursion (λ (pair : (ℕ × ℕ) × (ℕ × ℕ)). AreTied catalogue block (mask_of left.0) right.0 pair.0 pair.1) listed.others.items
  pub rows : AreEqualRows catalogue block left.0 right.0 ((left, right) ∷ listed.others.items) listed.rows

-- columns that are tied, and their rows where these are listed
pub record IsTied (catalogue : CatalogDef) (block : Block) (mask entry : ℕ) (tie : Tie) : Type 0 where
  pub columns : AreTied catalogue block mask entry tie.left tie.right
  pub listed : IfSome tie.listed (AreListed catalogue block tie.left tie.right)

abbrev pub IsTie : CatalogDef → Block → ℕ → ℕ → Option Tie → Type 0
IsTie catalogue block mask entry None = Unit {0}
IsTie catalogue block mask entry (Some tie) = IsTied catalogue block mask entry tie

-- a step to an entry behind those in a mask
pub record IsStep (catalogue : CatalogDef) (block : Block) (mask : ℕ) (step : Step) : Type 0 where
  pub least : 1 ≤ step.entry
  pub most : step.entry ≤ length block.from
  pub is_new : has_number mask step.entry ≡ false
  pub last : step.last ≤ size_of catalogue block step.entry
  pub conditions : step.conditions ≡ conjuncts_within (bit_or mask (mask_of step.entry)) block.conjuncts - conjuncts_within mask block.conjuncts
  pub tie : IsTie catalogue block mask step.entry step.tie
  pub start : (mask ≡ 0) ⊎ (step.above ≡ 0)

-- steps that lead from the entries in one mask to those in another one
abbrev pub AreSteps : CatalogDef → Block → ℕ → ℕ → List Step → Type 0
AreSteps catalogue block mask end [] = mask ≡ end
AreSteps catalogue block mask end (step ∷ steps) = IsStep catalogue block mask step × AreSteps catalogue block (bit_or mask (mask_of step.entry)) end steps

-- the columns beside the first two in which a tie looks for equal cells: only where the rows are listed
abbrev pub other_columns : Option Listed → List ((ℕ × ℕ) × (ℕ × ℕ))
other_columns None = []
other_columns (Some listed) = listed.others.items

abbrev pub tied_columns : Tie → List ((ℕ × ℕ) × (ℕ × ℕ))
tied_columns tie = (tie.left, tie.right) ∷ other_columns tie.listed

-- the row of a step's entry can be this one: its cells are equal to those of the earlier entry, where the step has a tie
abbrev pub Fits : CatalogDef → Block → Option Tie → List ℕ → ℕ → Type 0
Fits catalogue block None rows row = Unit {0}
Fits catalogue block (Some tie) rows row =
    left_cells catalogue block (tied_columns tie) (row_number rows tie.left.0) ≡ right_cells catalogue block (tied_columns tie) row

-- rows are chosen for the entries in a mask, and the conditions hold that speak of these alone
pub record IsBegun (catalogue : CatalogDef) (block : Block) (mask : ℕ) (rows : List ℕ) : Type 0 where
  pub choice : IsChoice mask (sizes_of catalogue block) rows
  pub satisfied : satisfies catalogue block mask rows ≡ true

-- the row of the entry of each step is in the step's range
abbrev pub AreInRange : List Step → List ℕ → Type 0
AreInRange [] rows = Unit {0}
AreInRange (step ∷ steps) rows = (step.above < row_number rows step.entry) × (row_number rows step.entry ≤ step.last) × AreInRange steps rows

-- a combination of all entries
pub record IsCombination (catalogue : CatalogDef) (block : Block) (rows : List ℕ) : Type 0 where
  pub choice : IsChoice (all_entries block) (sizes_of catalogue block) rows
  pub satisfied : satisfies catalogue block (all_entries block) rows ≡ true

-- one that has these rows at the entries in a mask, and goes on in the ranges of some steps
pub record GoesOn (catalogue : CatalogDef) (block : Block) (steps : List Step) (mask : ℕ) (rows longer : List ℕ) : Type 0 where
  pub agrees : AgreeOn mask rows longer
  pub combination : IsCombination catalogue block longer
  pub in_range : AreInRange steps longer

-- lists of row numbers are compared number by number
abbrev pub same_rows : List ℕ → List ℕ → Bool
same_rows = eq_by_cmp (slice_cmp nat_cmp)

-- behind what was found stands each of some combinations once
pub record Adds (is : List ℕ → Type 0) (old new : List (List ℕ)) : Type 0 where
  pub more : List (List ℕ)
  pub behind : new ≡ old ++ more
  pub each : (rows : List ℕ) → In rows more ↔ is rows
  pub once : IsDistinct same_rows more

-- a row of an entry belongs to the part of a search that an entry, the pivot, begins: a new one of the pivot, an old one of an entry before it
pub record IsInPart (old : List ℕ) (pivot entry row : ℕ) : Type 0 where
  pub new : entry ≡ pivot → row_number old entry < row
  pub old_ones : entry < pivot → row ≤ row_number old entry

-- the rows of a step's range are those of the part
abbrev pub IsRanged : CatalogDef → Block → List ℕ → ℕ → Step → Type 0
IsRanged catalogue block old pivot step =
    (row : ℕ) → 1 ≤ row → row ≤ size_of catalogue block step.entry → ((step.above < row) × (row ≤ step.last)) ↔ IsInPart old pivot step.entry row

-- a combination whose first new row is that of this entry
pub record IsNewAt (catalogue : CatalogDef) (block : Block) (old : List ℕ) (pivot : ℕ) (rows : List ℕ) : Type 0 where
  pub combination : IsCombination catalogue block rows
  pub part : (entry : ℕ) → 1 ≤ entry → entry ≤ length block.from → IsInPart old pivot entry (row_number rows entry)

-- the first new row of a combination is that of one of the first entries
pub record IsNewBefore (catalogue : CatalogDef) (block : Block) (old : List ℕ) (bound : ℕ) (rows : List ℕ) : Type 0 where
  pub pivot : ℕ
  pub least : 1 ≤ pivot
  pub most : pivot ≤ bound
  pub new_at : IsNewAt catalogue block old pivot rows
