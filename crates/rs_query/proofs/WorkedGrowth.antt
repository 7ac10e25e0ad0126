-- Tables that grow, worked by hand.
use Rattle.std.proofs.Common.{ℕ, pos, ◌≡◌, true, false, List, [], ◌∷◌, refl, ap, arith}
use Rattle.std.specs.Prelude.{None, Option, Some, codes, option_and_then}
use Rattle.rs_value.specs.declared.kind.Kind.TheVariants as kind
use Rattle.rs_value.specs.declared.rel.Rel.TheVariants.{Lt}
use Rattle.rs_value.specs.declared.value.Value.{Value}
use Rattle.rs_value.specs.declared.value.Value.TheVariants.{Int}
use Rattle.rs_table.specs.Relation.{Relation, cell_at}
use Rattle.rs_expr.specs.Formulas.{Argument, Numbers}
use Rattle.rs_catalog.specs.Catalog.{CatalogDef}
use Rattle.rs_query.specs.Combinations.{all_combinations, combinations, satisfies}
use Rattle.rs_query.specs.Fresh.{fresh_combinations}
use Rattle.rs_query.specs.Growth.{HasRowsOf, IsSizes}
use Rattle.rs_query.specs.Meaning.{column_value}
use Rattle.rs_query.specs.Tables.{sizes_of}
use Rattle.rs_query.specs.declared.block.Block.{Block}

-- a table of one column of numbers
abbrev numbers : List ℕ → Relation
numbers ns = record { schema = (codes "x", kind.Int) ∷ []; rows = rows ns } where
  rows : List ℕ → List (List Value)
  rows [] = []
  rows (n ∷ ns) = (Int (pos n) ∷ []) ∷ rows ns

-- a catalogue of it
abbrev of_numbers : List ℕ → CatalogDef
of_numbers ns = record { tables = record { name = codes "t"; table = numbers ns } ∷ []; predicates = []; indexes = [] }

abbrev old : CatalogDef
old = of_numbers (5 ∷ 7 ∷ [])

abbrev new : CatalogDef
new = of_numbers (5 ∷ 7 ∷ 6 ∷ [])

-- one row more behind the others
old-grows : HasRowsOf new 0 (numbers (5 ∷ 7 ∷ []))
old-grows = record { more = (Int (pos 6) ∷ []) ∷ []; there = refl }

-- the number in a row of a table
abbrev cell : ℕ → Option Relation → Option Value
cell row found = option_and_then (λ (table : Relation). cell_at table row 0) found

-- neither one in front of them, nor another one in place of one, nor one less
in_front : HasRowsOf (of_numbers (6 ∷ 5 ∷ 7 ∷ [])) 0 (numbers (5 ∷ 7 ∷ [])) → ⊥
in_front has = let first : Some (Int (pos 6)) ≡ Some (Int (pos 5)) = ap (cell 1) has.there in cc

in_place : HasRowsOf (of_numbers (5 ∷ 6 ∷ [])) 0 (numbers (5 ∷ 7 ∷ [])) → ⊥
in_place has = let second : Some (Int (pos 6)) ≡ Some (Int (pos 7)) = ap (cell 2) has.there in cc

one_less : HasRowsOf (of_numbers (5 ∷ [])) 0 (numbers (5 ∷ 7 ∷ [])) → ⊥
one_less has = let second : None ≡ Some (Int (pos 7)) = ap (cell 2) has.there in cc

-- SELECT a.x, b.x FROM t a, t b WHERE a.x < b.x
abbrev block : Block
block = record {
  from = (0, codes "a") ∷ (0, codes "b") ∷ [];
  conjuncts = record { condition = Numbers Lt (Argument 0) (Argument 1); columns = (1, 0) ∷ (2, 0) ∷ []; entries = 3; equality = None } ∷ [];
  items = (1, 0) ∷ (2, 0) ∷ [];
  terms = [];
  distinct = false;
}

abbrev pair : ℕ → ℕ → List ℕ
pair a b = a ∷ b ∷ 0 ∷ 0 ∷ 0 ∷ 0 ∷ []

-- of two rows there is one combination, and of three rows there are three
combinations-old : all_combinations old block ≡ pair 1 2 ∷ []
combinations-old = refl

combinations-new : all_combinations new block ≡ pair 1 2 ∷ pair 1 3 ∷ pair 3 2 ∷ []
combinations-new = refl

-- under the view of before there is still the one, and the others have a new row
combinations-kept : combinations new block (sizes_of old block) 3 ≡ pair 1 2 ∷ []
combinations-kept = refl

combinations-fresh : fresh_combinations new block (sizes_of old block) (sizes_of new block) ≡ pair 1 3 ∷ pair 3 2 ∷ []
combinations-fresh = refl

-- a row that wasn't there has another value once it is, so the laws speak of rows that were there
value-before : column_value old block (pair 3 0) (1, 0) ≡ Int (pos 0)
value-before = refl

value-behind : column_value new block (pair 3 0) (1, 0) ≡ Int (pos 6)
value-behind = refl

condition-before : satisfies old block 3 (pair 3 2) ≡ true
condition-before = refl

condition-other : satisfies old block 3 (pair 1 3) ≡ false
condition-other = refl

condition-behind : satisfies new block 3 (pair 1 3) ≡ true
condition-behind = refl

-- numbers of rows that the tables don't have are none of theirs
sizes-greater : IsSizes old block (3 ∷ 2 ∷ 0 ∷ 0 ∷ 0 ∷ 0 ∷ []) → ⊥
sizes-greater is = let first = is.each 1 (omega arith) (omega arith) in absurd (omega arith)
