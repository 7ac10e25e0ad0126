-- What holds of some rows depends on the rows of the entries alone whose columns it reads.
use Rattle.std.proofs.Common.{ℕ, ◌≡◌, ◌∙◌, ◌-◌, ◌≤◌, true, List, [], ◌∷◌, map, pos, refl, sym, ap, ap₂, subst, inl, inr, bit_and, arith}
use Rattle.std.specs.Prelude.{option_and_then, unwrap_or}
use Rattle.std.specs.Int.{bit_at}
use Rattle.std.specs.List.{AllByRecursion}
use Rattle.std.proofs.lemmas.Bool.{eqb-true, eq-eqb}
use Rattle.std.proofs.lemmas.Nat.Bits.{bit_at-lt, bit_at-pow_same, bit_at_and, bit_at_or}
use Rattle.rs_order.specs.Climbing.{In}
use Rattle.rs_order.proofs.ClimbingFacts.{AllByRecursion-In}
use Rattle.rs_value.specs.declared.kind.Kind.{Kind}
use Rattle.rs_value.specs.declared.value.Value.TheVariants as value
use Rattle.rs_table.specs.Relation.{Relation, cell_at}
use Rattle.rs_rank.specs.Masks.{has_number, mask_of}
use Rattle.rs_expr.specs.Meaning.{holds}
use Rattle.rs_catalog.specs.Catalog.{CatalogDef}
use Rattle.rs_catalog.specs.declared.index.BoundArg.{BoundArg}
use Rattle.rs_catalog.specs.declared.index.BoundArg.TheVariants as arg
use Rattle.rs_query.specs.declared.block.Block.{Block}
use Rattle.rs_query.specs.declared.term.Term.{Term}
use Rattle.rs_query.specs.Choices.{AgreeOn}
use Rattle.rs_query.specs.Conjuncts.{ConjunctDef}
use Rattle.rs_query.specs.Meaning.{argument_value, argument_values, column_value, conjunct_holds, is_inside, outputs_of}
use Rattle.rs_query.specs.Tables.{entry_table}
use Rattle.rs_query.specs.WellFormed.{AreArgs, IsBlock, IsColumn, IsConjunct, IsTerm, argument_columns, entries_mask}

-- functions that agree on each item
pub map-same : {X Y : Type 0} (f g : X → Y) (xs : List X) → ((x : X) → In x xs → f x ≡ g x) → map f xs ≡ map g xs
map-same f g [] same = refl
map-same f g (x ∷ xs) same = ap₂ (λ y ys. y ∷ ys) (same x (inl refl)) (map-same f g xs (λ z h. same z (inr h)))

-- the entry of a column is one of those of its columns
entries_mask-has : (column : ℕ × ℕ) (columns : List (ℕ × ℕ)) → In column columns → bit_at (entries_mask columns) (column.0 - 1) ≡ 1
entries_mask-has column [] h = absurd h
entries_mask-has column (first ∷ columns) h =
    let both = bit_at_or (mask_of first.0) (entries_mask columns) (column.0 - 1) in
    elim h [
      | inl e ↦
          let same : bit_at (mask_of first.0) (column.0 - 1) ≡ 1 = ap (λ (c : ℕ × ℕ). bit_at (mask_of c.0) (column.0 - 1)) (sym e) ∙ bit_at-pow_same (column.0 - 1) in
          let small = bit_at-lt (entries_mask columns) (column.0 - 1) in
          omega arith
      | inr behind ↦
          let same = entries_mask-has column columns behind in
          let small = bit_at-lt (mask_of first.0) (column.0 - 1) in
          omega arith
    ]

-- an entry inside a mask
pub inside-has : (entries mask entry : ℕ) → is_inside entries mask ≡ true → bit_at entries (entry - 1) ≡ 1 → has_number mask entry ≡ true
inside-has entries mask entry inside has =
    let same : bit_and entries mask ≡ entries = eqb-true (bit_and entries mask) entries inside in
    let both = bit_at_and entries mask (entry - 1) in
    let at = ap (λ n. bit_at n (entry - 1)) same in
    let small = bit_at-lt mask (entry - 1) in
    let one : bit_at mask (entry - 1) ≡ 1 = omega arith in
    eq-eqb (bit_at mask (entry - 1)) 1 one

-- each column of some that are inside a mask
pub columns-have : (columns : List (ℕ × ℕ)) (mask : ℕ) → is_inside (entries_mask columns) mask ≡ true → (column : ℕ × ℕ) → In column columns → has_number mask column.0 ≡ true
columns-have columns mask inside column h = inside-has (entries_mask columns) mask column.0 inside (entries_mask-has column columns h)

module _ (catalogue : CatalogDef) (block : Block) (mask : ℕ) (xs ys : List ℕ) (agree : AgreeOn mask xs ys) where
  -- the value of a column
  pub column_value-local : (column : ℕ × ℕ) → 1 ≤ column.0 → has_number mask column.0 ≡ true → column_value catalogue block xs column ≡ column_value catalogue block ys column
  column_value-local column some has =
      ap (λ (row : ℕ). unwrap_or (option_and_then (λ (table : Relation). cell_at table row column.1) (entry_table catalogue block column.0)) (value.Int (pos 0)))
      (agree column.0 some has)

  -- the values of columns
  pub cells-local : (columns : List (ℕ × ℕ)) → AllByRecursion (IsColumn catalogue block) columns → is_inside (entries_mask columns) mask ≡ true
      → map (column_value catalogue block xs) columns ≡ map (column_value catalogue block ys) columns
  cells-local columns are inside =
      map-same (column_value catalogue block xs) (column_value catalogue block ys) columns
      (λ column h. column_value-local column (AllByRecursion-In (IsColumn catalogue block) columns are column h).0 (columns-have columns mask inside column h))

  -- a conjunct
  pub conjunct_holds-local : (conjunct : ConjunctDef) → IsConjunct catalogue block conjunct → is_inside conjunct.entries mask ≡ true
      → conjunct_holds catalogue block xs conjunct ≡ conjunct_holds catalogue block ys conjunct
  conjunct_holds-local conjunct is inside =
      ap (holds conjunct.condition) (cells-local conjunct.columns is.columns (subst (λ entries. is_inside entries mask ≡ true) is.entries inside))

  -- the arguments of a term
  arguments-local : (kinds : List Kind) (args : List BoundArg) → AreArgs catalogue block kinds args
      → ((column : ℕ × ℕ) → In column (argument_columns args) → has_number mask column.0 ≡ true)
      → map (argument_value catalogue block xs) args ≡ map (argument_value catalogue block ys) args
  arguments-local [] [] are has = refl
  arguments-local [] (a ∷ args) are has = absurd are
  arguments-local (kind ∷ kinds) [] are has = absurd are
  arguments-local (kind ∷ kinds) (arg.Column entry column ∷ args) are has =
      ap₂ (λ v vs. v ∷ vs) (column_value-local (entry, column) are.0.0.0 (has (entry, column) (inl refl))) (arguments-local kinds args are.1 (λ c h. has c (inr h)))
  arguments-local (kind ∷ kinds) (arg.Int n ∷ args) are has = ap (λ vs. value.Int n ∷ vs) (arguments-local kinds args are.1 has)
  arguments-local (kind ∷ kinds) (arg.Text t ∷ args) are has = ap (λ vs. value.Text t ∷ vs) (arguments-local kinds args are.1 has)

  pub argument_values-local : (term : Term) → IsTerm catalogue block term → is_inside term.entries mask ≡ true → argument_values catalogue block xs term ≡ argument_values catalogue block ys term
  argument_values-local term is inside =
      arguments-local is.predicate.params term.args is.args
      (columns-have (argument_columns term.args) mask (subst (λ entries. is_inside entries mask ≡ true) is.entries inside))

  -- the output columns
  pub outputs_of-local : IsBlock catalogue block → is_inside (entries_mask block.items) mask ≡ true → outputs_of catalogue block xs ≡ outputs_of catalogue block ys
  outputs_of-local is inside = cells-local block.items is.items inside
